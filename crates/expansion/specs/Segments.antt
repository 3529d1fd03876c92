-- The pieces of a text, by its bytes and the shapes of names. `$` is 36, `{` is 123, `}` is 125.
use Rattle.std.specs.Prelude.{◌≡◌, ℕ, Bool, true, false, List, [], ◌∷◌, ◌++◌, length, Some, None, ◌≢◌}
use Rattle.names.specs.declared.PropertySyntax.{PropertySyntax}
use Rattle.names.specs.declared.PropertySyntax.TheVariants.{Braced, BracedOrBare, DockerCompose}
use Rattle.names.specs.Reads.{name_at}
use Rattle.closes.specs.Closes.{close}
use Rattle.source.specs.Shapes.{Shape, unset, empty, filled}
use Rattle.references.specs.declared.error.PropertyError.{PropertyError}
use Rattle.references.specs.Operators.{Op, plain, operated, op_at, Yield, value, nothing, word, refusal, posix}
use Rattle.items.specs.Pieces.{Piece, lit, val, literal}
use Rattle.items.specs.Items.{allows_bare, expands, inner}
use Rattle.expansion.specs.Walks.{Limits, ended, stopped, walk}
use Rattle.expansion.specs.Laws.{is_limit, Unhindered}

-- A byte that stands for itself, by the bytes behind it: any but `$`; a `$` at the end; a `$` before a brace that is not closed,
-- which DockerCompose refuses; and a `$` before another byte, where no name stands bare.
pub data Itself (s : PropertySyntax) : ℕ → List ℕ → Type 0 where
  other : {b : ℕ} {bs : List ℕ} → (b ≢ 36) → Itself s b bs
  last : Itself s 36 []
  unclosed : {bs : List ℕ} → (s ≢ DockerCompose) → close s bs ≡ None → Itself s 36 (123 ∷ bs)
  nameless : {b : ℕ} {bs : List ℕ} → (b ≢ 36) → (b ≢ 123) → (allows_bare s ≡ true → name_at s (b ∷ bs) ≡ None) → Itself s 36 (b ∷ bs)

-- What begins behind a `$` is a reference: its name, its form, and the bytes behind it. It stands in braces up to their close, or
-- it is a bare name.
pub data Refers (s : PropertySyntax) : List ℕ → (name : List ℕ) → Op → (behind : List ℕ) → Type 0 where
  in_braces : {name behind : List ℕ} {op : Op} (body rest : List ℕ)
      → close s (body ++ 125 ∷ behind) ≡ Some (length body) → name_at s body ≡ Some (name, rest) → op_at rest ≡ Some op
      → Refers s (123 ∷ (body ++ 125 ∷ behind)) name op behind
  bare : {bs name behind : List ℕ} → allows_bare s ≡ true → name_at s bs ≡ Some (name, behind) → Refers s bs name plain behind

-- What a reference without an operator yields: an unset name is refused, save in DockerCompose.
abbrev pub plain_yield : PropertySyntax → Shape → Yield
plain_yield s filled = value
plain_yield s empty = value
plain_yield Braced unset = refusal
plain_yield BracedOrBare unset = refusal
plain_yield DockerCompose unset = nothing

-- what a reference yields by its form and by what its name is
abbrev pub yields : PropertySyntax → Op → Shape → Yield
yields s plain v = plain_yield s v
yields s (operated o colon w) v = posix o colon v

-- the word behind the operator of a reference
abbrev pub word_of : Op → List ℕ
word_of plain = []
word_of (operated o colon w) = w

-- The pieces of a text: none of an empty one; a byte that stands for itself; `$$`, which is `$`; a reference that yields the
-- value of its name, or nothing, or its word, as it stands where it holds nothing to expand, and else the pieces of it.
pub data Segments (sh : List ℕ → Shape) : PropertySyntax → List ℕ → List Piece → Type 0 where
  end : {s : PropertySyntax} → Segments sh s [] []
  itself : {s : PropertySyntax} {b : ℕ} {bs : List ℕ} {ps : List Piece} → Itself s b bs → Segments sh s bs ps → Segments sh s (b ∷ bs) (lit b ∷ ps)
  escaped : {s : PropertySyntax} {bs : List ℕ} {ps : List Piece} → Segments sh s bs ps → Segments sh s (36 ∷ 36 ∷ bs) (lit 36 ∷ ps)
  valued : {s : PropertySyntax} {bs name behind : List ℕ} {op : Op} {ps : List Piece}
      → Refers s bs name op behind → yields s op (sh name) ≡ value → Segments sh s behind ps → Segments sh s (36 ∷ bs) (val name ∷ ps)
  omitted : {s : PropertySyntax} {bs name behind : List ℕ} {op : Op} {ps : List Piece}
      → Refers s bs name op behind → yields s op (sh name) ≡ nothing → Segments sh s behind ps → Segments sh s (36 ∷ bs) ps
  copied : {s : PropertySyntax} {bs name behind : List ℕ} {op : Op} {ps : List Piece}
      → Refers s bs name op behind → yields s op (sh name) ≡ word → expands s (word_of op) ≡ false
      → Segments sh s behind ps → Segments sh s (36 ∷ bs) (literal (word_of op) ++ ps)
  walked : {s : PropertySyntax} {bs name behind : List ℕ} {op : Op} {qs ps : List Piece}
      → Refers s bs name op behind → yields s op (sh name) ≡ word → expands s (word_of op) ≡ true
      → Segments sh (inner s) (word_of op) qs → Segments sh s behind ps → Segments sh s (36 ∷ bs) (qs ++ ps)

-- A walk that ends, under any limits, ends with the pieces of its text.
abbrev pub EndedSegments : Type 0
EndedSegments =
    (sh : List ℕ → Shape) (s : PropertySyntax) (most : Limits) (t u : ℕ) (text : List ℕ) (c : Bool) (ps : List Piece)
    → walk sh s most t text ≡ ended u c ps → Segments sh s text ps

-- A text that has pieces is walked to its end, with these pieces, if no limit stops the walk.
abbrev pub SegmentsEnded : Type 0
SegmentsEnded =
    (sh : List ℕ → Shape) (s : PropertySyntax) (most : Limits) (t : ℕ) (text : List ℕ) (ps : List Piece)
    → Unhindered most text → Segments sh s text ps → (u : ℕ) × (c : Bool) × (walk sh s most t text ≡ ended u c ps)

-- Any other text is refused then, and for no limit.
abbrev pub OthersRefused : Type 0
OthersRefused =
    (sh : List ℕ → Shape) (s : PropertySyntax) (most : Limits) (t : ℕ) (text : List ℕ) → Unhindered most text → ((ps : List Piece) → Segments sh s text ps → ⊥)
    → (u : ℕ) × (e : PropertyError) × (told : List ℕ) × (walk sh s most t text ≡ stopped u e told) × (is_limit e ≡ false)

-- A text has its pieces in one way only.
abbrev pub SegmentsUnique : Type 0
SegmentsUnique = (sh : List ℕ → Shape) (s : PropertySyntax) (text : List ℕ) (ps qs : List Piece) → Segments sh s text ps → Segments sh s text qs → ps ≡ qs

-- each byte stands for itself
abbrev pub Untouched : PropertySyntax → List ℕ → Type 0
Untouched s [] = Unit {0}
Untouched s (b ∷ bs) = Itself s b bs × Untouched s bs

-- A walk that ends leaves its text unchanged exactly where each byte stands for itself, and its pieces are these bytes then.
pub record Unchanged (s : PropertySyntax) (text : List ℕ) (c : Bool) (ps : List Piece) : Type 0 where
  pub same : c ≡ false → Untouched s text × (ps ≡ literal text)
  pub only : Untouched s text → c ≡ false

abbrev pub UnchangedItself : Type 0
UnchangedItself =
    (sh : List ℕ → Shape) (s : PropertySyntax) (most : Limits) (t u : ℕ) (text : List ℕ) (c : Bool) (ps : List Piece)
    → walk sh s most t text ≡ ended u c ps → Unchanged s text c ps
