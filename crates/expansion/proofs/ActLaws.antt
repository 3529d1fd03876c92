-- What an act yields, and the act of a reference.
use Rattle.std.proofs.Common.{◌≡◌, ℕ, ◌-◌, ◌≤◌, true, false, List, [], ◌∷◌, ◌++◌, length, refl, arith}
use Rattle.names.specs.declared.PropertySyntax.{PropertySyntax}
use Rattle.names.specs.declared.PropertySyntax.TheVariants.{Braced, BracedOrBare, DockerCompose}
use Rattle.source.specs.Shapes.{Shape, unset, empty, filled}
use Rattle.references.specs.declared.error.Span.{Span}
use Rattle.references.specs.declared.error.PropertyError.{PropertyError}
use Rattle.references.specs.declared.error.PropertyError.TheVariants.{Unresolved, InvalidName, RequiredButUnset, RequiredButEmpty, ExpansionDepthLimitExceeded, ExpansionWorkLimitExceeded}
use Rattle.references.specs.Operators.{Op, plain, operated, Yield, value, nothing, word, refusal, posix}
use Rattle.items.specs.Pieces.{Piece, lit, val, literal}
use Rattle.items.specs.Items.{Act, keep, replace, select, require, refuse, expands, inner, op_act, plain_act, yield_act}
use Rattle.expansion.specs.Laws.{replaces}
use Rattle.expansion.specs.Segments.{Refers, plain_yield, yields, word_of, Segments, valued, omitted, copied, walked}

-- a refusal that is for no limit, and has no message
abbrev pub Plain : PropertyError → Type 0
Plain (Unresolved name) = Unit {0}
Plain (InvalidName part) = Unit {0}
Plain (RequiredButUnset name len) = ⊥
Plain (RequiredButEmpty name len) = ⊥
Plain (ExpansionDepthLimitExceeded depth limit) = ⊥
Plain (ExpansionWorkLimitExceeded work limit) = ⊥

-- What an act yields in a frame: pieces, its text as it stands, or the pieces of its text.
pub data Yields (sh : List ℕ → Shape) (s : PropertySyntax) : Act → List Piece → Type 0 where
  kept : {b : ℕ} → Yields sh s (keep b) (lit b ∷ [])
  made : {ps : List Piece} → Yields sh s (replace ps) ps
  laid : {at : ℕ} {w : List ℕ} → expands s w ≡ false → Yields sh s (select at w) (literal w)
  nested : {at : ℕ} {w : List ℕ} {ps : List Piece} → expands s w ≡ true → Segments sh (inner s) w ps → Yields sh s (select at w) ps

-- The act of a reference with a name and a word, by what it yields.
pub data Does (name w : List ℕ) : Yield → Act → Type 0 where
  values : Does name w value (replace (val name ∷ []))
  omits : Does name w nothing (replace [])
  selects : (at : ℕ) → Does name w word (select at w)
  requires : (v : Shape) (part : Span) (at : ℕ) → Does name w refusal (require v part at w)
  refuses : (e : PropertyError) → Plain e → Does name w refusal (refuse e)

plain_does : (s : PropertySyntax) (v : Shape) (from : ℕ) (name : List ℕ) → Does name [] (plain_yield s v) (plain_act s v from name)
plain_does Braced unset from name = refuses _ tt
plain_does BracedOrBare unset from name = refuses _ tt
plain_does DockerCompose unset from name = omits
plain_does s empty from name = values
plain_does s filled from name = values

yield_does : (y : Yield) (v : Shape) (from at : ℕ) (name w : List ℕ) → Does name w y (yield_act y v from name at w)
yield_does value v from at name w = values
yield_does nothing v from at name w = omits
yield_does word v from at name w = selects at
yield_does refusal v from at name w = requires _ _ at

pub does : (s : PropertySyntax) (v : Shape) (from at : ℕ) (name : List ℕ) (op : Op) → Does name (word_of op) (yields s op v) (op_act s v from name at op)
does s v from at name plain = plain_does s v from name
does s v from at name (operated o colon w) = yield_does (posix o colon v) v from (at - length w) name w

-- a reference whose act yields pieces is a segment
pub does_segment : {sh : List ℕ → Shape} {s : PropertySyntax} {bs name behind : List ℕ} {op : Op} {y : Yield} {a : Act} {xs ys : List Piece} → Refers s bs name op behind → yields s op (sh name) ≡ y
    → Does name (word_of op) y a → Yields sh s a xs → Segments sh s behind ys → Segments sh s (36 ∷ bs) (xs ++ ys)
does_segment r e values made g = valued r e g
does_segment r e omits made g = omitted r e g
does_segment r e (selects at) (laid f) g = copied r e f g
does_segment r e (selects at) (nested f h) g = walked r e f h g
does_segment r e (requires v part at) y g = elim y [ ]
does_segment r e (refuses x h) y g = elim y [ ]

-- the other way round
module _ {sh : List ℕ → Shape} {s : PropertySyntax} {name w : List ℕ} where
  pub yields_value : {a : Act} → Does name w value a → Yields sh s a (val name ∷ [])
  yields_value values = made

  pub yields_nothing : {a : Act} → Does name w nothing a → Yields sh s a []
  yields_nothing omits = made

  pub yields_laid : {a : Act} → Does name w word a → expands s w ≡ false → Yields sh s a (literal w)
  yields_laid (selects at) f = laid f

  pub yields_nested : {a : Act} {ps : List Piece} → Does name w word a → expands s w ≡ true → Segments sh (inner s) w ps → Yields sh s a ps
  yields_nested (selects at) f g = nested f g

-- the text that an act selects, or that explains a refusal
abbrev pub act_word : Act → List ℕ
act_word (keep b) = []
act_word (replace ps) = []
act_word (select at w) = w
act_word (require sh name at w) = w
act_word (refuse e) = []

-- an act whose refusal, if it is one, is plain
abbrev pub Mild : Act → Type 0
Mild (keep b) = Unit {0}
Mild (replace ps) = Unit {0}
Mild (select at w) = Unit {0}
Mild (require sh name at w) = Unit {0}
Mild (refuse e) = Plain e

module _ {name w : List ℕ} where
  pub does_word : {y : Yield} {a : Act} → Does name w y a → length (act_word a) ≤ length w
  does_word values = omega arith
  does_word omits = omega arith
  does_word (selects at) = omega arith
  does_word (requires v part at) = omega arith
  does_word (refuses e h) = omega arith

  pub does_mild : {y : Yield} {a : Act} → Does name w y a → Mild a
  does_mild values = tt
  does_mild omits = tt
  does_mild (selects at) = tt
  does_mild (requires v part at) = tt
  does_mild (refuses e h) = h

  -- what yields pieces is replaced
  pub does_replaces : {sh : List ℕ → Shape} {s : PropertySyntax} {y : Yield} {a : Act} {xs : List Piece} → Does name w y a → Yields sh s a xs → replaces a ≡ true
  does_replaces values h = refl
  does_replaces omits h = refl
  does_replaces (selects at) h = refl
  does_replaces (requires v part at) h = elim h [ ]
  does_replaces (refuses e g) h = elim h [ ]
