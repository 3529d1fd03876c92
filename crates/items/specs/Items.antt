-- What stands at a place of a frame. `$` is 36, `{` is 123.
use Rattle.std.specs.Prelude.{ℕ, ◌+◌, ◌-◌, Bool, true, false, cond, ◌&&◌, ◌||◌, List, [], ◌∷◌, length, Some, None, Option, ◌==◌}
use Rattle.names.specs.declared.PropertySyntax.{PropertySyntax}
use Rattle.names.specs.declared.PropertySyntax.TheVariants.{Braced, BracedOrBare, DockerCompose}
use Rattle.names.specs.Reads.{begins_name, name_at, name_looks}
use Rattle.closes.specs.Fronts.{opens}
use Rattle.source.specs.Shapes.{Shape, unset, empty, filled}
use Rattle.references.specs.declared.error.Span.{Span}
use Rattle.references.specs.declared.error.PropertyError.{PropertyError}
use Rattle.references.specs.declared.error.PropertyError.TheVariants.{Unresolved, InvalidName}
use Rattle.references.specs.Operators.{Op, plain, operated, Yield, value, nothing, word, refusal, posix}
use Rattle.references.specs.Braces.{Brace, unclosed, malformed, reference, brace, brace_looks}
use Rattle.items.specs.Pieces.{Piece, lit, val}

-- What is done at a place: the byte stands for itself; it is replaced by pieces; by selected text, which starts at a place of
-- the call's text; a required property, of which only the message is to come; or the text is refused.
pub data Act : Type 0 where
  keep : (byte : ℕ) → Act
  replace : List Piece → Act
  select : (at : ℕ) → (text : List ℕ) → Act
  require : Shape → (name : Span) → (at : ℕ) → (text : List ℕ) → Act
  refuse : PropertyError → Act

-- what was charged, what is done, and how many further bytes that takes
pub record Item : Type 0 where
  pub looks : List ℕ
  pub act : Act
  pub more : ℕ

abbrev pub span : ℕ → ℕ → Span
span from len = record { start = from; end = from + len }

-- whether an unset name without an operator yields nothing
abbrev pub lenient : PropertySyntax → Bool
lenient Braced = false
lenient BracedOrBare = false
lenient DockerCompose = true

-- a reference without an operator, its name standing at `from`
abbrev pub plain_act : PropertySyntax → Shape → ℕ → List ℕ → Act
plain_act s unset from name = cond (lenient s) (replace []) (refuse (Unresolved (span from (length name))))
plain_act s empty from name = replace (val name ∷ [])
plain_act s filled from name = replace (val name ∷ [])

-- a reference with an operator, whose word starts at `at`
abbrev pub yield_act : Yield → Shape → ℕ → List ℕ → ℕ → List ℕ → Act
yield_act value sh from name at w = replace (val name ∷ [])
yield_act nothing sh from name at w = replace []
yield_act word sh from name at w = select at w
yield_act refusal sh from name at w = require sh (span from (length name)) at w

-- the word ends at the close, whose place is `close`
abbrev pub op_act : PropertySyntax → Shape → ℕ → List ℕ → ℕ → Op → Act
op_act s sh from name close plain = plain_act s sh from name
op_act s sh from name close (operated o colon w) = yield_act (posix o colon sh) sh from name (close - length w) w

-- whether names stand bare
abbrev pub allows_bare : PropertySyntax → Bool
allows_bare Braced = false
allows_bare BracedOrBare = true
allows_bare DockerCompose = true

-- two more are charged, before what the item charges
abbrev pub second : Item → Item
second it = record { looks = 1 ∷ 1 ∷ it.looks; act = it.act; more = it.more }

module _ (sh : List ℕ → Shape) (s : PropertySyntax) where
  -- behind a `${` at the place i, `left` being the number of bytes behind it in the frame
  abbrev pub brace_act : ℕ → ℕ → Brace → Act
  brace_act i left unclosed = cond (lenient s) (refuse (InvalidName (span i (2 + left)))) (keep 36)
  brace_act i left (malformed k) = refuse (InvalidName (span i (k + 3)))
  brace_act i left (reference k name op) = op_act s (sh name) (i + 2) name (i + 2 + k) op

  abbrev pub brace_more : Brace → ℕ
  brace_more unclosed = 0
  brace_more (malformed k) = k + 2
  brace_more (reference k name op) = k + 2

  -- behind a `$` at the place i, where a name may stand bare
  abbrev pub bare_act : ℕ → Option (List ℕ × List ℕ) → Act
  bare_act i None = keep 36
  bare_act i (Some p) = plain_act s (sh p.0) (i + 1) p.0

  abbrev pub bare_more : Option (List ℕ × List ℕ) → ℕ
  bare_more None = 0
  bare_more (Some p) = length p.0

  -- `${` at the place i, with bs behind it
  abbrev pub braced_item : ℕ → List ℕ → Item
  braced_item i bs = record { looks = brace_looks s bs; act = brace_act i (length bs) (brace s bs); more = brace_more (brace s bs) }

  -- `$` at the place i, with bs behind it, which begin neither with `$` nor with `{`
  abbrev pub bare_item : ℕ → List ℕ → Item
  bare_item i bs =
      let named : Item = record { looks = name_looks s bs; act = bare_act i (name_at s bs); more = bare_more (name_at s bs) } in
      cond (allows_bare s) named (record { looks = []; act = keep 36; more = 0 })

  -- a `$` at the place i, by the bytes behind it: where there are any, a second one is charged
  abbrev pub dollar : ℕ → List ℕ → Item
  dollar i [] = record { looks = 1 ∷ []; act = keep 36; more = 0 }
  dollar i (c ∷ cs) =
      let braced : Item = second (braced_item i cs) in
      let bare : Item = second (bare_item i (c ∷ cs)) in
      cond (c == 36) (second (record { looks = []; act = replace (lit 36 ∷ []); more = 1 })) (cond (c == 123) braced bare)

  -- the byte b at the place i, by the bytes behind it
  unfoldable pub item : ℕ → ℕ → List ℕ → Item
  item i b bs =
      let it : Item = dollar i bs in
      cond (b == 36) it (record { looks = 1 ∷ []; act = keep b; more = 0 })

-- Selected text of Braced and BracedOrBare is walked under Braced.
abbrev pub inner : PropertySyntax → PropertySyntax
inner Braced = Braced
inner BracedOrBare = Braced
inner DockerCompose = DockerCompose

-- in DockerCompose a `$` is more than itself where `$`, `{` or a name start follows
abbrev pub more_than_itself : List ℕ → Bool
more_than_itself [] = false
more_than_itself (c ∷ cs) = (c == 36 || c == 123) || begins_name DockerCompose (c ∷ cs)

-- whether the byte b, with bs behind it, is to be expanded in selected text
abbrev pub expands_here : PropertySyntax → ℕ → List ℕ → Bool
expands_here Braced b bs = opens b bs
expands_here BracedOrBare b bs = opens b bs
expands_here DockerCompose b bs = b == 36 && more_than_itself bs

-- whether selected text has to be walked
abbrev pub expands : PropertySyntax → List ℕ → Bool
expands s [] = false
expands s (b ∷ bs) = expands_here s b bs || expands s bs
