-- What a text means, by the shapes of names alone: a list of events, without any limit.
use Rattle.std.specs.Prelude.{ℕ, zero, suc, ◌+◌, Bool, true, false, cond, List, [], ◌∷◌, length, Some, None, Option, ◌==◌}
use Rattle.names.specs.declared.PropertySyntax.{PropertySyntax}
use Rattle.source.specs.Shapes.{Shape}
use Rattle.references.specs.declared.error.Span.{Span}
use Rattle.references.specs.declared.error.PropertyError.{PropertyError}
use Rattle.items.specs.Pieces.{Piece, lit, literal}
use Rattle.items.specs.Items.{Act, keep, replace, select, require, refuse, Item, item, inner, expands}

-- A charge; a piece; a replacement in a frame of some depth; selected text that is walked, at the depth of the frame that selects it;
-- a message begins; the message of a required property ends, `source` being its unwalked text; a refusal.
pub data Event : Type 0 where
  charge : ℕ → Event
  emit : Piece → Event
  replaced : (depth : ℕ) → Event
  nest : (depth : ℕ) → Event
  begins : Event
  message : Shape → (name : Span) → (source : List ℕ) → Event
  refused : PropertyError → Event

abbrev pub charges : List ℕ → List Event → List Event
charges [] es = es
charges (k ∷ ks) es = charge k ∷ charges ks es

abbrev pub emits : List Piece → List Event → List Event
emits [] es = es
emits (p ∷ ps) es = emit p ∷ emits ps es

-- `nested at text es`: the events of selected text that is walked, and then es. d is the depth of the frame.
module _ (nested : ℕ → List ℕ → List Event → List Event) (d : ℕ) (s : PropertySyntax) where
  -- selected text, and then es
  abbrev pub selected : Bool → ℕ → List ℕ → List Event → List Event
  selected true at w es = nest d ∷ replaced d ∷ nested at w es
  selected false at w es = replaced d ∷ emits (literal w) es

  -- the message of a required property, and then es
  abbrev pub explained : Bool → ℕ → List ℕ → List Event → List Event
  explained true at w es = nest d ∷ begins ∷ nested at w es
  explained false at w es = begins ∷ emits (literal w) es

  abbrev pub acts : Act → List Event → List Event
  acts (keep b) es = emit (lit b) ∷ es
  acts (replace ps) es = replaced d ∷ emits ps es
  acts (select at w) es = charge (length w) ∷ selected (expands s w) at w es
  acts (require sh name at w) es = charge (length w) ∷ explained (expands s w) at w (message sh name w ∷ [])
  acts (refuse e) es = refused e ∷ []

  -- the events of a frame's bytes, the first of them at the place i, after the first k, and then es
  unfoldable pub frame : (List ℕ → Shape) → ℕ → List ℕ → ℕ → List Event → List Event
  frame sh i [] k es = es
  frame sh i (b ∷ bs) (suc k) es = frame sh (i + 1) bs k es
  frame sh i (b ∷ bs) zero es = let it : Item = item sh s i b bs in charges it.looks (acts it.act (frame sh (i + 1) bs it.more es))

-- a frame of depth d whose bytes start at the place i, with at most f frames nested in it, and then es
unfoldable pub trace : (f d : ℕ) → (List ℕ → Shape) → PropertySyntax → ℕ → List ℕ → List Event → List Event
trace zero d sh s i bs es = frame (λ at w rest. rest) d s sh i bs 0 es
trace (suc f) d sh s i bs es = frame (λ at w rest. trace f (d + 1) sh (inner s) at w rest) d s sh i bs 0 es

-- the place of the first `$`
abbrev pub first_dollar : ℕ → List ℕ → Option ℕ
first_dollar i [] = None
first_dollar i (b ∷ bs) = let r : Option ℕ = first_dollar (i + 1) bs in cond (b == 36) (Some i) r

-- A text without `$` is charged at once. Selected text is shorter than the text that selects it, so the count of nested frames suffices.
abbrev pub begin : (List ℕ → Shape) → PropertySyntax → List ℕ → Option ℕ → List Event
begin sh s text None = charge (length text) ∷ emits (literal text) []
begin sh s text (Some i) = charge (i + 1) ∷ trace (length text) 1 sh s 0 text []

unfoldable pub events : (List ℕ → Shape) → PropertySyntax → List ℕ → List Event
events sh s text = begin sh s text (first_dollar 0 text)
