-- The bytes of a frame that stand before its next `$`. `$` is 36.
use Rattle.std.specs.Prelude.{ℕ, suc, ◌+◌, ◌-◌, cond, List, [], ◌∷◌, length, drop, Ok, Err, Option, Result, ◌==◌}
use Rattle.names.specs.declared.PropertySyntax.{PropertySyntax}
use Rattle.source.specs.Shapes.{shapes}
use Rattle.references.specs.declared.error.PropertyError.{PropertyError}
use Rattle.walk.specs.declared.state.Walk.{Walk}
use Rattle.expansion.specs.Events.{Event, frame}
use Rattle.walk.specs.Frames.{Aim, Reached, Stopped}

-- how many they are
abbrev pub plain : List ℕ → ℕ
plain [] = 0
plain (b ∷ bs) = cond (b == 36) 0 (suc (plain bs))

-- In any walk that is at the place i of a frame, with the bytes bs left there: n of them were passed; or the walk stopped.
module _ (means : List ℕ → Option (List ℕ)) (deep : ℕ) (bs : List ℕ) where
  abbrev pub Passed : (nested : ℕ → List ℕ → List Event → List Event) → (d : ℕ) → PropertySyntax → (i : ℕ) → Aim → (left : ℕ) → List Event → Walk → Result ℕ PropertyError → Type 0
  Passed nested d s i aim left es now (Ok n) = Reached means deep aim (length bs - n + left) (frame nested d s (shapes means) (i + n) (drop n bs) 0 es) now
  Passed nested d s i aim left es now (Err e) = Stopped aim now e

  abbrev pub PassesPlain : Walk → Walk → Result ℕ PropertyError → Type 0
  PassesPlain before after r =
      (nested : ℕ → List ℕ → List Event → List Event) (d : ℕ) (s : PropertySyntax) (i : ℕ) (aim : Aim) (left : ℕ) (es : List Event)
      → Reached means deep aim (length bs + left) (frame nested d s (shapes means) i bs 0 es) before
      → Passed nested d s i aim left es after r
