-- Worked examples: A is unset, E is empty, any other name is filled.
use Rattle.std.specs.Prelude.{◌≡◌, ℕ, true, false, cond, List, [], ◌∷◌, codes, ◌==◌}
use Rattle.names.specs.declared.PropertySyntax.TheVariants.{Braced, BracedOrBare, DockerCompose}
use Rattle.source.specs.Shapes.{Shape, unset, empty, filled}
use Rattle.references.specs.declared.error.PropertyError.TheVariants.{InvalidName, RequiredButUnset, ExpansionDepthLimitExceeded, ExpansionWorkLimitExceeded}
use Rattle.items.specs.Pieces.{Piece, lit, val, literal}
use Rattle.items.specs.Items.{span}
use Rattle.expansion.specs.Walks.{Limits, ended, stopped, walk}

abbrev pub trial_shape : List ℕ → Shape
trial_shape [] = unset
trial_shape (b ∷ bs) = cond (b == 65) unset (cond (b == 69) empty filled)

abbrev pub largest : ℕ
largest = 18446744073709551615

abbrev pub unlimited : Limits
unlimited = record { depth = largest; work = largest }

-- `C` standing for its value
abbrev pub C : Piece
C = val (67 ∷ [])

unfoldable pub Trials : Type 0
Trials =
    (walk trial_shape Braced unlimited 0 [] ≡ ended 0 false [])
    × (walk trial_shape Braced (record { depth = largest; work = 8 }) 9 [] ≡ stopped 9 (ExpansionWorkLimitExceeded 9 8) [])
    × (walk trial_shape Braced unlimited 0 (codes "abc") ≡ ended 3 false (literal (codes "abc")))
    × (walk trial_shape Braced (record { depth = largest; work = 2 }) 0 (codes "abc") ≡ stopped 3 (ExpansionWorkLimitExceeded 3 2) [])
    × (walk trial_shape Braced unlimited 0 (codes "a$$b") ≡ ended 6 true (literal (codes "a$b")))
    × (walk trial_shape Braced unlimited 0 (codes "${C}") ≡ ended 6 true (C ∷ []))
    × (walk trial_shape DockerCompose unlimited 0 (codes "${C}") ≡ ended 6 true (C ∷ []))
    × (walk trial_shape Braced unlimited 0 (codes "${A:-${C}}") ≡ ended 22 true (C ∷ []))
    × (walk trial_shape Braced (record { depth = 0; work = largest }) 0 (codes "${A:-${C}}") ≡ stopped 17 (ExpansionDepthLimitExceeded 1 0) [])
    × (walk trial_shape Braced unlimited 0 (codes "${") ≡ ended 4 false (literal (codes "${")))
    × (walk trial_shape DockerCompose unlimited 0 (codes "${") ≡ stopped 3 (InvalidName (span 0 2)) [])
    × (walk trial_shape Braced unlimited 0 (codes "${A:?no ${C}}") ≡ stopped 31 (RequiredButUnset (span 2 1) 7) (codes "no ${C}"))
    × (walk trial_shape Braced unlimited 0 (codes "${A:?no ${E}}") ≡ stopped 31 (RequiredButUnset (span 2 1) 3) (codes "no "))
    × (walk trial_shape BracedOrBare unlimited 0 (codes "${A:-$C}") ≡ ended 13 true (literal (codes "$C")))
    × (walk trial_shape DockerCompose unlimited 0 (codes "${A:-$C}") ≡ ended 15 true (C ∷ []))
    × (walk trial_shape Braced unlimited 0 (codes "${A:-{}}${C}") ≡ ended 17 true (lit 123 ∷ lit 125 ∷ C ∷ []))
    × (walk trial_shape DockerCompose unlimited 0 (codes "${A:-{}}${C}") ≡ stopped 26 (InvalidName (span 8 3)) [])
