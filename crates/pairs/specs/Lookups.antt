-- A look-up by the result.
use Rattle.std.specs.Prelude.{ℕ, cond, List, [], ◌∷◌, Some, None, Option}
use Rattle.std.specs.Str.{bytes_eq}
use Rattle.pairs.specs.Pairs.{Pair}

-- The text of the first pair with this result.
abbrev pub lookup : List Pair → List ℕ → Option (List ℕ)
lookup [] result = None
lookup (p ∷ ps) result = cond (bytes_eq p.1 result) (Some p.0) (lookup ps result)
