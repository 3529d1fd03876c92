-- The lengths of the results of pairs.
use Rattle.std.specs.Prelude.{ℕ, max, cond, List, [], ◌∷◌, length, ◌==◌, nat_le}
use Rattle.pairs.specs.Pairs.{Pair}

abbrev pub size : Pair → ℕ
size p = length p.1

-- The greatest size, or 0.
abbrev pub longest : List Pair → ℕ
longest [] = 0
longest (p ∷ ps) = max (size p) (longest ps)

-- The greatest size that is at most n, or 0.
abbrev pub size_within : ℕ → List Pair → ℕ
size_within n [] = 0
size_within n (p ∷ ps) = cond (nat_le (size p) n) (max (size p) (size_within n ps)) (size_within n ps)

-- The pairs whose result has n bytes.
abbrev pub of_size : ℕ → List Pair → List Pair
of_size n [] = []
of_size n (p ∷ ps) = cond (size p == n) (p ∷ of_size n ps) (of_size n ps)
