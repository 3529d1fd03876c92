-- The order in which a redaction takes the pairs of a scope.
use Rattle.std.specs.Prelude.{◌≡◌, ℕ, ◌<◌, ◌≤◌, cond, List, [], ◌∷◌, ◌==◌, nat_le}
use Rattle.pairs.specs.Pairs.{Pair}
use Rattle.pairs.specs.Sizes.{of_size, size}

-- The pairs with a result that is not empty.
abbrev pub filled : List Pair → List Pair
filled [] = []
filled (p ∷ ps) = cond (size p == 0) (filled ps) (p ∷ filled ps)

-- p goes before the first pair whose result is not longer.
abbrev pub insert : Pair → List Pair → List Pair
insert p [] = p ∷ []
insert p (q ∷ qs) = cond (nat_le (size q) (size p)) (p ∷ (q ∷ qs)) (q ∷ insert p qs)

abbrev pub sorted : List Pair → List Pair
sorted [] = []
sorted (p ∷ ps) = insert p (sorted ps)

-- The longest result first, equals as they stood.
abbrev pub longest_first : List Pair → List Pair
longest_first ps = sorted (filled ps)

abbrev pub Led : Pair → List Pair → Type 0
Led p [] = Unit {0}
Led p (q ∷ qs) = size q ≤ size p

-- No result is longer than the one before it.
abbrev pub Falls : List Pair → Type 0
Falls [] = Unit {0}
Falls (p ∷ ps) = Led p ps × Falls ps

-- The law of the order: no result is longer than the one before it, none is empty, and those of one length are the scope's, as they were noted.
abbrev pub LongestFirst : Type 0
LongestFirst = (ps : List Pair) →
    Falls (longest_first ps) × (of_size 0 (longest_first ps) ≡ []) × ((k : ℕ) → 0 < k → of_size k (longest_first ps) ≡ of_size k ps)
