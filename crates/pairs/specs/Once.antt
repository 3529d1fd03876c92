-- That a scope holds each of its pairs once.
use Rattle.std.specs.Prelude.{◌≡◌, false, List, [], ◌∷◌}
use Rattle.pairs.specs.Pairs.{Pair, firsts, has}

-- No pair stands twice.
abbrev pub Distinct : List Pair → Type 0
Distinct [] = Unit {0}
Distinct (p ∷ ps) = (has ps p ≡ false) × Distinct ps

-- Of a list of notings exactly its pairs are kept, and each once.
abbrev pub EachOnce : Type 0
EachOnce = (ps : List Pair) → Distinct (firsts ps) × ((p : Pair) → has (firsts ps) p ≡ has ps p)
