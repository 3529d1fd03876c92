-- The pairs of a list that are new at their place.
use Rattle.std.proofs.Common.{cond, List, [], ◌∷◌, ◌++◌}
use Rattle.pairs.specs.Pairs.{Pair, has}

-- Those that stand neither in `seen` nor before in the list.
abbrev pub news : List Pair → List Pair → List Pair
news seen [] = []
news seen (p ∷ ps) = cond (has seen p) (news (seen ++ (p ∷ [])) ps) (p ∷ news (seen ++ (p ∷ [])) ps)
