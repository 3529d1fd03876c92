-- Pairs of a text and its result, and the list of those that were noted.
use Rattle.std.specs.Prelude.{ℕ, Bool, false, cond, ◌&&◌, ◌||◌, List, [], ◌∷◌, ◌++◌}
use Rattle.std.specs.Str.{bytes_eq}

-- A text, and the result that stood for it.
abbrev pub Pair : Type 0
Pair = List ℕ × List ℕ

abbrev pub same_pair : Pair → Pair → Bool
same_pair p q = bytes_eq p.0 q.0 && bytes_eq p.1 q.1

abbrev pub has : List Pair → Pair → Bool
has [] p = false
has (q ∷ qs) p = same_pair q p || has qs p

-- A noting: the pair comes last, where the list lacks it.
abbrev pub add : List Pair → Pair → List Pair
add noted p = cond (has noted p) noted (noted ++ (p ∷ []))

abbrev pub add_all : List Pair → List Pair → List Pair
add_all noted [] = noted
add_all noted (p ∷ ps) = add_all (add noted p) ps

-- Each pair once, in order of first noting.
abbrev pub firsts : List Pair → List Pair
firsts ps = add_all [] ps
