-- Where a needle stands in a text.
use Rattle.std.specs.Prelude.{ℕ, zero, suc, ◌+◌, ◌-◌, Bool, cond, ◌&&◌, List, [], ◌∷◌, length, take, nat_lt}
use Rattle.std.specs.Str.{bytes_eq}

-- The text begins with the needle. A needle of no bytes stands nowhere.
abbrev pub starts : List ℕ → List ℕ → Bool
starts needle text = nat_lt 0 (length needle) && bytes_eq needle (take (length needle) text)

-- The matches in a text whose first byte has the place i; the next `skip` bytes belong to the match before them.
abbrev pub spots : List ℕ → ℕ → ℕ → List ℕ → List ℕ
spots needle skip i [] = []
spots needle (suc skip) i (b ∷ bs) = spots needle skip (i + 1) bs
spots needle zero i (b ∷ bs) =
    cond (starts needle (b ∷ bs)) (i ∷ spots needle (length needle - 1) (i + 1) bs) (spots needle zero (i + 1) bs)

-- The places of the matches, from the left; no two of them overlap.
abbrev pub places : List ℕ → List ℕ → List ℕ
places needle text = spots needle zero 0 text
