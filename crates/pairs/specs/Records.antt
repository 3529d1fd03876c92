-- Pairs in their places in the pair bytes.
use Rattle.std.specs.Prelude.{ℕ, ◌+◌, ◌-◌, Bool, true, ◌&&◌, List, [], ◌∷◌, map, nat_le}
use Rattle.std.specs.List.{between}
use Rattle.pairs.specs.Pairs.{Pair}
use Rattle.pairs.specs.declared.pair.Pair.{Pair as Texts}
use Rattle.pairs.specs.declared.record.PairRecord.{PairRecord}

-- The bytes of a text and its result.
abbrev pub pair_read : Texts → Pair
pair_read p = (p.text.now, p.result.now)

-- The text, and behind it the result.
abbrev pub pair_of : List ℕ → PairRecord → Pair
pair_of bytes r = (between r.at (r.at + r.text) bytes, between (r.at + r.text) (r.at + r.text + r.result) bytes)

abbrev pub pairs_in : List ℕ → List PairRecord → List Pair
pairs_in bytes rs = map (pair_of bytes) rs

-- A pair lies inside n bytes.
abbrev pub within : ℕ → PairRecord → Bool
within n r = nat_le r.at n && (nat_le r.text (n - r.at) && nat_le r.result (n - r.at - r.text))

abbrev pub all_within : ℕ → List PairRecord → Bool
all_within n [] = true
all_within n (r ∷ rs) = within n r && all_within n rs
