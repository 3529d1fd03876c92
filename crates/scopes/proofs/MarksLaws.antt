-- Reading the pairs that were recorded.
use Rattle.std.proofs.Common.{◌≡◌, ℕ, zero, suc, List, [], ◌∷◌, drop, refl}
use Rattle.pairs.specs.Records.{pairs_in}
use Rattle.pairs.specs.declared.record.PairRecord.{PairRecord}

pub pairs_drop : (bytes : List ℕ) (k : ℕ) (rs : List PairRecord) → pairs_in bytes (drop k rs) ≡ drop k (pairs_in bytes rs)
pairs_drop bytes zero rs = refl
pairs_drop bytes (suc k) [] = refl
pairs_drop bytes (suc k) (r ∷ rs) = pairs_drop bytes k rs
