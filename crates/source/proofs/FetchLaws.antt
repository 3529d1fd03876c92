-- A value laid into an area, and zeros put behind it.
use Rattle.std.proofs.Common.{◌≡◌, ℕ, ◌-◌, min, List, length, replicate, Some, None, Option, unwrap_or, arith, rules}
use borrow.Rule.Slice.PartMut.{put_mid}
use Rattle.std.proofs.lemmas.List.{places, same_lists}
use Rattle.std.specs.Option.{option_map}
use Rattle.source.specs.Laying.{fetched, laid}

pub zeros_behind : (m : Option (List ℕ)) (area after zeros : List ℕ) (end : ℕ)
    → end ≡ min (unwrap_or (option_map length m) 0) (length area) → after ≡ laid m area → zeros ≡ replicate (length after - end) 0
    → put_mid end (length after - end) after zeros ≡ fetched m (length area)
zeros_behind None area after zeros end e a z = same_lists _ _ (search (rules, places)) (λ k d h. grind (arith, places))
zeros_behind (Some value) area after zeros end e a z = same_lists _ _ (search (rules, places)) (λ k d h. grind (arith, places))
