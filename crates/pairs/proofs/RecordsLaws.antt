-- Pairs in their places. Assumes nothing.
use Rattle.std.proofs.Common.{◌≡◌, ℕ, ◌<◌, ◌≤◌, min, ◌⊎◌, List, length, take, sym, ap, ◌∙◌, inl, inr, arith}
use Rattle.std.proofs.lemmas.List.{take_all}
use Rattle.std.proofs.lemmas.Bool.{cases_lt}

-- a bound that the list keeps does not matter to what is taken
module _ {X : Type 0} (xs : List X) (k m : ℕ) (low : length xs ≤ m) where
  pub take_bound : take (min k m) xs ≡ take k xs
  take_bound = go (cases_lt k m)
    where
      go : (k < m) ⊎ (m ≤ k) → take (min k m) xs ≡ take k xs
      go (inl h) = let e : min k m ≡ k = omega arith in ap (λ j. take j xs) e
      go (inr h) =
          let a : length xs ≤ min k m = omega arith in
          let b : length xs ≤ k = omega arith in
          take_all (min k m) xs a ∙ sym (take_all k xs b)
