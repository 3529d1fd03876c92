-- A record put behind those in use, and a pair laid into the pair bytes.
use Rattle.std.proofs.Common.{◌≡◌, ℕ, ◌+◌, ◌<◌, ◌≤◌, ◌⊎◌, List, ◌++◌, length, take, drop, set, sym, ap, ◌∙◌, ap₂, inl, inr, arith, length-append}
use borrow.Rule.Slice.PartMut.{put_mid}
use Rattle.std.proofs.lemmas.List.{append_assoc, drop_at, drop-drop, length-take, length-take-le, set_past, take_at}
use Rattle.std.proofs.lemmas.Bool.{cases_lt}
use Rattle.scopes.specs.Notes.{laid_at}

-- behind the first `used` elements, as many as there are
pub set_behind : {X : Type 0} (rs : List X) (used : ℕ) (x : X) → set rs (length (take used rs)) x ≡ set rs used x
set_behind rs used x = go (cases_lt used (length rs))
  where
    go : (used < length rs) ⊎ (length rs ≤ used) → set rs (length (take used rs)) x ≡ set rs used x
    go (inl h) = let l : used ≤ length rs = omega arith in ap (λ k. set rs k x) (length-take-le used rs l)
    go (inr h) = let l : length rs ≤ length (take used rs) = omega (arith, length-take used rs) in set_past rs (length (take used rs)) x l ∙ sym (set_past rs used x h)

-- a write of xs in the place of the bytes from `at` on, and one of ys behind it
module _ (bytes xs ys : List ℕ) (at : ℕ) (inside : at + length xs + length ys ≤ length bytes) where
  pub two_laid : (k j : ℕ) → k ≡ length xs → j ≡ length ys → put_mid (at + length xs) j (put_mid at k bytes xs) ys ≡ laid_at at (xs, ys) bytes
  two_laid k j is_k is_j =
      let low : at ≤ length bytes = omega arith in
      let front : length (take at bytes ++ xs) ≡ at + length xs = length-append (take at bytes) xs ∙ ap (λ n. n + length xs) (length-take-le at bytes low) in
      let rest : List ℕ = drop k (drop at bytes) in
      let regroup : put_mid at k bytes xs ≡ (take at bytes ++ xs) ++ rest = sym (append_assoc (take at bytes) xs rest) in
      let taken : take (at + length xs) (put_mid at k bytes xs) ≡ take at bytes ++ xs = ap (take (at + length xs)) regroup ∙ take_at (take at bytes ++ xs) rest (at + length xs) front in
      let left : drop (at + length xs) (put_mid at k bytes xs) ≡ rest = ap (drop (at + length xs)) regroup ∙ drop_at (take at bytes ++ xs) rest (at + length xs) front in
      let places : at + k + j ≡ at + length xs + length ys = omega arith in
      let behind : drop j (drop (at + length xs) (put_mid at k bytes xs)) ≡ drop (at + length xs + length ys) bytes =
      ap (drop j) left ∙ ap (drop j) (drop-drop k at bytes) ∙ drop-drop j (at + k) bytes ∙ ap (λ n. drop n bytes) places in
      ap₂ (λ f b. f ++ (ys ++ b)) taken behind ∙ append_assoc (take at bytes) xs (ys ++ drop (at + length xs + length ys) bytes)
