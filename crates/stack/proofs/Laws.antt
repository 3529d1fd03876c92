-- The first n elements of a memory m, once for every kind of element. Assumes nothing.
use Rattle.std.proofs.Common.{◌≡◌, ℕ, ◌<◌, ◌≤◌, ltb, List, ◌++◌, length, take, drop, set, Ok, Err, sym, ap, ◌∙◌, arith}
use Rattle.std.proofs.lemmas.List.{length-take-le, set-append_left, set_past, take-append-drop, take_at, length-set}
use Rattle.std.proofs.lemmas.Bool.{le-ltb, lt-ltb}
use Rattle.stack.specs.Held.{offered}

module _ {X : Type 0} (m : List X) (n : ℕ) (low : n ≤ length m) where
  long : length (take n m) ≡ n
  long = length-take-le n m low

  -- a place that is in use, and one that is not
  pub inside : (i : ℕ) (x : X) → i < n → Ok tt ≡ offered (ltb i (length (take n m))) x
  inside i x h = let l : i < length (take n m) = omega (arith, long) in ap (λ b. offered b x) (sym (lt-ltb i (length (take n m)) l))

  pub outside : (i : ℕ) (x : X) → n ≤ i → Err x ≡ offered (ltb i (length (take n m))) x
  outside i x h = let l : length (take n m) ≤ i = omega (arith, long) in ap (λ b. offered b x) (sym (le-ltb i (length (take n m)) l))

  -- a write to an element in use
  pub written : (i : ℕ) (x : X) → i < n → set m i x ≡ set (take n m) i x ++ drop n m
  written i x h =
      let l : i < length (take n m) = omega (arith, long) in
      ap (λ q. set q i x) (sym (take-append-drop n m)) ∙ set-append_left (take n m) (drop n m) i x l

  pub written_in : (i : ℕ) (x : X) → i < n → take n (set m i x) ≡ set (take n m) i x
  written_in i x h = ap (take n) (written i x h) ∙ take_at (set (take n m) i x) (drop n m) n (length-set (take n m) i x ∙ long)

  pub unwritten : (i : ℕ) (x : X) → n ≤ i → take n m ≡ set (take n m) i x
  unwritten i x h = let l : length (take n m) ≤ i = omega (arith, long) in sym (set_past (take n m) i x l)

  pub kept : (i : ℕ) (x : X) → n ≤ i → m ≡ set (take n m) i x ++ drop n m
  kept i x h = sym (take-append-drop n m) ∙ ap (λ q. q ++ drop n m) (unwritten i x h)
