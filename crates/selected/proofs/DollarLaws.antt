-- The first place that passes the library's test for `$` is the first `$`.
use Rattle.std.proofs.Common.{◌≡◌, ℕ, zero, suc, ◌+◌, ◌<◌, List, [], ◌∷◌, length, Option, Some, None, refl, arith}
use Rattle.std.proofs.lemmas.Bool.Decides.{nat_tests}
use Rattle.expansion.specs.Events.{first_dollar}
use Rattle.memchr.specs.Find.{IsFirstByte, Passes, is_byte}

-- Here i is the place of the first byte. None of the bytes is a `$`.
none_there : (i : ℕ) (bs : List ℕ) → ((k : ℕ) → k < length bs → Passes (is_byte 36) bs k → ⊥) → first_dollar i bs ≡ None
none_there i [] h = refl
none_there i (b ∷ bs) h =
    let here = h 0 in
    let behind = none_there (i + 1) bs (λ k l. h (suc k) (omega arith)) in
    grind (arith, nat_tests)

-- byte k is a `$`, and none before it
first_there : (i : ℕ) (bs : List ℕ) (k n : ℕ) → n ≡ i + k → k < length bs → ((j : ℕ) → j < k → Passes (is_byte 36) bs j → ⊥) → Passes (is_byte 36) bs k → first_dollar i bs ≡ Some n
first_there i [] k n e l h p = absurd (omega arith)
first_there i (b ∷ bs) zero n e l h p = grind (arith, nat_tests)
first_there i (b ∷ bs) (suc k) n e l h p =
    let here = h 0 (omega arith) in
    let behind = first_there (i + 1) bs k n (omega arith) (omega arith) (λ j m. h (suc j) (omega arith)) p in
    grind (arith, nat_tests)

pub first_is : (bs : List ℕ) (r : Option ℕ) → IsFirstByte (is_byte 36) bs r → first_dollar 0 bs ≡ r
first_is bs None h = none_there 0 bs (λ k l. h k (omega arith) l)
first_is bs (Some k) h = first_there 0 bs k k (omega arith) h.0.high (λ j. h.0.before j (omega arith)) h.1
