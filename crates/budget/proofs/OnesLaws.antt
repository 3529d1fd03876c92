-- Charges of one, several times.
use Rattle.std.proofs.Common.{◌≡◌, ℕ, zero, suc, ◌^◌, ◌<◌, ◌≤◌, max, replicate, ap, arith}
use Rattle.std.proofs.lemmas.Bool.Decides.{nat_tests}
use Rattle.budget.specs.Charges.{charged, charges, taken, over}

pub ones_taken : (limit t n : ℕ) → t < 2 ^ 64 → charged t n ≤ limit → charges limit t (replicate n 1) ≡ taken (charged t n)
ones_taken limit t zero h l = ap taken (omega arith)
ones_taken limit t (suc n) h l =
    let up = ones_taken limit (charged t 1) n (omega arith) (omega arith) in
    let same : charged (charged t 1) n ≡ charged t (suc n) = omega arith in
    grind (arith, nat_tests)

-- the first that is refused comes to one above the limit, or above a total that was there already
pub ones_over : (limit t n : ℕ) → t < 2 ^ 64 → 0 < n → limit < charged t n → charges limit t (replicate n 1) ≡ over (charged (max t limit) 1)
ones_over limit t zero h some l = absurd (omega arith)
ones_over limit t (suc n) h some l =
    let up = ones_over limit (charged t 1) n (omega arith) in
    let same : charged (charged t 1) n ≡ charged t (suc n) = omega arith in
    grind (arith, nat_tests)
