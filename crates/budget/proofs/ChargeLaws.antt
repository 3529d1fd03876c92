-- Laws of charges.
use Rattle.std.proofs.Common.{◌≡◌, ℕ, ◌^◌, ◌<◌, ◌≤◌, true, false, cond, ltb, List, [], ◌∷◌, ◌++◌, sum, refl, ap, arith}
use Rattle.std.proofs.lemmas.List.Sums.{sum_by-cons}
use Rattle.std.proofs.lemmas.Bool.Decides.{nat_tests}
use Rattle.budget.specs.Charges.{charged, charges, taken, over, later}
use Rattle.budget.specs.Laws.{ChargeLaws}

pub charges_append : (limit t : ℕ) (ks js : List ℕ) → charges limit t (ks ++ js) ≡ later (charges limit t ks) limit js
charges_append limit t [] js = refl
charges_append limit t (k ∷ ks) js =
    let up = charges_append limit (charged t k) ks js in
    elim (ltb limit (charged t k)) as (λ b. cond b (over (charged t k)) (charges limit (charged t k) (ks ++ js)) ≡ later (cond b (over (charged t k)) (charges limit (charged t k) ks)) limit js) [ true ↦ refl | false ↦ up ]

pub raise_taken : (limit more t u : ℕ) (ks : List ℕ) → limit ≤ more → charges limit t ks ≡ taken u → charges more t ks ≡ taken u
raise_taken limit more t u [] h e = e
raise_taken limit more t u (k ∷ ks) h e =
    let up = raise_taken limit more (charged t k) u ks h in
    grind (arith, nat_tests)

pub raise_over : (limit more t u : ℕ) (ks : List ℕ) → limit ≤ more → more < u → charges limit t ks ≡ over u → charges more t ks ≡ over u
raise_over limit more t u [] h l e = absurd (let z : ◌≡◌ {A = ℕ} 0 1 = cc in omega arith)
raise_over limit more t u (k ∷ ks) h l e =
    let up = raise_over limit more (charged t k) u ks h l in
    grind (arith, nat_tests)

pub taken_within : (limit t u : ℕ) (ks : List ℕ) → t ≤ limit → charges limit t ks ≡ taken u → u ≤ limit
taken_within limit t u [] h e = grind arith
taken_within limit t u (k ∷ ks) h e =
    let up = taken_within limit (charged t k) u ks in
    grind (arith, nat_tests)

-- a charge, then the sum of others
charged_sum : (t k : ℕ) (ks : List ℕ) → charged (charged t k) (sum ks) ≡ charged t (sum (k ∷ ks))
charged_sum t k ks = omega (arith, sum_by-cons (λ x. x) k ks)

pub taken_sum : (limit t u : ℕ) (ks : List ℕ) → t < 2 ^ 64 → charges limit t ks ≡ taken u → u ≡ charged t (sum ks)
taken_sum limit t u [] h e = grind arith
taken_sum limit t u (k ∷ ks) h e =
    let up = taken_sum limit (charged t k) u ks (omega arith) in
    let sums = charged_sum t k ks in
    grind (arith, nat_tests)

pub sum_taken : (limit t : ℕ) (ks : List ℕ) → t < 2 ^ 64 → t ≤ limit → charged t (sum ks) ≤ limit → charges limit t ks ≡ taken (charged t (sum ks))
sum_taken limit t [] h l e = ap taken (omega arith)
sum_taken limit t (k ∷ ks) h l e =
    let sums = charged_sum t k ks in
    let low : charged t k ≤ limit = omega arith in
    let up = sum_taken limit (charged t k) ks (omega arith) low (omega arith) in
    grind (arith, nat_tests)

pub over_above : (limit t u : ℕ) (ks : List ℕ) → charges limit t ks ≡ over u → (limit < u) × (u ≤ charged t (sum ks))
over_above limit t u [] e = absurd (let z : ◌≡◌ {A = ℕ} 0 1 = cc in omega arith)
over_above limit t u (k ∷ ks) e =
    let up = over_above limit (charged t k) u ks in
    let sums = charged_sum t k ks in
    grind (arith, nat_tests)

pub charge_laws : ChargeLaws
charge_laws =
    record {
      join = charges_append;
      total = taken_sum;
      within = taken_within;
      fits = sum_taken;
      above = over_above;
      raise = raise_taken;
      refuse = raise_over;
    }
