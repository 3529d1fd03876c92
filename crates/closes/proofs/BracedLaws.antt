-- The search for the close in Braced as far as it has come, and how many bytes it looks at.
use Rattle.std.proofs.Common.{◌≡◌, ℕ, suc, ◌+◌, ◌-◌, ◌<◌, ◌≤◌, Bool, true, false, cond, List, [], ◌∷◌, length, take, drop, replicate, Some, None, sym, refl, ap, ◌∙◌, arith}
use Rattle.std.proofs.lemmas.Bool.{eq-eqb, eqb-true}
use Rattle.std.specs.Prelude.{◌==◌}
use Rattle.memchr.specs.Find.{IsFirstByte, Passes, is_byte}
use Rattle.closes.specs.Braced.{braced, braced_close, braced_looks, opened}
use Rattle.closes.specs.Fronts.{opens}
use Rattle.closes.proofs.OpenedLaws.{passed}
use Rattle.closes.specs.Search.{by, ends, found, goes, looked}

-- The search has come past i bytes with n levels open: what is left gives the close.
pub record Balancing (bs : List ℕ) (n i : ℕ) : Type 0 where
  pub close : braced_close bs ≡ found braced n i (drop i bs)
  pub high : n ≤ i

-- the search from the first `}` on, with the levels that are opened before it
pub begun : (bs : List ℕ) (first n : ℕ) → IsFirstByte (is_byte 125) bs (Some first) → n ≡ opened (take first bs) → Balancing bs n first
begun bs first n h e =
    let p = passed 0 0 first bs h.0.high (eqb-true _ _ h.1) (λ j q g. h.0.before j (omega arith) q (eq-eqb _ _ g)) in
    let levels : 0 + opened (take first bs) ≡ n = omega arith in
    let place : 0 + first ≡ first = omega arith in
    record {
      close = p.close ∙ ap (λ m. found braced m (0 + first) (drop first bs)) levels ∙ ap (λ j. found braced n j (drop first bs)) place;
      high = omega (arith, p.few);
    }

-- where no byte is `}`, there is no close
closeless_from : (n i : ℕ) (bs : List ℕ) → ((k : ℕ) → k < length bs → Passes (is_byte 125) bs k → ⊥) → found braced n i bs ≡ None
closeless_from n i [] h = refl
closeless_from n i (b ∷ bs) h =
    let here = h 0 in
    let behind = λ (m : ℕ). closeless_from m (i + 1) bs (λ k l. h (suc k) (omega arith)) in
    go (b == 125) (opens b bs) (here (omega arith)) (behind (n + 1)) (behind n)
  where
    go : (c o : Bool) → (c ≡ true → ⊥) → found braced (n + 1) (i + 1) bs ≡ None → found braced n (i + 1) bs ≡ None →
        by (cond c (cond (n == 0) (ends (Some i)) (goes (n - 1))) (cond o (goes (n + 1)) (goes n))) (λ o. o) (λ t. found braced t (i + 1) bs) ≡ None
    go true o h deeper level = absurd (h refl)
    go false true h deeper level = deeper
    go false false h deeper level = level

pub closeless : (bs : List ℕ) → IsFirstByte (is_byte 125) bs None → None ≡ braced_close bs
closeless bs h = sym (closeless_from 0 0 bs (λ k l. h k (omega arith) l))

one_more : {k m : ℕ} {ks : List ℕ} → ks ≡ replicate m 1 → k ≡ suc m → 1 ∷ ks ≡ replicate k 1
one_more e s = ap (λ js. 1 ∷ js) e ∙ ap (λ j. replicate j 1) (sym s)

-- The charges are one for each byte up to the close at j.
record Ones (i j : ℕ) (ks : List ℕ) : Type 0 where
  pub low : i ≤ j
  pub ones : ks ≡ replicate (j + 1 - i) 1

looks_to : (n i : ℕ) (bs : List ℕ) (j : ℕ) → found braced n i bs ≡ Some j → Ones i j (looked braced n i bs)
looks_to n i [] j e = absurd (cc)
looks_to n i (b ∷ bs) j e = go (b == 125) (n == 0) (opens b bs) (looks_to (n - 1) (i + 1) bs j) (looks_to (n + 1) (i + 1) bs j) (looks_to n (i + 1) bs j) e
  where
    on : {ks : List ℕ} → Ones (i + 1) j ks → Ones i j (1 ∷ ks)
    on o = record { low = omega (arith, o.low); ones = one_more o.ones (omega (arith, o.low)) }

    go : (c z o : Bool) → (found braced (n - 1) (i + 1) bs ≡ Some j → Ones (i + 1) j (looked braced (n - 1) (i + 1) bs)) →
        (found braced (n + 1) (i + 1) bs ≡ Some j → Ones (i + 1) j (looked braced (n + 1) (i + 1) bs)) →
        (found braced n (i + 1) bs ≡ Some j → Ones (i + 1) j (looked braced n (i + 1) bs)) →
        by (cond c (cond z (ends (Some i)) (goes (n - 1))) (cond o (goes (n + 1)) (goes n))) (λ o. o) (λ t. found braced t (i + 1) bs) ≡ Some j →
        Ones i j (1 ∷ by (cond c (cond z (ends (Some i)) (goes (n - 1))) (cond o (goes (n + 1)) (goes n))) (λ o. []) (λ t. looked braced t (i + 1) bs))
    go true true o up deeper level e =
        let here : i ≡ j = cc in
        record { low = omega arith; ones = one_more {m = 0} refl (omega arith) }
    go true false o up deeper level e = on (up e)
    go false z true up deeper level e = on (deeper e)
    go false z false up deeper level e = on (level e)

looks_all : (n i : ℕ) (bs : List ℕ) → found braced n i bs ≡ None → looked braced n i bs ≡ replicate (length bs) 1
looks_all n i [] e = refl
looks_all n i (b ∷ bs) e = go (b == 125) (n == 0) (opens b bs) (looks_all (n - 1) (i + 1) bs) (looks_all (n + 1) (i + 1) bs) (looks_all n (i + 1) bs) e
  where
    go : (c z o : Bool) → (found braced (n - 1) (i + 1) bs ≡ None → looked braced (n - 1) (i + 1) bs ≡ replicate (length bs) 1) →
        (found braced (n + 1) (i + 1) bs ≡ None → looked braced (n + 1) (i + 1) bs ≡ replicate (length bs) 1) →
        (found braced n (i + 1) bs ≡ None → looked braced n (i + 1) bs ≡ replicate (length bs) 1) →
        by (cond c (cond z (ends (Some i)) (goes (n - 1))) (cond o (goes (n + 1)) (goes n))) (λ o. o) (λ t. found braced t (i + 1) bs) ≡ None →
        1 ∷ by (cond c (cond z (ends (Some i)) (goes (n - 1))) (cond o (goes (n + 1)) (goes n))) (λ o. []) (λ t. looked braced t (i + 1) bs) ≡ replicate (suc (length bs)) 1
    go true true o up deeper level e = absurd (cc)
    go true false o up deeper level e = one_more (up e) refl
    go false z true up deeper level e = one_more (deeper e) refl
    go false z false up deeper level e = one_more (level e) refl

-- The charges of a search are ones, by the close that it found.
pub looks_found : (bs : List ℕ) (at : ℕ) → Some at ≡ braced_close bs → replicate (at + 1) 1 ≡ braced_looks bs
looks_found bs at e = let one : at + 1 ≡ at + 1 - 0 = omega arith in ap (λ k. replicate k 1) one ∙ sym (looks_to 0 0 bs at (sym e)).ones

pub looks_none : (bs : List ℕ) → None ≡ braced_close bs → replicate (length bs) 1 ≡ braced_looks bs
looks_none bs e = sym (looks_all 0 0 bs (sym e))
