-- The search in the first bytes, as many as can be charged and one more, gives what the search in all bytes gives.
use Rattle.std.proofs.Common.{◌≡◌, ℕ, zero, suc, ◌+◌, ◌-◌, ◌^◌, ◌<◌, ◌≤◌, max, Bool, true, false, cond, List, [], ◌∷◌, ◌++◌, length, take, replicate, Some, None, Option, sym, refl, ap, ◌∙◌, arith}
use Rattle.std.proofs.lemmas.List.{length-take, take_all}
use Rattle.std.proofs.lemmas.Bool.{ltb-false, ltb-true}
use Rattle.std.specs.Prelude.{◌==◌, nat_lt}
use Rattle.budget.specs.declared.WorkBudget.{WorkBudget}
use Rattle.budget.specs.Charges.{charged, charges, ending, later, over, paid, spent, total_of, works}
use Rattle.budget.proofs.ChargeLaws.{charges_append}
use Rattle.budget.proofs.OnesLaws.{ones_over}
use Rattle.closes.specs.Braced.{braced, braced_close, braced_looks}
use Rattle.closes.specs.Fronts.{opens}
use Rattle.closes.specs.Search.{by, ends, found, goes, looked}
use Rattle.closes.proofs.BracedLaws.{looks_none}

-- what the first byte does, by the tests that are made of it
abbrev next : {X : Type 0} → Bool → Bool → Bool → ℕ → ℕ → (Option ℕ → X) → (ℕ → X) → X
next c z o n i f g = by (cond c (cond z (ends (Some i)) (goes (n - 1))) (cond o (goes (n + 1)) (goes n))) f g

-- A close in the first r bytes is the close of all, and the charges are the same.
record Same (n i k : ℕ) (part bs : List ℕ) : Type 0 where
  pub close : found braced n i bs ≡ Some k
  pub looks : looked braced n i part ≡ looked braced n i bs

same : (n i r : ℕ) (bs : List ℕ) (k : ℕ) → found braced n i (take r bs) ≡ Some k → Same n i k (take r bs) bs
same n i zero bs k e = absurd (cc)
same n i (suc r) [] k e = absurd (cc)
same n i (suc zero) (b ∷ bs) k e =
    let p = go (b == 125) (n == 0) (opens b []) (opens b bs) e in
    record { close = p.0; looks = p.1 }
  where
    go : (c z o p : Bool) → next c z o n i (λ x. x) (λ t. None) ≡ Some k →
        (next c z p n i (λ x. x) (λ t. found braced t (i + 1) bs) ≡ Some k) × (1 ∷ next c z o n i (λ x. []) (λ t. []) ≡ 1 ∷ next c z p n i (λ x. []) (λ t. looked braced t (i + 1) bs))
    go true true o p e = (e, refl)
    go true false o p e = absurd (cc)
    go false z true p e = absurd (cc)
    go false z false p e = absurd (cc)
same n i (suc (suc r)) (b ∷ []) k e = record { close = e; looks = refl }
same n i (suc (suc r)) (b ∷ x ∷ bs) k e =
    let p = go (b == 125) (n == 0) (opens b (x ∷ bs)) (same (n - 1) (i + 1) (suc r) (x ∷ bs) k) (same (n + 1) (i + 1) (suc r) (x ∷ bs) k) (same n (i + 1) (suc r) (x ∷ bs) k) e in
    record { close = p.0; looks = p.1 }
  where
    go : (c z o : Bool)
        → (found braced (n - 1) (i + 1) (x ∷ take r bs) ≡ Some k → Same (n - 1) (i + 1) k (x ∷ take r bs) (x ∷ bs))
        → (found braced (n + 1) (i + 1) (x ∷ take r bs) ≡ Some k → Same (n + 1) (i + 1) k (x ∷ take r bs) (x ∷ bs))
        → (found braced n (i + 1) (x ∷ take r bs) ≡ Some k → Same n (i + 1) k (x ∷ take r bs) (x ∷ bs))
        → next c z o n i (λ x. x) (λ t. found braced t (i + 1) (x ∷ take r bs)) ≡ Some k
        → (next c z o n i (λ x. x) (λ t. found braced t (i + 1) (x ∷ bs)) ≡ Some k)
        × (1 ∷ next c z o n i (λ x. []) (λ t. looked braced t (i + 1) (x ∷ take r bs)) ≡ 1 ∷ next c z o n i (λ x. []) (λ t. looked braced t (i + 1) (x ∷ bs)))
    go true true o up deeper level e = (e, refl)
    go true false o up deeper level e = ((up e).close, ap (λ ks. 1 ∷ ks) (up e).looks)
    go false z true up deeper level e = ((deeper e).close, ap (λ ks. 1 ∷ ks) (deeper e).looks)
    go false z false up deeper level e = ((level e).close, ap (λ ks. 1 ∷ ks) (level e).looks)

-- The charges begin with r ones.
record Begins (r : ℕ) (ks : List ℕ) : Type 0 where
  pub behind : List ℕ
  pub ones : ks ≡ replicate r 1 ++ behind

-- Where the first r bytes have no close, each of them is charged.
onward : (n i r : ℕ) (bs : List ℕ) → r ≤ length bs → found braced n i (take r bs) ≡ None → Begins r (looked braced n i bs)
onward n i zero bs h e = record { behind = looked braced n i bs; ones = refl }
onward n i (suc r) [] h e = absurd (omega arith)
onward n i (suc zero) (b ∷ bs) h e = record { behind = next (b == 125) (n == 0) (opens b bs) n i (λ x. []) (λ t. looked braced t (i + 1) bs); ones = refl }
onward n i (suc (suc r)) (b ∷ []) h e = absurd (omega arith)
onward n i (suc (suc r)) (b ∷ x ∷ bs) h e =
    go (b == 125) (n == 0) (opens b (x ∷ bs)) (onward (n - 1) (i + 1) (suc r) (x ∷ bs) (omega arith)) (onward (n + 1) (i + 1) (suc r) (x ∷ bs) (omega arith)) (onward n (i + 1) (suc r) (x ∷ bs) (omega arith)) e
  where
    more : {ks : List ℕ} → Begins (suc r) ks → Begins (suc (suc r)) (1 ∷ ks)
    more p = record { behind = p.behind; ones = ap (λ ks. 1 ∷ ks) p.ones }

    go : (c z o : Bool)
        → (found braced (n - 1) (i + 1) (x ∷ take r bs) ≡ None → Begins (suc r) (looked braced (n - 1) (i + 1) (x ∷ bs)))
        → (found braced (n + 1) (i + 1) (x ∷ take r bs) ≡ None → Begins (suc r) (looked braced (n + 1) (i + 1) (x ∷ bs)))
        → (found braced n (i + 1) (x ∷ take r bs) ≡ None → Begins (suc r) (looked braced n (i + 1) (x ∷ bs)))
        → next c z o n i (λ x. x) (λ t. found braced t (i + 1) (x ∷ take r bs)) ≡ None
        → Begins (suc (suc r)) (1 ∷ next c z o n i (λ x. []) (λ t. looked braced t (i + 1) (x ∷ bs)))
    go true true o up deeper level e = absurd (cc)
    go true false o up deeper level e = more (up e)
    go false z true up deeper level e = more (deeper e)
    go false z false up deeper level e = more (level e)

-- What the search in the first r bytes comes to: the close and the charges of all, or a refusal that is that of all.
pub data Reached (w : WorkBudget) (bs part : List ℕ) : Type 0 where
  whole : braced_close part ≡ braced_close bs → braced_looks part ≡ braced_looks bs → Reached w bs part
  refused : (t : ℕ) → works w (braced_looks part) ≡ over t → works w (braced_looks bs) ≡ over t → Reached w bs part

module _ (w : WorkBudget) (bs : List ℕ) (r : ℕ) (low : w.total < 2 ^ 64) (within : r ≤ length bs) where
  -- all bytes are reached
  reached_all : r ≡ length bs → Reached w bs (take r bs)
  reached_all e =
      let all : take r bs ≡ bs = take_all r bs (omega arith) in
      whole (ap braced_close all) (ap braced_looks all)

  -- r ones, and whatever follows them, are refused by the same total
  by_ones : 0 < r → w.limit < charged w.total r → (ks : List ℕ) → charges w.limit w.total (replicate r 1 ++ ks) ≡ over (charged (max w.total w.limit) 1)
  by_ones some above ks =
      charges_append w.limit w.total (replicate r 1) ks
      ∙ ap (λ v. later v w.limit ks) (ones_over w.limit w.total r low some above)

  reached_none : 0 < r → w.limit < charged w.total r → braced_close (take r bs) ≡ None → Reached w bs (take r bs)
  reached_none some above e =
      let long : length (take r bs) ≡ r = omega (arith, length-take r bs) in
      let ones : braced_looks (take r bs) ≡ replicate r 1 = sym (looks_none (take r bs) (sym e)) ∙ ap (λ k. replicate k 1) long in
      let p = onward 0 0 r bs within e in
      refused (charged (max w.total w.limit) 1)
      (ap (works w) ones ∙ ones_over w.limit w.total r low some above)
      (ap (works w) p.ones ∙ by_ones some above p.behind)

  pub reached : (r < length bs → (0 < r) × (w.limit < charged w.total r)) → Reached w bs (take r bs)
  reached cut = go (nat_lt r (length bs)) refl (braced_close (take r bs)) refl
    where
      go : (b : Bool) → nat_lt r (length bs) ≡ b → (c : Option ℕ) → braced_close (take r bs) ≡ c → Reached w bs (take r bs)
      go false t c e = reached_all (omega (arith, ltb-false r (length bs) t))
      go true t (Some k) e = let p = same 0 0 r bs k e in whole (e ∙ sym p.close) p.looks
      go true t None e = let h = cut (ltb-true r (length bs) t) in reached_none h.0 h.1 e

-- What the charges of the part say, the charges of all say too.
module _ {w : WorkBudget} {bs part : List ℕ} where
  pub spent_all : Reached w bs part → spent w (braced_looks part) ≡ spent w (braced_looks bs)
  spent_all (whole c l) = ap (spent w) l
  spent_all (refused t p a) = ap (λ v. record { total = total_of v; limit = w.limit }) (p ∙ sym a)

  pub paid_all : Reached w bs part → paid w (braced_looks part) (braced_close part) ≡ paid w (braced_looks bs) (braced_close bs)
  paid_all (whole c l) = ap (λ ks. paid w ks (braced_close part)) l ∙ ap (paid w (braced_looks bs)) c
  paid_all (refused t p a) = ap (λ v. ending v w.limit (braced_close part)) p ∙ sym (ap (λ v. ending v w.limit (braced_close bs)) a)
