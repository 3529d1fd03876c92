-- A search as far as it has come.
use Rattle.std.proofs.Common.{◌≡◌, ℕ, ◌+◌, ◌<◌, ◌≤◌, List, [], ◌∷◌, length, get_or, drop, Ok, Err, Option, sym, ap, ◌∙◌, arith}
use Rattle.std.proofs.lemmas.List.{at_drop_more, at_drop_all}
use Rattle.budget.specs.declared.WorkBudget.{WorkBudget}
use Rattle.budget.specs.declared.WorkFault.{WorkFault}
use Rattle.budget.proofs.Calls.{Paid, Went, Broke, Left, left_at, left_more, left_none, left_over}
use Rattle.closes.specs.Search.{Turn, ends, goes, Search, by, found, looked}

-- a search by what its first byte does
pub turned : {S : Type 0} (q : Search S) (s : S) (i b : ℕ) (bs : List ℕ) {v : Turn S} → q.turn s i b bs ≡ v → found q s i (b ∷ bs) ≡ by v (λ o. o) (λ t. found q t (i + 1) bs)
turned q s i b bs e = ap (λ v. by v (λ o. o) (λ t. found q t (i + 1) bs)) e

-- The search q, begun at place p in the state s₀, has come past i bytes to the state s and the budget w: what is left gives the rest.
pub record Scan {S : Type 0} (q : Search S) (s₀ : S) (p : ℕ) (bs : List ℕ) (w₀ w : WorkBudget) (s : S) (i : ℕ) : Type 0 where
  pub work : Left w₀ w (looked q s₀ p bs) (looked q s (p + i) (drop i bs))
  pub close : found q s₀ p bs ≡ found q s (p + i) (drop i bs)

module _ {S : Type 0} {q : Search S} {s₀ : S} {p : ℕ} {bs : List ℕ} {w₀ w : WorkBudget} {s : S} {i : ℕ} (r : Scan q s₀ p bs w₀ w s i) where
  -- no byte is left
  pub scan_none : length bs ≤ i → Paid w₀ w (looked q s₀ p bs) (found q s₀ p bs) (Ok (q.none s))
  scan_none h = left_none (left_at r.work (at_drop_all (looked q s (p + i)) bs i h)) (sym (r.close ∙ at_drop_all (found q s (p + i)) bs i h))

  -- a byte is left
  module _ (h : i < length bs) where
    abbrev after : {X : Type 0} → (Option ℕ → X) → (S → X) → X
    after f g = by (q.turn s (p + i) (get_or bs i 0) (drop (i + 1) bs)) f g

    looks_are : looked q s (p + i) (drop i bs) ≡ 1 ∷ after (λ o. []) (λ t. looked q t (p + i + 1) (drop (i + 1) bs))
    looks_are = at_drop_more (looked q s (p + i)) bs i 0 h

    close_is : found q s₀ p bs ≡ after (λ o. o) (λ t. found q t (p + i + 1) (drop (i + 1) bs))
    close_is = r.close ∙ at_drop_more (found q s (p + i)) bs i 0 h

    pub scan_goes : {w' : WorkBudget} {t : S} → Went w w' (1 ∷ []) → q.turn s (p + i) (get_or bs i 0) (drop (i + 1) bs) ≡ goes t → Scan q s₀ p bs w₀ w' t (i + 1)
    scan_goes {w'} {t} e g =
        let rest = drop (i + 1) bs in
        let up : p + i + 1 ≡ p + (i + 1) = omega arith in
        let looks = looks_are ∙ ap (λ v. 1 ∷ by v (λ o. []) (λ t. looked q t (p + i + 1) rest)) g ∙ ap (λ j. 1 ∷ looked q t j rest) up in
        record {
          work = left_more (looked q t (p + (i + 1)) rest) (left_at r.work looks) e;
          close = close_is ∙ ap (λ v. by v (λ o. o) (λ t. found q t (p + i + 1) rest)) g ∙ ap (λ j. found q t j rest) up;
        }

    pub scan_ends : {w' : WorkBudget} {o : Option ℕ} → Went w w' (1 ∷ []) → q.turn s (p + i) (get_or bs i 0) (drop (i + 1) bs) ≡ ends o
        → Paid w₀ w' (looked q s₀ p bs) (found q s₀ p bs) (Ok o)
    scan_ends e g =
        let rest = drop (i + 1) bs in
        let looks = looks_are ∙ ap (λ v. 1 ∷ by v (λ o. []) (λ t. looked q t (p + i + 1) rest)) g in
        left_none (left_more [] (left_at r.work looks) e) (sym (close_is ∙ ap (λ v. by v (λ o. o) (λ t. found q t (p + i + 1) rest)) g))

    pub scan_over : {w' : WorkBudget} {f : WorkFault} → Broke w w' (1 ∷ []) f → Paid w₀ w' (looked q s₀ p bs) (found q s₀ p bs) (Err f)
    scan_over e = left_over (after (λ o. []) (λ t. looked q t (p + i + 1) (drop (i + 1) bs))) (found q s₀ p bs) (left_at r.work looks_are) e
