-- Charged calls in a row: what each answer says of the charges that are left.
use Rattle.std.proofs.Common.{◌≡◌, ℕ, List, [], ◌++◌, Ok, Err, Result, sym, refl, ap, ◌∙◌, arith}
use Rattle.budget.specs.declared.WorkBudget.{WorkBudget}
use Rattle.budget.specs.declared.WorkFault.{WorkFault}
use Rattle.budget.specs.Charges.{charges, Work, taken, over, total_of, later, works, ending, paid, spent}
use Rattle.budget.proofs.ChargeLaws.{charges_append}

-- A call with the charges ks came from the budget w to w', and answered r; y is its answer if all are taken.
pub record Paid {X : Type 0} (w w' : WorkBudget) (ks : List ℕ) (y : X) (r : Result X WorkFault) : Type 0 where
  pub says : r ≡ paid w ks y
  pub work : w' ≡ spent w ks

-- The charges ks were taken.
pub record Went (w w' : WorkBudget) (ks : List ℕ) : Type 0 where
  pub on : (js : List ℕ) → works w (ks ++ js) ≡ works w' js
  pub limit : w'.limit ≡ w.limit

-- One of the charges ks was refused.
pub record Broke (w w' : WorkBudget) (ks : List ℕ) (f : WorkFault) : Type 0 where
  pub off : (js : List ℕ) → works w (ks ++ js) ≡ over w'.total
  pub fault : f ≡ record { work = w'.total; limit = w.limit }
  pub limit : w'.limit ≡ w.limit

-- which of the two it was, by the answer of the call
module _ (w w' : WorkBudget) (ks : List ℕ) (h : w' ≡ spent w ks) where
  total : (x : Work) → works w ks ≡ x → w'.total ≡ total_of x
  total x e = ap (λ (v : WorkBudget). v.total) h ∙ ap total_of e

  limit : w'.limit ≡ w.limit
  limit = ap (λ (v : WorkBudget). v.limit) h

  joined : (js : List ℕ) (x : Work) → works w ks ≡ x → works w (ks ++ js) ≡ later x w.limit js
  joined js x e = charges_append w.limit w.total ks js ∙ ap (λ v. later v w.limit js) e

  pub went : {X : Type 0} {x : X} (y : X) → Ok x ≡ paid w ks y → Went w w' ks × (x ≡ y)
  went {X} {x} y e = go (works w ks) refl e
    where
      go : (v : Work) → works w ks ≡ v → Ok x ≡ ending v w.limit y → Went w w' ks × (x ≡ y)
      go (taken t) g e =
          let here = total (taken t) g in
          (record { on = λ js. joined js (taken t) g ∙ ap (λ n. charges w.limit n js) (sym here) ∙ ap (λ l. charges l w'.total js) (sym limit); limit = limit }, cc)
      go (over t) g e = let z : ◌≡◌ {A = ℕ} 0 1 = cc in absurd (omega arith)

  pub broke : {X : Type 0} {f : WorkFault} (y : X) → Err f ≡ paid w ks y → Broke w w' ks f
  broke {X} {f} y e = go (works w ks) refl e
    where
      go : (v : Work) → works w ks ≡ v → Err f ≡ ending v w.limit y → Broke w w' ks f
      go (taken t) g e = let z : ◌≡◌ {A = ℕ} 0 1 = cc in absurd (omega arith)
      go (over t) g e =
          let here = sym (total (over t) g) in
          let f_is : f ≡ record { work = t; limit = w.limit } = cc in
          record { off = λ js. joined js (over t) g ∙ ap over here; fault = f_is ∙ ap (λ n. record { work = n; limit = w.limit }) here; limit = limit }

-- Of the charges ks against w₀, those of js are left, against w.
pub record Left (w₀ w : WorkBudget) (ks js : List ℕ) : Type 0 where
  pub limit : w.limit ≡ w₀.limit
  pub work : works w₀ ks ≡ works w js

pub left_all : (w : WorkBudget) (ks : List ℕ) → Left w w ks ks
left_all w ks = record { limit = refl; work = refl }

-- a budget by its parts
built : (w w' : WorkBudget) (ks : List ℕ) (x : Work) → works w ks ≡ x → w'.total ≡ total_of x → w'.limit ≡ w.limit → w' ≡ spent w ks
built w w' ks x e t l =
    ap (λ a. record { total = a; limit = w'.limit }) (t ∙ ap total_of (sym e)) ∙ ap (λ a. record { total = total_of (works w ks); limit = a }) l

module _ {w₀ w : WorkBudget} {ks : List ℕ} where
  pub left_at : {js is : List ℕ} → Left w₀ w ks js → js ≡ is → Left w₀ w ks is
  left_at p e = record { limit = p.limit; work = p.work ∙ ap (works w) e }

  -- the next of them are taken
  pub left_more : {w' : WorkBudget} {js : List ℕ} (is : List ℕ) → Left w₀ w ks (js ++ is) → Went w w' js → Left w₀ w' ks is
  left_more is p q = record { limit = q.limit ∙ p.limit; work = p.work ∙ q.on is }

  -- none is left: all are taken
  pub left_none : {X : Type 0} {x y : X} → Left w₀ w ks [] → x ≡ y → Paid w₀ w ks y (Ok x)
  left_none {X} {x} {y} p e =
      record { says = ap Ok e ∙ sym (ap (λ a. ending a w₀.limit y) p.work); work = built w₀ w ks (taken w.total) p.work refl p.limit }

  -- one of the next is refused
  pub left_over : {X : Type 0} {w' : WorkBudget} {f : WorkFault} {js : List ℕ} (is : List ℕ) (y : X) → Left w₀ w ks (js ++ is) → Broke w w' js f → Paid w₀ w' ks y (Err f)
  left_over {X} {w'} is y p q =
      let off = p.work ∙ q.off is in
      record {
        says = ap Err (q.fault ∙ ap (λ l. record { work = w'.total; limit = l }) p.limit) ∙ sym (ap (λ a. ending a w₀.limit y) off);
        work = built w₀ w' ks (over w'.total) off refl (q.limit ∙ p.limit);
      }

  -- the last call has all that are left
  pub left_last : {X : Type 0} {w' : WorkBudget} {r : Result X WorkFault} (js : List ℕ) (y : X) → Left w₀ w ks js → r ≡ paid w js y → w' ≡ spent w js → Paid w₀ w' ks y r
  left_last js y p e h =
      record {
        says = e ∙ ap (λ l. ending (works w js) l y) p.limit ∙ sym (ap (λ a. ending a w₀.limit y) p.work);
        work = h ∙ ap (λ l. record { total = total_of (works w js); limit = l }) p.limit ∙ sym (ap (λ a. record { total = total_of a; limit = w₀.limit }) p.work);
      }

-- What is charged first and answered then: the answer stands where all is taken, and the refusal is the charges' own.
module _ {X : Type 0} (w : WorkBudget) (ks : List ℕ) (y : X) where
  pub all_taken : {x : Unit {0}} → Ok x ≡ paid w ks tt → Ok y ≡ paid w ks y
  all_taken {x} e = go (works w ks) e
    where
      go : (v : Work) → Ok x ≡ ending v w.limit tt → Ok y ≡ ending v w.limit y
      go (taken t) e = refl
      go (over t) e = absurd (cc)

  pub one_refused : {f : WorkFault} → Err f ≡ paid {X = Unit {0}} w ks tt → Err f ≡ paid w ks y
  one_refused {f} e = go (works w ks) e
    where
      go : (v : Work) → Err f ≡ ending {X = Unit {0}} v w.limit tt → Err f ≡ ending v w.limit y
      go (taken t) e = absurd (cc)
      go (over t) e = cc
