-- A reference in braces, read step by step: the close, the name, the operator.
use Rattle.std.proofs.Common.{◌≡◌, ℕ, ◌<◌, ◌≤◌, List, [], ◌++◌, length, take, IfSome, Some, Ok, Err, Option, sym, ap, ◌∙◌, subst, append-nil, arith, length-drop}
use Rattle.std.proofs.lemmas.Bool.Decides.{nat_tests}
use Rattle.budget.specs.declared.WorkBudget.{WorkBudget}
use Rattle.budget.specs.declared.WorkFault.{WorkFault}
use Rattle.budget.specs.Charges.{paid, spent}
use Rattle.budget.proofs.Calls.{Left, Paid, Went, broke, went, left_all, left_at, left_more, left_none, left_over}
use Rattle.names.specs.declared.PropertySyntax.{PropertySyntax}
use Rattle.names.specs.Reads.{name_at, name_looks}
use Rattle.closes.specs.Closes.{close, close_looks}
use Rattle.references.specs.Braces.{Brace, brace, brace_looks, name_charges, with_close, with_name}
use Rattle.references.specs.Operators.{Op, op_at}
use Rattle.references.specs.Reads.{word_len}

module _ (w₀ : WorkBudget) {w : WorkBudget} (s : PropertySyntax) (bs : List ℕ) (work : w ≡ spent w₀ (close_looks s bs)) where
  -- the search for the close was refused
  pub close_over : {f : WorkFault} → Err f ≡ paid w₀ (close_looks s bs) (close s bs) → Paid w₀ w (brace_looks s bs) (brace s bs) (Err f)
  close_over says =
      let p = broke w₀ w (close_looks s bs) work (close s bs) says in
      left_over (name_charges s bs (close s bs)) (brace s bs) (left_all w₀ (brace_looks s bs)) p

  -- it found the place k
  module _ {o : Option ℕ} {k : ℕ} (says : Ok o ≡ paid w₀ (close_looks s bs) (close s bs)) (is : o ≡ Some k) where
    found : Went w₀ w (close_looks s bs) × (o ≡ close s bs)
    found = went w₀ w (close_looks s bs) work (close s bs) says

    at : close s bs ≡ Some k
    at = sym found.1 ∙ is

    left_name : Left w₀ w (brace_looks s bs) (name_looks s (take k bs) ++ [])
    left_name =
        let left = left_more (name_charges s bs (close s bs)) (left_all w₀ (brace_looks s bs)) found.0 in
        left_at left (ap (name_charges s bs) at ∙ sym (append-nil _))

    module _ {w₂ : WorkBudget} (spends : w₂ ≡ spent w (name_looks s (take k bs))) where
      -- the reading of the name was refused
      pub name_over : {f : WorkFault} → Err f ≡ paid w (name_looks s (take k bs)) (name_at s (take k bs)) → Paid w₀ w₂ (brace_looks s bs) (brace s bs) (Err f)
      name_over e = left_over [] (brace s bs) left_name (broke w w₂ (name_looks s (take k bs)) spends (name_at s (take k bs)) e)

      -- the name was read
      module _ {n p : Option (List ℕ × List ℕ)} (e : Ok n ≡ paid w (name_looks s (take k bs)) (name_at s (take k bs))) (h : n ≡ p) where
        read : Went w w₂ (name_looks s (take k bs)) × (n ≡ name_at s (take k bs))
        read = went w w₂ (name_looks s (take k bs)) spends (name_at s (take k bs)) e

        pub name_is : p ≡ name_at s (take k bs)
        name_is = sym h ∙ read.1

        pub named : {b : Brace} → b ≡ with_name k p → Paid w₀ w₂ (brace_looks s bs) (brace s bs) (Ok b)
        named i = left_none (left_more [] left_name read.0) (i ∙ ap (with_name k) name_is ∙ sym (ap (with_close s bs) at))

-- a place that was found lies within
pub inside : {o : Option ℕ} {k : ℕ} (n : ℕ) → o ≡ Some k → IfSome o (λ j. j < n) → k < n
inside {o} {k} n e h = subst (λ q. IfSome q (λ j. j < n)) e h

-- a word lies behind its operator
pub op_fits : (rest : List ℕ) (op : Op) → Some op ≡ op_at rest → word_len op ≤ length rest
op_fits rest op e = grind (arith, nat_tests, length-drop)
