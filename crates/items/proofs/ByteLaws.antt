-- The byte at a place, charged first.
use Rattle.std.proofs.Common.{◌≡◌, ℕ, ◌+◌, [], ◌∷◌, Err, sym, ap, ◌∙◌}
use Rattle.budget.specs.declared.WorkBudget.{WorkBudget}
use Rattle.budget.specs.declared.WorkFault.{WorkFault}
use Rattle.budget.specs.Charges.{spent, works}
use Rattle.budget.proofs.Calls.{Broke, Went, left_all, left_over}
use Rattle.references.specs.declared.error.PropertyError.TheVariants.{ExpansionWorkLimitExceeded}
use Rattle.items.specs.Items.{Item}
use Rattle.items.specs.Looks.{acted, judged, looking, with_next}
use Rattle.items.proofs.LookLaws.{judged_over}

-- one is charged before what an item charges
abbrev pub one : Item → Item
one it = record { looks = 1 ∷ it.looks; act = it.act; more = it.more }

-- one was charged, and then the rest of an item
module _ {w w₁ : WorkBudget} (i : ℕ) (it : Item) where
  pub then_one : Went w w₁ (1 ∷ []) → looking w₁ i it ≡ looking w i (one it)
  then_one p =
      ap (λ l. judged (works w₁ it.looks) l (with_next (acted it.act) (i + 1 + it.more))) p.limit
      ∙ ap (λ v. judged v w.limit (with_next (acted it.act) (i + 1 + it.more))) (sym (p.on it.looks))

  pub over_one : {f : WorkFault} → Broke w w₁ (1 ∷ []) f
      → (Err (ExpansionWorkLimitExceeded f.work f.limit) ≡ looking w i (one it)) × (w₁ ≡ spent w (one it).looks)
  over_one p =
      let o = left_over {X = ℕ} it.looks 0 (left_all w (one it).looks) p in
      (judged_over {Y = ℕ} w (one it).looks 0 _ o.says, o.work)
