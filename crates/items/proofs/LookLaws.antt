-- From what was read to what stands at the place.
use Rattle.std.proofs.Common.{◌≡◌, ℕ, ◌+◌, List, Ok, Err, Result, ap, arith, refl, sym}
use Rattle.budget.specs.declared.WorkBudget.{WorkBudget}
use Rattle.budget.specs.declared.WorkFault.{WorkFault}
use Rattle.budget.specs.Charges.{Work, ending, over, paid, taken, works}
use Rattle.references.specs.declared.error.PropertyError.{PropertyError}
use Rattle.references.specs.declared.error.PropertyError.TheVariants.{ExpansionWorkLimitExceeded}
use Rattle.items.specs.Items.{Act, Item}
use Rattle.items.specs.Looks.{acted, judged, looking, with_next}
use Rattle.items.specs.Reading.{Done, done}

-- an item of which all charges were taken is answered by what is done
pub done_looking : {a : Act} {more : ℕ} (w : WorkBudget) (i : ℕ) (it : Item) → Ok (record { act = a; more = more }) ≡ paid w it.looks (done it) → looking w i it ≡ with_next (acted a) (i + 1 + more)
done_looking {a} {more} w i it e = go (works w it.looks) e
  where
    go : (v : Work) → Ok (record { act = a; more = more }) ≡ ending v w.limit (done it) → judged v w.limit (with_next (acted it.act) (i + 1 + it.more)) ≡ with_next (acted a) (i + 1 + more)
    go (taken t) h = let same : record { act = a; more = more } ≡ done it = cc in ap (λ (x : Done). with_next (acted x.act) (i + 1 + x.more)) (sym same)
    go (over t) h = let z : ◌≡◌ {A = ℕ} 0 1 = cc in absurd (omega arith)

-- an answer once all charges were taken, and at one that was not
pub judged_taken : {X Y : Type 0} {x : Y} (w : WorkBudget) (ks : List ℕ) (y : Y) (r : Result X PropertyError) → Ok x ≡ paid w ks y → r ≡ judged (works w ks) w.limit r
judged_taken {X} {Y} {x} w ks y r e = go (works w ks) e
  where
    go : (v : Work) → Ok x ≡ ending v w.limit y → r ≡ judged v w.limit r
    go (taken t) h = refl
    go (over t) h = let z : ◌≡◌ {A = ℕ} 0 1 = cc in absurd (omega arith)

pub judged_over : {X Y : Type 0} {f : WorkFault} (w : WorkBudget) (ks : List ℕ) (y : Y) (r : Result X PropertyError) → Err f ≡ paid w ks y
    → Err (ExpansionWorkLimitExceeded f.work f.limit) ≡ judged (works w ks) w.limit r
judged_over {X} {Y} {f} w ks y r e = go (works w ks) e
  where
    go : (v : Work) → Err f ≡ ending v w.limit y → Err (ExpansionWorkLimitExceeded f.work f.limit) ≡ judged v w.limit r
    go (taken t) h = let z : ◌≡◌ {A = ℕ} 0 1 = cc in absurd (omega arith)
    go (over t) h = let same : f ≡ record { work = t; limit = w.limit } = cc in ap (λ (g : WorkFault). Err (ExpansionWorkLimitExceeded g.work g.limit)) same
