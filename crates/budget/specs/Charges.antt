-- Charges against a limit.
use Rattle.std.specs.Prelude.{ℕ, ◌+◌, ◌-◌, ◌^◌, min, cond, List, [], ◌∷◌, Ok, Err, Result, nat_lt}
use Rattle.budget.specs.declared.WorkBudget.{WorkBudget}
use Rattle.budget.specs.declared.WorkFault.{WorkFault}

-- the total after a charge: no more than 2^64 - 1
abbrev pub charged : ℕ → ℕ → ℕ
charged t k = min (t + k) (2 ^ 64 - 1)

-- Charges in order, up to the first that passes the limit: the last total, and whether all were taken.
pub data Work : Type 0 where
  taken : ℕ → Work
  over : ℕ → Work

-- charges against a limit, from a total t
abbrev pub charges : ℕ → ℕ → List ℕ → Work
charges limit t [] = taken t
charges limit t (k ∷ ks) = cond (nat_lt limit (charged t k)) (over (charged t k)) (charges limit (charged t k) ks)

-- the last total
abbrev pub total_of : Work → ℕ
total_of (taken t) = t
total_of (over t) = t

-- charges after others: they start from the total of those, if all of those were taken
abbrev pub later : Work → ℕ → List ℕ → Work
later (taken t) limit ks = charges limit t ks
later (over t) limit ks = over t

-- charges against a budget
abbrev pub works : WorkBudget → List ℕ → Work
works w ks = charges w.limit w.total ks

-- the budget after charges
abbrev pub spent : WorkBudget → List ℕ → WorkBudget
spent w ks = record { total = total_of (works w ks); limit = w.limit }

-- x where all charges were taken, else the fault
abbrev pub ending : {X : Type 0} → Work → ℕ → X → Result X WorkFault
ending (taken t) limit x = Ok x
ending (over t) limit x = Err (record { work = t; limit = limit })

-- what a call answers that makes charges: x where all were taken, else the fault
abbrev pub paid : {X : Type 0} → WorkBudget → List ℕ → X → Result X WorkFault
paid w ks x = ending (works w ks) w.limit x
