-- A session: as it is made, what its calls tell, and as they leave it.
use Rattle.std.specs.Prelude.{◌≡◌, ℕ, Bool, List, length, None, Ok, Err, Option, Result}
use Rattle.answers.specs.Told.{answer_of, area_of}
use Rattle.answers.specs.declared.Answer.{Answer}
use Rattle.budget.specs.declared.WorkBudget.{WorkBudget}
use Rattle.names.specs.declared.PropertySyntax.{PropertySyntax}
use Rattle.scopes.specs.Marks.{sound}
use Rattle.scopes.specs.Notes.{PairMemory, unplaced}
use Rattle.source.specs.Shapes.{values}
use Rattle.expansion.specs.Walks.{Outcome}
use Rattle.walk.specs.Outcomes.{call_told, call_total, limits, walk_of}
use Rattle.session.specs.Breaches.{kept_breach}
use Rattle.session.specs.Calls.{Called, Settings, as_call, heard, if_placed, key_called, value_called}
use Rattle.session.specs.declared.breach.BudgetBreach.{BudgetBreach}
use Rattle.session.specs.declared.error.CallError.{CallError}
use Rattle.session.specs.declared.error.KeyError.{KeyError}
use Rattle.session.specs.declared.error.ValueError.{ValueError}
use Rattle.session.specs.declared.session.PropertyInterpolation.{PropertyInterpolation}

-- no work done, and no limit passed
abbrev pub made : {S : Type 0} → S → PropertySyntax → ℕ → ℕ → PropertyInterpolation S
made source s depth work = record { source = source; syntax = s; max_expansion_depth = depth; work = record { total = 0; limit = work }; breach = None }

-- what a call goes by, with so many frames and an output area so long
abbrev pub settings : {S : Type 0} → PropertyInterpolation S → (frames area : ℕ) → Settings
settings p frames area = record { syntax = p.syntax; limits = limits p.max_expansion_depth p.work.limit; frames = frames; area = area }

-- the records in use are there, and lie inside the pair bytes
abbrev pub is_sound : PairMemory → Bool
is_sound y = sound y.marks y.records (length y.bytes)

-- What a key call and a value call on a session tell, by what its source means, with the pair memory y.
module _ {S : Type 0} (means : S → List ℕ → Option (List ℕ)) (p : PropertyInterpolation S) (y : PairMemory) (frames area : ℕ) (text : List ℕ) where
  abbrev pub key_call : Called
  key_call = key_called (means p.source) (settings p frames area) (is_sound y) (λ r. unplaced y (text, r)) p.work.total text

  abbrev pub value_call : Called
  value_call = value_called (means p.source) (settings p frames area) (is_sound y) (λ r. unplaced y (text, r)) p.work.total text

-- What the walk's call comes to, once its pair is noted, whether or not the text was checked.
module _ {S : Type 0} (means : S → List ℕ → Option (List ℕ)) (p : PropertyInterpolation S) (y : PairMemory) (frames area : ℕ) (text : List ℕ) where
  abbrev pub whole : Outcome
  whole = walk_of (means p.source) p.syntax p.max_expansion_depth p.work text

  abbrev pub passed_call : Called
  passed_call =
      (if_placed (λ r. unplaced y (text, r)) (as_call (call_told (values (means p.source)) (length text) frames area whole)), call_total (length text) frames p.work.total whole)

-- the session with other work, with another total, and with another breach
abbrev pub with_work : {S : Type 0} → PropertyInterpolation S → WorkBudget → PropertyInterpolation S
with_work p w = record { source = p.source; syntax = p.syntax; max_expansion_depth = p.max_expansion_depth; work = w; breach = p.breach }

abbrev pub with_total : {S : Type 0} → PropertyInterpolation S → ℕ → PropertyInterpolation S
with_total p t = with_work p (record { total = t; limit = p.work.limit })

abbrev pub with_breach : {S : Type 0} → PropertyInterpolation S → Option BudgetBreach → PropertyInterpolation S
with_breach p b = record { source = p.source; syntax = p.syntax; max_expansion_depth = p.max_expansion_depth; work = p.work; breach = b }

-- The session after a call: its total, and the first limit passed.
abbrev pub after_call : {S : Type 0} → PropertyInterpolation S → Called → PropertyInterpolation S
after_call p called = with_breach (with_total p called.1) (kept_breach p.breach (answer_of called.0))

-- a refusal says key or value
abbrev pub as_key : Result Answer CallError → Result Answer KeyError
as_key (Ok a) = Ok a
as_key (Err e) = Err (record { 0 = e })

abbrev pub as_value : Result Answer CallError → Result Answer ValueError
as_value (Ok a) = Ok a
as_value (Err e) = Err (record { 0 = e })

-- A call that told `called` of a text, from the session p, the pair memory y and the output area `before` to q, z and `after`. The breach is not kept yet.
pub record Leaves {S : Type 0} (p : PropertyInterpolation S) (y : PairMemory) (before text : List ℕ) (called : Called) (r : Result Answer CallError) (q : PropertyInterpolation S) (z : PairMemory) (after : List ℕ) : Type 0 where
  pub answer : r ≡ answer_of called.0
  pub session : q ≡ with_total p called.1
  pub area : after ≡ area_of (length before) called.0
  pub pairs : z ≡ heard y text called.0
