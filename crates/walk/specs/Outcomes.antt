-- What the call tells, by the outcome of the walk.
use Rattle.std.specs.Prelude.{ℕ, ◌+◌, ◌/◌, true, false, cond, List, [], Option, nat_lt}
use Rattle.text.specs.Texts.{text_max}
use Rattle.budget.specs.declared.WorkBudget.{WorkBudget}
use Rattle.names.specs.declared.PropertySyntax.{PropertySyntax}
use Rattle.source.specs.Shapes.{shapes}
use Rattle.items.specs.Pieces.{spelled}
use Rattle.answers.specs.Told.{Told, unchanged, replaced, refused, fitting}
use Rattle.expansion.specs.Walks.{Limits, Outcome, ended, stopped, walk}
use Rattle.walk.specs.declared.interpolate.InterpolateError.{InterpolateError}
use Rattle.walk.specs.declared.interpolate.InterpolateError.TheVariants.{TextTooLong, TooFewFrames, Refused, OutputTooShort}

abbrev pub limits : ℕ → ℕ → Limits
limits depth work = record { depth = depth; work = work }

-- the outcome of the walk over a text, by what names mean, the depth limit and the work budget
abbrev pub walk_of : (List ℕ → Option (List ℕ)) → PropertySyntax → ℕ → WorkBudget → List ℕ → Outcome
walk_of means s depth work text = walk (shapes means) s (limits depth work.limit) work.total text

-- What is told of an outcome, with an output area of `room` bytes; v is what each name stands for.
abbrev pub told_by : (v : List ℕ → List ℕ) → (room : ℕ) → Outcome → Told InterpolateError
told_by v room (ended t true ps) = fitting room OutputTooShort (spelled v ps) (replaced (spelled v ps))
told_by v room (ended t false ps) = unchanged
told_by v room (stopped t e message) = fitting room OutputTooShort message (refused (Refused e) message)

abbrev pub total_left : Outcome → ℕ
total_left (ended t changed ps) = t
total_left (stopped t e message) = t

-- how many frames a text of n bytes needs
abbrev pub frames_needed : ℕ → ℕ
frames_needed n = n / 5 + 1

-- A text of n bytes is refused before anything is done: it is too long, or there are too few frames.
abbrev pub unless_refused : {X : Type 0} → (n slots : ℕ) → (long few : X) → X → X
unless_refused n slots long few x = cond (nat_lt text_max n) long (cond (nat_lt slots (frames_needed n)) few x)

-- what the call tells, and the work total that it leaves
abbrev pub call_told : (v : List ℕ → List ℕ) → (n slots room : ℕ) → Outcome → Told InterpolateError
call_told v n slots room whole = unless_refused n slots (refused TextTooLong []) (refused (TooFewFrames (frames_needed n)) []) (told_by v room whole)

abbrev pub call_total : (n slots t : ℕ) → Outcome → ℕ
call_total n slots t whole = unless_refused n slots t t (total_left whole)
