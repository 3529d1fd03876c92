-- How the code ends a walk.
use Rattle.std.specs.Prelude.{ℕ, Bool, true, false, List, [], Ok, Err, Result}
use Rattle.std.specs.Borrow.{MutBor}
use Rattle.budget.specs.declared.WorkFault.{WorkFault}
use Rattle.references.specs.declared.error.PropertyError.{PropertyError}
use Rattle.references.specs.declared.error.PropertyError.TheVariants as E
use Rattle.output.specs.declared.Output.{Output}
use Rattle.output.specs.Outputs.{Holds}
use Rattle.answers.specs.declared.OutputTooShort.{OutputTooShort as TooShort}
use Rattle.answers.specs.declared.Answer.{Answer}
use Rattle.answers.specs.declared.Answer.TheVariants.{Unchanged, Replaced}
use Rattle.walk.specs.declared.interpolate.InterpolateError.{InterpolateError}
use Rattle.walk.specs.declared.interpolate.InterpolateError.TheVariants.{Refused, OutputTooShort}

-- a refusal that has a message
abbrev pub has_message : PropertyError → Bool
has_message (E.Unresolved name) = false
has_message (E.InvalidName part) = false
has_message (E.RequiredButUnset name len) = true
has_message (E.RequiredButEmpty name len) = true
has_message (E.ExpansionDepthLimitExceeded depth limit) = false
has_message (E.ExpansionWorkLimitExceeded work limit) = false

-- whether the output area is to keep what was put out
abbrev pub has_text : Result (Unit {0}) PropertyError → Bool → Bool
has_text (Ok r) changed = changed
has_text (Err e) changed = has_message e

-- what was put out is kept, or cleared
abbrev pub kept : Bool → List ℕ → List ℕ
kept true text = text
kept false text = []

abbrev pub Settles : Bool → Output → Output → Type 0
Settles keeps before after = (lent : MutBor (List ℕ)) (text : List ℕ) → Holds before lent text → Holds after lent (kept keeps text)

-- the answer, by whether the text fits
abbrev pub answer_by : Result (Unit {0}) PropertyError → Bool → ℕ → Result Answer InterpolateError
answer_by (Ok r) true len = Ok (Replaced len)
answer_by (Ok r) false len = Ok Unchanged
answer_by (Err e) changed len = Err (Refused e)

abbrev pub answer_fit : Result (Unit {0}) PropertyError → Bool → Result ℕ TooShort → Result Answer InterpolateError
answer_fit walked changed (Ok len) = answer_by walked changed len
answer_fit walked changed (Err short) = Err (OutputTooShort short.needed)

-- the answer for a text without `$`, by whether its charge was taken
abbrev pub answer_kept : Result (Unit {0}) WorkFault → Result Answer InterpolateError
answer_kept (Ok r) = Ok Unchanged
answer_kept (Err f) = Err (Refused (E.ExpansionWorkLimitExceeded f.work f.limit))
