-- What a call of a session tells, and what it leaves.
use Rattle.std.specs.Prelude.{◌≡◌, ℕ, Bool, cond, List, [], length, Ok, Err, Option, Result, nat_lt}
use Rattle.text.specs.Texts.{text_verdict}
use Rattle.text.specs.declared.TextError.{TextError}
use Rattle.answers.specs.Told.{Told, unchanged, replaced, refused, answer_of, area_of}
use Rattle.answers.specs.declared.Answer.{Answer}
use Rattle.names.specs.declared.PropertySyntax.{PropertySyntax}
use Rattle.names.specs.declared.PropertySyntax.TheVariants.{Braced, BracedOrBare, DockerCompose}
use Rattle.source.specs.Shapes.{shapes, values}
use Rattle.scopes.specs.Notes.{PairMemory, noted, unplaced}
use Rattle.expansion.specs.Walks.{Limits, Outcome, walk}
use Rattle.walk.specs.Outcomes.{frames_needed, told_by, total_left}
use Rattle.walk.specs.declared.interpolate.InterpolateError.{InterpolateError}
use Rattle.session.specs.Refusals.{call_error}
use Rattle.session.specs.declared.error.CallError.{CallError}
use Rattle.session.specs.declared.error.CallError.TheVariants.{BadPairs, PairsFull, Text, TooFewFrames}

-- What a call goes by, besides its text, the source, the pair memory and the work total: the session's syntax and limits, how many frames it is lent, and how long the output area is.
pub record Settings : Type 0 where
  pub syntax : PropertySyntax
  pub limits : Limits
  pub frames : ℕ
  pub area : ℕ

-- What a call tells, and the work total after it.
abbrev pub Called : Type 0
Called = Told CallError × ℕ

infixr 20 ◌then◌
-- One check, and then another.
abbrev pub ◌then◌ : Result (Unit {0}) CallError → Result (Unit {0}) CallError → Result (Unit {0}) CallError
Ok u then next = next
Err e then next = Err e

abbrev pub text_checked : Result (Unit {0}) TextError → Result (Unit {0}) CallError
text_checked (Ok u) = Ok u
text_checked (Err e) = Err (Text e)

-- how many frames there are, for a text of n bytes
abbrev pub frames_checked : ℕ → ℕ → Result (Unit {0}) CallError
frames_checked frames n = cond (nat_lt frames (frames_needed n)) (Err (TooFewFrames (frames_needed n))) (Ok tt)

abbrev pub pairs_checked : Bool → Result (Unit {0}) CallError
pairs_checked sound = cond sound (Ok tt) (Err BadPairs)

-- Before anything is charged: the text, the frames and the pair memory are checked, in this order.
abbrev pub call_checked : ℕ → Bool → (text : List ℕ) → Result (Unit {0}) CallError
call_checked frames sound text = text_checked (text_verdict text) then frames_checked frames (length text) then pairs_checked sound

-- x, unless the check refuses
abbrev pub if_passed : {X : Type 0} → Result (Unit {0}) CallError → (CallError → X) → X → X
if_passed (Ok u) deny x = x
if_passed (Err e) deny x = deny e

-- what the walk tells, as the call's
abbrev pub as_call : Told InterpolateError → Told CallError
as_call unchanged = unchanged
as_call (replaced r) = replaced r
as_call (refused e message) = refused (call_error e) message

-- a text whose pair finds no room is refused
abbrev pub if_placed : (List ℕ → Bool) → Told CallError → Told CallError
if_placed unplaced unchanged = unchanged
if_placed unplaced (replaced r) = cond (unplaced r) (refused PairsFull []) (replaced r)
if_placed unplaced (refused e message) = refused e message

-- a refusal that leaves the total as it is
abbrev pub refusing : ℕ → CallError → Called
refusing t e = (refused e [], t)

-- `sound`: the pair memory is; `unplaced r`: the pair of the text with the result r is to be recorded, and there is no room for it
module _ (means : List ℕ → Option (List ℕ)) (s : Settings) (sound : Bool) (unplaced : List ℕ → Bool) (t : ℕ) (text : List ℕ) where
  abbrev pub outcome : Outcome
  outcome = walk (shapes means) s.syntax s.limits t text

  -- the walk's outcome, once its pair is noted
  abbrev pub walk_called : Called
  walk_called = (if_placed unplaced (as_call (told_by (values means) s.area outcome)), total_left outcome)

  abbrev pub value_called : Called
  value_called = if_passed (call_checked s.frames sound text) (refusing t) walk_called

  -- under DockerCompose a key has no references
  abbrev pub key_walked : PropertySyntax → Called
  key_walked Braced = walk_called
  key_walked BracedOrBare = walk_called
  key_walked DockerCompose = (unchanged, t)

  abbrev pub key_called : Called
  key_called = if_passed (call_checked s.frames sound text) (refusing t) (key_walked s.syntax)

-- The pair memory after a call: a replaced text is noted with its result.
abbrev pub heard : PairMemory → (text : List ℕ) → Told CallError → PairMemory
heard y text unchanged = y
heard y text (replaced r) = noted y (text, r)
heard y text (refused e message) = y

-- The memory after what was told of a text t is noted: t itself, or the refusal where there is no room for the pair.
pub record Noted (y : PairMemory) (text : List ℕ) (t : Told CallError) (n : ℕ) (r : Result Answer CallError) (left : List ℕ) (z : PairMemory) : Type 0 where
  pub answer : r ≡ answer_of (if_placed (λ r. unplaced y (text, r)) t)
  pub area : left ≡ area_of n (if_placed (λ r. unplaced y (text, r)) t)
  pub pairs : z ≡ heard y text (if_placed (λ r. unplaced y (text, r)) t)
