-- How the code's account of a redaction is read.
use Rattle.std.specs.Prelude.{◌≡◌, ℕ, true, false, List, length, take, Option, None, Some, Result, Ok, Err}
use Rattle.std.specs.Borrow.{GName}
use Rattle.answers.specs.declared.Answer.{Answer}
use Rattle.answers.specs.declared.Answer.TheVariants.{Replaced, Unchanged}
use Rattle.answers.specs.declared.OutputTooShort.{OutputTooShort}
use Rattle.redaction.specs.Redactions.{State}
use Rattle.redaction.specs.Redactions.State.{fallen, going, short}
use Rattle.redaction.specs.declared.draft.Draft.{Draft}
use Rattle.redaction.specs.declared.draft.Unmade.{Unmade}
use Rattle.redaction.specs.declared.draft.Unmade.TheVariants.{Often, TooShort}

-- A redaction that goes on: with the text given, or with one of that length that was made at the front of the area.
abbrev pub going_on : List ℕ → List ℕ → Option ℕ → State
going_on given area None = going false given
going_on given area (Some len) = going true (take len area)

-- One that was given up.
abbrev pub given_up : Unmade → State
given_up Often = fallen
given_up (TooShort m) = short m

-- After all steps: with the length of the text that was made, if any.
abbrev pub outcome : List ℕ → List ℕ → Result (Option ℕ) Unmade → State
outcome given area (Ok made) = going_on given area made
outcome given area (Err e) = given_up e

abbrev pub state_of : Draft → State
state_of d = going_on d.given.now d.area.now d.made

-- After a step that may have given it up.
abbrev pub ending : Draft → Result (Unit {0}) Unmade → State
ending d (Ok u) = state_of d
ending d (Err e) = given_up e

-- The text as it stands.
abbrev pub text_in : List ℕ → List ℕ → Option ℕ → List ℕ
text_in given area None = given
text_in given area (Some len) = take len area

abbrev pub standing : Draft → List ℕ
standing d = text_in d.given.now d.area.now d.made

-- Which loan the area is.
abbrev pub loan : Draft → GName
loan d = d.area.ghost_name

-- The text given stays, and it is the same area still.
pub record Kept (old new : Draft) : Type 0 where
  pub given : new.given.now ≡ old.given.now
  pub room : length new.area.now ≡ length old.area.now
  pub lender : loan new ≡ loan old

-- How many bytes an answer gives.
abbrev pub shown_len : Result Answer OutputTooShort → ℕ
shown_len (Ok Unchanged) = 0
shown_len (Ok (Replaced len)) = len
shown_len (Err e) = 0
