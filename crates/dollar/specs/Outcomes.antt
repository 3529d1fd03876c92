-- What a call came to, as numbers.
use Rattle.std.specs.Prelude.{ℕ, Ok, Err, Result}
use Rattle.answers.specs.declared.Answer.{Answer}
use Rattle.answers.specs.declared.Answer.TheVariants.{Replaced, Unchanged}
use Rattle.text.specs.declared.TextError.TheVariants.{NotUtf8, TooLong}
use Rattle.source.specs.declared.error.SourceError.{SourceError}
use Rattle.source.specs.declared.error.SourceError.TheVariants.{BadBook, BadBlock, BadStem}
use Rattle.references.specs.declared.error.PropertyError.TheVariants.{Unresolved, InvalidName, RequiredButUnset, RequiredButEmpty, ExpansionDepthLimitExceeded, ExpansionWorkLimitExceeded}
use Rattle.references.specs.declared.error.Span.{Span}
use Rattle.session.specs.declared.error.CallError.{CallError}
use Rattle.session.specs.declared.error.CallError.TheVariants.{BadPairs, OutputTooShort, PairsFull, Property, Text, TooFewFrames}
use Rattle.session.specs.declared.error.KeyError.{KeyError}
use Rattle.session.specs.declared.error.ValueError.{ValueError}
use Rattle.dollar.specs.declared.outcome.DollarOutcome.{DollarOutcome}

-- a refusal of this number, without values; 0 is an answer
abbrev pub numbered : ℕ → DollarOutcome
numbered n = record { refusal = n; replaced = 0; length = 0; start = 0; end = 0; offset = 0; bad_record = 0; needed = 0; reached = 0; limit = 0 }

abbrev pub answered : Answer → DollarOutcome
answered Unchanged = numbered 0
answered (Replaced len) = record (numbered 0) { replaced = 1; length = len }

-- refusals with values: a place up to which all is well, a number of bytes or frames, a part of the text, that with a message, and a limit that was passed
abbrev pub at_place : (n offset : ℕ) → DollarOutcome
at_place n offset = record (numbered n) { offset = offset }

abbrev pub needing : (n needed : ℕ) → DollarOutcome
needing n needed = record (numbered n) { needed = needed }

abbrev pub at_part : ℕ → Span → (message : ℕ) → DollarOutcome
at_part n part message = record (numbered n) { length = message; start = part.start; end = part.end }

abbrev pub past : (n reached limit : ℕ) → DollarOutcome
past n reached limit = record (numbered n) { reached = reached; limit = limit }

-- The refusals of a call, with their numbers and values.
abbrev pub call_refused : CallError → DollarOutcome
call_refused (Text TooLong) = numbered 1
call_refused (Text (NotUtf8 offset)) = at_place 2 offset
call_refused (TooFewFrames needed) = needing 3 needed
call_refused (Property (Unresolved name)) = at_part 4 name 0
call_refused (Property (InvalidName part)) = at_part 5 part 0
call_refused (Property (RequiredButUnset name len)) = at_part 6 name len
call_refused (Property (RequiredButEmpty name len)) = at_part 7 name len
call_refused (Property (ExpansionDepthLimitExceeded depth limit)) = past 8 depth limit
call_refused (Property (ExpansionWorkLimitExceeded work limit)) = past 9 work limit
call_refused (OutputTooShort needed) = needing 10 needed
call_refused PairsFull = numbered 11
call_refused BadPairs = numbered 12

-- Those of the checks of a table and of a stem.
abbrev pub source_refused : SourceError → DollarOutcome
source_refused (BadBook number) = record (numbered 13) { bad_record = number }
source_refused (BadBlock offset) = at_place 14 offset
source_refused BadStem = numbered 15

-- the refusal of a session that is none
abbrev pub bad_session : DollarOutcome
bad_session = numbered 100

-- The outcome of a call by its answer, and of a check by its verdict.
abbrev pub told_as : Result Answer CallError → DollarOutcome
told_as (Ok a) = answered a
told_as (Err e) = call_refused e

-- a key call and a value call say which of them was refused
abbrev pub key_told : Result Answer KeyError → DollarOutcome
key_told (Ok a) = answered a
key_told (Err e) = call_refused e.0

abbrev pub value_told : Result Answer ValueError → DollarOutcome
value_told (Ok a) = answered a
value_told (Err e) = call_refused e.0

abbrev pub checked_as : Result (Unit {0}) SourceError → DollarOutcome
checked_as (Ok u) = numbered 0
checked_as (Err e) = source_refused e
