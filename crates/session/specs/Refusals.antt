-- The refusals of a call: each has a number and the values that come with it. A name or a part is told by its place in the text.
use Rattle.std.specs.Prelude.{ℕ, List, [], ◌∷◌}
use Rattle.text.specs.declared.TextError.TheVariants.{NotUtf8, TooLong}
use Rattle.references.specs.declared.error.PropertyError.TheVariants.{Unresolved, InvalidName, RequiredButUnset, RequiredButEmpty, ExpansionDepthLimitExceeded, ExpansionWorkLimitExceeded}
use Rattle.walk.specs.declared.interpolate.InterpolateError.{InterpolateError}
use Rattle.walk.specs.declared.interpolate.InterpolateError.TheVariants as W
use Rattle.session.specs.declared.error.CallError.{CallError}
use Rattle.session.specs.declared.error.CallError.TheVariants.{BadPairs, OutputTooShort, PairsFull, Property, Text, TooFewFrames}

abbrev pub refusal_number : CallError → ℕ
refusal_number (Text TooLong) = 1
refusal_number (Text (NotUtf8 offset)) = 2
refusal_number (TooFewFrames needed) = 3
refusal_number (Property (Unresolved name)) = 4
refusal_number (Property (InvalidName part)) = 5
refusal_number (Property (RequiredButUnset name len)) = 6
refusal_number (Property (RequiredButEmpty name len)) = 7
refusal_number (Property (ExpansionDepthLimitExceeded depth limit)) = 8
refusal_number (Property (ExpansionWorkLimitExceeded work limit)) = 9
refusal_number (OutputTooShort needed) = 10
refusal_number PairsFull = 11
refusal_number BadPairs = 12

abbrev pub refusal_values : CallError → List ℕ
refusal_values (Text TooLong) = []
refusal_values (Text (NotUtf8 offset)) = offset ∷ []
refusal_values (TooFewFrames needed) = needed ∷ []
refusal_values (Property (Unresolved name)) = name.start ∷ name.end ∷ []
refusal_values (Property (InvalidName part)) = part.start ∷ part.end ∷ []
refusal_values (Property (RequiredButUnset name len)) = name.start ∷ name.end ∷ len ∷ []
refusal_values (Property (RequiredButEmpty name len)) = name.start ∷ name.end ∷ len ∷ []
refusal_values (Property (ExpansionDepthLimitExceeded depth limit)) = depth ∷ limit ∷ []
refusal_values (Property (ExpansionWorkLimitExceeded work limit)) = work ∷ limit ∷ []
refusal_values (OutputTooShort needed) = needed ∷ []
refusal_values PairsFull = []
refusal_values BadPairs = []

-- a refusal of the walk as one of the call
abbrev pub call_error : InterpolateError → CallError
call_error W.TextTooLong = Text TooLong
call_error (W.TooFewFrames needed) = TooFewFrames needed
call_error (W.Refused fault) = Property fault
call_error (W.OutputTooShort needed) = OutputTooShort needed
