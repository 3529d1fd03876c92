-- The first refusal for a limit is kept.
use Rattle.std.specs.Prelude.{Some, None, Ok, Err, Option, Result}
use Rattle.references.specs.declared.error.PropertyError.{PropertyError}
use Rattle.references.specs.declared.error.PropertyError.TheVariants.{Unresolved, InvalidName, RequiredButUnset, RequiredButEmpty, ExpansionDepthLimitExceeded, ExpansionWorkLimitExceeded}
use Rattle.answers.specs.declared.Answer.{Answer}
use Rattle.session.specs.declared.breach.BudgetBreach.{BudgetBreach}
use Rattle.session.specs.declared.breach.BudgetBreach.TheVariants.{PropertyExpansionDepth, PropertyInterpolationWork}
use Rattle.session.specs.declared.error.CallError.{CallError}
use Rattle.session.specs.declared.error.CallError.TheVariants.{BadPairs, OutputTooShort, PairsFull, Property, Text, TooFewFrames}

abbrev pub fault_breach : PropertyError → Option BudgetBreach
fault_breach (Unresolved name) = None
fault_breach (InvalidName part) = None
fault_breach (RequiredButUnset name len) = None
fault_breach (RequiredButEmpty name len) = None
fault_breach (ExpansionDepthLimitExceeded depth limit) = Some (PropertyExpansionDepth depth limit)
fault_breach (ExpansionWorkLimitExceeded work limit) = Some (PropertyInterpolationWork work limit)

abbrev pub breach_of : CallError → Option BudgetBreach
breach_of (Text e) = None
breach_of (TooFewFrames needed) = None
breach_of BadPairs = None
breach_of (Property fault) = fault_breach fault
breach_of (OutputTooShort needed) = None
breach_of PairsFull = None

-- the breach after a call, by its answer
abbrev pub kept_breach : Option BudgetBreach → Result Answer CallError → Option BudgetBreach
kept_breach (Some b) r = Some b
kept_breach None (Ok a) = None
kept_breach None (Err e) = breach_of e
