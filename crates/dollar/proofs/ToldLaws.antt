-- That a refusal says key or value changes nothing of an outcome.
use Rattle.std.proofs.Common.{◌≡◌, Ok, Err, Result, refl}
use Rattle.answers.specs.declared.Answer.{Answer}
use Rattle.session.specs.Sessions.{as_key, as_value}
use Rattle.session.specs.declared.error.CallError.{CallError}
use Rattle.dollar.specs.Outcomes.{key_told, told_as, value_told}

pub key_told_as : (r : Result Answer CallError) → key_told (as_key r) ≡ told_as r
key_told_as (Ok a) = refl
key_told_as (Err e) = refl

pub value_told_as : (r : Result Answer CallError) → value_told (as_value r) ≡ told_as r
value_told_as (Ok a) = refl
value_told_as (Err e) = refl
