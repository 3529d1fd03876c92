use Rattle.source.specs.Shapes.{empty, unset}
use Rattle.walk.proofs.Reaching.{stop_message}
use Rattle.walk.proofs.apply.complete_frame.Goals as goal

pub returns-in-RequiredButUnset : goal.returns-in-RequiredButUnset
returns-in-RequiredButUnset c = rw c.in-RequiredButUnset.is (λ means deep aim left es r. stop_message unset _ _ _ r (c.message_len.ensures means deep aim _ _ r))

pub returns-in-RequiredButEmpty : goal.returns-in-RequiredButEmpty
returns-in-RequiredButEmpty c = rw c.in-RequiredButEmpty.is (λ means deep aim left es r. stop_message empty _ _ _ r (c.message_len-in-RequiredButEmpty.ensures means deep aim _ _ r))
