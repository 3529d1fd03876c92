use Rattle.walk.proofs.Reaching.{reach_nest, stop_nest}
use Rattle.walk.proofs.apply.open_selected.Goals as goal

pub returns-then-site-max_depth-clause-goes : goal.returns-then-site-max_depth-clause-goes
returns-then-site-max_depth-clause-goes c = λ means nested aim left es r. stop_nest _ c.if-site-max_depth.true r

pub returns-clause-goes : goal.returns-clause-goes
returns-clause-goes c = λ means nested aim left es r. c.begin_selected.ensures means _ aim _ _ (reach_nest _ c.if-site-max_depth.false r)
