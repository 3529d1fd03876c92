use Rattle.std.proofs.Common.{◌∙◌}
use Rattle.closes.proofs.BracedLaws.{begun, closeless}
use Rattle.closes.proofs.braced.balanced_close.Goals as goal

pub returns-in_err-first-clause-says : goal.returns-in_err-first-clause-says
returns-in_err-first-clause-says c = c.from_residual.ensures ∙ closeless c.args.body.now c.in_err-first.ensures

pub loop-i-init : goal.loop-i-init
loop-i-init c = begun c.args.body.now c.in_ok-first.first c.count_opened-depth.result c.in_ok-first.ensures c.count_opened-depth.ensures
