use Rattle.std.proofs.Common.{arith}
use Rattle.std.proofs.lemmas.Grind.{common_steps}
use Rattle.source.specs.Shapes.{shapes}
use Rattle.items.proofs.LookLaws.{done_looking}
use Rattle.items.proofs.look.look_at.Goals as goal

pub returns-in_err-action-clause-says : goal.returns-in_err-action-clause-says
returns-in_err-action-clause-says g c =
    let read = done_looking c.args.work.now c.args.cursor _ (c.in_ok-found.ensures.says (shapes (g.S.PropertySource.means c.args.source.now)) c.args.cursor) in
    grind (arith, common_steps, read)

pub returns-clause-says : goal.returns-clause-says
returns-clause-says g c =
    let read = done_looking c.args.work.now c.args.cursor _ (c.in_ok-found.ensures.says (shapes (g.S.PropertySource.means c.args.source.now)) c.args.cursor) in
    grind (arith, common_steps, read)
