use Rattle.std.proofs.Common.{arith}
use Rattle.names.proofs.NameLaws.{begins_text}
use Rattle.names.proofs.begins_name.Goals as goal

pub returns-clause-text : goal.returns-clause-text
returns-clause-text c u = let e = begins_text c.args.syntax c.args.text.now u in grind arith
