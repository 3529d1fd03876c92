use Rattle.pairs.proofs.FirstsLaws.{each_once}
use Rattle.pairs.proofs.list.PairList.since.Goals as goal

pub returns-clause-once : goal.returns-clause-once
returns-clause-once c = each_once
