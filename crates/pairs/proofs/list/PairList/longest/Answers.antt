use Rattle.std.proofs.Common.{◌∙◌}
use Rattle.pairs.proofs.ListsLaws.{all_longest}
use Rattle.pairs.proofs.list.PairList.longest.Goals as goal

pub returns : goal.returns
returns c = c.size_within.ensures ∙ all_longest c.args.self.now.bytes.now c.args.self.now.records.now
