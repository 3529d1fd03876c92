use Rattle.std.proofs.Common.{length, Some, refl}
use Rattle.output.proofs.OutputLaws.{part_laid, put_is, put_grows}
use Rattle.output.proofs.Output.put_bytes.Goals as goal

pub returns : goal.returns
returns c =
    let out = c.args.self.now in
    let part = c.args.part.now in
    let laid = part_laid (Some part) out.area.now c.lay_bytes.new.area c.min-at.result out.len c.min-at.ensures c.lay_bytes.ensures in
    let puts = put_is out part (length part) refl laid c.saturating_add-self.ensures in
    record { puts = puts; grows = put_grows part (length part) puts refl }
