use Rattle.std.proofs.Common.{refl}
use Rattle.source.specs.Shapes.{bytes_of}
use Rattle.output.proofs.OutputLaws.{part_laid, put_is, put_grows}
use Rattle.output.proofs.Output.put_value.Goals as goal

pub returns : goal.returns
returns g c =
    let out = c.args.self.now in
    let value = g.S.PropertySource.means c.args.source.now c.args.name.now in
    let laid = part_laid value out.area.now c.lay_value.new.area c.min-at.result out.len c.min-at.ensures c.lay_value.ensures in
    let puts = put_is out (bytes_of value) c.args.len refl laid c.saturating_add-self.ensures in
    record { puts = puts; grows = put_grows (bytes_of value) c.args.len puts }
