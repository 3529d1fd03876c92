use Rattle.std.proofs.Common.{sym, ◌∙◌, rules}
use Rattle.walk.specs.Outcomes.{limits}
use Rattle.walk.proofs.Finishing.{bound_of, countable, end_of, settles_back, start}
use Rattle.walk.proofs.interpolate.expand_text.Goals as goal

pub returns : goal.returns
returns g c =
    let m = g.S.PropertySource.means c.args.given.now.source.now in
    let text = c.args.given.now.text.now in
    let deep = c.args.given.now.max_depth in
    let w = c.args.work.now in
    let first = start m deep c.args.syntax _ text _ c.default.ensures.0 c.default.ensures.1 c.requires.small c.new-out.ensures.holds in
    let now = c.walk_text-walked.new.walk in
    let goes = c.walk_text-walked.ensures _ first in
    let short = countable m c.args.syntax (limits deep w.limit) w.total text (g.S.PropertySource.laws.short c.args.given.now.source.now) c.requires.small in
    let bound = bound_of m deep _ now c.walk_text-walked.result goes in
    let back = settles_back _ now.out.now _ _ (search rules) c.settle.ensures in
    let end = end_of m deep _ now c.settle.new.out c.walk_text-walked.result short goes back in
    let laid = c.finish.ensures.holds _ _ end.holds ∙ end.area in
    let same = sym end.holds.same in
    record {
      answer = c.answer.ensures ∙ end.answers _ (c.finish.ensures.says _ _ end.holds);
      area = search rules;
      total = end.total;
      limit = bound.limit;
    }
