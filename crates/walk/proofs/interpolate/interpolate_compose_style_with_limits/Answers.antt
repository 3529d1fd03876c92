use Rattle.std.proofs.Common.{◌≤◌, length, sym, ap, ◌∙◌, subst}
use Rattle.budget.specs.declared.WorkBudget.{WorkBudget}
use Rattle.source.specs.Shapes.{values}
use Rattle.answers.specs.Told.{answer_of, area_of}
use Rattle.expansion.proofs.AllLaws.{walk_laws}
use Rattle.expansion.proofs.TrialLaws.{trials}
use Rattle.walk.specs.Outcomes.{frames_needed, walk_of}
use Rattle.walk.proofs.Finishing.{kept_plain, passed_told, passed_total}
use Rattle.walk.proofs.interpolate.interpolate_compose_style_with_limits.Goals as goal

pub returns-in_default : goal.returns-in_default
returns-in_default g c =
    let m = g.S.PropertySource.means c.args.source.now in
    let text = c.args.text.now in
    let w = c.args.work.now in
    let n = length c.args.area.now in
    let slots = length c.args.frames.now in
    let whole = walk_of m c.args.syntax c.args.max_nested_expansions w text in
    let enough : frames_needed (length text) ≤ slots = subst (λ k. k ≤ slots) c.frames_needed-needed.ensures c.if-frames-needed.false in
    let told = passed_told (length text) slots c.if-text-gt-TEXT_MAX.false enough (values m) n whole in
    let kept = kept_plain m c.args.syntax c.args.max_nested_expansions w text n (sym c.in_default.is ∙ c.find_dollar.ensures.place) in
    record {
      answer = c.keep_text.ensures.answer ∙ kept.answer ∙ ap answer_of told;
      area = c.keep_text.ensures.area ∙ kept.area ∙ ap (area_of n) told;
      total = ap (λ (v : WorkBudget). v.total) c.keep_text.ensures.work ∙ kept.total ∙ passed_total (length text) slots c.if-text-gt-TEXT_MAX.false enough w.total whole;
      limit = ap (λ (v : WorkBudget). v.limit) c.keep_text.ensures.work;
      laws = walk_laws;
      trials = trials;
    }
