use Rattle.std.proofs.Common.{◌≡◌, true, if◌then◌else◌, length, ap, ◌∙◌}
use Rattle.pairs.specs.Lists.{listed}
use Rattle.pairs.specs.Pairs.{Pair, has}
use Rattle.pairs.specs.Records.{pair_read}
use Rattle.redaction.specs.Drafts.{state_of}
use Rattle.redaction.specs.Redactions.{step}
use Rattle.redaction.proofs.StepsLaws.{has_first}
use Rattle.redaction.proofs.draft.Draft.take_pair.Goals as goal

pub returns-then-has-clause-says : goal.returns-then-has-clause-says
returns-then-has-clause-says c =
    let p : Pair = pair_read c.args.pair in
    let now = c.args.self.now in
    let here : true ≡ has (listed c.args.before.now) p = has_first c.early.result (listed c.args.before.now) p (c.if-has.ensures ∙ ap (λ ps. has ps p) c.first.ensures) in
    ap (λ b. if b then state_of now else step (length now.area.now) (state_of now) p) here
