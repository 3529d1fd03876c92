use Rattle.std.proofs.Common.{◌≡◌, ℕ, List, length, sym, ap, ◌∙◌, rules, tests}
use Rattle.answers.specs.Told.{answer_of, area_of}
use Rattle.pairs.proofs.FirstsLaws.{each_once}
use Rattle.pairs.specs.Lists.{listed, scope}
use Rattle.redaction.specs.Drafts.{outcome}
use Rattle.redaction.specs.Redactions.{ended, redacted, shown}
use Rattle.redaction.proofs.OrdersHold.{order_holds}
use Rattle.redaction.proofs.EndsLaws.{some_redacted}
use Rattle.redaction.proofs.redact.redact_value.Goals as goal

pub returns-in-Ok-None : goal.returns-in-Ok-None
returns-in-Ok-None c =
    let n : ℕ = length c.args.area.now in
    let fallback : List ℕ = c.args.fallback.now in
    let text : List ℕ = c.args.text.now in
    let some : length (listed c.args.pairs.now) ≡ 0 → ⊥ = search (rules, tests) in
    let told : ended n fallback (outcome text c.make.new.area c.make.result) ≡ shown n fallback = search rules in
    let out : shown (length c.make.new.area) fallback ≡ redacted n fallback (scope c.args.pairs.now) text =
    ap (λ m. shown m fallback) c.make.ensures.room ∙ sym told
    ∙ ap (ended n fallback) c.make.ensures.says
    ∙ sym (some_redacted n fallback text (listed c.args.pairs.now) some) in
    record { once = each_once; order = order_holds; says = c.show.ensures.says ∙ ap answer_of out; area = c.show.ensures.area ∙ ap (λ m. area_of m (shown (length c.make.new.area) fallback)) c.make.ensures.room ∙ ap (area_of n) out }
