use Rattle.std.proofs.Common.{◌≡◌, ℕ, List, length, unwrap_or, sym, ap, ◌∙◌, rules, tests}
use Rattle.std.specs.Option.{option_map}
use Rattle.answers.specs.Told.{answer_of, area_of}
use Rattle.pairs.specs.Lists.{listed, scope}
use Rattle.redaction.specs.Redactions.{identified, shown}
use Rattle.redaction.proofs.EndsLaws.{some_identified}
use Rattle.redaction.proofs.redact.redact_identifier.Goals as goal

pub returns : goal.returns
returns c =
    let n : ℕ = length c.args.area.now in
    let fallback : List ℕ = c.args.fallback.now in
    let some : length (listed c.args.pairs.now) ≡ 0 → ⊥ = search (rules, tests) in
    let found : c.unwrap_or.result.now ≡ unwrap_or (option_map (λ x. x.now) c.text_of.result) fallback = search rules in
    let out : shown n c.unwrap_or.result.now ≡ identified n fallback (scope c.args.pairs.now) c.args.name.now =
    ap (shown n) (found ∙ ap (λ x. unwrap_or x fallback) c.text_of.ensures)
    ∙ sym (some_identified n fallback c.args.name.now (listed c.args.pairs.now) some) in
    record { says = c.show.ensures.says ∙ ap answer_of out; area = c.show.ensures.area ∙ ap (area_of n) out }
