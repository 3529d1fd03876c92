use Rattle.std.proofs.Common.{rules, ap, ◌∙◌}
use Rattle.dollar.specs.Outcomes.{key_told}
use Rattle.dollar.proofs.ToldLaws.{key_told_as}
use Rattle.dollar.proofs.ValuesLaws.{keys_law}
use Rattle.dollar.proofs.calls.dollar_key.Goals as goal

pub returns-clause-outcome : goal.returns-clause-outcome
returns-clause-outcome c =
    let told = c.told_key.ensures ∙ ap key_told c.interpolate_key-answer.ensures.answer ∙ key_told_as _ in
    search rules

pub returns-clause-values : goal.returns-clause-values
returns-clause-values c = keys_law

pub returns-in_default-clause-values : goal.returns-in_default-clause-values
returns-in_default-clause-values c = keys_law
