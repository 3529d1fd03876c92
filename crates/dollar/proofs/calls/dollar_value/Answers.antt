use Rattle.std.proofs.Common.{rules, ap, ◌∙◌}
use Rattle.dollar.specs.Outcomes.{value_told}
use Rattle.dollar.proofs.ToldLaws.{value_told_as}
use Rattle.dollar.proofs.ValuesLaws.{values_law}
use Rattle.dollar.proofs.calls.dollar_value.Goals as goal

pub returns-clause-outcome : goal.returns-clause-outcome
returns-clause-outcome c =
    let told = c.told_value.ensures ∙ ap value_told c.interpolate_value-answer.ensures.answer ∙ value_told_as _ in
    search rules

pub returns-clause-values : goal.returns-clause-values
returns-clause-values c = values_law

pub returns-in_default-clause-values : goal.returns-in_default-clause-values
returns-in_default-clause-values c = values_law
