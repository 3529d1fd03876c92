use Rattle.std.proofs.Common.{rules, tests, refl, ◌∙◌}
use Rattle.std.proofs.lemmas.Iterator.{YieldsList-from_slice}
use Rattle.std.proofs.lemmas.Iterator.Consumers.{YieldsList-from_enumerate}
use Rattle.std.proofs.lemmas.Iterator.Search.{any_from_yields_List}
use Rattle.selected.proofs.SelectedLaws.{expands_any, expands_at}
use Rattle.selected.proofs.needs_expansion.Goals as goal

pub returns : goal.returns
returns c =
    let s = c.args.syntax in
    let text = c.args.text.now in
    any_from_yields_List (expands_at s text) _ _ _ c.any.ensures.ran (YieldsList-from_enumerate (YieldsList-from_slice text (cc)) (cc)) (λ x b q k. search (rules, tests))
    ∙ expands_any s text 0 text refl
