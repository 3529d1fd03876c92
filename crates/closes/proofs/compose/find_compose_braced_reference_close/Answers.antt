use Rattle.std.proofs.Common.{[], None, Err, refl, ap, ◌∙◌}
use Rattle.std.proofs.lemmas.Result.{err_from_is_err_and}
use Rattle.budget.proofs.Calls.{broke, left_all, left_over}
use Rattle.names.specs.declared.PropertySyntax.TheVariants.{DockerCompose}
use Rattle.names.specs.Reads.{both, name_at, name_looks}
use Rattle.closes.specs.Compose.{compose_close, compose_looks, looks_after}
use Rattle.closes.proofs.ComposeLaws.{at_brace, at_operator, composed, no_operator}
use Rattle.closes.proofs.compose.find_compose_braced_reference_close.Goals as goal

pub returns-in_err-name : goal.returns-in_err-name
returns-in_err-name c =
    let e = c.in_err-name.ensures in
    let bs = c.args.body.now in
    let p = err_from_is_err_and c.from_residual.result c.from_residual.ensures.1 in
    let b = broke _ _ (name_looks DockerCompose bs) e.work (name_at DockerCompose bs) e.says in
    let o = left_over (looks_after (name_at DockerCompose bs)) (compose_close bs) (left_all c.args.work.now (compose_looks bs)) b in
    record { says = p.1 ∙ ap Err p.2 ∙ o.says; work = o.work }

pub returns-then-starts_with : goal.returns-then-starts_with
returns-then-starts_with c =
    let e = c.in_ok-name.ensures in
    let behind = at_brace _ c.in-Some.rest.now c.if-starts_with.ensures.value in
    let o = composed _ c.in-Some.name.now _ [] _ e.work e.says (ap both c.in-Some.is) behind refl refl in
    record { says = o.says; work = o.work }

pub returns-in_default-operator_len : goal.returns-in_default-operator_len
returns-in_default-operator_len c =
    let e = c.in_ok-name.ensures in
    let behind = no_operator _ c.in-Some.rest.now c.if-starts_with.ensures.value c.in_default-operator_len.ensures in
    let o = composed _ c.in-Some.name.now _ [] None e.work e.says (ap both c.in-Some.is) behind refl refl in
    record { says = o.says; work = o.work }

pub returns : goal.returns
returns c =
    let e = c.in_ok-name.ensures in
    let behind = at_operator _ c.in-Some.rest.now c.if-starts_with.ensures.value c.in-Some-operator_len.ensures in
    let o = composed _ c.in-Some.name.now _ _ _ e.work e.says (ap both c.in-Some.is) behind c.find_text_close.ensures.says c.find_text_close.ensures.work in
    record { says = o.says; work = o.work }
