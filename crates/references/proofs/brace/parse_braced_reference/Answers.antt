use Rattle.std.proofs.Common.{◌<◌, length, take, refl, ap, arith}
use Rattle.std.proofs.lemmas.List.{length-take}
use Rattle.std.proofs.lemmas.Result.{err_from_is_err_and}
use Rattle.names.specs.Reads.{both}
use Rattle.references.specs.Braces.{with_op}
use Rattle.names.proofs.ReadLaws.{named as name-parts}
use Rattle.references.proofs.BraceLaws.{close_over, inside, name_over, name_is, named, op_fits}
use Rattle.references.proofs.brace.parse_braced_reference.Goals as goal

pub returns-in_err-close : goal.returns-in_err-close
returns-in_err-close c =
    let e = c.in_err-close.ensures in
    let p = err_from_is_err_and c.from_residual.result c.from_residual.ensures.1 in
    let o = close_over _ c.args.syntax c.args.body.now e.work e.says in
    rw (p.1, p.2) (record { says = o.says; work = o.work; within = tt })

pub returns-in_err-name : goal.returns-in_err-name
returns-in_err-name c =
    let e = c.in_ok-close.ensures in
    let n = c.in_err-name.ensures in
    let p = err_from_is_err_and c.from_residual-in_err-name.result c.from_residual-in_err-name.ensures.1 in
    let o = name_over _ c.args.syntax c.args.body.now e.work e.says c.in-Some.is n.work n.says in
    rw (p.1, p.2) (record { says = o.says; work = o.work; within = tt })

pub returns-in_default-2 : goal.returns-in_default-2
returns-in_default-2 c =
    let bs = c.args.body.now in
    let e = c.in_ok-close.ensures in
    let n = c.in_ok-name.ensures in
    let o = named _ c.args.syntax bs e.work e.says c.in-Some.is n.work n.says (ap both c.in_default-2.is) refl in
    record { says = o.says; work = o.work; within = inside (length bs) c.in-Some.is e.within }

pub returns-in-Some-parse_op : goal.returns-in-Some-parse_op
returns-in-Some-parse_op c =
    let s = c.args.syntax in
    let bs = c.args.body.now in
    let k = c.in-Some.close in
    let e = c.in_ok-close.ensures in
    let n = c.in_ok-name.ensures in
    let some = ap both c.in-Some-2.is in
    let o = named _ s bs e.work e.says c.in-Some.is n.work n.says some (ap (with_op k c.in-Some-2.name.now) c.in-Some-parse_op.ensures) in
    let in_body : k < length bs = inside (length bs) c.in-Some.is e.within in
    let parts = name-parts s (take k bs) _ (name_is _ s bs e.work e.says c.in-Some.is n.work n.says some) in
    let word = op_fits c.in-Some-2.rest.now _ c.in-Some-parse_op.ensures in
    record { says = o.says; work = o.work; within = (in_body, omega (arith, parts.fills, length-take k bs), parts.some) }

pub returns-in-None : goal.returns-in-None
returns-in-None c =
    let bs = c.args.body.now in
    let e = c.in_ok-close.ensures in
    let n = c.in_ok-name.ensures in
    let o = named _ c.args.syntax bs e.work e.says c.in-Some.is n.work n.says (ap both c.in-Some-2.is) (ap (with_op c.in-Some.close c.in-Some-2.name.now) c.in-None.ensures) in
    record { says = o.says; work = o.work; within = inside (length bs) c.in-Some.is e.within }
