use Rattle.std.proofs.Common.{◌≡◌, ◌+◌, ◌-◌, ◌≤◌, length, take, arith}
use Rattle.std.proofs.lemmas.List.{length-take-le}
use Rattle.std.proofs.lemmas.Result.{err_from_is_err_and}
use Rattle.walk.specs.Plains.{plain}
use Rattle.walk.proofs.Passing.{plain_is, plain_within, reach_plain}
use Rattle.walk.proofs.Reaching.{reach_less, reach_literal, reach_paid, stop_paid}
use Rattle.walk.proofs.plain.pass_plain.Goals as goal

pub returns-in_err-charge_ones-clause-goes : goal.returns-in_err-charge_ones-clause-goes
returns-in_err-charge_ones-clause-goes c = λ means deep nested d s i aim left es r.
    let bs = c.args.rest.now in
    let e = c.in_err-charge_ones.ensures in
    let n : c.unwrap_or-plain.result ≡ plain bs = plain_is bs c.find_dollar.result _ c.find_dollar.ensures.place c.unwrap_or-plain.ensures in
    let p = err_from_is_err_and c.from_residual.result c.from_residual.ensures.1 in
    rw (p.1, p.2) (stop_paid _ _ c.charge_ones.ensures.work _ e.says (reach_plain nested d s i bs es _ n r))

pub returns-clause-goes : goal.returns-clause-goes
returns-clause-goes c = λ means deep nested d s i aim left es r.
    let bs = c.args.rest.now in
    let k = c.unwrap_or-plain.result in
    let n : k ≡ plain bs = plain_is bs c.find_dollar.result _ c.find_dollar.ensures.place c.unwrap_or-plain.ensures in
    let size : length (take k bs) ≡ k = length-take-le k bs (omega (arith, plain_within bs)) in
    let on = reach_paid _ _ c.charge_ones.ensures.work c.in_ok-charge_ones.ensures.says (reach_plain nested d s i bs es k n r) in
    let room : length (take k bs) + (length bs - k + left) ≤ length bs + left = omega (arith, plain_within bs) in
    reach_literal (take k bs) c.put_bytes.ensures.grows (reach_less (length (take k bs) + (length bs - k + left)) room on)
