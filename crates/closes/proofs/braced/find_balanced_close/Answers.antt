use Rattle.std.proofs.Common.{◌≡◌, Ok, Err, List, length, take, ℕ, ap, ◌∙◌, arith}
use Rattle.std.proofs.lemmas.List.{length-take}
use Rattle.std.proofs.lemmas.Result.{err_from_is_err_and}
use Rattle.budget.specs.Charges.{paid, spent}
use Rattle.budget.proofs.Calls.{all_taken, one_refused}
use Rattle.closes.specs.Braced.{braced_close, braced_looks}
use Rattle.closes.proofs.ReachLaws.{paid_all, reached, spent_all}
use Rattle.closes.proofs.braced.find_balanced_close.Goals as goal

pub returns-in_err-charge_ones : goal.returns-in_err-charge_ones
returns-in_err-charge_ones c =
    let w = c.args.work.now in
    let r : ℕ = c.reach-reach.result in
    let part : List ℕ = take r c.args.body.now in
    let all = reached w c.args.body.now r c.reach-reach.ensures.small c.reach-reach.ensures.within c.reach-reach.ensures.over in
    let long : length part ≡ r = omega (arith, length-take r c.args.body.now, c.reach-reach.ensures.within) in
    let ones = c.looks.ensures part long c.balanced_close-close.ensures.says in
    let p = err_from_is_err_and c.from_residual.result c.from_residual.ensures.1 in
    record {
      says = p.1 ∙ ap Err p.2 ∙ one_refused w (braced_looks part) (braced_close part) (c.in_err-charge_ones.ensures.says ∙ ap (λ ks. paid w ks tt) ones) ∙ paid_all all;
      work = c.charge_ones.ensures.work ∙ ap (spent w) ones ∙ spent_all all;
    }

pub returns : goal.returns
returns c =
    let w = c.args.work.now in
    let r : ℕ = c.reach-reach.result in
    let part : List ℕ = take r c.args.body.now in
    let all = reached w c.args.body.now r c.reach-reach.ensures.small c.reach-reach.ensures.within c.reach-reach.ensures.over in
    let long : length part ≡ r = omega (arith, length-take r c.args.body.now, c.reach-reach.ensures.within) in
    let ones = c.looks.ensures part long c.balanced_close-close.ensures.says in
    record {
      says = ap Ok c.balanced_close-close.ensures.says ∙ all_taken w (braced_looks part) (braced_close part) (c.in_ok-charge_ones.ensures.says ∙ ap (λ ks. paid w ks tt) ones) ∙ paid_all all;
      work = c.charge_ones.ensures.work ∙ ap (spent w) ones ∙ spent_all all;
    }
