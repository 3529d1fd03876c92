use Rattle.std.proofs.Common.{true, false, length, refl}
use Rattle.std.proofs.lemmas.Result.{err_from_is_err_and}
use Rattle.walk.proofs.Choosing.{acts_chosen}
use Rattle.walk.proofs.Reaching.{reach_charge, reach_same, stop_charge}
use Rattle.walk.proofs.apply.select_text.Goals as goal

pub returns-in_err-charge : goal.returns-in_err-charge
returns-in_err-charge c =
    let e = c.in_err-charge.ensures in
    let at = c.args.site in
    let text = c.args.text.now in
    let p = err_from_is_err_and c.from_residual.result c.from_residual.ensures.1 in
    rw (p.1, p.2) (record {
      opens = tt;
      goes = λ means nested aim left es r. stop_charge (length text) e.work _ e.says (reach_same (acts_chosen nested at.depth at.syntax at.close text es _ c.args.completion c.requires.1 refl) r);
    })

pub returns-then-needs_expansion : goal.returns-then-needs_expansion
returns-then-needs_expansion c =
    let e = c.in_ok-charge.ensures in
    let at = c.args.site in
    let text = c.args.text.now in
    record {
      opens = c.open_selected.ensures.opens;
      goes = λ means nested aim left es r.
          c.open_selected.ensures.goes means nested aim left es (reach_charge (length text) e.work e.says (reach_same (acts_chosen nested at.depth at.syntax at.close text es true c.args.completion c.requires.1 c.if-needs_expansion.ensures) r));
    }

pub returns-in_err-put_selected : goal.returns-in_err-put_selected
returns-in_err-put_selected c =
    let e = c.in_ok-charge.ensures in
    let at = c.args.site in
    let text = c.args.text.now in
    let p = err_from_is_err_and c.from_residual-in_err-put_selected.result c.from_residual-in_err-put_selected.ensures.1 in
    rw (p.1, p.2) (record {
      opens = tt;
      goes = λ means nested aim left es r.
          c.in_err-put_selected.ensures means c.args.max_depth aim left es (reach_charge (length text) e.work e.says (reach_same (acts_chosen nested at.depth at.syntax at.close text es false c.args.completion c.requires.1 c.if-needs_expansion.ensures) r));
    })

pub returns : goal.returns
returns c =
    let e = c.in_ok-charge.ensures in
    let at = c.args.site in
    let text = c.args.text.now in
    record {
      opens = tt;
      goes = λ means nested aim left es r.
          c.in_ok-put_selected.ensures means c.args.max_depth aim left es (reach_charge (length text) e.work e.says (reach_same (acts_chosen nested at.depth at.syntax at.close text es false c.args.completion c.requires.1 c.if-needs_expansion.ensures) r));
    }
