use Rattle.std.proofs.Common.{Err, ap, ◌∙◌}
use Rattle.std.proofs.lemmas.Result.{err_from_is_err_and}
use Rattle.budget.proofs.Calls.{went, broke}
use Rattle.names.specs.Reads.{told}
use Rattle.names.proofs.ReadLaws.{Read, read_none, read_more, read_stop, read_ends, read_over}
use Rattle.names.proofs.NameLaws.{name_law, parts_utf8}
use Rattle.names.proofs.TextLaws.{text_glyphs}
use Rattle.names.proofs.parse_name.Goals as goal
use Rattle.names.proofs.parse_name.Goals.{in-Some+in_ok-charge+then-not-extends_name, in_default}

pub returns-in_err-charge : goal.returns-in_err-charge
returns-in_err-charge c =
    let e = c.in_err-charge.ensures in
    let p = err_from_is_err_and c.from_residual.result c.from_residual.ensures.1 in
    let o = read_over c.loop-ch.invariant c.in-Some.ensures (broke _ _ _ e.work tt e.says) in
    record { says = ap told p.1 ∙ ap Err p.2 ∙ o.says; work = o.work; text = text_glyphs _; cuts = parts_utf8 _ _; longest = name_law _ _ }

pub loop-ch-preserved : goal.loop-ch-preserved
loop-ch-preserved c =
    let e = c.in_ok-charge.ensures in
    read_more c.loop-ch.invariant c.in-Some.ensures (went _ _ _ e.work tt e.says).0 c.if-not-extends_name.ensures

pub returns : goal.returns
returns c =
    let l = c.loop-ch in
    let r : Read c.args.syntax c.args.input.now c.args.work.now c.match-first_char.work l.end = elim c.match-first_char.branch [
      | in-Some+in_ok-charge+then-not-extends_name w ↦
          let e = w.in_ok-charge.ensures in
          rw w.work-is (read_stop l.invariant w.in-Some.ensures (went _ _ _ e.work tt e.says).0 w.if-not-extends_name.ensures)
      | in_default w ↦ rw w.work-is (read_none l.invariant w.in_default.ensures)
    ] in
    let o = read_ends r c.split_name.ensures in
    record { says = o.says; work = o.work; text = text_glyphs _; cuts = parts_utf8 _ _; longest = name_law _ _ }
