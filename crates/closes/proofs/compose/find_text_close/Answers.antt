use Rattle.std.proofs.Common.{◌+◌, get_or, Err, ap, ◌∙◌, arith}
use Rattle.std.proofs.lemmas.Result.{err_from_is_err_and}
use Rattle.budget.proofs.Calls.{went, broke}
use Rattle.closes.proofs.ComposeLaws.{Goes, Seen, at_newline, at_close, less, more, other, scanning_on, seen_here, seen_before, skipped}
use Rattle.closes.proofs.SearchLaws.{scan_ends, scan_over, scan_none}
use Rattle.closes.proofs.compose.find_text_close.Goals as goal
use Rattle.closes.proofs.compose.find_text_close.Goals.{Joined-byte-eq125, then-byte-eq125, else-byte-eq125, in-125+else-depth-eq0, in-123, in_default}

pub returns-in_err-charge : goal.returns-in_err-charge
returns-in_err-charge c =
    let e = c.in_err-charge.ensures in
    let p = err_from_is_err_and c.from_residual.result c.from_residual.ensures.1 in
    let o = scan_over c.loop-offset.invariant.scan c.loop-offset-test.true (broke _ _ _ e.work tt e.says) in
    record { says = p.1 ∙ ap Err p.2 ∙ o.says; work = o.work }

pub returns-then-byte-eq-NEWLINE : goal.returns-then-byte-eq-NEWLINE
returns-then-byte-eq-NEWLINE c =
    let e = c.in_ok-charge.ensures in
    let l = c.loop-offset in
    let o = scan_ends l.invariant.scan c.loop-offset-test.true (went _ _ _ e.work tt e.says).0 (at_newline l.depth l.skip_next _ _ _ c.if-byte-eq-NEWLINE.true) in
    record { says = o.says; work = o.work }

latest : (c : Joined-byte-eq125) → Seen c.loop-offset.last_close (c.args.start + c.loop-offset.offset) (get_or c.args.text.now c.loop-offset.offset 0) c.if-byte-eq125.last_close
latest c =
    elim c.if-byte-eq125.branch [
      | then-byte-eq125 w ↦ seen_here w.if-byte-eq125.true w.last_close-is
      | else-byte-eq125 w ↦ seen_before w.if-byte-eq125.false w.last_close-is
    ]

pub loop-offset-preserved-then-skip_next : goal.loop-offset-preserved-then-skip_next
loop-offset-preserved-then-skip_next c =
    let e = c.in_ok-charge.ensures in
    let l = c.loop-offset in
    let seen = latest (goal.at.loop-offset-preserved-then-skip_next c).Joined-byte-eq125 in
    scanning_on l.invariant c.loop-offset-test.true (went _ _ _ e.work tt e.says).0 (skipped l.invariant.low seen c.if-byte-eq-NEWLINE.false c.if-skip_next.true)

pub returns-then-depth-eq0 : goal.returns-then-depth-eq0
returns-then-depth-eq0 c =
    let e = c.in_ok-charge.ensures in
    let l = c.loop-offset in
    let t = at_close _ l.skip_next l.last_close _ _ c.in-125.is c.if-skip_next.false l.invariant.low c.if-depth-eq0.true in
    let o = scan_ends l.invariant.scan c.loop-offset-test.true (went _ _ _ e.work tt e.says).0 t in
    record { says = o.says; work = o.work }

pub loop-offset-preserved : goal.loop-offset-preserved
loop-offset-preserved c =
    let e = c.in_ok-charge.ensures in
    let l = c.loop-offset in
    let b = get_or c.args.text.now l.offset 0 in
    let s = c.if-skip_next.false in
    let seen = latest (goal.at.loop-offset-preserved c).Joined-byte-eq125 in
    let on : Goes l.depth l.skip_next l.last_close (c.args.start + l.offset) b c.match-byte.depth c.match-byte.skip_next c.if-byte-eq125.last_close
    = elim c.match-byte.branch [
      | in-125+else-depth-eq0 w ↦ less l.invariant.low seen w.in-125.is s w.if-depth-eq0.false w.depth-is w.skip_next-is
      | in-123 w ↦ more l.invariant.low seen w.in-123.is s w.depth-is w.skip_next-is
      | in_default w ↦ other l.invariant.low seen c.if-byte-eq-NEWLINE.false (λ h. omega arith) (λ h. omega arith) s w.depth-is w.skip_next-is
    ] in
    scanning_on l.invariant c.loop-offset-test.true (went _ _ _ e.work tt e.says).0 on

pub returns : goal.returns
returns c = let o = scan_none c.loop-offset.invariant.scan c.loop-offset-test.false in record { says = o.says; work = o.work }
