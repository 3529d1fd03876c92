use Rattle.std.proofs.Common.{◌≡◌, ◌+◌, ◌<◌, [], ◌∷◌, ◌++◌, length, Some, Ok, sym, refl, ap, ◌∙◌, subst, arith, rules}
use Rattle.std.proofs.lemmas.Result.{err_from_is_err_and}
use Rattle.stack.specs.Held.{memory}
use Rattle.source.specs.Shapes.{shapes}
use Rattle.walk.specs.declared.frame.ExpansionFrame.{ExpansionFrame}
use Rattle.walk.specs.Frames.{Framed, Reached, Nested, completed, moved, part}
use Rattle.walk.specs.Slots.{open_frames}
use Rattle.walk.specs.Stacks.{Turned, left, pending}
use Rattle.walk.proofs.Reaching.{reach_same}
use Rattle.walk.proofs.Stacking.{fuel, newest, reach_nested, reach_newest, room_first, room_second, slot_each, turned_end, turned_nested, turns_by}
use Rattle.walk.proofs.frames.walk_newest.Goals as goal

pub walk_frame-requires : goal.walk_frame-requires
walk_frame-requires g c = (newest (open_frames g.F.FrameSlot.kept c.args.frames.now) c.args.frame c.requires).within

pub returns-in_err-nested-clause-goes : goal.returns-in_err-nested-clause-goes
returns-in_err-nested-clause-goes g c =
    let xs = open_frames g.F.FrameSlot.kept c.args.frames.now in
    let x = c.args.frame in
    let p = err_from_is_err_and c.from_residual.result c.from_residual.ensures.1 in
    let d : c.len-depth.result + 1 ≡ length xs + 1 = ap (λ n. n + 1) (c.len-depth.ensures ∙ slot_each g.F.FrameSlot.kept c.args.frames.now) in
    rw (p.1, p.2) (λ aim r. c.in_err-nested.ensures.goes (fuel xs x c.requires) aim (left xs) _ (reach_newest xs x c.requires (c.len-depth.result + 1) d r))

pub finish_frame-requires : goal.finish_frame-requires
finish_frame-requires g c =
    let s = newest (open_frames g.F.FrameSlot.kept c.args.frames.now) c.args.frame c.requires in
    let same = c.in_ok-nested.ensures.frame in
    let start = ap (λ (z : ExpansionFrame). z.start) same in
    let end = ap (λ (z : ExpansionFrame). z.end) same in
    (omega (arith, s.ordered), omega (arith, s.within))

pub returns-in_default : goal.returns-in_default
returns-in_default g c =
    let e = c.in_ok-nested.ensures in
    let m = g.S.PropertySource.means c.args.given.now.source.now in
    let text = c.args.given.now.text.now in
    let xs = open_frames g.F.FrameSlot.kept c.args.frames.now in
    let x = c.args.frame in
    let y = c.walk_frame.new.frame in
    let st = c.walk_frame.new.walk in
    let d : c.len-depth.result + 1 ≡ length xs + 1 = ap (λ n. n + 1) (c.len-depth.ensures ∙ slot_each g.F.FrameSlot.kept c.args.frames.now) in
    record {
      turns = turns_by _ (turned_end xs x c.requires);
      goes = λ aim r.
          let es = pending (shapes m) text 0 xs [] in
          let to = e.goes (fuel xs x c.requires) aim (left xs) (completed x.completion (part text x.start x.end) es) (reach_newest xs x c.requires (c.len-depth.result + 1) d r) in
          let at = subst (λ o. Framed m c.args.given.now.max_depth text aim (fuel xs x c.requires) (c.len-depth.result + 1) (left xs) (completed x.completion (part text x.start x.end) es) y st (Ok o)) c.in_default.is to in
          c.finish_frame.ensures m c.args.given.now.max_depth aim (left xs) es (reach_same (ap (λ (z : ExpansionFrame). completed z.completion (part text z.start z.end) es) (sym e.frame)) at);
      memory = refl;
    }

pub returns : goal.returns
returns g c =
    let e = c.in_ok-nested.ensures in
    let m = g.S.PropertySource.means c.args.given.now.source.now in
    let text = c.args.given.now.text.now in
    let xs = open_frames g.F.FrameSlot.kept c.args.frames.now in
    let x = c.args.frame in
    let y = c.walk_frame.new.frame in
    let n = c.in-Some.nested in
    let k = y.cursor in
    let st = c.walk_frame.new.walk in
    let d : c.len-depth.result + 1 ≡ length xs + 1 = ap (λ n. n + 1) (c.len-depth.ensures ∙ slot_each g.F.FrameSlot.kept c.args.frames.now) in
    let nests = subst (λ o. Nested x.cursor k x.end (Ok o)) c.in-Some.is e.nested in
    let slots : length (memory c.push_frame.new.frames) ≡ length (memory c.args.frames.now) = search rules in
    let space = room_first xs x c.requires k n nests in
    let first : open_frames g.F.FrameSlot.kept c.push_frame.new.frames ≡ xs ++ moved x k ∷ [] = search rules in
    let room : length (open_frames g.F.FrameSlot.kept c.push_frame.new.frames) < length (memory c.push_frame.new.frames) = omega (arith, ap length first, slots, room_second xs x c.requires k n nests) in
    let both : open_frames g.F.FrameSlot.kept c.push_frame-2.new.frames ≡ (xs ++ moved x k ∷ []) ++ n ∷ [] = search rules in
    record {
      turns = subst (Turned text (length (memory c.args.frames.now)) (xs ++ x ∷ [])) (sym both) (turned_nested xs x c.requires k n nests);
      goes = λ aim r.
          let es = completed x.completion (part text x.start x.end) (pending (shapes m) text 0 xs []) in
          let to = e.goes (fuel xs x c.requires) aim (left xs) es (reach_newest xs x c.requires (c.len-depth.result + 1) d r) in
          let at = subst (λ o. Framed m c.args.given.now.max_depth text aim (fuel xs x c.requires) (c.len-depth.result + 1) (left xs) es y st (Ok o)) c.in-Some.is to in
          let at₁ = subst (λ z. Framed m c.args.given.now.max_depth text aim (fuel xs x c.requires) (c.len-depth.result + 1) (left xs) es z st (Ok (Some n))) e.frame at in
          subst (λ l. Reached m c.args.given.now.max_depth aim (left l) (pending (shapes m) text 0 l []) st) (sym both) (reach_nested xs x c.requires (c.len-depth.result + 1) d k n at₁);
      memory = search rules;
    }
