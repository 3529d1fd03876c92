use Rattle.std.proofs.Common.{◌≡◌, ◌+◌, [], ◌∷◌, sym, subst, arith, rules}
use Rattle.std.proofs.lemmas.Result.{err_from_is_err_and}
use Rattle.source.specs.Shapes.{shapes}
use Rattle.walk.specs.Frames.{Reached, worked}
use Rattle.walk.specs.Slots.{open_frames}
use Rattle.walk.specs.Stacks.{left, pending}
use Rattle.walk.proofs.Reaching.{reach_charge, reach_less, reach_same, stop_charge}
use Rattle.walk.proofs.Starting.{begins_walked, root_events, root_frame}
use Rattle.walk.proofs.frames.walk_text.Goals as goal

pub returns-in_err-charge : goal.returns-in_err-charge
returns-in_err-charge g c =
    let e = c.in_err-charge.ensures in
    let sh = shapes (g.S.PropertySource.means c.args.given.now.source.now) in
    let p = err_from_is_err_and c.from_residual.result c.from_residual.ensures.1 in
    rw (p.1, p.2) (λ aim r. stop_charge (c.args.first + 1) e.work _ e.says (reach_same (begins_walked sh c.args.syntax c.args.given.now.text.now c.args.first c.requires.place) r))

pub returns : goal.returns
returns g c =
    let e = c.in_ok-charge.ensures in
    let m = g.S.PropertySource.means c.args.given.now.source.now in
    let text = c.args.given.now.text.now in
    let s = c.args.syntax in
    let one : open_frames g.F.FrameSlot.kept c.push_frame.new.frames ≡ root_frame s text ∷ [] = search rules in
    λ aim r.
    let at = reach_charge (c.args.first + 1) e.work e.says (reach_same (begins_walked (shapes m) s text c.args.first c.requires.place) r) in
    let in-root = reach_less (left (root_frame s text ∷ [])) (omega arith) (reach_same (root_events (shapes m) s text) at) in
    c.walk_frames.ensures aim (subst (λ l. Reached m c.args.given.now.max_depth aim (left l) (pending (shapes m) text 0 l []) (worked c.charge.new.self c.args.walk.now)) (sym one) in-root)
