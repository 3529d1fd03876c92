use Rattle.std.proofs.Common.{ap, ◌∙◌, [], subst, sym, arith}
use Rattle.walk.specs.declared.state.Walk.{Walk}
use Rattle.walk.specs.Frames.{Message}
use Rattle.walk.proofs.Reaching.{message_pieces, message_source}
use Rattle.walk.proofs.apply.message_len.Goals as goal

pub returns : goal.returns
returns c = λ means deep aim left es r.
    let text = c.args.text.now in
    let told : Walk → Type 0 = λ now. Message means deep aim text c.args.walk.now now c.len.result r.pieces in
    elim c.if-walk.branch [
      | goal.then-walk w ↦
          let len = c.len.ensures ∙ ap (λ (now : Walk). now.out.now.len) w.walk-is in
          subst told (sym w.walk-is) (message_source text _ (omega arith) w.if-walk.true len r (λ old h. w.put_bytes.ensures.grows aim.lent [] (w.clear.ensures.holds aim.lent old h)))
      | goal.else-walk w ↦
          let len = c.len.ensures ∙ ap (λ (now : Walk). now.out.now.len) w.walk-is in
          subst told (sym w.walk-is) (message_pieces text _ w.if-walk.false len r)
    ]
