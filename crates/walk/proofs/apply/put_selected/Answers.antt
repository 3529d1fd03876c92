use Rattle.walk.proofs.Reaching.{reach_literal}
use Rattle.walk.proofs.apply.put_selected.Goals as goal

pub returns : goal.returns
returns c = λ means deep aim left es r.
    let begun = c.begin_selected.ensures means deep aim _ _ r in
    c.complete_frame.ensures means deep aim left es (reach_literal c.args.text.now c.put_bytes.ensures.grows begun)
