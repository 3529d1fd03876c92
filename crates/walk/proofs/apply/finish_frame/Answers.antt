use Rattle.std.proofs.Common.{sym, ap}
use Rattle.std.proofs.lemmas.Slice.{between_is}
use Rattle.walk.specs.Frames.{completed}
use Rattle.walk.proofs.Reaching.{reach_same}
use Rattle.walk.proofs.apply.finish_frame.Goals as goal

pub returns : goal.returns
returns c = λ means deep aim left es r.
    let text = c.args.text.now in
    let x = c.args.frame in
    c.complete_frame.ensures means deep aim left es (reach_same (ap (λ w. completed x.completion w es) (sym (between_is text x.start x.end))) r)
