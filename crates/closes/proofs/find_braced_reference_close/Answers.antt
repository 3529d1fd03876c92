use Rattle.std.proofs.Common.{rules}
use Rattle.closes.specs.Closes.{close_looks}
use Rattle.closes.proofs.CloseLaws.{complete, sound, within_made}
use Rattle.closes.proofs.find_braced_reference_close.Goals as goal

pub returns-in-Braced : goal.returns-in-Braced
returns-in-Braced c =
    let s = c.args.syntax in
    let bs = c.args.body.now in
    record { says = search rules; work = search rules; within = within_made {r = c.find_balanced_close.result} c.args.work.now (close_looks s bs) s bs (search rules); sound = sound s bs; complete = complete s bs }

pub returns-in-DockerCompose : goal.returns-in-DockerCompose
returns-in-DockerCompose c =
    let s = c.args.syntax in
    let bs = c.args.body.now in
    record { says = search rules; work = search rules; within = within_made {r = c.find_compose_braced_reference_close.result} c.args.work.now (close_looks s bs) s bs (search rules); sound = sound s bs; complete = complete s bs }
