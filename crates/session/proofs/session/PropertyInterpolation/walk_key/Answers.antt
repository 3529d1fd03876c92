use Rattle.std.proofs.Common.{arith}
use Rattle.std.proofs.lemmas.Grind.{common_steps}
use Rattle.session.proofs.session.PropertyInterpolation.walk_key.Goals as goal

pub returns-in-DockerCompose : goal.returns-in-DockerCompose
returns-in-DockerCompose g c =
    record {
      answer = grind (arith, common_steps);
      session = grind (arith, common_steps);
      area = grind (arith, common_steps);
      pairs = grind (arith, common_steps);
    }
