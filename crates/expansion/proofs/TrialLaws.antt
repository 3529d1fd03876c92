-- The worked examples, by computation.
use Rattle.std.proofs.Common.{refl}
use Rattle.names.specs.Glyphs.{glyphs}
use Rattle.items.specs.Items.{item}
use Rattle.expansion.specs.Events.{frame, trace, events}
use Rattle.expansion.specs.Walks.{run, walk}
use Rattle.expansion.specs.Trials.{Trials}

pub trials : Trials
unfolding Trials walk run events trace frame item glyphs
trials = (refl, refl, refl, refl, refl, refl, refl, refl, refl, refl, refl, refl, refl, refl, refl, refl, refl)
