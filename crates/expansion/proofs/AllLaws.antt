-- The laws of the walk, together.
use Rattle.expansion.specs.WalkLaws.{WalkLaws}
use Rattle.expansion.proofs.LimitLaws.{limits_only_refuse, shapes_decide}
use Rattle.expansion.proofs.EndLaws.{changed_by_root, ended_segments}
use Rattle.expansion.proofs.SegmentLaws.{segments_ended, segments_unique}
use Rattle.expansion.proofs.UnchangedLaws.{unchanged_itself}
use Rattle.expansion.proofs.FreeLaws.{others_refused, unhindered_free}
use Rattle.expansion.proofs.ReferenceLaws.{operators, values_copied}
use Rattle.expansion.proofs.LengthLaws.{message_length, pieces_few, text_bounded}

pub walk_laws : WalkLaws
walk_laws =
    record {
      limits_only_refuse = limits_only_refuse;
      unhindered_free = unhindered_free;
      shapes_decide = shapes_decide;
      changed_by_root = changed_by_root;
      unchanged_itself = unchanged_itself;
      ended_segments = ended_segments;
      segments_ended = segments_ended;
      others_refused = others_refused;
      segments_unique = segments_unique;
      operators = operators;
      values_copied = values_copied;
      message_length = message_length;
      pieces_few = pieces_few;
      text_bounded = text_bounded;
    }
