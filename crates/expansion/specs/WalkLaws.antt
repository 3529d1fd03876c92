-- The laws of the walk, together.
use Rattle.expansion.specs.Laws.{ChangedByRoot, LimitsOnlyRefuse, ShapesDecide, UnhinderedFree}
use Rattle.expansion.specs.Segments.{EndedSegments, OthersRefused, SegmentsEnded, SegmentsUnique, UnchangedItself}
use Rattle.expansion.specs.References.{Operators, ValuesCopied}
use Rattle.expansion.specs.Lengths.{MessageLength, PiecesFew, TextBounded}

pub record WalkLaws : Type 0 where
  pub limits_only_refuse : LimitsOnlyRefuse
  pub unhindered_free : UnhinderedFree
  pub shapes_decide : ShapesDecide
  pub changed_by_root : ChangedByRoot
  pub unchanged_itself : UnchangedItself
  pub ended_segments : EndedSegments
  pub segments_ended : SegmentsEnded
  pub others_refused : OthersRefused
  pub segments_unique : SegmentsUnique
  pub operators : Operators
  pub values_copied : ValuesCopied
  pub message_length : MessageLength
  pub pieces_few : PiecesFew
  pub text_bounded : TextBounded
