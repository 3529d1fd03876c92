use Rattle.std.proofs.Common.{◌≡◌, ◌<◌, ◌≤◌, List, [], length, take, drop}
use Prim.Native.Nat.{◌^◌}
use Rattle.pairs.specs.Lists.{listed, pairs_left}
use Rattle.pairs.specs.Pairs.{Pair}
use Rattle.pairs.specs.Sizes.{of_size}
use Rattle.pairs.proofs.News.{news}
use Rattle.redaction.specs.Drafts.{Kept, state_of}
use Rattle.redaction.specs.Redactions.{steps}
use Rattle.redaction.proofs.draft.Draft.take_size.Given as goal

-- what is left gives the rest
abbrev pub invariant-loop-i : goal.invariant-loop-i
invariant-loop-i l =
    let ps : List Pair = listed l.pairs in
    let n = length l.initial.self.area.now in
    record {
      rest : pairs_left l.pair-iterator ≡ drop l.i ps;
      low : l.i ≤ length ps;
      fits : length ps < 2 ^ 64;
      taken : steps n (state_of l.self) (of_size l.size (news (take l.i ps) (pairs_left l.pair-iterator))) ≡ steps n (state_of l.initial.self) (of_size l.size (news [] ps));
      kept : Kept l.initial.self l.self;
    }
