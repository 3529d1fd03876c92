-- The pairs that a list of records gives.
use Rattle.std.specs.Prelude.{List}
use Rattle.pairs.specs.Pairs.{Pair, firsts}
use Rattle.pairs.specs.Records.{pairs_in}
use Rattle.pairs.specs.declared.list.PairList.{PairList}
use Rattle.pairs.specs.declared.list.Pairs.{Pairs}

-- As they were recorded, repeats too.
abbrev pub listed : PairList → List Pair
listed l = pairs_in l.bytes.now l.records.now

-- Those that an iterator has left.
abbrev pub pairs_left : Pairs → List Pair
pairs_left s = listed s.rest

-- What the scope holds: each pair once, in order of first noting.
abbrev pub scope : PairList → List Pair
scope l = firsts (listed l)
