-- What the marks say of the pair memory.
use Rattle.std.specs.Prelude.{ℕ, Bool, ◌&&◌, List, [], length, take, drop, Some, None, Option, nat_le}
use Rattle.pairs.specs.Pairs.{Pair}
use Rattle.pairs.specs.Records.{all_within, pairs_in}
use Rattle.pairs.specs.declared.record.PairRecord.{PairRecord}
use Rattle.scopes.specs.declared.marks.RedactionMarks.{RedactionMarks}

-- no scope is open
abbrev pub fresh : RedactionMarks
fresh = record { records = 0; bytes = 0; start = None }

-- a scope is opened: it starts behind the records in use
abbrev pub entered : RedactionMarks → RedactionMarks
entered m = record { records = m.records; bytes = m.bytes; start = Some m.records }

-- the innermost scope is ended, and the one that starts at `former` is back; the end of the outermost frees the memory
abbrev pub left : Option ℕ → RedactionMarks → RedactionMarks
left None m = fresh
left (Some s) m = record { records = m.records; bytes = m.bytes; start = Some s }

-- the records in use are there, and lie inside n bytes
abbrev pub sound : RedactionMarks → List PairRecord → ℕ → Bool
sound m records n = nat_le m.records (length records) && all_within n (take m.records records)

-- the pairs that were recorded, by all scopes
abbrev pub recorded : RedactionMarks → List PairRecord → List ℕ → List Pair
recorded m records bytes = pairs_in bytes (take m.records records)

-- those of a scope, by where it starts
abbrev pub from_start : Option ℕ → List Pair → List Pair
from_start None ps = []
from_start (Some s) ps = drop s ps

-- those of the innermost open scope, as they were recorded
abbrev pub innermost : RedactionMarks → List PairRecord → List ℕ → List Pair
innermost m records bytes = from_start m.start (recorded m records bytes)
