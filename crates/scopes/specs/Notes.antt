-- What noting a pair does to the pair memory.
use Rattle.std.specs.Prelude.{ℕ, ◌+◌, Bool, false, cond, not, ◌&&◌, List, ◌++◌, length, take, drop, Some, None, Ok, Err, Option, Result, nat_le, slice_set}
use Rattle.pairs.specs.Pairs.{Pair, has}
use Rattle.pairs.specs.Records.{within}
use Rattle.pairs.specs.declared.record.PairRecord.{PairRecord}
use Rattle.scopes.specs.declared.marks.RedactionMarks.{RedactionMarks}
use Rattle.scopes.specs.declared.note.PairsFull.{PairsFull}
use Rattle.scopes.specs.Marks.{recorded}

-- The pair memory with its marks.
pub record PairMemory : Type 0 where
  pub marks : RedactionMarks
  pub records : List PairRecord
  pub bytes : List ℕ

abbrev pub memory : RedactionMarks → List PairRecord → List ℕ → PairMemory
memory m records bytes = record { marks = m; records = records; bytes = bytes }

-- the scope that starts there lacks the pair, of those recorded; no scope lacks one
abbrev pub lacks_from : Option ℕ → List Pair → Pair → Bool
lacks_from None ps p = false
lacks_from (Some s) ps p = not (has (drop s ps) p)

-- the innermost open scope lacks the pair
abbrev pub lacks : PairMemory → Pair → Bool
lacks y p = lacks_from y.marks.start (recorded y.marks y.records y.bytes) p

-- the record of a new pair: its bytes come behind those in use, the text and then the result
abbrev pub record_for : PairMemory → Pair → PairRecord
record_for y p = record { at = y.marks.bytes; text = length p.0; result = length p.1 }

-- a new pair has a record and bytes enough
abbrev pub room : PairMemory → Pair → Bool
room y p = not (nat_le (length y.records) y.marks.records) && within (length y.bytes) (record_for y p)

-- a text and a result laid into bytes from a place on
abbrev pub laid_at : ℕ → Pair → List ℕ → List ℕ
laid_at at p bytes = take at bytes ++ (p.0 ++ (p.1 ++ drop (at + length p.0 + length p.1) bytes))

-- one pair more
abbrev pub appended : PairMemory → Pair → PairMemory
appended y p =
    record {
      marks = record { records = y.marks.records + 1; bytes = y.marks.bytes + length p.0 + length p.1; start = y.marks.start };
      records = slice_set y.records y.marks.records (record_for y p);
      bytes = laid_at y.marks.bytes p y.bytes;
    }

abbrev pub full : PairsFull
full = record {}

-- a pair that is to be recorded: the answer, and the memory, which stays as it was where there is no room
abbrev pub append_answer : PairMemory → Pair → Result (Unit {0}) PairsFull
append_answer y p = cond (room y p) (Ok tt) (Err full)

abbrev pub append_memory : PairMemory → Pair → PairMemory
append_memory y p = cond (room y p) (appended y p) y

-- A pair is noted: where the innermost open scope lacks it, it is recorded.
abbrev pub note_answer : PairMemory → Pair → Result (Unit {0}) PairsFull
note_answer y p = cond (lacks y p) (append_answer y p) (Ok tt)

abbrev pub note_memory : PairMemory → Pair → PairMemory
note_memory y p = cond (lacks y p) (append_memory y p) y

-- it is to be recorded, and there is no room for it
abbrev pub unplaced : PairMemory → Pair → Bool
unplaced y p = lacks y p && not (room y p)

-- a pair that has its place is noted
abbrev pub noted : PairMemory → Pair → PairMemory
noted y p = cond (lacks y p) (appended y p) y
