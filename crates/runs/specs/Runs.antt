-- A whole run in code.
use Rattle.std.specs.Prelude.{◌≡◌, ℕ, ◌<◌, ◌≤◌, List, [], ◌++◌, map, length, Ok, Err, Option, Result}
use Rattle.names.specs.declared.PropertySyntax.{PropertySyntax}
use Rattle.pairs.specs.Pairs.{firsts}
use Rattle.pairs.specs.declared.record.PairRecord.{PairRecord}
use Rattle.scopes.specs.Notes.{memory}
use Rattle.scopes.specs.declared.marks.RedactionMarks.{RedactionMarks}
use Rattle.walk.specs.Outcomes.{limits}
use Rattle.runs.specs.declared.run.TooFewFormers.{TooFewFormers}
use Rattle.runs.specs.Laws.{Alike, Raised, SameRuns, front, since, sized}
use Rattle.runs.specs.Lines.{Chain, Line, lines}
use Rattle.runs.specs.Memory.{Memory, area_left, memory_left, new, scopes_in}
use Rattle.runs.specs.Model.{Call, Entry, Meaning, Setup, run}

-- The memory that a run is lent, but for the frames: pair records and bytes, the output area, and places for the starts of outer scopes.
pub record Lent : Type 0 where
  pub records : List PairRecord
  pub bytes : List ℕ
  pub area : List ℕ
  pub formers : List (Option ℕ)

abbrev pub lent : List PairRecord → List ℕ → List ℕ → List (Option ℕ) → Lent
lent records bytes area formers = record { records = records; bytes = bytes; area = area; formers = formers }

-- what a run goes by, with so many frames
abbrev pub setup : PropertySyntax → (depth work frames : ℕ) → Lent → Setup
setup s depth work frames b = sized (record { syntax = s; limits = limits depth work; frames = frames; area = length b.area }) b.records b.bytes

-- the memory of a new session
abbrev pub begun : Lent → Memory
begun b = new b.records b.bytes b.formers

-- the memory with `depth` scopes open
abbrev pub memory_at : RedactionMarks → Lent → (depth : ℕ) → Memory
memory_at marks a depth = record { pairs = memory marks a.records a.bytes; formers = a.formers; depth = depth }

-- A run of the calls cs, with the memory b before and a after, the journal i before and j after, and the marks at its end.
pub record Ran {J : Type 0} (tells : J → Line → J → Type 0) (m : Meaning) (s : Setup) (cs : List Call) (b : Lent) (i : J) (marks : RedactionMarks) (a : Lent) (j : J) : Type 0 where
  -- the journal was told each entry of the run, in order
  pub told : Chain tells i (lines cs (run m s cs)) j
  -- what the memory is left with
  pub memory : memory_at marks a (length (since [] cs (run m s cs))) ≡ memory_left (begun b) cs (run m s cs)
  pub area : a.area ≡ area_left (length b.area) b.area (run m s cs)
  -- each open scope holds the pairs noted since its opening
  pub held : scopes_in (memory_at marks a (length (since [] cs (run m s cs)))) ≡ map firsts (since [] cs (run m s cs))
  -- under higher limits and with more space it begins with the same entries
  pub raised : (high : Setup) → Raised s high → (rest : List Entry) × (run m high cs ≡ front (run m s cs) ++ rest)
  -- under a source with the same names unset, empty and filled it differs in values alone
  pub alike : (n : Meaning) → Alike m n → SameRuns m n s.session 0 cs (run m s cs) (run n s cs)

-- The calls were run, there being a place for the start of each scope that they may open; or nothing was done.
abbrev pub Ends : {J : Type 0} → (J → Line → J → Type 0) → Meaning → Setup → List Call → Lent → J → Result RedactionMarks TooFewFormers → Lent → J → Type 0
Ends tells m s cs b i (Ok marks) a j = (length cs ≤ length b.formers) × Ran tells m s cs b i marks a j
Ends tells m s cs b i (Err e) a j = (length b.formers < length cs) × (a ≡ b) × (j ≡ i)
