-- What holds of every run.
use Rattle.std.specs.Prelude.{◌≡◌, ℕ, ◌≤◌, Bool, true, false, cond, List, [], ◌∷◌, ◌++◌, map, length, Option}
use Rattle.answers.specs.Told.{unchanged, replaced, refused}
use Rattle.names.specs.declared.PropertySyntax.{PropertySyntax}
use Rattle.names.specs.declared.PropertySyntax.TheVariants.{Braced, BracedOrBare, DockerCompose}
use Rattle.source.specs.Shapes.{shape, shapes, values}
use Rattle.items.specs.Pieces.{Piece, literal, spelled}
use Rattle.pairs.specs.Pairs.{Pair, firsts}
use Rattle.pairs.specs.declared.record.PairRecord.{PairRecord}
use Rattle.expansion.specs.Laws.{is_limit}
use Rattle.expansion.specs.Walks.{Outcome, ended, stopped, walk}
use Rattle.session.specs.Calls.{Settings}
use Rattle.session.specs.declared.error.CallError.{CallError}
use Rattle.session.specs.declared.error.CallError.TheVariants.{BadPairs, OutputTooShort, PairsFull, Property, Text, TooFewFrames}
use Rattle.runs.specs.Memory.{memory_left, new, scopes_in}
use Rattle.runs.specs.Model.{Call, Effect, Entry, Meaning, Reply, Setup, effect, run}
use Rattle.runs.specs.Model.Call.{key, value, message, dynamic, identifier, opening, ending}
use Rattle.runs.specs.Model.Effect.{notes, opens, ends, nothing}
use Rattle.runs.specs.Model.Reply.{told, done}

-- A setup with either limit or any size raised, or several of them.
pub record Raised (low high : Setup) : Type 0 where
  pub syntax : high.session.syntax ≡ low.session.syntax
  pub depth : low.session.limits.depth ≤ high.session.limits.depth
  pub work : low.session.limits.work ≤ high.session.limits.work
  pub frames : low.session.frames ≤ high.session.frames
  pub area : low.session.area ≤ high.session.area
  pub records : low.records ≤ high.records
  pub bytes : low.bytes ≤ high.bytes

-- a refusal for a limit or for space
abbrev pub is_stop : CallError → Bool
is_stop (Text e) = false
is_stop (TooFewFrames needed) = true
is_stop BadPairs = false
is_stop (Property fault) = is_limit fault
is_stop (OutputTooShort needed) = true
is_stop PairsFull = true

abbrev pub stops : Reply → Bool
stops (told unchanged) = false
stops (told (replaced text)) = false
stops (told (refused e m)) = is_stop e
stops done = false

-- the entries before the first such refusal
abbrev pub front : List Entry → List Entry
front [] = []
front (e ∷ es) = cond (stops e.0) [] (e ∷ front es)

-- Higher limits and more space keep every entry before the first refusal for a limit or for space.
abbrev pub RaisingKeeps : Type 0
RaisingKeeps =
    (m : Meaning) (low high : Setup) (cs : List Call) → Raised low high →
    (rest : List Entry) × (run m high cs ≡ front (run m low cs) ++ rest)

-- two sources under which each name is unset, has an empty value, or has a filled one alike
abbrev pub Alike : Meaning → Meaning → Type 0
Alike m n = (name : List ℕ) → shape (m name) ≡ shape (n name)

-- a refusal of which a value's length has no part: any but those of an output area that is too short, and of a pair memory that is full
abbrev pub is_firm : CallError → Bool
is_firm (Text e) = true
is_firm (TooFewFrames needed) = true
is_firm BadPairs = true
is_firm (Property fault) = true
is_firm (OutputTooShort needed) = false
is_firm PairsFull = false

abbrev pub refuses : Reply → Bool
refuses (told unchanged) = false
refuses (told (replaced text)) = false
refuses (told (refused e m)) = is_firm e
refuses done = false

-- the text that a key or value call gives
abbrev pub Gives : (own : List ℕ) → Reply → List ℕ → Type 0
Gives own (told unchanged) text = text ≡ own
Gives own (told (replaced r)) text = text ≡ r
Gives own (told (refused e m)) text = ⊥
Gives own done text = ⊥

-- the pieces of what a walk gives for a text: an unchanged text is its own bytes
abbrev pub pieces : (own : List ℕ) → Outcome → List Piece
pieces own (ended t true ps) = ps
pieces own (ended t false ps) = literal own
pieces own (stopped t e m) = []

abbrev pub walk_pieces : Meaning → Settings → (t : ℕ) → (own : List ℕ) → List Piece
walk_pieces m s t own = pieces own (walk (shapes m) s.syntax s.limits t own)

-- under DockerCompose a key is its own bytes
abbrev pub key_pieces : PropertySyntax → Meaning → Settings → (t : ℕ) → (own : List ℕ) → List Piece
key_pieces Braced m s t own = walk_pieces m s t own
key_pieces BracedOrBare m s t own = walk_pieces m s t own
key_pieces DockerCompose m s t own = literal own

-- Two replies to one key or value call under two sources: a refusal, with its message, is the same under both, but for those that a length has part in;
-- and where both give a text, the same pieces make both, each name with its value under that source.
pub record SameReply (m n : Meaning) (own : List ℕ) (ps : List Piece) (r q : Reply) : Type 0 where
  pub refusal : refuses r ≡ true → q ≡ r
  pub refusal_back : refuses q ≡ true → r ≡ q
  pub texts : (a b : List ℕ) → Gives own r a → Gives own q b → (a ≡ spelled (values m) ps) × (b ≡ spelled (values n) ps)

-- of the other calls nothing is said but the total
abbrev pub SameCall : Meaning → Meaning → Settings → (t : ℕ) → Call → Reply → Reply → Type 0
SameCall m n s t (key text) r q = SameReply m n text (key_pieces s.syntax m s t text) r q
SameCall m n s t (value text) r q = SameReply m n text (walk_pieces m s t text) r q
SameCall m n s t (message text) r q = Unit {0}
SameCall m n s t (dynamic text fallback) r q = Unit {0}
SameCall m n s t (identifier name fallback) r q = Unit {0}
SameCall m n s t opening r q = Unit {0}
SameCall m n s t ending r q = Unit {0}

-- entry by entry, from the total t on: the totals are equal, and the replies as said
pub data SameRuns (m n : Meaning) (s : Settings) : (t : ℕ) → List Call → List Entry → List Entry → Type 0 where
  none : {t : ℕ} → SameRuns m n s t [] [] []
  more : {t : ℕ} {c : Call} {cs : List Call} {d e : Entry} {ds es : List Entry} →
      d.1 ≡ e.1 → SameCall m n s t c d.0 e.0 → SameRuns m n s d.1 cs ds es → SameRuns m n s t (c ∷ cs) (d ∷ ds) (e ∷ es)

-- Which bytes a value has shows in no total and in no refusal, and in a text only where its name stands.
abbrev pub ValuesDoNotShow : Type 0
ValuesDoNotShow = (m n : Meaning) (s : Setup) (cs : List Call) → Alike m n → SameRuns m n s.session 0 cs (run m s cs) (run n s cs)

-- a pair noted last in each list
abbrev pub pushed : List (List Pair) → Pair → List (List Pair)
pushed ss p = map (λ s. s ++ (p ∷ [])) ss

abbrev pub inner_off : List (List Pair) → List (List Pair)
inner_off [] = []
inner_off (s ∷ ss) = ss

abbrev pub noted_after : List (List Pair) → Effect → List (List Pair)
noted_after ss (notes p) = pushed ss p
noted_after ss opens = [] ∷ ss
noted_after ss ends = inner_off ss
noted_after ss nothing = ss

-- All pairs noted since the opening of each open scope, repeats too, by the calls and their replies alone; the innermost first.
abbrev pub since : List (List Pair) → List Call → List Entry → List (List Pair)
since ss [] [] = ss
since ss [] (e ∷ es) = ss
since ss (c ∷ cs) [] = ss
since ss (c ∷ cs) (e ∷ es) = since (noted_after ss (effect c e.0)) cs es

abbrev pub sized : Settings → List PairRecord → List ℕ → Setup
sized s records bytes = record { session = s; records = length records; bytes = length bytes }

-- After a run each open scope, read as a redaction would were it the innermost, holds exactly the pairs noted since its opening, each once, in order of first noting.
abbrev pub ScopesHold : Type 0
ScopesHold =
    (m : Meaning) (s : Settings) (records : List PairRecord) (bytes : List ℕ) (formers : List (Option ℕ)) (cs : List Call) →
    length cs ≤ length formers →
    scopes_in (memory_left (new records bytes formers) cs (run m (sized s records bytes) cs)) ≡ map firsts (since [] cs (run m (sized s records bytes) cs))
