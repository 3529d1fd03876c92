-- What the loop over the calls keeps: what is left to run gives the rest of the run. Assumes nothing.
use Rattle.std.proofs.Common.{◌≡◌, ℕ, zero, suc, ◌+◌, ◌<◌, ◌≤◌, List, [], ◌∷◌, ◌++◌, map, length, get_or, drop, Some, None, Option, sym, refl, ap, ◌∙◌, subst, ap₂, arith}
use Rattle.std.proofs.lemmas.List.{append_assoc, append-nil, drop_all, drop_more, length-map}
use Rattle.pairs.specs.Pairs.{firsts}
use Rattle.stack.specs.Held.{held, memory as lent_of}
use Rattle.stack.specs.declared.Stack.{Stack}
use Rattle.scopes.specs.Marks.{fresh as fresh_marks}
use Rattle.scopes.specs.declared.marks.RedactionMarks.{RedactionMarks}
use Rattle.pairs.specs.declared.record.PairRecord.{PairRecord}
use Rattle.session.specs.Calls.{Settings}
use Rattle.runs.specs.declared.call.Call.{Call as CodeCall}
use Rattle.runs.specs.Laws.{since, sized}
use Rattle.runs.specs.Lines.{CodeReply, Chain, Line, call_of, line, line_of, lines, own, reply_of, text_read, text_told}
use Rattle.runs.specs.Lines.Chain.{none, more}
use Rattle.runs.specs.Memory.{Memory, answer_in, area_after, area_left, memory_after, memory_left, scopes_in, starts}
use Rattle.runs.specs.Model.{Call, Effect, Entry, Meaning, Setup, answer, effect, run, run_from}
use Rattle.runs.specs.Runs.{Lent, Ran, begun, lent, memory_at}
use Rattle.runs.specs.Steps.{Stepped, memory_of}
use Rattle.runs.proofs.RaisingLaws.{raising_keeps}
use Rattle.runs.proofs.ScopesLaws.{after_depth, scopes_hold, stands_call}
use Rattle.runs.proofs.Standing.{Formed, Stands, answer_in_is, reads, stands_new}
use Rattle.runs.proofs.Telling.{text_in_is}
use Rattle.runs.proofs.ValuesLaws.{values_do_not_show}

-- one line more
chain_push : {J : Type 0} (tells : J → Line → J → Type 0) (i j k : J) (ls : List Line) (l : Line) → Chain tells i ls j → tells j l k → Chain tells i (ls ++ (l ∷ [])) k
chain_push tells i j k [] l none h = more h none
chain_push tells i j k (x ∷ ls) l (more {j = n} g c) h = more g (chain_push tells n j k ls l c h)

starts_length : (o : Option ℕ) (fs : List (Option ℕ)) (d : ℕ) → Formed o fs d → length (starts o fs d) ≡ d
starts_length None fs zero f = refl
starts_length None fs (suc d) f = absurd f
starts_length (Some s) fs zero f = absurd f
starts_length (Some s) fs (suc d) f = ap suc (starts_length (get_or fs d None) fs d f)

-- b is the memory lent, and i the journal, as the run began
module _ {J : Type 0} (tells : J → Line → J → Type 0) (m : Meaning) (s : Settings) (calls : List CodeCall) (b : Lent) (i : J) where
  abbrev u : Setup
  u = record { session = s; records = length b.records; bytes = length b.bytes }

  abbrev cs : List Call
  cs = map call_of calls

  abbrev rest : ℕ → List Call
  rest k = map call_of (drop k calls)

  -- the entries from the call at k on
  abbrev ahead : ℕ → Memory → ℕ → List Entry
  ahead k y t = run_from m u (reads y) t (rest k)

  -- before the call at k: the memory y, the work total t, the output area, and the journal j, which was told `said`
  pub record Running (k : ℕ) (y : Memory) (t : ℕ) (held_now : List ℕ) (j : J) : Type 0 where
    pub stands : Stands (length b.records) (length b.bytes) y
    pub depth : y.depth ≤ k
    pub places : length y.formers ≡ length b.formers
    pub said : List Line
    pub chain : Chain tells i said j
    pub told : lines cs (run m u cs) ≡ said ++ lines (rest k) (ahead k y t)
    pub memory : memory_left (begun b) cs (run m u cs) ≡ memory_left y (rest k) (ahead k y t)
    pub area : area_left (length b.area) b.area (run m u cs) ≡ area_left (length b.area) held_now (ahead k y t)

  pub running_none : (st : Stack (Option ℕ)) (marks : RedactionMarks) (t : ℕ) → marks ≡ fresh_marks → t ≡ 0 → held st ≡ [] → lent_of st ≡ b.formers →
      Running 0 (memory_of marks b.records b.bytes st) t b.area i
  running_none st marks t e z h f =
      let same : memory_of marks b.records b.bytes st ≡ begun b = λ p. record { pairs = record { marks = e p; records = b.records; bytes = b.bytes }; formers = f p; depth = length (h p) } in
      subst (λ n. Running 0 (memory_of marks b.records b.bytes st) n b.area i) (sym z)
      (subst (λ y. Running 0 y 0 b.area i) (sym same)
      (record {
        stands = stands_new b.records b.bytes b.formers;
        depth = omega arith;
        places = refl;
        said = [];
        chain = none;
        told = refl;
        memory = refl;
        area = refl;
      }))

  -- one call, as the ledger has it
  running_next : (k : ℕ) (y : Memory) (t : ℕ) (now : List ℕ) (j l : J) (d : CodeCall) → k < length calls → length calls ≤ length b.formers → Running k y t now j →
      tells j (line_of (call_of (get_or calls k d)) (answer m u (reads y) t (call_of (get_or calls k d)))) l →
      Running (k + 1) (memory_after y (effect (call_of (get_or calls k d)) (answer m u (reads y) t (call_of (get_or calls k d))).0))
      (answer m u (reads y) t (call_of (get_or calls k d))).1 (area_after (length b.area) now (answer m u (reads y) t (call_of (get_or calls k d))).0) l
  running_next k y t now j l d lt room r h =
      let c : Call = call_of (get_or calls k d) in
      let e : Entry = answer m u (reads y) t c in
      let f : Effect = effect c e.0 in
      let z : Memory = memory_after y f in
      let place : y.depth < length y.formers = omega (arith, r.depth, r.places) in
      let next = stands_call m u y t c r.stands place in
      let deep = after_depth y f in
      let R : List Entry = ahead (k + 1) z e.1 in
      let here : rest k ≡ c ∷ rest (k + 1) = ap (map call_of) (drop_more calls k d lt) in
      let roll : ahead k y t ≡ e ∷ R =
      ap (run_from m u (reads y) t) here ∙ ap (λ l. e ∷ run_from m u l e.1 (rest (k + 1))) (sym next.1) in
      record {
        stands = next.0;
        depth = omega (arith, deep.0, r.depth);
        places = deep.1 ∙ r.places;
        said = r.said ++ (line_of c e ∷ []);
        chain = chain_push tells i j l r.said (line_of c e) r.chain h;
        told = r.told ∙ ap₂ (λ x es. r.said ++ lines x es) here roll ∙ sym (append_assoc r.said (line_of c e ∷ []) (lines (rest (k + 1)) R));
        memory = r.memory ∙ ap₂ (memory_left y) here roll;
        area = r.area ∙ ap (area_left (length b.area) now) roll;
      }

  running_moved : (k : ℕ) (y z : Memory) (t v : ℕ) (now then_now : List ℕ) (j : J) → y ≡ z → t ≡ v → now ≡ then_now → Running k y t now j → Running k z v then_now j
  running_moved k y z t v now then_now j e f g r =
      subst (λ x. Running k z v x j) g (subst (λ x. Running k z x now j) f (subst (λ x. Running k x t now j) e r))

  pub running_more : (k : ℕ) (y z : Memory) (t v : ℕ) (now then_now : List ℕ) (j l : J) (d : CodeCall) (r : CodeReply) (text : List ℕ) →
      k < length calls → length calls ≤ length b.formers → length now ≡ length b.area → Running k y t now j →
      Stepped m s y t now (call_of (get_or calls k d)) r z v then_now → text ≡ text_read r (own (call_of (get_or calls k d))) then_now →
      (w : ℕ) → w ≡ v → tells j (line (call_of (get_or calls k d)) r text w) l → Running (k + 1) z v then_now l
  running_more k y z t v now then_now j l d r text lt room size run_so st is w w_is h =
      let c : Call = call_of (get_or calls k d) in
      let e : Entry = answer_in m s y t c in
      let same : e ≡ answer m u (reads y) t c = answer_in_is m u y t c run_so.stands in
      let reply_is : r ≡ reply_of c e.0 = st.reply in
      let total_is : v ≡ e.1 = st.total in
      let memory_is : z ≡ memory_after y (effect c e.0) = st.memory in
      let area_is : then_now ≡ area_after (length b.area) now e.0 = st.area ∙ ap (λ n. area_after n now e.0) size in
      let text_so : text ≡ text_told c e.0 = is ∙ ap₂ (λ a x. text_read a (own c) x) reply_is area_is ∙ text_in_is m s y t (length b.area) now c in
      let read_is : w ≡ e.1 = w_is ∙ total_is in
      let line_is : line c r text w ≡ line_of c (answer m u (reads y) t c) = (λ p. line c (reply_is p) (text_so p) (read_is p)) ∙ ap (line_of c) same in
      let got = running_next k y t now j l d lt room run_so (subst (λ x. tells j x l) line_is h) in
      running_moved (k + 1) (memory_after y (effect c (answer m u (reads y) t c).0)) z (answer m u (reads y) t c).1 v (area_after (length b.area) now (answer m u (reads y) t c).0) then_now l
      (sym (memory_is ∙ ap (λ (x : Entry). memory_after y (effect c x.0)) same))
      (sym (total_is ∙ ap (λ (x : Entry). x.1) same))
      (sym (area_is ∙ ap (λ (x : Entry). area_after (length b.area) now x.0) same)) got

  -- after the last call
  pub running_all : (k : ℕ) (marks : RedactionMarks) (records : List PairRecord) (bytes : List ℕ) (st : Stack (Option ℕ)) (t : ℕ) (now : List ℕ) (j : J) →
      length calls ≤ k → length calls ≤ length b.formers → Running k (memory_of marks records bytes st) t now j →
      (fs : List (Option ℕ)) → fs ≡ lent_of st → Ran tells m u cs b i marks (lent records bytes now fs) j
  running_all k marks records bytes st t now j le room r fs back =
      let es : List Entry = run m u cs in
      let y : Memory = memory_of marks records bytes st in
      let nothing : rest k ≡ [] = ap (map call_of) (drop_all k calls le) in
      let over : ahead k y t ≡ [] = ap (run_from m u (reads y) t) nothing in
      let ended : memory_left (begun b) cs es ≡ y = r.memory ∙ ap₂ (memory_left y) nothing over in
      let count : length cs ≤ length b.formers = omega (arith, length-map calls call_of) in
      let hold : scopes_in (memory_left (begun b) cs es) ≡ map firsts (since [] cs es) = scopes_hold m s b.records b.bytes b.formers cs count in
      let many : length (since [] cs es) ≡ y.depth =
      sym (length-map (since [] cs es) firsts) ∙ ap length (sym hold ∙ ap scopes_in ended) ∙ length-map (starts marks.start (lent_of st) y.depth) _ ∙ starts_length marks.start (lent_of st) y.depth r.stands.formed in
      let left : memory_at marks (lent records bytes now fs) (length (since [] cs es)) ≡ memory_left (begun b) cs es =
      ap₂ (λ x n. memory_at marks (lent records bytes now x) n) back many ∙ sym ended in
      record {
        told = subst (λ ls. Chain tells i ls j) (sym (r.told ∙ (ap₂ (λ x xs. r.said ++ lines x xs) nothing over ∙ append-nil r.said))) r.chain;
        memory = left;
        area = sym (r.area ∙ ap (area_left (length b.area) now) over);
        held = ap scopes_in left ∙ hold;
        raised = λ high up. raising_keeps m u high cs up;
        alike = λ n al. values_do_not_show m n u cs al;
      }

-- the same, of one source and one setup
pub stepped_moved : (m n : Meaning) (s r : Settings) {y : Memory} {t : ℕ} {now : List ℕ} {c : Call} {q : CodeReply} {z : Memory} {v : ℕ} {then_now : List ℕ} → m ≡ n → s ≡ r →
    Stepped m s y t now c q z v then_now → Stepped n r y t now c q z v then_now
stepped_moved m n s r {y} {t} {now} {c} {q} {z} {v} {then_now} e f h = subst (λ x. Stepped n x y t now c q z v then_now) f (subst (λ x. Stepped x s y t now c q z v then_now) e h)

pub ran_moved : {J : Type 0} (tells : J → Line → J → Type 0) (m n : Meaning) (s r : Settings) (records : List PairRecord) (bytes area : List ℕ) (fs gs : List (Option ℕ)) (cs : List Call) (i : J) (marks : RedactionMarks) (a : Lent) (j : J) →
    m ≡ n → s ≡ r → fs ≡ gs → Ran tells m (sized s records bytes) cs (lent records bytes area fs) i marks a j → Ran tells n (sized r records bytes) cs (lent records bytes area gs) i marks a j
ran_moved tells m n s r records bytes area fs gs cs i marks a j e f g h =
    subst (λ x. Ran tells n (sized r records bytes) cs (lent records bytes area x) i marks a j) g
    (subst (λ x. Ran tells n (sized x records bytes) cs (lent records bytes area fs) i marks a j) f (subst (λ x. Ran tells x (sized s records bytes) cs (lent records bytes area fs) i marks a j) e h))
