-- Which bytes a value has shows in no total and in no refusal, and in a text only where its name stands. Assumes nothing.
use Rattle.std.proofs.Common.{◌≡◌, ℕ, Bool, true, false, cond, leb, List, [], ◌∷◌, length, Ok, Err, Result, sym, refl, ap, ◌∙◌, subst}
use Rattle.std.proofs.lemmas.Bool.{false≢true}
use Rattle.answers.specs.Told.{Told, unchanged, replaced, refused}
use Rattle.names.specs.declared.PropertySyntax.{PropertySyntax}
use Rattle.names.specs.declared.PropertySyntax.TheVariants.{Braced, BracedOrBare, DockerCompose}
use Rattle.source.specs.Shapes.{values}
use Rattle.items.specs.Pieces.{Piece, literal, spelled}
use Rattle.expansion.specs.Walks.{Outcome, ended, stopped}
use Rattle.expansion.proofs.LimitLaws.{shapes_decide}
use Rattle.walk.specs.Outcomes.{told_by, total_left}
use Rattle.walk.specs.declared.interpolate.InterpolateError.TheVariants as W
use Rattle.walk.proofs.Runs.{spelled_literal}
use Rattle.session.specs.Calls.{Called, Settings, as_call, call_checked, if_passed, if_placed, key_walked, outcome, refusing, walk_called}
use Rattle.session.specs.declared.error.CallError.{CallError}
use Rattle.session.specs.declared.error.CallError.TheVariants.{OutputTooShort, PairsFull}
use Rattle.runs.specs.Laws.{Alike, Gives, SameCall, SameReply, SameRuns, ValuesDoNotShow, key_pieces, pieces, refuses, walk_pieces}
use Rattle.runs.specs.Laws.SameRuns.{none, more}
use Rattle.runs.specs.Model.{Call, Entry, Ledger, Meaning, Setup, answer, fresh, heard, run_from, unplaced}
use Rattle.runs.specs.Model.Call.{key, value, message, dynamic, identifier, opening, ending}
use Rattle.runs.specs.Model.Reply.{told}

-- what a call tells once its walk has made the text r
data Made (r : List ℕ) : Told CallError → Type 0 where
  given : Made r (replaced r)
  long : {k : ℕ} → Made r (refused (OutputTooShort k) [])
  full : Made r (refused PairsFull [])

made_cond : (r : List ℕ) (b : Bool) (x y : Told CallError) → Made r x → Made r y → Made r (cond b x y)
made_cond r true x y p q = p
made_cond r false x y p q = q

made_firm : {r : List ℕ} {x : Told CallError} → Made r x → refuses (told x) ≡ true → ⊥
made_firm given h = false≢true h
made_firm long h = false≢true h
made_firm full h = false≢true h

made_gives : {r : List ℕ} {x : Told CallError} (own a : List ℕ) → Made r x → Gives own (told x) a → a ≡ r
made_gives own a given h = h
made_gives own a long h = absurd h
made_gives own a full h = absurd h

module _ (m n : Meaning) (own : List ℕ) where
  -- a refusal that is one under both
  both_refuse : (ps : List Piece) (e : CallError) (msg : List ℕ) → SameReply m n own ps (told (refused e msg)) (told (refused e msg))
  both_refuse ps e msg = record { refusal = λ _. refl; refusal_back = λ _. refl; texts = λ a b x y. absurd x }

  -- the text stays under both
  both_keep : SameReply m n own (literal own) (told unchanged) (told unchanged)
  both_keep =
      record {
        refusal = λ h. absurd (false≢true h);
        refusal_back = λ h. absurd (false≢true h);
        texts = λ a b x y. (x ∙ sym (spelled_literal (values m) own), y ∙ sym (spelled_literal (values n) own));
      }

  both_make : (ps : List Piece) (x y : Told CallError) → Made (spelled (values m) ps) x → Made (spelled (values n) ps) y → SameReply m n own ps (told x) (told y)
  both_make ps x y p q =
      record {
        refusal = λ h. absurd (made_firm p h);
        refusal_back = λ h. absurd (made_firm q h);
        texts = λ a b g h. (made_gives own a p g, made_gives own b q h);
      }

-- what a walk comes to
abbrev by_walk : Meaning → (area : ℕ) → (List ℕ → Bool) → Outcome → Called
by_walk m area u w = (if_placed u (as_call (told_by (values m) area w)), total_left w)

made_walk : (m : Meaning) (area : ℕ) (u : List ℕ → Bool) (t : ℕ) (ps : List Piece) → Made (spelled (values m) ps) (by_walk m area u (ended t true ps)).0
made_walk m area u t ps = go (leb (length r) area)
  where
    r : List ℕ
    r = spelled (values m) ps

    go : (b : Bool) → Made r (if_placed u (as_call (cond b (replaced r) (refused (W.OutputTooShort (length r)) []))))
    go true = made_cond r (u r) (refused PairsFull []) (replaced r) full given
    go false = long

module _ (m n : Meaning) (area : ℕ) (u v : List ℕ → Bool) (own : List ℕ) where
  walk_same : (w : Outcome) → SameReply m n own (pieces own w) (told (by_walk m area u w).0) (told (by_walk n area v w).0)
  walk_same (ended t true ps) = both_make m n own ps (by_walk m area u (ended t true ps)).0 (by_walk n area v (ended t true ps)).0 (made_walk m area u t ps) (made_walk n area v t ps)
  walk_same (ended t false ps) = both_keep m n own
  walk_same (stopped t e msg) = go (leb (length msg) area)
    where
      tells : (List ℕ → Bool) → Bool → Told CallError
      tells x b = if_placed x (as_call (cond b (refused (W.Refused e) msg) (refused (W.OutputTooShort (length msg)) [])))

      go : (b : Bool) → SameReply m n own [] (told (tells u b)) (told (tells v b))
      go true = both_refuse m n own [] _ _
      go false = both_refuse m n own [] _ _

  checked_same : (c : Result (Unit {0}) CallError) (t : ℕ) (ps : List Piece) (x y : Called) → SameReply m n own ps (told x.0) (told y.0) →
      SameReply m n own ps (told (if_passed c (refusing t) x).0) (told (if_passed c (refusing t) y).0)
  checked_same (Ok z) t ps x y h = h
  checked_same (Err e) t ps x y h = both_refuse m n own ps e []

checked_total : (c : Result (Unit {0}) CallError) (t : ℕ) (x y : Called) → x.1 ≡ y.1 → (if_passed c (refusing t) x).1 ≡ (if_passed c (refusing t) y).1
checked_total (Ok z) t x y h = h
checked_total (Err e) t x y h = refl

module _ (m n : Meaning) (s : Settings) (al : Alike m n) (u v : List ℕ → Bool) (t : ℕ) (own : List ℕ) where
  abbrev walked : Called
  walked = walk_called m s true u t own

  abbrev walked_other : Called
  walked_other = walk_called n s true v t own

  -- one outcome under both
  outcome_same : outcome m s true u t own ≡ outcome n s true v t own
  outcome_same = shapes_decide m n al s.syntax s.limits t own

  walked_total : walked.1 ≡ walked_other.1
  walked_total = ap total_left outcome_same

  walked_same : SameReply m n own (walk_pieces m s t own) (told walked.0) (told walked_other.0)
  walked_same =
      subst (λ w. SameReply m n own (walk_pieces m s t own) (told walked.0) (told (by_walk n s.area v w).0))
      outcome_same (walk_same m n s.area u v own (outcome m s true u t own))

  key_total : (x : PropertySyntax) → (key_walked m s true u t own x).1 ≡ (key_walked n s true v t own x).1
  key_total Braced = walked_total
  key_total BracedOrBare = walked_total
  key_total DockerCompose = refl

  key_same : (x : PropertySyntax) → SameReply m n own (key_pieces x m s t own) (told (key_walked m s true u t own x).0) (told (key_walked n s true v t own x).0)
  key_same Braced = walked_same
  key_same BracedOrBare = walked_same
  key_same DockerCompose = both_keep m n own

module _ (m n : Meaning) (s : Setup) (al : Alike m n) (l k : Ledger) (t : ℕ) where
  abbrev check : List ℕ → Result (Unit {0}) CallError
  check text = call_checked s.session.frames true text

  total_same : (c : Call) → (answer m s l t c).1 ≡ (answer n s k t c).1
  total_same (key text) =
      let u = unplaced s l text in
      let v = unplaced s k text in
      let x : PropertySyntax = s.session.syntax in
      checked_total (check text) t (key_walked m s.session true u t text x) (key_walked n s.session true v t text x) (key_total m n s.session al u v t text x)
  total_same (value text) =
      let u = unplaced s l text in
      let v = unplaced s k text in
      checked_total (check text) t (walk_called m s.session true u t text) (walk_called n s.session true v t text) (walked_total m n s.session al u v t text)
  total_same (message text) = refl
  total_same (dynamic text fallback) = refl
  total_same (identifier name fallback) = refl
  total_same opening = refl
  total_same ending = refl

  call_same : (c : Call) → SameCall m n s.session t c (answer m s l t c).0 (answer n s k t c).0
  call_same (key text) =
      let u = unplaced s l text in
      let v = unplaced s k text in
      let x : PropertySyntax = s.session.syntax in
      checked_same m n s.session.area u v text (check text) t (key_pieces x m s.session t text) (key_walked m s.session true u t text x) (key_walked n s.session true v t text x)
      (key_same m n s.session al u v t text x)
  call_same (value text) =
      let u = unplaced s l text in
      let v = unplaced s k text in
      checked_same m n s.session.area u v text (check text) t (walk_pieces m s.session t text) (walk_called m s.session true u t text) (walk_called n s.session true v t text)
      (walked_same m n s.session al u v t text)
  call_same (message text) = tt
  call_same (dynamic text fallback) = tt
  call_same (identifier name fallback) = tt
  call_same opening = tt
  call_same ending = tt

module _ (m n : Meaning) (s : Setup) (al : Alike m n) where
  runs_same : (l k : Ledger) (t : ℕ) (cs : List Call) → SameRuns m n s.session t cs (run_from m s l t cs) (run_from n s k t cs)
  runs_same l k t [] = none
  runs_same l k t (c ∷ cs) =
      let d : Entry = answer m s l t c in
      let e : Entry = answer n s k t c in
      let same : d.1 ≡ e.1 = total_same m n s al l k t c in
      more {d = d} {e = e} same (call_same m n s al l k t c)
      (subst (λ u. SameRuns m n s.session d.1 cs (run_from m s (heard l c d.0) d.1 cs) (run_from n s (heard k c e.0) u cs))
      same (runs_same (heard l c d.0) (heard k c e.0) d.1 cs))

pub values_do_not_show : ValuesDoNotShow
values_do_not_show m n s cs al = runs_same m n s al fresh fresh 0 cs
