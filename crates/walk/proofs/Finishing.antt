-- How a walk ends.
use Rattle.std.proofs.Common.{◌≡◌, ℕ, ◌-◌, ◌^◌, ◌<◌, ◌≤◌, Bool, true, false, cond, leb, List, [], ◌∷◌, length, replicate, None, Ok, Err, Option, Result, sym, refl, ap, ◌∙◌, subst, arith, MutBor}
use Rattle.output.specs.declared.Output.{Output}
use Rattle.output.specs.Outputs.{Holds, closed, counted, fitted}
use Rattle.walk.specs.declared.interpolate.InterpolateError.{InterpolateError}
use Rattle.walk.specs.declared.interpolate.InterpolateError.TheVariants.{OutputTooShort, Refused}
use Rattle.std.proofs.lemmas.Bool.{cond-false, cond-true, le-leb, le-ltb}
use Rattle.budget.specs.Charges.{Work, taken, over, ending, total_of, works}
use Rattle.budget.specs.declared.WorkBudget.{WorkBudget}
use Rattle.names.specs.declared.PropertySyntax.{PropertySyntax}
use Rattle.source.specs.Shapes.{shapes, values}
use Rattle.references.specs.declared.error.PropertyError.{PropertyError}
use Rattle.references.specs.declared.error.PropertyError.TheVariants as E
use Rattle.items.specs.Pieces.{Piece, literal, spelled}
use Rattle.answers.specs.declared.OutputTooShort.{OutputTooShort as TooShort}
use Rattle.answers.specs.Told.{Told, unchanged, replaced, refused, answer_of, area_of, fitting, fronted}
use Rattle.text.specs.Texts.{text_max}
use Rattle.walk.specs.declared.state.Walk.{Walk}
use Rattle.expansion.specs.Events.{emits, events, first_dollar}
use Rattle.expansion.specs.Walks.{Limits, Outcome, ended, run, stopped, walk}
use Rattle.expansion.specs.Lengths.{Short}
use Rattle.expansion.proofs.EndLaws.{run_emits}
use Rattle.expansion.proofs.LengthLaws.{text_bounded}
use Rattle.walk.specs.Frames.{Aim, Bound, Goes, Reached, Tells}
use Rattle.walk.specs.Endings.{Settles, answer_by, answer_fit, answer_kept, has_message, has_text}
use Rattle.walk.specs.Outcomes.{call_told, call_total, frames_needed, limits, told_by, total_left, unless_refused, walk_of}
use Rattle.walk.proofs.Runs.{after, run_charges}
use Rattle.walk.proofs.Starting.{begins_plain}

-- an output that is settled once its loan is over
pub settles_back : (b : Bool) (out before last : Output) → before ≡ out → Settles b before last → Settles b out last
settles_back b out before last e s = subst (λ o. Settles b o last) e s

-- A length below 2^64 is counted as it is.
counted_short : (n : ℕ) → n < 2 ^ 64 → counted n ≡ n
counted_short n h = omega arith

-- what is told of a text that was put out, if it fits
abbrev told_of : Result (Unit {0}) PropertyError → Bool → List ℕ → Told InterpolateError
told_of (Ok r) true text = replaced text
told_of (Ok r) false text = unchanged
told_of (Err e) changed text = refused (Refused e) text

answer_told : (walked : Result (Unit {0}) PropertyError) (changed : Bool) (text : List ℕ) → answer_by walked changed (length text) ≡ answer_of (told_of walked changed text)
answer_told (Ok r) true text = refl
answer_told (Ok r) false text = refl
answer_told (Err e) changed text = refl

module _ (n : ℕ) (text : List ℕ) (h : length text < 2 ^ 64) where
  answer_fits : (walked : Result (Unit {0}) PropertyError) (changed : Bool) (fit : Result ℕ TooShort) → fit ≡ fitted n (length text) → answer_fit walked changed fit ≡ answer_of (fitting n OutputTooShort text (told_of walked changed text))
  answer_fits walked changed fit e = ap (answer_fit walked changed) e ∙ go (leb (length text) n)
    where
      go : (b : Bool) → answer_fit walked changed (cond b (Ok (length text)) (Err (record { needed = counted (length text) }))) ≡ answer_of (cond b (told_of walked changed text) (refused (OutputTooShort (length text)) []))
      go true = answer_told walked changed text
      go false = ap (λ k. Err (OutputTooShort k)) (counted_short (length text) h)

zeros_all : (n : ℕ) → ◌≡◌ {A = List ℕ} (replicate n 0) (replicate (n - 0) 0)
zeros_all n = let e : n ≡ n - 0 = omega arith in ap (λ k. replicate k 0) e

-- the area after a text that is told
area_fits : (n : ℕ) (text : List ℕ) (x : Told InterpolateError) → fronted n text ≡ area_of n x → closed n (length text) text ≡ area_of n (fitting n OutputTooShort text x)
area_fits n text x e = go (leb (length text) n)
  where
    go : (b : Bool) → cond b (fronted n text) (replicate n 0) ≡ area_of n (cond b x (refused (OutputTooShort (length text)) []))
    go true = e
    go false = zeros_all n

-- nothing always fits
none_fits : (n : ℕ) (x : Told InterpolateError) → fitting n OutputTooShort [] x ≡ x
none_fits n x = cond-true _ _ _ (le-leb 0 n (omega arith))

-- the end of a walk, by its outcome
pub record EndOf (v : List ℕ → List ℕ) (lent : MutBor (List ℕ)) (whole : Outcome) (w : WorkBudget) (walked : Result (Unit {0}) PropertyError) (changed : Bool) (out : Output) : Type 0 where
  pub text : List ℕ
  pub holds : Holds out lent text
  pub answers : (fit : Result ℕ TooShort) → fit ≡ fitted (length lent.now) (length text) → answer_fit walked changed fit ≡ answer_of (told_by v (length lent.now) whole)
  pub area : closed (length lent.now) (length text) text ≡ area_of (length lent.now) (told_by v (length lent.now) whole)
  pub total : w.total ≡ total_left whole

told_kept : (lent : MutBor (List ℕ)) (out out' : Output) (b : Bool) (told old : List ℕ) → Tells b out lent told → Holds out lent old → Settles b out out' → Holds out' lent told
told_kept lent out out' true told old t h s = s lent told t
told_kept lent out out' false told old t h s = subst (Holds out' lent) (sym t) (s lent old h)

-- the text of a walk that ended is not too long to be counted
abbrev pub Countable : (List ℕ → List ℕ) → Outcome → Type 0
Countable v (ended t changed ps) = length (spelled v ps) < 2 ^ 64
Countable v (stopped t e told) = Unit {0}

pub countable : (means : List ℕ → Option (List ℕ)) (s : PropertySyntax) (most : Limits) (t : ℕ) (text : List ℕ) → Short means → length text ≤ text_max → Countable (values means) (walk (shapes means) s most t text)
countable means s most t text short small = go (walk (shapes means) s most t text) refl
  where
    go : (o : Outcome) → walk (shapes means) s most t text ≡ o → Countable (values means) o
    go (ended u c ps) e = omega (arith, text_bounded means s most t u text c ps short e)
    go (stopped u x told) e = tt

-- whether it ended or stopped, it is the walk of the aim
pub bound_of : (means : List ℕ → Option (List ℕ)) (deep : ℕ) (aim : Aim) (now : Walk) (walked : Result (Unit {0}) PropertyError) → Goes means deep aim 0 [] now walked → Bound aim now.out.ghost_name now.work.limit
bound_of means deep aim now (Ok x) r = r.bound
bound_of means deep aim now (Err x) r = r.bound

module _ (means : List ℕ → Option (List ℕ)) (deep : ℕ) (aim : Aim) (now : Walk) (out' : Output) where
  ended_as : (b : Bool) (ps : List Piece) → Countable (values means) (ended now.work.total b ps) → Holds now.out.now aim.lent (spelled (values means) ps) → Settles b now.out.now out' → EndOf (values means) aim.lent (ended now.work.total b ps) now.work (Ok tt) b out'
  ended_as true ps short h s =
      record {
        text = spelled (values means) ps;
        holds = s aim.lent _ h;
        answers = λ fit e. answer_fits (length aim.lent.now) _ short (Ok tt) true fit e;
        area = area_fits (length aim.lent.now) _ (replaced _) refl;
        total = refl;
      }
  ended_as false ps short h s =
      record {
        text = [];
        holds = s aim.lent _ h;
        answers = λ fit e. answer_fits (length aim.lent.now) [] (omega arith) (Ok tt) false fit e ∙ ap answer_of (none_fits (length aim.lent.now) unchanged);
        area = area_fits (length aim.lent.now) [] unchanged (sym (zeros_all (length aim.lent.now))) ∙ ap (area_of (length aim.lent.now)) (none_fits (length aim.lent.now) unchanged);
        total = refl;
      }

  pub end_of : (walked : Result (Unit {0}) PropertyError) → Countable (values means) aim.whole → Goes means deep aim 0 [] now walked → Settles (has_text walked now.marks.changed) now.out.now out' → EndOf (values means) aim.lent aim.whole now.work walked now.marks.changed out'
  unfolding run
  end_of (Ok x) short r s =
      subst (λ o. EndOf (values means) aim.lent o now.work (Ok x) now.marks.changed out') r.goes (ended_as now.marks.changed r.pieces (subst (Countable (values means)) (sym r.goes) short) r.holds s)
  end_of (Err x) short r s =
      subst (λ o. EndOf (values means) aim.lent o now.work (Err x) now.marks.changed out') (sym r.is) (record {
        text = r.told;
        holds = told_kept aim.lent now.out.now out' (has_message x) r.told r.old r.tells r.holds s;
        answers = λ fit e. answer_fits (length aim.lent.now) r.told r.short (Err x) now.marks.changed fit e;
        area = area_fits (length aim.lent.now) r.told (refused (Refused x) r.told) refl;
        total = refl;
      })

-- a text that is not refused at once
module _ (n slots : ℕ) (small : n ≤ text_max) (enough : frames_needed n ≤ slots) where
  passed : {X : Type 0} (long few x : X) → x ≡ unless_refused n slots long few x
  passed long few x = sym (cond-false _ _ _ (le-ltb text_max n small) ∙ cond-false _ _ _ (le-ltb slots (frames_needed n) enough))

  pub passed_told : (v : List ℕ → List ℕ) (room : ℕ) (whole : Outcome) → told_by v room whole ≡ call_told v n slots room whole
  passed_told v room whole = passed _ _ _

  pub passed_total : (t : ℕ) (whole : Outcome) → total_left whole ≡ call_total n slots t whole
  passed_total t whole = passed _ _ _

-- where a walk begins
abbrev pub aim_of : (List ℕ → Option (List ℕ)) → ℕ → PropertySyntax → MutBor (List ℕ) → List ℕ → Walk → Aim
aim_of means deep s lent text begun = record { loan = begun.out.ghost_name; lent = lent; limit = begun.work.limit; whole = walk_of means s deep begun.work text }

pub start : (means : List ℕ → Option (List ℕ)) (deep : ℕ) (s : PropertySyntax) (lent : MutBor (List ℕ)) (text : List ℕ) (begun : Walk) → begun.marks.changed ≡ false → begun.marks.shows ≡ false → length text ≤ text_max → Holds begun.out.now lent []
    → Reached means deep (aim_of means deep s lent text begun) (length text) (events (shapes means) s text) begun
unfolding walk
start means deep s lent text begun same hidden l h =
    record {
      bound = record { loan = refl; limit = refl };
      pieces = [];
      goes = ap (λ b. run (shapes means) (limits deep begun.work.limit) begun.work.total b [] (events (shapes means) s text)) same;
      marked = hidden;
      holds = h;
      few = omega arith;
    }

-- the outcome for a text without `$`, by whether its charge was taken
abbrev plain_by : List ℕ → ℕ → Work → Outcome
plain_by text limit (taken t) = ended t false (literal text)
plain_by text limit (over t) = stopped t (E.ExpansionWorkLimitExceeded t limit) []

module _ (means : List ℕ → Option (List ℕ)) (s : PropertySyntax) (deep : ℕ) (w : WorkBudget) (text : List ℕ) where
  plain_ends : (r : Work) → after (shapes means) (limits deep w.limit) false [] (emits (literal text) []) r ≡ plain_by text w.limit r
  unfolding run
  plain_ends (taken t) = run_emits (shapes means) (limits deep w.limit) (literal text) t false [] []
  plain_ends (over t) = refl

  plain_outcome : None ≡ first_dollar 0 text → walk_of means s deep w text ≡ plain_by text w.limit (works w (length text ∷ []))
  unfolding walk
  plain_outcome e =
      ap (run (shapes means) (limits deep w.limit) w.total false []) (begins_plain (shapes means) s text e)
      ∙ run_charges (shapes means) (limits deep w.limit) (length text ∷ []) w.total false [] (emits (literal text) [])
      ∙ plain_ends (works w (length text ∷ []))

  -- what is told of it
  pub record Kept (room : ℕ) (r : Work) (whole : Outcome) : Type 0 where
    pub answer : answer_kept (ending r w.limit tt) ≡ answer_of (told_by (values means) room whole)
    pub area : replicate room 0 ≡ area_of room (told_by (values means) room whole)
    pub total : total_of r ≡ total_left whole

  kept_by : (room : ℕ) (r : Work) → Kept room r (plain_by text w.limit r)
  kept_by room (taken t) = record { answer = refl; area = refl; total = refl }
  kept_by room (over t) =
      let x : Told InterpolateError = refused (Refused (E.ExpansionWorkLimitExceeded t w.limit)) [] in
      record { answer = sym (ap answer_of (none_fits room x)); area = zeros_all room ∙ sym (ap (area_of room) (none_fits room x)); total = refl }

  pub kept_plain : (room : ℕ) → None ≡ first_dollar 0 text → Kept room (works w (length text ∷ [])) (walk_of means s deep w text)
  kept_plain room e = subst (Kept room (works w (length text ∷ []))) (sym (plain_outcome e)) (kept_by room (works w (length text ∷ [])))
