-- Which bytes a value has shows in no outcome but in a new text, and in whether memory suffices.
use Rattle.std.proofs.Common.{◌≡◌, ℕ, Bool, true, false, cond, leb, List, [], length, Some, None, Ok, Err, Option, Result, sym, refl, ap, ◌∙◌, subst}
use Rattle.std.proofs.lemmas.Bool.{false≢true}
use Rattle.std.specs.Option.{option_and_then, option_map}
use Rattle.answers.specs.Told.{Told, unchanged, replaced, refused, answer_of, area_of}
use Rattle.names.specs.declared.PropertySyntax.{PropertySyntax}
use Rattle.names.specs.declared.PropertySyntax.TheVariants.{Braced, BracedOrBare, DockerCompose}
use Rattle.source.specs.Shapes.{shape, values}
use Rattle.expansion.specs.Walks.{Outcome, ended, stopped}
use Rattle.expansion.proofs.LimitLaws.{shapes_decide}
use Rattle.walk.specs.Outcomes.{told_by, total_left}
use Rattle.walk.specs.declared.interpolate.InterpolateError.TheVariants as W
use Rattle.items.specs.Pieces.{spelled}
use Rattle.scopes.specs.Notes.{unplaced}
use Rattle.session.specs.Breaches.{kept_breach}
use Rattle.session.specs.Calls.{Called, Settings, as_call, call_checked, if_passed, if_placed, key_walked, outcome, refusing, value_called, key_called, walk_called}
use Rattle.session.specs.Sessions.{is_sound, key_call, value_call, settings}
use Rattle.session.specs.declared.breach.BudgetBreach.{BudgetBreach}
use Rattle.session.specs.declared.error.CallError.{CallError}
use Rattle.session.specs.declared.error.CallError.TheVariants.{OutputTooShort, PairsFull}
use Rattle.dollar.specs.Calls.{LentPairs, key_done, pairs_of, value_done}
use Rattle.dollar.specs.Held.{Meaning, breach_of, kept, session_known, source_means, stood, syntax_numbered}
use Rattle.dollar.specs.Laws.{Lent, SameCall, ValuesDoNotShow, is_firm}
use Rattle.dollar.specs.Outcomes.{told_as}
use Rattle.dollar.specs.Tables.{kind_numbered}
use Rattle.dollar.specs.declared.sessions.DollarSession.{DollarSession}
use Rattle.dollar.specs.declared.table.TableKind.{TableKind}

-- what a call tells, in which a value's length has no part
data Firm : Told CallError → Type 0 where
  kept_text : Firm unchanged
  refusal : {e : CallError} {message : List ℕ} → Firm (refused e message)

-- what a call tells once its walk has made a new text
data Loose : Told CallError → Type 0 where
  given : {r : List ℕ} → Loose (replaced r)
  long : {k : ℕ} → Loose (refused (OutputTooShort k) [])
  full : Loose (refused PairsFull [])

-- Two calls tell the same, or both are loose.
data Same : Told CallError → Told CallError → Type 0 where
  equal : {x : Told CallError} → Same x x
  both : {x y : Told CallError} → Loose x → Loose y → Same x y

loose_cond : (b : Bool) {x y : Told CallError} → Loose x → Loose y → Loose (cond b x y)
loose_cond true p q = p
loose_cond false p q = q

loose_outcome : {x : Told CallError} → Loose x → is_firm (told_as (answer_of x)) ≡ true → ⊥
loose_outcome given h = false≢true h
loose_outcome long h = false≢true h
loose_outcome full h = false≢true h

-- it passes no limit
loose_breach : {x : Told CallError} (b : Option BudgetBreach) → Loose x → kept_breach b (answer_of x) ≡ b
loose_breach (Some b) given = refl
loose_breach (Some b) long = refl
loose_breach (Some b) full = refl
loose_breach None given = refl
loose_breach None long = refl
loose_breach None full = refl

same_outcome : {x y : Told CallError} → Same x y → is_firm (told_as (answer_of x)) ≡ true → y ≡ x
same_outcome equal h = refl
same_outcome (both p q) h = absurd (loose_outcome p h)

same_back : {x y : Told CallError} → Same x y → is_firm (told_as (answer_of y)) ≡ true → x ≡ y
same_back equal h = refl
same_back (both p q) h = absurd (loose_outcome q h)

same_breach : {x y : Told CallError} (b : Option BudgetBreach) → Same x y → kept_breach b (answer_of y) ≡ kept_breach b (answer_of x)
same_breach b equal = refl
same_breach b (both p q) = loose_breach b q ∙ sym (loose_breach b p)

-- Two calls tell the same, or both are loose, and leave one total.
record SameCalled (x y : Called) : Type 0 where
  told : Same x.0 y.0
  total : y.1 ≡ x.1

-- what a walk comes to
abbrev by_walk : Meaning → (area : ℕ) → (List ℕ → Bool) → Outcome → Called
by_walk m area u w = (if_placed u (as_call (told_by (values m) area w)), total_left w)

loose_walk : (m : Meaning) (area : ℕ) (u : List ℕ → Bool) (t : ℕ) (ps : List _) → Loose (by_walk m area u (ended t true ps)).0
loose_walk m area u t ps = go (leb (length r) area)
  where
    r : List ℕ
    r = spelled (values m) ps

    go : (b : Bool) → Loose (if_placed u (as_call (cond b (replaced r) (refused (W.OutputTooShort (length r)) []))))
    go true = loose_cond (u r) full given
    go false = long

module _ (m n : Meaning) (area : ℕ) (u v : List ℕ → Bool) where
  same_walk : (w : Outcome) → SameCalled (by_walk m area u w) (by_walk n area v w)
  same_walk (ended t true ps) = record { told = both (loose_walk m area u t ps) (loose_walk n area v t ps); total = refl }
  same_walk (ended t false ps) = record { told = equal; total = refl }
  same_walk (stopped t e message) = record { told = go (leb (length message) area); total = refl }
    where
      tells : (List ℕ → Bool) → Bool → Told CallError
      tells x b = if_placed x (as_call (cond b (refused (W.Refused e) message) (refused (W.OutputTooShort (length message)) [])))

      go : (b : Bool) → Same (tells u b) (tells v b)
      go true = equal
      go false = equal

same_checked : (c : Result (Unit {0}) CallError) (t : ℕ) {x y : Called} → SameCalled x y → SameCalled (if_passed c (refusing t) x) (if_passed c (refusing t) y)
same_checked (Ok z) t h = h
same_checked (Err e) t h = record { told = equal; total = refl }

module _ (m n : Meaning) (al : (name : List ℕ) → shape (m name) ≡ shape (n name)) (s : Settings) (sound : Bool) (u v : List ℕ → Bool) (t : ℕ) (text : List ℕ) where
  same_walked : SameCalled (walk_called m s sound u t text) (walk_called n s sound v t text)
  same_walked =
      subst (λ w. SameCalled (walk_called m s sound u t text) (by_walk n s.area v w))
      (shapes_decide m n al s.syntax s.limits t text) (same_walk m n s.area u v (outcome m s sound u t text))

  same_key : (x : PropertySyntax) → SameCalled (key_walked m s sound u t text x) (key_walked n s sound v t text x)
  same_key Braced = same_walked
  same_key BracedOrBare = same_walked
  same_key DockerCompose = record { told = equal; total = refl }

  same_value_called : SameCalled (value_called m s sound u t text) (value_called n s sound v t text)
  same_value_called = same_checked (call_checked s.frames sound text) t same_walked

  same_key_called : SameCalled (key_called m s sound u t text) (key_called n s sound v t text)
  same_key_called = same_checked (call_checked s.frames sound text) t (same_key s.syntax)

-- the same of two calls that a session answers, or neither
module _ (d : DollarSession) (n : ℕ) where
  same_none : SameCall d n None None
  same_none = record { outcome = λ h. refl; outcome_back = λ h. refl; area = λ h. refl; session = refl }

  same_some : {x y : Called} → SameCalled x y → SameCall d n (Some x) (Some y)
  same_some {x = x} {y = y} h =
      record {
        outcome = λ f. ap (λ z. told_as (answer_of z)) (same_outcome h.told f);
        outcome_back = λ f. ap (λ z. told_as (answer_of z)) (same_back h.told f);
        area = λ f. ap (area_of n) (same_outcome h.told f);
        session =
            ap (λ t. kept d t (kept_breach (breach_of d) (answer_of y.0))) h.total
            ∙ ap (kept d x.1) (same_breach (breach_of d) h.told);
      }

module _ (d : DollarSession) (n frames : ℕ) (text : List ℕ) (a b : Lent) (sound : is_sound (pairs_of a.pairs) ≡ is_sound (pairs_of b.pairs)) where
  abbrev lacking : LentPairs → List ℕ → Bool
  lacking y r = unplaced (pairs_of y) (text, r)

  module _ (kind : TableKind) (syntax : PropertySyntax) where
    abbrev source : Lent → Meaning
    source l = source_means kind l.table l.stem

    abbrev going : Settings
    going = settings (stood (source a) syntax d) frames n

    module _ (al : (name : List ℕ) → shape (source a name) ≡ shape (source b name)) where
      same_values : SameCall d n (option_map (λ p. value_call (λ m. m) p (pairs_of a.pairs) frames n text) (Some (stood (source a) syntax d)))
          (option_map (λ p. value_call (λ m. m) p (pairs_of b.pairs) frames n text) (Some (stood (source b) syntax d)))
      same_values =
          same_some d n
          (subst (λ z. SameCalled (value_called (source a) going (is_sound (pairs_of a.pairs)) (lacking a.pairs) d.total text) (value_called (source b) going z (lacking b.pairs) d.total text))
          sound (same_value_called (source a) (source b) al going (is_sound (pairs_of a.pairs)) (lacking a.pairs) (lacking b.pairs) d.total text))

      same_keys : SameCall d n (option_map (λ p. key_call (λ m. m) p (pairs_of a.pairs) frames n text) (Some (stood (source a) syntax d)))
          (option_map (λ p. key_call (λ m. m) p (pairs_of b.pairs) frames n text) (Some (stood (source b) syntax d)))
      same_keys =
          same_some d n
          (subst (λ z. SameCalled (key_called (source a) going (is_sound (pairs_of a.pairs)) (lacking a.pairs) d.total text) (key_called (source b) going z (lacking b.pairs) d.total text))
          sound (same_key_called (source a) (source b) al going (is_sound (pairs_of a.pairs)) (lacking a.pairs) (lacking b.pairs) d.total text))

  abbrev means_by : Option TableKind → Lent → Meaning
  means_by k l name = option_and_then (λ kind. source_means kind l.table l.stem name) k

  values_by : (k : Option TableKind) (s : Option PropertySyntax) → ((name : List ℕ) → shape (means_by k a name) ≡ shape (means_by k b name)) →
      SameCall d n (option_map (λ p. value_call (λ m. m) p (pairs_of a.pairs) frames n text) (session_known d a.table a.stem k s))
      (option_map (λ p. value_call (λ m. m) p (pairs_of b.pairs) frames n text) (session_known d b.table b.stem k s))
  values_by None s al = same_none d n
  values_by (Some kind) None al = same_none d n
  values_by (Some kind) (Some s) al = same_values kind s al

  keys_by : (k : Option TableKind) (s : Option PropertySyntax) → ((name : List ℕ) → shape (means_by k a name) ≡ shape (means_by k b name)) →
      SameCall d n (option_map (λ p. key_call (λ m. m) p (pairs_of a.pairs) frames n text) (session_known d a.table a.stem k s))
      (option_map (λ p. key_call (λ m. m) p (pairs_of b.pairs) frames n text) (session_known d b.table b.stem k s))
  keys_by None s al = same_none d n
  keys_by (Some kind) None al = same_none d n
  keys_by (Some kind) (Some s) al = same_keys kind s al

pub values_law : ValuesDoNotShow value_done
values_law d frames n text a b al = values_by d n frames text a b al.sound (kind_numbered d.table_kind) (syntax_numbered d.syntax) al.names

pub keys_law : ValuesDoNotShow key_done
keys_law d frames n text a b al = keys_by d n frames text a b al.sound (kind_numbered d.table_kind) (syntax_numbered d.syntax) al.names
