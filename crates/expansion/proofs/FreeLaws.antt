-- Under limits that no walk over the text comes to, none is refused for a limit.
use Rattle.std.proofs.Common.{◌≡◌, ℕ, zero, suc, ◌+◌, ◌-◌, ◌^◌, ◌<◌, ◌≤◌, Bool, true, false, ◌||◌, eqb, List, [], ◌∷◌, ◌++◌, length, Some, None, Option, refl, ap, ◌∙◌, arith}
use Rattle.std.specs.List.{AllByRecursion}
use Rattle.budget.specs.Charges.{charged}
use Rattle.names.specs.declared.PropertySyntax.{PropertySyntax}
use Rattle.source.specs.Shapes.{Shape, unset, empty, filled}
use Rattle.references.specs.declared.error.Span.{Span}
use Rattle.references.specs.declared.error.PropertyError.{PropertyError}
use Rattle.references.specs.declared.error.PropertyError.TheVariants.{Unresolved, InvalidName, RequiredButUnset, RequiredButEmpty, ExpansionDepthLimitExceeded, ExpansionWorkLimitExceeded}
use Rattle.items.specs.Pieces.{Piece, literal}
use Rattle.items.specs.Items.{Act, keep, replace, select, require, refuse, Item, item, expands, inner}
use Rattle.expansion.specs.Events.{Event, charge, emit, replaced, nest, begins, message, refused, charges, emits, selected, explained, acts, frame, trace, first_dollar, begin, events}
use Rattle.expansion.specs.Walks.{Limits, Outcome, ended, stopped, missing, run, walk}
use Rattle.expansion.specs.Laws.{is_limit, at_limit, UnhinderedFree}
use Rattle.expansion.specs.Segments.{OthersRefused}
use Rattle.expansion.proofs.ActLaws.{act_word, Mild, Plain}
use Rattle.expansion.proofs.ItemLaws.{item_mild, item_word}
use Rattle.expansion.proofs.EndLaws.{ended_segments}
use Rattle.expansion.proofs.SegmentLaws.{run_charge, run_nest}

missing_free : (v : Shape) (name : Span) (n : ℕ) → is_limit (missing v name n) ≡ false
missing_free unset name n = refl
missing_free empty name n = refl
missing_free filled name n = refl

plain_free : (e : PropertyError) → Plain e → is_limit e ≡ false
plain_free (Unresolved name) h = refl
plain_free (InvalidName part) h = refl
plain_free (RequiredButUnset name len) h = absurd h
plain_free (RequiredButEmpty name len) h = absurd h
plain_free (ExpansionDepthLimitExceeded depth limit) h = absurd h
plain_free (ExpansionWorkLimitExceeded work limit) h = absurd h

module _ (most : Limits) where
  -- an event at which no limit is passed, work aside
  abbrev pub Calm : Event → Type 0
  Calm (charge k) = Unit {0}
  Calm (emit p) = Unit {0}
  Calm (replaced d) = Unit {0}
  Calm (nest d) = d ≤ most.depth
  Calm begins = Unit {0}
  Calm (message v name source) = Unit {0}
  Calm (refused e) = Plain e

  calm_run : (sh : List ℕ → Shape) → 2 ^ 64 - 1 ≤ most.work → (es : List Event) (t : ℕ) (c : Bool) (ps : List Piece) → AllByRecursion Calm es → at_limit (run sh most t c ps es) ≡ false
  unfolding run
  calm_run sh roomy [] t c ps h = refl
  calm_run sh roomy (charge k ∷ es) t c ps h = ap at_limit (run_charge sh most roomy k t c ps es) ∙ calm_run sh roomy es (charged t k) c ps h.1
  calm_run sh roomy (emit p ∷ es) t c ps h = calm_run sh roomy es t c (ps ++ p ∷ []) h.1
  calm_run sh roomy (replaced d ∷ es) t c ps h = calm_run sh roomy es t (c || eqb d 1) ps h.1
  calm_run sh roomy (nest d ∷ es) t c ps h = ap at_limit (run_nest sh most roomy d t c ps es h.0) ∙ calm_run sh roomy es t c ps h.1
  calm_run sh roomy (begins ∷ es) t c ps h = calm_run sh roomy es t c [] h.1
  calm_run sh roomy (message v name source ∷ es) t c ps h = missing_free v name _
  calm_run sh roomy (refused e ∷ es) t c ps h = plain_free e h.0

  calm_charges : (ks : List ℕ) (es : List Event) → AllByRecursion Calm es → AllByRecursion Calm (charges ks es)
  calm_charges [] es h = h
  calm_charges (k ∷ ks) es h = (tt, calm_charges ks es h)

  calm_emits : (ps : List Piece) (es : List Event) → AllByRecursion Calm es → AllByRecursion Calm (emits ps es)
  calm_emits [] es h = h
  calm_emits (p ∷ ps) es h = (tt, calm_emits ps es h)

  module _ (walk_in : ℕ → List ℕ → List Event → List Event) (d : ℕ) (s : PropertySyntax) (f : ℕ) (shallow : d + f ≤ most.depth + 1)
      (calm_in : (at : ℕ) (w : List ℕ) (es : List Event) → length w < f → AllByRecursion Calm es → AllByRecursion Calm (walk_in at w es)) where
    calm_selected : (b : Bool) (at : ℕ) (w : List ℕ) (es : List Event) → length w < f → AllByRecursion Calm es → AllByRecursion Calm (selected walk_in d s b at w es)
    calm_selected true at w es l h = (omega arith, (tt, calm_in at w es l h))
    calm_selected false at w es l h = (tt, calm_emits (literal w) es h)

    calm_explained : (b : Bool) (at : ℕ) (w : List ℕ) (es : List Event) → length w < f → AllByRecursion Calm es → AllByRecursion Calm (explained walk_in d s b at w es)
    calm_explained true at w es l h = (omega arith, (tt, calm_in at w es l h))
    calm_explained false at w es l h = (tt, calm_emits (literal w) es h)

    calm_acts : (a : Act) (es : List Event) → length (act_word a) < f → Mild a → AllByRecursion Calm es → AllByRecursion Calm (acts walk_in d s a es)
    calm_acts (keep b) es l m h = (tt, h)
    calm_acts (replace ps) es l m h = (tt, calm_emits ps es h)
    calm_acts (select at w) es l m h = (tt, calm_selected (expands s w) at w es l h)
    calm_acts (require v name at w) es l m h = (tt, calm_explained (expands s w) at w (message v name w ∷ []) l (tt, tt))
    calm_acts (refuse e) es l m h = (m, tt)

    calm_frame : (sh : List ℕ → Shape) (i : ℕ) (bs : List ℕ) (k : ℕ) (es : List Event) → length bs ≤ f → AllByRecursion Calm es → AllByRecursion Calm (frame walk_in d s sh i bs k es)
    unfolding frame
    calm_frame sh i [] k es l h = h
    calm_frame sh i (b ∷ bs) (suc k) es l h = calm_frame sh (i + 1) bs k es (omega arith) h
    calm_frame sh i (b ∷ bs) zero es l h =
        let it : Item = item sh s i b bs in
        calm_charges it.looks _ (calm_acts it.act _ (omega (arith, item_word sh s i b bs)) (item_mild sh s i b bs) (calm_frame sh (i + 1) bs it.more es (omega arith) h))

  calm_trace : (f d : ℕ) (sh : List ℕ → Shape) (s : PropertySyntax) (i : ℕ) (bs : List ℕ) (es : List Event) → d + f ≤ most.depth + 1 → length bs ≤ f → AllByRecursion Calm es
      → AllByRecursion Calm (trace f d sh s i bs es)
  unfolding trace
  calm_trace zero d sh s i bs es g l h = calm_frame (λ at w rest. rest) d s 0 g (λ at w es m j. j) sh i bs 0 es l h
  calm_trace (suc f) d sh s i bs es g l h =
      calm_frame (λ at w rest. trace f (d + 1) sh (inner s) at w rest) d s (suc f) g (λ at w es m j. calm_trace f (d + 1) sh (inner s) at w es (omega arith) (omega arith) j) sh i bs 0 es l h

  pub calm_begin : (sh : List ℕ → Shape) (s : PropertySyntax) (text : List ℕ) (o : Option ℕ) → length text ≤ most.depth → AllByRecursion Calm (begin sh s text o)
  calm_begin sh s text None h = (tt, calm_emits (literal text) [] tt)
  calm_begin sh s text (Some i) h = (tt, calm_trace (length text) 1 sh s 0 text [] (omega arith) (omega arith) tt)

pub unhindered_free : UnhinderedFree
unfolding walk events
unhindered_free sh s most t text free = calm_run most sh free.work (begin sh s text (first_dollar 0 text)) t false [] (calm_begin most sh s text (first_dollar 0 text) free.depth)

pub others_refused : OthersRefused
others_refused sh s most t text free none = go (walk sh s most t text) refl (unhindered_free sh s most t text free)
  where
    go : (o : Outcome) → walk sh s most t text ≡ o → at_limit o ≡ false → (u : ℕ) × (e : PropertyError) × (told : List ℕ) × (o ≡ stopped u e told) × (is_limit e ≡ false)
    go (ended u c ps) e h = absurd (none ps (ended_segments sh s most t u text c ps e))
    go (stopped u x told) e h = (u, x, told, refl, h)
