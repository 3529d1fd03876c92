-- How `run` goes on over events, and what pieces amount to.
use Rattle.std.proofs.Common.{◌≡◌, ℕ, ◌+◌, Bool, true, false, cond, ◌||◌, ltb, List, [], ◌∷◌, ◌++◌, length, Some, None, Option, sym, refl, ap, ◌∙◌, append_assoc, arith}
use Rattle.std.proofs.Math.Bool.{or_assoc}
use Rattle.budget.specs.Charges.{Work, taken, over, charged}
use Rattle.budget.specs.Charges as Budget
use Rattle.source.specs.Shapes.{Shape}
use Rattle.source.specs.Shapes.{bytes_of, shape, shapes, values}
use Rattle.references.specs.declared.error.PropertyError.TheVariants.{ExpansionWorkLimitExceeded}
use Rattle.items.specs.Pieces.{Piece, lit, val, spelled, literal, literals, is_filled, shows}
use Rattle.expansion.specs.Events.{Event, charges}
use Rattle.expansion.specs.Walks.{Limits, Outcome, stopped, run}

module _ (sh : List ℕ → Shape) (most : Limits) where
  -- charges, and what comes once they are taken
  abbrev pub after : Bool → List Piece → List Event → Work → Outcome
  after c ps es (taken t) = run sh most t c ps es
  after c ps es (over t) = stopped t (ExpansionWorkLimitExceeded t most.work) []

  tested : (b : Bool) (c : Bool) (ps : List Piece) (es : List Event) (t : ℕ) (r : Work) (o : Outcome) → o ≡ after c ps es r
      → cond b (stopped t (ExpansionWorkLimitExceeded t most.work) []) o ≡ after c ps es (cond b (over t) r)
  tested true c ps es t r o e = refl
  tested false c ps es t r o e = e

  pub run_charges : (ks : List ℕ) (t : ℕ) (c : Bool) (ps : List Piece) (es : List Event) → run sh most t c ps (charges ks es) ≡ after c ps es (Budget.charges most.work t ks)
  unfolding run
  run_charges [] t c ps es = refl
  run_charges (k ∷ ks) t c ps es = tested (ltb most.work (charged t k)) c ps es (charged t k) _ _ (run_charges ks (charged t k) c ps es)

-- pieces behind others
pub spelled_append : (v : List ℕ → List ℕ) (ps qs : List Piece) → spelled v (ps ++ qs) ≡ spelled v ps ++ spelled v qs
spelled_append v [] qs = refl
spelled_append v (lit b ∷ ps) qs = ap (λ l. b ∷ l) (spelled_append v ps qs)
spelled_append v (val name ∷ ps) qs = ap (λ l. v name ++ l) (spelled_append v ps qs) ∙ sym (append_assoc (v name) (spelled v ps) (spelled v qs))

pub literals_append : (ps qs : List Piece) → length (literals (ps ++ qs)) ≡ length (literals ps) + length (literals qs)
literals_append [] qs = omega arith
literals_append (lit b ∷ ps) qs = omega (arith, literals_append ps qs)
literals_append (val name ∷ ps) qs = literals_append ps qs

pub shows_append : (sh : List ℕ → Shape) (ps qs : List Piece) → shows sh (ps ++ qs) ≡ shows sh ps || shows sh qs
shows_append sh [] qs = refl
shows_append sh (lit b ∷ ps) qs = shows_append sh ps qs
shows_append sh (val name ∷ ps) qs = ap (λ b. is_filled (sh name) || b) (shows_append sh ps qs) ∙ sym (or_assoc (is_filled (sh name)) (shows sh ps) (shows sh qs))

-- bytes as pieces
pub spelled_literal : (v : List ℕ → List ℕ) (w : List ℕ) → spelled v (literal w) ≡ w
spelled_literal v [] = refl
spelled_literal v (b ∷ w) = ap (λ l. b ∷ l) (spelled_literal v w)

pub literals_literal : (w : List ℕ) → literals (literal w) ≡ w
literals_literal [] = refl
literals_literal (b ∷ w) = ap (λ l. b ∷ l) (literals_literal w)

pub shows_literal : (sh : List ℕ → Shape) (w : List ℕ) → shows sh (literal w) ≡ false
shows_literal sh [] = refl
shows_literal sh (b ∷ w) = shows_literal sh w

-- pieces among which no value shows are spelled by their bytes
pub spelled_unshown : (m : List ℕ → Option (List ℕ)) (ps : List Piece) → shows (shapes m) ps ≡ false → spelled (values m) ps ≡ literals ps
spelled_unshown m [] e = refl
spelled_unshown m (lit b ∷ ps) e = ap (λ l. b ∷ l) (spelled_unshown m ps e)
spelled_unshown m (val name ∷ ps) e = go (m name) e (λ h. spelled_unshown m ps h)
  where
    go : (o : Option (List ℕ)) → is_filled (shape o) || shows (shapes m) ps ≡ false → (shows (shapes m) ps ≡ false → spelled (values m) ps ≡ literals ps) → bytes_of o ++ spelled (values m) ps ≡ literals ps
    go None e h = h e
    go (Some []) e h = h e
    go (Some (b ∷ bs)) e h = let z : ◌≡◌ {A = ℕ} 0 1 = cc in absurd (omega arith)
