-- Limits and shapes.
use Rattle.std.proofs.Common.{◌≡◌, ℕ, ◌≤◌, Bool, true, false, cond, ◌||◌, eqb, ltb, List, [], ◌∷◌, ◌++◌, refl, ap, ◌∙◌, arith}
use mathlib.Core.Path.{fun_ext}
use Rattle.std.proofs.lemmas.Bool.{both_ways, cond-false, le-ltb, ltb-false}
use Rattle.budget.specs.Charges.{charged}
use Rattle.source.specs.Shapes.{Shape}
use Rattle.items.specs.Pieces.{Piece}
use Rattle.expansion.specs.Events.{Event, charge, emit, replaced, nest, begins, message, refused, events}
use Rattle.expansion.specs.Walks.{Limits, Outcome, run, walk}
use Rattle.expansion.specs.Laws.{at_limit, LimitsOnlyRefuse, ShapesDecide}

-- a test against a limit, and against one that is no less
passes : (x low high : ℕ) (stop stop' r r' : Outcome) → low ≤ high → at_limit stop ≡ true → (at_limit r ≡ false → r' ≡ r)
    → (b : Bool) → ltb low x ≡ b → at_limit (cond b stop r) ≡ false → cond (ltb high x) stop' r' ≡ cond b stop r
passes x low high stop stop' r r' le l same true e h = absurd (both_ways (at_limit stop) h l)
passes x low high stop stop' r r' le l same false e h = cond-false (ltb high x) stop' r' (le-ltb high x (omega (arith, ltb-false low x e))) ∙ same h

module _ (sh : List ℕ → Shape) (most more : Limits) (deeper : most.depth ≤ more.depth) (longer : most.work ≤ more.work) where
  raised : (es : List Event) (t : ℕ) (c : Bool) (ps : List Piece) → at_limit (run sh most t c ps es) ≡ false → run sh more t c ps es ≡ run sh most t c ps es
  unfolding run
  raised [] t c ps h = refl
  raised (charge k ∷ es) t c ps h = passes (charged t k) most.work more.work _ _ _ _ longer refl (raised es (charged t k) c ps) _ refl h
  raised (emit p ∷ es) t c ps h = raised es t c (ps ++ p ∷ []) h
  raised (replaced d ∷ es) t c ps h = raised es t (c || eqb d 1) ps h
  raised (nest d ∷ es) t c ps h = passes d most.depth more.depth _ _ _ _ deeper refl (raised es t c ps) _ refl h
  raised (begins ∷ es) t c ps h = raised es t c [] h
  raised (message kind name source ∷ es) t c ps h = refl
  raised (refused e ∷ es) t c ps h = refl

pub limits_only_refuse : LimitsOnlyRefuse
unfolding walk
limits_only_refuse sh s most more t text deeper longer h = raised sh most more deeper longer (events sh s text) t false [] h

pub shapes_decide : ShapesDecide
shapes_decide m n same s most t text = ap (λ sh. walk sh s most t text) (fun_ext same)
