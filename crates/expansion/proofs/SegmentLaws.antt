-- A run over the events of segments, under limits that do not stop it, goes on with their pieces.
use Rattle.std.proofs.Common.{◌≡◌, ℕ, zero, suc, ◌+◌, ◌-◌, ◌^◌, ◌<◌, ◌≤◌, Bool, true, false, ◌||◌, eqb, List, [], ◌∷◌, ◌++◌, length, drop, Some, None, Option, sym, refl, ap, ◌∙◌, append_assoc, append-nil, arith}
use Rattle.std.proofs.lemmas.Bool.{cond-false, le-ltb}
use Rattle.budget.specs.Charges.{charged}
use Rattle.names.specs.declared.PropertySyntax.{PropertySyntax}
use Rattle.source.specs.Shapes.{Shape}
use Rattle.items.specs.Pieces.{Piece, lit, literal}
use Rattle.items.specs.Items.{Act, select, Item, item, expands, inner}
use Rattle.expansion.specs.Events.{Event, charge, replaced, nest, charges, emits, selected, acts, frame, trace, first_dollar, begin, events}
use Rattle.expansion.specs.Walks.{Limits, ended, run, walk}
use Rattle.expansion.specs.Laws.{Unhindered}
use Rattle.expansion.specs.Segments.{Segments, end, itself, escaped, valued, omitted, copied, walked, SegmentsEnded, SegmentsUnique}
use Rattle.expansion.proofs.ActLaws.{Yields, kept, made, laid, nested, act_word}
use Rattle.expansion.proofs.ItemLaws.{item_word, split}
use Rattle.expansion.proofs.EndLaws.{no_dollar, run_emits}

pub no_segments : {sh : List ℕ → Shape} {s : PropertySyntax} {xs : List Piece} → Segments sh s [] xs → [] ≡ xs
no_segments end = refl

module _ (sh : List ℕ → Shape) (most : Limits) (roomy : 2 ^ 64 - 1 ≤ most.work) where
  -- The events es come to those of fs, with the pieces xs made.
  record Comes (t : ℕ) (c : Bool) (ps : List Piece) (es : List Event) (xs : List Piece) (fs : List Event) : Type 0 where
    total : ℕ
    changed : Bool
    goes : run sh most t c ps es ≡ run sh most total changed (ps ++ xs) fs

  pub run_charge : (k t : ℕ) (c : Bool) (ps : List Piece) (es : List Event) → run sh most t c ps (charge k ∷ es) ≡ run sh most (charged t k) c ps es
  unfolding run
  run_charge k t c ps es = cond-false _ _ _ (le-ltb most.work (charged t k) (omega arith))

  pub run_charges : (ks : List ℕ) (t : ℕ) (c : Bool) (ps : List Piece) (es : List Event) → (v : ℕ) × (run sh most t c ps (charges ks es) ≡ run sh most v c ps es)
  run_charges [] t c ps es = (t, refl)
  run_charges (k ∷ ks) t c ps es = let p = run_charges ks (charged t k) c ps es in (p.0, run_charge k t c ps (charges ks es) ∙ p.1)

  pub run_nest : (d t : ℕ) (c : Bool) (ps : List Piece) (es : List Event) → d ≤ most.depth → run sh most t c ps (nest d ∷ es) ≡ run sh most t c ps es
  unfolding run
  run_nest d t c ps es h = cond-false _ _ _ (le-ltb most.depth d h)

  module _ (walk_in : ℕ → List ℕ → List Event → List Event) (d : ℕ) (s : PropertySyntax) (f : ℕ) (shallow : d + f ≤ most.depth + 1)
      (comes_in : (at : ℕ) (w : List ℕ) (t : ℕ) (c : Bool) (ps xs : List Piece) (es : List Event) → length w < f → Segments sh (inner s) w xs → Comes t c ps (walk_in at w es) xs es) where
    run_select : (b : Bool) (at : ℕ) (w : List ℕ) (t : ℕ) (c : Bool) (ps : List Piece) (es : List Event) → expands s w ≡ b
        → run sh most t c ps (acts walk_in d s (select at w) es) ≡ run sh most (charged t (length w)) c ps (selected walk_in d s b at w es)
    run_select b at w t c ps es e =
        run_charge (length w) t c ps (selected walk_in d s (expands s w) at w es) ∙ ap (λ b. run sh most (charged t (length w)) c ps (selected walk_in d s b at w es)) e

    comes_acts : {a : Act} {xs : List Piece} (t : ℕ) (c : Bool) (ps : List Piece) (es : List Event) → length (act_word a) < f → Yields sh s a xs → Comes t c ps (acts walk_in d s a es) xs es
    unfolding run
    comes_acts t c ps es l kept = record { total = t; changed = c; goes = refl }
    comes_acts t c ps es l made = record { total = t; changed = c || eqb d 1; goes = run_emits sh most _ t (c || eqb d 1) ps es }
    comes_acts t c ps es l (laid {at = at} {w = w} e) =
        record {
          total = charged t (length w);
          changed = c || eqb d 1;
          goes = run_select false at w t c ps es e ∙ run_emits sh most (literal w) (charged t (length w)) (c || eqb d 1) ps es;
        }
    comes_acts t c ps es l (nested {at = at} {w = w} {ps = xs} e g) =
        let p = comes_in at w (charged t (length w)) (c || eqb d 1) ps xs es l g in
        record {
          total = p.total;
          changed = p.changed;
          goes = run_select true at w t c ps es e ∙ run_nest d (charged t (length w)) c ps (replaced d ∷ walk_in at w es) (omega arith) ∙ p.goes;
        }

    comes_frame : (i : ℕ) (bs : List ℕ) (k t : ℕ) (c : Bool) (ps xs : List Piece) (es : List Event) → length bs ≤ f → Segments sh s (drop k bs) xs
        → Comes t c ps (frame walk_in d s sh i bs k es) xs es
    unfolding frame
    comes_frame i [] zero t c ps xs es l g = record { total = t; changed = c; goes = ap (λ q. run sh most t c q es) (sym (append-nil ps) ∙ ap (λ q. ps ++ q) (no_segments g)) }
    comes_frame i [] (suc k) t c ps xs es l g = record { total = t; changed = c; goes = ap (λ q. run sh most t c q es) (sym (append-nil ps) ∙ ap (λ q. ps ++ q) (no_segments g)) }
    comes_frame i (b ∷ bs) (suc k) t c ps xs es l g = let p = comes_frame (i + 1) bs k t c ps xs es (omega arith) g in record { total = p.total; changed = p.changed; goes = p.goes }
    comes_frame i (b ∷ bs) zero t c ps xs es l g =
        let it : Item = item sh s i b bs in
        let x = split i g in
        let short : length (act_word it.act) < f = omega (arith, item_word sh s i b bs) in
        let fits : length bs ≤ f = omega arith in
        let paid = run_charges it.looks t c ps _ in
        let p = comes_acts paid.0 c ps _ short x.first in
        let q = comes_frame (i + 1) bs it.more p.total p.changed (ps ++ x.front) x.others es fits x.rest in
        record {
          total = q.total;
          changed = q.changed;
          goes = paid.1 ∙ p.goes ∙ q.goes ∙ ap (λ y. run sh most q.total q.changed y es) (append_assoc ps x.front x.others ∙ ap (λ y. ps ++ y) (sym x.whole));
        }

  comes_trace : (f d : ℕ) (s : PropertySyntax) (i : ℕ) (bs : List ℕ) (t : ℕ) (c : Bool) (ps xs : List Piece) (es : List Event) → d + f ≤ most.depth + 1 → length bs ≤ f → Segments sh s bs xs
      → Comes t c ps (trace f d sh s i bs es) xs es
  unfolding trace
  comes_trace zero d s i bs t c ps xs es h l g = comes_frame (λ at w rest. rest) d s 0 h (λ at w t c ps xs es m j. absurd (omega arith)) i bs 0 t c ps xs es l g
  comes_trace (suc f) d s i bs t c ps xs es h l g =
      comes_frame (λ at w rest. trace f (d + 1) sh (inner s) at w rest) d s (suc f) h (λ at w t c ps xs es m j. comes_trace f (d + 1) (inner s) at w t c ps xs es (omega arith) (omega arith) j)
      i bs 0 t c ps xs es l g

-- the pieces of a text without `$`
dry_pieces : {sh : List ℕ → Shape} {s : PropertySyntax} {bs : List ℕ} {xs : List Piece} (j : ℕ) → first_dollar j bs ≡ None → Segments sh s bs xs → literal bs ≡ xs
dry_pieces j h end = refl
dry_pieces j h (itself {b = b} {bs = bs} e g) = ap (λ q. lit b ∷ q) (dry_pieces (j + 1) (no_dollar j b bs h).1 g)
dry_pieces j h (escaped {bs = bs} g) = absurd ((no_dollar j 36 (36 ∷ bs) h).0 refl)
dry_pieces j h (valued {bs = bs} r e g) = absurd ((no_dollar j 36 bs h).0 refl)
dry_pieces j h (omitted {bs = bs} r e g) = absurd ((no_dollar j 36 bs h).0 refl)
dry_pieces j h (copied {bs = bs} r e f g) = absurd ((no_dollar j 36 bs h).0 refl)
dry_pieces j h (walked {bs = bs} r e f k g) = absurd ((no_dollar j 36 bs h).0 refl)

begun : (sh : List ℕ → Shape) (s : PropertySyntax) (most : Limits) (t : ℕ) (text : List ℕ) (ps : List Piece) → Unhindered most text → Segments sh s text ps
    → (o : Option ℕ) → first_dollar 0 text ≡ o → (u : ℕ) × (c : Bool) × (run sh most t false [] (begin sh s text o) ≡ ended u c ps)
unfolding run
begun sh s most t text ps free g None e = (
  charged t (length text),
  false,
  run_charge sh most free.work (length text) t false [] (emits (literal text) []) ∙ run_emits sh most (literal text) (charged t (length text)) false [] []
      ∙ ap (ended (charged t (length text)) false) (dry_pieces 0 e g),
)
begun sh s most t text ps free g (Some i) e =
    let p = comes_trace sh most free.work (length text) 1 s 0 text (charged t (i + 1)) false [] ps [] (omega (arith, free.depth)) (omega arith) g in
    (p.total, p.changed, run_charge sh most free.work (i + 1) t false [] (trace (length text) 1 sh s 0 text []) ∙ p.goes)

pub segments_ended : SegmentsEnded
unfolding walk events
segments_ended sh s most t text ps free g = begun sh s most t text ps free g (first_dollar 0 text) refl

pub segments_unique : SegmentsUnique
segments_unique sh s text ps qs g h =
    let most : Limits = record { depth = length text; work = 2 ^ 64 - 1 } in
    let free : Unhindered most text = record { work = omega arith; depth = omega arith } in
    let p = segments_ended sh s most 0 text ps free g in
    let q = segments_ended sh s most 0 text qs free h in
    pieces_same (sym p.2 ∙ q.2)
  where
    pieces_same : {u v : ℕ} {c d : Bool} → ended u c ps ≡ ended v d qs → ps ≡ qs
    pieces_same e = cc
