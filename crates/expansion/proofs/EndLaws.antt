-- A run over the events of a frame that ends: the segments that it passed, and whether it marked a replacement.
use Rattle.std.proofs.Common.{◌≡◌, ℕ, zero, suc, ◌+◌, ◌<◌, ◌≤◌, Bool, true, false, cond, ◌&&◌, ◌||◌, eqb, List, [], ◌∷◌, ◌++◌, length, drop, Some, None, Option, sym, refl, ap, ◌∙◌, subst, ap₂, append_assoc, append-nil, arith}
use mathlib.Core.Bool.{and-true, or-false}
use Rattle.std.proofs.lemmas.Bool.{and_right, eqb-false, ne_eqb}
use Rattle.budget.specs.Charges.{charged}
use Rattle.names.specs.declared.PropertySyntax.{PropertySyntax}
use Rattle.source.specs.Shapes.{Shape}
use Rattle.references.specs.declared.error.Span.{Span}
use Rattle.references.specs.declared.error.PropertyError.{PropertyError}
use Rattle.items.specs.Pieces.{Piece, lit, literal}
use Rattle.items.specs.Items.{Act, keep, replace, select, require, refuse, Item, item, expands, inner}
use Rattle.expansion.specs.Events.{Event, message, charges, emits, selected, explained, acts, frame, trace, first_dollar, begin, events}
use Rattle.expansion.specs.Walks.{Limits, Outcome, ended, stopped, run, walk}
use Rattle.expansion.specs.Laws.{replaces, some_replaced, ChangedByRoot}
use Rattle.expansion.specs.Segments.{Segments, end, itself, other, EndedSegments}
use Rattle.expansion.proofs.ActLaws.{Yields, kept, made, laid, nested, act_word}
use Rattle.expansion.proofs.ItemLaws.{item_other, item_segments, item_word}

-- in a text without `$` each byte stands for itself
pub no_dollar : (j b : ℕ) (bs : List ℕ) → first_dollar j (b ∷ bs) ≡ None → (b ≡ 36 → ⊥) × (first_dollar (j + 1) bs ≡ None)
no_dollar j b bs h = go (eqb b 36) refl h
  where
    go : (t : Bool) → eqb b 36 ≡ t → cond t (Some j) (first_dollar (j + 1) bs) ≡ None → (b ≡ 36 → ⊥) × (first_dollar (j + 1) bs ≡ None)
    go true e h = let z : ◌≡◌ {A = ℕ} 0 1 = cc in absurd (omega arith)
    go false e h = (eqb-false b 36 e, h)

dry_segments : (sh : List ℕ → Shape) (s : PropertySyntax) (j : ℕ) (bs : List ℕ) → first_dollar j bs ≡ None → Segments sh s bs (literal bs)
dry_segments sh s j [] h = end
dry_segments sh s j (b ∷ bs) h = let p = no_dollar j b bs h in itself (other p.0) (dry_segments sh s (j + 1) bs p.1)

dry_unreplaced : (sh : List ℕ → Shape) (s : PropertySyntax) (i j : ℕ) (bs : List ℕ) → first_dollar j bs ≡ None → some_replaced sh s i bs 0 ≡ false
unfolding some_replaced
dry_unreplaced sh s i j [] h = refl
dry_unreplaced sh s i j (b ∷ bs) h =
    let p = no_dollar j b bs h in
    ap (λ it. replaces it.act || some_replaced sh s (i + 1) bs it.more) (item_other sh i s b bs p.0) ∙ dry_unreplaced sh s (i + 1) (j + 1) bs p.1

pub run_emits : (sh : List ℕ → Shape) (most : Limits) (xs : List Piece) (t : ℕ) (c : Bool) (ps : List Piece) (es : List Event)
    → run sh most t c ps (emits xs es) ≡ run sh most t c (ps ++ xs) es
unfolding run
run_emits sh most [] t c ps es = ap (λ q. run sh most t c q es) (sym (append-nil ps))
run_emits sh most (x ∷ xs) t c ps es = run_emits sh most xs t c (ps ++ x ∷ []) es ∙ ap (λ q. run sh most t c q es) (append_assoc ps (x ∷ []) xs)

-- a mark, and then others
marks : (c r q e : Bool) → ((c || (r && e)) || (q && e)) ≡ (c || ((r || q) && e))
marks true r q e = refl
marks false true true true = refl
marks false true true false = refl
marks false true false true = refl
marks false true false false = refl
marks false false q e = refl

module _ (sh : List ℕ → Shape) (most : Limits) (u : ℕ) (z : Bool) (qs : List Piece) where
  -- what stopped has not ended
  never : {X : Type 0} (v : ℕ) (e : PropertyError) (told : List ℕ) → stopped v e told ≡ ended u z qs → X
  never v e told h = let w : ◌≡◌ {A = ℕ} 0 1 = cc in absurd (omega arith)

  went_on : (b : Bool) (v : ℕ) (e : PropertyError) (told : List ℕ) (r : Outcome) → cond b (stopped v e told) r ≡ ended u z qs → r ≡ ended u z qs
  went_on true v e told r h = never v e told h
  went_on false v e told r h = h

  abbrev Ends : ℕ → Bool → List Piece → List Event → Type 0
  Ends t c ps es = run sh most t c ps es ≡ ended u z qs

  ends_charges : (ks : List ℕ) (t : ℕ) (c : Bool) (ps : List Piece) (es : List Event) → Ends t c ps (charges ks es) → (v : ℕ) × Ends v c ps es
  unfolding run
  ends_charges [] t c ps es h = (t, h)
  ends_charges (k ∷ ks) t c ps es h = ends_charges ks (charged t k) c ps es (went_on _ _ _ _ _ h)

  moved : (t : ℕ) (c c' : Bool) (ps ps' : List Piece) (es : List Event) → c ≡ c' → ps ≡ ps' → Ends t c ps es → Ends t c' ps' es
  moved t c c' ps ps' es e f h = sym (ap₂ (λ x y. run sh most t x y es) e f) ∙ h

  -- An act was passed, which is in a frame of depth d.
  record Acted (d : ℕ) (s : PropertySyntax) (a : Act) (c : Bool) (ps : List Piece) (es : List Event) : Type 0 where
    pieces : List Piece
    yields : Yields sh s a pieces
    total : ℕ
    goes : Ends total (c || (replaces a && eqb d 1)) (ps ++ pieces) es

  -- The bytes after the first k of a frame were passed, which is of depth d and starts at the place i.
  record Framed (d : ℕ) (s : PropertySyntax) (i : ℕ) (bs : List ℕ) (k : ℕ) (c : Bool) (ps : List Piece) (es : List Event) : Type 0 where
    pieces : List Piece
    segments : Segments sh s (drop k bs) pieces
    total : ℕ
    goes : Ends total (c || (some_replaced sh s i bs k && eqb d 1)) (ps ++ pieces) es

  -- Nested bytes were passed.
  record Passed (s : PropertySyntax) (bs : List ℕ) (c : Bool) (ps : List Piece) (es : List Event) : Type 0 where
    pieces : List Piece
    segments : Segments sh s bs pieces
    total : ℕ
    goes : Ends total c (ps ++ pieces) es

  framed_more : {d : ℕ} {s : PropertySyntax} (i b : ℕ) (bs : List ℕ) (c : Bool) (ps : List Piece) (es : List Event) {fs : List Event}
      → (p : Acted d s (item sh s i b bs).act c ps fs) → Framed d s (i + 1) bs (item sh s i b bs).more (c || (replaces (item sh s i b bs).act && eqb d 1)) (ps ++ p.pieces) es
      → Framed d s i (b ∷ bs) 0 c ps es
  unfolding some_replaced
  framed_more {d} {s} i b bs c ps es p q =
      record {
        pieces = p.pieces ++ q.pieces;
        segments = item_segments sh s i b bs p.yields q.segments;
        total = q.total;
        goes = moved q.total _ _ _ _ es (marks c (replaces (item sh s i b bs).act) (some_replaced sh s (i + 1) bs (item sh s i b bs).more) (eqb d 1)) (append_assoc ps p.pieces q.pieces) q.goes;
      }

  module _ (walk_in : ℕ → List ℕ → List Event → List Event) (d : ℕ) (s : PropertySyntax) (f : ℕ)
      (passed : (at : ℕ) (w : List ℕ) (t : ℕ) (c : Bool) (ps : List Piece) (es : List Event) → length w < f → Ends t c ps (walk_in at w es) → Passed (inner s) w c ps es) where
    selects : (b : Bool) (at : ℕ) (w : List ℕ) (t : ℕ) (c : Bool) (ps : List Piece) (es : List Event) → expands s w ≡ b → length w < f
        → Ends t c ps (selected walk_in d s b at w es) → Acted d s (select at w) c ps es
    unfolding run
    selects true at w t c ps es e l h =
        let p = passed at w t (c || eqb d 1) ps es l (went_on _ _ _ _ _ h) in
        record { pieces = p.pieces; yields = nested e p.segments; total = p.total; goes = p.goes }
    selects false at w t c ps es e l h =
        record { pieces = literal w; yields = laid e; total = t; goes = sym (run_emits sh most (literal w) t (c || eqb d 1) ps es) ∙ h }

    -- a message ends no walk
    explains : {X : Type 0} (b : Bool) (v : Shape) (name : Span) (at : ℕ) (w : List ℕ) (t : ℕ) (c : Bool) (ps : List Piece) → length w < f
        → Ends t c ps (explained walk_in d s b at w (message v name w ∷ [])) → X
    unfolding run
    explains true v name at w t c ps l h = never _ _ _ (passed at w t c [] (message v name w ∷ []) l (went_on _ _ _ _ _ h)).goes
    explains false v name at w t c ps l h = never _ _ _ (sym (run_emits sh most (literal w) t c [] (message v name w ∷ [])) ∙ h)

    acted : (a : Act) (t : ℕ) (c : Bool) (ps : List Piece) (es : List Event) → length (act_word a) < f → Ends t c ps (acts walk_in d s a es) → Acted d s a c ps es
    unfolding run
    acted (keep b) t c ps es l h = record { pieces = lit b ∷ []; yields = kept; total = t; goes = ap (λ x. run sh most t x (ps ++ lit b ∷ []) es) (or-false c) ∙ h }
    acted (replace xs) t c ps es l h = record { pieces = xs; yields = made; total = t; goes = sym (run_emits sh most xs t (c || eqb d 1) ps es) ∙ h }
    acted (select at w) t c ps es l h = selects (expands s w) at w (charged t (length w)) c ps es refl l (went_on _ _ _ _ _ h)
    acted (require v name at w) t c ps es l h = explains (expands s w) v name at w (charged t (length w)) c ps l (went_on _ _ _ _ _ h)
    acted (refuse e) t c ps es l h = never _ _ _ h

    framed : (i : ℕ) (bs : List ℕ) (k t : ℕ) (c : Bool) (ps : List Piece) (es : List Event) → length bs ≤ f → Ends t c ps (frame walk_in d s sh i bs k es) → Framed d s i bs k c ps es
    unfolding run frame some_replaced
    framed i [] zero t c ps es l h = record { pieces = []; segments = end; total = t; goes = moved t c _ ps _ es (sym (or-false c)) (sym (append-nil ps)) h }
    framed i [] (suc k) t c ps es l h = record { pieces = []; segments = end; total = t; goes = moved t c _ ps _ es (sym (or-false c)) (sym (append-nil ps)) h }
    framed i (b ∷ bs) (suc k) t c ps es l h =
        let p = framed (i + 1) bs k t c ps es (omega arith) h in
        record { pieces = p.pieces; segments = p.segments; total = p.total; goes = p.goes }
    framed i (b ∷ bs) zero t c ps es l h =
        let it : Item = item sh s i b bs in
        let paid = ends_charges it.looks t c ps _ h in
        let p = acted it.act paid.0 c ps _ (omega (arith, item_word sh s i b bs)) paid.1 in
        framed_more i b bs c ps es p (framed (i + 1) bs it.more p.total (c || (replaces it.act && eqb d 1)) (ps ++ p.pieces) es (omega arith) p.goes)

  no_mark : (c r e : Bool) → e ≡ false → (c || (r && e)) ≡ c
  no_mark c r e h = ap (λ x. c || x) (and_right r e h) ∙ or-false c

  -- a frame below the root marks nothing
  unmarked : {d : ℕ} {s : PropertySyntax} {i : ℕ} {bs : List ℕ} {c : Bool} {ps : List Piece} {es : List Event} → 0 < d → Framed (d + 1) s i bs 0 c ps es → Passed s bs c ps es
  unmarked {d} {s} {i} {bs} {c} g p =
      let off = ne_eqb (d + 1) 1 (λ e. omega arith) in
      record { pieces = p.pieces; segments = p.segments; total = p.total; goes = moved p.total _ _ _ _ _ (no_mark c (some_replaced sh s i bs 0) (eqb (d + 1) 1) off) refl p.goes }

  traced : (f d : ℕ) (s : PropertySyntax) (i : ℕ) (bs : List ℕ) (t : ℕ) (c : Bool) (ps : List Piece) (es : List Event) → 0 < d → length bs ≤ f
      → Ends t c ps (trace f d sh s i bs es) → Framed d s i bs 0 c ps es
  unfolding trace
  traced zero d s i bs t c ps es g l h = framed (λ at w rest. rest) d s 0 (λ at w t c ps es m j. absurd (omega arith)) i bs 0 t c ps es l h
  traced (suc f) d s i bs t c ps es g l h =
      framed (λ at w rest. trace f (d + 1) sh (inner s) at w rest) d s (suc f) (λ at w t c ps es m j. unmarked g (traced f (d + 1) (inner s) at w t c ps es (omega arith) (omega arith) j))
      i bs 0 t c ps es l h

  same_ended : {a : ℕ} {b : Bool} {xs : List Piece} → ended a b xs ≡ ended u z qs → (xs ≡ qs) × (z ≡ b)
  same_ended h = (cc, cc)

  -- the whole text
  rooted : (s : PropertySyntax) (t : ℕ) (text : List ℕ) (o : Option ℕ) → first_dollar 0 text ≡ o → Ends t false [] (begin sh s text o)
      → Segments sh s text qs × (z ≡ some_replaced sh s 0 text 0)
  unfolding run
  rooted s t text None e h =
      let p = same_ended (sym (run_emits sh most (literal text) _ false [] []) ∙ went_on _ _ _ _ _ h) in
      (subst (Segments sh s text) p.0 (dry_segments sh s 0 text e), p.1 ∙ sym (dry_unreplaced sh s 0 0 text e))
  rooted s t text (Some i) e h =
      let p = traced (length text) 1 s 0 text _ false [] [] (omega arith) (omega arith) (went_on _ _ _ _ _ h) in
      let q = same_ended p.goes in
      (subst (Segments sh s text) q.0 p.segments, q.1 ∙ and-true _)

pub ended_segments : EndedSegments
unfolding walk events
ended_segments sh s most t u text c ps h = (rooted sh most u c ps s t text _ refl h).0

pub changed_by_root : ChangedByRoot
unfolding walk events
changed_by_root sh s most t u text c ps h = (rooted sh most u c ps s t text _ refl h).1
