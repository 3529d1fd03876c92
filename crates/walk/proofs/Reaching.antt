-- A walk goes on: what each event makes of what it has reached.
use Rattle.std.proofs.Common.{◌≡◌, ℕ, ◌+◌, ◌^◌, ◌<◌, ◌≤◌, Bool, true, false, ◌||◌, List, [], ◌∷◌, ◌++◌, length, Some, Ok, Err, Option, Result, sym, refl, ap, ◌∙◌, subst, append-nil, arith, MutBor}
use Rattle.std.proofs.Math.Bool.{or-false}
use Rattle.std.proofs.lemmas.Bool.{cond-true, cond-false, le-ltb, lt-ltb}
use Rattle.std.specs.Option.{option_map}
use Rattle.budget.specs.declared.WorkBudget.{WorkBudget}
use Rattle.budget.specs.Charges.{taken, over, total_of, works, paid, spent}
use Rattle.budget.specs.declared.WorkFault.{WorkFault}
use Rattle.budget.proofs.Calls.{broke, went}
use Rattle.source.specs.Shapes.{Shape, bytes_of, empty, filled, shapes, unset, values}
use Rattle.references.specs.declared.error.Span.{Span}
use Rattle.references.specs.declared.error.PropertyError.TheVariants.{ExpansionDepthLimitExceeded, ExpansionWorkLimitExceeded}
use Rattle.items.specs.Pieces.{Piece, lit, val, literal, literals, shows, spelled}
use Rattle.output.specs.declared.Output.{Output}
use Rattle.output.specs.Outputs.{Grows, Holds}
use Rattle.expansion.proofs.EndLaws.{run_emits}
use Rattle.walk.specs.declared.marks.Marks.{Marks}
use Rattle.walk.specs.declared.state.Walk.{Walk}
use Rattle.expansion.specs.Events.{Event, begins, charge, charges, emit, emits, message, nest, replaced}
use Rattle.expansion.specs.Walks.{Limits, missing, run, shown, stopped}
use Rattle.walk.specs.Endings.{has_message}
use Rattle.walk.specs.Frames.{Aim, Message, Reached, Stopped, Tells, changed, marked_replaced, marked_shows, worked}
use Rattle.walk.proofs.Choosing.{len_of_value, shows_by_len}
use Rattle.walk.proofs.Runs.{after, literals_append, literals_literal, shows_literal, spelled_literal, run_charges, shows_append, spelled_append, spelled_unshown}

tells_missing : (lent : MutBor (List ℕ)) (out : Output) (kind : Shape) (name : Span) (n : ℕ) (told : List ℕ) → Holds out lent told → Tells (has_message (missing kind name n)) out lent told
tells_missing lent out unset name n told h = h
tells_missing lent out empty name n told h = h
tells_missing lent out filled name n told h = h

module _ {means : List ℕ → Option (List ℕ)} {deep : ℕ} {aim : Aim} where
  -- the same events
  pub reach_same : {left : ℕ} {es fs : List Event} {now : Walk} → es ≡ fs → Reached means deep aim left es now → Reached means deep aim left fs now
  reach_same {left} {es} {fs} {now} e r = subst (λ l. Reached means deep aim left l now) e r

  -- events of which a walk makes the same
  pub reach_run : {left : ℕ} {es fs : List Event} {now : Walk}
      → ((t : ℕ) (c : Bool) (ps : List Piece) → run (shapes means) (record { depth = deep; work = now.work.limit }) t c ps es ≡ run (shapes means) (record { depth = deep; work = now.work.limit }) t c ps fs)
      → Reached means deep aim left es now → Reached means deep aim left fs now
  reach_run {left} {es} {fs} {now} e r =
      record { bound = r.bound; pieces = r.pieces; goes = sym (e now.work.total now.marks.changed r.pieces) ∙ r.goes; marked = r.marked; holds = r.holds; few = r.few }

  -- fewer bytes are left
  pub reach_less : {more : ℕ} {es : List Event} {now : Walk} (left : ℕ) → left ≤ more → Reached means deep aim more es now → Reached means deep aim left es now
  reach_less left h r = record { bound = r.bound; pieces = r.pieces; goes = r.goes; marked = r.marked; holds = r.holds; few = omega (arith, r.few) }

  module _ {now : Walk} {w : WorkBudget} {left : ℕ} (es : List Event) (ks : List ℕ) (t : ℕ) (e : w ≡ spent now.work ks) where
    -- charges are taken
    pub reach_charges : works now.work ks ≡ taken t → Reached means deep aim left (charges ks es) now → Reached means deep aim left es (worked w now)
    reach_charges h r =
        let most : Limits = record { depth = deep; work = now.work.limit } in
        record {
          bound = record { loan = r.bound.loan; limit = ap (λ (v : WorkBudget). v.limit) e ∙ r.bound.limit };
          pieces = r.pieces;
          goes = ap (λ (v : WorkBudget). run (shapes means) (record { depth = deep; work = v.limit }) v.total now.marks.changed r.pieces es) e
              ∙ ap (λ x. run (shapes means) most (total_of x) now.marks.changed r.pieces es) h
              ∙ sym (run_charges (shapes means) most ks now.work.total now.marks.changed r.pieces es ∙ ap (after (shapes means) most now.marks.changed r.pieces es) h)
              ∙ r.goes;
          marked = r.marked;
          holds = r.holds;
          few = r.few;
        }

    -- one is refused
    pub stop_charges : works now.work ks ≡ over t → Reached means deep aim left (charges ks es) now → Stopped aim (worked w now) (ExpansionWorkLimitExceeded t now.work.limit)
    stop_charges h r =
        let most : Limits = record { depth = deep; work = now.work.limit } in
        record {
          bound = record { loan = r.bound.loan; limit = ap (λ (v : WorkBudget). v.limit) e ∙ r.bound.limit };
          told = [];
          is = sym r.goes ∙ run_charges (shapes means) most ks now.work.total now.marks.changed r.pieces es ∙ ap (after (shapes means) most now.marks.changed r.pieces es) h
              ∙ ap (λ n. stopped n (ExpansionWorkLimitExceeded t now.work.limit) []) (sym (ap (λ (v : WorkBudget). v.total) e ∙ ap total_of h));
          short = omega arith;
          tells = refl;
          old = spelled (values means) r.pieces;
          holds = r.holds;
        }

  -- the charges of a call, by its answer
  module _ {now : Walk} {w : WorkBudget} {left : ℕ} (es : List Event) (ks : List ℕ) (e : w ≡ spent now.work ks) where
    pub reach_paid : {x : Unit {0}} → Ok x ≡ paid now.work ks tt → Reached means deep aim left (charges ks es) now → Reached means deep aim left es (worked w now)
    reach_paid says r = reach_charges es ks w.total e (sym (ap (works now.work) (append-nil ks)) ∙ (went now.work w ks e tt says).0.on []) r

    pub stop_paid : (f : WorkFault) → ◌≡◌ {A = Result (Unit {0}) WorkFault} (Err f) (paid now.work ks tt) → Reached means deep aim left (charges ks es) now
        → Stopped aim (worked w now) (ExpansionWorkLimitExceeded f.work f.limit)
    stop_paid f says r =
        let b = broke now.work w ks e tt says in
        subst (λ (g : WorkFault). Stopped aim (worked w now) (ExpansionWorkLimitExceeded g.work g.limit)) (sym b.fault) (stop_charges es ks w.total e (sym (ap (works now.work) (append-nil ks)) ∙ b.off []) r)

  -- one charge
  module _ {now : Walk} {w : WorkBudget} {left : ℕ} {es : List Event} (k : ℕ) (e : w ≡ spent now.work (k ∷ [])) where
    pub reach_charge : {x : Unit {0}} → Ok x ≡ paid now.work (k ∷ []) tt → Reached means deep aim left (charge k ∷ es) now → Reached means deep aim left es (worked w now)
    reach_charge says r = reach_paid es (k ∷ []) e says r

    pub stop_charge : (f : WorkFault) → ◌≡◌ {A = Result (Unit {0}) WorkFault} (Err f) (paid now.work (k ∷ []) tt) → Reached means deep aim left (charge k ∷ es) now
        → Stopped aim (worked w now) (ExpansionWorkLimitExceeded f.work f.limit)
    stop_charge f says r = stop_paid es (k ∷ []) e f says r

  module _ {now : Walk} {left : ℕ} {es : List Event} where
    -- pieces are put out
    pub reach_emits : {marks : Marks} {out : Output} {text : List ℕ} (qs : List Piece) (room : ℕ) → length (literals qs) ≤ room → marks.changed ≡ now.marks.changed → marks.shows ≡ now.marks.shows || shows (shapes means) qs
        → spelled (values means) qs ≡ text → Grows now.out.now text out → Reached means deep aim (room + left) (emits qs es) now → Reached means deep aim left es (changed now.work marks out now)
    reach_emits {marks} {out} {text} qs room few c s q grows r =
        let most : Limits = record { depth = deep; work = now.work.limit } in
        record {
          bound = r.bound;
          pieces = r.pieces ++ qs;
          goes = ap (λ b. run (shapes means) most now.work.total b (r.pieces ++ qs) es) c ∙ sym (run_emits (shapes means) most qs now.work.total now.marks.changed r.pieces es) ∙ r.goes;
          marked = s ∙ ap (λ b. b || shows (shapes means) qs) r.marked ∙ sym (shows_append (shapes means) r.pieces qs);
          holds = subst (Holds out aim.lent) (ap (λ l. spelled (values means) r.pieces ++ l) (sym q) ∙ sym (spelled_append (values means) r.pieces qs)) (grows aim.lent (spelled (values means) r.pieces) r.holds);
          few = omega (arith, r.few, literals_append r.pieces qs);
        }

    -- bytes are put out
    pub reach_literal : {out : Output} (text : List ℕ) → Grows now.out.now text out → Reached means deep aim (length text + left) (emits (literal text) es) now → Reached means deep aim left es (changed now.work now.marks out now)
    reach_literal text grows r =
        let s : now.marks.shows ≡ now.marks.shows || shows (shapes means) (literal text) = sym (ap (λ b. now.marks.shows || b) (shows_literal (shapes means) text) ∙ or-false now.marks.shows) in
        let l = ap length (literals_literal text) in
        reach_emits (literal text) (length text) (omega arith) refl s (spelled_literal (values means) text) grows r

    -- one byte is put out
    pub reach_byte : {out : Output} (byte : ℕ) → Grows now.out.now (byte ∷ []) out → Reached means deep aim (1 + left) (emit (lit byte) ∷ es) now → Reached means deep aim left es (changed now.work now.marks out now)
    reach_byte byte grows r = reach_literal (byte ∷ []) grows r

    -- the value of a property is put out
    pub reach_value : {marks : Marks} {out : Output} (name : List ℕ) (len : ℕ) → Some len ≡ option_map length (means name) → marks ≡ marked_shows len now.marks
        → (len ≡ length (bytes_of (means name)) → Grows now.out.now (bytes_of (means name)) out) → Reached means deep aim (0 + left) (emit (val name) ∷ es) now → Reached means deep aim left es (changed now.work marks out now)
    reach_value name len e m grows r =
        reach_emits (val name ∷ []) 0 (omega arith) (ap (λ (q : Marks). q.changed) m) (ap (λ (q : Marks). q.shows) m ∙ ap (λ b. now.marks.shows || b) (shows_by_len len (means name) e)) (append-nil _) (grows (len_of_value len (means name) e)) r

    -- the text has a replacement, if it was in the first frame
    pub reach_replaced : {marks : Marks} (d : ℕ) → marks ≡ marked_replaced d now.marks → Reached means deep aim left (replaced d ∷ es) now → Reached means deep aim left es (changed now.work marks now.out.now now)
    unfolding run
    reach_replaced d e r =
        let most : Limits = record { depth = deep; work = now.work.limit } in
        record {
          bound = r.bound;
          pieces = r.pieces;
          goes = ap (λ (m : Marks). run (shapes means) most now.work.total m.changed r.pieces es) e ∙ r.goes;
          marked = ap (λ (m : Marks). m.shows) e ∙ r.marked;
          holds = r.holds;
          few = r.few;
        }

    -- a message begins
    pub reach_begins : {marks : Marks} {out : Output} → marks.changed ≡ now.marks.changed → marks.shows ≡ false → ((text : List ℕ) → Holds now.out.now aim.lent text → Holds out aim.lent []) → Reached means deep aim left (begins ∷ es) now
        → Reached means deep aim left es (changed now.work marks out now)
    unfolding run
    reach_begins c s clears r =
        let most : Limits = record { depth = deep; work = now.work.limit } in
        record {
          bound = r.bound;
          pieces = [];
          goes = ap (λ b. run (shapes means) most now.work.total b [] es) c ∙ r.goes;
          marked = s;
          holds = clears (spelled (values means) r.pieces) r.holds;
          few = omega (arith, r.few);
        }

    -- a frame is opened, or lies too deep
    pub reach_nest : (d : ℕ) → d ≤ deep → Reached means deep aim left (nest d ∷ es) now → Reached means deep aim left es now
    unfolding run
    reach_nest d h r =
        record { bound = r.bound; pieces = r.pieces; goes = sym (cond-false _ _ _ (le-ltb deep d h)) ∙ r.goes; marked = r.marked; holds = r.holds; few = r.few }

    pub stop_nest : (d : ℕ) → deep < d → Reached means deep aim left (nest d ∷ es) now → Stopped aim now (ExpansionDepthLimitExceeded d deep)
    unfolding run
    stop_nest d h r = record { bound = r.bound; told = []; is = sym r.goes ∙ cond-true _ _ _ (lt-ltb deep d h); short = omega arith; tells = refl; old = spelled (values means) r.pieces; holds = r.holds }

    -- the text as it stands is the message where a value shows; else what was put out
    pub message_source : {out : Output} (text : List ℕ) (n : ℕ) → length text < 2 ^ 64 → now.marks.shows ≡ true → n ≡ out.len
        → (r : Reached means deep aim left es now) → ((old : List ℕ) → Holds now.out.now aim.lent old → Holds out aim.lent text) → Message means deep aim text now (changed now.work now.marks out now) n r.pieces
    message_source {out} text n few s e r lays =
        let is : shown (shapes means) text r.pieces ≡ text = cond-true _ _ _ (sym r.marked ∙ s) in
        let h = lays _ r.holds in
        record { loan = refl; work = refl; holds = subst (Holds out aim.lent) (sym is) h; len = omega (arith, h.len, ap length is); short = omega (arith, h.len) }

    pub message_pieces : (text : List ℕ) (n : ℕ) → now.marks.shows ≡ false → n ≡ now.out.now.len → (r : Reached means deep aim left es now) → Message means deep aim text now now n r.pieces
    message_pieces text n s e r =
        let plain : shows (shapes means) r.pieces ≡ false = sym r.marked ∙ s in
        let is : spelled (values means) r.pieces ≡ shown (shapes means) text r.pieces = spelled_unshown means r.pieces plain ∙ sym (cond-false _ _ _ plain) in
        record {
          loan = refl;
          work = refl;
          holds = subst (Holds now.out.now aim.lent) is r.holds;
          len = omega (arith, r.holds.len, r.few, ap length is, ap length (spelled_unshown means r.pieces plain));
          short = omega (arith, r.holds.len, r.few, ap length (spelled_unshown means r.pieces plain));
        }

  -- a message ends
  pub stop_message : {before now : Walk} {left : ℕ} (kind : Shape) (name : Span) (text : List ℕ) (n : ℕ)
      → (r : Reached means deep aim left (message kind name text ∷ []) before) → Message means deep aim text before now n r.pieces
      → Stopped aim now (missing kind name n)
  unfolding run
  stop_message {before} {now} kind name text n r m =
      record {
        bound = record { loan = m.loan ∙ r.bound.loan; limit = ap (λ (w : WorkBudget). w.limit) m.work ∙ r.bound.limit };
        told = shown (shapes means) text r.pieces;
        is = sym r.goes ∙ ap (λ k. stopped before.work.total (missing kind name k) (shown (shapes means) text r.pieces)) (sym m.len)
            ∙ ap (λ (w : WorkBudget). stopped w.total (missing kind name n) (shown (shapes means) text r.pieces)) (sym m.work);
        short = omega (arith, m.len, m.short);
        tells = tells_missing aim.lent now.out.now kind name n _ m.holds;
        old = shown (shapes means) text r.pieces;
        holds = m.holds;
      }
