-- Bytes before the next `$` are passed in one step: all charges first, and then all that is put out.
use Rattle.std.proofs.Common.{◌≡◌, ℕ, suc, ◌+◌, ◌≤◌, Bool, true, false, cond, eqb, ltb, List, [], ◌∷◌, ◌++◌, length, take, drop, replicate, Some, Option, sym, refl, ap, ◌∙◌, add-zero, arith}
use Rattle.std.proofs.lemmas.List.{length-take-le}
use Rattle.std.specs.Option.{unwrap_or}
use Rattle.budget.specs.Charges.{charged}
use Rattle.names.specs.declared.PropertySyntax.{PropertySyntax}
use Rattle.source.specs.Shapes.{Shape, shapes}
use Rattle.references.specs.declared.error.PropertyError.TheVariants.{ExpansionWorkLimitExceeded}
use Rattle.items.specs.Pieces.{Piece, lit, literal}
use Rattle.items.specs.Items.{Item, dollar, item, keep}
use Rattle.walk.specs.declared.state.Walk.{Walk}
use Rattle.expansion.specs.Events.{Event, acts, charge, charges, emit, emits, first_dollar, frame}
use Rattle.expansion.specs.Walks.{Limits, run, stopped}
use Rattle.walk.specs.Frames.{Aim, Reached}
use Rattle.walk.specs.Plains.{plain}
use Rattle.walk.proofs.Reaching.{reach_run}

-- how many there are, by the place of the first `$`
plain_by : (j : ℕ) (bs : List ℕ) → unwrap_or (first_dollar j bs) (j + length bs) ≡ j + plain bs
plain_by j [] = refl
plain_by j (b ∷ bs) = go (eqb b 36) (plain_by (j + 1) bs)
  where
    go : (t : Bool) → unwrap_or (first_dollar (j + 1) bs) (j + 1 + length bs) ≡ j + 1 + plain bs → unwrap_or (cond t (Some j) (first_dollar (j + 1) bs)) (j + suc (length bs)) ≡ j + cond t 0 (suc (plain bs))
    go true up = sym (add-zero j)
    go false up =
        let n : j + suc (length bs) ≡ j + 1 + length bs = omega arith in
        let m : j + 1 + plain bs ≡ j + suc (plain bs) = omega arith in
        ap (unwrap_or (first_dollar (j + 1) bs)) n ∙ up ∙ m

pub plain_is : (bs : List ℕ) (r : Option ℕ) (n : ℕ) → r ≡ first_dollar 0 bs → n ≡ unwrap_or r (length bs) → n ≡ plain bs
plain_is bs r n e h =
    let from : unwrap_or (first_dollar 0 bs) (length bs) ≡ unwrap_or (first_dollar 0 bs) (0 + length bs) = ap (unwrap_or (first_dollar 0 bs)) (omega arith) in
    let size : 0 + plain bs ≡ plain bs = omega arith in
    h ∙ ap (λ o. unwrap_or o (length bs)) e ∙ from ∙ plain_by 0 bs ∙ size

pub plain_within : (bs : List ℕ) → plain bs ≤ length bs
plain_within [] = omega arith
plain_within (b ∷ bs) = go (eqb b 36) (plain_within bs)
  where
    go : (t : Bool) → plain bs ≤ length bs → cond t 0 (suc (plain bs)) ≤ suc (length bs)
    go true up = omega arith
    go false up = omega arith

-- the events of bytes that stand for themselves, and then es
abbrev bytes : List ℕ → List Event → List Event
bytes [] es = es
bytes (b ∷ bs) es = charge 1 ∷ emit (lit b) ∷ bytes bs es

module _ (nested : ℕ → List ℕ → List Event → List Event) (d : ℕ) (s : PropertySyntax) (sh : List ℕ → Shape) (es : List Event) where
  abbrev behind : ℕ → List ℕ → ℕ → List Event
  behind i bs k = bytes (take k bs) (frame nested d s sh (i + k) (drop k bs) 0 es)

  frame_plain : (i : ℕ) (bs : List ℕ) → frame nested d s sh i bs 0 es ≡ behind i bs (plain bs)
  unfolding frame item
  frame_plain i [] = refl
  frame_plain i (b ∷ bs) = go (eqb b 36) refl (frame_plain (i + 1) bs)
    where
      kept : Item
      kept = record { looks = 1 ∷ []; act = keep b; more = 0 }

      by : Item → List Event
      by it = charges it.looks (acts nested d s it.act (frame nested d s sh (i + 1) bs it.more es))

      go : (t : Bool) → eqb b 36 ≡ t → frame nested d s sh (i + 1) bs 0 es ≡ behind (i + 1) bs (plain bs) → frame nested d s sh i (b ∷ bs) 0 es ≡ behind i (b ∷ bs) (plain (b ∷ bs))
      go true e up =
          let z : plain (b ∷ bs) ≡ 0 = ap (λ c. cond c 0 (suc (plain bs))) e in
          sym (ap (behind i (b ∷ bs)) z ∙ ap (λ n. frame nested d s sh n (b ∷ bs) 0 es) (add-zero i))
      go false e up =
          let z : plain (b ∷ bs) ≡ suc (plain bs) = ap (λ c. cond c 0 (suc (plain bs))) e in
          let n : i + 1 + plain bs ≡ i + suc (plain bs) = omega arith in
          ap (λ c. by (cond c (dollar sh s i bs) kept)) e
          ∙ ap (λ r. charge 1 ∷ emit (lit b) ∷ r) (up ∙ ap (λ k. bytes (take (plain bs) bs) (frame nested d s sh k (drop (plain bs) bs) 0 es)) n)
          ∙ sym (ap (behind i (b ∷ bs)) z)

module _ (sh : List ℕ → Shape) (most : Limits) where
  abbrev tested : ℕ → ℕ → Rattle.expansion.specs.Walks.Outcome → Rattle.expansion.specs.Walks.Outcome
  tested t k o = cond (ltb most.work (charged t k)) (stopped (charged t k) (ExpansionWorkLimitExceeded (charged t k) most.work) []) o

  -- a piece that was put out before charges might as well be put out after them
  emit_later : (ks : List ℕ) (t : ℕ) (c : Bool) (ps : List Piece) (p : Piece) (es : List Event) → run sh most t c (ps ++ p ∷ []) (charges ks es) ≡ run sh most t c ps (charges ks (emit p ∷ es))
  unfolding run
  emit_later [] t c ps p es = refl
  emit_later (k ∷ ks) t c ps p es = ap (tested t k) (emit_later ks (charged t k) c ps p es)

  run_bytes : (bs : List ℕ) (t : ℕ) (c : Bool) (ps : List Piece) (es : List Event) → run sh most t c ps (bytes bs es) ≡ run sh most t c ps (charges (replicate (length bs) 1) (emits (literal bs) es))
  unfolding run
  run_bytes [] t c ps es = refl
  run_bytes (b ∷ bs) t c ps es =
      ap (tested t 1) (run_bytes bs (charged t 1) c (ps ++ lit b ∷ []) es ∙ emit_later (replicate (length bs) 1) (charged t 1) c ps (lit b) (emits (literal bs) es))

-- a walk that is at these bytes is at their charges, and then at what is put out
pub reach_plain : {means : List ℕ → Option (List ℕ)} {deep : ℕ} {aim : Aim} {left : ℕ} {now : Walk} (nested : ℕ → List ℕ → List Event → List Event) (d : ℕ) (s : PropertySyntax) (i : ℕ) (bs : List ℕ) (es : List Event) (n : ℕ) → n ≡ plain bs
    → Reached means deep aim left (frame nested d s (shapes means) i bs 0 es) now
    → Reached means deep aim left (charges (replicate n 1) (emits (literal (take n bs)) (frame nested d s (shapes means) (i + n) (drop n bs) 0 es))) now
reach_plain {means} {deep} {aim} {left} {now} nested d s i bs es n e r =
    let most : Limits = record { depth = deep; work = now.work.limit } in
    let is = frame_plain nested d s (shapes means) es i bs ∙ ap (behind nested d s (shapes means) es i bs) (sym e) in
    let size : length (take n bs) ≡ n = length-take-le n bs (omega (arith, plain_within bs)) in
    let F = frame nested d s (shapes means) (i + n) (drop n bs) 0 es in
    reach_run (λ t c ps. ap (run (shapes means) most t c ps) is ∙ run_bytes (shapes means) most (take n bs) t c ps F ∙ ap (λ k. run (shapes means) most t c ps (charges (replicate k 1) (emits (literal (take n bs)) F))) size) r
