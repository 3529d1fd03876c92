-- What is written for a replacement. Assumes nothing.
use Rattle.std.proofs.Common.{◌≡◌, ℕ, ◌+◌, ◌-◌, ◌≤◌, true, List, ◌++◌, length, take, drop, sym, ap, ◌∙◌, subst, arith}
use borrow.Rule.Slice.PartMut.{put_mid}
use Rattle.std.proofs.lemmas.List.{append_assoc, drop_at, drop-drop, drop-take, length-append, length-drop, length-take, length-take-le, take-append-le, take_at, take-take}
use Rattle.std.proofs.lemmas.Bool.{cond-true, le-leb}
use Rattle.std.specs.List.{copy_within}
use Rattle.redaction.specs.Redactions.{fitted}
use Rattle.redaction.specs.Redactions.State.{going}
use Rattle.redaction.specs.Splices.{spliced}

pub length_spliced : (at old : ℕ) (new text : List ℕ) → at + old ≤ length text → length (spliced at old new text) ≡ length text - old + length new
length_spliced at old new text part = simp (length-append, length-take, length-drop) (omega arith)

module _ (n m : ℕ) (text : List ℕ) (long : length text ≡ m) where
  -- a text that was written to the front of an area
  pub at_front : m ≤ n → (area rest : List ℕ) → area ≡ text ++ rest → going true (take m area) ≡ fitted n text
  at_front h area rest e =
      ap (λ q. going true (take m q)) e ∙ ap (going true) (take_at text rest m long) ∙ sym (cond-true _ _ _ (le-leb (length text) n (omega arith)))

-- An area X that is open for a new part: before `at` stands what stood there in the text, and from `to` on what stood behind the `old` bytes.
pub record Opened (at old to : ℕ) (text X : List ℕ) : Type 0 where
  pub rest : List ℕ
  pub front : take at X ≡ take at text
  pub tail : drop to X ≡ drop (at + old) text ++ rest

pub opened_same : (at old to : ℕ) {text text' X X' : List ℕ} → text ≡ text' → X ≡ X' → Opened at old to text X → Opened at old to text' X'
opened_same at old to {text} {text'} {X} {X'} e f o = subst (λ t. Opened at old to t X') e (subst (Opened at old to text) f o)

pub filled : (at old k : ℕ) (new text X : List ℕ) → k ≡ length new → (o : Opened at old (at + length new) text X) → put_mid at k X new ≡ spliced at old new text ++ o.rest
filled at old k new text X e o =
    let behind : drop k (drop at X) ≡ drop (at + old) text ++ o.rest = ap (λ j. drop j (drop at X)) e ∙ drop-drop (length new) at X ∙ o.tail in
    ap (λ q. q ++ (new ++ drop k (drop at X))) o.front ∙ ap (λ q. take at text ++ (new ++ q)) behind
    ∙ sym (append_assoc (take at text) (new ++ drop (at + old) text) o.rest ∙ ap (λ q. take at text ++ q) (append_assoc new (drop (at + old) text) o.rest))

-- the text is the first `len` bytes of the area, and its tail was copied to its new place
pub opened_within : (area : List ℕ) (at old len to : ℕ) → at + old ≤ len → len ≤ length area → at ≤ to → to ≤ length area → Opened at old to (take len area) (copy_within area (at + old) len to)
opened_within area at old len to part within low fit =
    let tail : List ℕ = take (len - (at + old)) (drop (at + old) area) in
    let behind : List ℕ = drop (to + (len - (at + old))) area in
    let whole : copy_within area (at + old) len to ≡ take to area ++ (tail ++ behind) = append_assoc (take to area) tail behind in
    let long : length (take to area) ≡ to = length-take-le to area fit in
    let before : at ≤ length (take to area) = omega arith in
    let inside : at ≤ len = omega arith in
    let to_len : len ≡ at + old + (len - (at + old)) = omega arith in
    let cut : drop (at + old) (take len area) ≡ tail = ap (λ n. drop (at + old) (take n area)) to_len ∙ drop-take (at + old) (len - (at + old)) area in
    record {
      rest = behind;
      front = ap (take at) whole ∙ take-append-le at (take to area) (tail ++ behind) before ∙ take-take at to area low ∙ sym (take-take at len area inside);
      tail = ap (drop to) whole ∙ drop_at (take to area) (tail ++ behind) to long ∙ ap (λ q. q ++ behind) (sym cut);
    }

-- the text lies elsewhere, and both parts were copied
pub opened_around : (area text : List ℕ) (at old to j : ℕ) → at ≤ length text → at ≤ to → to ≤ length area → Opened at old to text (put_mid to j (take at text ++ drop at area) (drop (at + old) text))
opened_around area text at old to j inside low fit =
    let Y : List ℕ = take at text ++ drop at area in
    let f : length (take at text) ≡ at = length-take-le at text inside in
    let fits : to ≤ length Y = omega (arith, length-append (take at text) (drop at area), length-drop at area) in
    let long : length (take to Y) ≡ to = length-take-le to Y fits in
    let before : at ≤ length (take to Y) = omega arith in
    let rest : List ℕ = drop j (drop to Y) in
    record {
      rest = rest;
      front = take-append-le at (take to Y) (drop (at + old) text ++ rest) before ∙ take-take at to Y low ∙ take_at (take at text) (drop at area) at f;
      tail = drop_at (take to Y) (drop (at + old) text ++ rest) to long;
    }
