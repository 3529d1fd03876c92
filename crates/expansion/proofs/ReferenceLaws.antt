-- The walk over one written reference.
use Rattle.std.proofs.Common.{◌≡◌, ℕ, zero, suc, ◌+◌, ◌-◌, ◌^◌, ◌≤◌, Bool, true, false, ◌||◌, eqb, List, [], ◌∷◌, ◌++◌, length, drop, Some, sym, refl, ap, ◌∙◌, append-nil, arith}
use lib.Utf8.{encodes}
use Rattle.std.proofs.lemmas.Bool.{and_left, cond-false, ne_eqb}
use Rattle.budget.specs.Charges.{charged}
use Rattle.names.specs.declared.PropertySyntax.{PropertySyntax}
use Rattle.names.specs.declared.PropertySyntax.TheVariants.{Braced, BracedOrBare, DockerCompose}
use Rattle.source.specs.Shapes.{Shape, unset, empty, filled, shape, shapes, bytes_of}
use Rattle.references.specs.Operators.{Operator, Op, plain, operated, Yield, value, nothing, word, refusal, posix}
use Rattle.items.specs.Pieces.{literal, literals, shows}
use Rattle.items.specs.Items.{Act, Item, item, expands, expands_here, inner, op_act, plain_act, span, yield_act}
use Rattle.expansion.specs.Events.{Event, message, selected, explained, acts, frame, trace, events}
use Rattle.expansion.specs.Walks.{Limits, stopped, missing, shown, run, walk}
use Rattle.expansion.specs.Segments.{plain_yield, word_of, yields}
use Rattle.expansion.specs.References.{written_op, Simple, comes_to, text_of, Operators, ValuesCopied}
use Rattle.expansion.proofs.ItemLaws.{Is, is_braced}
use Rattle.expansion.proofs.EndLaws.{run_emits}
use Rattle.expansion.proofs.SegmentLaws.{run_charge, run_charges}
use Rattle.expansion.proofs.WrittenLaws.{reads}

-- a simple word is not walked
simple_here : (s : PropertySyntax) (b : ℕ) (bs : List ℕ) → (b ≡ 36 → ⊥) → expands_here s b bs ≡ false
simple_here Braced b bs h = and_left (eqb 36 b) _ (ne_eqb 36 b (λ e. h (sym e)))
simple_here BracedOrBare b bs h = and_left (eqb 36 b) _ (ne_eqb 36 b (λ e. h (sym e)))
simple_here DockerCompose b bs h = and_left (eqb b 36) _ (ne_eqb b 36 h)

simple_word : (s : PropertySyntax) (w : List ℕ) → Simple s w → expands s w ≡ false
simple_word s [] h = refl
simple_word s (b ∷ bs) h = ap (λ x. x || expands s bs) (simple_here s b bs h.0.0) ∙ simple_word s bs h.1

-- a message without values is shown as it is
no_values : (sh : List ℕ → Shape) (w : List ℕ) → shows sh (literal w) ≡ false
no_values sh [] = refl
no_values sh (b ∷ bs) = no_values sh bs

literals_literal : (w : List ℕ) → literals (literal w) ≡ w
literals_literal [] = refl
literals_literal (b ∷ bs) = ap (λ q. b ∷ q) (literals_literal bs)

shown_literal : (sh : List ℕ → Shape) (w : List ℕ) → shown sh w (literal w) ≡ w
shown_literal sh w = cond-false _ _ _ (no_values sh w) ∙ literals_literal w

module _ (sh : List ℕ → Shape) (most : Limits) (roomy : 2 ^ 64 - 1 ≤ most.work) (walk_in : ℕ → List ℕ → List Event → List Event) where
  plain_comes : (s : PropertySyntax) (u : ℕ) (name : List ℕ) (v : Shape) → run sh most u false [] (acts walk_in 1 s (plain_act s v 2 name) []) ≡ comes_to u name v plain (plain_yield s v)
  unfolding run
  plain_comes Braced u name unset = refl
  plain_comes BracedOrBare u name unset = refl
  plain_comes DockerCompose u name unset = refl
  plain_comes s u name empty = refl
  plain_comes s u name filled = refl

  module _ (s : PropertySyntax) (t at : ℕ) (name w : List ℕ) (simple : expands s w ≡ false) where
    abbrev after : ℕ
    after = charged t (length w)

    word_comes : (o : Operator) (colon : Bool) (v : Shape) (y : Yield)
        → (u : ℕ) × (run sh most t false [] (acts walk_in 1 s (yield_act y v 2 name at w) []) ≡ comes_to u name v (operated o colon w) y)
    unfolding run
    word_comes o colon v value = (t, refl)
    word_comes o colon v nothing = (t, refl)
    word_comes o colon v word = (
      after,
      run_charge sh most roomy (length w) t false [] (selected walk_in 1 s (expands s w) at w [])
          ∙ ap (λ b. run sh most after false [] (selected walk_in 1 s b at w [])) simple
          ∙ run_emits sh most (literal w) after true [] [],
    )
    word_comes o colon v refusal =
        let told : Event = message v (span 2 (length name)) w in (
          after,
          run_charge sh most roomy (length w) t false [] (explained walk_in 1 s (expands s w) at w (told ∷ []))
              ∙ ap (λ b. run sh most after false [] (explained walk_in 1 s b at w (told ∷ []))) simple
              ∙ run_emits sh most (literal w) after false [] (told ∷ [])
              ∙ ap (λ q. stopped after (missing v (span 2 (length name)) (length q)) q) (shown_literal sh w),
        )

  op_comes : (s : PropertySyntax) (t at : ℕ) (name : List ℕ) (v : Shape) (op : Op) → Simple s (word_of op)
      → (u : ℕ) × (run sh most t false [] (acts walk_in 1 s (op_act s v 2 name at op) []) ≡ comes_to u name v op (yields s op v))
  op_comes s t at name v plain h = (t, plain_comes s t name v)
  op_comes s t at name v (operated o colon w) h = word_comes s t (at - length w) name w (simple_word s w h) o colon v (posix o colon v)

-- the events behind the last item
frame_past : (walk_in : ℕ → List ℕ → List Event → List Event) (d : ℕ) (s : PropertySyntax) (sh : List ℕ → Shape) (i : ℕ) (bs : List ℕ) (k : ℕ) (es : List Event)
    → drop k bs ≡ [] → frame walk_in d s sh i bs k es ≡ es
unfolding frame
frame_past walk_in d s sh i [] k es h = refl
frame_past walk_in d s sh i (b ∷ bs) zero es h = absurd (omega (arith, ap length h))
frame_past walk_in d s sh i (b ∷ bs) (suc k) es h = frame_past walk_in d s sh (i + 1) bs k es h

-- a text that is one item
walk_one : (sh : List ℕ → Shape) (s : PropertySyntax) (most : Limits) (t : ℕ) (bs : List ℕ) (a : Act) → 2 ^ 64 - 1 ≤ most.work → Is (item sh s 0 36 bs) bs a []
    → (v : ℕ) × (walk sh s most t (36 ∷ bs) ≡ run sh most v false [] (acts (λ at w rest. trace (length bs) 2 sh (inner s) at w rest) 1 s a []))
unfolding walk events trace frame
walk_one sh s most t bs a roomy is =
    let it : Item = item sh s 0 36 bs in
    let walk_in : ℕ → List ℕ → List Event → List Event = λ at w rest. trace (length bs) 2 sh (inner s) at w rest in
    let behind = frame walk_in 1 s sh 1 bs it.more [] in
    let paid = run_charges sh most roomy it.looks (charged t 1) false [] (acts walk_in 1 s it.act behind) in (
      paid.0,
      run_charge sh most roomy 1 t false [] (trace (suc (length bs)) 1 sh s 0 (36 ∷ bs) [])
          ∙ paid.1
          ∙ ap (λ es. run sh most paid.0 false [] (acts walk_in 1 s it.act es)) (frame_past walk_in 1 s sh 1 bs it.more [] is.more)
          ∙ ap (λ x. run sh most paid.0 false [] (acts walk_in 1 s x [])) is.act,
    )

pub operators : Operators
operators sh s most t cs op h g free =
    let r = reads s cs op h g in
    let body = encodes cs ++ written_op op in
    let one = walk_one sh s most t (123 ∷ (body ++ 125 ∷ [])) _ free.work (is_braced sh 0 s (encodes cs) [] op body (written_op op) r.closed r.named r.formed) in
    let p = op_comes sh most free.work _ s one.0 (0 + 2 + length body) (encodes cs) (sh (encodes cs)) op g in
    (p.0, one.1 ∙ p.1)

-- a name that is set yields its value
set_value : (s : PropertySyntax) (bytes : List ℕ) → plain_yield s (shape (Some bytes)) ≡ value
set_value s [] = refl
set_value s (b ∷ bytes) = refl

pub values_copied : ValuesCopied
values_copied m s most t cs bytes h e free =
    let name = encodes cs in
    let p = operators (shapes m) s most t cs plain h tt free in
    let valued : plain_yield s (shape (m name)) ≡ value = ap (λ o. plain_yield s (shape o)) e ∙ set_value s bytes in
    ap (text_of m) (p.1 ∙ ap (comes_to p.0 name (shape (m name)) plain) valued) ∙ ap (λ o. Some (bytes_of o ++ [])) e ∙ ap Some (append-nil bytes)
