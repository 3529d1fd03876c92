-- A close in DockerCompose stands on the operator's line, and one is found where any stands there.
use Rattle.std.proofs.Common.{◌≡◌, ℕ, ◌+◌, ◌<◌, true, false, ◌||◌, eqb, ◌⊎◌, List, [], ◌∷◌, ◌++◌, length, take, drop, Some, None, Option, sym, refl, ap, ◌∙◌, subst, inl, inr, ⊎_elim, arith, length-append}
use Rattle.std.proofs.lemmas.Slice.Eq.{bytes_eq-Decides}
use Rattle.std.proofs.lemmas.List.{take-append-drop, take_at, drop_at}
use Rattle.std.proofs.lemmas.Bool.{and_parts, both_ways, cases_Bool, cases_eq, cond-true, cond-false, eqb-true, eq-eqb, ne_eqb, or_cases, or_left, or_right}
use Rattle.std.specs.List.{AllByRecursion}
use Rattle.std.specs.Str.{bytes_eq}
use Rattle.names.specs.declared.PropertySyntax.TheVariants.{DockerCompose}
use Rattle.names.specs.Reads.{name_at}
use Rattle.closes.specs.CloseLaws.{ComposeClose, is_operator}
use Rattle.closes.specs.Compose.{Levels, close_after, close_behind, compose_close, counted, in_text, one_level, seen, text_close, text_turn}
use Rattle.closes.specs.Fronts.{begins, colon_operator, op_len, short_operator}
use Rattle.closes.specs.Search.{ends, goes, found}
use Rattle.closes.proofs.SearchLaws.{turned}

-- What a byte of the text does.
data Step (l : Levels) (i b : ℕ) : Type 0 where
  line_end : b ≡ 10 → text_turn l i b [] ≡ ends l.last → Step l i b
  level_end : b ≡ 125 → text_turn l i b [] ≡ ends (Some i) → Step l i b
  on : (m : Levels) → (b ≡ 10 → ⊥) → text_turn l i b [] ≡ goes m → m.last ≡ seen l.last i b → Step l i b

-- one that counts levels
step_counted : (l : Levels) (i b : ℕ) → (b ≡ 10 → ⊥) → text_turn l i b [] ≡ counted l i b → Step l i b
step_counted l i b h e = go (cases_eq b 125) (cases_eq l.depth 1) (cases_eq b 123)
  where
    go : (b ≡ 125) ⊎ (b ≡ 125 → ⊥) → (l.depth ≡ 1) ⊎ (l.depth ≡ 1 → ⊥) → (b ≡ 123) ⊎ (b ≡ 123 → ⊥) → Step l i b
    go (inl c) (inl z) y = level_end c (e ∙ cond-true _ _ _ (eq-eqb b 125 c) ∙ cond-true _ _ _ (eq-eqb l.depth 1 z))
    go (inl c) (inr z) y =
        let t = eq-eqb b 125 c in
        on _ h (e ∙ cond-true _ _ _ t ∙ cond-false _ _ _ (ne_eqb l.depth 1 z)) (sym (cond-true _ _ _ t))
    go (inr c) z (inl y) =
        let t = ne_eqb b 125 c in
        on _ h (e ∙ cond-false _ _ _ t ∙ cond-true _ _ _ (eq-eqb b 123 y)) (sym (cond-false _ _ _ t))
    go (inr c) z (inr y) =
        let t = ne_eqb b 125 c in
        on _ h (e ∙ cond-false _ _ _ t ∙ cond-false _ _ _ (ne_eqb b 123 y)) (sym (cond-false _ _ _ t))

step : (l : Levels) (i b : ℕ) → Step l i b
step l i b = go (cases_eq b 10) (cases_Bool l.skip)
  where
    go : (b ≡ 10) ⊎ (b ≡ 10 → ⊥) → (l.skip ≡ true) ⊎ (l.skip ≡ false) → Step l i b
    go (inl h) s = line_end h (cond-true _ _ _ (eq-eqb b 10 h))
    go (inr h) (inl s) = on _ h (cond-false _ _ _ (ne_eqb b 10 h) ∙ cond-true _ _ _ s) refl
    go (inr h) (inr s) = step_counted l i b h (cond-false _ _ _ (ne_eqb b 10 h) ∙ cond-false _ _ _ s)

-- The bytes bs begin with a text without a newline, and `}` follows at k; i is the place of the first byte.
record Line (i : ℕ) (bs : List ℕ) (k : ℕ) : Type 0 where
  text : List ℕ
  behind : List ℕ
  whole : bs ≡ text ++ 125 ∷ behind
  line : AllByRecursion (λ b. b ≡ 10 → ⊥) text
  place : k ≡ i + length text

line_here : (i k b : ℕ) (bs : List ℕ) → b ≡ 125 → i ≡ k → Line i (b ∷ bs) k
line_here i k b bs h e = record { text = []; behind = bs; whole = ap (λ (x : ℕ). x ∷ bs) h; line = tt; place = omega arith }

line_on : (i k b : ℕ) (bs : List ℕ) → (b ≡ 10 → ⊥) → Line (i + 1) bs k → Line i (b ∷ bs) k
line_on i k b bs h p =
    record { text = b ∷ p.text; behind = p.behind; whole = ap (λ q. b ∷ q) p.whole; line = (h, p.line); place = omega (arith, p.place) }

-- the latest `}` after a byte
seen_at : (last : Option ℕ) (i b k : ℕ) → seen last i b ≡ Some k → (last ≡ Some k) ⊎ ((b ≡ 125) × (i ≡ k))
seen_at last i b k e = go (cases_eq b 125)
  where
    go : (b ≡ 125) ⊎ (b ≡ 125 → ⊥) → (last ≡ Some k) ⊎ ((b ≡ 125) × (i ≡ k))
    go (inl h) =
        let p : Some i ≡ Some k = sym (cond-true _ _ _ (eq-eqb b 125 h)) ∙ e in
        let same : i ≡ k = cc in
        inr (h, same)
    go (inr h) = inl (sym (cond-false _ _ _ (ne_eqb b 125 h)) ∙ e)

-- what is found is the latest `}` that was seen before, or on the line
text_line : (bs : List ℕ) (l : Levels) (i k : ℕ) → found in_text l i bs ≡ Some k → (l.last ≡ Some k) ⊎ Line i bs k
text_line [] l i k e = inl e
text_line (b ∷ bs) l i k e = go (step l i b) (λ m. text_line bs m (i + 1) k)
  where
    go : Step l i b → ((m : Levels) → found in_text m (i + 1) bs ≡ Some k → (m.last ≡ Some k) ⊎ Line (i + 1) bs k) → (l.last ≡ Some k) ⊎ Line i (b ∷ bs) k
    go (line_end h t) up = inl (sym (turned in_text l i b bs t) ∙ e)
    go (level_end h t) up =
        let p : Some i ≡ Some k = sym (turned in_text l i b bs t) ∙ e in
        let same : i ≡ k = cc in
        inr (line_here i k b bs h same)
    go (on m h t s) up =
        ⊎_elim
        (λ (p : m.last ≡ Some k). ⊎_elim inl (λ (q : (b ≡ 125) × (i ≡ k)). inr (line_here i k b bs q.0 q.1)) (seen_at l.last i b k (sym s ∙ p)))
        (λ (p : Line (i + 1) bs k). inr (line_on i k b bs h p))
        (up m (sym (turned in_text l i b bs t) ∙ e))

-- the byte before a line's rest: `}`, or one of its text
line_parts : (i k b : ℕ) (bs : List ℕ) → Line i (b ∷ bs) k → (b ≡ 125) ⊎ ((b ≡ 10 → ⊥) × Line (i + 1) bs k)
line_parts i k b bs p = go p.text p.whole p.line p.place
  where
    go : (text : List ℕ) → b ∷ bs ≡ text ++ 125 ∷ p.behind → AllByRecursion (λ x. x ≡ 10 → ⊥) text → k ≡ i + length text → (b ≡ 125) ⊎ ((b ≡ 10 → ⊥) × Line (i + 1) bs k)
    go [] e h n = inl (cc)
    go (x ∷ xs) e h n =
        let same : b ≡ x = cc in
        inr (λ z. h.0 (sym same ∙ z), record { text = xs; behind = p.behind; whole = cc; line = h.1; place = omega arith })

-- nothing is found only where no `}` was seen and none stands on the line
text_none : (bs : List ℕ) (l : Levels) (i : ℕ) → found in_text l i bs ≡ None → (l.last ≡ None) × ((k : ℕ) → Line i bs k → ⊥)
text_none [] l i e = (e, λ k p. omega (arith, ap length p.whole, length-append p.text (125 ∷ p.behind)))
text_none (b ∷ bs) l i e = go (step l i b) (λ m. text_none bs m (i + 1))
  where
    go : Step l i b → ((m : Levels) → found in_text m (i + 1) bs ≡ None → (m.last ≡ None) × ((k : ℕ) → Line (i + 1) bs k → ⊥)) → (l.last ≡ None) × ((k : ℕ) → Line i (b ∷ bs) k → ⊥)
    go (line_end h t) up = (
      sym (turned in_text l i b bs t) ∙ e,
      λ k p. ⊎_elim (λ (c : b ≡ 125). omega arith) (λ (q : (b ≡ 10 → ⊥) × Line (i + 1) bs k). q.0 h) (line_parts i k b bs p),
    )
    go (level_end h t) up =
        let p : Some i ≡ None = sym (turned in_text l i b bs t) ∙ e in
        let z : ◌≡◌ {A = ℕ} 0 1 = cc in absurd (omega arith)
    go (on m h t s) up =
        let none = up m (sym (turned in_text l i b bs t) ∙ e) in
        let other : b ≡ 125 → ⊥ = λ c. let p : Some i ≡ None = sym (cond-true _ _ _ (eq-eqb b 125 c)) ∙ (sym s ∙ none.0) in let z : ◌≡◌ {A = ℕ} 0 1 = cc in omega arith in (
          sym (cond-false _ _ _ (ne_eqb b 125 other)) ∙ (sym s ∙ none.0),
          λ k p. ⊎_elim other (λ (q : (b ≡ 10 → ⊥) × Line (i + 1) bs k). none.1 k q.1) (line_parts i k b bs p),
        )

same_bytes : (p q : List ℕ) → bytes_eq p q ≡ true → p ≡ q
same_bytes p q e = (bytes_eq-Decides p q).0 e

-- what holds of three lists holds of one that is the same as one of them
one_of : (P : List ℕ → Type 0) (a b c q : List ℕ) → P a → P b → P c → (bytes_eq a q || (bytes_eq b q || bytes_eq c q)) ≡ true → P q
one_of P a b c q x y z e = go (or_cases (bytes_eq a q) _ e) (or_cases (bytes_eq b q) (bytes_eq c q))
  where
    go : (bytes_eq a q ≡ true) ⊎ ((bytes_eq b q || bytes_eq c q) ≡ true) → ((bytes_eq b q || bytes_eq c q) ≡ true → (bytes_eq b q ≡ true) ⊎ (bytes_eq c q ≡ true)) → P q
    go (inl h) f = subst P (same_bytes a q h) x
    go (inr h) f = ⊎_elim (λ k. subst P (same_bytes b q k) y) (λ k. subst P (same_bytes c q k) z) (f h)

colon_length : (q : List ℕ) → colon_operator q ≡ true → length q ≡ 2
colon_length q e = one_of (λ p. length p ≡ 2) (58 ∷ 45 ∷ []) (58 ∷ 43 ∷ []) (58 ∷ 63 ∷ []) q refl refl refl e

short_length : (q : List ℕ) → short_operator q ≡ true → length q ≡ 1
short_length q e = one_of (λ p. length p ≡ 1) (45 ∷ []) (43 ∷ []) (63 ∷ []) q refl refl refl e

-- a short operator begins no other
short_alone : (q bs : List ℕ) → short_operator q ≡ true → colon_operator (take 2 (q ++ bs)) ≡ false
short_alone q bs e = one_of (λ p. colon_operator (take 2 (p ++ bs)) ≡ false) (45 ∷ []) (43 ∷ []) (63 ∷ []) q refl refl refl e

-- the operator that is found at the front is one
pub operator_at : (bs : List ℕ) → (op_len bs ≡ 0 → ⊥) → (is_operator (take (op_len bs) bs) ≡ true) × (length (take (op_len bs) bs) ≡ op_len bs)
operator_at bs h = go (cases_Bool (colon_operator (take 2 bs))) (cases_Bool (short_operator (take 1 bs)))
  where
    go : (colon_operator (take 2 bs) ≡ true) ⊎ (colon_operator (take 2 bs) ≡ false) → (short_operator (take 1 bs) ≡ true) ⊎ (short_operator (take 1 bs) ≡ false)
        → (is_operator (take (op_len bs) bs) ≡ true) × (length (take (op_len bs) bs) ≡ op_len bs)
    go (inl c) d =
        let two : op_len bs ≡ 2 = cond-true _ _ _ c in
        rw two (or_left (colon_operator (take 2 bs)) (short_operator (take 2 bs)) c, colon_length (take 2 bs) c)
    go (inr c) (inl d) =
        let one : op_len bs ≡ 1 = cond-false _ _ _ c ∙ cond-true _ _ _ d in
        rw one (or_right (colon_operator (take 1 bs)) (short_operator (take 1 bs)) d, short_length (take 1 bs) d)
    go (inr c) (inr d) = absurd (h (cond-false _ _ _ c ∙ cond-false _ _ _ d))

operator_some : (p : List ℕ) → is_operator p ≡ true → 0 < length p
operator_some p h = go (or_cases (colon_operator p) (short_operator p) h)
  where
    go : (colon_operator p ≡ true) ⊎ (short_operator p ≡ true) → 0 < length p
    go (inl c) = omega (arith, colon_length p c)
    go (inr c) = omega (arith, short_length p c)

-- one that stands at the front is found
pub operator_len : (p bs : List ℕ) → is_operator p ≡ true → op_len (p ++ bs) ≡ length p
operator_len p bs h = go (or_cases (colon_operator p) (short_operator p) h)
  where
    go : (colon_operator p ≡ true) ⊎ (short_operator p ≡ true) → op_len (p ++ bs) ≡ length p
    go (inl c) =
        let n = colon_length p c in
        cond-true _ _ _ (ap colon_operator (take_at p bs 2 n) ∙ c) ∙ sym n
    go (inr c) =
        let n = short_length p c in
        cond-false _ _ _ (short_alone p bs c) ∙ cond-true _ _ _ (ap short_operator (take_at p bs 1 n) ∙ c) ∙ sym n

-- a `}` at the front
brace_at : (bs : List ℕ) → begins (125 ∷ []) bs ≡ true → bs ≡ 125 ∷ drop 1 bs
brace_at [] e = absurd (both_ways false refl e)
brace_at (b ∷ bs) e = ap (λ (x : ℕ). x ∷ bs) (sym (eqb-true 125 b (and_parts (eqb 125 b) true e).0))

-- the close behind a name and its rest
module _ (bs name rest : List ℕ) (named : name_at DockerCompose bs ≡ Some (name, rest)) (k : ℕ) where
  -- at once
  brace_close : begins (125 ∷ []) rest ≡ true → close_behind (length name) rest ≡ Some k → ComposeClose bs k
  brace_close b e =
      let here : Some (length name) ≡ Some k = sym (cond-true _ _ _ b) ∙ e in
      let same : length name ≡ k = cc in
      record {
        name = name;
        operator = [];
        text = [];
        behind = drop 1 rest;
        named = named ∙ ap (λ r. Some (name, r)) (brace_at rest b);
        follows = inr (refl, refl);
        line = tt;
        place = omega arith;
      }

  -- in the text of an operator
  operator_close : (op_len rest ≡ 0 → ⊥) → text_close (length name + op_len rest) (drop (op_len rest) rest) ≡ Some k → ComposeClose bs k
  operator_close z e = go (operator_at rest z) (text_line (drop (op_len rest) rest) one_level (length name + op_len rest) k e)
    where
      go : (is_operator (take (op_len rest) rest) ≡ true) × (length (take (op_len rest) rest) ≡ op_len rest) → (None ≡ Some k) ⊎ Line (length name + op_len rest) (drop (op_len rest) rest) k → ComposeClose bs k
      go o (inl h) = let y : ◌≡◌ {A = ℕ} 0 1 = cc in absurd (omega arith)
      go o (inr p) =
          record {
            name = name;
            operator = take (op_len rest) rest;
            text = p.text;
            behind = p.behind;
            named = named ∙ ap (λ r. Some (name, r)) (sym (take-append-drop (op_len rest) rest) ∙ ap (λ q. take (op_len rest) rest ++ q) p.whole);
            follows = inl o.0;
            line = p.line;
            place = omega (arith, p.place, o.1);
          }

  behind_close : close_behind (length name) rest ≡ Some k → ComposeClose bs k
  behind_close e = go (cases_Bool (begins (125 ∷ []) rest)) (cases_eq (op_len rest) 0)
    where
      go : (begins (125 ∷ []) rest ≡ true) ⊎ (begins (125 ∷ []) rest ≡ false) → (op_len rest ≡ 0) ⊎ (op_len rest ≡ 0 → ⊥) → ComposeClose bs k
      go (inl b) z = brace_close b e
      go (inr b) (inl z) =
          let none : None ≡ Some k = sym (cond-false _ _ _ b ∙ cond-true _ _ _ (eq-eqb (op_len rest) 0 z)) ∙ e in
          let y : ◌≡◌ {A = ℕ} 0 1 = cc in
          absurd (omega arith)
      go (inr b) (inr z) = operator_close z (sym (cond-false _ _ _ b ∙ cond-false _ _ _ (ne_eqb (op_len rest) 0 z)) ∙ e)

pub close_line : (bs : List ℕ) (k : ℕ) → compose_close bs ≡ Some k → ComposeClose bs k
close_line bs k e = go (name_at DockerCompose bs) refl e
  where
    go : (o : Option (List ℕ × List ℕ)) → name_at DockerCompose bs ≡ o → close_after o ≡ Some k → ComposeClose bs k
    go None n e = let y : ◌≡◌ {A = ℕ} 0 1 = cc in absurd (omega arith)
    go (Some p) n e = behind_close bs p.0 p.1 n k e

-- a close that stands behind a name has the search find one
module _ (n : ℕ) (operator text behind : List ℕ) (h : close_behind n (operator ++ (text ++ 125 ∷ behind)) ≡ None) where
  no_brace : begins (125 ∷ []) (operator ++ (text ++ 125 ∷ behind)) ≡ true → ⊥
  no_brace b =
      let some : Some n ≡ None = sym (cond-true _ _ _ b) ∙ h in
      let y : ◌≡◌ {A = ℕ} 0 1 = cc in omega arith

  no_line : is_operator operator ≡ true → AllByRecursion (λ b. b ≡ 10 → ⊥) text → begins (125 ∷ []) (operator ++ (text ++ 125 ∷ behind)) ≡ false → ⊥
  no_line o l b =
      let rest = operator ++ (text ++ 125 ∷ behind) in
      let len = operator_len operator (text ++ 125 ∷ behind) o in
      let z : op_len rest ≡ 0 → ⊥ = λ q. omega (arith, len, operator_some operator o) in
      let e = sym (cond-false _ _ _ b ∙ cond-false _ _ _ (ne_eqb (op_len rest) 0 z)) ∙ h in
      (text_none (drop (op_len rest) rest) one_level (n + op_len rest) e).1 (n + op_len rest + length text)
      (record { text = text; behind = behind; whole = drop_at operator _ (op_len rest) (sym len); line = l; place = refl })

pub line_close : (bs : List ℕ) (k : ℕ) → ComposeClose bs k → compose_close bs ≡ None → ⊥
line_close bs k c e = go (cases_Bool (begins (125 ∷ []) rest)) c.follows
  where
    rest : List ℕ
    rest = c.operator ++ (c.text ++ 125 ∷ c.behind)

    h : close_behind (length c.name) rest ≡ None
    h = sym (ap close_after c.named) ∙ e

    go : (begins (125 ∷ []) rest ≡ true) ⊎ (begins (125 ∷ []) rest ≡ false) → (is_operator c.operator ≡ true) ⊎ ((c.operator ≡ []) × (c.text ≡ [])) → ⊥
    go (inl b) f = no_brace (length c.name) c.operator c.text c.behind h b
    go (inr b) (inl o) = no_line (length c.name) c.operator c.text c.behind h o c.line b
    go (inr b) (inr o) =
        both_ways _ b (ap (λ q. begins (125 ∷ []) (q ++ (c.text ++ 125 ∷ c.behind))) o.0 ∙ ap (λ q. begins (125 ∷ []) (q ++ 125 ∷ c.behind)) o.1)
