-- An item of a frame, and the first segment of its bytes.
use Rattle.std.proofs.Common.{◌≡◌, ℕ, suc, ◌+◌, ◌≤◌, Bool, true, false, cond, eqb, List, [], ◌∷◌, ◌++◌, length, take, drop, Some, None, Option, sym, refl, ap, ◌∙◌, subst, subst₂, arith, length-append}
use native.Mathlib.Numerals.{add-two}
use Rattle.std.proofs.lemmas.List.{take_at, drop_at}
use Rattle.std.proofs.lemmas.Bool.{both_ways, cond-true, cond-false, eqb-true, eqb-false, ne_eqb, true≢false}
use Rattle.names.specs.declared.PropertySyntax.{PropertySyntax}
use Rattle.names.specs.declared.PropertySyntax.TheVariants.{Braced, BracedOrBare, DockerCompose}
use Rattle.names.specs.Glyphs.{glyphs}
use Rattle.names.specs.Reads.{name_at, name_looks}
use Rattle.names.proofs.ReadLaws.{named}
use Rattle.closes.specs.Closes.{close}
use Rattle.closes.proofs.CloseLaws.{Split, close_split}
use Rattle.source.specs.Shapes.{Shape}
use Rattle.references.specs.declared.error.PropertyError.{PropertyError}
use Rattle.references.specs.Operators.{Op, plain, operated, op_at, Yield}
use Rattle.references.specs.Braces.{unclosed, reference, brace, with_close, with_name, with_op}
use Rattle.references.specs.Reads.{word_len}
use Rattle.references.proofs.BraceLaws.{op_fits}
use Rattle.items.specs.Pieces.{Piece, lit}
use Rattle.items.specs.Items.{Act, keep, replace, refuse, Item, item, allows_bare, bare_act, bare_item, bare_more, brace_act, brace_more, braced_item, dollar, op_act, plain_act, second}
use Rattle.expansion.specs.Laws.{replaces}
use Rattle.expansion.specs.Segments.{Itself, other, last, unclosed as not_closed, nameless, Refers, in_braces, bare, yields, word_of, Segments, itself, escaped, valued, omitted, copied, walked}
use Rattle.expansion.proofs.ActLaws.{Plain, Yields, kept, made, Does, does, does_segment, yields_value, yields_nothing, yields_laid, yields_nested, act_word, Mild, does_word, does_mild, does_replaces}

-- What an item is, by its byte and the bytes behind it: its act, and how many further bytes it takes.
data Seen (sh : List ℕ → Shape) (s : PropertySyntax) : ℕ → List ℕ → Act → ℕ → Type 0 where
  keeps : {b : ℕ} {bs : List ℕ} → Itself s b bs → Seen sh s b bs (keep b) 0
  escapes : {bs : List ℕ} → Seen sh s 36 (36 ∷ bs) (replace (lit 36 ∷ [])) 1
  refers : {bs name behind : List ℕ} {op : Op} {a : Act} (k : ℕ) → Refers s bs name op behind → drop k bs ≡ behind → Does name (word_of op) (yields s op (sh name)) a → Seen sh s 36 bs a k
  refused : {bs : List ℕ} (k : ℕ) (e : PropertyError) → Plain e → Seen sh s 36 bs (refuse e) k

abbrev Sees : (List ℕ → Shape) → PropertySyntax → ℕ → List ℕ → Item → Type 0
Sees sh s b bs it = Seen sh s b bs it.act it.more

-- `${` without a close
seen_unclosed : (sh : List ℕ → Shape) (s : PropertySyntax) (i : ℕ) (bs : List ℕ) → close s bs ≡ None → Seen sh s 36 (123 ∷ bs) (brace_act sh s i (length bs) unclosed) 0
seen_unclosed sh Braced i bs e = keeps (not_closed (λ h. let z : ◌≡◌ {A = ℕ} 0 1 = cc in omega arith) e)
seen_unclosed sh BracedOrBare i bs e = keeps (not_closed (λ h. let z : ◌≡◌ {A = ℕ} 0 1 = cc in omega arith) e)
seen_unclosed sh DockerCompose i bs e = refused 0 _ tt

-- the bytes behind a close
past : (front behind : List ℕ) → drop (suc (length front)) (front ++ 125 ∷ behind) ≡ behind
past [] behind = refl
past (b ∷ front) behind = past front behind

past_close : (k : ℕ) (front behind : List ℕ) → k ≡ length front → drop (k + 2) (123 ∷ (front ++ 125 ∷ behind)) ≡ behind
past_close k front behind e = ap (λ n. drop n (123 ∷ (front ++ 125 ∷ behind))) (add-two k) ∙ ap (λ n. drop (suc n) (front ++ 125 ∷ behind)) e ∙ past front behind

-- a reference by its close
refers_at : {s : PropertySyntax} (bs name rest : List ℕ) (k : ℕ) (op : Op) → (c : Split bs k) → close s bs ≡ Some k → name_at s (take k bs) ≡ Some (name, rest) → op_at rest ≡ Some op
    → Refers s (123 ∷ bs) name op c.behind
refers_at {s} bs name rest k op c e f g =
    let body : take k bs ≡ c.front = ap (take k) c.whole ∙ take_at c.front (125 ∷ c.behind) k (sym c.place) in
    let closed : close s (c.front ++ 125 ∷ c.behind) ≡ Some (length c.front) = sym (ap (close s) c.whole) ∙ e ∙ ap Some c.place in
    subst (λ q. Refers s (123 ∷ q) name op c.behind) (sym c.whole) (in_braces c.front rest closed (sym (ap (name_at s) body) ∙ f) g)

module _ (sh : List ℕ → Shape) (s : PropertySyntax) (i : ℕ) where
  seen_closed : (bs : List ℕ) (k : ℕ) → close s bs ≡ Some k → (o : Option (List ℕ × List ℕ)) → name_at s (take k bs) ≡ o
      → Seen sh s 36 (123 ∷ bs) (brace_act sh s i (length bs) (with_name k o)) (brace_more sh s (with_name k o))
  seen_closed bs k e None f = refused _ _ tt
  seen_closed bs k e (Some p) f = by_op (op_at p.1) refl
    where
      by_op : (o : Option Op) → op_at p.1 ≡ o → Seen sh s 36 (123 ∷ bs) (brace_act sh s i (length bs) (with_op k p.0 o)) (brace_more sh s (with_op k p.0 o))
      by_op None g = refused _ _ tt
      by_op (Some op) g =
          let c = close_split s bs k e in
          refers (k + 2) (refers_at bs p.0 p.1 k op c e f g) (ap (λ q. drop (k + 2) (123 ∷ q)) c.whole ∙ past_close k c.front c.behind c.place)
          (does s (sh p.0) (i + 2) (i + 2 + k) p.0 op)

  seen_braced : (bs : List ℕ) → Sees sh s 36 (123 ∷ bs) (braced_item sh s i bs)
  seen_braced bs = go (close s bs) refl
    where
      go : (o : Option ℕ) → close s bs ≡ o → Seen sh s 36 (123 ∷ bs) (brace_act sh s i (length bs) (with_close s bs o)) (brace_more sh s (with_close s bs o))
      go None e = seen_unclosed sh s i bs e
      go (Some k) e = seen_closed bs k e (name_at s (take k bs)) refl

  seen_bare : (b : ℕ) (bs : List ℕ) → (b ≡ 36 → ⊥) → (b ≡ 123 → ⊥) → Sees sh s 36 (b ∷ bs) (bare_item sh s i (b ∷ bs))
  seen_bare b bs g h = go (allows_bare s) (name_at s (b ∷ bs)) refl refl
    where
      go : (t : Bool) (o : Option (List ℕ × List ℕ)) → allows_bare s ≡ t → name_at s (b ∷ bs) ≡ o
          → Sees sh s 36 (b ∷ bs) (cond t (record { looks = name_looks s (b ∷ bs); act = bare_act sh s i o; more = bare_more sh s o }) (record { looks = []; act = keep 36; more = 0 }))
      go true None e f = keeps (nameless g h (λ x. f))
      go true (Some p) e f =
          let n = named s (b ∷ bs) p (sym f) in
          refers (length p.0) (bare e f) (ap (drop (length p.0)) n.whole ∙ drop_at p.0 p.1 (length p.0) refl) (does s (sh p.0) (i + 1) 0 p.0 plain)
      go false o e f = keeps (nameless g h (λ x. absurd (both_ways (allows_bare s) e x)))

  seen_dollar : (bs : List ℕ) → Sees sh s 36 bs (dollar sh s i bs)
  seen_dollar [] = keeps last
  seen_dollar (b ∷ bs) = go (eqb b 36) (eqb b 123) refl refl
    where
      go : (t v : Bool) → eqb b 36 ≡ t → eqb b 123 ≡ v
          → Sees sh s 36 (b ∷ bs) (cond t (second (record { looks = []; act = replace (lit 36 ∷ []); more = 1 })) (cond v (second (braced_item sh s i bs)) (second (bare_item sh s i (b ∷ bs)))))
      go true v e f = subst (λ c. Seen sh s 36 (c ∷ bs) (replace (lit 36 ∷ [])) 1) (sym (eqb-true b 36 e)) escapes
      go false true e f = subst (λ c. Sees sh s 36 (c ∷ bs) (braced_item sh s i bs)) (sym (eqb-true b 123 f)) (seen_braced bs)
      go false false e f = seen_bare b bs (eqb-false b 36 e) (eqb-false b 123 f)

  seen : (b : ℕ) (bs : List ℕ) → Sees sh s b bs (item sh s i b bs)
  unfolding item
  seen b bs = go (eqb b 36) refl
    where
      go : (t : Bool) → eqb b 36 ≡ t → Sees sh s b bs (cond t (dollar sh s i bs) (record { looks = 1 ∷ []; act = keep b; more = 0 }))
      go true e = subst (λ c. Sees sh s c bs (dollar sh s i bs)) (sym (eqb-true b 36 e)) (seen_dollar bs)
      go false e = keeps (other (eqb-false b 36 e))

joined : {sh : List ℕ → Shape} {s : PropertySyntax} {b k : ℕ} {bs : List ℕ} {a : Act} {xs ys : List Piece} → Seen sh s b bs a k → Yields sh s a xs → Segments sh s (drop k bs) ys
    → Segments sh s (b ∷ bs) (xs ++ ys)
joined (keeps h) kept g = itself h g
joined escapes made g = escaped g
joined {sh} {s} {ys = ys} (refers k r e d) y g = does_segment r refl d y (subst (λ q. Segments sh s q ys) e g)
joined (refused k e h) y g = elim y [ ]

-- a reference has its word, and the bytes behind it
pub refers_word : {s : PropertySyntax} {bs name behind : List ℕ} {op : Op} → Refers s bs name op behind → word_len op + length behind ≤ length bs
refers_word {s} {bs} {name} {behind} {op} (in_braces body rest e f g) =
    let n = named s body (name, rest) (sym f) in
    omega (arith, op_fits rest op (sym g), n.fills, length-append body (125 ∷ behind))
refers_word {s} {bs} {name} {behind} (bare e f) = let n = named s bs (name, behind) (sym f) in omega (arith, n.fills)

pub word_fits : (op : Op) → length (word_of op) ≤ word_len op
word_fits plain = omega arith
word_fits (operated o colon w) = omega arith

-- An item that is no replacement: its byte stands for itself.
pub record Kept (s : PropertySyntax) (b : ℕ) (bs : List ℕ) (k : ℕ) (xs : List Piece) : Type 0 where
  pub itself : Itself s b bs
  pub more : k ≡ 0
  pub pieces : xs ≡ lit b ∷ []

module _ {sh : List ℕ → Shape} {s : PropertySyntax} where
  seen_word : {b k : ℕ} {bs : List ℕ} {a : Act} → Seen sh s b bs a k → length (act_word a) ≤ length bs
  seen_word (keeps h) = omega arith
  seen_word escapes = omega arith
  seen_word (refers {op = op} k r e d) = omega (arith, refers_word r, does_word d, word_fits op)
  seen_word (refused k e h) = omega arith

  seen_mild : {b k : ℕ} {bs : List ℕ} {a : Act} → Seen sh s b bs a k → Mild a
  seen_mild (keeps h) = tt
  seen_mild escapes = tt
  seen_mild (refers k r e d) = does_mild d
  seen_mild (refused k e h) = h

  seen_kept : {b k : ℕ} {bs : List ℕ} {a : Act} {xs : List Piece} → Seen sh s b bs a k → Yields sh s a xs → replaces a ≡ false → Kept s b bs k xs
  seen_kept (keeps h) kept e = record { itself = h; more = refl; pieces = refl }
  seen_kept escapes y e = absurd (true≢false e)
  seen_kept {a = a} (refers k r f d) y e = absurd (both_ways (replaces a) e (does_replaces d y))
  seen_kept (refused k e h) y f = elim y [ ]

module _ (sh : List ℕ → Shape) (s : PropertySyntax) (i b : ℕ) (bs : List ℕ) where
  -- an item with what it yields, and the segments behind it
  pub item_segments : {xs ys : List Piece} → Yields sh s (item sh s i b bs).act xs → Segments sh s (drop (item sh s i b bs).more bs) ys → Segments sh s (b ∷ bs) (xs ++ ys)
  item_segments y g = joined (seen sh s i b bs) y g

  -- selected text is shorter than what selects it
  pub item_word : length (act_word (item sh s i b bs).act) ≤ length bs
  item_word = seen_word (seen sh s i b bs)

  pub item_mild : Mild (item sh s i b bs).act
  item_mild = seen_mild (seen sh s i b bs)

  pub item_kept : {xs : List Piece} → Yields sh s (item sh s i b bs).act xs → replaces (item sh s i b bs).act ≡ false → Kept s b bs (item sh s i b bs).more xs
  item_kept y e = seen_kept (seen sh s i b bs) y e

-- An item by its first segment.
pub record Is (it : Item) (bs : List ℕ) (a : Act) (behind : List ℕ) : Type 0 where
  pub act : it.act ≡ a
  pub more : drop it.more bs ≡ behind

-- no name begins with `$` or `{`
no_name : (s : PropertySyntax) (bs : List ℕ) → (name_at s (36 ∷ bs) ≡ None) × (name_at s (123 ∷ bs) ≡ None)
unfolding glyphs
no_name Braced bs = (refl, refl)
no_name BracedOrBare bs = (refl, refl)
no_name DockerCompose bs = (refl, refl)

named_not : (s : PropertySyntax) (b c : ℕ) (bs : List ℕ) (p : List ℕ × List ℕ) → name_at s (c ∷ bs) ≡ None → name_at s (b ∷ bs) ≡ Some p → b ≡ c → ⊥
named_not s b c bs p e f g = let h = ap (λ x. name_at s (x ∷ bs)) g in let z : ◌≡◌ {A = ℕ} 0 1 = cc in omega arith

module _ (sh : List ℕ → Shape) (i : ℕ) where
  is_open : (s : PropertySyntax) (bs : List ℕ) → (s ≡ DockerCompose → ⊥) → close s bs ≡ None → ((braced_item sh s i bs).act ≡ keep 36) × ((braced_item sh s i bs).more ≡ 0)
  is_open Braced bs h e = (ap (λ o. brace_act sh Braced i (length bs) (with_close Braced bs o)) e, ap (λ o. brace_more sh Braced (with_close Braced bs o)) e)
  is_open BracedOrBare bs h e = (ap (λ o. brace_act sh BracedOrBare i (length bs) (with_close BracedOrBare bs o)) e, ap (λ o. brace_more sh BracedOrBare (with_close BracedOrBare bs o)) e)
  is_open DockerCompose bs h e = absurd (h refl)

  -- a byte other than `$`
  pub item_other : (s : PropertySyntax) (b : ℕ) (bs : List ℕ) → (b ≡ 36 → ⊥) → item sh s i b bs ≡ record { looks = 1 ∷ []; act = keep b; more = 0 }
  unfolding item
  item_other s b bs g = cond-false (eqb b 36) _ _ (ne_eqb b 36 g)

  is_bare : (s : PropertySyntax) (b : ℕ) (bs : List ℕ) → (b ≡ 36 → ⊥) → (b ≡ 123 → ⊥) → item sh s i 36 (b ∷ bs) ≡ second (bare_item sh s i (b ∷ bs))
  unfolding item
  is_bare s b bs g h = cond-false (eqb b 36) _ _ (ne_eqb b 36 g) ∙ cond-false (eqb b 123) _ _ (ne_eqb b 123 h)

  -- where no name stands bare
  nameless_item : PropertySyntax → List ℕ → Item
  nameless_item s bs = record { looks = cond (allows_bare s) (name_looks s bs) []; act = keep 36; more = 0 }

  is_nameless : (s : PropertySyntax) (bs : List ℕ) → (allows_bare s ≡ true → name_at s bs ≡ None) → bare_item sh s i bs ≡ nameless_item s bs
  unfolding nameless_item
  is_nameless Braced bs f = refl
  is_nameless BracedOrBare bs f = ap (λ o. record { looks = name_looks BracedOrBare bs; act = bare_act sh BracedOrBare i o; more = bare_more sh BracedOrBare o }) (f refl)
  is_nameless DockerCompose bs f = ap (λ o. record { looks = name_looks DockerCompose bs; act = bare_act sh DockerCompose i o; more = bare_more sh DockerCompose o }) (f refl)

  pub item_itself : {s : PropertySyntax} {b : ℕ} {bs : List ℕ} → Itself s b bs → ((item sh s i b bs).act ≡ keep b) × ((item sh s i b bs).more ≡ 0)
  unfolding item nameless_item
  item_itself {s} {b} {bs} (other g) = let e = item_other s b bs g in (ap (λ it. it.act) e, ap (λ it. it.more) e)
  item_itself last = (refl, refl)
  item_itself {s} (not_closed {bs = bs} h e) = is_open s bs h e
  item_itself {s} (nameless {b = b} {bs = bs} g h f) = let e = is_bare s b bs g h ∙ ap second (is_nameless s (b ∷ bs) f) in (ap (λ it. it.act) e, ap (λ it. it.more) e)

  -- where a name stands bare
  is_named : (s : PropertySyntax) (bs : List ℕ) (p : List ℕ × List ℕ) → allows_bare s ≡ true → name_at s bs ≡ Some p → Is (item sh s i 36 bs) bs (plain_act s (sh p.0) (i + 1) p.0) p.1
  is_named s [] p e f = let n = named s [] p (sym f) in absurd (omega (arith, n.some, n.fills))
  is_named s (b ∷ bs) p e f =
      let n = named s (b ∷ bs) p (sym f) in
      let whole = is_bare s b bs (named_not s b 36 bs p (no_name s bs).0 f) (named_not s b 123 bs p (no_name s bs).1 f)
      ∙ ap second (cond-true (allows_bare s) _ _ e)
      ∙ ap (λ o. second (record { looks = name_looks s (b ∷ bs); act = bare_act sh s i o; more = bare_more sh s o })) f in
      record {
        act = ap (λ it. it.act) whole;
        more = ap (λ it. drop it.more (b ∷ bs)) whole ∙ ap (drop (length p.0)) n.whole ∙ drop_at p.0 p.1 (length p.0) refl;
      }

  -- where a reference stands in braces
  pub is_braced : (s : PropertySyntax) (name behind : List ℕ) (op : Op) (body rest : List ℕ)
      → close s (body ++ 125 ∷ behind) ≡ Some (length body) → name_at s body ≡ Some (name, rest) → op_at rest ≡ Some op
      → Is (item sh s i 36 (123 ∷ (body ++ 125 ∷ behind))) (123 ∷ (body ++ 125 ∷ behind)) (op_act s (sh name) (i + 2) name (i + 2 + length body) op) behind
  unfolding item
  is_braced s name behind op body rest e f g =
      let front = take_at body (125 ∷ behind) (length body) refl in
      let whole : brace s (body ++ 125 ∷ behind) ≡ reference (length body) name op
      = ap (with_close s (body ++ 125 ∷ behind)) e ∙ ap (λ q. with_name (length body) (name_at s q)) front ∙ ap (with_name (length body)) f ∙ ap (with_op (length body) name) g in
      record {
        act = ap (brace_act sh s i (length (body ++ 125 ∷ behind))) whole;
        more = ap (λ o. drop (brace_more sh s o) (123 ∷ (body ++ 125 ∷ behind))) whole ∙ past_close (length body) body behind refl;
      }

  is_refers : {s : PropertySyntax} {bs name behind : List ℕ} {op : Op} {y : Yield} → Refers s bs name op behind → yields s op (sh name) ≡ y
      → Does name (word_of op) y (item sh s i 36 bs).act × (drop (item sh s i 36 bs).more bs ≡ behind)
  is_refers {s} {name = name} {behind = behind} {op = op} (in_braces body rest e f g) h =
      let p = is_braced s name behind op body rest e f g in
      (subst₂ (Does name (word_of op)) h (sym p.act) (does s (sh name) (i + 2) (i + 2 + length body) name op), p.more)
  is_refers {s} (bare {bs = bs} {name = name} {behind = behind} e f) h =
      let p = is_named s bs (name, behind) e f in
      (subst₂ (Does name []) h (sym p.act) (does s (sh name) (i + 1) 0 name plain), p.more)

-- The first segment of bytes, as an item with what it yields, and the segments behind it.
pub record First (sh : List ℕ → Shape) (s : PropertySyntax) (it : Item) (bs : List ℕ) (ps : List Piece) : Type 0 where
  pub front : List Piece
  pub others : List Piece
  pub whole : ps ≡ front ++ others
  pub first : Yields sh s it.act front
  pub rest : Segments sh s (drop it.more bs) others

module _ {sh : List ℕ → Shape} {s : PropertySyntax} where
  first_is : {it : Item} {bs behind : List ℕ} {xs ys : List Piece} → Yields sh s it.act xs → drop it.more bs ≡ behind → Segments sh s behind ys → First sh s it bs (xs ++ ys)
  first_is {xs = xs} {ys = ys} y e g = record { front = xs; others = ys; whole = refl; first = y; rest = subst (λ q. Segments sh s q ys) (sym e) g }

  pub split : {b : ℕ} {bs : List ℕ} {ps : List Piece} (i : ℕ) → Segments sh s (b ∷ bs) ps → First sh s (item sh s i b bs) bs ps
  unfolding item
  split i (itself {b = b} {bs = bs} h g) = let p = item_itself sh i h in first_is (subst (λ a. Yields sh s a (lit b ∷ [])) (sym p.0) kept) (ap (λ k. drop k bs) p.1) g
  split i (escaped g) = first_is made refl g
  split i (valued r e g) = let p = is_refers sh i r e in first_is (yields_value p.0) p.1 g
  split i (omitted r e g) = let p = is_refers sh i r e in first_is (yields_nothing p.0) p.1 g
  split i (copied r e f g) = let p = is_refers sh i r e in first_is (yields_laid p.0 f) p.1 g
  split i (walked r e f h g) = let p = is_refers sh i r e in first_is (yields_nested p.0 f h) p.1 g
