-- A written reference is read as what it is: its name, its operator and its close.
use Rattle.std.proofs.Common.{◌≡◌, ℕ, suc, ◌+◌, ◌<◌, Bool, true, false, eqb, List, [], ◌∷◌, ◌++◌, map, length, drop, Some, None, Option, sym, refl, ap, ◌∙◌, subst, inl, inr, append_assoc, append-nil, arith, length-append}
use lib.Utf8.{encode, encodes, scalar, scalars}
use Rattle.std.proofs.ByRecursion.{All-append, All-weaker}
use Rattle.std.proofs.lemmas.List.{take_at, drop_at}
use Rattle.std.proofs.lemmas.Bool.{and_from, and_left, and_parts, cond-true, cond-false, lt-ltb, ne_eqb, or_left}
use Rattle.std.proofs.lemmas.Str.{length-encode, len_utf8_bounds}
use Rattle.std.proofs.lemmas.Bool.Decides.{nat_tests}
use Rattle.std.specs.Char.{len_utf8}
use Rattle.std.specs.List.{AllByRecursion}
use Rattle.names.specs.declared.PropertySyntax.{PropertySyntax}
use Rattle.names.specs.declared.PropertySyntax.TheVariants.{Braced, BracedOrBare, DockerCompose}
use Rattle.names.specs.Glyphs.{first, glyphs, wide}
use Rattle.names.specs.Names.{continues, extends, name_end, starts}
use Rattle.names.specs.NameLaws.{all_continue, is_name}
use Rattle.names.specs.Reads.{name_at, parts}
use Rattle.names.proofs.GlyphLaws.{first_of}
use Rattle.names.proofs.TextLaws.{glyph_encode}
use Rattle.closes.specs.Braced.{braced_close}
use Rattle.closes.specs.Compose.{compose_close}
use Rattle.closes.specs.Closes.{close}
use Rattle.closes.specs.CloseLaws.{Body, empty, plain as balanced, ComposeClose, is_operator}
use Rattle.closes.proofs.BodyLaws.{body_close}
use Rattle.closes.proofs.LineLaws.{close_line, line_close}
use Rattle.references.specs.Operators.{Operator, default, alternate, error, Op, plain, operated, op_at}
use Rattle.expansion.specs.Segments.{word_of}
use Rattle.expansion.specs.References.{symbol, written_op, Simple}

-- what stands between the braces
abbrev body : List ℕ → Op → List ℕ
body cs op = encodes cs ++ written_op op

-- the characters of a name are scalar values
name_scalar : (s : PropertySyntax) (c : ℕ) → continues s c ≡ true → scalar c ≡ true
name_scalar Braced c h = grind (arith, nat_tests)
name_scalar BracedOrBare c h = grind (arith, nat_tests)
name_scalar DockerCompose c h = grind (arith, nat_tests)

name_scalars : (s : PropertySyntax) (cs : List ℕ) → all_continue s cs ≡ true → scalars cs ≡ true
name_scalars s [] h = refl
name_scalars s (c ∷ cs) h = let p = and_parts (continues s c) _ h in and_from (scalar c) _ (name_scalar s c p.0) (name_scalars s cs p.1)

name_continues : (s : PropertySyntax) (cs : List ℕ) → is_name s cs ≡ true → all_continue s cs ≡ true
name_continues s [] h = refl
name_continues s (c ∷ cs) h = let p = and_parts (starts s c) _ h in and_from (continues s c) _ (or_left (starts s c) _ p.0) p.1

glyphs_front : (cs rest : List ℕ) → scalars cs ≡ true → glyphs (encodes cs ++ rest) ≡ map wide cs ++ glyphs rest
glyphs_front [] rest h = refl
glyphs_front (c ∷ cs) rest h =
    let p = and_parts (scalar c) (scalars cs) h in
    let seam = append_assoc (encode c) (encodes cs) rest in
    ap glyphs seam
    ∙ (first_of (wide c) (encode c ++ (encodes cs ++ rest)) (sym (glyph_encode c (encodes cs ++ rest) p.0))).more
    ∙ ap (λ q. wide c ∷ glyphs q) (drop_at (encode c) (encodes cs ++ rest) (len_utf8 c) (length-encode c))
    ∙ ap (λ q. wide c ∷ q) (glyphs_front cs rest p.1)

-- the bytes rest do not go on with a name
abbrev Stops : PropertySyntax → List ℕ → Type 0
Stops s rest = (n : ℕ) → 0 < n → name_end s n (glyphs rest) ≡ n

module _ (s : PropertySyntax) (rest : List ℕ) (stops : Stops s rest) where
  name_end_at : (cs : List ℕ) (n : ℕ) → 0 < n → all_continue s cs ≡ true → name_end s n (map wide cs ++ glyphs rest) ≡ n + length (encodes cs)
  name_end_at [] n h g = stops n h ∙ omega arith
  name_end_at (c ∷ cs) n h g =
      let p = and_parts (continues s c) _ g in
      let on = name_end_at cs (n + len_utf8 c) (omega arith) p.1 in
      cond-true _ _ _ (cond-false (eqb n 0) _ _ (ne_eqb n 0 (λ e. omega arith)) ∙ p.0)
      ∙ omega (arith, on, length-encode c, length-append (encode c) (encodes cs))

  reads_name : (cs : List ℕ) → is_name s cs ≡ true → name_at s (encodes cs ++ rest) ≡ Some (encodes cs, rest)
  reads_name [] h = let z : ◌≡◌ {A = ℕ} 0 1 = cc in absurd (omega arith)
  reads_name (c ∷ cs) h =
      let p = and_parts (starts s c) _ h in
      let w = len_utf8_bounds c in
      let size = length-append (encode c) (encodes cs) in
      let end : name_end s 0 (glyphs (encodes (c ∷ cs) ++ rest)) ≡ length (encodes (c ∷ cs))
      = ap (name_end s 0) (glyphs_front (c ∷ cs) rest (name_scalars s (c ∷ cs) (name_continues s (c ∷ cs) h)))
      ∙ cond-true _ _ _ p.0 ∙ name_end_at cs (0 + len_utf8 c) (omega arith) p.1 ∙ omega (arith, length-encode c) in
      ap (λ n. parts n (encodes (c ∷ cs) ++ rest)) end
      ∙ cond-false _ _ _ (ne_eqb (length (encodes (c ∷ cs))) 0 (λ e. omega (arith, length-encode c)))
      ∙ ap (λ q. Some (q, drop (length (encodes (c ∷ cs))) (encodes (c ∷ cs) ++ rest))) (take_at (encodes (c ∷ cs)) rest (length (encodes (c ∷ cs))) refl)
      ∙ ap (λ q. Some (encodes (c ∷ cs), q)) (drop_at (encodes (c ∷ cs)) rest (length (encodes (c ∷ cs))) refl)

-- no name goes on with `}`, `:`, `-`, `+` or `?`
abbrev Marks : PropertySyntax → Type 0
Marks s = (continues s 125 ≡ false) × (continues s 58 ≡ false) × (continues s 45 ≡ false) × (continues s 43 ≡ false) × (continues s 63 ≡ false)

marks : (s : PropertySyntax) → Marks s
marks Braced = (refl, refl, refl, refl, refl)
marks BracedOrBare = (refl, refl, refl, refl, refl)
marks DockerCompose = (refl, refl, refl, refl, refl)

stops_nothing : (s : PropertySyntax) → Stops s []
unfolding glyphs
stops_nothing s n h = refl

stops_at : (s : PropertySyntax) (b : ℕ) (bs : List ℕ) → (first b bs).0 ≡ b → continues s b ≡ false → Stops s (b ∷ bs)
unfolding glyphs
stops_at s b bs e g n h = cond-false _ _ _ (ap (extends s n) e ∙ cond-false (eqb n 0) _ _ (ne_eqb n 0 (λ z. omega arith)) ∙ g)

stops_written : (s : PropertySyntax) (op : Op) (bs : List ℕ) → Stops s bs → Stops s (written_op op ++ bs)
stops_written s plain bs h = h
stops_written s (operated default true w) bs h = stops_at s 58 _ refl (marks s).1
stops_written s (operated default false w) bs h = stops_at s 45 _ refl (marks s).2
stops_written s (operated alternate true w) bs h = stops_at s 58 _ refl (marks s).1
stops_written s (operated alternate false w) bs h = stops_at s 43 _ refl (marks s).3
stops_written s (operated error true w) bs h = stops_at s 58 _ refl (marks s).1
stops_written s (operated error false w) bs h = stops_at s 63 _ refl (marks s).4

-- a written operator is read
not_empty : (b : ℕ) (bs : List ℕ) → eqb (length (b ∷ bs)) 0 ≡ false
not_empty b bs = ne_eqb (length (b ∷ bs)) 0 (λ z. omega arith)

reads_op : (op : Op) → op_at (written_op op) ≡ Some op
reads_op plain = refl
reads_op (operated default true w) = cond-false _ _ _ (not_empty 58 (45 ∷ w))
reads_op (operated default false w) = cond-false _ _ _ (not_empty 45 w)
reads_op (operated alternate true w) = cond-false _ _ _ (not_empty 58 (43 ∷ w))
reads_op (operated alternate false w) = cond-false _ _ _ (not_empty 43 w)
reads_op (operated error true w) = cond-false _ _ _ (not_empty 58 (63 ∷ w))
reads_op (operated error false w) = cond-false _ _ _ (not_empty 63 w)

-- a byte that neither opens nor closes a reference
abbrev Inert : ℕ → Type 0
Inert b = (b ≡ 36 → ⊥) × (b ≡ 125 → ⊥)

symbol_inert : (o : Operator) (colon : Bool) → AllByRecursion Inert (symbol o colon)
symbol_inert default true = omega arith
symbol_inert default false = omega arith
symbol_inert alternate true = omega arith
symbol_inert alternate false = omega arith
symbol_inert error true = omega arith
symbol_inert error false = omega arith

written_inert : (s : PropertySyntax) (op : Op) → Simple s (word_of op) → AllByRecursion Inert (written_op op)
written_inert s plain h = tt
written_inert s (operated o colon w) h = All-append Inert (symbol o colon) w (symbol_inert o colon) (All-weaker _ Inert (λ b p. (p.0, p.1)) w h)

-- but for DockerCompose, the bytes of a name are its characters
ascii : (s : PropertySyntax) (c : ℕ) → (s ≡ DockerCompose → ⊥) → continues s c ≡ true → (c < 128) × Inert c
ascii Braced c n h = (grind (arith, nat_tests), (λ e. grind (arith, nat_tests), λ e. grind (arith, nat_tests)))
ascii BracedOrBare c n h = (grind (arith, nat_tests), (λ e. grind (arith, nat_tests), λ e. grind (arith, nat_tests)))
ascii DockerCompose c n h = absurd (n refl)

name_inert : (s : PropertySyntax) (cs : List ℕ) → (s ≡ DockerCompose → ⊥) → all_continue s cs ≡ true → AllByRecursion Inert (encodes cs)
unfolding encode
name_inert s [] n h = tt
name_inert s (c ∷ cs) n h =
    let p = and_parts (continues s c) _ h in
    let q = ascii s c n p.0 in
    let one : encode c ≡ c ∷ [] = cond-true _ _ _ (lt-ltb c 128 q.0) in
    subst (λ bs. AllByRecursion Inert (bs ++ encodes cs)) (sym one) (q.1, name_inert s cs n p.1)

-- inert bytes are a balanced body
inert_body : (bs : List ℕ) → AllByRecursion Inert bs → Body bs
inert_body [] h = empty
inert_body (b ∷ bs) h = balanced b bs h.0.1 (and_left (eqb 36 b) _ (ne_eqb 36 b (λ e. h.0.0 (sym e)))) (inert_body bs h.1)

braced_closes : (s : PropertySyntax) (cs : List ℕ) (op : Op) → (s ≡ DockerCompose → ⊥) → is_name s cs ≡ true → Simple s (word_of op)
    → braced_close (body cs op ++ 125 ∷ []) ≡ Some (length (body cs op))
braced_closes s cs op n h g =
    let inert = All-append Inert (encodes cs) (written_op op) (name_inert s cs n (name_continues s cs h)) (written_inert s op g) in
    body_close (body cs op ++ 125 ∷ []) (length (body cs op)) (record { body = body cs op; behind = []; whole = refl; balanced = inert_body (body cs op) inert; place = refl })

-- behind inert bytes there is one place for a `}`
only : (xs front behind : List ℕ) → AllByRecursion Inert xs → front ++ 125 ∷ behind ≡ xs ++ 125 ∷ [] → length front ≡ length xs
only [] [] behind h e = refl
only [] (f ∷ front) behind h e = absurd (omega (arith, ap length e, length-append front (125 ∷ behind)))
only (x ∷ xs) [] behind h e = let same : x ≡ 125 = cc in absurd (h.0.1 same)
only (x ∷ xs) (f ∷ front) behind h e = let rest : front ++ 125 ∷ behind ≡ xs ++ 125 ∷ [] = cc in ap suc (only xs front behind h.1 rest)

symbol_operator : (o : Operator) (colon : Bool) → is_operator (symbol o colon) ≡ true
symbol_operator default true = refl
symbol_operator default false = refl
symbol_operator alternate true = refl
symbol_operator alternate false = refl
symbol_operator error true = refl
symbol_operator error false = refl

-- in DockerCompose there is a close, and no other
compose_line : (bs name : List ℕ) (op : Op) → name_at DockerCompose bs ≡ Some (name, written_op op ++ 125 ∷ []) → Simple DockerCompose (word_of op) → (k : ℕ) × ComposeClose bs k
compose_line bs name plain e h = (_, record { name = name; operator = []; text = []; behind = []; named = e; follows = inr (refl, refl); line = tt; place = refl })
compose_line bs name (operated o colon w) e h = (
  _,
  record {
    name = name;
    operator = symbol o colon;
    text = w;
    behind = [];
    named = e ∙ ap (λ q. Some (name, q)) (append_assoc (symbol o colon) w (125 ∷ []));
    follows = inl (symbol_operator o colon);
    line = All-weaker _ (λ b. b ≡ 10 → ⊥) (λ b p. p.2 refl) w h;
    place = refl;
  },
)

compose_place : (bs name xs : List ℕ) (k : ℕ) → name_at DockerCompose bs ≡ Some (name, xs ++ 125 ∷ []) → AllByRecursion Inert xs → ComposeClose bs k → k ≡ length name + length xs
compose_place bs name xs k e h c =
    let same = sym c.named ∙ e in
    let both : ◌≡◌ {A = List ℕ × List ℕ} (c.name, c.operator ++ (c.text ++ 125 ∷ c.behind)) (name, xs ++ 125 ∷ []) = cc in
    let place = only xs (c.operator ++ c.text) c.behind h (append_assoc c.operator c.text (125 ∷ c.behind) ∙ ap (λ p. p.1) both) in
    omega (arith, c.place, place, length-append c.operator c.text, ap (λ p. length p.0) both)

compose_closes : (cs : List ℕ) (op : Op) → is_name DockerCompose cs ≡ true → Simple DockerCompose (word_of op) → compose_close (body cs op ++ 125 ∷ []) ≡ Some (length (body cs op))
compose_closes cs op h g = go (compose_close (body cs op ++ 125 ∷ [])) refl
  where
    named : name_at DockerCompose (body cs op ++ 125 ∷ []) ≡ Some (encodes cs, written_op op ++ 125 ∷ [])
    named =
        ap (name_at DockerCompose) (append_assoc (encodes cs) (written_op op) (125 ∷ []))
        ∙ reads_name DockerCompose (written_op op ++ 125 ∷ []) (stops_written DockerCompose op (125 ∷ []) (stops_at DockerCompose 125 [] refl refl)) cs h

    go : (o : Option ℕ) → compose_close (body cs op ++ 125 ∷ []) ≡ o → o ≡ Some (length (body cs op))
    go None e = let p = compose_line (body cs op ++ 125 ∷ []) (encodes cs) op named g in absurd (line_close (body cs op ++ 125 ∷ []) p.0 p.1 e)
    go (Some k) e =
        let place = compose_place (body cs op ++ 125 ∷ []) (encodes cs) (written_op op) k named (written_inert DockerCompose op g) (close_line (body cs op ++ 125 ∷ []) k e) in
        ap Some (omega (arith, place, length-append (encodes cs) (written_op op)))

closes : (s : PropertySyntax) (cs : List ℕ) (op : Op) → is_name s cs ≡ true → Simple s (word_of op) → close s (body cs op ++ 125 ∷ []) ≡ Some (length (body cs op))
closes Braced cs op h g = braced_closes Braced cs op (λ e. let z : ◌≡◌ {A = ℕ} 0 1 = cc in omega arith) h g
closes BracedOrBare cs op h g = braced_closes BracedOrBare cs op (λ e. let z : ◌≡◌ {A = ℕ} 0 1 = cc in omega arith) h g
closes DockerCompose cs op h g = compose_closes cs op h g

-- What is read of a written reference.
pub record Reads (s : PropertySyntax) (cs : List ℕ) (op : Op) : Type 0 where
  pub closed : close s ((encodes cs ++ written_op op) ++ 125 ∷ []) ≡ Some (length (encodes cs ++ written_op op))
  pub named : name_at s (encodes cs ++ written_op op) ≡ Some (encodes cs, written_op op)
  pub formed : op_at (written_op op) ≡ Some op

pub reads : (s : PropertySyntax) (cs : List ℕ) (op : Op) → is_name s cs ≡ true → Simple s (word_of op) → Reads s cs op
reads s cs op h g =
    let stops = subst (Stops s) (append-nil (written_op op)) (stops_written s op [] (stops_nothing s)) in
    record { closed = closes s cs op h g; named = reads_name s (written_op op) stops cs h; formed = reads_op op }
