-- The name of a text by its characters: the longest front that is a name.
use Rattle.std.proofs.Common.{◌≡◌, ℕ, ◌+◌, ◌<◌, ◌≤◌, true, false, eqb, List, [], ◌∷◌, ◌++◌, map, length, take, drop, IsUtf8, Option, sym, refl, ap, ◌∙◌, subst, ⊎_elim, arith, length-append}
use lib.Utf8.{encode, encodes, scalar, scalars}
use Rattle.std.proofs.lemmas.List.{take_at, drop_at}
use Rattle.std.proofs.lemmas.Bool.{and_from, and_parts, both_ways, cases_Bool, cond-true, cond-false, ne_eqb}
use Rattle.std.proofs.lemmas.Str.{length-encode, len_utf8_bounds, encodes-append, encodes-chars, chars-encodes, scalars-chars}
use Rattle.std.specs.Char.{len_utf8}
use Rattle.std.specs.Str.{chars as decodes}
use Rattle.names.specs.declared.PropertySyntax.{PropertySyntax}
use Rattle.names.specs.Glyphs.{wide}
use Rattle.names.specs.Names.{continues, extends, name_end, starts}
use Rattle.names.specs.NameLaws.{BothText, Longest, NameLaw, all_continue, is_name, starts_text}
use Rattle.names.specs.Reads.{begins_name, name_at, parts, starts_at}
use Rattle.names.proofs.TextLaws.{glyph_encode, text_glyphs}

-- The longest front of characters that go on with a name, and where a name that is begun ends with it.
record Front (s : PropertySyntax) (cs : List ℕ) : Type 0 where
  name : List ℕ
  rest : List ℕ
  whole : cs ≡ name ++ rest
  good : all_continue s name ≡ true
  longest : (xs ys : List ℕ) → cs ≡ xs ++ ys → all_continue s xs ≡ true → length xs ≤ length name
  end : (n : ℕ) → 0 < n → name_end s n (map wide cs) ≡ n + length (encodes name)

begun : (s : PropertySyntax) (n c : ℕ) → 0 < n → extends s n c ≡ continues s c
begun s n c h = cond-false (eqb n 0) _ _ (ne_eqb n 0 (λ e. omega arith))

front_goes : (s : PropertySyntax) (c : ℕ) (cs : List ℕ) → Front s cs → continues s c ≡ true → Front s (c ∷ cs)
front_goes s c cs f t =
    record {
      name = c ∷ f.name;
      rest = f.rest;
      whole = ap (λ q. c ∷ q) f.whole;
      good = and_from (continues s c) _ t f.good;
      longest = longer;
      end = λ n h.
          let on = f.end (n + len_utf8 c) (omega arith) in
          let w = ap length (encodes-append (c ∷ []) f.name) in
          cond-true _ _ _ (begun s n c h ∙ t) ∙ omega (arith, length-encode c, length-append (encode c) (encodes f.name));
    }
  where
    longer : (xs ys : List ℕ) → c ∷ cs ≡ xs ++ ys → all_continue s xs ≡ true → length xs ≤ length (c ∷ f.name)
    longer [] ys e h = omega arith
    longer (x ∷ xs) ys e h =
        let tail : cs ≡ xs ++ ys = cc in
        omega (arith, f.longest xs ys tail (and_parts (continues s x) _ h).1)

front_stops : (s : PropertySyntax) (c : ℕ) (cs : List ℕ) → continues s c ≡ false → Front s (c ∷ cs)
front_stops s c cs t =
    record {
      name = [];
      rest = c ∷ cs;
      whole = refl;
      good = refl;
      longest = longer;
      end = λ n h. cond-false _ _ _ (begun s n c h ∙ t) ∙ omega arith;
    }
  where
    longer : (xs ys : List ℕ) → c ∷ cs ≡ xs ++ ys → all_continue s xs ≡ true → length xs ≤ 0
    longer [] ys e h = omega arith
    longer (x ∷ xs) ys e h =
        let same : c ≡ x = cc in
        absurd (both_ways (continues s x) (sym (ap (continues s) same) ∙ t) (and_parts (continues s x) _ h).0)

front_of : (s : PropertySyntax) (cs : List ℕ) → Front s cs
front_of s [] =
    record {
      name = [];
      rest = [];
      whole = refl;
      good = refl;
      longest = λ xs ys e h. let l = length-append xs ys in let z = ap length e in omega arith;
      end = λ n h. omega arith;
    }
front_of s (c ∷ cs) = ⊎_elim (front_goes s c cs (front_of s cs)) (front_stops s c cs) (cases_Bool (continues s c))

scalars_parts : (xs ys : List ℕ) → scalars (xs ++ ys) ≡ true → (scalars xs ≡ true) × (scalars ys ≡ true)
scalars_parts [] ys h = (refl, h)
scalars_parts (x ∷ xs) ys h =
    let p = and_parts (scalar x) (scalars (xs ++ ys)) h in
    let q = scalars_parts xs ys p.1 in
    (and_from (scalar x) (scalars xs) p.0 q.0, q.1)

-- What holds of the parts of a text cs.
abbrev Law : PropertySyntax → List ℕ → Option (List ℕ × List ℕ) → Type 0
Law s cs o = BothText o × NameLaw s cs o

-- the parts at a place between two characters
law_at : (s : PropertySyntax) (cs xs ys : List ℕ) → cs ≡ xs ++ ys → scalars cs ≡ true → 0 < length (encodes xs)
    → starts_text s cs ≡ true → Longest s cs xs ys → Law s cs (parts (length (encodes xs)) (encodes cs))
law_at s cs xs ys e ok h t l =
    let o = scalars_parts xs ys (sym (ap scalars e) ∙ ok) in
    let seam = ap encodes e ∙ encodes-append xs ys in
    let left = ap (take (length (encodes xs))) seam ∙ take_at (encodes xs) (encodes ys) (length (encodes xs)) refl in
    let right = ap (drop (length (encodes xs))) seam ∙ drop_at (encodes xs) (encodes ys) (length (encodes xs)) refl in
    rw (ne_eqb (length (encodes xs)) 0 (λ z. omega arith), left, right, chars-encodes xs o.0, chars-encodes ys o.1)
    (((xs, (o.0, refl)), (ys, (o.1, refl))), (t, l))

-- a name by its first character
law_starts : (s : PropertySyntax) (c : ℕ) (cs : List ℕ) → scalars (c ∷ cs) ≡ true → starts s c ≡ true
    → Law s (c ∷ cs) (parts (name_end s 0 (map wide (c ∷ cs))) (encodes (c ∷ cs)))
law_starts s c cs ok t =
    let f = front_of s cs in
    let w = len_utf8_bounds c in
    let l = length-append (encode c) (encodes f.name) in
    let end : name_end s 0 (map wide (c ∷ cs)) ≡ length (encodes (c ∷ f.name))
    = cond-true _ _ _ t ∙ f.end (0 + len_utf8 c) (omega arith) ∙ omega (arith, length-encode c) in
    let whole = ap (λ q. c ∷ q) f.whole in
    let best : Longest s (c ∷ cs) (c ∷ f.name) f.rest
    = record { whole = whole; named = and_from (starts s c) _ t f.good; longest = longer f.name f.longest } in
    rw end (law_at s (c ∷ cs) (c ∷ f.name) f.rest whole ok (omega (arith, length-encode c)) t best)
  where
    longer : (name : List ℕ) → ((xs ys : List ℕ) → cs ≡ xs ++ ys → all_continue s xs ≡ true → length xs ≤ length name)
        → (xs ys : List ℕ) → c ∷ cs ≡ xs ++ ys → is_name s xs ≡ true → length xs ≤ length (c ∷ name)
    longer name h [] ys e g = omega arith
    longer name h (x ∷ xs) ys e g =
        let tail : cs ≡ xs ++ ys = cc in
        omega (arith, h xs ys tail (and_parts (starts s x) _ g).1)

chars_law : (s : PropertySyntax) (cs : List ℕ) → scalars cs ≡ true → Law s cs (parts (name_end s 0 (map wide cs)) (encodes cs))
chars_law s [] ok = (tt, refl)
chars_law s (c ∷ cs) ok = ⊎_elim (law_starts s c cs ok) (λ t. rw (cond-false (starts s c) (name_end s (0 + len_utf8 c) (map wide cs)) 0 t) (tt, t)) (cases_Bool (starts s c))

text_law : (s : PropertySyntax) (bs : List ℕ) → IsUtf8 bs → Law s (decodes bs) (name_at s bs)
text_law s bs u =
    let chars = chars_law s (decodes bs) (scalars-chars bs u) in
    let here = subst (λ q. Law s (decodes bs) (parts (name_end s 0 (map wide (decodes bs))) q)) (encodes-chars bs u) chars in
    subst (λ gs. Law s (decodes bs) (parts (name_end s 0 gs) bs)) (sym (text_glyphs bs u)) here

pub parts_utf8 : (s : PropertySyntax) (bs : List ℕ) → IsUtf8 bs → BothText (name_at s bs)
parts_utf8 s bs u = (text_law s bs u).0

pub name_law : (s : PropertySyntax) (bs : List ℕ) → IsUtf8 bs → NameLaw s (decodes bs) (name_at s bs)
name_law s bs u = (text_law s bs u).1

-- a name start by characters
pub begins_text : (s : PropertySyntax) (bs : List ℕ) → IsUtf8 bs → begins_name s bs ≡ starts_text s (decodes bs)
begins_text s bs u = ap (begins_name s) (sym (encodes-chars bs u)) ∙ go (decodes bs) (scalars-chars bs u)
  where
    go : (cs : List ℕ) → scalars cs ≡ true → begins_name s (encodes cs) ≡ starts_text s cs
    go [] ok = refl
    go (c ∷ cs) ok = ap (starts_at s) (glyph_encode c (encodes cs) (and_parts (scalar c) (scalars cs) ok).0)
