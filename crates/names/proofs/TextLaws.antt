-- The characters of bytes that are well-formed UTF-8 are those of the text, each with its width.
use Rattle.std.proofs.Common.{◌≡◌, ℕ, ◌+◌, ◌/◌, ◌<◌, ◌≤◌, min, true, ◌⊎◌, List, [], ◌∷◌, ◌++◌, map, length, Some, IsUtf8, sym, refl, ap, ◌∙◌, inl, inr, arith}
use lib.Utf8.{encode, encodes, scalar, scalars, next}
use Rattle.std.proofs.lemmas.List.{drop_at}
use Rattle.std.proofs.lemmas.Bool.{cases_lt, cond-true, cond-false, lt-ltb, le-ltb, and_parts}
use Rattle.std.proofs.lemmas.Str.{length-encode, encodes-chars, scalars-chars}
use Rattle.std.proofs.lemmas.Bool.Decides.{nat_tests}
use Rattle.std.specs.Char.{len_utf8}
use Rattle.std.specs.Str.{chars, continuation_len}
use Rattle.names.specs.Glyphs.{glyph, glyphs, letter_of, spelt, wide}
use Rattle.names.proofs.GlyphLaws.{first_of}

-- how the four widths are written
one : (c : ℕ) → c < 128 → encode c ≡ c ∷ []
unfolding encode
one c h = cond-true _ _ _ (lt-ltb c 128 h)

two : (c : ℕ) → 128 ≤ c → c < 2048 → encode c ≡ (192 + c / 64) ∷ next c ∷ []
unfolding encode
two c l h = cond-false _ _ _ (le-ltb c 128 l) ∙ cond-true _ _ _ (lt-ltb c 2048 h)

three : (c : ℕ) → 2048 ≤ c → c < 65536 → encode c ≡ (224 + c / 4096) ∷ next (c / 64) ∷ next c ∷ []
unfolding encode
three c l h =
    let a : 128 ≤ c = omega arith in
    cond-false _ _ _ (le-ltb c 128 a) ∙ cond-false _ _ _ (le-ltb c 2048 l) ∙ cond-true _ _ _ (lt-ltb c 65536 h)

four : (c : ℕ) → 65536 ≤ c → encode c ≡ (240 + c / 262144) ∷ next (c / 4096) ∷ next (c / 64) ∷ next c ∷ []
unfolding encode
four c l =
    let a : 128 ≤ c = omega arith in
    let b : 2048 ≤ c = omega arith in
    cond-false _ _ _ (le-ltb c 128 a) ∙ cond-false _ _ _ (le-ltb c 2048 b) ∙ cond-false _ _ _ (le-ltb c 65536 l)

-- a character by its first byte and those behind it
lead : (b : ℕ) (bs : List ℕ) (c k : ℕ) → spelt (b ∷ bs) ≡ c → 1 + continuation_len b ≡ k → k ≤ length (b ∷ bs) → glyph (b ∷ bs) ≡ Some (letter_of c, k)
lead b bs c k s e h =
    let m : min (1 + continuation_len b) (length (b ∷ bs)) ≡ k = omega (arith, e) in
    ap (λ n. Some (letter_of n, min (1 + continuation_len b) (length (b ∷ bs)))) s ∙ ap (λ n. Some (letter_of c, n)) m

-- number and width read back
read_back : (c : ℕ) (rest : List ℕ) → c < 1114112 → glyph (encode c ++ rest) ≡ Some (letter_of c, len_utf8 c)
read_back c rest h = go (cases_lt c 128) (cases_lt c 2048) (cases_lt c 65536)
  where
    go : (c < 128) ⊎ (128 ≤ c) → (c < 2048) ⊎ (2048 ≤ c) → (c < 65536) ⊎ (65536 ≤ c) → glyph (encode c ++ rest) ≡ Some (letter_of c, len_utf8 c)
    go (inl a) b d = rw (one c a) (lead c rest c (len_utf8 c) (grind (arith, nat_tests)) (grind (arith, nat_tests)) (grind (arith, nat_tests)))
    go (inr a) (inl b) d = rw (two c a b) (lead (192 + c / 64) (next c ∷ rest) c (len_utf8 c) (grind (arith, nat_tests)) (grind (arith, nat_tests)) (grind (arith, nat_tests)))
    go (inr a) (inr b) (inl d) =
        rw (three c b d) (lead (224 + c / 4096) (next (c / 64) ∷ next c ∷ rest) c (len_utf8 c) (grind (arith, nat_tests)) (grind (arith, nat_tests)) (grind (arith, nat_tests)))
    go (inr a) (inr b) (inr d) =
        rw (four c d) (lead (240 + c / 262144) (next (c / 4096) ∷ next (c / 64) ∷ next c ∷ rest) c (len_utf8 c) (grind (arith, nat_tests)) (grind (arith, nat_tests)) (grind (arith, nat_tests)))

below : (c : ℕ) → scalar c ≡ true → c < 1114112
below c s = grind (arith, nat_tests)

pub glyph_encode : (c : ℕ) (rest : List ℕ) → scalar c ≡ true → glyph (encode c ++ rest) ≡ Some (wide c)
glyph_encode c rest s = read_back c rest (below c s) ∙ ap (λ n. Some (n, len_utf8 c)) (cond-true _ _ _ s)

pub glyphs_encodes : (cs : List ℕ) → scalars cs ≡ true → glyphs (encodes cs) ≡ map wide cs
unfolding glyphs
glyphs_encodes [] s = refl
glyphs_encodes (c ∷ cs) s =
    let p = and_parts (scalar c) (scalars cs) s in
    (first_of (wide c) (encode c ++ encodes cs) (sym (glyph_encode c (encodes cs) p.0))).more
    ∙ ap (λ q. wide c ∷ glyphs q) (drop_at (encode c) (encodes cs) (len_utf8 c) (length-encode c))
    ∙ ap (λ q. wide c ∷ q) (glyphs_encodes cs p.1)

pub text_glyphs : (bs : List ℕ) → IsUtf8 bs → glyphs bs ≡ map wide (chars bs)
text_glyphs bs u = ap glyphs (sym (encodes-chars bs u)) ∙ glyphs_encodes (chars bs) (scalars-chars bs u)
