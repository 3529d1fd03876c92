-- The characters of bytes. Every list of bytes has them, also one that is no UTF-8.
use Rattle.std.specs.Prelude.{ℕ, zero, suc, ◌+◌, ◌-◌, ◌*◌, min, cond, List, [], ◌∷◌, length, drop, Some, None, Option, nat_lt, slice_index}
use Rattle.std.proofs.Math.Utf8.{scalar}
use Rattle.std.specs.Char.{len_utf8}
use Rattle.std.specs.Str.{continuation_len}

-- the number that the first character is written as, by its first byte; bytes that are missing count as zero
abbrev pub spelt : List ℕ → ℕ
spelt bs =
    cond (nat_lt (slice_index bs 0) 128) (slice_index bs 0)
    (cond (nat_lt (slice_index bs 0) 224) ((slice_index bs 0 - 192) * 64 + (slice_index bs 1 - 128))
    (cond (nat_lt (slice_index bs 0) 240) (((slice_index bs 0 - 224) * 64 + (slice_index bs 1 - 128)) * 64 + (slice_index bs 2 - 128))
    ((((slice_index bs 0 - 240) * 64 + (slice_index bs 1 - 128)) * 64 + (slice_index bs 2 - 128)) * 64 + (slice_index bs 3 - 128))))

-- a character, U+FFFD for a number that is none
abbrev pub letter_of : ℕ → ℕ
letter_of n = cond (scalar n) n 65533

-- the first character with its width, which is no more than what is left
abbrev pub first : ℕ → List ℕ → ℕ × ℕ
first b bs = (letter_of (spelt (b ∷ bs)), min (1 + continuation_len b) (length (b ∷ bs)))

-- the first character, where any byte is left
abbrev pub glyph : List ℕ → Option (ℕ × ℕ)
glyph [] = None
glyph (b ∷ bs) = Some (first b bs)

-- cut into characters, n times at most; n is at least the number of bytes
abbrev pub cut : ℕ → List ℕ → List (ℕ × ℕ)
cut zero bs = []
cut (suc n) [] = []
cut (suc n) (b ∷ bs) = first b bs ∷ cut n (drop (first b bs).1 (b ∷ bs))

-- the characters of bytes, each with its width
unfoldable pub glyphs : List ℕ → List (ℕ × ℕ)
glyphs bs = cut (length bs) bs

-- a character with the width that it is written in
abbrev pub wide : ℕ → ℕ × ℕ
wide c = (c, len_utf8 c)
