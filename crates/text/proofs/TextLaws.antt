-- What the library says of well-formed UTF-8, in the words of `Texts`.
use Rattle.std.proofs.Common.{◌≡◌, ℕ, true, false, List, length, IsUtf8, Decides, refl, arith}
use Rattle.std.specs.Str.Lossy.{utf8_valid_len}
use Rattle.std.proofs.lemmas.Str.{IsUtf8-from_is_utf8, is_utf8-from_IsUtf8}
use Rattle.text.specs.Texts.{formed_within, well_formed}

pub formed_decides : (bs : List ℕ) → Decides (well_formed bs) (IsUtf8 bs)
formed_decides bs = (IsUtf8-from_is_utf8 bs, is_utf8-from_IsUtf8 bs)

pub formed : (bs : List ℕ) → IsUtf8 bs → well_formed bs ≡ true
formed bs u = is_utf8-from_IsUtf8 bs u

pub unformed : (bs : List ℕ) → (IsUtf8 bs → ⊥) → well_formed bs ≡ false
unformed bs n = grind (arith, IsUtf8-from_is_utf8)

pub formed_len : (bs : List ℕ) → formed_within (length bs) bs ≡ utf8_valid_len bs
unfolding utf8_valid_len
formed_len bs = refl

-- what the answers of the checks follow from
pub ruleset text_laws = (formed, unformed, formed_len)
