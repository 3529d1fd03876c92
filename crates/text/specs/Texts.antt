-- Texts: well-formed UTF-8 of at most 8192 bytes.
use Rattle.std.specs.Prelude.{ℕ, Bool, if◌then◌else◌, List, length, Ok, Err, Result, nat_lt}
use Rattle.std.specs.Str.{is_utf8}
use Rattle.std.specs.Str.Lossy.{valid_len_up_to}
use Rattle.text.specs.declared.TextError.{TextError}
use Rattle.text.specs.declared.TextError.TheVariants.{TooLong, NotUtf8}

-- Well-formed UTF-8 as a test: the bytes are what the characters read from them are written as.
abbrev pub well_formed : List ℕ → Bool
well_formed bs = is_utf8 bs

-- the length of the longest front of at most k bytes that is well-formed
abbrev pub formed_within : ℕ → List ℕ → ℕ
formed_within k bs = valid_len_up_to bs k

-- the longest text that a call takes
abbrev pub text_max : ℕ
text_max = 8192

-- The answer of the check of a text: too long comes before ill-formed, which is told by how far it is well-formed.
abbrev pub text_verdict : List ℕ → Result (Unit {0}) TextError
text_verdict bs =
    if nat_lt text_max (length bs) then Err TooLong
    else (if well_formed bs then Ok tt else Err (NotUtf8 (formed_within (length bs) bs)))
