-- What reading a name answers and charges.
use Rattle.std.specs.Prelude.{ℕ, Bool, false, cond, List, take, drop, Some, None, Ok, Err, Option, Result, ◌==◌}
use Rattle.std.specs.Borrow.{Bor}
use Rattle.budget.specs.declared.WorkFault.{WorkFault}
use Rattle.names.specs.declared.PropertySyntax.{PropertySyntax}
use Rattle.names.specs.Glyphs.{glyph, glyphs}
use Rattle.names.specs.Names.{looks, name_end, starts}

-- the front of n bytes with the rest; no name where n is 0
abbrev pub parts : ℕ → List ℕ → Option (List ℕ × List ℕ)
parts n bs = cond (n == 0) None (Some (take n bs, drop n bs))

-- the name at the front of bytes, with the rest after it
abbrev pub name_at : PropertySyntax → List ℕ → Option (List ℕ × List ℕ)
name_at s bs = parts (name_end s 0 (glyphs bs)) bs

-- what reading it charges
abbrev pub name_looks : PropertySyntax → List ℕ → List ℕ
name_looks s bs = looks s 0 (glyphs bs)

-- whether a first character is there and starts a name
abbrev pub starts_at : PropertySyntax → Option (ℕ × ℕ) → Bool
starts_at s None = false
starts_at s (Some g) = starts s g.0

-- whether bytes begin with a name start
abbrev pub begins_name : PropertySyntax → List ℕ → Bool
begins_name s bs = starts_at s (glyph bs)

-- two parts of a text by their bytes
abbrev pub both : Option (Bor (List ℕ) × Bor (List ℕ)) → Option (List ℕ × List ℕ)
both None = None
both (Some p) = Some (p.0.now, p.1.now)

-- the answer of a reading, by bytes
abbrev pub told : Result (Option (Bor (List ℕ) × Bor (List ℕ))) WorkFault → Result (Option (List ℕ × List ℕ)) WorkFault
told (Ok o) = Ok (both o)
told (Err f) = Err f
