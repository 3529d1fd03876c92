-- A layer over a source, whose names stand below behind a stem.
use Rattle.std.specs.Prelude.{◌≡◌, ℕ, ◌+◌, ◌<◌, Bool, true, false, cond, ◌&&◌, List, ◌++◌, length, Some, None, Ok, Err, Option, Result, nat_le, refl}
use Rattle.std.specs.Bool.{then_some}
use Rattle.std.proofs.lemmas.Option.{none-some}
use Rattle.source.specs.declared.error.SourceError.{SourceError}
use Rattle.source.specs.declared.error.SourceError.TheVariants.{BadStem}
use Rattle.text.specs.Texts.{well_formed}

-- A stem is 0 to 32 bytes of well-formed UTF-8.
abbrev pub stem_lawful : List ℕ → Bool
stem_lawful stem = nat_le (length stem) 32 && well_formed stem

-- The answer of the check of a stem.
abbrev pub stem_verdict : List ℕ → Result (Unit {0}) SourceError
stem_verdict stem = cond (stem_lawful stem) (Ok tt) (Err BadStem)

-- A name means what the stem and the name joined mean below; under no stem nothing is set.
abbrev pub under : Option (List ℕ) → (List ℕ → Option (List ℕ)) → List ℕ → Option (List ℕ)
under None below name = None
under (Some stem) below name = below (stem ++ name)

-- The name to ask for below; none where the name is unset whatever stands below.
abbrev pub name_below : Option (List ℕ) → List ℕ → Option (List ℕ)
name_below None name = None
name_below (Some stem) name = cond (nat_le (length stem + length name) 63) (Some (stem ++ name)) None

-- what is set in a layer is what was set below
pub set_below : (b : Bool) (o : Option (List ℕ)) (v : List ℕ) → cond b o None ≡ Some v → o ≡ Some v
set_below true o v e = e
set_below false o v e = absurd (none-some v e)

-- stem and name joined are too long for a name below
pub too_long : (b : Bool) (stem name : List ℕ) (below : List ℕ → Option (List ℕ)) → ((n : List ℕ) → 63 < length n → below n ≡ None)
    → 63 < length (stem ++ name) → under (then_some b stem) below name ≡ None
too_long true stem name below long h = long (stem ++ name) h
too_long false stem name below long h = refl
