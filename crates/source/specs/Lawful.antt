-- What every source keeps, and that the empty source and a lent source keep it.
use Rattle.std.specs.Prelude.{◌≡◌, ℕ, ◌<◌, ◌≤◌, List, length, Some, None, Option, refl}

-- `means s name` is what the source s has for a name: unset, or a value.
pub record Lawful {S : Type 0} (means : S → List ℕ → Option (List ℕ)) : Type 0 where
  -- a name over 63 bytes is unset
  pub long : (s : S) (name : List ℕ) → 63 < length name → means s name ≡ None
  -- a value has at most 1024 bytes
  pub short : (s : S) (name value : List ℕ) → means s name ≡ Some value → length value ≤ 1024

-- The meaning under which everything is unset.
abbrev pub unset : {S : Type 0} → S → List ℕ → Option (List ℕ)
unset s name = None

pub unset_laws : {S : Type 0} → Lawful (unset {S = S})
unset_laws = record {
  long = λ s n h. refl;
  short = λ s n v e. absurd (cc);
}

-- A source that is reached through another value.
pub lent_laws : {S T : Type 0} {means : S → List ℕ → Option (List ℕ)} → Lawful means → (at : T → S) → Lawful (λ (t : T) n. means (at t) n)
lent_laws laws at = record {
  long = λ t n h. laws.long (at t) n h;
  short = λ t n v e. laws.short (at t) n v e;
}
