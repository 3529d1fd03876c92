-- That a layer is a lawful source where the one below is. A ghost member cites specs/ alone, so the proof stands here.
use Rattle.std.proofs.Common.{◌≡◌, ℕ, ◌<◌, ◌≤◌, List, ◌++◌, length, Some, None, Option, refl, arith, length-append}
use Rattle.source.specs.Lawful.{Lawful}
use Rattle.stem.specs.Stems.{under}

module _ {S : Type 0} {means : S → List ℕ → Option (List ℕ)} (laws : Lawful means) where
  long : (stem : Option (List ℕ)) (below : S) (name : List ℕ) → 63 < length name → under stem (means below) name ≡ None
  long None below name h = refl
  long (Some stem) below name h = laws.long below (stem ++ name) (simp length-append (omega arith))

  short : (stem : Option (List ℕ)) (below : S) (name value : List ℕ) → under stem (means below) name ≡ Some value → length value ≤ 1024
  short None below name value e = absurd (cc)
  short (Some stem) below name value e = laws.short below (stem ++ name) value e

pub stem_laws : {S T : Type 0} {means : S → List ℕ → Option (List ℕ)} → Lawful means → (stem : T → Option (List ℕ)) (below : T → S)
    → Lawful (λ (t : T) name. under (stem t) (means (below t)) name)
stem_laws laws stem below = record {
  long = λ t n h. long laws (stem t) (below t) n h;
  short = λ t n v e. short laws (stem t) (below t) n v e;
}
