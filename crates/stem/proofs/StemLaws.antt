-- Where there is no name to ask for below, the name is unset.
use Rattle.std.proofs.Common.{◌≡◌, ℕ, ◌+◌, ◌<◌, Bool, true, false, cond, List, ◌++◌, length, Some, None, Option, refl, length-append}
use Rattle.std.proofs.lemmas.Bool.{leb-false}
use Rattle.stem.specs.Stems.{name_below, too_long, under}

no_name : (t : Bool) (n : List ℕ) → None ≡ cond t (Some n) None → t ≡ false
no_name true n e = absurd (cc)
no_name false n e = refl

pub none_below : (stem : Option (List ℕ)) (name : List ℕ) (below : List ℕ → Option (List ℕ)) → ((n : List ℕ) → 63 < length n → below n ≡ None)
    → None ≡ name_below stem name → under stem below name ≡ None
none_below None name below long e = refl
none_below (Some stem) name below long e =
    let over = leb-false (length stem + length name) 63 (no_name _ (stem ++ name) e) in
    too_long true stem name below long (simp length-append over)
