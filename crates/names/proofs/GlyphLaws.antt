-- One character looked at, and the characters behind it.
use Rattle.std.proofs.Common.{◌≡◌, ℕ, zero, suc, ◌<◌, ◌≤◌, List, [], ◌∷◌, length, drop, Some, None, refl, ap, subst, arith, length-drop}
use Rattle.names.specs.Glyphs.{first, glyph, glyphs, cut}

-- any two counts that suffice cut alike
cut_same : (m n : ℕ) (bs : List ℕ) → length bs ≤ m → length bs ≤ n → cut m bs ≡ cut n bs
cut_same zero zero bs hm hn = refl
cut_same zero (suc n) [] hm hn = refl
cut_same zero (suc n) (b ∷ bs) hm hn = absurd (omega arith)
cut_same (suc m) zero [] hm hn = refl
cut_same (suc m) zero (b ∷ bs) hm hn = absurd (omega arith)
cut_same (suc m) (suc n) [] hm hn = refl
cut_same (suc m) (suc n) (b ∷ bs) hm hn =
    let w = (first b bs).1 in
    let l = length-drop w (b ∷ bs) in
    ap (λ gs. first b bs ∷ gs) (cut_same m n (drop w (b ∷ bs)) (omega arith) (omega arith))

-- what the first character says of the characters
pub record First (g : ℕ × ℕ) (bs : List ℕ) : Type 0 where
  pub more : glyphs bs ≡ g ∷ glyphs (drop g.1 bs)
  pub some : 0 < g.1
  pub fits : g.1 ≤ length bs

pub first_of : (g : ℕ × ℕ) (bs : List ℕ) → Some g ≡ glyph bs → First g bs
unfolding glyphs
first_of g [] e = let z : ◌≡◌ {A = ℕ} 0 1 = cc in absurd (omega arith)
first_of g (b ∷ bs) e =
    let same : first b bs ≡ g = cc in
    let w = (first b bs).1 in
    let l = length-drop w (b ∷ bs) in
    let more = ap (λ gs. first b bs ∷ gs) (cut_same (length bs) (length (drop w (b ∷ bs))) (drop w (b ∷ bs)) (omega arith) (omega arith)) in
    subst (λ h. First h (b ∷ bs)) same (record { more = more; some = omega arith; fits = omega arith })

pub none_of : (bs : List ℕ) → None ≡ glyph bs → glyphs bs ≡ []
unfolding glyphs
none_of [] e = refl
none_of (b ∷ bs) e = let z : ◌≡◌ {A = ℕ} 0 1 = cc in absurd (omega arith)
