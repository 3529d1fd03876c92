-- The reading of a name as far as it has come.
use Rattle.std.proofs.Common.{◌≡◌, ℕ, zero, suc, ◌+◌, ◌-◌, ◌<◌, ◌≤◌, Bool, true, false, cond, eqb, List, [], ◌∷◌, ◌++◌, length, take, drop, Some, None, Ok, Err, Option, sym, refl, ap, ◌∙◌, subst, arith, length-append, length-drop}
use Rattle.std.proofs.lemmas.List.{drop-drop, take-append-drop, take_rest}
use Rattle.std.proofs.lemmas.Bool.{cond-false, ne_eqb}
use Rattle.budget.specs.declared.WorkBudget.{WorkBudget}
use Rattle.budget.specs.declared.WorkFault.{WorkFault}
use Rattle.budget.proofs.Calls.{Paid, Went, Broke, Left, left_at, left_more, left_none, left_over}
use Rattle.names.specs.declared.PropertySyntax.{PropertySyntax}
use Rattle.names.specs.Glyphs.{glyph, glyphs}
use Rattle.names.specs.Names.{extends, name_end, looks}
use Rattle.names.specs.Reads.{name_at, name_looks, parts}
use Rattle.names.proofs.GlyphLaws.{First, first_of, none_of}

-- Reading a name of bs has come to byte n and to the budget w: what is left gives the rest.
pub record Reading (s : PropertySyntax) (bs : List ℕ) (w₀ w : WorkBudget) (n : ℕ) : Type 0 where
  pub work : Left w₀ w (name_looks s bs) (looks s n (glyphs (drop n bs)))
  pub name : name_end s 0 (glyphs bs) ≡ name_end s n (glyphs (drop n bs))
  pub fits : n ≤ length bs

-- It has come to the end of the name.
pub record Read (s : PropertySyntax) (bs : List ℕ) (w₀ w : WorkBudget) (n : ℕ) : Type 0 where
  pub work : Left w₀ w (name_looks s bs) []
  pub name : name_end s 0 (glyphs bs) ≡ n

pub read_ends : {s : PropertySyntax} {bs : List ℕ} {w₀ w : WorkBudget} {n : ℕ} {x : Option (List ℕ × List ℕ)} → Read s bs w₀ w n → x ≡ parts n bs
    → Paid w₀ w (name_looks s bs) (name_at s bs) (Ok x)
read_ends {s} {bs} r e = left_none r.work (e ∙ ap (λ m. parts m bs) (sym r.name))

module _ {s : PropertySyntax} {bs : List ℕ} {w₀ w : WorkBudget} {n : ℕ} (r : Reading s bs w₀ w n) where
  -- nothing is left; `&input[n..]` is read as this `take`
  pub read_none : None ≡ glyph (take (length bs - n) (drop n bs)) → Read s bs w₀ w n
  read_none e =
      let none = none_of (drop n bs) (e ∙ ap glyph (take_rest bs n)) in
      record { work = left_at r.work (ap (looks s n) none); name = r.name ∙ ap (name_end s n) none }

  -- the next character is c, of k bytes
  module _ {c k : ℕ} (e : Some (c, k) ≡ glyph (take (length bs - n) (drop n bs))) where
    here : First (c, k) (drop n bs)
    here = first_of (c, k) (drop n bs) (e ∙ ap glyph (take_rest bs n))

    abbrev behind : List (ℕ × ℕ)
    behind = glyphs (drop (n + k) bs)

    looks_are : {b : Bool} → b ≡ extends s n c → looks s n (glyphs (drop n bs)) ≡ k ∷ cond b (looks s (n + k) behind) []
    looks_are g = ap (looks s n) (here.more ∙ ap (λ q. (c, k) ∷ glyphs q) (drop-drop k n bs)) ∙ ap (λ b. k ∷ cond b (looks s (n + k) behind) []) (sym g)

    end_is : {b : Bool} → b ≡ extends s n c → name_end s 0 (glyphs bs) ≡ cond b (name_end s (n + k) behind) n
    end_is g = r.name ∙ ap (name_end s n) (here.more ∙ ap (λ q. (c, k) ∷ glyphs q) (drop-drop k n bs)) ∙ ap (λ b. cond b (name_end s (n + k) behind) n) (sym g)

    pub read_more : {w' : WorkBudget} → Went w w' (k ∷ []) → true ≡ extends s n c → Reading s bs w₀ w' (n + k)
    read_more p g =
        record { work = left_more (looks s (n + k) behind) (left_at r.work (looks_are g)) p; name = end_is g; fits = omega (arith, r.fits, here.fits, length-drop n bs) }

    pub read_stop : {w' : WorkBudget} → Went w w' (k ∷ []) → false ≡ extends s n c → Read s bs w₀ w' n
    read_stop p g = record { work = left_more [] (left_at r.work (looks_are g)) p; name = end_is g }

    pub read_over : {w' : WorkBudget} {x : WorkFault} → Broke w w' (k ∷ []) x → Paid w₀ w' (name_looks s bs) (name_at s bs) (Err x)
    read_over p = left_over (cond (extends s n c) (looks s (n + k) behind) []) (name_at s bs) (left_at r.work (looks_are refl)) p

-- A name and the rest after it are the whole, and a name has a byte.
pub record Named (bs : List ℕ) (p : List ℕ × List ℕ) : Type 0 where
  pub whole : bs ≡ p.0 ++ p.1
  pub fills : length p.0 + length p.1 ≡ length bs
  pub some : 0 < length p.0

pub named : (s : PropertySyntax) (bs : List ℕ) (p : List ℕ × List ℕ) → Some p ≡ name_at s bs → Named bs p
unfolding glyphs
named s [] p e = let z : ◌≡◌ {A = ℕ} 0 1 = cc in absurd (omega arith)
named s (b ∷ bs) p e = go (name_end s 0 (glyphs (b ∷ bs))) e
  where
    go : (n : ℕ) → Some p ≡ parts n (b ∷ bs) → Named (b ∷ bs) p
    go zero e = let z : ◌≡◌ {A = ℕ} 0 1 = cc in absurd (omega arith)
    go (suc n) e =
        let cut : Some p ≡ Some (take (suc n) (b ∷ bs), drop (suc n) (b ∷ bs)) = e ∙ cond-false (eqb (suc n) 0) _ _ (ne_eqb (suc n) 0 (λ z. omega arith)) in
        let same : (take (suc n) (b ∷ bs), drop (suc n) (b ∷ bs)) ≡ p = cc in
        let whole = take-append-drop (suc n) (b ∷ bs) in
        subst (Named (b ∷ bs)) same (record { whole = sym whole; fills = sym (length-append (take (suc n) (b ∷ bs)) (drop (suc n) (b ∷ bs))) ∙ ap length whole; some = omega arith })
