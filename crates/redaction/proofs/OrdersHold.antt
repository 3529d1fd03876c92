-- The order of the stable sort is the one that the law asks for. Assumes nothing.
use Rattle.std.proofs.Common.{◌≡◌, ℕ, ◌<◌, ◌≤◌, Bool, true, false, cond, eqb, leb, List, [], ◌∷◌, sym, refl, ap, ◌∙◌, arith}
use Rattle.std.proofs.lemmas.Bool.{cond-true, cond-false, eqb-true, leb-true, leb-false, ne_eqb}
use Rattle.pairs.specs.Pairs.{Pair}
use Rattle.pairs.specs.Sizes.{of_size, size}
use Rattle.redaction.specs.Orders.{Falls, Led, LongestFirst, filled, insert, sorted}

led_insert : (q p : Pair) (qs : List Pair) → size p ≤ size q → Led q qs → Led q (insert p qs)
led_insert q p [] h l = h
led_insert q p (r ∷ qs) h l = go (leb (size r) (size p))
  where
    go : (b : Bool) → Led q (cond b (p ∷ (r ∷ qs)) (r ∷ insert p qs))
    go true = h
    go false = l

falls_insert : (p : Pair) (qs : List Pair) → Falls qs → Falls (insert p qs)
falls_insert p [] f = (tt, tt)
falls_insert p (q ∷ qs) f = go (falls_insert p qs f.1) (leb (size q) (size p)) refl
  where
    go : Falls (insert p qs) → (b : Bool) → leb (size q) (size p) ≡ b → Falls (cond b (p ∷ (q ∷ qs)) (q ∷ insert p qs))
    go more true t = (leb-true (size q) (size p) t, f)
    go more false t = (led_insert q p qs (omega (arith, leb-false (size q) (size p) t)) f.0, more)

falls_sorted : (ps : List Pair) → Falls (sorted ps)
falls_sorted [] = tt
falls_sorted (p ∷ ps) = falls_insert p (sorted ps) (falls_sorted ps)

-- an insertion keeps the order of each length
level_insert : (k : ℕ) (p : Pair) (qs : List Pair) → of_size k (insert p qs) ≡ of_size k (p ∷ qs)
level_insert k p [] = refl
level_insert k p (q ∷ qs) = go (level_insert k p qs) (leb (size q) (size p)) refl (eqb (size q) k) refl (eqb (size p) k) refl
  where
    go : of_size k (insert p qs) ≡ of_size k (p ∷ qs) → (b : Bool) → leb (size q) (size p) ≡ b → (c : Bool) → eqb (size q) k ≡ c → (d : Bool) → eqb (size p) k ≡ d → of_size k (cond b (p ∷ (q ∷ qs)) (q ∷ insert p qs)) ≡ of_size k (p ∷ (q ∷ qs))
    go more true t c u d v = refl
    go more false t true u true v = absurd (omega (arith, leb-false (size q) (size p) t, eqb-true (size q) k u, eqb-true (size p) k v))
    go more false t true u false v =
        cond-true _ _ _ u ∙ ap (λ r. q ∷ r) (more ∙ cond-false _ _ _ v) ∙ sym (cond-false (eqb (size p) k) (p ∷ of_size k (q ∷ qs)) (of_size k (q ∷ qs)) v ∙ cond-true _ _ _ u)
    go more false t false u d v =
        cond-false _ _ _ u ∙ more ∙ sym (ap (λ r. cond (eqb (size p) k) (p ∷ r) r) (cond-false (eqb (size q) k) (q ∷ of_size k qs) (of_size k qs) u))

level_sorted : (k : ℕ) (ps : List Pair) → of_size k (sorted ps) ≡ of_size k ps
level_sorted k [] = refl
level_sorted k (p ∷ ps) = level_insert k p (sorted ps) ∙ ap (λ r. cond (eqb (size p) k) (p ∷ r) r) (level_sorted k ps)

level_filled : (k : ℕ) (ps : List Pair) → 0 < k → of_size k (filled ps) ≡ of_size k ps
level_filled k [] h = refl
level_filled k (p ∷ ps) h = go (level_filled k ps h) (eqb (size p) 0) refl
  where
    go : of_size k (filled ps) ≡ of_size k ps → (b : Bool) → eqb (size p) 0 ≡ b → of_size k (cond b (filled ps) (p ∷ filled ps)) ≡ of_size k (p ∷ ps)
    go more true t = more ∙ sym (cond-false _ _ _ (ne_eqb (size p) k (λ e. omega (arith, eqb-true (size p) 0 t))))
    go more false t = ap (λ r. cond (eqb (size p) k) (p ∷ r) r) more

none_filled : (ps : List Pair) → of_size 0 (filled ps) ≡ []
none_filled [] = refl
none_filled (p ∷ ps) = go (none_filled ps) (eqb (size p) 0) refl
  where
    go : of_size 0 (filled ps) ≡ [] → (b : Bool) → eqb (size p) 0 ≡ b → of_size 0 (cond b (filled ps) (p ∷ filled ps)) ≡ []
    go more true t = more
    go more false t = cond-false _ _ _ t ∙ more

pub order_holds : LongestFirst
order_holds ps =
    (falls_sorted (filled ps), level_sorted 0 (filled ps) ∙ none_filled ps, λ k h. level_sorted k (filled ps) ∙ level_filled k ps h)
