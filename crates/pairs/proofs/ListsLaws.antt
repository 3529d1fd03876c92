-- What the searches through a list of pairs find. Assumes nothing.
use Rattle.std.proofs.Common.{◌≡◌, ℕ, ◌≤◌, max, Bool, true, false, cond, leb, List, [], ◌∷◌, length, map, unwrap_or, Some, refl, ap, ◌∙◌, arith}
use Rattle.std.proofs.lemmas.List.{length-drop, length-take}
use Rattle.std.proofs.lemmas.Bool.{cond-true, le-leb}
use Rattle.std.specs.List.{filter, find, fold, reduce}
use Rattle.std.specs.Option.{option_map}
use Rattle.std.specs.Str.{bytes_eq}
use Rattle.pairs.specs.Lookups.{lookup}
use Rattle.pairs.specs.Pairs.{Pair}
use Rattle.pairs.specs.Records.{pair_of, pairs_in}
use Rattle.pairs.specs.Sizes.{longest, size, size_within}
use Rattle.pairs.specs.declared.record.PairRecord.{PairRecord}

-- a look-up is a search for the first pair with the result
pub looked_up : (x : List ℕ) (ps : List Pair) → lookup ps x ≡ option_map (λ p. p.0) (find (λ (q : Pair). bytes_eq q.1 x) ps)
looked_up x [] = refl
looked_up x (p ∷ ps) = go (bytes_eq p.1 x) (looked_up x ps)
  where
    go : (b : Bool) → lookup ps x ≡ option_map (λ p. p.0) (find (λ (q : Pair). bytes_eq q.1 x) ps) →
        cond b (Some p.0) (lookup ps x) ≡ option_map (λ p. p.0) (cond b (Some p) (find (λ (q : Pair). bytes_eq q.1 x) ps))
    go true more = refl
    go false more = more

-- the greatest of some numbers, or 0
abbrev greatest : List ℕ → ℕ
greatest xs = unwrap_or (reduce max xs) 0

fold_greatest : (a : ℕ) (xs : List ℕ) → fold max a xs ≡ max a (greatest xs)
fold_greatest a [] = omega arith
fold_greatest a (x ∷ xs) = omega (arith, fold_greatest (max a x) xs, fold_greatest x xs)

pub best_within : (n : ℕ) (ps : List Pair) → greatest (filter (λ s. leb s n) (map size ps)) ≡ size_within n ps
best_within n [] = refl
best_within n (p ∷ ps) = go (leb (size p) n) (best_within n ps)
  where
    rest : List ℕ
    rest = filter (λ s. leb s n) (map size ps)

    go : (b : Bool) → greatest rest ≡ size_within n ps → greatest (cond b (size p ∷ rest) rest) ≡ cond b (max (size p) (size_within n ps)) (size_within n ps)
    go true more = fold_greatest (size p) rest ∙ ap (max (size p)) more
    go false more = more

-- no result is longer than the bytes that it lies in
pub all_longest : (bytes : List ℕ) (rs : List PairRecord) → size_within (length bytes) (pairs_in bytes rs) ≡ longest (pairs_in bytes rs)
all_longest bytes [] = refl
all_longest bytes (r ∷ rs) =
    let low : size (pair_of bytes r) ≤ length bytes = simp (length-take, length-drop) (omega arith) in
    cond-true _ _ _ (le-leb (size (pair_of bytes r)) (length bytes) low) ∙ ap (max (size (pair_of bytes r))) (all_longest bytes rs)
