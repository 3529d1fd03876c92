-- Steps of a redaction, and what is left of them. Assumes nothing.
use Rattle.std.proofs.Common.{◌≡◌, ℕ, zero, suc, ◌+◌, ◌<◌, Bool, true, false, cond, ◌||◌, if◌then◌else◌, List, [], ◌∷◌, ◌++◌, length, take, drop, Result, Err, sym, refl, ap, ◌∙◌, subst, arith}
use Rattle.std.proofs.lemmas.Bool.{cond-true, cond-false, eq-eqb, ne_eqb}
use Rattle.pairs.specs.Pairs.{Pair, has, same_pair}
use Rattle.pairs.specs.Sizes.{of_size, size}
use Rattle.pairs.proofs.News.{news}
use Rattle.redaction.specs.Drafts.{Kept, ending, given_up}
use Rattle.redaction.specs.Redactions.{State, step, steps}
use Rattle.redaction.specs.declared.draft.Draft.{Draft}
use Rattle.redaction.specs.declared.draft.Unmade.{Unmade}
use Rattle.redaction.specs.declared.draft.Unmade.TheVariants.{Often, TooShort}

pub steps_append : (n : ℕ) (s : State) (ps qs : List Pair) → steps n s (ps ++ qs) ≡ steps n (steps n s ps) qs
steps_append n s [] qs = refl
steps_append n s (p ∷ ps) qs = steps_append n (step n s p) ps qs

-- a redaction that was given up stays so
pub steps_given_up : (n : ℕ) (e : Unmade) (ps : List Pair) → steps n (given_up e) ps ≡ given_up e
steps_given_up n e [] = refl
steps_given_up n Often (p ∷ ps) = steps_given_up n Often ps
steps_given_up n (TooShort m) (p ∷ ps) = steps_given_up n (TooShort m) ps

pub passed_up : (d : Draft) (r : Result (Unit {0}) Unmade) (e f : Unmade) → r ≡ Err f → f ≡ e → ending d r ≡ given_up e
passed_up d r e f is same = ap (ending d) is ∙ ap given_up same

-- one step more
pub kept_by : {old mid new last : Draft} → new ≡ last → Kept old mid → Kept mid new → Kept old last
kept_by {old} {mid} {new} {last} is a b = subst (Kept old) is (record { given = b.given ∙ a.given; room = b.room ∙ a.room; lender = b.lender ∙ a.lender })

-- the pair at the front of what is left of a list
pub front_more : (ps : List Pair) (i : ℕ) (p : Pair) (rest : List Pair) → drop i ps ≡ p ∷ rest → (i < length ps) × (rest ≡ drop (i + 1) ps) × (take (i + 1) ps ≡ take i ps ++ (p ∷ []))
front_more [] zero p rest e = absurd (cc)
front_more [] (suc i) p rest e = absurd (cc)
front_more (q ∷ ps) zero p rest e =
    let same : q ≡ p = cc in
    let others : rest ≡ ps = cc in
    (omega arith, others, ap (λ x. x ∷ []) same)
front_more (q ∷ ps) (suc i) p rest e =
    let more = front_more ps i p rest e in
    let k : suc (i + 1) ≡ suc i + 1 = omega arith in
    (omega arith, more.1 ∙ ap (λ m. drop m (q ∷ ps)) k, ap (λ m. take m (q ∷ ps)) (sym k) ∙ ap (λ r. q ∷ r) more.2)

-- what is left of the pairs with k bytes, where those in `seen` came before
module _ (n k : ℕ) (seen : List Pair) (p : Pair) (rest : List Pair) where
  pub left_repeat : (s : State) → true ≡ has seen p → steps n s (of_size k (news seen (p ∷ rest))) ≡ steps n s (of_size k (news (seen ++ (p ∷ [])) rest))
  left_repeat s e = ap (λ q. steps n s (of_size k q)) (cond-true _ _ _ (sym e))

  other : (b : Bool) → (size p ≡ k → ⊥) → (ps : List Pair) → of_size k (cond b ps (p ∷ ps)) ≡ of_size k ps
  other true ne ps = refl
  other false ne ps = cond-false _ _ _ (ne_eqb (size p) k ne)

  pub left_other : (s : State) → (size p ≡ k → ⊥) → steps n s (of_size k (news seen (p ∷ rest))) ≡ steps n s (of_size k (news (seen ++ (p ∷ [])) rest))
  left_other s ne = ap (steps n s) (other (has seen p) ne (news (seen ++ (p ∷ [])) rest))

  pub left_taken : (s : State) → false ≡ has seen p → size p ≡ k → steps n s (of_size k (news seen (p ∷ rest))) ≡ steps n (step n s p) (of_size k (news (seen ++ (p ∷ [])) rest))
  left_taken s e l = ap (λ q. steps n s (of_size k q)) (cond-false _ _ _ (sym e)) ∙ ap (steps n s) (cond-true _ _ _ (eq-eqb (size p) k l))

  -- the next pair with k bytes: nothing is done for a repeat
  pub left_next : (s : State) → size p ≡ k → steps n s (of_size k (news seen (p ∷ rest))) ≡ steps n (if has seen p then s else step n s p) (of_size k (news (seen ++ (p ∷ [])) rest))
  left_next s l = go (has seen p) refl
    where
      go : (b : Bool) → has seen p ≡ b → steps n s (of_size k (news seen (p ∷ rest))) ≡ steps n (if b then s else step n s p) (of_size k (news (seen ++ (p ∷ [])) rest))
      go true h = left_repeat s (sym h)
      go false h = left_taken s (sym h) l

-- a pair that is one of the first is one of all
pub has_first : (m : ℕ) (ps : List Pair) (p : Pair) → true ≡ has (take m ps) p → true ≡ has ps p
has_first zero ps p e = absurd (cc)
has_first (suc m) [] p e = e
has_first (suc m) (q ∷ ps) p e = go (same_pair q p) (has_first m ps p) e
  where
    go : (b : Bool) → (true ≡ has (take m ps) p → true ≡ has ps p) → true ≡ (b || has (take m ps) p) → true ≡ (b || has ps p)
    go true more e = refl
    go false more e = more e
