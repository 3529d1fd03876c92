-- A close in Braced stands behind a balanced body, and behind nothing else.
use Rattle.std.proofs.Common.{◌≡◌, ℕ, zero, suc, ◌+◌, true, false, eqb, ◌⊎◌, List, [], ◌∷◌, ◌++◌, length, Some, sym, refl, ap, ◌∙◌, subst, inl, inr, append_assoc, add-one, arith, length-append}
use Rattle.std.proofs.lemmas.Bool.{and_right, and_parts, both_ways, cases_Bool, cases_eq, cond-true, cond-false, eqb-true, eq-eqb, ne_eqb}
use Rattle.closes.specs.Braced.{braced, braced_close, braced_turn}
use Rattle.closes.specs.CloseLaws.{Body, empty, plain, inner, BracedClose}
use Rattle.closes.specs.Fronts.{opens}
use Rattle.closes.specs.Search.{goes, found}
use Rattle.closes.proofs.SearchLaws.{turned}

-- what begins no `${` begins none before a `}` either, and the other way round
opens_on : (b : ℕ) (bs ys : List ℕ) → opens b bs ≡ false → opens b (bs ++ 125 ∷ ys) ≡ false
opens_on b [] ys h = and_right (eqb 36 b) false refl
opens_on b (c ∷ bs) ys h = h

opens_off : (b : ℕ) (bs ys : List ℕ) → opens b (bs ++ 125 ∷ ys) ≡ false → opens b bs ≡ false
opens_off b [] ys h = and_right (eqb 36 b) false refl
opens_off b (c ∷ bs) ys h = h

-- the search passes over a body and keeps its levels
past : (xs : List ℕ) → Body xs → (n i : ℕ) (ys : List ℕ) → found braced n i (xs ++ 125 ∷ ys) ≡ found braced n (i + length xs) (125 ∷ ys)
past xs empty n i ys = ap (λ j. found braced n j (125 ∷ ys)) (omega arith)
past xs (plain b bs h o p) n i ys =
    let t : braced_turn n i b (bs ++ 125 ∷ ys) ≡ goes n = cond-false _ _ _ (ne_eqb b 125 h) ∙ cond-false _ _ _ (opens_on b bs ys o) in
    let up : i + 1 + length bs ≡ i + length (b ∷ bs) = omega arith in
    turned braced n i b (bs ++ 125 ∷ ys) t ∙ past bs p n (i + 1) ys ∙ ap (λ j. found braced n j (125 ∷ ys)) up
past xs (inner bs cs p q) n i ys =
    let rest = cs ++ 125 ∷ ys in
    let j = i + 1 + 1 + length bs in
    let e : (bs ++ 125 ∷ cs) ++ 125 ∷ ys ≡ bs ++ 125 ∷ rest = append_assoc bs (125 ∷ cs) (125 ∷ ys) in
    let t : braced_turn (n + 1) j 125 rest ≡ goes n = cond-false _ _ _ (ne_eqb (n + 1) 0 (λ z. omega arith)) ∙ ap goes (omega arith) in
    let up : j + 1 + length cs ≡ i + length (36 ∷ 123 ∷ (bs ++ 125 ∷ cs)) = omega (arith, length-append bs (125 ∷ cs)) in
    ap (found braced (n + 1) (i + 1 + 1)) e ∙ past bs p (n + 1) (i + 1 + 1) rest ∙ turned braced (n + 1) j 125 rest t
    ∙ past cs q n (j + 1) ys ∙ ap (λ k. found braced n k (125 ∷ ys)) up

pub body_close : (bs : List ℕ) (k : ℕ) → BracedClose bs k → braced_close bs ≡ Some k
body_close bs k c =
    ap braced_close c.whole ∙ past c.body c.balanced 0 0 c.behind ∙ ap Some (omega (arith, c.place))

-- Bodies that end n open levels, each but the last with its `}`.
abbrev Bodies : ℕ → List ℕ → Type 0
Bodies zero zs = Body zs
Bodies (suc n) zs = (xs : List ℕ) × (ys : List ℕ) × (zs ≡ xs ++ 125 ∷ ys) × Body xs × Bodies n ys

bodies_plain : (n b : ℕ) (zs behind : List ℕ) → (b ≡ 125 → ⊥) → opens b (zs ++ 125 ∷ behind) ≡ false → Bodies n zs → Bodies n (b ∷ zs)
bodies_plain zero b zs behind h o p = plain b zs h (opens_off b zs behind o) p
bodies_plain (suc n) b zs behind h o p =
    let xs = p.0 in
    let ys = p.1 in
    let e = ap (λ q. opens b (q ++ 125 ∷ behind)) p.2 ∙ ap (opens b) (append_assoc xs (125 ∷ ys) (125 ∷ behind)) in
    (b ∷ xs, ys, ap (λ q. b ∷ q) p.2, plain b xs h (opens_off b xs (ys ++ 125 ∷ behind) (sym e ∙ o)) p.3, p.4)

bodies_inner : (n : ℕ) (xs ys : List ℕ) → Body xs → Bodies n ys → Bodies n (36 ∷ 123 ∷ (xs ++ 125 ∷ ys))
bodies_inner zero xs ys p q = inner xs ys p q
bodies_inner (suc n) xs ys p q =
    let us = q.0 in
    let vs = q.1 in
    let e = ap (λ z. xs ++ 125 ∷ z) q.2 ∙ sym (append_assoc xs (125 ∷ us) (125 ∷ vs)) in
    (36 ∷ 123 ∷ (xs ++ 125 ∷ us), vs, ap (λ z. 36 ∷ 123 ∷ z) e, inner xs us p q.3, q.4)

-- a body that begins with `{` is one behind it too
behind_brace : (zs xs : List ℕ) → Body zs → zs ≡ 123 ∷ xs → Body xs
behind_brace zs xs empty e = let z : ◌≡◌ {A = ℕ} 0 1 = cc in absurd (omega arith)
behind_brace zs xs (plain b bs h o p) e = let tail : bs ≡ xs = cc in subst Body tail p
behind_brace zs xs (inner bs cs p q) e = let z : ◌≡◌ {A = ℕ} 36 123 = cc in absurd (omega arith)

-- The bytes bs begin with bodies that end n levels, and `}` follows at k; i is the place of the first byte.
record Ending (n i : ℕ) (bs : List ℕ) (k : ℕ) : Type 0 where
  front : List ℕ
  behind : List ℕ
  whole : bs ≡ front ++ 125 ∷ behind
  bodies : Bodies n front
  place : k ≡ i + length front

-- one byte before such bytes: a plain one, a `}`, and the `$` of `${`
ending_plain : (n i k b : ℕ) (bs : List ℕ) → (b ≡ 125 → ⊥) → opens b bs ≡ false → Ending n (i + 1) bs k → Ending n i (b ∷ bs) k
ending_plain n i k b bs h o e =
    record {
      front = b ∷ e.front;
      behind = e.behind;
      whole = ap (λ q. b ∷ q) e.whole;
      bodies = bodies_plain n b e.front e.behind h (sym (ap (opens b) e.whole) ∙ o) e.bodies;
      place = omega (arith, e.place);
    }

ending_close : (n i k : ℕ) (bs : List ℕ) → Ending n (i + 1) bs k → Ending (suc n) i (125 ∷ bs) k
ending_close n i k bs e =
    record {
      front = 125 ∷ e.front;
      behind = e.behind;
      whole = ap (λ q. 125 ∷ q) e.whole;
      bodies = ([], e.front, refl, empty, e.bodies);
      place = omega (arith, e.place);
    }

ending_inner : (n i k : ℕ) (bs : List ℕ) → Ending (suc n) (i + 1) (123 ∷ bs) k → Ending n i (36 ∷ 123 ∷ bs) k
ending_inner n i k bs e = go e.bodies.0 e.bodies.2 e.bodies.3
  where
    ys : List ℕ
    ys = e.bodies.1

    go : (xs : List ℕ) → e.front ≡ xs ++ 125 ∷ ys → Body xs → Ending n i (36 ∷ 123 ∷ bs) k
    go [] h p = let whole = e.whole ∙ ap (λ q. q ++ 125 ∷ e.behind) h in let z : ◌≡◌ {A = ℕ} 123 125 = cc in absurd (omega arith)
    go (x ∷ xs) h p =
        let whole = e.whole ∙ ap (λ q. q ++ 125 ∷ e.behind) h in
        let x_is : 123 ≡ x = cc in
        let front = ap (λ (q : ℕ). q ∷ (xs ++ 125 ∷ ys)) (sym x_is) in
        record {
          front = 36 ∷ 123 ∷ (xs ++ 125 ∷ ys);
          behind = e.behind;
          whole = ap (λ q. 36 ∷ q) (e.whole ∙ ap (λ q. q ++ 125 ∷ e.behind) (h ∙ front));
          bodies = bodies_inner n xs ys (behind_brace (x ∷ xs) xs p (ap (λ (q : ℕ). q ∷ xs) (sym x_is))) e.bodies.4;
          place = omega (arith, e.place, ap length h);
        }

-- what the first byte of a search that finds a close says, with what is known behind it
module _ (b : ℕ) (bs : List ℕ) (i k : ℕ) (on : (m : ℕ) → found braced m (i + 1) bs ≡ Some k → Ending m (i + 1) bs k) where
  step_close : (n : ℕ) → b ≡ 125 → found braced n i (b ∷ bs) ≡ Some k → Ending n i (125 ∷ bs) k
  step_close zero h e =
      let t = cond-true (eqb b 125) _ _ (eq-eqb b 125 h) in
      let here : Some i ≡ Some k = sym (turned braced 0 i b bs t) ∙ e in
      let same : i ≡ k = cc in
      record { front = []; behind = bs; whole = refl; bodies = empty; place = omega arith }
  step_close (suc n) h e =
      let t : braced_turn (suc n) i b bs ≡ goes n = cond-true _ _ _ (eq-eqb b 125 h) ∙ cond-false _ _ _ (ne_eqb (suc n) 0 (λ z. omega arith)) ∙ ap goes (omega arith) in
      ending_close n i k bs (on n (sym (turned braced (suc n) i b bs t) ∙ e))

  step_plain : (n : ℕ) → (b ≡ 125 → ⊥) → opens b bs ≡ false → found braced n i (b ∷ bs) ≡ Some k → Ending n i (b ∷ bs) k
  step_plain n h o e =
      let t : braced_turn n i b bs ≡ goes n = cond-false _ _ _ (ne_eqb b 125 h) ∙ cond-false _ _ _ o in
      ending_plain n i k b bs h o (on n (sym (turned braced n i b bs t) ∙ e))

  step_inner : (n : ℕ) → (b ≡ 125 → ⊥) → opens b bs ≡ true → found braced n i (b ∷ bs) ≡ Some k → Ending (suc n) (i + 1) bs k
  step_inner n h o e =
      let t : braced_turn n i b bs ≡ goes (suc n) = cond-false _ _ _ (ne_eqb b 125 h) ∙ cond-true _ _ _ o ∙ ap goes (add-one n) in
      on (suc n) (sym (turned braced n i b bs t) ∙ e)

-- `${` as bytes
opened : (b : ℕ) (bs : List ℕ) → opens b bs ≡ true → (cs : List ℕ) × (b ∷ bs ≡ 36 ∷ 123 ∷ cs)
opened b [] o = absurd (both_ways _ (and_right (eqb 36 b) false refl) o)
opened b (c ∷ cs) o =
    let p = and_parts (eqb 36 b) _ o in
    let q = and_parts (eqb 123 c) true p.1 in
    (cs, ap (λ (x : ℕ). x ∷ c ∷ cs) (sym (eqb-true 36 b p.0)) ∙ ap (λ (x : ℕ). 36 ∷ x ∷ cs) (sym (eqb-true 123 c q.0)))

step_on : (b : ℕ) (bs : List ℕ) (n i k : ℕ) → ((m : ℕ) → found braced m (i + 1) bs ≡ Some k → Ending m (i + 1) bs k) → found braced n i (b ∷ bs) ≡ Some k → Ending n i (b ∷ bs) k
step_on b bs n i k on e = go (cases_eq b 125) (cases_Bool (opens b bs))
  where
    go : (b ≡ 125) ⊎ (b ≡ 125 → ⊥) → (opens b bs ≡ true) ⊎ (opens b bs ≡ false) → Ending n i (b ∷ bs) k
    go (inl h) o = subst (λ (x : ℕ). Ending n i (x ∷ bs) k) (sym h) (step_close b bs i k on n h e)
    go (inr h) (inl o) =
        let p = opened b bs o in
        let eq = p.1 in
        let tail : bs ≡ 123 ∷ p.0 = cc in
        let up = subst (λ q. Ending (suc n) (i + 1) q k) tail (step_inner b bs i k on n h o e) in
        subst (λ q. Ending n i q k) (sym eq) (ending_inner n i k p.0 up)
    go (inr h) (inr o) = step_plain b bs i k on n h o e

ends_at : (bs : List ℕ) (n i k : ℕ) → found braced n i bs ≡ Some k → Ending n i bs k
ends_at [] n i k e = let z : ◌≡◌ {A = ℕ} 0 1 = cc in absurd (omega arith)
ends_at (b ∷ bs) n i k e = step_on b bs n i k (λ m. ends_at bs m (i + 1) k) e

pub close_body : (bs : List ℕ) (k : ℕ) → braced_close bs ≡ Some k → BracedClose bs k
close_body bs k e =
    let p = ends_at bs 0 0 k e in
    record { body = p.front; behind = p.behind; whole = p.whole; balanced = p.bodies; place = omega (arith, p.place) }
