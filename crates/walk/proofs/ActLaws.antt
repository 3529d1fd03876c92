-- What every item keeps: where its selected text lies, and how it refuses.
use Rattle.std.proofs.Common.{◌≡◌, ℕ, suc, ◌+◌, ◌-◌, Bool, true, false, cond, eqb, List, [], ◌∷◌, ◌++◌, length, take, drop, Some, None, Option, sym, refl, ap, ◌∙◌, append_assoc, arith, take-append-drop}
use Rattle.names.specs.declared.PropertySyntax.{PropertySyntax}
use Rattle.names.specs.declared.PropertySyntax.TheVariants.{Braced, BracedOrBare, DockerCompose}
use Rattle.names.specs.Names.{name_end}
use Rattle.names.specs.Glyphs.{glyphs}
use Rattle.names.specs.Reads.{name_at, name_looks}
use Rattle.closes.specs.Closes.{close}
use Rattle.closes.specs.Fronts.{begins}
use Rattle.source.specs.Shapes.{Shape, unset, empty, filled}
use Rattle.references.specs.Operators.{plain, operated, Operator, default, alternate, error, Yield, value, nothing, word, refusal, posix, op_at}
use Rattle.references.specs.Braces.{Brace, brace, reference, unclosed, with_close, with_name, with_op}
use Rattle.items.specs.Pieces.{lit}
use Rattle.walk.specs.Endings.{has_message}
use Rattle.items.specs.Items.{Act, keep, replace, select, require, refuse, Item, allows_bare, bare_act, bare_item, bare_more, brace_act, brace_more, braced_item, dollar, item, plain_act, second, yield_act}

-- the last bytes of a text
pub record Tail (w xs : List ℕ) : Type 0 where
  pub front : List ℕ
  pub is : xs ≡ front ++ w

pub tail_drop : (n : ℕ) (xs : List ℕ) → Tail (drop n xs) xs
tail_drop n xs = record { front = take n xs; is = sym (take-append-drop n xs) }

pub tail_trans : (a b c : List ℕ) → Tail a b → Tail b c → Tail a c
tail_trans a b c p q = record { front = q.front ++ p.front; is = q.is ∙ ap (λ l. q.front ++ l) p.is ∙ sym (append_assoc q.front p.front a) }

-- an act at the front of xs that takes n bytes behind the first
abbrev pub Fine : List ℕ → ℕ → Act → Type 0
Fine xs n (keep b) = n ≡ 0
Fine xs n (replace ps) = Unit {0}
Fine xs n (select at w) = Tail w (take n xs)
Fine xs n (require sh name at w) = Tail w (take n xs)
Fine xs n (refuse e) = has_message e ≡ false

plain_fine : (xs : List ℕ) (n : ℕ) (s : PropertySyntax) (sh : Shape) (from : ℕ) (name : List ℕ) → Fine xs n (plain_act s sh from name)
plain_fine xs n Braced unset from name = refl
plain_fine xs n BracedOrBare unset from name = refl
plain_fine xs n DockerCompose unset from name = tt
plain_fine xs n s empty from name = tt
plain_fine xs n s filled from name = tt

yield_fine : (xs : List ℕ) (n : ℕ) (y : Yield) (sh : Shape) (from : ℕ) (name : List ℕ) (at : ℕ) (w : List ℕ) → Tail w (take n xs) → Fine xs n (yield_act y sh from name at w)
yield_fine xs n value sh from name at w h = tt
yield_fine xs n nothing sh from name at w h = tt
yield_fine xs n word sh from name at w h = h
yield_fine xs n refusal sh from name at w h = h

module _ (sh : List ℕ → Shape) (s : PropertySyntax) (i left a b : ℕ) (cs : List ℕ) where
  -- what stands behind `${`
  abbrev BraceFine : Brace → Type 0
  BraceFine br = Fine (a ∷ b ∷ cs) (brace_more sh s br) (brace_act sh s i left br)

  unclosed_fine : (s : PropertySyntax) → Fine (a ∷ b ∷ cs) 0 (brace_act sh s i left unclosed)
  unclosed_fine Braced = refl
  unclosed_fine BracedOrBare = refl
  unclosed_fine DockerCompose = refl

  -- a word at the end of the bytes before the close
  lifted : (k : ℕ) (w : List ℕ) → Tail w (take k cs) → Tail w (take (k + 2) (a ∷ b ∷ cs))
  lifted k w p =
      let two : k + 2 ≡ suc (suc k) = omega arith in
      record { front = a ∷ b ∷ p.front; is = ap (λ n. take n (a ∷ b ∷ cs)) two ∙ ap (λ l. a ∷ b ∷ l) p.is }

  word_fine : (k : ℕ) (name : List ℕ) (o : Operator) (colon : Bool) (w : List ℕ) → Tail w (take k cs) → BraceFine (reference k name (operated o colon w))
  word_fine k name o colon w p = yield_fine (a ∷ b ∷ cs) (k + 2) (posix o colon (sh name)) (sh name) (i + 2) name (i + 2 + k - length w) w (lifted k w p)

  op_fine : (k : ℕ) (name rest : List ℕ) → Tail rest (take k cs) → BraceFine (with_op k name (op_at rest))
  op_fine k name rest p =
      go (eqb (length rest) 0) (begins (58 ∷ 45 ∷ []) rest) (begins (58 ∷ 43 ∷ []) rest) (begins (45 ∷ []) rest) (begins (43 ∷ []) rest) (begins (58 ∷ 63 ∷ []) rest) (begins (63 ∷ []) rest)
    where
      one : (o : Operator) (colon : Bool) (n : ℕ) → BraceFine (reference k name (operated o colon (drop n rest)))
      one o colon n = word_fine k name o colon (drop n rest) (tail_trans (drop n rest) rest (take k cs) (tail_drop n rest) p)

      go : (t q r u v x y : Bool) → BraceFine (with_op k name (cond t (Some plain) (cond q (Some (operated default true (drop 2 rest))) (cond r (Some (operated alternate true (drop 2 rest))) (cond u (Some (operated default false (drop 1 rest)))
          (cond v (Some (operated alternate false (drop 1 rest))) (cond x (Some (operated error true (drop 2 rest))) (cond y (Some (operated error false (drop 1 rest))) None))))))))
      go true q r u v x y = plain_fine (a ∷ b ∷ cs) (k + 2) s (sh name) (i + 2) name
      go false true r u v x y = one default true 2
      go false false true u v x y = one alternate true 2
      go false false false true v x y = one default false 1
      go false false false false true x y = one alternate false 1
      go false false false false false true y = one error true 2
      go false false false false false false true = one error false 1
      go false false false false false false false = refl

  name_fine : (k n : ℕ) (t : Bool) → BraceFine (with_name k (cond t None (Some (take n (take k cs), drop n (take k cs)))))
  name_fine k n true = refl
  name_fine k n false = op_fine k (take n (take k cs)) (drop n (take k cs)) (tail_drop n (take k cs))

  close_fine : (o : Option ℕ) → BraceFine (with_close s cs o)
  close_fine None = unclosed_fine s
  close_fine (Some k) = name_fine k (name_end s 0 (glyphs (take k cs))) (eqb (name_end s 0 (glyphs (take k cs))) 0)

  pub brace_fine : Fine (a ∷ b ∷ cs) (brace_more sh s (brace s cs)) (brace_act sh s i left (brace s cs))
  brace_fine = close_fine (close s cs)

module _ (sh : List ℕ → Shape) (s : PropertySyntax) (i a : ℕ) where
  bare_fine : (xs : List ℕ) (o : Option (List ℕ × List ℕ)) → Fine xs (bare_more sh s o) (bare_act sh s i o)
  bare_fine xs None = refl
  bare_fine xs (Some p) = plain_fine xs (length p.0) s (sh p.0) (i + 1) p.0

  abbrev bare_by : List ℕ → Bool → Item
  bare_by bs t = cond t (record { looks = name_looks s bs; act = bare_act sh s i (name_at s bs); more = bare_more sh s (name_at s bs) }) (record { looks = []; act = keep 36; more = 0 })

  bare_item_fine : (xs bs : List ℕ) (t : Bool) → Fine xs (bare_by bs t).more (bare_by bs t).act
  bare_item_fine xs bs true = bare_fine xs (name_at s bs)
  bare_item_fine xs bs false = refl

  -- behind a `$`, by whether `$` or `{` follows
  abbrev by : ℕ → List ℕ → Bool → Bool → Item
  by c cs t u = cond t (second (record { looks = []; act = replace (lit 36 ∷ []); more = 1 })) (cond u (second (braced_item sh s i cs)) (second (bare_item sh s i (c ∷ cs))))

  dollar_fine : (bs : List ℕ) → Fine (a ∷ bs) (dollar sh s i bs).more (dollar sh s i bs).act
  dollar_fine [] = refl
  dollar_fine (c ∷ cs) = go (eqb c 36) (eqb c 123)
    where
      go : (t u : Bool) → Fine (a ∷ c ∷ cs) (by c cs t u).more (by c cs t u).act
      go true u = tt
      go false true = brace_fine sh s i (length cs) a c cs
      go false false = bare_item_fine (a ∷ c ∷ cs) (c ∷ cs) (allows_bare s)

  pub item_fine : (bs : List ℕ) → Fine (a ∷ bs) (item sh s i a bs).more (item sh s i a bs).act
  unfolding item
  item_fine bs = go (eqb a 36)
    where
      go : (t : Bool) → Fine (a ∷ bs) (cond t (dollar sh s i bs) (record { looks = 1 ∷ []; act = keep a; more = 0 })).more (cond t (dollar sh s i bs) (record { looks = 1 ∷ []; act = keep a; more = 0 })).act
      go true = dollar_fine bs
      go false = refl
