-- What holds of a close in every syntax.
use Rattle.std.proofs.Common.{◌≡◌, ℕ, ◌<◌, List, ◌∷◌, ◌++◌, length, IfSome, IfOk, Some, None, Option, Result, sym, refl, ap, ◌∙◌, subst, append_assoc, arith, length-append}
use Rattle.budget.specs.declared.WorkBudget.{WorkBudget}
use Rattle.budget.specs.declared.WorkFault.{WorkFault}
use Rattle.budget.specs.Charges.{Work, taken, over, ending, paid, works}
use Rattle.names.specs.declared.PropertySyntax.{PropertySyntax}
use Rattle.names.specs.declared.PropertySyntax.TheVariants.{Braced, BracedOrBare, DockerCompose}
use Rattle.names.proofs.ReadLaws.{named}
use Rattle.closes.specs.CloseLaws.{BracedClose, Closes, Complete, ComposeClose, Sound}
use Rattle.closes.specs.Closes.{close}
use Rattle.closes.proofs.BodyLaws.{body_close, close_body}
use Rattle.closes.proofs.LineLaws.{close_line, line_close}

pub sound : (s : PropertySyntax) (bs : List ℕ) → Sound s bs
sound Braced bs = close_body bs
sound BracedOrBare bs = close_body bs
sound DockerCompose bs = close_line bs

pub complete : (s : PropertySyntax) (bs : List ℕ) → Complete s bs
complete Braced bs = body_close bs
complete BracedOrBare bs = body_close bs
complete DockerCompose bs = line_close bs

-- The bytes before a close, and those behind it.
pub record Split (bs : List ℕ) (k : ℕ) : Type 0 where
  pub front : List ℕ
  pub behind : List ℕ
  pub whole : bs ≡ front ++ 125 ∷ behind
  pub place : k ≡ length front

braced_split : (bs : List ℕ) (k : ℕ) → BracedClose bs k → Split bs k
braced_split bs k c = record { front = c.body; behind = c.behind; whole = c.whole; place = c.place }

compose_split : (bs : List ℕ) (k : ℕ) → ComposeClose bs k → Split bs k
compose_split bs k c =
    let n = named DockerCompose bs _ (sym c.named) in
    let join = append_assoc (c.name ++ c.operator) c.text (125 ∷ c.behind) ∙ append_assoc c.name c.operator (c.text ++ 125 ∷ c.behind) in
    record {
      front = (c.name ++ c.operator) ++ c.text;
      behind = c.behind;
      whole = n.whole ∙ sym join;
      place = omega (arith, c.place, length-append (c.name ++ c.operator) c.text, length-append c.name c.operator);
    }

split_of : (s : PropertySyntax) (bs : List ℕ) (k : ℕ) → Closes s bs k → Split bs k
split_of Braced bs k c = braced_split bs k c
split_of BracedOrBare bs k c = braced_split bs k c
split_of DockerCompose bs k c = compose_split bs k c

pub close_split : (s : PropertySyntax) (bs : List ℕ) (k : ℕ) → close s bs ≡ Some k → Split bs k
close_split s bs k e = split_of s bs k (sound s bs k e)

-- a close is within the bytes
pub close_within : (s : PropertySyntax) (bs : List ℕ) (k : ℕ) → close s bs ≡ Some k → k < length bs
close_within s bs k e =
    let p = close_split s bs k e in
    omega (arith, ap length p.whole, length-append p.front (125 ∷ p.behind), p.place)

-- the same of an answer
within_cases : (n : ℕ) (o : Option ℕ) → ((k : ℕ) → o ≡ Some k → k < n) → IfSome o (λ k. k < n)
within_cases n None h = tt
within_cases n (Some k) h = h k refl

pub within_made : {r : Result (Option ℕ) WorkFault} (w : WorkBudget) (ks : List ℕ) (s : PropertySyntax) (bs : List ℕ) → r ≡ paid w ks (close s bs)
    → IfOk r (λ o. IfSome o (λ k. k < length bs))
within_made w ks s bs e =
    let here = within_cases (length bs) (close s bs) (close_within s bs) in
    subst (λ r. IfOk r (λ o. IfSome o (λ k. k < length bs))) (sym e) (go (works w ks) here)
  where
    go : (v : Work) → IfSome (close s bs) (λ k. k < length bs) → IfOk (ending v w.limit (close s bs)) (λ o. IfSome o (λ k. k < length bs))
    go (taken t) h = h
    go (over t) h = tt
