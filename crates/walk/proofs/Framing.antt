-- A frame, item by item.
use Rattle.std.proofs.Common.{◌≡◌, ℕ, zero, suc, ◌+◌, ◌-◌, ◌≤◌, false, List, [], ◌∷◌, ◌++◌, length, take, drop, Some, None, Ok, Err, Option, Result, sym, refl, ap, ◌∙◌, subst, ap₂, append_assoc, add-zero, arith, length-append, take-append-drop, Bor}
use Rattle.std.proofs.Math.Seq.{drop-append_seam}
use Rattle.std.proofs.lemmas.List.{drop_all, drop-drop, drop-take, length-take, length-take-le, take-take}
use Rattle.budget.specs.declared.WorkBudget.{WorkBudget}
use Rattle.budget.specs.Charges.{Work, taken, over, spent, works}
use Rattle.names.specs.declared.PropertySyntax.{PropertySyntax}
use Rattle.source.specs.Shapes.{Shape, empty, shapes, unset, values}
use Rattle.items.specs.Pieces.{spelled}
use Rattle.references.specs.declared.error.PropertyError.{PropertyError}
use Rattle.references.specs.declared.error.PropertyError.TheVariants as E
use Rattle.items.specs.declared.action.Action.{Action}
use Rattle.items.specs.declared.action.Action.TheVariants.{Keep, Dollar, Property, Nothing, Interpolate}
use Rattle.items.specs.declared.action.FrameCompletion.{FrameCompletion}
use Rattle.items.specs.declared.action.FrameCompletion.TheVariants.{Root, Append, RequiredButUnset, RequiredButEmpty}
use Rattle.items.specs.declared.action.Step.{Step}
use Rattle.items.specs.Items.{Act, keep, replace, select, require, refuse, Item, item}
use Rattle.items.specs.Looks.{Ends, Looked, act_of, acted, charges_at, judged, look, looking, some_looked, step_of, with_next}
use Rattle.walk.specs.declared.state.Walk.{Walk}
use Rattle.expansion.specs.Events.{Event, acts, charges, frame}
use Rattle.expansion.specs.Walks.{run}
use Rattle.walk.specs.Endings.{has_message}
use Rattle.walk.specs.Frames.{Aim, Proper, Reached, Selectable, Stopped, Tells, room_of, text_of, worked}
use Rattle.walk.proofs.ActLaws.{Fine, Tail, item_fine}
use Rattle.walk.proofs.Reaching.{reach_charges, reach_same, stop_charges}

module _ (nested : ℕ → List ℕ → List Event → List Event) (d : ℕ) (s : PropertySyntax) (sh : List ℕ → Shape) where
  -- to skip bytes is to start behind them
  pub frame_skip : (k i : ℕ) (xs : List ℕ) (es : List Event) → frame nested d s sh i xs k es ≡ frame nested d s sh (i + k) (drop k xs) 0 es
  unfolding frame
  frame_skip zero i xs es = ap (λ n. frame nested d s sh n xs 0 es) (sym (add-zero i))
  frame_skip (suc k) i [] es = refl
  frame_skip (suc k) i (x ∷ xs) es = let e : i + 1 + k ≡ i + suc k = omega arith in frame_skip k (i + 1) xs es ∙ ap (λ n. frame nested d s sh n (drop k xs) 0 es) e

  -- one item, and then the frame behind it
  pub frame_item : (i b : ℕ) (bs xs : List ℕ) (es : List Event) → drop i xs ≡ b ∷ bs
      → frame nested d s sh i (drop i xs) 0 es
      ≡ charges (item sh s i b bs).looks (acts nested d s (item sh s i b bs).act (frame nested d s sh (i + 1 + (item sh s i b bs).more) (drop (i + 1 + (item sh s i b bs).more) xs) 0 es))
  unfolding frame
  frame_item i b bs xs es e =
      let it : Item = item sh s i b bs in
      let n : i + suc it.more ≡ i + 1 + it.more = omega arith in
      let rest : drop it.more bs ≡ drop (i + 1 + it.more) xs = ap (drop (suc it.more)) (sym e) ∙ drop-drop (suc it.more) i xs ∙ ap (λ k. drop k xs) n in
      ap (λ l. frame nested d s sh i l 0 es) e
      ∙ ap (λ q. charges it.looks (acts nested d s it.act q)) (frame_skip it.more (i + 1) bs es ∙ ap (λ l. frame nested d s sh (i + 1 + it.more) l 0 es) rest)

-- the text that was selected ends at the close
pub tail_at : (w xs : List ℕ) (i n : ℕ) → Tail w (take n (drop i xs)) → i + n ≤ length xs → w ≡ drop (i + n - length w) (take (i + n) xs)
tail_at w xs i n t h =
    let front = take i xs ++ t.front in
    let whole : take (i + n) xs ≡ front ++ w =
    sym (take-append-drop i (take (i + n) xs)) ∙ ap₂ (λ a b. a ++ b) (take-take i (i + n) xs (omega arith)) (drop-take i n xs ∙ t.is) ∙ sym (append_assoc (take i xs) t.front w) in
    let l = ap length whole ∙ length-append front w in
    let size = length-take-le (i + n) xs h in
    let k : length front ≡ i + n - length w = omega arith in
    let gone : drop (length front) (front ++ w) ≡ w = drop-append_seam front w in
    sym gone ∙ ap (λ m. drop m (front ++ w)) k ∙ ap (drop (i + n - length w)) (sym whole)

-- ## What a look found

-- a step at the place i of the bytes xs
pub record Found (sh : List ℕ → Shape) (s : PropertySyntax) (w : WorkBudget) (i : ℕ) (xs : List ℕ) (p : Step) : Type 0 where
  pub byte : ℕ
  pub behind : List ℕ
  pub at : drop i xs ≡ byte ∷ behind
  pub total : ℕ
  pub paid : works w (item sh s i byte behind).looks ≡ taken total
  pub does : act_of (p.next - 1) p.action ≡ (item sh s i byte behind).act
  pub ends : p.next ≡ i + 1 + (item sh s i byte behind).more

module _ (sh : List ℕ → Shape) (s : PropertySyntax) (w : WorkBudget) (i : ℕ) (xs : List ℕ) where
  found_by : (p : Step) (b : ℕ) (bs : List ℕ) → drop i xs ≡ b ∷ bs → (v : Work) → works w (item sh s i b bs).looks ≡ v → (a : Act) → (item sh s i b bs).act ≡ a
      → Ok (Some (step_of p)) ≡ some_looked (judged v w.limit (with_next (acted a) (i + 1 + (item sh s i b bs).more))) → Found sh s w i xs p
  found_by p b bs at (over t) h a g e = let z : ◌≡◌ {A = ℕ} 0 1 = cc in absurd (omega arith)
  found_by p b bs at (taken t) h a g e = go a g e
    where
      seen : (a : Act) → (item sh s i b bs).act ≡ a → step_of p ≡ record { act = a; next = i + 1 + (item sh s i b bs).more } → Found sh s w i xs p
      seen a g q = record { byte = b; behind = bs; at = at; total = t; paid = h; does = ap (λ (l : Looked). l.act) q ∙ sym g; ends = ap (λ (l : Looked). l.next) q }

      go : (a : Act) → (item sh s i b bs).act ≡ a → Ok (Some (step_of p)) ≡ some_looked (judged (taken t) w.limit (with_next (acted a) (i + 1 + (item sh s i b bs).more))) → Found sh s w i xs p
      go (refuse x) g e = let z : ◌≡◌ {A = ℕ} 0 1 = cc in absurd (omega arith)
      go (keep x) g e = seen _ g cc
      go (replace x) g e = seen _ g cc
      go (select x y) g e = seen _ g cc
      go (require x y u v) g e = seen _ g cc

  found_in : (p : Step) (ys : List ℕ) → drop i xs ≡ ys → Ok (Some (step_of p)) ≡ look sh s i w ys → Found sh s w i xs p
  found_in p [] at e = let z : ◌≡◌ {A = ℕ} 0 1 = cc in absurd (omega arith)
  found_in p (b ∷ bs) at e = found_by p b bs at _ refl _ refl e

  pub found : (p : Step) → Ok (Some (step_of p)) ≡ look sh s i w (drop i xs) → Found sh s w i xs p
  found p e = found_in p (drop i xs) refl e

  none_in : (ys : List ℕ) → drop i xs ≡ ys → Ok None ≡ look sh s i w ys → drop i xs ≡ []
  none_in [] at e = at
  none_in (b ∷ bs) at e = go (looking w i (item sh s i b bs)) e
    where
      go : (r : Result Looked PropertyError) → Ok None ≡ some_looked r → drop i xs ≡ []
      go (Ok l) e = let z : ◌≡◌ {A = ℕ} 0 1 = cc in absurd (omega arith)
      go (Err x) e = let z : ◌≡◌ {A = ℕ} 0 1 = cc in absurd (omega arith)

  -- nothing is left
  pub found_none : Ok None ≡ look sh s i w (drop i xs) → drop i xs ≡ []
  found_none e = none_in (drop i xs) refl e

module _ {means : List ℕ → Option (List ℕ)} {deep : ℕ} {aim : Aim} {left : ℕ} {now : Walk} {w : WorkBudget} (nested : ℕ → List ℕ → List Event → List Event) (d : ℕ) (s : PropertySyntax) (i : ℕ) (xs : List ℕ) (es : List Event)
    (spends : w ≡ spent now.work (charges_at (shapes means) s i (drop i xs))) (r : Reached means deep aim left (frame nested d s (shapes means) i (drop i xs) 0 es) now) where
  -- the frame's end
  pub reach_end : drop i xs ≡ [] → Reached means deep aim left es (worked w now)
  unfolding frame
  reach_end e =
      let same : w ≡ now.work = spends ∙ ap (λ l. spent now.work (charges_at (shapes means) s i l)) e in
      subst (λ v. Reached means deep aim left es (worked v now)) (sym same) (reach_same (ap (λ l. frame nested d s (shapes means) i l 0 es) e) r)

  -- a step
  pub reach_step : (p : Step) → Found (shapes means) s now.work i xs p
      → Reached means deep aim left (acts nested d s (act_of (p.next - 1) p.action) (frame nested d s (shapes means) p.next (drop p.next xs) 0 es)) (worked w now)
  reach_step p f =
      let it : Item = item (shapes means) s i f.byte f.behind in
      let on = reach_charges _ it.looks f.total (spends ∙ ap (λ l. spent now.work (charges_at (shapes means) s i l)) f.at) f.paid (reach_same (frame_item nested d s (shapes means) i f.byte f.behind xs es f.at) r) in
      reach_same (ap₂ (λ a n. acts nested d s a (frame nested d s (shapes means) n (drop n xs) 0 es)) (sym f.does) (sym f.ends)) on

  stop_by : (e : PropertyError) (b : ℕ) (bs : List ℕ) → drop i xs ≡ b ∷ bs → (v : Work) → works now.work (item (shapes means) s i b bs).looks ≡ v → (a : Act) → (item (shapes means) s i b bs).act ≡ a
      → Err e ≡ some_looked (judged v now.work.limit (with_next (acted a) (i + 1 + (item (shapes means) s i b bs).more))) → Stopped aim (worked w now) e
  unfolding run
  stop_by e b bs at (over t) h a g q =
      let is : e ≡ E.ExpansionWorkLimitExceeded t now.work.limit = cc in
      subst (Stopped aim (worked w now)) (sym is) (stop_charges _ _ t (spends ∙ ap (λ l. spent now.work (charges_at (shapes means) s i l)) at) h (reach_same (frame_item nested d s (shapes means) i b bs xs es at) r))
  stop_by e b bs at (taken t) h (refuse x) g q =
      let is : e ≡ x = cc in
      let fine : has_message x ≡ false = subst (Fine (b ∷ bs) (item (shapes means) s i b bs).more) g (item_fine (shapes means) s i b bs) in
      let on = reach_charges _ _ t (spends ∙ ap (λ l. spent now.work (charges_at (shapes means) s i l)) at) h (reach_same (frame_item nested d s (shapes means) i b bs xs es at) r) in
      let end = reach_same (ap (λ a. acts nested d s a (frame nested d s (shapes means) (i + 1 + (item (shapes means) s i b bs).more) (drop (i + 1 + (item (shapes means) s i b bs).more) xs) 0 es)) g) on in
      subst (Stopped aim (worked w now)) (sym is) (record { bound = end.bound; told = []; is = sym end.goes; short = omega arith; tells = subst (λ b. Tells b now.out.now aim.lent []) (sym fine) refl; old = spelled (values means) end.pieces; holds = end.holds })
  stop_by e b bs at (taken t) h (keep x) g q = let z : ◌≡◌ {A = ℕ} 0 1 = cc in absurd (omega arith)
  stop_by e b bs at (taken t) h (replace x) g q = let z : ◌≡◌ {A = ℕ} 0 1 = cc in absurd (omega arith)
  stop_by e b bs at (taken t) h (select x y) g q = let z : ◌≡◌ {A = ℕ} 0 1 = cc in absurd (omega arith)
  stop_by e b bs at (taken t) h (require x y u v) g q = let z : ◌≡◌ {A = ℕ} 0 1 = cc in absurd (omega arith)

  stop_in : (e : PropertyError) (ys : List ℕ) → drop i xs ≡ ys → Err e ≡ look (shapes means) s i now.work ys → Stopped aim (worked w now) e
  stop_in e [] at q = let z : ◌≡◌ {A = ℕ} 0 1 = cc in absurd (omega arith)
  stop_in e (b ∷ bs) at q = stop_by e b bs at _ refl _ refl q

  -- a refusal
  pub stop_look : (e : PropertyError) → Err e ≡ look (shapes means) s i now.work (drop i xs) → Stopped aim (worked w now) e
  stop_look e q = stop_in e (drop i xs) refl q

-- ## Where a step lies

pub record Lies (i : ℕ) (xs : List ℕ) (p : Step) : Type 0 where
  pub lies : Selectable (p.next - 1) p.action
  pub text : text_of p.action ≡ drop (p.next - 1 - length (text_of p.action)) (take (p.next - 1) xs)
  pub room : room_of p.action + (length xs - p.next) ≤ length xs - i
  pub fits : length (text_of p.action) ≤ p.next - 1

module _ (sh : List ℕ → Shape) (s : PropertySyntax) (w : WorkBudget) (i : ℕ) (xs : List ℕ) where
  nothing : (next : ℕ) → next ≤ length xs → [] ≡ drop (next - 1 - 0) (take (next - 1) xs)
  nothing next h = sym (drop_all (next - 1 - 0) (take (next - 1) xs) (omega (arith, length-take (next - 1) xs)))

  module _ (next : ℕ) (a : Action) (f : Found sh s w i xs (record { action = a; next = next })) where
    abbrev it : Item
    it = item sh s i f.byte f.behind

    fine : (b : Act) → b ≡ it.act → Fine (f.byte ∷ f.behind) it.more b
    fine b e = subst (Fine (f.byte ∷ f.behind) it.more) (sym e) (item_fine sh s i f.byte f.behind)

    placed : (v : List ℕ) → Tail v (take it.more (f.byte ∷ f.behind)) → next ≤ length xs → v ≡ drop (next - 1 - length v) (take (next - 1) xs)
    placed v t h =
        let n : i + it.more ≡ next - 1 = omega (arith, f.ends) in
        let e = tail_at v xs i it.more (subst (λ l. Tail v (take it.more l)) (sym f.at) t) (omega (arith, f.ends)) in
        e ∙ ap (λ k. drop (k - length v) (take k xs)) n

  chosen_lies : (text : Bor (List ℕ)) (completion : FrameCompletion) (next : ℕ) → Proper completion → text.now ≡ drop (next - 1 - length text.now) (take (next - 1) xs) → Ends (length xs) i (Interpolate text completion) next
      → Lies i xs (record { action = Interpolate text completion; next = next })
  chosen_lies text completion next p e h =
      let h0 = h.0 in
      let h1 = h.1 in
      record { lies = (omega arith, p); text = e; room = omega arith; fits = omega arith }

  lies_by : (a : Action) (next : ℕ) → Found sh s w i xs (record { action = a; next = next }) → Ends (length xs) i a next → Lies i xs (record { action = a; next = next })
  lies_by (Keep b) next f h = record { lies = tt; text = nothing next h.1; room = omega (arith, h.0, h.1); fits = omega arith }
  lies_by Dollar next f h = record { lies = tt; text = nothing next h.1; room = omega (arith, h.0, h.1); fits = omega arith }
  lies_by (Property name len) next f h = record { lies = tt; text = nothing next h.1; room = omega (arith, h.0, h.1); fits = omega arith }
  lies_by Nothing next f h = record { lies = tt; text = nothing next h.1; room = omega (arith, h.0, h.1); fits = omega arith }
  lies_by (Interpolate text Root) next f h = let z : (it next (Interpolate text Root) f).more ≡ 0 = fine next (Interpolate text Root) f (keep 0) f.does in absurd (omega (arith, h.0, f.ends))
  lies_by (Interpolate text Append) next f h =
      chosen_lies text Append next tt (placed next (Interpolate text Append) f text.now (fine next (Interpolate text Append) f (select _ text.now) f.does) h.1) h
  lies_by (Interpolate text (RequiredButUnset name)) next f h =
      chosen_lies text (RequiredButUnset name) next tt (placed next (Interpolate text (RequiredButUnset name)) f text.now (fine next (Interpolate text (RequiredButUnset name)) f (require unset name _ text.now) f.does) h.1) h
  lies_by (Interpolate text (RequiredButEmpty name)) next f h =
      chosen_lies text (RequiredButEmpty name) next tt (placed next (Interpolate text (RequiredButEmpty name)) f text.now (fine next (Interpolate text (RequiredButEmpty name)) f (require empty name _ text.now) f.does) h.1) h

  pub found_lies : (p : Step) → Found sh s w i xs p → Ends (length xs) i p.action p.next → Lies i xs p
  found_lies p f h = lies_by p.action p.next f h
