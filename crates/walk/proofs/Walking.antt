-- A frame is walked on, step by step.
use Rattle.std.proofs.Common.{◌≡◌, ℕ, suc, ◌+◌, ◌-◌, ◌≤◌, List, [], length, take, drop, Some, None, Ok, Err, Option, Result, sym, refl, ap, ◌∙◌, subst, arith, length-drop}
use Rattle.std.proofs.lemmas.List.{drop_all, drop-drop, length-take-le, take-take}
use Rattle.budget.specs.declared.WorkBudget.{WorkBudget}
use Rattle.budget.specs.Charges.{spent}
use Rattle.names.specs.declared.PropertySyntax.{PropertySyntax}
use Rattle.source.specs.Shapes.{Shape, shapes}
use Rattle.references.specs.declared.error.PropertyError.{PropertyError}
use Rattle.items.specs.declared.action.Action.{Action}
use Rattle.items.specs.declared.action.Action.TheVariants.{Keep, Dollar, Property, Nothing, Interpolate}
use Rattle.items.specs.declared.action.Step.{Step}
use Rattle.items.specs.Items.{inner}
use Rattle.items.specs.Looks.{AskedLook, Ends, Stays, charges_at, look, looked_told}
use Rattle.walk.specs.declared.frame.ExpansionFrame.{ExpansionFrame}
use Rattle.walk.specs.declared.state.Walk.{Walk}
use Rattle.expansion.specs.Events.{Event, frame, trace}
use Rattle.walk.specs.Frames.{Aim, Applied, Applies, Askable, Framed, Onward, OpensAt, Reached, Stopped, completed, completion_of, frame_events, frame_of, moved, part, rest, room_of, text_of, worked}
use Rattle.walk.specs.Plains.{PassesPlain}
use Rattle.walk.proofs.Framing.{Found, Lies, found, found_lies, found_none, reach_end, reach_step, stop_look}
use Rattle.walk.proofs.Reaching.{reach_less, reach_same}

-- the frame x was walked on to y
pub record Walking (means : List ℕ → Option (List ℕ)) (deep : ℕ) (text : List ℕ) (d : ℕ) (x : ExpansionFrame) (before : Walk) (y : ExpansionFrame) (after : Walk) : Type 0 where
  pub frame : y ≡ moved x y.cursor
  pub on : x.cursor ≤ y.cursor
  pub goes : Onward means deep text d x before y after

-- selected text that is walked
abbrev pub nested_by : (List ℕ → Shape) → (f d : ℕ) → PropertySyntax → ℕ → List ℕ → List Event → List Event
nested_by sh f d s at w es = trace f (d + 1) sh (inner s) at w es

trace_is : (sh : List ℕ → Shape) (f d : ℕ) (s : PropertySyntax) (i : ℕ) (bs : List ℕ) (es : List Event) → trace (suc f) d sh s i bs es ≡ frame (nested_by sh f d s) d s sh i bs 0 es
unfolding trace
trace_is sh f d s i bs es = refl

-- the frame of selected text
opens_is : (close : ℕ) (s : PropertySyntax) (a : Action) (n : ExpansionFrame) → OpensAt close s a n → n ≡ frame_of close s (text_of a) (completion_of a)
opens_is close s (Keep b) n h = absurd h
opens_is close s Dollar n h = absurd h
opens_is close s (Property name len) n h = absurd h
opens_is close s Nothing n h = absurd h
opens_is close s (Interpolate text completion) n h = h

opens_short : (close : ℕ) (s : PropertySyntax) (a : Action) (n : ExpansionFrame) (i e next : ℕ) → OpensAt close s a n → Ends e i a next → (i + (length (text_of a) + 5) ≤ next) × (next ≤ e)
opens_short close s (Keep b) n i e next h k = absurd h
opens_short close s Dollar n i e next h k = absurd h
opens_short close s (Property name len) n i e next h k = absurd h
opens_short close s Nothing n i e next h k = absurd h
opens_short close s (Interpolate text completion) n i e next h k = k

-- Bytes before the next `$` were passed, or the walk stopped there; or the frame is at its end.
module _ {means : List ℕ → Option (List ℕ)} {deep : ℕ} {text : List ℕ} {d : ℕ} {x y : ExpansionFrame} {before now : Walk}
    (inv : Walking means deep text d x before y now) (fits : x.end ≤ length text) where
  abbrev whole : List ℕ
  whole = take x.end text

  ends_there : y.end ≡ x.end
  ends_there = ap (λ (z : ExpansionFrame). z.end) inv.frame

  long : length whole ≡ x.end
  long = length-take-le x.end text fits

  left_at : (f k : ℕ) (es : List Event) → trace (suc f) d (shapes means) y.syntax k (part text k y.end) es ≡ frame (nested_by (shapes means) f d y.syntax) d y.syntax (shapes means) k (drop k whole) 0 es
  left_at f k es = trace_is (shapes means) f d y.syntax k (part text k y.end) es ∙ ap (λ e. frame (nested_by (shapes means) f d y.syntax) d y.syntax (shapes means) k (drop k (take e text)) 0 es) ends_there

  pub walk_done : x.end ≤ y.cursor → (f : ℕ) (aim : Aim) (left : ℕ) (es : List Event)
      → Reached means deep aim (rest x + left) (frame_events (shapes means) text (suc f) d x es) before → Reached means deep aim left es now
  unfolding frame
  walk_done h f aim left es r =
      let none : drop y.cursor whole ≡ [] = drop_all y.cursor whole (omega (arith, long)) in
      reach_less left (omega arith)
      (reach_same (left_at f y.cursor es ∙ ap (λ l. frame (nested_by (shapes means) f d y.syntax) d y.syntax (shapes means) y.cursor l 0 es) none) (inv.goes f aim left es r))

  module _ (bs : List ℕ) (is : bs ≡ drop y.cursor whole) (after : Walk) where
    at_bytes : (f : ℕ) (aim : Aim) (left : ℕ) (es : List Event) → Reached means deep aim (rest x + left) (frame_events (shapes means) text (suc f) d x es) before
        → Reached means deep aim (length bs + left) (frame (nested_by (shapes means) f d y.syntax) d y.syntax (shapes means) y.cursor bs 0 es) now
    at_bytes f aim left es r =
        let size : length bs ≡ rest y = ap length is ∙ length-drop y.cursor whole ∙ ap (λ n. n - y.cursor) (long ∙ sym ends_there) in
        subst (λ n. Reached means deep aim (n + left) (frame (nested_by (shapes means) f d y.syntax) d y.syntax (shapes means) y.cursor bs 0 es) now) (sym size)
        (reach_same (left_at f y.cursor es ∙ ap (λ l. frame (nested_by (shapes means) f d y.syntax) d y.syntax (shapes means) y.cursor l 0 es) (sym is)) (inv.goes f aim left es r))

    pub walk_plain : (n : ℕ) → n ≤ length bs → PassesPlain means deep bs now after (Ok n) → Walking means deep text d x before (moved y (y.cursor + n)) after
    walk_plain n within passed =
        record {
          frame = ap (λ z. moved z (y.cursor + n)) inv.frame;
          on = omega (arith, inv.on);
          goes = λ f aim left es r.
              let N = nested_by (shapes means) f d y.syntax in
              let on = passed N d y.syntax y.cursor aim left es (at_bytes f aim left es r) in
              let behind : drop n bs ≡ drop (y.cursor + n) whole = ap (drop n) is ∙ drop-drop n y.cursor whole in
              let size = ap length is ∙ length-drop y.cursor whole in
              reach_same (ap (λ l. frame N d y.syntax (shapes means) (y.cursor + n) l 0 es) behind ∙ sym (left_at f (y.cursor + n) es))
              (reach_less (rest (moved y (y.cursor + n)) + left) (omega (arith, size, long, ends_there)) on);
        }

    pub walk_plain_stop : (e : PropertyError) → PassesPlain means deep bs now after (Err e) → (f : ℕ) (aim : Aim) (left : ℕ) (es : List Event)
        → Reached means deep aim (rest x + left) (frame_events (shapes means) text (suc f) d x es) before → Stopped aim after e
    walk_plain_stop e passed f aim left es r = passed (nested_by (shapes means) f d y.syntax) d y.syntax y.cursor aim left es (at_bytes f aim left es r)

module _ {means : List ℕ → Option (List ℕ)} {deep : ℕ} {text : List ℕ} {d : ℕ} {x y : ExpansionFrame} {before now : Walk} {w : WorkBudget}
    (inv : Walking means deep text d x before y now) (fits : x.end ≤ length text)
    (spends : w ≡ spent now.work (charges_at (shapes means) y.syntax y.cursor (drop y.cursor (take x.end text)))) where
  abbrev xs : List ℕ
  xs = take x.end text

  same_end : y.end ≡ x.end
  same_end = ap (λ (z : ExpansionFrame). z.end) inv.frame

  size : length xs ≡ x.end
  size = length-take-le x.end text fits

  at_place : (f k : ℕ) (es : List Event) → trace (suc f) d (shapes means) y.syntax k (part text k y.end) es ≡ frame (nested_by (shapes means) f d y.syntax) d y.syntax (shapes means) k (drop k xs) 0 es
  at_place f k es = trace_is (shapes means) f d y.syntax k (part text k y.end) es ∙ ap (λ e. frame (nested_by (shapes means) f d y.syntax) d y.syntax (shapes means) k (drop k (take e text)) 0 es) same_end

  module _ (f : ℕ) (aim : Aim) (left : ℕ) (es : List Event) (r : Reached means deep aim (rest x + left) (frame_events (shapes means) text (suc f) d x es) before) where
    reached : Reached means deep aim (rest y + left) (frame (nested_by (shapes means) f d y.syntax) d y.syntax (shapes means) y.cursor (drop y.cursor xs) 0 es) now
    reached = reach_same (at_place f y.cursor es) (inv.goes f aim left es r)

    -- a look is refused, or finds the end
    pub walk_stop : (e : PropertyError) → Err e ≡ look (shapes means) y.syntax y.cursor now.work (drop y.cursor xs) → Stopped aim (worked w now) e
    walk_stop e says = stop_look (nested_by (shapes means) f d y.syntax) d y.syntax y.cursor xs es spends reached e says

    pub walk_end : (o : Option Step) → o ≡ None → looked_told (Ok o) ≡ look (shapes means) y.syntax y.cursor now.work (drop y.cursor xs) → Reached means deep aim left es (worked w now)
    walk_end o is says =
        let none = found_none (shapes means) y.syntax now.work y.cursor xs (sym (ap (λ q. looked_told (Ok q)) is) ∙ says) in
        reach_less left (omega arith) (reach_end (nested_by (shapes means) f d y.syntax) d y.syntax y.cursor xs es spends reached none)

  module _ (o : Option Step) (p : Step) (is : o ≡ Some p) (says : looked_told (Ok o) ≡ look (shapes means) y.syntax y.cursor now.work (drop y.cursor xs)) (within : Stays (length xs) y.cursor (Ok o)) where
    ends : Ends (length xs) y.cursor p.action p.next
    ends = subst (λ q. Stays (length xs) y.cursor (Ok q)) is within

    step : Found (shapes means) y.syntax now.work y.cursor xs p
    step = found (shapes means) y.syntax now.work y.cursor xs p (sym (ap (λ q. looked_told (Ok q)) is) ∙ says)

    lies : Lies y.cursor xs p
    lies = found_lies (shapes means) y.syntax now.work y.cursor xs p step ends

    pub walk_asks : AskedLook means (Ok o) → Askable means (p.next - 1) p.action
    walk_asks asked = record { known = subst (λ q. AskedLook means (Ok q)) is asked; lies = lies.lies }

    -- an action was applied
    module _ (after : Walk) where
      abbrev Did : Result (Option ExpansionFrame) PropertyError → Type 0
      Did r = (nested : ℕ → List ℕ → List Event → List Event) → Applies means deep nested d y.syntax (p.next - 1) p.action (worked w now) after r

      did : (r : Result (Option ExpansionFrame) PropertyError) → Did r → (f : ℕ) (aim : Aim) (left : ℕ) (es : List Event)
          → Reached means deep aim (rest x + left) (frame_events (shapes means) text (suc f) d x es) before
          → Applied means deep (nested_by (shapes means) f d y.syntax) aim (rest (moved y p.next) + left) (frame (nested_by (shapes means) f d y.syntax) d y.syntax (shapes means) p.next (drop p.next xs) 0 es)
          (p.next - 1 - length (text_of p.action)) (text_of p.action) (completion_of p.action) after r
      did r applied f aim left es q =
          let N = nested_by (shapes means) f d y.syntax in
          let on = reach_step N d y.syntax y.cursor xs es spends (reached f aim left es q) p step in
          applied N aim (rest (moved y p.next) + left) (frame N d y.syntax (shapes means) p.next (drop p.next xs) 0 es) (reach_less (room_of p.action + (rest (moved y p.next) + left)) (omega (arith, lies.room, size, same_end)) on)

      pub walk_refused : (e : PropertyError) → Did (Err e) → (f : ℕ) (aim : Aim) (left : ℕ) (es : List Event)
          → Reached means deep aim (rest x + left) (frame_events (shapes means) text (suc f) d x es) before → Stopped aim after e
      walk_refused e applied f aim left es q = did (Err e) applied f aim left es q

      -- the frame goes on behind it
      pub walk_on : (q : Option ExpansionFrame) → q ≡ None → Did (Ok q) → Walking means deep text d x before (moved y p.next) after
      walk_on q none applied =
          let did_none : Did (Ok None) = subst (λ z. Did (Ok z)) none applied in
          record {
            frame = ap (λ z. moved z p.next) inv.frame;
            on = omega (arith, inv.on, step.ends);
            goes = λ f aim left es r. reach_same (sym (at_place f p.next es)) (did (Ok None) did_none f aim left es r);
          }

      abbrev close : ℕ
      close = p.next - 1

      abbrev chosen : List ℕ
      chosen = text_of p.action

      abbrev opened : ExpansionFrame
      opened = frame_of close y.syntax chosen (completion_of p.action)

      -- another is to be walked first
      walk_opened : p.next ≤ length xs → Did (Ok (Some opened)) → (f : ℕ) (aim : Aim) (left : ℕ) (es : List Event)
          → Reached means deep aim (rest x + left) (frame_events (shapes means) text (suc f) d x es) before → Framed means deep text aim f d left es (moved y p.next) after (Ok (Some opened))
      walk_opened inside applied f aim left es r =
          let completion = completion_of p.action in
          let same : chosen ≡ part text (close - length chosen) close = lies.text ∙ ap (drop (close - length chosen)) (take-take close x.end text (omega (arith, size))) in
          let T : List ℕ → List Event → List Event = λ v l. trace f (d + 1) (shapes means) (inner y.syntax) (close - length chosen) v (completed completion v l) in
          let N = nested_by (shapes means) f d y.syntax in
          let behind = frame N d y.syntax (shapes means) p.next (drop p.next xs) 0 es in
          let fit = lies.fits in
          reach_same (ap (λ v. T v behind) same ∙ ap (T (part text (close - length chosen) close)) (sym (at_place f p.next es)))
          (reach_less (rest opened + (rest (moved y p.next) + left)) (omega arith) (did (Ok (Some opened)) applied f aim left es r))

      pub walk_nested : (n : ExpansionFrame) → OpensAt close y.syntax p.action n → Did (Ok (Some n)) → (f : ℕ) (aim : Aim) (left : ℕ) (es : List Event)
          → Reached means deep aim (rest x + left) (frame_events (shapes means) text (suc f) d x es) before → Framed means deep text aim f d left es (moved y p.next) after (Ok (Some n))
      walk_nested n opens applied f aim left es r =
          let is = opens_is close y.syntax p.action n opens in
          let short = opens_short close y.syntax p.action n y.cursor (length xs) p.next opens ends in
          subst (λ z. Framed means deep text aim f d left es (moved y p.next) after (Ok (Some z))) (sym is)
          (walk_opened short.1 (subst (λ z. Did (Ok (Some z))) is applied) f aim left es r)
