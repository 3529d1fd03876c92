-- The frames that are open, with one more on top.
use Rattle.std.proofs.Common.{◌≡◌, ℕ, suc, ◌+◌, ◌-◌, ◌<◌, List, [], ◌∷◌, ◌++◌, length, Ok, Err, Option, Result, sym, ap, ◌∙◌, subst, ap₂, add-zero, zero-add, arith, length-append}
use Rattle.stack.specs.declared.Stack.{Stack}
use Rattle.std.proofs.lemmas.List.{length-map}
use Rattle.stack.specs.Held.{held, memory}
use Rattle.references.specs.declared.error.PropertyError.{PropertyError}
use Rattle.source.specs.Shapes.{Shape, shapes}
use Rattle.walk.specs.declared.frame.ExpansionFrame.{ExpansionFrame}
use Rattle.walk.specs.declared.state.Walk.{Walk}
use Rattle.expansion.specs.Events.{Event}
use Rattle.walk.specs.Frames.{Aim, Nests, Reached, completed, frame_events, moved, part, rest}
use Rattle.walk.specs.Slots.{open_frames}
use Rattle.walk.specs.Stacks.{Fit, Runs, Sound, Sound1, Turned, Turns, events_at, left, pending}
use Rattle.walk.proofs.Reaching.{reach_less, reach_same}

module _ (sh : List ℕ → Shape) (text : List ℕ) where
  pub pending_more : (xs : List ExpansionFrame) (i : ℕ) (x : ExpansionFrame) (es : List Event) → pending sh text i (xs ++ x ∷ []) es ≡ events_at sh text (i + length xs) x (pending sh text i xs es)
  pending_more [] i x es = ap (λ k. events_at sh text k x es) (sym (add-zero i))
  pending_more (y ∷ xs) i x es =
      let e : i + 1 + length xs ≡ i + suc (length xs) = omega arith in
      pending_more xs (i + 1) x (events_at sh text i y es) ∙ ap (λ k. events_at sh text k x (pending sh text (i + 1) xs (events_at sh text i y es))) e

  pending_top : (xs : List ExpansionFrame) (x : ExpansionFrame) → pending sh text 0 (xs ++ x ∷ []) [] ≡ events_at sh text (length xs) x (pending sh text 0 xs [])
  pending_top xs x = pending_more xs 0 x [] ∙ ap (λ k. events_at sh text k x (pending sh text 0 xs [])) (zero-add (length xs))

pub left_more : (xs : List ExpansionFrame) (x : ExpansionFrame) → left (xs ++ x ∷ []) ≡ left xs + rest x
left_more [] x = omega arith
left_more (y ∷ xs) x = omega (arith, left_more xs x)

module _ (n : ℕ) where
  pub sound_more : (xs : List ExpansionFrame) (i : ℕ) (x : ExpansionFrame) → Sound n i xs → Sound1 n (i + length xs) x → Sound n i (xs ++ x ∷ [])
  sound_more [] i x s h = (subst (λ k. Sound1 n k x) (add-zero i) h, tt)
  sound_more (y ∷ xs) i x s h = let e : i + suc (length xs) ≡ i + 1 + length xs = omega arith in (s.0, sound_more xs (i + 1) x s.1 (subst (λ k. Sound1 n k x) e h))

  pub sound_less : (xs : List ExpansionFrame) (i : ℕ) (x : ExpansionFrame) → Sound n i (xs ++ x ∷ []) → Sound n i xs × Sound1 n (i + length xs) x
  sound_less [] i x s = (tt, subst (λ k. Sound1 n k x) (sym (add-zero i)) s.0)
  sound_less (y ∷ xs) i x s =
      let e : i + 1 + length xs ≡ i + suc (length xs) = omega arith in
      let h = sound_less xs (i + 1) x s.1 in
      ((s.0, h.0), subst (λ k. Sound1 n k x) e h.1)

module _ {text : List ℕ} {slots : ℕ} (xs : List ExpansionFrame) (x : ExpansionFrame) (fit : Fit text slots (xs ++ x ∷ [])) where
  pub newest : Sound1 (length text) (length xs) x
  newest = subst (λ k. Sound1 (length text) k x) (zero-add (length xs)) (sound_less (length text) xs 0 x fit.sound).1

  below : Sound (length text) 0 xs
  below = (sound_less (length text) xs 0 x fit.sound).0

  count : length (xs ++ x ∷ []) ≡ length xs + 1
  count = length-append xs (x ∷ [])

  pub deep_enough : length xs < length text
  deep_enough = omega (arith, newest.shorter, fit.some)

  -- its end
  pub turned_end : Turned text slots (xs ++ x ∷ []) xs
  turned_end =
      record {
        fit = record { some = fit.some; enough = fit.enough; held = omega (arith, fit.held, count); sound = below };
        less = omega (arith, count, left_more xs x);
      }

  -- another on top of it
  module _ (k : ℕ) (n : ExpansionFrame) (nests : Nests x.cursor k x.end n) where
    abbrev ys : List ExpansionFrame
    ys = xs ++ moved x k ∷ []

    count₁ : length ys ≡ length xs + 1
    count₁ = length-append xs (moved x k ∷ [])

    pub room_first : length xs < slots
    room_first = omega (arith, fit.held, count)

    pub room_second : length ys < slots
    room_second = omega (arith, count₁, newest.shorter, nests.shorter, nests.inside, fit.enough)

    pub turned_nested : Turned text slots (xs ++ x ∷ []) (ys ++ n ∷ [])
    turned_nested =
        let s = newest in
        let at : 0 + length xs ≡ length xs = zero-add (length xs) in
        let at₁ : 0 + length ys ≡ length xs + 1 = omega (arith, count₁) in
        let first : Sound1 (length text) (0 + length xs) (moved x k) = record { ordered = s.ordered; within = s.within; shorter = omega (arith, s.shorter, nests.shorter, nests.inside) } in
        let second : Sound1 (length text) (0 + length ys) n = record { ordered = nests.ordered; within = omega (arith, nests.within, s.within); shorter = omega (arith, at₁, s.shorter, nests.shorter, nests.inside) } in
        record {
          fit = record {
            some = fit.some;
            enough = fit.enough;
            held = omega (arith, room_second, length-append ys (n ∷ []));
            sound = sound_more (length text) ys 0 n (sound_more (length text) xs 0 (moved x k) below first) second;
          };
          less = omega (arith, count, count₁, length-append ys (n ∷ []), left_more xs x, left_more ys n, left_more xs (moved x k), nests.shorter, nests.inside);
        }

  -- how many frames may be nested in it
  abbrev pub fuel : ℕ
  fuel = length text - (length xs + 1)

  fueled : length text - length xs ≡ suc fuel
  fueled = omega (arith, deep_enough)

  -- how the events of the newest frame stand
  module _ {means : List ℕ → Option (List ℕ)} {deep : ℕ} {aim : Aim} {now : Walk} (d : ℕ) (depth : d ≡ length xs + 1) where
    pub reach_newest : Reached means deep aim (left (xs ++ x ∷ [])) (pending (shapes means) text 0 (xs ++ x ∷ []) []) now
        → Reached means deep aim (rest x + left xs) (frame_events (shapes means) text (suc fuel) d x (completed x.completion (part text x.start x.end) (pending (shapes means) text 0 xs []))) now
    reach_newest r =
        let l = left_more xs x in
        reach_same (pending_top (shapes means) text xs x ∙ ap₂ (λ f e. frame_events (shapes means) text f e x (completed x.completion (part text x.start x.end) (pending (shapes means) text 0 xs []))) fueled (sym depth)) (reach_less (rest x + left xs) (omega arith) r)

    pub reach_nested : (k : ℕ) (n : ExpansionFrame)
        → Reached means deep aim (rest n + (rest (moved x k) + left xs)) (frame_events (shapes means) text fuel (d + 1) n (completed n.completion (part text n.start n.end) (frame_events (shapes means) text (suc fuel) d (moved x k) (completed x.completion (part text x.start x.end) (pending (shapes means) text 0 xs []))))) now
        → Reached means deep aim (left ((xs ++ moved x k ∷ []) ++ n ∷ [])) (pending (shapes means) text 0 ((xs ++ moved x k ∷ []) ++ n ∷ []) []) now
    reach_nested k n r =
        let y = moved x k in
        let ys = xs ++ moved x k ∷ [] in
        let l = left_more ys n in
        let l₁ = left_more xs (moved x k) in
        let E : ℕ → ℕ → List Event = λ f e. frame_events (shapes means) text f e (moved x k) (completed x.completion (part text x.start x.end) (pending (shapes means) text 0 xs [])) in
        let inside : pending (shapes means) text 0 ys [] ≡ E (suc fuel) d = pending_top (shapes means) text xs (moved x k) ∙ ap₂ E fueled (sym depth) in
        let size : length ys ≡ length xs + 1 = length-append xs (moved x k ∷ []) in
        let top : events_at (shapes means) text (length ys) n (pending (shapes means) text 0 ys []) ≡ frame_events (shapes means) text fuel (d + 1) n (completed n.completion (part text n.start n.end) (E (suc fuel) d))
        = ap (λ j. events_at (shapes means) text j n (pending (shapes means) text 0 ys [])) size ∙ ap₂ (λ e l. frame_events (shapes means) text fuel e n (completed n.completion (part text n.start n.end) l)) (ap (λ j. j + 1) (sym depth)) inside in
        reach_same (sym (pending_top (shapes means) text ys n ∙ top)) (reach_less (left (ys ++ n ∷ [])) (omega arith) r)

pub turns_by : {text : List ℕ} {slots : ℕ} {xs ys : List ExpansionFrame} (r : Result (Unit {0}) PropertyError) → Turned text slots xs ys → Turns text slots xs ys r
turns_by (Ok x) h = h
turns_by (Err e) h = tt

-- as many slots are in use as frames are open
pub slot_each : {F : Type 0} (kept : F → ExpansionFrame) (s : Stack F) → length (held s) ≡ length (open_frames kept s)
slot_each kept s = sym (length-map (held s) kept)

-- the frames before were walked on, to those after
pub record Walked {F : Type 0} (kept : F → ExpansionFrame) (means : List ℕ → Option (List ℕ)) (deep : ℕ) (text : List ℕ) (frames : Stack F) (before : Walk) (frames' : Stack F) (after : Walk) : Type 0 where
  pub fit : Fit text (length (memory frames')) (open_frames kept frames')
  pub goes : Runs means deep text (open_frames kept frames) before (open_frames kept frames') after (Ok tt)
