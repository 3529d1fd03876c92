use borrow.Rule.Slice.PartMut.{put_mid}
use Rattle.std.proofs.Common.{◌≡◌, ℕ, ◌+◌, ◌-◌, ◌≤◌, List, ◌++◌, length, take, drop, sym, ap, ◌∙◌, arith}
use Rattle.std.proofs.lemmas.List.{length-take-le, take_rest}
use Rattle.std.specs.List.{copy_within}
use Rattle.redaction.specs.Drafts.{standing, text_in}
use Rattle.redaction.specs.Splices.{spliced}
use Rattle.redaction.proofs.SplicesLaws.{Opened, at_front, filled, length_spliced, opened_around, opened_same, opened_within}
use Rattle.redaction.proofs.draft.Draft.replace.Goals as goal
use Rattle.redaction.proofs.draft.Draft.replace.Goals.{in-Some, in-None}

pub returns-clause-says : goal.returns-clause-says
returns-clause-says c =
    let area : List ℕ = c.args.self.now.area.now in
    let given : List ℕ = c.args.self.now.given.now in
    let text : List ℕ = standing c.args.self.now in
    let new : List ℕ = c.args.new.now in
    let at : ℕ = c.args.at in
    let old : ℕ = c.args.old in
    let to : ℕ = at + length new in
    let m : ℕ = length c.text.result.now - old + length new in
    let low : m ≤ length area = c.if-wanted-self.false in
    let part : at + old ≤ length text = c.requires in
    let same : length c.text.result.now ≡ length text = ap length c.text.ensures in
    let k : to - at ≡ length new = omega arith in
    let opened : Opened at old to text c.match-self.self.area.now =
    elim c.match-self.branch [
      | in-Some w ↦
          let is : text ≡ take w.in-Some.len area = ap (text_in given area) w.in-Some.is in
          let laid : c.match-self.self.area.now ≡ copy_within area (at + old) w.in-Some.len to = ap (λ s. s.area.now) w.self-is ∙ w.copy_within.ensures.after in
          let within : w.in-Some.len ≤ length area = c.args.self.now.within w.in-Some.len w.in-Some.is in
          let long : length text ≡ w.in-Some.len = ap length is ∙ length-take-le w.in-Some.len area within in
          opened_same at old to (sym is) (sym laid) (opened_within area at old w.in-Some.len to (omega arith) within (omega arith) (omega arith))
      | in-None w ↦
          let is : text ≡ given = ap (text_in given area) w.in-None.is in
          let f : w.copy_from_slice.new.self ≡ take at given = w.copy_from_slice.ensures.after in
          let h : w.copy_from_slice-in-None.new.self ≡ drop (at + old) given = w.copy_from_slice-in-None.ensures.after ∙ take_rest given (at + old) in
          let laid : c.match-self.self.area.now ≡ put_mid to (m - to) (take at given ++ drop at area) (drop (at + old) given) =
          ap (λ s. s.area.now) w.self-is
          ∙ ap (λ q. put_mid to (m - to) (q ++ drop at area) w.copy_from_slice-in-None.new.self) f
          ∙ ap (λ q. put_mid to (m - to) (take at given ++ drop at area) q) h in
          let inside : at ≤ length given = omega (arith, ap length is) in
          opened_same at old to (sym is) (sym laid) (opened_around area given at old to (m - to) inside (omega arith) (omega arith))
    ] in
    let made = ap (λ q. put_mid at (to - at) c.match-self.self.area.now q) c.copy_from_slice-2.ensures.after ∙ filled at old (to - at) new text c.match-self.self.area.now k opened in
    at_front (length area) m (spliced at old new text) (length_spliced at old new text part ∙ ap (λ n. n - old + length new) (sym same)) low _ opened.rest made
