use Rattle.std.proofs.Common.{◌≡◌, ℕ, ◌+◌, ◌-◌, List, length, ◌∙◌, ap₂, arith}
use borrow.Rule.Slice.PartMut.{put_mid}
use Rattle.scopes.proofs.NotesLaws.{two_laid}
use Rattle.scopes.proofs.note.lay_pair.Goals as goal

pub returns : goal.returns
returns c =
    let xs : List ℕ = c.args.pair.text.now in
    let ys : List ℕ = c.args.pair.result.now in
    let at : ℕ = c.args.at in
    let k : at + length xs - at ≡ length xs = omega arith in
    let j : at + length xs + length ys - (at + length xs) ≡ length ys = omega arith in
    ap₂ (λ p q. put_mid (at + length xs) (at + length xs + length ys - (at + length xs)) (put_mid at (at + length xs - at) c.args.bytes.now p) q)
    c.copy_from_slice.ensures.after c.copy_from_slice-2.ensures.after
    ∙ two_laid c.args.bytes.now xs ys at c.requires _ _ k j
