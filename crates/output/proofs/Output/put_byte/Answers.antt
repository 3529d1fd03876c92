use Rattle.std.proofs.Common.{◌≡◌, [], ◌∷◌, refl, ap, ◌∙◌}
use denote.Ref.{at_last}
use Rattle.output.specs.Outputs.{laid_behind}
use Rattle.output.proofs.OutputLaws.{byte_laid, past_laid, put_is, put_grows}
use Rattle.output.proofs.Output.put_byte.Goals as goal
use Rattle.output.proofs.Output.put_byte.Goals.{then-at-self, else-at-self}

pub returns : goal.returns
returns c =
    let out = c.args.self.now in
    let byte = c.args.byte in
    let laid : c.if-at-self.self.area ≡ at_last out.area (laid_behind out.len (byte ∷ []) out.area.now)
    = elim c.if-at-self.branch [
      | then-at-self w ↦ ap (λ o. o.area) w.self-is ∙ ap (at_last out.area) (byte_laid out.area.now (byte ∷ []) out.len byte refl refl w.if-at-self.true)
      | else-at-self w ↦ ap (λ o. o.area) w.self-is ∙ ap (at_last out.area) (past_laid out.area.now (byte ∷ []) out.len w.if-at-self.false)
    ] in
    let puts = put_is out (byte ∷ []) 1 laid refl c.saturating_add-self.ensures in
    record { puts = puts; grows = put_grows (byte ∷ []) 1 puts refl }
