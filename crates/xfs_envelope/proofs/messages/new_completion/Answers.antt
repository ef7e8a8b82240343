use Rattle.std.proofs.Common.{ap, ◌∙◌}
use Rattle.std.proofs.lemmas.Result.{IfOk-weaker}
use Rattle.xfs_envelope.specs.Parts.{frame}
use Rattle.xfs_envelope.proofs.HeaderLaws.{completion_text}
use Rattle.xfs_envelope.proofs.messages.new_completion.Goals as goal

pub returns : goal.returns
returns c =
    let header = completion_text c.args.name.now c.format.result.now c.text_of.result.now c.args.id c.args.code c.requires.name c.text_of.ensures c.format.ensures.text in
    IfOk-weaker c.framed.result _ _ (λ t e. e ∙ ap (λ h. frame h c.args.payload.now) header) c.framed.ensures
