use Rattle.std.proofs.Common.{sym, ◌∙◌}
use Rattle.std.proofs.lemmas.Result.{IfOk-weaker}
use Rattle.xfs_cli.specs.Replay.States.{played}
use Rattle.xfs_cli.proofs.VerbLaws.{tells-no_token, tells-token}
use Rattle.xfs_cli.proofs.commands.replay.player.Player.mint.Goals as goal

pub returns-in_default-clause-answer : goal.returns-in_default-clause-answer
returns-in_default-clause-answer g c =
    IfOk-weaker c.line.result _ _ (λ text told. tells-no_token (played c.args.self.now) _ _ text.items (sym c.live.ensures ∙ c.in_default.is) told) c.line.ensures

pub returns-clause-answer : goal.returns-clause-answer
returns-clause-answer g c =
    IfOk-weaker c.line-text.result _ _ (λ text told. tells-token (played c.args.self.now) _ c.in-Some.nonce _ _ c.in-Ok.token.items _ text.items (sym c.live.ensures ∙ c.in-Some.is) c.args.self.now.keyed c.in-Ok.ensures.ok c.new.ensures told) (rw c.deref.ensures.value at c.line-text.ensures)
