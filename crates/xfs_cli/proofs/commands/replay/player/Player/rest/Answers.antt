use Rattle.std.proofs.Common.{◌++◌, ◌∷◌, [], refl}
use Rattle.std.specs.Prelude.{codes, decimal}
use Rattle.std.proofs.lemmas.Result.{IfOk-weaker}
use Rattle.xfs_script.proofs.LastLaws.{on-err}
use Rattle.xfs_load.proofs.RestLaws.{rests-part}
use Rattle.xfs_cli.proofs.commands.replay.player.Player.rest.Goals as goal

pub returns-clause-answer : goal.returns-clause-answer
returns-clause-answer g c =
    IfOk-weaker c.rest_line.result _ _ (λ text told. record {
      output = (codes "rested " ++ decimal c.in_ok-count.count) ∷ [];
      answer = record { count = c.in_ok-count.count; machine = c.rest.new.machine.state; rests = c.in_ok-count.ensures.rests; text = refl; is = refl };
      text = told;
    }) c.rest_line.ensures

pub returns-clause-memory : goal.returns-clause-memory
returns-clause-memory g c = on-err _ _ (rests-part _ _ _ _ _ c.in_ok-count.ensures.rests)
