use Rattle.std.proofs.Common.{sym, subst}
use Rattle.xfs_board.specs.Answers.{turned}
use Rattle.xfs_board.specs.Turns.{IsTurn}
use Rattle.xfs_model.specs.Events as event
use Rattle.xfs_board.proofs.client.ClientBoardBoard.turn.Goals as goal

pub returns-clause-turn : goal.returns-clause-turn
returns-clause-turn g c =
    let now = c.now-now.result in
    let after = c.work.new.self.seen in
    let told = turned c.of_work.result in
    let old = c.self.inside in
    record {
      now = now;
      told = subst (λ b. g.C.Clock.tells b.clock now) c.self.view_is c.now-now.ensures.told;
      turn = subst (λ b. IsTurn b.caller.seen after (event.work b.pass.service now) told) c.self.view_is
          (subst (λ s. IsTurn old.caller.seen after (event.work s now) told) c.service-service.ensures
          (subst (λ a. IsTurn old.caller.seen after (event.work c.service-service.result now) a) (sym c.of_work.ensures) c.work.ensures.turn));
    }
