use Rattle.std.proofs.Common.{ap, ◌∙◌}
use Rattle.xfs_server.specs.Boards.{after_fetch}
use Rattle.xfs_server.specs.declared.link.GiveFault.TheVariants as GiveFault
use Rattle.xfs_server.proofs.Turns.{ends_unturned, ends_ungiven, whole_turn}
use Rattle.xfs_server.proofs.session.serve_turn.Goals as goal

pub returns-then-is_err-clause-err : goal.returns-then-is_err-clause-err
returns-then-is_err-clause-err g c = ends_unturned _ _ _ _ _ c.in_ok-hear.ensures.ok c.turn.ensures

pub returns-in-Err-Failed-clause-err : goal.returns-in-Err-Failed-clause-err
returns-in-Err-Failed-clause-err g c =
    ends_ungiven _ _ _ _ _ _ c.frames.result.items GiveFault.Failed c.in_ok-hear.ensures.ok
    (c.frames.ensures ∙ ap (λ b. after_fetch b c.frames.result.items) c.turn.ensures) (rw (c.deref.ensures.value, c.in-Err-Failed.field-0-is) at c.in-Err-Failed.ensures)

pub returns-in-Err-Memory-clause-err : goal.returns-in-Err-Memory-clause-err
returns-in-Err-Memory-clause-err g c =
    ends_ungiven _ _ _ _ _ _ c.frames.result.items GiveFault.Memory c.in_ok-hear.ensures.ok
    (c.frames.ensures ∙ ap (λ b. after_fetch b c.frames.result.items) c.turn.ensures) (rw (c.deref.ensures.value, c.in-Err-Memory.field-0-is) at c.in-Err-Memory.ensures)

pub returns-clause-ok : goal.returns-clause-ok
returns-clause-ok g c =
    whole_turn _ _ _ _ _ _ c.frames.result.items c.in_ok-hear.ensures.ok
    (c.frames.ensures ∙ ap (λ b. after_fetch b c.frames.result.items) c.turn.ensures) (rw c.deref.ensures.value at c.in-Ok.ensures)
