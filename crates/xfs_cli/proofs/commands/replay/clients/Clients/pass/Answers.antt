use Rattle.std.proofs.Common.{get_or, ap, refl, sym, ◌∙◌}
use Rattle.xfs_cli.specs.Replay.States.{is_number}
use Rattle.xfs_cli.proofs.ClientLaws.{missing, taken}
use Rattle.xfs_cli.proofs.commands.replay.clients.Clients.pass.Goals as goal

pub returns-in_err-place : goal.returns-in_err-place
returns-in_err-place c =
    let none = missing (is_number c.args.number) c.args.self.now (sym c.place.ensures ∙ c.in_err-place.was) in
    rw (c.from_residual.ensures, none) refl

pub returns : goal.returns
returns c =
    let client = c.index.result.now in
    let is = c.index.ensures ∙ ap (λ l. get_or l c.in_ok-place.place client) c.self.view_is in
    let found = taken (is_number c.args.number) c.args.self.now c.in_ok-place.place client (sym c.place.ensures ∙ c.in_ok-place.was) is in
    rw found refl
