use Rattle.std.proofs.Common.{get_or, ap, refl, sym, ◌∙◌}
use Rattle.xfs_cli.specs.Replay.States.{is_number}
use Rattle.xfs_cli.proofs.ClientLaws.{missing, taken}
use Rattle.xfs_cli.proofs.commands.replay.clients.Clients.take.Goals as goal

pub returns-in_err-place-clause-found : goal.returns-in_err-place-clause-found
returns-in_err-place-clause-found c =
    let none = missing (is_number c.args.number) c.args.self.now (sym c.place.ensures ∙ c.in_err-place.was) in
    rw (c.from_residual.ensures, none) refl

pub returns-clause-found : goal.returns-clause-found
returns-clause-found c =
    let client = c.remove-client.result in
    let is = c.remove-client.ensures.value ∙ ap (λ l. get_or l c.in_ok-place.place client) c.self.view_is in
    let found = taken (is_number c.args.number) c.args.self.now c.in_ok-place.place client (sym c.place.ensures ∙ c.in_ok-place.was) is in
    rw found refl
