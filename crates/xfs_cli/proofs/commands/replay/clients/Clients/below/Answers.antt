use Rattle.std.proofs.Common.{position, ap, sym, ◌∙◌}
use Rattle.std.specs.List.{position_or_len}
use Rattle.xfs_cli.specs.Replay.States.{is_above}
use Rattle.xfs_cli.proofs.ClientLaws.{all_before, first_found}
use Rattle.xfs_cli.proofs.commands.replay.clients.Clients.below.Goals as goal

pub returns-in-Some : goal.returns-in-Some
returns-in-Some c = sym (first_found (is_above c.args.number) c.args.self.now c.in-Some.place (sym c.above.ensures ∙ c.in-Some.is))

pub returns-in-None : goal.returns-in-None
returns-in-None c =
    let test = is_above c.args.number in
    let none = ap (λ l. position test l) c.self.view_is ∙ (sym c.above.ensures ∙ c.in-None.is) in
    c.len.ensures ∙ (c.self.inside.list.ok.0 ∙ (all_before test c.self.inside.list.items none ∙ ap (λ l. position_or_len test l) c.self.view_is))
