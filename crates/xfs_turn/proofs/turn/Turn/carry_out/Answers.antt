use Rattle.std.proofs.Common.{◌∷◌, ◌∙◌, sym, ap}
use Rattle.atomic_table.specs.Table.{rest}
use Rattle.xfs_turn.specs.declared.rule.Cell.TheVariants.{Home}
use Rattle.xfs_turn.proofs.turn.Turn.carry_out.Goals as goal

pub exchange-requires : goal.exchange-requires
exchange-requires g c =
    let x = c.requires.taken.0 in
    let e = c.requires.taken.1 in
    (c.requires.lock ∙ sym c.self.view_is, (Home x, ap (λ m. m.1) e ∙ sym (ap (λ m. (0, Home x) ∷ rest m.1) e)))
