use Rattle.std.proofs.Common.{◌∙◌, sym, subst, ap, rules}
use Rattle.atomic_table.specs.Table.{Splits}
use Rattle.xfs_turn.specs.Turns.{IsKept}
use Rattle.xfs_turn.proofs.Moves.{splits_seat}
use Rattle.xfs_turn.proofs.turn.Turn.split.Goals as goal

pub split_seat-second-requires : goal.split_seat-second-requires
split_seat-second-requires g c =
    let list = g.T.Chronicle.list in
    let seat = c.seat.inside.seat in (
      ap (λ v. v.lock) c.seat.view_is ∙ (c.requires.lock ∙ sym c.self.view_is),
      search rules,
      subst (λ v. Splits (IsKept list) seat.id v v v) (sym (ap (λ m. m.0) c.seat.invariant.0)) (splits_seat list seat.id seat.me.0.seen),
    )
