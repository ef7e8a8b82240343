use Rattle.std.proofs.Common.{◌==◌, ◌∙◌, ℕ, sym, subst, rules}
use mathlib.Core.Option.{none}
use prog.Atomic.{either}
use Rattle.atomic_table.specs.Table.{Allows, step}
use Rattle.xfs_turn.specs.Turns.{knows, IsKept, Took}
use Rattle.xfs_turn.proofs.Moves.{takes_turn}
use Rattle.xfs_turn.proofs.turn.Turn.take.Goals as goal

pub compare_exchange-requires : goal.compare_exchange-requires
compare_exchange-requires g c =
    let list = g.T.Chronicle.list in
    let slots : ℕ = c.self.inside.table.shared.table_id.slots in
    let id : ℕ = c.args.seat.now.id in (
      c.requires.lock ∙ sym c.self.view_is,
      search rules,
      subst (λ m. Allows (IsKept list) slots id m 0 (λ n. either (n == 0) 1 n) (Took list (step slots 0 0 1 none) m)) (sym c.requires.idle)
          (takes_turn list slots id (knows c.args.seat.now.me.0.seen)),
    )
