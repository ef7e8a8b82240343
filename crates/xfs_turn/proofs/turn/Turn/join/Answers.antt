use Rattle.std.proofs.Common.{◌∙◌, ℕ, [], sym, subst, ap, rules}
use mathlib.Core.Option.{none}
use Rattle.atomic_table.specs.Table.{Allows, Joins, step}
use Rattle.xfs_turn.specs.Turns.{knows, joined, IsKept, Learned}
use Rattle.xfs_turn.proofs.Moves.{joins_seats, learns_both}
use Rattle.xfs_turn.proofs.turn.Turn.join.Goals as goal

pub join_seat-requires : goal.join_seat-requires
join_seat-requires g c =
    let list = g.T.Chronicle.list in
    let into = c.into.inside.seat in
    let other = c.other.inside.seat in
    let v = ap (λ m. m.0) c.into.invariant.0 in
    let w = ap (λ m. m.0) c.other.invariant.0 in (
      ap (λ s. s.lock) c.into.view_is ∙ (c.requires.lock ∙ sym c.self.view_is),
      ap (λ s. s.lock) c.other.view_is ∙ (c.requires.other_lock ∙ sym c.self.view_is),
      ap (λ m. m.1) c.other.invariant.0,
      search rules,
      subst (λ a. Joins (IsKept list) into.id a other.id other.me.0 (joined a other.me.0) (knows [])) (sym v)
          (subst (λ b. Joins (IsKept list) into.id (knows into.me.0.seen) other.id b (joined (knows into.me.0.seen) b) (knows [])) (sym w)
          (joins_seats list into.id other.id into.me.0.seen other.me.0.seen)),
    )

pub load-requires : goal.load-requires
load-requires g c =
    let list = g.T.Chronicle.list in
    let slots : ℕ = c.self.inside.table.shared.table_id.slots in
    let id : ℕ = c.join_seat.new.seat.id in
    let xs = c.into.inside.seat.me.0.seen in
    let ys = c.other.inside.seat.me.0.seen in
    let me = c.join_seat.ensures.2 ∙ (ap (λ m. (joined m.0 c.other.inside.seat.me.0, m.1)) c.into.invariant.0 ∙ ap (λ m. (joined (knows xs) m.0, [])) c.other.invariant.0) in (
      c.join_seat.ensures.0 ∙ (ap (λ s. s.lock) c.into.view_is ∙ (c.requires.lock ∙ sym c.self.view_is)),
      search rules,
      subst (λ m. Allows (IsKept list) slots id m 0 (λ n. n) (Learned list (step slots 0 0 0 none) m)) (sym me) (learns_both list slots id xs ys),
    )
