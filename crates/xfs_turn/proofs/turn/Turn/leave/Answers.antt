use Rattle.std.proofs.Common.{◌∷◌, ◌∙◌, ℕ, [], sym, subst, ap, rules}
use mathlib.Core.List.{IsPrefix}
use mathlib.Core.Option.{none}
use Rattle.atomic_table.specs.Table.{Allows, step, rest}
use Rattle.xfs_turn.specs.declared.rule.Cell.TheVariants.{Home}
use Rattle.xfs_turn.specs.Turns.{holder, IsKept, Counted, Gave, in_hand}
use Rattle.xfs_turn.proofs.Moves.{stores_count, gives_turn}
use Rattle.xfs_turn.proofs.turn.Turn.leave.Goals as goal

pub store-requires : goal.store-requires
store-requires g c =
    let list = g.T.Chronicle.list in
    let slots : ℕ = c.self.inside.table.shared.table_id.slots in
    let id : ℕ = c.exchange-out.new.seat.id in
    let x = c.held.inside.value in
    let base = c.held.inside.seat.me.0.base in
    let grown : IsPrefix base (list x) = subst (λ h. IsPrefix h.found (list h.value)) (sym c.held.view_is) c.requires.grown in
    let me = c.exchange-out.ensures.3 ∙ ap (λ m. (m.0, (0, Home x) ∷ rest m.1)) c.held.invariant in (
      c.exchange-out.ensures.0 ∙ (ap (λ h. h.lock) c.held.view_is ∙ (c.requires.lock ∙ sym c.self.view_is)),
      search rules,
      subst (λ m. Allows (IsKept list) slots id m 1 (λ _. c.count-count.result) (λ _. Counted list (step slots 1 c.count-count.result 0 none) m c.count-count.result)) (sym me)
          (subst (λ (n : ℕ). Allows (IsKept list) slots id (holder base base, (0, Home x) ∷ []) 1 (λ _. n) (λ _. Counted list (step slots 1 n 0 none) (holder base base, (0, Home x) ∷ []) n))
          (sym c.count-count.ensures) (stores_count list slots id base base x grown)),
    )

pub store-requires-2 : goal.store-requires-2
store-requires-2 g c =
    let list = g.T.Chronicle.list in
    let slots : ℕ = c.self.inside.table.shared.table_id.slots in
    let id : ℕ = c.store.new.seat.id in
    let x = c.held.inside.value in
    let base = c.held.inside.seat.me.0.base in
    let grown : IsPrefix base (list x) = subst (λ h. IsPrefix h.found (list h.value)) (sym c.held.view_is) c.requires.grown in
    let out = c.exchange-out.ensures.3 ∙ ap (λ m. (m.0, (0, Home x) ∷ rest m.1)) c.held.invariant in
    let me = c.store.ensures.2 ∙ ap (λ m. (holder m.0.base (in_hand list m.1), m.1)) out in (
      c.store.ensures.0 ∙ (c.exchange-out.ensures.0 ∙ (ap (λ h. h.lock) c.held.view_is ∙ (c.requires.lock ∙ sym c.self.view_is))),
      search rules,
      subst (λ m. Allows (IsKept list) slots id m 0 (λ _. 0) (λ _. Gave list (step slots 0 0 0 none) m 0)) (sym me) (gives_turn list slots id base x grown),
    )
