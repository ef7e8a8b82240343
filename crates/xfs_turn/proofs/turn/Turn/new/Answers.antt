use Rattle.std.proofs.Common.{◌≡◌, ◌∷◌, [], ℕ, length, sym, subst, rules}
use Rattle.atomic_table.specs.Table.{opening}
use Rattle.xfs_turn.specs.declared.rule.Cell.TheVariants.{Home}
use Rattle.xfs_turn.specs.Turns.{knows, IsKept}
use Rattle.xfs_turn.proofs.Moves.{starts_free}
use Rattle.xfs_turn.proofs.turn.Turn.new.Goals as goal

pub new-requires : goal.new-requires
new-requires g c =
    let list = g.T.Chronicle.list in
    let items : c.push.new.self.items ≡ Home c.args.value ∷ [] = search rules in
    let start : c.of-start.result.value ≡ c.args.value = search rules in
    subst (λ (n : ℕ). IsKept list (opening (0 ∷ n ∷ []) c.push.new.self.items (knows (list c.of-start.result.value)))) (sym c.count-count.ensures)
    (subst (λ xs. IsKept list (opening (0 ∷ length (list c.args.value) ∷ []) xs (knows (list c.of-start.result.value)))) (sym items)
    (subst (λ x. IsKept list (opening (0 ∷ length (list c.args.value) ∷ []) (Home c.args.value ∷ []) (knows (list x)))) (sym start)
    (starts_free list c.args.value)))
