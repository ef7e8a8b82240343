use Rattle.std.proofs.Common.{◌≡◌, ◌∷◌, [], Some, refl, arith}
use Rattle.std.specs.Vec.{vec_len}
use Rattle.std.proofs.lemmas.List.{take_all}
use Rattle.xfs_mix.proofs.reach.only_first.Goals as goal

pub returns : goal.returns
returns g c =
    let one : vec_len c.push.new.self ≡ 1 = omega (arith, c.in_ok-push.ensures.len, c.in_ok-table.ensures.len) in
    rw (c.in_ok-resize.ensures.items, c.in_ok-push.ensures.items, c.in_ok-table.ensures.items, one, take_all c.args.len (Some c.args.first ∷ []) (omega arith)) refl
