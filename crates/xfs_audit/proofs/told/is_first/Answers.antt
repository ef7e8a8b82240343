use Rattle.std.proofs.Common.{◌≡◌, ◌∷◌, drop}
use Rattle.xfs_audit.proofs.Ends.{first-only, first-is}
use Rattle.xfs_audit.proofs.told.is_first.Goals as goal

pub returns-in-Some : goal.returns-in-Some
returns-in-Some c =
    let all = c.args.motions.now in
    let first = c.in-Some.first.now in
    let cut : all ≡ first ∷ drop 1 all = first-is first all c.in-Some.ensures.value in (
      λ yes. (0, c.in-Some.ensures.item.3.0, rw cut ((c.is_motion.ensures).0 yes)),
      λ there. (c.is_motion.ensures).1 (first-only first (drop 1 all) c.args.number c.args.kind c.args.moved.now c.args.diverted.now (rw cut at c.requires.rises) (rw cut at c.requires.begins) (rw cut at there)),
    )
