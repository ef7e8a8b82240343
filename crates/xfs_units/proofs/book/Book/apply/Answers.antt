use Rattle.std.proofs.Common.{[], ◌∷◌}
use Rattle.xfs_mech.specs.declared.motion.Motion.TheVariants.{Moved}
use Rattle.xfs_mech.proofs.SumLaws.{Adds-PlacesOf}
use Rattle.xfs_units.proofs.book.Book.apply.Goals as goal

pub returns-clause-adds : goal.returns-clause-adds
returns-clause-adds c number =
    rw (← c.self.view_is) (Adds-PlacesOf _ _ (Moved number c.args.kind c.args.outcome.now.moved c.args.outcome.now.diverted ∷ []) (c.after_order-self-inside.ensures.moved number))
