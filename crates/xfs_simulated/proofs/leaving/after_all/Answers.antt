use Rattle.std.proofs.Common.{List, subst, sym}
use Rattle.std.proofs.lemmas.List.{take_more}
use Rattle.xfs_mech.specs.declared.motion.Motion.{Motion}
use Rattle.xfs_simulated.specs.Leaving.{Leads}
use Rattle.xfs_simulated.proofs.LeavingLaws.{leads-more}
use Rattle.xfs_simulated.proofs.leaving.after_all.Goals as goal

pub loop-motion-preserved : goal.loop-motion-preserved
loop-motion-preserved c =
    subst (λ (ms : List Motion). Leads c.args.units.now c.args.start.now ms c.in_ok-places.places)
    (sym (take_more c.args.motions.now c.loop-motion.motion-index _ c.loop-motion-test.true))
    (leads-more _ _ _ _ _ _ c.loop-motion.invariant c.in_ok-places.ensures.leads)
