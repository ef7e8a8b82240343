use Rattle.xfs_start.proofs.NumberLaws.{zip_more, zip_none}
use Rattle.xfs_start.specs.BenchLines.{IsCall}
use Rattle.xfs_start.proofs.number_line.read_calls.Goals as goal

pub returns-in_default-clause-none : goal.returns-in_default-clause-none
returns-in_default-clause-none c = zip_none IsCall (λ field. field.now) c.args.places.now c.loop-place.place-index _ c.loop-place-test.true c.in_default.ensures.none

pub loop-place-preserved : goal.loop-place-preserved
loop-place-preserved c =
    rw c.in_ok-push.ensures.items
    (zip_more IsCall (λ field. field.now) c.args.places.now c.loop-place.calls.items c.loop-place.place-index _ c.in-Some.call c.loop-place-test.true c.loop-place.invariant c.in-Some.ensures.found)
