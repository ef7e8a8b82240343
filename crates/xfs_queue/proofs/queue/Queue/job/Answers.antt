use Rattle.std.proofs.Common.{refl, ap}
use Rattle.std.specs.Option.{option_map}
use Rattle.xfs_queue.proofs.Places.{written, taken}
use Rattle.xfs_queue.proofs.Whole.{whole_with_job}
use Rattle.xfs_queue.proofs.queue.Queue.job.Goals as goal

pub invariant_of-self-lent : goal.invariant_of-self-lent
invariant_of-self-lent g c = λ w.
    let q = c.self.inside.commands.items in
    rw (written c.args.ticket (λ a. record a { job = w }) q c.place-at.result c.index_mut-command.result.now c.self.invariant.0.ids (rw c.deref.ensures.value at c.place-at.ensures) c.index_mut-command.ensures.value)
    (whole_with_job c.args.ticket w q c.self.inside.deadlines c.self.invariant)

pub returns : goal.returns
returns g c =
    let q = c.self.inside.commands.items in
    let place = rw c.deref.ensures.value at c.place-at.ensures in
    let is = c.index_mut-command.ensures.value in (
      (refl, λ w. rw (← c.self.view_is) (written c.args.ticket (λ a. record a { job = w }) q c.place-at.result c.index_mut-command.result.now c.self.invariant.0.ids place is)),
      record { writes_back = tt; now = rw (← c.self.view_is) (ap (option_map (λ a. a.job)) (taken c.args.ticket q c.place-at.result c.index_mut-command.result.now place is)); valid = rw (← c.self.view_is) c.self.invariant.0 },
    )
