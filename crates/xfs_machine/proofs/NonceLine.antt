-- The first command of the nonce line, by what was done to the queue.
use Rattle.std.proofs.Common.{◌≡◌, ◌&&◌, Bool, true, false, Some, find, sym, ◌∙◌, ap}
use Rattle.std.specs.List.{list_any}
use Rattle.xfs_base.specs.declared.moment.Moment.{Moment}
use Rattle.xfs_base.specs.declared.moment.Service.TheVariants.{Cash}
use Rattle.xfs_dispenser.specs.Seen.{Seen}
use Rattle.xfs_envelope.specs.declared.code.Code.TheVariants.{TimeOut}
use Rattle.xfs_queue.specs.declared.command.Command.{Command}
use Rattle.xfs_queue.specs.declared.command.Line.TheVariants.{Nonce}
use Rattle.xfs_queue.specs.Commands.{is_at, is_due, ticket_of, waits_on}
use Rattle.xfs_queue.specs.Queue.{IsQueue}
use Rattle.xfs_model.specs.Cases.{TakesNonce}
use Rattle.xfs_model.specs.Guards.{NonceCommand}
use Rattle.xfs_model.specs.Results.{plain, with_result}
use Rattle.xfs_model.specs.State.{Job, Outcome, Queues, State, with_queue}
use Rattle.xfs_traffic.specs.Jobs.{changed_at}
use Rattle.xfs_traffic.proofs.QueueTests.{any_at}

-- the deadline of the first command of the nonce line has come
pub nonce_late : (s : State) (a : Command Job) (due : Bool) (queues : Queues) → find (waits_on Nonce) s.queues.cash ≡ Some a → IsQueue s.queues.cash
    → due ≡ list_any (λ b. is_at (ticket_of a) b && is_due s.now b) s.queues.cash → due ≡ true
    → queues ≡ with_queue s.queues Cash (changed_at (with_result (plain TimeOut)) (ticket_of a) s.queues.cash) → TakesNonce s (record s { queues = queues })
nonce_late s a due queues there kept is late at =
    let has : is_due s.now a ≡ true = sym (any_at (waits_on Nonce) (λ b. is_due s.now b) s.queues.cash a there kept) ∙ sym is ∙ late in
    record { command = a; first = there; is = rw has (ap (λ qs. record s { queues = qs }) at) }

-- what it asks of the nonce is done
pub nonce_done : (s : State) (a : Command Job) (due : Bool) (result : Outcome) (next : Seen) (moment : Moment) (queues : Queues) → find (waits_on Nonce) s.queues.cash ≡ Some a → IsQueue s.queues.cash
    → due ≡ list_any (λ b. is_at (ticket_of a) b && is_due s.now b) s.queues.cash → due ≡ false → NonceCommand s a.job.ask result next moment
    → queues ≡ with_queue s.queues Cash (changed_at (with_result result) (ticket_of a) s.queues.cash) → TakesNonce s (record s { seen = next; issued = moment; queues = queues })
nonce_done s a due result next moment queues there kept is early done at =
    let not_yet : is_due s.now a ≡ false = sym (any_at (waits_on Nonce) (λ b. is_due s.now b) s.queues.cash a there kept) ∙ sym is ∙ early in
    record {
      command = a;
      first = there;
      is = rw not_yet (record { result = result; next = next; issued = moment; done = done; is = ap (λ qs. record s { seen = next; issued = moment; queues = qs }) at });
    }
