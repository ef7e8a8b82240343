-- A command that was taken in and taken out again leaves the queues as they were.
use Rattle.std.proofs.Common.{◌≡◌, true, false, List, [], ◌∷◌, ◌++◌, refl, ap}
use Rattle.std.specs.List.{list_any}
use Rattle.std.proofs.lemmas.Bool.{or_parts, or_right}
use Rattle.xfs_base.specs.declared.moment.Service.{Service}
use Rattle.xfs_base.specs.declared.moment.Service.TheVariants.{Publisher, Cash, Card, Keys}
use Rattle.xfs_queue.specs.declared.command.Command.{Command}
use Rattle.xfs_queue.specs.Commands.{ticket_of, is_at}
use Rattle.xfs_queue.specs.Queue.{without, IsPending}
use Rattle.xfs_model.specs.State.{Job, Queues, queue_of, with_queue}
use Rattle.xfs_model.proofs.Queues.{queue_itself, with_same_queue}
use Rattle.xfs_model.proofs.Changes.{at_itself}

pub twice : (qs : Queues) (service : Service) (p q : List (Command Job)) → with_queue (with_queue qs service p) service q ≡ with_queue qs service q
twice qs Publisher p q = refl
twice qs Card p q = refl
twice qs Keys p q = refl
twice qs Cash p q = refl

without_last : (q : List (Command Job)) (a : Command Job) → list_any (is_at (ticket_of a)) q ≡ false → without (q ++ a ∷ []) (ticket_of a) ≡ q
without_last [] a free = rw (at_itself (ticket_of a)) refl
without_last (b ∷ q) a free =
    let parts = or_parts (is_at (ticket_of a) b) (list_any (is_at (ticket_of a)) q) free in
    rw (parts.0) (ap (λ l. b ∷ l) (without_last q a parts.1))

pending_last : (q : List (Command Job)) (a : Command Job) → list_any (is_at (ticket_of a)) (q ++ a ∷ []) ≡ true
pending_last [] a = rw (at_itself (ticket_of a)) refl
pending_last (b ∷ q) a = or_right (is_at (ticket_of a) b) (list_any (is_at (ticket_of a)) (q ++ a ∷ [])) (pending_last q a)

pub is_taken_in : (qs qs' : Queues) (service : Service) (a : Command Job) → qs' ≡ with_queue qs service (queue_of qs service ++ a ∷ []) → IsPending (queue_of qs' service) (ticket_of a)
is_taken_in qs qs' service a e = rw (e, queue_itself qs service (queue_of qs service ++ a ∷ [])) (pending_last (queue_of qs service) a)

pub withdrawn : (qs qs' : Queues) (service : Service) (a : Command Job) → list_any (is_at (ticket_of a)) (queue_of qs service) ≡ false
    → qs' ≡ with_queue qs service (queue_of qs service ++ a ∷ []) → with_queue qs' service (without (queue_of qs' service) (ticket_of a)) ≡ qs
withdrawn qs qs' service a free e =
    rw (e, queue_itself qs service (queue_of qs service ++ a ∷ []), twice qs service (queue_of qs service ++ a ∷ []) (without (queue_of qs service ++ a ∷ []) (ticket_of a)), without_last (queue_of qs service) a free)
    (with_same_queue qs service)
