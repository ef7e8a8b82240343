-- The queue of a service, behind a change of one.
use Rattle.std.proofs.Common.{◌≡◌, ℕ, zero, suc, true, false, List, refl, ap, sym, ◌∙◌}
use Rattle.std.proofs.lemmas.Bool.{eqb-true, eq-eqb, false≢true}
use Rattle.xfs_base.specs.declared.moment.Service.{Service}
use Rattle.xfs_base.specs.declared.moment.Service.TheVariants.{Publisher, Card, Keys, Cash}
use Rattle.xfs_queue.specs.declared.command.Command.{Command}
use Rattle.xfs_model.specs.Connections.{number, is_service}
use Rattle.xfs_model.specs.State.{Job, Queues, queue_of, with_queue}

abbrev service_with : ℕ → Service
service_with zero = Publisher
service_with (suc zero) = Card
service_with (suc (suc zero)) = Keys
service_with (suc (suc (suc n))) = Cash

service_of_number : (a : Service) → service_with (number a) ≡ a
service_of_number Publisher = refl
service_of_number Card = refl
service_of_number Keys = refl
service_of_number Cash = refl

pub same_service : (a b : Service) → is_service a b ≡ true → b ≡ a
same_service a b y = sym (service_of_number b) ∙ ap service_with (eqb-true _ _ y) ∙ service_of_number a

pub itself : (a : Service) → is_service a a ≡ true
itself a = eq-eqb (number a) (number a) refl

pub queue_itself : (qs : Queues) (a : Service) (q : List (Command Job)) → queue_of (with_queue qs a q) a ≡ q
queue_itself qs Publisher q = refl
queue_itself qs Card q = refl
queue_itself qs Keys q = refl
queue_itself qs Cash q = refl

pub queue_there : (qs : Queues) (a b : Service) (q : List (Command Job)) → is_service a b ≡ false → queue_of (with_queue qs a q) b ≡ queue_of qs b
queue_there qs Publisher Publisher q n = absurd (false≢true (sym n))
queue_there qs Publisher Card q n = refl
queue_there qs Publisher Keys q n = refl
queue_there qs Publisher Cash q n = refl
queue_there qs Card Publisher q n = refl
queue_there qs Card Card q n = absurd (false≢true (sym n))
queue_there qs Card Keys q n = refl
queue_there qs Card Cash q n = refl
queue_there qs Keys Publisher q n = refl
queue_there qs Keys Card q n = refl
queue_there qs Keys Keys q n = absurd (false≢true (sym n))
queue_there qs Keys Cash q n = refl
queue_there qs Cash Publisher q n = refl
queue_there qs Cash Card q n = refl
queue_there qs Cash Keys q n = refl
queue_there qs Cash Cash q n = absurd (false≢true (sym n))

pub queue_here : (qs : Queues) (a b : Service) (q : List (Command Job)) → is_service a b ≡ true → queue_of (with_queue qs a q) b ≡ q
queue_here qs a b q y = rw (same_service a b y) (queue_itself qs a q)

pub queue_same : (qs : Queues) (a b : Service) → is_service a b ≡ true → queue_of qs b ≡ queue_of qs a
queue_same qs a b y = ap (queue_of qs) (same_service a b y)

pub with_same_queue : (qs : Queues) (a : Service) → with_queue qs a (queue_of qs a) ≡ qs
with_same_queue qs Publisher = refl
with_same_queue qs Card = refl
with_same_queue qs Keys = refl
with_same_queue qs Cash = refl
