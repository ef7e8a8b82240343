-- A case that gives one command its result, or answers it, by what was done to the queue.
use Rattle.std.proofs.Common.{◌≡◌, ◌&&◌, ◌||◌, ℕ, Bool, true, List, [], ◌∷◌, Option, None, Some, find, All, refl, sym, ◌∙◌, ap, inl, inr}
use Rattle.std.specs.Prelude.{if◌then◌else◌}
use Rattle.std.specs.List.{list_any}
use Rattle.std.proofs.lemmas.Bool.{cases_Bool, false≢true}
use Rattle.std.proofs.lemmas.List.Elements.{All-head, All-tail}
use Rattle.std.proofs.lemmas.Option.{none-some, same_Some}
use Rattle.std.specs.Option.{option_map}
use Rattle.xfs_base.specs.declared.moment.Service.{Service}
use Rattle.xfs_envelope.specs.declared.code.Code.TheVariants.{Canceled, TimeOut}
use Rattle.xfs_queue.specs.declared.command.Command.{Command}
use Rattle.xfs_queue.specs.declared.command.Ticket.{Ticket}
use Rattle.xfs_queue.specs.Commands.{is_at, is_due, is_ready, is_running, ticket_of}
use Rattle.xfs_queue.specs.Queue.{IsQueue, without}
use Rattle.xfs_model.specs.Cases.{AnswersFirst, IsTooLate, Stops}
use Rattle.xfs_model.specs.Connections.{announced, sent, with_queue_at}
use Rattle.xfs_model.specs.Devices.{device_stopped}
use Rattle.xfs_model.specs.Frames.{Announces, IsCompletion}
use Rattle.xfs_model.specs.Results.{plain, with_result}
use Rattle.xfs_model.specs.State.{Connection, Job, Outcome, Queues, State, queue_at, with_queue}
use Rattle.xfs_model.specs.Touches.{running_at}
use Rattle.xfs_model.specs.Work.{is_overdue, is_stopped}
use Rattle.xfs_model.proofs.Caused.{only_one}
use Rattle.xfs_traffic.specs.Jobs.{changed_at}
use Rattle.xfs_traffic.specs.Parts.{mailed_behind}
use Rattle.xfs_traffic.proofs.ChangeLaws.{found}
use Rattle.xfs_traffic.proofs.QueueTests.{any_running}
use Rattle.xfs_model.proofs.Changes.{at_itself}

-- a command that is found is pending
pub pending_one : (p : Command Job → Bool) (q : List (Command Job)) (a : Command Job) → find p q ≡ Some a → list_any (is_at (ticket_of a)) q ≡ true
pending_one p [] a there = absurd (none-some a there)
pending_one p (x ∷ q) a there = elim (cases_Bool (p x)) [
  | inl y ↦
      let it : x ≡ a = same_Some x a (rw y at there) in
      rw it (rw (at_itself (ticket_of a)) refl)
  | inr n ↦ elim (cases_Bool (is_at (ticket_of a) x)) [
    | inl z ↦ rw z refl
    | inr m ↦ rw m (pending_one p q a (rw n at there))
  ]
]

pub too_late : (s : State) (service : Service) (t : Ticket) (queues : Queues) → Some t ≡ option_map ticket_of (find (is_overdue s) (queue_at s service))
    → queues ≡ with_queue s.queues service (changed_at (with_result (plain TimeOut)) t (queue_at s service)) → IsTooLate s service (record s { queues = queues })
too_late s service t queues there is =
    let f = found (find (is_overdue s) (queue_at s service)) t there in
    record {
      command = f.command;
      first = f.is;
      is = ap (λ qs. record s { queues = qs }) (is ∙ ap (λ u. with_queue s.queues service (changed_at (with_result (plain TimeOut)) u (queue_at s service))) f.at);
    }

sent_on : (s : State) (service : Service) (a : Command Job) (before : Option (List ℕ)) (last : List ℕ) (q : List (Command Job))
    → record s { connections = mailed_behind service a.client before last s.connections; queues = with_queue s.queues service q } ≡ with_queue_at (sent (announced s service before) service a.client (last ∷ [])) service q
sent_on s service a None last q = refl
sent_on s service a (Some frame) last q = refl

pub answered_with : (s : State) (service : Service) (a : Command Job) (r : Outcome) (before : Option (List ℕ)) (last : List ℕ) (ks : List Connection) (qs : Queues)
    → find (λ b. is_ready b.stage) (queue_at s service) ≡ Some a → a.job.outcome ≡ Some r → Announces r.ending before → IsCompletion a.id a.job.name r.code r.payload last
    → ks ≡ mailed_behind service a.client before last s.connections → qs ≡ with_queue s.queues service (without (queue_at s service) (ticket_of a)) → AnswersFirst s service (record s { connections = ks; queues = qs })
answered_with s service a r before last ks qs there has tells completes mail rest = record {
  command = a;
  first = there;
  result = r;
  has = has;
  before = before;
  announces = tells;
  last = last;
  completes = completes;
  is = ap (λ l. record s { connections = l; queues = qs }) mail ∙ ap (λ l. record s { connections = mailed_behind service a.client before last s.connections; queues = l }) rest ∙ sent_on s service a before last (without (queue_at s service) (ticket_of a));
}

-- the first of two tests finds it, and the other holds
find_both : (r p : Command Job → Bool) (q : List (Command Job)) (a : Command Job) → find r q ≡ Some a → p a ≡ true → find (λ b. r b && p b) q ≡ Some a
find_both r p [] a there holds = there
find_both r p (x ∷ q) a there holds = elim (cases_Bool (r x)) [
  | inl y ↦
      let it : x ≡ a = same_Some x a (rw y at there) in
      let here : p x ≡ true = ap p it ∙ holds in
      rw y (rw here (ap Some it))
  | inr n ↦ rw n (find_both r p q a (rw n at there) holds)
]

-- the running command is canceled, or its deadline has come
pub stops : (s new : State) (service : Service) (a : Command Job) (queues : Queues) → running_at s service ≡ Some a → IsQueue (queue_at s service) → list_any (is_stopped s) (queue_at s service) ≡ true
    → queues ≡ with_queue s.queues service (changed_at (with_result (plain (if a.marked then Canceled else TimeOut))) (ticket_of a) (queue_at s service))
    → new ≡ device_stopped (record s { queues = queues }) service → Stops s service new
stops s new service a queues there kept some at is =
    let holds : (a.marked || is_due s.now a) ≡ true = sym (any_running (λ b. b.marked || is_due s.now b) (queue_at s service) a there kept) ∙ some in
    record {
      command = a;
      first = find_both (λ b. is_running b.stage) (λ b. b.marked || is_due s.now b) (queue_at s service) a there holds;
      is = is ∙ ap (λ qs. device_stopped (record s { queues = qs }) service) at;
    }

at_one : (a : Command Job) (q : List (Command Job)) → All (λ b. is_at (ticket_of a) b ≡ true → b ≡ a) q → list_any (is_at (ticket_of a)) q ≡ true → find (is_at (ticket_of a)) q ≡ Some a
at_one a [] all some = absurd (false≢true some)
at_one a (x ∷ q) all some = elim (cases_Bool (is_at (ticket_of a) x)) [
  | inl y ↦ rw y (ap Some (All-head (λ b. is_at (ticket_of a) b ≡ true → b ≡ a) x q all y))
  | inr n ↦ rw n (at_one a q (All-tail (λ b. is_at (ticket_of a) b ≡ true → b ≡ a) x q all) (rw n at some))
]

-- a command that is found is the one at its ticket
pub at_its_ticket : (p : Command Job → Bool) (q : List (Command Job)) (a : Command Job) → find p q ≡ Some a → IsQueue q → find (is_at (ticket_of a)) q ≡ Some a
at_its_ticket p q a there kept = at_one a q (only_one p q a there kept.ids) (pending_one p q a there)
