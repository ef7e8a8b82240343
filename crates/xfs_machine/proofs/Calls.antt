-- What the parts of a call make is a step of the machine, and it keeps what every call keeps.
use Rattle.std.proofs.Common.{◌≡◌, ◌≢◌, ℕ, ◌+◌, ◌<◌, ◌≤◌, ◌==◌, nat_le, not, Bool, true, false, cond, List, [], ◌∷◌, ◌++◌, length, map, filter, find, Option, None, Some, Result, Ok, Err, MatchOption, refl, ap, sym, ◌∙◌, inl, inr}
use Rattle.std.specs.Prelude.{IsErrAnd, OnOk, is_err}
use Rattle.std.specs.Option.{option_map}
use Rattle.std.proofs.lemmas.Bool.{cases_Bool, eqb-true, eq-eqb, false≢true, ne_eqb}
use Rattle.std.proofs.lemmas.Option.{none-some, same_Some}
use Rattle.xfs_base.specs.declared.faults.Memory.{Memory}
use Rattle.xfs_base.specs.declared.moment.ClientId.{ClientId}
use Rattle.xfs_base.specs.declared.moment.Moment.{Moment}
use Rattle.xfs_base.specs.declared.moment.Service.{Service}
use Rattle.xfs_base.specs.declared.moment.TheConstants.{LAST_MOMENT}
use Rattle.xfs_envelope.specs.Commands.{command_in}
use Rattle.xfs_machine.specs.Answers.{posted}
use Rattle.xfs_machine.specs.MachineView.{IsWhole}
use Rattle.xfs_machine.specs.Changes.{TextIsTaken}
use Rattle.xfs_traffic.specs.Parts.{with_traffic}
use Rattle.xfs_traffic.specs.declared.traffic.Traffic.{Traffic}
use Rattle.xfs_model.specs.Connections.{connection_of, is_client, without_mail}
use Rattle.xfs_model.specs.Events.{Answer, Event, join, post, outbox, leave, joined, full, done, handed, memory}
use Rattle.xfs_model.specs.State.{Connection, Pass, Queues, State, queue_of, with_queue}
use Rattle.xfs_model.specs.Step.{IsFull, Step, happens, wanting}
use Rattle.xfs_queue.specs.Queue.{without_client}
use Rattle.xfs_model.proofs.Advancing.{advances}
use Rattle.xfs_model.proofs.Keeping.{is_open}
use Rattle.xfs_model.proofs.Lists.{found_passes}
use Rattle.xfs_model.proofs.RunsTell.{mark_kept}
use Rattle.xfs_model.proofs.Sounds.{sound_kept}
use Rattle.xfs_model.proofs.Telling.{told_kept}

pub whole_kept : (old new : State) (event : Event) (answer : Answer) → IsWhole old → Step old event answer new → new.now.0 ≤ LAST_MOMENT → new.boot ≡ old.boot → IsWhole new
whole_kept old new event answer whole step moment boot = record {
  sound = sound_kept old new event answer whole.sound step;
  told = told_kept old new event answer whole.sound.machine whole.sound.asks whole.mark step whole.told;
  mark = mark_kept old.seen new.seen (advances old new event answer step).records whole.mark;
  moment = moment;
  there = λ e. whole.there (sym boot ∙ e);
}

pub join_wants : (s : State) (service : Service) → Step s (join service) memory s
join_wants s service = wanting refl refl

pub post_wants : (s : State) (pass : Pass) (text : List ℕ) (now : Moment) → Step s (post pass text now) memory s
post_wants s pass text now = wanting refl refl

-- the same of a call's result
pub post_refused : (r : Result Unit Memory) (why : Memory) (s : State) (pass : Pass) (text : List ℕ) (now : Moment) → IsErrAnd r (λ e. e ≡ why) → Step s (post pass text now) (posted r) s
post_refused (Ok it) why s pass text now err = absurd err
post_refused (Err wants) why s pass text now err = post_wants s pass text now

pub is_full : (s : State) (service : Service) → IsWhole s → IsFull s → Step s (join service) full s
is_full s service whole is = happens (whole.there) (is, refl)

pub joins : (s : State) (service : Service) (ks : List Connection) → IsWhole s → length s.connections < 64 → s.given < 4294967295
    → ks ≡ s.connections ++ record { client = record { 0 = s.given + 1 }; service = service; waiting = [] } ∷ []
    → Step s (join service) (joined (record { client = record { 0 = s.given + 1 }; service = service; boot = s.boot })) (record s { given = s.given + 1; connections = ks })
joins s service ks whole room number is = happens (whole.there) record {
  room = room;
  number = number;
  client = refl;
  service_is = refl;
  boot = refl;
  is = ap (λ l. record s { given = s.given + 1; connections = l }) is;
}

-- the pass is of another boot
pub elsewhere : (s : State) (pass : Pass) → s.boot ≢ pass.boot → connection_of s pass ≡ None
elsewhere s pass other = rw (ne_eqb s.boot pass.boot other) refl

here : (s : State) (pass : Pass) → s.boot ≡ pass.boot → connection_of s pass ≡ find (is_client pass.client) s.connections
here s pass same = rw (eq-eqb s.boot pass.boot same) refl

pub hands_none : (s : State) (pass : Pass) → IsWhole s → connection_of s pass ≡ None → Step s (outbox pass) (handed []) s
hands_none s pass whole none = happens (whole.there) (rw none (refl, refl))

no_client : (client : ClientId) (ks : List Connection) → find (is_client client) ks ≡ None → map (without_mail client) ks ≡ ks
no_client client [] e = refl
no_client client (k ∷ ks) e = elim (cases_Bool (is_client client k)) [
  | inl y ↦ absurd (none-some k (sym (rw y at e)))
  | inr n ↦ rw n (ap (λ l. k ∷ l) (no_client client ks (rw n at e)))
]

pub hands : (s : State) (pass : Pass) (frames : List (List ℕ)) (ks : List Connection) → IsWhole s → s.boot ≡ pass.boot
    → MatchOption (find (is_client pass.client) s.connections) (frames ≡ []) (λ k. frames ≡ k.waiting) → ks ≡ map (without_mail pass.client) s.connections
    → Step s (outbox pass) (handed frames) (record s { connections = ks })
hands s pass frames ks whole boot had is = happens (whole.there) (rw (here s pass boot) (of (find (is_client pass.client) s.connections) refl had))
  where
    of : (o : Option Connection) → find (is_client pass.client) s.connections ≡ o → MatchOption o (frames ≡ []) (λ k. frames ≡ k.waiting)
        → MatchOption o ((frames ≡ []) × (record s { connections = ks } ≡ s)) (λ k. (frames ≡ k.waiting) × (record s { connections = ks } ≡ record s { connections = map (without_mail k.client) s.connections }))
    of None found none = (none, ap (λ l. record s { connections = l }) (is ∙ no_client pass.client s.connections found))
    of (Some k) found waits =
        let named : k.client.0 ≡ pass.client.0 = eqb-true _ _ (found_passes (is_client pass.client) s.connections k found) in
        (waits, ap (λ l. record s { connections = l }) (is ∙ ap (λ n. map (without_mail (record { 0 = n })) s.connections) (sym named)))

pub leaves_none : (s : State) (pass : Pass) → IsWhole s → connection_of s pass ≡ None → Step s (leave pass) done s
leaves_none s pass whole none = happens (whole.there) (rw none refl)

-- the connection of a pass that has one
pub record Seated (s : State) (pass : Pass) (service : Service) : Type 0 where
  pub connection : Connection
  pub open_ : connection_of s pass ≡ Some connection
  pub named : connection.client ≡ pass.client
  pub at : connection.service ≡ service

seated_of : (s : State) (pass : Pass) (service : Service) (o : Option Connection) → connection_of s pass ≡ o → Some service ≡ option_map (λ k. k.service) o → Seated s pass service
seated_of s pass service None e is = absurd (none-some service (sym is))
seated_of s pass service (Some k) e is =
    let opened = is_open s pass k (s.boot == pass.boot) refl e in
    record { connection = k; open_ = e; named = ap (λ n. record { 0 = n }) opened.named; at = sym (same_Some service k.service is) }

pub seated : (s : State) (pass : Pass) (service : Service) → Some service ≡ option_map (λ k. k.service) (connection_of s pass) → Seated s pass service
seated s pass service is = seated_of s pass service (connection_of s pass) refl is

pub unseated : (s : State) (pass : Pass) → None ≡ option_map (λ k. k.service) (connection_of s pass) → connection_of s pass ≡ None
unseated s pass is = of (connection_of s pass) is
  where
    of : (o : Option Connection) → None ≡ option_map (λ k. k.service) o → o ≡ None
    of None e = refl
    of (Some k) e = absurd (none-some k.service e)

pub leaves : (s : State) (pass : Pass) (service : Service) (ks : List Connection) (qs : Queues) → IsWhole s → Seated s pass service
    → ks ≡ filter (λ j. not (is_client pass.client j)) s.connections → qs ≡ with_queue s.queues service (without_client (queue_of s.queues service) pass.client)
    → Step s (leave pass) done (record s { connections = ks; queues = qs })
leaves s pass service ks qs whole sender e f = happens (whole.there) (rw (sender.open_) (rw (sender.named, sender.at, e, f) refl))

abbrev pub traffic_of : State → Traffic
traffic_of s = record { connections = s.connections; queues = s.queues }

pub posts_none : (s : State) (pass : Pass) (text : List ℕ) (now : Moment) → IsWhole s → connection_of s pass ≡ None → Step s (post pass text now) done s
posts_none s pass text now whole none = happens (whole.there) (rw none refl)

pub posts : (s : State) (pass : Pass) (text : List ℕ) (now later : Moment) (service : Service) (traffic : Traffic) → IsWhole s → Seated s pass service
    → later ≡ cond (nat_le s.now.0 now.0) now s.now
    → TextIsTaken later (record { client = pass.client; service = service }) s.seen.guard (command_in text) (traffic_of s) traffic
    → Step s (post pass text now) done (record (with_traffic s traffic) { now = later })
posts s pass text now later service traffic whole sender moment takes =
    let at = takes (record s { now = later }) sender.connection (record { now_is = refl; client = sender.named; service = sender.at }) refl in
    happens (whole.there) (rw (sender.open_) (rw (← moment) at))

-- the greater of two moments is one of them
pub later_within : (a b m : Moment) → m ≡ cond (nat_le a.0 b.0) b a → a.0 ≤ LAST_MOMENT → b.0 ≤ LAST_MOMENT → m.0 ≤ LAST_MOMENT
later_within a b m e x y = rw e (of (nat_le a.0 b.0))
  where
    of : (c : Bool) → (cond c b a).0 ≤ LAST_MOMENT
    of true = y
    of false = x

-- what an Ok tells, of a result that is no error
pub was_ok : {T E P : Type 0} (r : Result T E) → is_err r ≡ false → OnOk r P → P
was_ok (Ok x) e p = p
was_ok (Err y) e p = absurd (false≢true (sym e))
