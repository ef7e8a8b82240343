-- What one turn makes of a machine whose dispenser has one pending command.
use Rattle.std.proofs.Common.{◌≡◌, ◌≢◌, ◌||◌, ℕ, Bool, true, false, cond, List, [], ◌∷◌, ◌++◌, Option, None, Some, find, not, refl, ap, sym, subst, ◌∙◌}
use Rattle.xfs_base.specs.declared.moment.ClientId.{ClientId}
use Rattle.xfs_base.specs.declared.moment.Moment.{Moment}
use Rattle.xfs_base.specs.declared.moment.Service.TheVariants.{Cash}
use Rattle.xfs_dispenser.specs.Answers.{Start, Went}
use Rattle.xfs_dispenser.specs.Begins.{Begins}
use Rattle.xfs_dispenser.specs.Seen.{Seen}
use Rattle.xfs_dispenser.specs.Steps.{Works}
use Rattle.xfs_dispenser.specs.declared.ask.CashAsk.{CashAsk}
use Rattle.xfs_dispenser.specs.declared.plan.Plan.{Plan}
use Rattle.xfs_model.specs.Cases.{AnswersFirst, BeginsAs, BeginsCash, BeginsFirst, Does, WorksOnPlan, has_ended, with_start, with_went}
use Rattle.xfs_model.specs.Connections.{announced, sent}
use Rattle.xfs_model.specs.Conversations.{frames_after}
use Rattle.xfs_model.specs.Events.{Answer, handed, memory, outbox, work}
use Rattle.xfs_model.specs.Frames.{Announces, IsCompletion}
use Rattle.xfs_model.specs.Results.{changed, with_plan}
use Rattle.xfs_model.specs.State.{Ending, Job, Outcome, Pass, State, cash, queue_at}
use Rattle.xfs_model.specs.Step.{Step, at_moment, happens, wanting}
use Rattle.xfs_model.specs.Work.{case_of}
use Rattle.xfs_model.proofs.Changes.{at_itself}
use Rattle.xfs_queue.specs.Commands.{is_ready, is_running, ticket_of, waits_on}
use Rattle.xfs_queue.specs.Queue.{without}
use Rattle.xfs_queue.specs.declared.command.Command.{Command}
use Rattle.xfs_queue.specs.declared.command.Line.TheVariants.{Device}
use Rattle.xfs_withdrawals.specs.Turning.{IsConnected}
use Rattle.xfs_withdrawals.proofs.Mail.{connected_same, connected_sent, handed_on}
use Rattle.xfs_withdrawals.specs.Withdrawals.{IsBeside}

-- what lies beside the dispenser is as it was
pub itself : (s : State) → IsBeside s s
itself s = record { life = refl; issued = refl; boot = refl; slot = refl; keypad = refl; given = refl; queues = refl }

onward : (r s t : State) → IsBeside r s → IsBeside s t → IsBeside r t
onward r s t a b = record {
  life = b.life ∙ a.life;
  issued = b.issued ∙ a.issued;
  boot = b.boot ∙ a.boot;
  slot = b.slot ∙ a.slot;
  keypad = b.keypad ∙ a.keypad;
  given = b.given ∙ a.given;
  queues = b.queues ∙ a.queues;
}

module _ (base : State) where
  -- these commands are pending at the dispenser, no exchange is active, and these frames wait for the connected client
  pub record Stands (s : State) (q : List (Command Job)) (client : ClientId) (waiting : List (List ℕ)) : Type 0 where
    pub queue : queue_at s Cash ≡ q
    pub inactive : s.exchange ≡ false
    pub connected : IsConnected s client waiting
    pub beside : IsBeside base s

  pub stands_later : (s : State) (now : Moment) (q : List (Command Job)) (client : ClientId) (waiting : List (List ℕ)) → Stands s q client waiting → Stands (at_moment s now) q client waiting
  stands_later s now q client waiting h = record { queue = h.queue; inactive = h.inactive; connected = connected_same s (at_moment s now) client waiting refl h.connected; beside = onward base s (at_moment s now) h.beside (record { life = refl; issued = refl; boot = refl; slot = refl; keypad = refl; given = refl; queues = refl }) }

  -- behind an outbox
  pub record Heard (s : State) (pass : Pass) (more : List (List ℕ)) (new : State) (q : List (Command Job)) (client : ClientId) (waiting : List (List ℕ)) : Type 0 where
    pub left : List (List ℕ)
    pub stands : Stands new q client left
    pub all : frames_after s [] (outbox pass) (handed more) client ++ left ≡ waiting
    pub seen : new.seen ≡ s.seen

  pub hears_on : (s : State) (pass : Pass) (more : List (List ℕ)) (new : State) (q : List (Command Job)) (client : ClientId) (waiting : List (List ℕ)) → Step s (outbox pass) (handed more) new → Stands s q client waiting
      → Heard s pass more new q client waiting
  hears_on s pass more new q client waiting (happens up is) h =
      let on = handed_on s pass more new client waiting is h.connected in
      record {
        left = on.left;
        stands = record { queue = ap (λ (n : State). queue_at n Cash) on.is ∙ h.queue; inactive = ap (λ (n : State). n.exchange) on.is ∙ h.inactive; connected = on.connected; beside = onward base s new h.beside (subst (λ n. IsBeside s n) (sym on.is) (record { life = refl; issued = refl; boot = refl; slot = refl; keypad = refl; given = refl; queues = refl })) };
        all = on.all;
        seen = ap (λ (n : State). n.seen) on.is;
      }
  hears_on s pass more new q client waiting (wanting told wants) h = absurd wants

  -- what the work does at its moment
  pub does_work : (s : State) (now : Moment) (told_ : Answer) (new : State) → told_ ≢ memory → Step s (work Cash now) told_ new → Does (case_of (at_moment s now) Cash) (at_moment s now) Cash new
  does_work s now told_ new some (happens up is) = is.1
  does_work s now told_ new some (wanting told wants) = absurd (some told)

  same_command : (a b : Command Job) → Some a ≡ Some b → b ≡ a
  same_command a b e = cc

  same_plan : (a b : Plan) → Some a ≡ Some b → b ≡ a
  same_plan a b e = cc

  -- a change of the only command
  one_changed : (f : Command Job → Command Job) (c : Command Job) → changed f c (c ∷ []) ≡ f c ∷ []
  one_changed f c = ap (λ b. cond b (f c) c ∷ []) (at_itself (ticket_of c))

  one_gone : (c : Command Job) → without (c ∷ []) (ticket_of c) ≡ []
  one_gone c = ap (λ b. cond (not b) (c ∷ []) []) (at_itself (ticket_of c))

  -- the first of one that passes is that one
  found_alone : (test : Command Job → Bool) (c b : Command Job) (q : List (Command Job)) → q ≡ c ∷ [] → test c ≡ true → find test q ≡ Some b → b ≡ c
  found_alone test c b q is passes found =
      let here : find test (c ∷ []) ≡ Some c = rw passes refl in
      same_command c b (sym here ∙ (ap (λ l. find test l) (sym is) ∙ found))

  -- a step of the plan of the running command
  pub record HasWorked (s : State) (a : Command Job) (plan : Plan) (new : State) (client : ClientId) (waiting : List (List ℕ)) : Type 0 where
    pub next : Seen
    pub seen : new.seen ≡ next
    pub left : Plan
    pub went : Went
    pub works : Works s.seen plan next left went
    pub stands : Stands new (with_went left (has_ended s.seen next) went (with_plan plan false a) ∷ []) client waiting

  pub works_on : (s new : State) (a : Command Job) (plan : Plan) (client : ClientId) (waiting : List (List ℕ)) → Stands s (with_plan plan false a ∷ []) client waiting → WorksOnPlan s new → HasWorked s a plan new client waiting
  works_on s new a plan client waiting h w =
      let c = with_plan plan false a in
      let it : w.command ≡ c = found_alone (λ b. is_running b.stage) c w.command (queue_at s Cash) h.queue refl w.runs in
      let has : w.plan ≡ plan = same_plan plan w.plan (sym (ap (λ (x : Command Job). x.job.plan) it) ∙ w.planned) in
      record {
        next = w.next;
        seen = ap (λ (n : State). n.seen) w.is;
        left = w.left;
        went = w.went;
        works = subst (λ p. Works s.seen p w.next w.left w.went) has w.works;
        stands = record {
          queue = ap (λ (n : State). queue_at n Cash) w.is
              ∙ (ap (λ (x : Command Job). changed (with_went w.left (x.job.ended_nonce || has_ended s.seen w.next) w.went) x (queue_at s Cash)) it
              ∙ (ap (λ q. changed (with_went w.left (has_ended s.seen w.next) w.went) c q) h.queue
              ∙ one_changed (with_went w.left (has_ended s.seen w.next) w.went) c));
          inactive = ap (λ (n : State). n.exchange) w.is ∙ h.inactive;
          connected = connected_same s new client waiting (ap (λ (n : State). n.connections) w.is) h.connected;
          beside = onward base s new h.beside (subst (λ n. IsBeside s n) (sym w.is) (record { life = refl; issued = refl; boot = refl; slot = refl; keypad = refl; given = refl; queues = refl }));
        };
      }

  -- the command is begun
  pub record HasBegun (s : State) (a : Command Job) (ask : CashAsk) (new : State) (client : ClientId) (waiting : List (List ℕ)) : Type 0 where
    pub bound : Seen
    pub seen : new.seen ≡ bound
    pub after : Bool
    pub start : Start
    pub begins : Begins s.seen false ask bound after start
    pub queue : queue_at new Cash ≡ with_start start a ∷ []
    pub exchange : new.exchange ≡ after
    pub connected : IsConnected new client waiting
    pub beside : IsBeside base new

  pub begins_on : (s new : State) (a : Command Job) (ask : CashAsk) (client : ClientId) (waiting : List (List ℕ)) → waits_on Device a ≡ true → a.job.ask ≡ cash ask → Stands s (a ∷ []) client waiting → BeginsFirst s Cash new → HasBegun s a ask new client waiting
  begins_on s new a ask client waiting waits asks h b =
      let it : b.command ≡ a = found_alone (waits_on Device) a b.command (queue_at s Cash) h.queue waits b.first in
      let as_cash : BeginsCash s Cash a ask new = subst (λ x. BeginsAs x s Cash a new) asks (subst (λ x. BeginsAs x.job.ask s Cash x new) it b.begins) in
      begun as_cash
    where
      begun : BeginsCash s Cash a ask new → HasBegun s a ask new client waiting
      begun w = record {
        bound = w.next;
        seen = ap (λ (n : State). n.seen) w.is;
        after = w.exchange;
        start = w.start;
        begins = subst (λ e. Begins s.seen e ask w.next w.exchange w.start) h.inactive w.begins;
        queue = ap (λ (n : State). queue_at n Cash) w.is ∙ (ap (λ q. changed (with_start w.start) a q) h.queue ∙ one_changed (with_start w.start) a);
        exchange = ap (λ (n : State). n.exchange) w.is;
        connected = connected_same s new client waiting (ap (λ (n : State). n.connections) w.is) h.connected;
        beside = onward base s new h.beside (subst (λ n. IsBeside s n) (sym w.is) (record { life = refl; issued = refl; boot = refl; slot = refl; keypad = refl; given = refl; queues = refl }));
      }

  -- the command is answered
  pub record HasAnswered (s : State) (b : Command Job) (result : Outcome) (new : State) (client : ClientId) (waiting : List (List ℕ)) : Type 0 where
    pub completion : List ℕ
    pub completes : IsCompletion b.id b.job.name result.code result.payload completion
    pub stands : Stands new [] client (waiting ++ completion ∷ [])
    pub seen : new.seen ≡ s.seen

  same_outcome : (a b : Outcome) → Some a ≡ Some b → b ≡ a
  same_outcome a b e = cc

  unannounced : (ending : Option Ending) (before : Option (List ℕ)) → ending ≡ None → Announces ending before → before ≡ None
  unannounced None None none is = refl
  unannounced None (Some frame) none is = absurd is
  unannounced (Some ending) before none is = cc

  pub answers_on : (s new : State) (b : Command Job) (result : Outcome) (waiting : List (List ℕ)) → is_ready b.stage ≡ true → b.job.outcome ≡ Some result → result.ending ≡ None → Stands s (b ∷ []) b.client waiting → AnswersFirst s Cash new
      → HasAnswered s b result new b.client waiting
  answers_on s new b result waiting ready has calm h w =
      let it : w.command ≡ b = found_alone (λ x. is_ready x.stage) b w.command (queue_at s Cash) h.queue ready w.first in
      let same : w.result ≡ result = same_outcome result w.result (sym has ∙ (sym (ap (λ (x : Command Job). x.job.outcome) it) ∙ w.has)) in
      let silent : w.before ≡ None = unannounced w.result.ending w.before (ap (λ (o : Outcome). o.ending) same ∙ calm) w.announces in
      let sends : (sent (announced s Cash w.before) Cash w.command.client (w.last ∷ [])).connections ≡ (sent s Cash b.client (w.last ∷ [])).connections = rw (it, silent) refl in
      record {
        completion = w.last;
        completes = subst (λ (o : Outcome). IsCompletion b.id b.job.name o.code o.payload w.last) same (subst (λ (x : Command Job). IsCompletion x.id x.job.name w.result.code w.result.payload w.last) it w.completes);
        stands = record {
          queue = ap (λ (n : State). queue_at n Cash) w.is ∙ (ap (λ (x : Command Job). without (queue_at s Cash) (ticket_of x)) it ∙ (ap (λ q. without q (ticket_of b)) h.queue ∙ one_gone b));
          inactive = ap (λ (n : State). n.exchange) w.is ∙ (rw silent refl ∙ h.inactive);
          connected = connected_sent s new b.client waiting (w.last ∷ []) (ap (λ (n : State). n.connections) w.is ∙ sends) h.connected;
          beside = onward base s new h.beside (subst (λ n. IsBeside s n) (sym w.is) (rw silent (record { life = refl; issued = refl; boot = refl; slot = refl; keypad = refl; given = refl; queues = refl })));
        };
        seen = ap (λ (n : State). n.seen) w.is ∙ rw silent refl;
      }
