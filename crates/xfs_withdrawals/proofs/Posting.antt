-- A command that is posted to a dispenser at rest is next.
use Rattle.std.proofs.Common.{◌≡◌, ◌==◌, ℕ, true, false, List, [], ◌∷◌, ◌++◌, Some, Result, Ok, MatchOption, MatchBool, refl, ap, sym, subst, ◌∙◌}
use Rattle.serde_json.specs.Data.{Data}
use Rattle.xfs_base.specs.declared.moment.Service.{Service}
use Rattle.xfs_base.specs.declared.moment.Service.TheVariants.{Cash}
use Rattle.xfs_conversation.specs.Pending.{is_request_id, is_wrong_id}
use Rattle.xfs_dispenser.specs.Asks.{ask_of}
use Rattle.xfs_dispenser.specs.declared.ask.CashAsk.{CashAsk}
use Rattle.xfs_dispenser.specs.declared.ask.CashFail.{CashFail}
use Rattle.xfs_dispenser.specs.declared.command.CashCommand.{CashCommand}
use Rattle.xfs_envelope.specs.Commands as envelope
use Rattle.xfs_envelope.specs.declared.code.Status.TheVariants.{InvalidRequestId, TooManyRequests}
use Rattle.xfs_envelope.specs.Commands.{command_in}
use Rattle.xfs_model.specs.declared.known.Known.{Known}
use Rattle.xfs_model.specs.declared.known.Known.TheVariants as known
use Rattle.xfs_model.specs.Commands.{Asks, known_of}
use Rattle.xfs_model.specs.Connections.{sent, with_queue_at}
use Rattle.xfs_model.specs.Events.{done, memory, post}
use Rattle.xfs_model.specs.Pendings.{pending_in}
use Rattle.xfs_model.specs.Posts.{Accepts, Refuses, TakesText, TakesOn, job_of}
use Rattle.xfs_model.specs.State.{Ask, Connection, Job, State, bad, card, cash, clear, entry, issue, queue_at}
use Rattle.xfs_model.specs.Step.{Posts, Step, at_moment, happens, wanting}
use Rattle.xfs_model.proofs.Asking.{cash_known}
use Rattle.xfs_model.proofs.Keeping.{IsOpen, is_open, same_client}
use Rattle.xfs_queue.specs.Queue.{is_crowded, offered}
use Rattle.xfs_queue.specs.declared.command.Command.{Command}
use Rattle.xfs_queue.specs.declared.command.Line.TheVariants.{Device}
use Rattle.xfs_withdrawals.specs.Posted.{IsPosted, IsAccepted}
use Rattle.xfs_withdrawals.specs.Turning.{IsConnected, IsIdle}
use Rattle.xfs_withdrawals.proofs.Mail.{connected_sent}

same_ask : (a b : CashAsk) → ◌≡◌ {A = Result CashAsk CashFail} (Ok a) (Ok b) → cash b ≡ cash a
same_ask a b e = cc

-- what it was accepted as
asked : (kind : CashCommand) (payload : Data) (ask : CashAsk) (taken : Ask) → ask_of kind payload ≡ Ok ask → Asks (known.Cash kind) payload taken → taken ≡ cash ask
asked kind payload ask issue is asks = absurd asks
asked kind payload ask clear is asks = absurd asks
asked kind payload ask (cash other) is asks = same_ask ask other (sym is ∙ asks)
asked kind payload ask (card other) is asks = absurd asks
asked kind payload ask (entry other) is asks = absurd asks
asked kind payload ask bad is asks = absurd (asks (cash ask) is)

never_memory : done ≡ memory → ⊥
never_memory e = cc

-- where none is pending, a command with a fit id is accepted
accepted : (s : State) (k : Connection) (c : envelope.Command) (command : Known) (new : State) → k.service ≡ Cash → queue_at s Cash ≡ [] → is_request_id c.id ≡ true → known_of Cash c.name ≡ Some command → TakesText s k (Ok c) new → Accepts s k command c new
accepted s k c command new service idle id knows takes =
    let fit : is_wrong_id (pending_in k.client (queue_at s k.service)) c.id ≡ false = rw (service, idle, id) refl in
    let few : is_crowded (queue_at s k.service) k.client ≡ false = rw (service, idle) refl in
    let on : TakesOn s k c (known_of k.service c.name) new = subst (λ b. MatchBool b (Refuses s k (Some c.id) (Some c.name) InvalidRequestId new) (TakesOn s k c (known_of k.service c.name) new)) fit takes in
    let known_on : TakesOn s k c (Some command) new = subst (λ o. TakesOn s k c o new) (ap (λ x. known_of x c.name) service ∙ knows) on in
    subst (λ b. MatchBool b (Refuses s k (Some c.id) (Some c.name) TooManyRequests new) (Accepts s k command c new)) few known_on

module _ (ask : CashAsk) (s new : State) (idle : IsIdle s) (posted : IsPosted ask s new) where
  abbrev k : Connection
  k = posted.connection

  abbrev c : envelope.Command
  c = posted.command

  -- the command as it is accepted, and the machine then
  abbrev command : Command Job
  command = offered k.client c.id Device c.timeout (at_moment s posted.now).now (job_of c.name (cash ask))

  abbrev behind : List ℕ → Service → Ask → State
  behind reply x y = with_queue_at (sent (at_moment s posted.now) x k.client (reply ∷ [])) x (queue_at (at_moment s posted.now) x ++ offered k.client c.id Device c.timeout (at_moment s posted.now).now (job_of c.name y) ∷ [])

  -- the connection by its client
  connected : IsConnected s k.client k.waiting
  connected = record { connection = k; found = same_client s k.client posted.pass.client there.named ∙ there.found; service = posted.service; waits = refl }
    where
      there : IsOpen s posted.pass k
      there = is_open s posted.pass k (s.boot == posted.pass.boot) refl posted.open_now

  accepts : Posts s posted.pass posted.text posted.now new → Accepts (at_moment s posted.now) k (known.Cash posted.kind) c new
  accepts posts =
      let on : TakesText (at_moment s posted.now) k (command_in posted.text) new = subst (λ o. MatchOption o (new ≡ s) (λ j. TakesText (at_moment s posted.now) j (command_in posted.text) new)) posted.open_now posts in
      accepted (at_moment s posted.now) k c (known.Cash posted.kind) new posted.service idle.empty posted.id (cash_known c.name posted.kind posted.named) (subst (λ r. TakesText (at_moment s posted.now) k r new) posted.reads on)

  taken_as : Accepts (at_moment s posted.now) k (known.Cash posted.kind) c new → IsAccepted ask s new posted
  taken_as a = record {
    command = command;
    id = refl;
    name = refl;
    client = refl;
    acknowledge = a.reply;
    acknowledges = a.acknowledges;
    next = record {
      alone = ap (λ (n : State). queue_at n Cash) is ∙ ap (λ q. q ++ command ∷ []) idle.empty;
      accepted = refl;
      at_rest = record { settled = ap (λ (n : State). n.seen.guard.open_order) is ∙ idle.at_rest.settled; inactive = ap (λ (n : State). n.exchange) is ∙ idle.at_rest.inactive };
      connected = connected_sent s new k.client k.waiting (a.reply ∷ []) (ap (λ (n : State). n.connections) is) connected;
    };
    same = ap (λ (n : State). n.seen) is;
  }
    where
      it : a.ask ≡ cash ask
      it = asked posted.kind c.payload ask a.ask posted.asks a.asks

      is : new ≡ with_queue_at (sent (at_moment s posted.now) Cash k.client (a.reply ∷ [])) Cash (queue_at (at_moment s posted.now) Cash ++ command ∷ [])
      is = subst (λ y. new ≡ behind a.reply Cash y) it (subst (λ x. new ≡ behind a.reply x a.ask) posted.service a.is)

  pub taken : IsAccepted ask s new posted
  taken = go posted.step
    where
      go : Step s (post posted.pass posted.text posted.now) done new → IsAccepted ask s new posted
      go (happens up is) = taken_as (accepts is)
      go (wanting told wants) = absurd (never_memory told)
