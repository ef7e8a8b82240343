use Rattle.std.proofs.Common.{◌≡◌, Bool, None, Some, find, ap, subst, sym, ◌∙◌}
use Rattle.std.proofs.lemmas.Result.{on_ok_weaker}
use Rattle.xfs_base.specs.declared.moment.Service.{Service}
use Rattle.xfs_dispenser.specs.Answers.{Start, start_of}
use Rattle.xfs_dispenser.specs.Begins.{Begins}
use Rattle.xfs_dispenser.specs.Seen.{Seen, seen}
use Rattle.xfs_dispenser.specs.declared.ask.CashAsk.{CashAsk}
use Rattle.xfs_guard.proofs.KeepsLaws.{Keeps-same, Proceeds-same}
use Rattle.xfs_queue.specs.Commands.{is_waiting, ticket_of, waits_on}
use Rattle.xfs_queue.specs.declared.command.Command.{Command}
use Rattle.xfs_queue.specs.declared.command.Line.TheVariants.{Device}
use Rattle.xfs_model.specs.Cases.{BeginsAs, BeginsCash, BeginsFirst, with_start}
use Rattle.xfs_model.specs.State.{Ask, cash, card, entry, Job, Queues, State, queue_at, queue_of, with_queue}
use Rattle.xfs_model.specs.Touches.{running_at}
use Rattle.xfs_traffic.specs.Jobs.{ask_seen, changed_at}
use Rattle.xfs_machine.specs.Parts.{at_work}
use Rattle.xfs_traffic.proofs.ChangeLaws.{waits_there}
use Rattle.xfs_machine.proofs.WorkLaws.{at_cash}
use Rattle.xfs_machine.proofs.begin.begin_first.Goals as goal

begun : (s new : State) (service : Service) (a : Command Job) (ask : Ask) → find (waits_on Device) (queue_at s service) ≡ Some a → running_at s service ≡ None → a.job.ask ≡ ask → BeginsAs ask s service a new → BeginsFirst s service new
begun s new service a ask first alone asks begins = record { command = a; first = first; alone = alone; begins = subst (λ (k : Ask). BeginsAs k s service a new) (sym asks) begins }

begun_cash : (s : State) (service : Service) (a : Command Job) (ask : CashAsk) (next : Seen) (exchange : Bool) (start : Start) (queues : Queues) → Begins s.seen s.exchange ask next exchange start
    → queues ≡ with_queue s.queues service (changed_at (with_start start) (ticket_of a) (queue_at s service)) → BeginsCash s service a ask (record s { seen = next; exchange = exchange; queues = queues })
begun_cash s service a ask next exchange start queues begins at = record {
  next = next;
  exchange = exchange;
  start = start;
  begins = begins;
  is = ap (λ (q : Queues). record s { seen = next; exchange = exchange; queues = q }) at;
}

pub begin-requires : goal.begin-requires
begin-requires g c =
    c.requires.none (at_cash c.args.service (queue_of c.args.traffic.now.queues c.args.service) c.in-Some.command.now c.in-Cash.ask c.requires.fitting (rw c.at.ensures at (sym c.in-Some.ensures.first)) (sym c.ask.ensures ∙ ap ask_seen c.in-Cash.is))

pub set_result-requires : goal.set_result-requires
set_result-requires g c =
    rw c.ticket-ticket.ensures (waits_there (λ b. is_waiting b.stage) (ticket_of c.in-Some.command.now) (queue_of c.args.traffic.now.queues c.args.service) (rw c.at.ensures at c.in-Some.ensures.waiting))

pub returns-in_ok-begun-in-Cash-clause-begins : goal.returns-in_ok-begun-in-Cash-clause-begins
returns-in_ok-begun-in-Cash-clause-begins g c = λ s.
    let before = at_work g.D.Disk s s.now c.args.dispenser.now c.args.devices.now c.args.traffic.now in
    begun before (at_work g.D.Disk s s.now (record c.args.dispenser.now { guard = c.begin.new.guard; exchange = c.begin.new.exchange }) c.args.devices.now (record c.args.traffic.now { queues = c.start_cash.new.queues })) c.args.service c.in-Some.command.now (cash c.in-Cash.ask)
    (rw c.at.ensures at (sym c.in-Some.ensures.first)) c.requires.idle (sym c.ask.ensures ∙ ap ask_seen c.in-Cash.is)
    (begun_cash before c.args.service c.in-Some.command.now c.in-Cash.ask (seen g.D.Disk c.begin.new.guard) c.begin.new.exchange (start_of c.in_ok-begun-in-Cash.begun) c.start_cash.new.queues
    c.in_ok-begun-in-Cash.ensures.begins (rw c.ticket-ticket.ensures at c.start_cash.ensures))

pub returns-in_err-room-in-Cash-clause-proceeds : goal.returns-in_err-room-in-Cash-clause-proceeds
returns-in_err-room-in-Cash-clause-proceeds g c = Proceeds-same g.D.Disk _ g.met.D.Disk.only_now

pub returns-in_err-room-in-Cash-clause-keeps : goal.returns-in_err-room-in-Cash-clause-keeps
returns-in_err-room-in-Cash-clause-keeps g c = λ upheld. Keeps-same g.D.Disk _ g.met.D.Disk.only_now upheld

pub returns-in-Card-clause-begins : goal.returns-in-Card-clause-begins
returns-in-Card-clause-begins g c = on_ok_weaker c.begin_card.result (λ begins s.
    let before = at_work g.D.Disk s s.now c.args.dispenser.now c.args.devices.now c.args.traffic.now in
    begun before (at_work g.D.Disk s s.now c.args.dispenser.now (record c.args.devices.now { slot = c.begin_card.new.slot }) c.begin_card.new.traffic) c.args.service c.in-Some.command.now (card c.in-Card.ask)
    (rw c.at.ensures at (sym c.in-Some.ensures.first)) c.requires.idle (sym c.ask.ensures ∙ ap ask_seen c.in-Card.is)
    (begins before c.in-Some.command.now c.ticket-ticket.ensures)) c.begin_card.ensures.begins

pub returns-in-Card-clause-proceeds : goal.returns-in-Card-clause-proceeds
returns-in-Card-clause-proceeds g c = Proceeds-same g.D.Disk _ g.met.D.Disk.only_now

pub returns-in-Card-clause-keeps : goal.returns-in-Card-clause-keeps
returns-in-Card-clause-keeps g c = λ upheld. Keeps-same g.D.Disk _ g.met.D.Disk.only_now upheld

pub returns-in-Entry-clause-begins : goal.returns-in-Entry-clause-begins
returns-in-Entry-clause-begins g c = on_ok_weaker c.begin_entry.result (λ begins s.
    let before = at_work g.D.Disk s s.now c.args.dispenser.now c.args.devices.now c.args.traffic.now in
    begun before (at_work g.D.Disk s s.now c.args.dispenser.now (record c.args.devices.now { keypad = c.begin_entry.new.keypad }) (record c.args.traffic.now { queues = c.begin_entry.new.queues })) c.args.service c.in-Some.command.now (entry c.copy-ask.result)
    (rw c.at.ensures at (sym c.in-Some.ensures.first)) c.requires.idle (sym c.ask.ensures ∙ ap ask_seen c.in-Entry.is ∙ ap entry (sym c.copy-ask.ensures))
    (begins before c.in-Some.command.now c.ticket-ticket.ensures)) c.begin_entry.ensures.begins

pub returns-in-Entry-clause-proceeds : goal.returns-in-Entry-clause-proceeds
returns-in-Entry-clause-proceeds g c = Proceeds-same g.D.Disk _ g.met.D.Disk.only_now

pub returns-in-Entry-clause-keeps : goal.returns-in-Entry-clause-keeps
returns-in-Entry-clause-keeps g c = λ upheld. Keeps-same g.D.Disk _ g.met.D.Disk.only_now upheld

pub returns-in-Bad-clause-proceeds : goal.returns-in-Bad-clause-proceeds
returns-in-Bad-clause-proceeds g c = Proceeds-same g.D.Disk _ g.met.D.Disk.only_now

pub returns-in-Bad-clause-keeps : goal.returns-in-Bad-clause-keeps
returns-in-Bad-clause-keeps g c = λ upheld. Keeps-same g.D.Disk _ g.met.D.Disk.only_now upheld
