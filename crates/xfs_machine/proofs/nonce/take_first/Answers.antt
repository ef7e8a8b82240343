use Rattle.std.proofs.Common.{◌≡◌, sym, ◌∙◌}
use Rattle.xfs_dispenser.specs.Seen.{seen}
use Rattle.xfs_envelope.specs.declared.code.Code.TheVariants.{TimeOut}
use Rattle.xfs_guard.proofs.KeepsLaws.{Keeps-same, Proceeds-same}
use Rattle.xfs_queue.specs.Commands.{is_waiting, ticket_of}
use Rattle.xfs_model.specs.Results.{plain}
use Rattle.xfs_machine.specs.Parts.{at_dispenser}
use Rattle.xfs_machine.proofs.NonceLine.{nonce_done, nonce_late}
use Rattle.xfs_traffic.proofs.ChangeLaws.{waits_there}
use Rattle.xfs_machine.proofs.nonce.take_first.Goals as goal
use Rattle.xfs_machine.proofs.nonce.take_first.Goals.{then-due, else-due+in_ok-outcome}

pub set_result-requires : goal.set_result-requires
set_result-requires g c = rw c.ticket-ticket.ensures (waits_there (λ b. is_waiting b.stage) (ticket_of c.in-Some.command.now) c.args.queues.now.cash (rw c.at.ensures at c.in-Some.ensures.waiting))

pub returns-clause-takes : goal.returns-clause-takes
returns-clause-takes g c = λ s.
    let before = at_dispenser g.D.Disk s c.args.now c.args.dispenser.now c.args.queues.now in
    let a = c.in-Some.command.now in
    let first = rw c.at.ensures at (sym c.in-Some.ensures.first) in
    let valid = rw c.at.ensures at c.in-Some.ensures.valid in
    let is_due = rw (c.at-2.ensures, c.ticket-ticket.ensures) at c.due.ensures in
    elim c.if-due.branch [
      | then-due w ↦
          let is : c.if-due.outcome ≡ plain TimeOut = w.outcome-is ∙ (rw (w.nothing.ensures) at w.new-outcome.ensures) in
          rw (w.dispenser-is) (nonce_late before a c.due.result c.set_result.new.self first valid is_due w.if-due.true (rw (c.ticket-ticket.ensures, is) at c.set_result.ensures))
      | else-due+in_ok-outcome w ↦
          rw (w.dispenser-is) (nonce_done before a c.due.result c.if-due.outcome (seen g.D.Disk w.do_ask.new.guard) w.do_ask.new.issued c.set_result.new.self first valid is_due w.if-due.false
          (rw (← w.ask.ensures, w.outcome-is) (w.in_ok-outcome.ensures.done before)) (rw c.ticket-ticket.ensures at c.set_result.ensures))
    ]

pub returns-clause-proceeds : goal.returns-clause-proceeds
returns-clause-proceeds g c = elim c.if-due.branch [
  | then-due w ↦ rw (w.dispenser-is) (Proceeds-same g.D.Disk _ g.met.D.Disk.only_now)
  | else-due+in_ok-outcome w ↦ rw (w.dispenser-is) w.do_ask.ensures.keeps.proceeds
]

pub returns-clause-keeps : goal.returns-clause-keeps
returns-clause-keeps g c = λ upheld. elim c.if-due.branch [
  | then-due w ↦ rw (w.dispenser-is) (Keeps-same g.D.Disk _ g.met.D.Disk.only_now upheld)
  | else-due+in_ok-outcome w ↦ rw (w.dispenser-is) w.do_ask.ensures.keeps
]
