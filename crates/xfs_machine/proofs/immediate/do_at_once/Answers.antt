use Rattle.std.proofs.Common.{◌≡◌, Some, ap, sym, ◌∙◌}
use Rattle.std.proofs.lemmas.Result.{on_ok_weaker}
use Rattle.xfs_common.specs.Commands.{immediate_of}
use Rattle.xfs_common.specs.declared.command.Immediate.{Immediate}
use Rattle.xfs_common.specs.declared.command.Immediate.TheVariants.{GetPresentStatus}
use Rattle.xfs_envelope.specs.Commands.{said}
use Rattle.xfs_machine.proofs.Posting.{tells_presents}
use Rattle.xfs_machine.proofs.immediate.do_at_once.Goals as goal

pub returns-in-Some-Cancel-clause-ok : goal.returns-in-Some-Cancel-clause-ok
returns-in-Some-Cancel-clause-ok g c = on_ok_weaker c.cancel.result (λ does. does c.args.guard.now.state) c.cancel.ensures.ok

pub returns-in_ok-outcome-in-Some-GetPresentStatus-clause-ok : goal.returns-in_ok-outcome-in-Some-GetPresentStatus-clause-ok
returns-in_ok-outcome-in-Some-GetPresentStatus-clause-ok g c =
    let arm = c.in-Some-GetPresentStatus in
    let named : immediate_of c.args.sender.service c.args.command.now.name ≡ Some GetPresentStatus =
    ap (immediate_of c.args.sender.service) (sym c.as_str.ensures.text) ∙ sym c.named-asked.ensures ∙ arm.is ∙ ap (λ (a : Immediate). Some a) (rw arm.is at arm.field-0-is) in
    on_ok_weaker c.complete.result (λ completed s k client service guard.
    tells_presents s k c.args.sender client service (said c.args.command.now) c.in_ok-outcome-in-Some-GetPresentStatus.outcome c.args.traffic.now c.complete.new.connections
    named (rw guard c.in_ok-outcome-in-Some-GetPresentStatus.ensures) completed) c.complete.ensures.ok
