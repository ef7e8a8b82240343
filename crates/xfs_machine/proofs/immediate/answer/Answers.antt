use Rattle.std.proofs.Common.{refl}
use Rattle.std.proofs.lemmas.Result.{on_ok_weaker}
use Rattle.xfs_envelope.specs.Commands.{said}
use Rattle.xfs_model.specs.Immediate.{told_of}
use Rattle.xfs_traffic.specs.Parts.{with_traffic}
use Rattle.xfs_machine.proofs.Posting.{tells}
use Rattle.xfs_machine.proofs.immediate.answer.Goals as goal

pub returns-clause-ok : goal.returns-clause-ok
returns-clause-ok g c = on_ok_weaker c.send_both.result (λ sends s k client service guard.
    let seen = with_traffic s c.args.traffic.now in
    let told = told_of seen c.args.sender.service c.args.asked in
    tells s k c.args.sender client service (said c.args.command.now) c.args.asked told c.args.traffic.now c.send_both.new.connections
    c.requires.named c.requires.told refl (sends told (c.in_ok-last.ensures seen guard))) c.send_both.ensures.ok
