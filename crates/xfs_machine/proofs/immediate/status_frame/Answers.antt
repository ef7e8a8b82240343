use Rattle.std.proofs.Common.{◌∙◌}
use Rattle.xfs_machine.proofs.Fits.{status_told}
use Rattle.xfs_machine.proofs.immediate.status_frame.Goals as goal

pub returns : goal.returns
returns c =
    let told = status_told c.args.service c.args.health c.status_text-payload.result.now c.status_text-payload.ensures in
    record {
      text = c.new.ensures ∙ c.in_ok-text.ensures.text _ told;
      reads_back = rw c.new.ensures (c.in_ok-text.ensures.reads_back _ told);
    }
