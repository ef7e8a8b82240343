use Rattle.std.proofs.Common.{refl}
use Rattle.xfs_audit.proofs.payer.Payer.new.Goals as goal

pub returns-clause-paying : goal.returns-clause-paying
returns-clause-paying c = λ key units records. record {
  within = tt;
  read = c.new.ensures.read records;
  quiet = λ p currency lt. refl;
  claimed = λ p currency lives. refl;
}
