use Rattle.xfs_guard.proofs.BegunLaws.{begun-rebooted}
use Rattle.xfs_guard.proofs.RestoreLaws.{rebooted-alone}
use Rattle.xfs_guard.proofs.guard.Guard.reboot.Goals as goal

pub returns-clause-behind : goal.returns-clause-behind
returns-clause-behind g c = begun-rebooted c.read_again.result c.args.self.now.state c.read_again.new.self.state c.read_again.ensures.ok

pub returns-clause-alone : goal.returns-clause-alone
returns-clause-alone g c = rebooted-alone c.read_again.result c.args.self.now.state c.read_again.new.self.state c.read_again.ensures.ok
