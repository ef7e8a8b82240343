use Rattle.std.proofs.Common.{ap, sym, arith}
use Rattle.xfs_journal.specs.Paging.{PageView}
use Rattle.xfs_journal.proofs.Paged.{windowed}
use Rattle.xfs_journal.proofs.page.Page.give.Goals as goal

pub returns-clause-window : goal.returns-clause-window
returns-clause-window c = windowed c.self.inside.bytes c.self.inside.from c.self.inside.to c.min-count.result c.args.self.now.window (omega (arith, c.min-count.ensures)) (sym (ap (λ (v : PageView). v.window) c.self.view_is))
