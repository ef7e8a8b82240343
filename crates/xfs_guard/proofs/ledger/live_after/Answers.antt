use Rattle.std.proofs.Common.{arith}
use Rattle.xfs_guard.proofs.LedgerLaws.{found-at, found-issue, found-plain, kept-issue}
use Rattle.xfs_guard.proofs.ledger.live_after.Goals as goal

pub returns-in-Some : goal.returns-in-Some
returns-in-Some g c = λ lives.
    let records = c.args.journal.now.records in
    let at = found-at records c.records-kept.result.now c.args.journal.now.base c.base.result _ c.args.before c.index-kept-at.result c.records-kept.ensures c.base.ensures.base c.requires.based c.requires.low (omega arith) (omega arith) c.index-kept-at.is in
    found-issue records c.args.before c.in-Issue.number c.in-Issue.word c.index-kept-at.result c.args.doubted c.in-Some.nonce at c.in-Issue.is c.requires.high c.requires.doubted c.in-Some.is

pub returns-in-None : goal.returns-in-None
returns-in-None g c = λ lives.
    let records = c.args.journal.now.records in
    let at = found-at records c.records-kept.result.now c.args.journal.now.base c.base.result _ c.args.before c.index-kept-at.result c.records-kept.ensures c.base.ensures.base c.requires.based c.requires.low (omega arith) (omega arith) c.index-kept-at.is in
    absurd (kept-issue records c.args.before c.in-Issue.number c.in-Issue.word c.index-kept-at.result c.args.doubted at c.in-Issue.is c.requires.doubted c.in-None.is)

pub returns-in_default : goal.returns-in_default
returns-in_default g c = λ lives.
    let records = c.args.journal.now.records in
    let at = found-at records c.records-kept.result.now c.args.journal.now.base c.base.result _ c.args.before c.index-kept-at.result c.records-kept.ensures c.base.ensures.base c.requires.based c.requires.low (omega arith) (omega arith) c.index-kept-at.is in
    found-plain records c.args.before c.index-kept-at.result c.args.live at c.requires.high c.in_default.not-Issue c.in_default.not-Clear c.in_default.not-Expire c.in_default.not-Boot c.in_default.not-Start lives
