use Rattle.std.proofs.Common.{◌≡◌, ◌∙◌, sym, rules, length}
use Rattle.std.specs.Prelude.{nat_lt, ◌||◌, ◌+◌, ◌-◌}
use Rattle.xfs_journal.proofs.Appended.{passes_is}
use Rattle.xfs_journal.proofs.journal.is_full.Goals as goal

pub returns-clause-full : goal.returns-clause-full
returns-clause-full c =
    let shown : c.passes_by.result ≡ (nat_lt c.args.limits.records (length c.args.recent.now.all - c.args.recent.now.base + 1) || nat_lt c.args.limits.bytes (c.args.end + length c.args.bytes.now + 1)) = search rules in
    shown ∙ sym (passes_is c.args.limits c.args.recent.now.base c.args.recent.now.all c.args.rec.now c.args.end c.args.bytes.now c.base.ensures.within c.requires.place c.requires.bytes)
