use Rattle.std.proofs.Common.{rules, ◌≡◌, sym, subst}
use Rattle.xfs_script.specs.Reading.{Reading}
use Rattle.xfs_script.specs.Answer.{ReadsLine}
use Rattle.xfs_script.proofs.lines.Lines.next.Goals as goal

pub returns-clause-reads : goal.returns-clause-reads
returns-clause-reads g c =
    let same : c.args.self.now ≡ c.in-Some.feed = search rules in
    let P : Reading → Type 0 = λ r. ReadsLine r c.next_line.new.self (g.S.Source.left c.args.source.now) (g.S.Source.left c.next_line.new.source) c.next_line.result in
    subst P (sym same) c.next_line.ensures.reads
