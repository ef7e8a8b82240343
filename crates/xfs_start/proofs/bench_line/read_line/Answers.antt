use Rattle.std.proofs.Common.{◌≡◌, false, inr, subst, IfNone}
use Rattle.std.specs.declared.option.Option.{Option}
use Rattle.xfs_start.specs.BenchLines.{IsBenchLine, has_numbers}
use Rattle.xfs_start.specs.declared.bench_line.BenchLine.{BenchLine}
use Rattle.xfs_start.proofs.LineLaws.{no_line}
use Rattle.xfs_start.proofs.bench_line.read_line.Goals as goal

pub returns-in-None-clause-bad : goal.returns-in-None-clause-bad
returns-in-None-clause-bad c =
    let P : Option BenchLine → Type 0 = λ r. IfNone r ((line : BenchLine) → IsBenchLine c.args.text.now line → has_numbers line ≡ false) in
    λ e. inr (no_line c.args.text.now (c.in-Err-NotALine.ensures.not_a_line (let is = c.in-Err-NotALine.field-0-is in cc)) (subst P c.in-None.is c.in_ok-line-in-Err-NotALine.ensures.none))
