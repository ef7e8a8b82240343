use Rattle.std.proofs.Common.{◌≡◌, ◌∙◌, List, ℕ, ap, subst, Err}
use Rattle.std.specs.Prelude.{map, IfOk}
use Rattle.std.specs.List.{AllZip}
use Rattle.xfs_script.specs.Lines.{without_return}
use Rattle.xfs_start.specs.BenchFile.{HasNoLine}
use Rattle.xfs_start.specs.BenchLines.{IsBenchLine}
use Rattle.xfs_start.specs.declared.bench_line.BenchFault.TheVariants as BenchFault
use Rattle.xfs_start.proofs.LinesLaws.{lines_shown}
use Rattle.xfs_start.proofs.bench_file.read_lines.Goals as goal

pub returns-clause-ok : goal.returns-clause-ok
returns-clause-ok c =
    let P : List (List ℕ) → Type 0 = λ each. IfOk c.read_each.result (λ read. AllZip IsBenchLine each read.items) in
    subst P (ap (map (λ piece. without_return piece.now)) c.deref.ensures.value ∙ lines_shown c.in_ok-list.list.items c.args.text.now c.in_ok-list.ensures) c.read_each.ensures.ok

pub returns-clause-bad : goal.returns-clause-bad
returns-clause-bad c =
    let P : List (List ℕ) → Type 0 = λ each. c.read_each.result ≡ Err BenchFault.Bad → HasNoLine each in
    subst P (ap (map (λ piece. without_return piece.now)) c.deref.ensures.value ∙ lines_shown c.in_ok-list.list.items c.args.text.now c.in_ok-list.ensures) c.read_each.ensures.bad
