use Rattle.std.proofs.Common.{◌∙◌, ◌++◌, ap, ℕ, List}
use Rattle.std.specs.Cmp.Lexicographic.{other_text}
use Rattle.xfs_journal.specs.Image.{body}
use Rattle.xfs_journal.proofs.Reading.{none_other}
use Rattle.xfs_journal.proofs.read.read_with.Goals as goal

pub returns-else-eq-clause-form : goal.returns-else-eq-clause-form
returns-else-eq-clause-form c =
    let rec = c.in_ok-rec.rec in
    let spelled = c.bytes.ensures ∙ c.put_body.ensures.items ∙ ap (λ (l : List ℕ). l ++ body rec) c.clear.ensures in
    λ _. none_other c.args.bytes.now c.bytes.result.now rec c.in_ok-rec.ensures.ok.0 spelled (other_text c.bytes.result.now c.args.bytes.now c.if-eq.ensures)
