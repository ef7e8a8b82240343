use Rattle.std.proofs.Common.{arith, sym, ◌∙◌, inl, inr}
use Rattle.xfs_script.proofs.Due.{told_map}
use Rattle.xfs_lines.specs.Audit.Verbs.{handed_of}
use Rattle.xfs_script.specs.Streams.{io_of}
use Rattle.xfs_lines.proofs.AuditLaws.{audits-end, audits-other}
use Rattle.xfs_lines.proofs.EndingLaws.{is-boot, is-end, is-no_line, is-quota, is-read, is-write, no-usage, status-ending}
use Rattle.xfs_lines.proofs.commands.audit.command.judge.Goals as goal

pub returns-in-AtEnd-clause-audits : goal.returns-in-AtEnd-clause-audits
returns-in-AtEnd-clause-audits g c =
    let io = io_of g.S.Source g.K.Sink c.args.source.now c.answer_lines.new.source c.args.sink.now c.conclude.new.sink in
    told_map (g.S.Source.left c.args.source.now) _ _ (λ text answers.
    audits-end c.args.key.now c.args.units.now c.conclude.result io (handed_of c.new-auditor.result) (handed_of c.answer_lines.new.answerer) c.answer_lines.result (g.K.Sink.held c.answer_lines.new.sink) text
    c.new-auditor.ensures c.in-AtEnd.is answers c.conclude.ensures.judges) c.answer_lines.ensures.answers

pub returns-clause-audits : goal.returns-clause-audits
returns-clause-audits g c =
    let io = io_of g.S.Source g.K.Sink c.args.source.now c.answer_lines.new.source c.args.sink.now c.finish.new.sink in
    told_map (g.S.Source.left c.args.source.now) _ _ (λ text answers.
    audits-other c.args.key.now c.args.units.now c.finish.result io (handed_of c.new-auditor.result) (handed_of c.answer_lines.new.answerer) c.answer_lines.result (g.K.Sink.faults c.answer_lines.new.sink) (g.K.Sink.held c.answer_lines.new.sink) text
    c.new-auditor.ensures c.in_default.not-AtEnd answers c.answer_lines.ensures.causes.sink_later c.finish.ensures.status c.finish.ensures.written) c.answer_lines.ensures.answers

pub returns-clause-lines : goal.returns-clause-lines
returns-clause-lines g c = λ zero. c.answer_lines.ensures.lines (is-end _ (sym c.finish.ensures.status ∙ zero))

pub returns-clause-not_a_line : goal.returns-clause-not_a_line
returns-clause-not_a_line g c = λ four.
    let e = is-no_line c.answer_lines.result (sym c.finish.ensures.status ∙ four) in c.answer_lines.ensures.not_a_line e.0 e.1

pub returns-clause-usage : goal.returns-clause-usage
returns-clause-usage g c = λ two. no-usage c.answer_lines.result (sym c.finish.ensures.status ∙ two)

pub returns-clause-unbooted : goal.returns-clause-unbooted
returns-clause-unbooted g c =
    let status = c.finish.ensures.status in (
      λ six. (let e = is-boot c.answer_lines.result (inl (sym status ∙ six)) in (c.answer_lines.ensures.ended e.0 e.1).ends),
      λ seven. (let e = is-boot c.answer_lines.result (inr (inl (sym status ∙ seven))) in (c.answer_lines.ensures.ended e.0 e.1).ends),
      λ twelve. (let e = is-boot c.answer_lines.result (inr (inr (sym status ∙ twelve))) in (c.answer_lines.ensures.ended e.0 e.1).ends),
    )

pub returns-clause-statuses : goal.returns-clause-statuses
returns-clause-statuses g c = rw c.finish.ensures.status (status-ending c.answer_lines.result)

pub returns-clause-causes : goal.returns-clause-causes
returns-clause-causes g c =
    let ending = c.answer_lines.ensures.causes in
    let status = c.finish.ensures.status in
    record {
      whole = λ zero. ending.whole (is-end _ (sym status ∙ zero));
      fewer = λ zero. ending.fewer (is-end _ (sym status ∙ zero));
      read = λ three. ending.read (is-read _ (sym status ∙ three));
      write = λ five. (let rose = ending.write (is-write _ (sym status ∙ five)) in omega (arith, rose, c.finish.ensures.later));
      quota = λ ten. ending.quota (is-quota _ (sym status ∙ ten));
    }
