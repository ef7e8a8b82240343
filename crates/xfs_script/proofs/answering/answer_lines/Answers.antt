use Rattle.std.proofs.Common.{rules, ◌+◌, take, arith, refl}
use Rattle.xfs_script.specs.Lines.{without_return}
use Rattle.xfs_script.specs.declared.line.Line.{Line}
use Rattle.xfs_script.proofs.LineLaws.{Gives-trans, read-quota}
use Rattle.xfs_script.proofs.AnswerLaws.{answered-line, answered-end, answered-stop, answered-long, all-lines, stops-at_line}
use Rattle.xfs_script.proofs.answering.answer_lines.Goals as goal

pub returns-in-Ok-None-clause-answers : goal.returns-in-Ok-None-clause-answers
returns-in-Ok-None-clause-answers g c = answered-end g.A.Answerer.command _ _ _ _ _ _ _ _ _ c.loop.invariant.answered (rw c.in-Ok-None.field-0-is at c.in-Ok-None.ensures.reads)

pub returns-in-Err-clause-answers : goal.returns-in-Err-clause-answers
returns-in-Err-clause-answers g c =
    let found : Line = record { number = c.find_line.new.self.handed + 1; text = without_return (take c.in-Ok-Some.end c.find_line.new.self.pending) } in
    answered-stop g.A.Answerer.command c.in-Err.ending _ _ _ _ _ _ _ _ _ _ _ found c.loop.invariant.answered (rw c.in-Ok-Some.field-0-is at c.in-Ok-Some.ensures.reads) (rw (c.number.ensures, c.line.ensures) at c.in-Err.ensures.err)

pub returns-in-Err-Quota-clause-causes : goal.returns-in-Err-Quota-clause-causes
returns-in-Err-Quota-clause-causes g c = record {
  whole = search rules;
  fewer = search rules;
  quota = λ quota. read-quota _ _ _ _ _ c.loop.invariant.gives (rw c.in-Err-Quota.field-0-is at c.in-Err-Quota.ensures.reads);
  read = search rules;
  write = search rules;
  sink_later = search rules;
}

pub returns-in-Err-TooLong-clause-answers : goal.returns-in-Err-TooLong-clause-answers
returns-in-Err-TooLong-clause-answers g c =
    rw c.in-Err-TooLong.number-is
    (answered-long g.A.Answerer.command _ _ _ _ _ _ _ _ _ c.in-Err-TooLong.number g.met.A.Answerer.is_short c.loop.invariant.answered (rw c.in-Err-TooLong.field-0-is at c.in-Err-TooLong.ensures.reads))

pub returns-in-Ok-None-clause-lines : goal.returns-in-Ok-None-clause-lines
returns-in-Ok-None-clause-lines g c = λ end.
    all-lines g.A.Answerer.command g.met.A.Answerer.is_line _ _ _ _ _ _ _ refl (answered-end g.A.Answerer.command _ _ _ _ _ _ _ _ _ c.loop.invariant.answered (rw c.in-Ok-None.field-0-is at c.in-Ok-None.ensures.reads))

pub returns-in-Err-clause-not_a_line : goal.returns-in-Err-clause-not_a_line
returns-in-Err-clause-not_a_line g c = λ number is.
    let found : Line = record { number = c.find_line.new.self.handed + 1; text = without_return (take c.in-Ok-Some.end c.find_line.new.self.pending) } in
    stops-at_line g.A.Answerer.command g.met.A.Answerer.is_line _ number _ _ _ _ _ _ is
    (answered-stop g.A.Answerer.command c.in-Err.ending _ _ _ _ _ _ _ _ _ _ _ found c.loop.invariant.answered (rw c.in-Ok-Some.field-0-is at c.in-Ok-Some.ensures.reads) (rw (c.number.ensures, c.line.ensures) at c.in-Err.ensures.err))

pub returns-in-Err-TooLong-clause-not_a_line : goal.returns-in-Err-TooLong-clause-not_a_line
returns-in-Err-TooLong-clause-not_a_line g c = λ number is.
    stops-at_line g.A.Answerer.command g.met.A.Answerer.is_line _ c.in-Err-TooLong.number _ _ _ _ _ _ refl
    (answered-long g.A.Answerer.command _ _ _ _ _ _ _ _ _ c.in-Err-TooLong.number g.met.A.Answerer.is_short c.loop.invariant.answered (rw c.in-Err-TooLong.field-0-is at c.in-Err-TooLong.ensures.reads))

pub loop-preserved : goal.loop-preserved
loop-preserved g c =
    let found : Line = record { number = c.find_line.new.self.handed + 1; text = without_return (take c.in-Ok-Some.end c.find_line.new.self.pending) } in
    record {
      keeps = g.met.A.Answerer.keeps_then _ _ _ c.loop.invariant.keeps c.in-Ok-answer_line.ensures.keeps;
      source_later = omega (arith, c.loop.invariant.source_later, c.find_line.ensures.cause.later);
      sink_later = omega (arith, c.loop.invariant.sink_later, c.answer_line.ensures.later);
      gives = rw c.pass.ensures (Gives-trans _ _ _ _ _ _ c.loop.invariant.gives (rw c.in-Ok-Some.field-0-is at c.in-Ok-Some.ensures.reads).gives);
      answered = rw c.pass.ensures (answered-line g.A.Answerer.command _ _ _ _ _ _ _ _ _ _ _ found c.loop.invariant.answered (rw c.in-Ok-Some.field-0-is at c.in-Ok-Some.ensures.reads) (rw c.line.ensures at c.in-Ok-answer_line.ensures.ok));
    }
