use Rattle.std.proofs.Common.{◌≤◌}
use Rattle.xfs_base.specs.Causes.{IfTold}
use Rattle.xfs_script.specs.Reading.{Gives, nothing_read}
use Rattle.xfs_script.proofs.AnswerLaws.{HasAnswered}
use Rattle.xfs_script.proofs.answering.answer_lines.Given as goal

-- the lines that were handed out were answered, and so much was kept since the start
abbrev pub invariant-loop : goal.invariant-loop
invariant-loop g l =
    let state = g.A.Answerer.state in
    let left = g.S.Source.left in
    let held = g.K.Sink.held in
    record {
      keeps : g.A.Answerer.Keeps l.fn.answerer l.answerer;
      source_later : g.S.Source.faults l.fn.source ≤ g.S.Source.faults l.source;
      sink_later : g.K.Sink.faults l.fn.sink ≤ g.K.Sink.faults l.sink;
      gives : Gives nothing_read l.feed (left l.fn.source) (left l.source);
      answered : IfTold (left l.fn.source) (HasAnswered g.A.Answerer.command (state l.fn.answerer) (state l.answerer) l.feed (left l.source) (held l.fn.sink) (held l.sink));
    }
