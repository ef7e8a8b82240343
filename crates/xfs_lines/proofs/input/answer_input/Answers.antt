use Rattle.std.proofs.Common.{arith, sym, ◌∙◌, ap}
use Rattle.xfs_script.proofs.Due.{told_map}
use Rattle.xfs_script.proofs.LastLaws.{last-later}
use Rattle.xfs_lines.specs.Output.InputEnds.{ending_status}
use Rattle.xfs_lines.proofs.EndingLaws.{is-boot, is-end, is-no_line, is-quota, is-read, is-write, no-usage, status-ending}
use Rattle.xfs_lines.proofs.input.answer_input.Goals as goal

pub returns : goal.returns
returns g c =
    let lines = c.answer_lines-ending.ensures in
    let causes = c.answer_lines-ending.ensures.causes in
    let status = c.finish.ensures.status in
    record {
      keeps = lines.keeps;
      answers = told_map (g.S.Source.left c.args.source.now) _ _ (λ text answers. record {
        ending = c.answer_lines-ending.result;
        status_is = status;
        answered = g.K.Sink.held c.answer_lines-ending.new.sink;
        answers = answers;
        last = last-later _ _ _ causes.sink_later c.finish.ensures.written;
      }) lines.answers;
      unbooted = λ boot.
          let e = is-boot c.answer_lines-ending.result (rw status at boot) in
          record { why = e.0; status_is = status ∙ ap ending_status e.1; after = lines.ended e.0 e.1 };
      lines = λ zero. lines.lines (is-end _ (sym status ∙ zero));
      not_a_line = λ four. (let e = is-no_line c.answer_lines-ending.result (sym status ∙ four) in lines.not_a_line e.0 e.1);
      usage = λ two. no-usage c.answer_lines-ending.result (sym status ∙ two);
      statuses = rw status (status-ending c.answer_lines-ending.result);
      causes = record {
        whole = λ zero. causes.whole (is-end _ (sym status ∙ zero));
        fewer = λ zero. causes.fewer (is-end _ (sym status ∙ zero));
        read = λ three. causes.read (is-read _ (sym status ∙ three));
        write = λ five. (let rose = causes.write (is-write _ (sym status ∙ five)) in omega (arith, rose, c.finish.ensures.later));
        quota = λ ten. causes.quota (is-quota _ (sym status ∙ ten));
      };
    }
