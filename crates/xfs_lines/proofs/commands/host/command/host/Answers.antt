use Rattle.std.proofs.Common.{◌≢◌, refl, inl, inr}
use Rattle.xfs_host.specs.Host.{State}
use Rattle.xfs_lines.specs.Host.Verbs.{host_lines, new_host}
use Rattle.xfs_lines.specs.Output.InputEnds.{EndsInput}
use Rattle.xfs_lines.proofs.BootedLaws.{told-more}
use Rattle.xfs_lines.proofs.LineEndLaws.{empty-host, unbooted-finishes}
use Rattle.xfs_lines.proofs.commands.host.command.host.Goals as goal

pub returns-clause-runs : goal.returns-clause-runs
returns-clause-runs g c =
    let s = c.answer_input-status.ensures in
    let unbooted : (c.answer_input-status.result ≢ 6) × (c.answer_input-status.result ≢ 7) × (c.answer_input-status.result ≢ 12) = ((λ six. (s.unbooted (inl six)).after.ends), (λ seven. (s.unbooted (inr (inl seven))).after.ends), (λ twelve. (s.unbooted (inr (inr twelve))).after.ends)) in
    rw c.give_back_untouched.ensures (record {
      answers = told-more _ _ (λ text. (end : State) × EndsInput host_lines (new_host c.args.bench.core.key) end c.answer_input-status.result _ text) (λ text answers. (c.answer_input-status.new.answerer.host, answers)) (rw c.new.ensures at s.answers);
      lines = s.lines;
      not_a_line = s.not_a_line;
      kept = record { mech = refl; disk = refl };
      unbooted = unbooted;
      finishes = unbooted-finishes _ empty-host _ _ _ _ _ s.statuses s.usage unbooted s.causes.read s.causes.write s.causes.quota s.not_a_line;
    })

pub returns-clause-ends_lines : goal.returns-clause-ends_lines
returns-clause-ends_lines g c =
    let s = c.answer_input-status.ensures in
    rw c.give_back_untouched.ensures (record { usage = s.usage; status = s.statuses; cause = s.causes; second = record { mech = refl; disk = refl } })
