use Rattle.std.proofs.Common.{◌≢◌, refl, inl, inr}
use Rattle.xfs_lines.proofs.LineEndLaws.{empty-token, unbooted-finishes}
use Rattle.xfs_lines.proofs.commands.token.command.token.Goals as goal

pub returns-clause-runs : goal.returns-clause-runs
returns-clause-runs g c =
    let s = c.answer_input-status.ensures in
    let unbooted : (c.answer_input-status.result ≢ 6) × (c.answer_input-status.result ≢ 7) × (c.answer_input-status.result ≢ 12) = ((λ six. (s.unbooted (inl six)).after.ends), (λ seven. (s.unbooted (inr (inl seven))).after.ends), (λ twelve. (s.unbooted (inr (inr twelve))).after.ends)) in
    rw c.give_back_untouched.ensures (record {
      answers = rw (s.keeps, c.new.ensures) at s.answers;
      lines = s.lines;
      not_a_line = s.not_a_line;
      kept = record { mech = refl; disk = refl };
      unbooted = unbooted;
      finishes = unbooted-finishes _ empty-token _ _ _ _ _ s.statuses s.usage unbooted s.causes.read s.causes.write s.causes.quota s.not_a_line;
    })

pub returns-clause-ends_lines : goal.returns-clause-ends_lines
returns-clause-ends_lines g c =
    let s = c.answer_input-status.ensures in
    rw c.give_back_untouched.ensures (record { usage = s.usage; status = s.statuses; cause = s.causes; second = record { mech = refl; disk = refl } })
