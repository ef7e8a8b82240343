use Rattle.std.proofs.Common.{inl, inr}
use Rattle.std.proofs.lemmas.List.{append-nil}
use Rattle.xfs_envelope.specs.Codes.{code_text, status_text}
use Rattle.xfs_script.proofs.LastLaws.{last-none}
use Rattle.xfs_withdraw.proofs.last_line.finish.Goals as goal

pub returns-in-Done-clause-written : goal.returns-in-Done-clause-written
returns-in-Done-clause-written g c = rw c.in-Done.is c.write_last_line.ensures.written

pub returns-in-Ended-clause-written : goal.returns-in-Ended-clause-written
returns-in-Ended-clause-written g c = rw c.in-Ended.is (rw (c.as_bytes.ensures.value, c.text.ensures, append-nil (code_text c.in-Ended.code)) at c.write_last_line-in-Ended.ensures.written)

pub returns-in-Refused-clause-written : goal.returns-in-Refused-clause-written
returns-in-Refused-clause-written g c = rw c.in-Refused.is (rw (c.as_bytes-in-Refused.ensures.value, c.text-in-Refused.ensures, append-nil (status_text c.in-Refused.status)) at c.write_last_line-in-Refused.ensures.written)

pub returns-in-BadAnswer-clause-written : goal.returns-in-BadAnswer-clause-written
returns-in-BadAnswer-clause-written g c = rw c.in-BadAnswer.is c.write_last_line-in-BadAnswer.ensures.written

pub returns-in-Closed-clause-written : goal.returns-in-Closed-clause-written
returns-in-Closed-clause-written g c = rw c.in-Closed.is c.write_last_line-in-Closed.ensures.written

pub returns-in-Quiet-clause-written : goal.returns-in-Quiet-clause-written
returns-in-Quiet-clause-written g c = rw c.in-Quiet.is c.write_last_line-in-Quiet.ensures.written

pub returns-in-Failed-clause-written : goal.returns-in-Failed-clause-written
returns-in-Failed-clause-written g c = elim c.in-Failed.is [
  | inl failed ↦ rw failed (last-none _ _)
  | inr memory ↦ rw memory (last-none _ _)
]
