use Rattle.xfs_script.proofs.LastLaws.{last-none}
use Rattle.xfs_lines.proofs.output.last_line.finish.Goals as goal

pub returns-in-AtEnd-clause-written : goal.returns-in-AtEnd-clause-written
returns-in-AtEnd-clause-written g c = rw c.in-AtEnd.is (last-none _ _)

pub returns-in-Read-clause-written : goal.returns-in-Read-clause-written
returns-in-Read-clause-written g c = rw c.in-Read.is (last-none _ _)

pub returns-in-Quota-clause-written : goal.returns-in-Quota-clause-written
returns-in-Quota-clause-written g c = rw c.in-Quota.is c.write_last_line.ensures.written

pub returns-in-Write-clause-written : goal.returns-in-Write-clause-written
returns-in-Write-clause-written g c = rw c.in-Write.is (last-none _ _)

pub returns-in-Memory-clause-written : goal.returns-in-Memory-clause-written
returns-in-Memory-clause-written g c = rw c.in-Memory.is (last-none _ _)

pub returns-in-NotALine-clause-written : goal.returns-in-NotALine-clause-written
returns-in-NotALine-clause-written g c = rw c.in-NotALine.is (rw (c.as_bytes.ensures.value, c.format.ensures.text) at c.write_last_line-in-NotALine.ensures.written)
