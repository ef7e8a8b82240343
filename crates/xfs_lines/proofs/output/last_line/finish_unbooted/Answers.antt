use Rattle.xfs_script.proofs.LastLaws.{last-none}
use Rattle.xfs_lines.proofs.output.last_line.finish_unbooted.Goals as goal

pub returns-in-Disk-clause-written : goal.returns-in-Disk-clause-written
returns-in-Disk-clause-written g c = rw c.in-Disk.is c.write_last_line-in-Disk.ensures.written

pub returns-in-Full-clause-written : goal.returns-in-Full-clause-written
returns-in-Full-clause-written g c = rw c.in-Full.is c.write_last_line-in-Full.ensures.written

pub returns-in-Memory-clause-written : goal.returns-in-Memory-clause-written
returns-in-Memory-clause-written g c = rw c.in-Memory.is (last-none _ _)

pub returns-in-NotJournal-clause-written : goal.returns-in-NotJournal-clause-written
returns-in-NotJournal-clause-written g c = rw c.in-NotJournal.is (rw (c.as_bytes.ensures.value, c.format.ensures.text) at c.write_last_line.ensures.written)
