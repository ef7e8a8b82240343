use Rattle.xfs_queue.proofs.queue.add_entry.Goals as goal

pub returns-in_ok-add-in-Some-clause-ok : goal.returns-in_ok-add-in-Some-clause-ok
returns-in_ok-add-in-Some-clause-ok c = λ es is. rw c.in-Some.is (c.in_ok-add-in-Some.ensures.ok es is)
