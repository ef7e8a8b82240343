use Rattle.std.proofs.Common.{◌≡◌, ℕ, [], subst}
use Rattle.xfs_journal.specs.Paging.{MayCease}
use Rattle.xfs_journal.specs.declared.faults.MountFault.TheVariants.{NotJournal}
use Rattle.xfs_journal.proofs.Ceasing.{ceases_behind}
use Rattle.xfs_journal.proofs.Doubt.{ceases_silent}
use Rattle.xfs_journal.proofs.Told.{untold}
use Rattle.xfs_journal.proofs.remount.read_again.Goals as goal

pub returns-in-Err-NotJournal-clause-quiet : goal.returns-in-Err-NotJournal-clause-quiet
returns-in-Err-NotJournal-clause-quiet g c =
    untold _ _ (ceases_silent _ c.in-Err-NotJournal.field-0-0 (c.in-Err-NotJournal.ensures.broken c.in-Err-NotJournal.field-0-0 c.in-Err-NotJournal.field-0-is) c.requires.image)

pub returns-in-Err-NotJournal-2-clause-silent : goal.returns-in-Err-NotJournal-2-clause-silent
returns-in-Err-NotJournal-2-clause-silent g c = λ at e.
    ceases_silent _ c.in-Err-NotJournal-2.field-0-0 (c.in-Err-NotJournal.ensures.broken c.in-Err-NotJournal-2.field-0-0 c.in-Err-NotJournal-2.field-0-is) c.requires.image

pub returns-in_default-clause-silent : goal.returns-in_default-clause-silent
returns-in_default-clause-silent g c = λ at e. ceases_silent _ at (c.in-Err-NotJournal.ensures.broken at e) c.requires.image

pub returns-in-Err-NotJournal-2-clause-ceases : goal.returns-in-Err-NotJournal-2-clause-ceases
returns-in-Err-NotJournal-2-clause-ceases g c = λ at e. subst MayCease (place at e) (ceases_behind [] tt)
  where
    place : (at : ℕ) → NotJournal 8 ≡ NotJournal at → 8 ≡ at
    place at e = cc
