use Rattle.std.proofs.Common.{sym, subst, arith, List, ◌<◌, length}
use Rattle.xfs_journal.specs.Image.{StandsFor}
use Rattle.xfs_journal.specs.Paging.{CeasesAt}
use Rattle.xfs_journal.specs.declared.record.Rec.{Rec}
use Rattle.xfs_journal.proofs.Emptying.{short_stands}
use Rattle.xfs_journal.proofs.Told.{on_told, from_told, if_ok}
use Rattle.xfs_journal.proofs.mount.read_or_empty.Goals as goal

pub returns-in-Err-NotJournal-clause-stands : goal.returns-in-Err-NotJournal-clause-stands
returns-in-Err-NotJournal-clause-stands g c = if_ok c.make_empty.result _ _ (λ l none. on_told _ _ (λ all known.
    subst (λ (J : List Rec). StandsFor all J) (sym none.0) (short_stands all (omega (arith, from_told _ _ c.requires.len all known, c.if-len-le9.true))))) c.make_empty.ensures.ok

pub returns-in_default-clause-refused : goal.returns-in_default-clause-refused
returns-in_default-clause-refused g c = λ at e. on_told _ (λ all. (9 < length all) × CeasesAt all at) (λ all known.
    (omega (arith, from_told _ _ c.requires.len all known, c.if-len-le9.false), from_told _ _ (c.in-Err-NotJournal.ensures.broken at e) all known))
