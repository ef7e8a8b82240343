use Rattle.std.proofs.Common.{List}
use Rattle.xfs_journal.specs.Image.{StandsFor}
use Rattle.xfs_journal.specs.Paging.{CeasesAt}
use Rattle.xfs_journal.specs.declared.record.Rec.{Rec}
use Rattle.xfs_journal.proofs.Ceasing.{no_list}
use Rattle.xfs_journal.proofs.Told.{on_told, from_told}
use Rattle.xfs_journal.proofs.journal.Journal.mount.Goals as goal

pub returns-in-Err-clause-not_journal : goal.returns-in-Err-clause-not_journal
returns-in-Err-clause-not_journal g c = λ at e. on_told _ (λ all. CeasesAt all at × ((J : List Rec) → ¬ StandsFor all J)) (λ all known.
    let refused = from_told _ _ (c.in-Err.ensures.refused at e) all known in
    (refused.1, no_list all at refused.1 refused.0))
