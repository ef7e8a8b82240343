use Rattle.std.proofs.Common.{[], ◌∷◌, ◌∙◌, ap, List, ℕ}
use Rattle.xfs_base.specs.declared.counts.Counts.{Counts}
use Rattle.xfs_journal.proofs.Reading.{eight_numbers}
use Rattle.xfs_journal.proofs.read.counts_at.Goals as goal

abbrev counts_with : List ℕ → Counts
counts_with l = record { 0 = l }

pub returns : goal.returns
returns c =
    (λ i. counts_with (c.count_at.ensures i ∷ c.count_at-2.ensures i ∷ c.count_at-3.ensures i ∷ c.count_at-4.ensures i ∷ c.count_at-5.ensures i ∷ c.count_at-6.ensures i ∷ c.count_at-7.ensures i ∷ c.count_at-8.ensures i ∷ []))
    ∙ ap counts_with (eight_numbers c.args.bytes.now c.args.at)
