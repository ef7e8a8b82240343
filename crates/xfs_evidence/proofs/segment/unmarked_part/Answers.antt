use Rattle.std.proofs.Common.{◌≡◌, ◌∙◌, ap, take, not, arith}
use Rattle.std.proofs.lemmas.List.Sums.{prefix_len-le-length}
use Rattle.xfs_journal.specs.declared.record.Rec.{Rec}
use Rattle.std.specs.List.{before_first}
use Rattle.xfs_journal.specs.Journal.{is_mark}
use Rattle.xfs_evidence.proofs.Places.{before-any}
use Rattle.xfs_evidence.proofs.segment.unmarked_part.Goals as goal

pub split_at-requires : goal.split_at-requires
split_at-requires c = let le = prefix_len-le-length (λ (r : Rec). not (is_mark r)) c.args.records.now in omega (arith, le, c.first_mark.ensures)

pub returns-clause-front : goal.returns-clause-front
returns-clause-front c = c.split_at.ensures.front ∙ ap (λ n. take n c.args.records.now) c.first_mark.ensures

pub returns-clause-unmarked : goal.returns-clause-unmarked
returns-clause-unmarked c =
    let is : c.split_at.result.0.now ≡ before_first is_mark c.args.records.now = c.split_at.ensures.front ∙ ap (λ n. take n c.args.records.now) c.first_mark.ensures in
    rw is (before-any c.args.records.now)
