-- The next nonce of a guard.
use Rattle.std.specs.Prelude.{ℕ, List}
use Rattle.xfs_journal.specs.Journal.{next_issue, nonce_text}
use Rattle.xfs_journal.specs.declared.record.Rec.{Rec}
use Rattle.xfs_journal.specs.declared.record.Rec.TheVariants.{Issue}
use Rattle.xfs_guard.specs.View.{View}
use Rattle.xfs_guard.specs.Word.{issue_word}

-- the record of the next issue: the next number, and the seed's word for that
abbrev pub next_record : View → Rec
next_record v = Issue (next_issue v.records) (issue_word v.seed (next_issue v.records))

-- the text of the next nonce
abbrev pub next_text : View → List ℕ
next_text v = nonce_text (next_issue v.records) (issue_word v.seed (next_issue v.records))
