-- The last nonce of a list of records: its Issue, its segment, and what was presented in it.
use Rattle.std.specs.Prelude.{◌≡◌, ℕ, suc, ◌≤◌, Bool, false, ◌||◌, List, [], ◌∷◌, drop, Some, None, if◌then◌else◌}
use Rattle.std.specs.declared.option.Option.{Option}
use Rattle.std.specs.List.{before_first}
use Rattle.xfs_base.specs.declared.money.NoteKind.{NoteKind}
use Rattle.xfs_journal.specs.declared.record.Rec.{Rec}
use Rattle.xfs_journal.specs.declared.record.Rec.TheVariants.{Issue}
use Rattle.xfs_journal.specs.Journal.{is_issue, is_mark, record_at}
use Rattle.xfs_journal.specs.JournalView.{IsPossible}
use Rattle.xfs_guard.specs.Presented.{presented_in}

-- an Issue stands in the list
abbrev pub has_issue : List Rec → Bool
has_issue [] = false
has_issue (r ∷ behind) = is_issue r || has_issue behind

-- the place of the last Issue, from 1; 0 where there is none
abbrev pub last_issue : List Rec → ℕ
last_issue [] = 0
last_issue (r ∷ behind) = if has_issue behind then suc (last_issue behind) else (if is_issue r then 1 else 0)

-- the records behind the last Issue; none where there is no Issue
abbrev pub behind_issue : List Rec → List Rec
behind_issue [] = []
behind_issue (r ∷ behind) = if has_issue behind then behind_issue behind else (if is_issue r then behind else [])

-- the number that an Issue carries
abbrev pub carried : Option Rec → Option ℕ
carried (Some (Issue number word)) = Some number
carried r = None

-- the number that the last Issue carries
abbrev pub issue_of : List Rec → Option ℕ
issue_of records = carried (record_at records (last_issue records))

-- the segment of the last Issue: the records behind it up to the next mark
abbrev pub segment : List Rec → List Rec
segment records = before_first is_mark (behind_issue records)

-- what was presented in a currency in the segment of the last Issue, in thousandths
abbrev pub presented_last : List NoteKind → List Rec → List ℕ → ℕ
presented_last units records currency = presented_in units (segment records) currency

-- What was presented for the last nonce can be told in a token: its Issue carries a number from 1 on, and each currency's sum is at most 999,999,999,999 thousandths.
pub record IsTellable (units : List NoteKind) (records : List Rec) : Type 0 where
  pub issued : (number : ℕ) → issue_of records ≡ Some number → 1 ≤ number
  pub small : (c : List ℕ) → presented_last units records c ≤ 999999999999

-- what was presented for the last nonce can be told in a token, of each list that the disk may have, behind its base
pub record AreTellable (units : List NoteKind) (base : ℕ) (records : List Rec) (in_doubt : Option Rec) : Type 0 where
  pub each : (list : List Rec) → IsPossible records in_doubt list → IsTellable units (drop base list)
