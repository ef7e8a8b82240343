-- What stands of a guard between its calls.
use Rattle.std.specs.Prelude.{◌≡◌, ℕ, ◌+◌, true, false, List, Some, None}
use Rattle.xfs_base.specs.Causes.{IfTold}
use Rattle.xfs_disk.specs.declared.disk.Disk.{Ghosts}
use Rattle.xfs_journal.specs.Journal.{record_at, is_mark, live_of, last_mark}
use Rattle.xfs_journal.specs.declared.record.Rec.{Rec}
use Rattle.xfs_journal.specs.declared.record.Rec.TheVariants.{Bind}
use Rattle.xfs_guard.specs.declared.nonce.Nonce.{Nonce}
use Rattle.xfs_guard.specs.declared.open.Open.TheVariants.{No}
use Rattle.xfs_guard.specs.Balance.{IsBalanced}
use Rattle.xfs_guard.specs.Budget.{Budget}
use Rattle.xfs_guard.specs.Crashed.{is_closed}
use Rattle.xfs_guard.specs.Nonce.{live_in, nonce_of}
use Rattle.xfs_guard.specs.Presented.{presented_in, unsettled}
use Rattle.xfs_guard.specs.Refusals.{bound_number, bound_token}
use Rattle.xfs_guard.specs.Sound.{OpenIsNewest, where_told}
use Rattle.xfs_guard.specs.View.{View, GuardView}
use Rattle.xfs_guard.specs.Within.{shown}
use Rattle.xfs_disk.specs.Moments.{EachImage}
use Rattle.xfs_journal.specs.JournalView.{HasPossible}
use Rattle.xfs_journal.specs.Held.{StandsForSome}
use Rattle.xfs_guard.specs.Recorded.{IsRecorded}

-- a record of the list is the Issue of this nonce, and has its text
abbrev pub HasIssue : List Rec → Nonce → Type 0
HasIssue records n = (number : ℕ) × (live_of records ≡ Some number) × (nonce_of (record_at records number) ≡ Some n)

-- the record of this number is a mark
abbrev pub IsMarkAt : List Rec → ℕ → Type 0
IsMarkAt records n = (r : Rec) × (record_at records n ≡ Some r) × (is_mark r ≡ true)

-- the record of this number binds the token that is bound to the live nonce
abbrev pub IsBindAt : List Rec → ℕ → Type 0
IsBindAt records n = (token : List ℕ) × (record_at records n ≡ Some (Bind token)) × (bound_token records ≡ Some token)

-- what the mechanism's list shows of the live nonce is what the Done records say, and what an acted order to present put out
abbrev pub IsCounted : View → Type 0
IsCounted v = IfTold (where_told v.disk_told v.motions) (λ motions.
    (p : ℕ) (c : List ℕ) → live_of v.records ≡ Some p → shown v.units v.records motions p c ≡ presented_in v.units v.records c + unsettled v.units v.open_order c)

-- The list is stored, and each image of the disk stands for a list that is recorded. While the journal is open and has its boot record, the open order is its newest record, and the budget holds; else no order is open. Whatever the mechanism tells, the notes balance with the last boot record. A live nonce has its Issue, the last mark is one, and the bound token has its Bind.
pub record IsUpheld {D : Type 0} (g : Ghosts D) (now : GuardView D) : Type 0 where
  pub stored : EachImage g now.disk (HasPossible now.state.records now.state.in_doubt)
  pub recorded : EachImage g now.disk (StandsForSome (IsRecorded now.state.key now.state.units now.state.motions))
  pub clean : now.state.shut ≡ false → now.state.in_doubt ≡ None
  pub closed : is_closed now.state ≡ true → now.state.open_order ≡ No
  pub order : is_closed now.state ≡ false → OpenIsNewest now.state.open_order now.state.records now.state.places
  pub budget : is_closed now.state ≡ false → Budget now.state
  pub counted : is_closed now.state ≡ false → IsCounted now.state
  pub balanced : IsBalanced now.state.records now.state.booted now.state.loaded now.state.places
  pub issue : (n : Nonce) → live_in now.state.boot_missing now.state.records ≡ Some n → HasIssue now.state.records n
  pub mark : IsMarkAt now.state.records (last_mark now.state.records)
  pub bind : (n : ℕ) → bound_number now.state.records ≡ Some n → IsBindAt now.state.records n
