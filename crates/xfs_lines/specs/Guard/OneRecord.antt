-- The answer to a line that writes at most one record: refused, or left in doubt by the disk, or done.
use Rattle.std.specs.Prelude.{◌≡◌, ◌⊎◌, List, ℕ, Some, None}
use Rattle.std.specs.declared.option.Option.{Option}
use Rattle.xfs_journal.specs.declared.record.Rec.{Rec}
use Rattle.xfs_guard.specs.View.{View}
use Rattle.xfs_guard.specs.declared.deny.Deny.{Deny}
use Rattle.xfs_guard.specs.declared.deny.Deny.TheVariants.{Disk}
use Rattle.xfs_lines.specs.Output.Refused.{refusal_text}
use Rattle.xfs_lines.specs.Guard.States.{GuardState, Becomes, Fails, shut_at}
use Rattle.xfs_dispenser.specs.declared.refusal.Refusal.{Refusal}
use Rattle.xfs_dispenser.specs.declared.refusal.Refusal.TheVariants.{Deny as Denied}

-- the line is this refusal's, and nothing changes
pub record IsRefusalLine (s : GuardState) (refusal : Refusal) (line : List ℕ) (next : GuardState) : Type 0 where
  pub text : refusal_text refusal ≡ Some line
  pub same : next ≡ s

-- the disk failed at this record, and the line is refused for it
pub record IsInDoubt (s : GuardState) (r : Rec) (line : List ℕ) (next : GuardState) : Type 0 where
  pub text : refusal_text (Denied Disk) ≡ Some line
  pub fails : Fails s (shut_at r s.guard) next

-- the line is this text, and this is the guard then
pub record IsDone (s : GuardState) (now : View) (text line : List ℕ) (next : GuardState) : Type 0 where
  pub text_is : line ≡ text
  pub becomes : Becomes s now next

-- a line that writes a record: it is refused for this; where nothing refuses it, the disk fails at the record, or the record is kept, and this is the guard then and the line
abbrev pub WritesOne : GuardState → Option Deny → Rec → View → List ℕ → List ℕ → GuardState → Type 0
WritesOne s (Some deny) r kept text line next = IsRefusalLine s (Denied deny) line next
WritesOne s None r kept text line next = IsInDoubt s r line next ⊎ IsDone s kept text line next

-- a line that has nothing to write: it is refused for this, or the line is this text
abbrev pub WritesNone : GuardState → Option Deny → List ℕ → List ℕ → GuardState → Type 0
WritesNone s (Some deny) text line next = IsRefusalLine s (Denied deny) line next
WritesNone s None text line next = (line ≡ text) × (next ≡ s)
