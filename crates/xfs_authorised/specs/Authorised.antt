-- What a machine puts out on a token that a host of its key replied.
use Rattle.std.specs.Prelude.{◌≡◌, ℕ, ◌≤◌, List, Some, if◌then◌else◌}
use Rattle.std.specs.Str.{bytes_eq}
use Rattle.xfs_base.specs.declared.money.NoteKind.{NoteKind}
use Rattle.xfs_mech.specs.declared.motion.Motion.{Motion}
use Rattle.xfs_journal.specs.Journal.{token_of}
use Rattle.xfs_journal.specs.declared.record.Rec.{Rec}
use Rattle.xfs_guard.specs.Within.{Within, shown}
use Rattle.xfs_host.specs.Ask.{Terms}
use Rattle.xfs_host.specs.Reply.{IsReply}
use Rattle.xfs_host.specs.declared.decision.Decision.{Decision}
use Rattle.xfs_host.specs.declared.reply.Reply.TheVariants.{Token}

-- what an ask is of in a currency: its amount in its own, and nothing in another
abbrev pub asked_in : List ℕ → Terms → ℕ
asked_in currency t = if bytes_eq t.currency currency then t.amount else 0

-- the first token that was bound since the issue at p is one that a host of this key replied to the ask
pub record IsAuthorised (key : List ℕ) (records : List Rec) (p : ℕ) (t : Terms) : Type 0 where
  pub text : List ℕ
  pub bound : token_of records p ≡ Some text
  pub decision : Decision
  pub replied : IsReply key t decision (Token text)

-- what was put out since the issue at p is worth no more than the ask
abbrev pub IsWithinAsk : List NoteKind → List Rec → List Motion → ℕ → Terms → Type 0
IsWithinAsk units records motions p t = (currency : List ℕ) → shown units records motions p currency ≤ asked_in currency t

-- of every machine whose motions are paid for, each by the one token of its segment, what was put out since an authorised issue is within its ask
abbrev pub AreWithinAsks : Type 0
AreWithinAsks = (key : List ℕ) (units : List NoteKind) (records : List Rec) (motions : List Motion) → Within key units records motions
    → (p : ℕ) (t : Terms) → IsAuthorised key records p t → IsWithinAsk units records motions p t
