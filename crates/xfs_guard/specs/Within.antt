-- What was put out since a nonce was issued, against the token that was bound to it.
use Rattle.std.specs.Prelude.{◌≡◌, ℕ, ◌≤◌, List, Some, if◌then◌else◌, ⊤}
use Rattle.std.specs.List.{sum_by, AllByRecursion}
use Rattle.std.specs.declared.option.Option.{Option}
use Rattle.xfs_base.specs.declared.counts.Counts.{Counts}
use Rattle.xfs_base.specs.declared.money.NoteKind.{NoteKind}
use Rattle.xfs_base.specs.declared.counts.Kind.TheVariants.{Present}
use Rattle.xfs_base.specs.Money.{value_from}
use Rattle.xfs_mech.specs.declared.motion.Motion.{Motion}
use Rattle.xfs_mech.specs.declared.motion.Motion.TheVariants.{Moved}
use Rattle.xfs_journal.specs.declared.record.Rec.{Rec}
use Rattle.xfs_journal.specs.declared.record.Rec.TheVariants.{Issue, Order}
use Rattle.xfs_journal.specs.Journal.{record_at, live_at, is_place, token_of, nonce_text}
use Rattle.xfs_token.specs.Token.{Parts, Genuine}
use Rattle.xfs_token.specs.Amounts.{amount}

-- what a motion put out of the notes of the issue at p
abbrev pub shown_by : List NoteKind → List Rec → ℕ → List ℕ → Motion → ℕ
shown_by units records p currency (Moved number Present moved diverted) =
    if is_place p (live_at records number) then value_from units 0 moved.0 currency else 0
shown_by units records p currency m = 0

-- what was put out since the issue at p
abbrev pub shown : List NoteKind → List Rec → List Motion → ℕ → List ℕ → ℕ
shown units records motions p currency = sum_by (shown_by units records p currency) motions

-- an issue has this text as its nonce
abbrev pub HasNonce : Option Rec → List ℕ → Type 0
HasNonce (Some (Issue number word)) text = text ≡ nonce_text number word
HasNonce _ text = ⊥

-- a token is genuine and carries the nonce of the issue at p
pub record IsOfNonce (key : List ℕ) (records : List Rec) (p : ℕ) (bytes : List ℕ) (t : Parts) : Type 0 where
  pub genuine : Genuine key t bytes
  pub nonce : HasNonce (record_at records p) t.nonce

-- the bytes are of a genuine token with the nonce of the issue at p, and what was put out since then is worth no more
pub record IsCovered (key : List ℕ) (units : List NoteKind) (records : List Rec) (motions : List Motion) (p : ℕ) (bytes : List ℕ) : Type 0 where
  pub token : Parts
  pub carries : IsOfNonce key records p bytes token
  pub enough : (currency : List ℕ) → shown units records motions p currency ≤ amount token currency

-- notes put out: on an order to present, in a segment with a token, which covers all that was put out in it
pub record IsPaidFor (key : List ℕ) (units : List NoteKind) (records : List Rec) (motions : List Motion) (number : ℕ) : Type 0 where
  pub counts : Counts
  pub ordered : record_at records number ≡ Some (Order Present counts)
  pub issue : ℕ
  pub lives : live_at records number ≡ Some issue
  pub bytes : List ℕ
  pub bound : token_of records issue ≡ Some bytes
  pub covered : IsCovered key units records motions issue bytes

abbrev pub IsWithin : List ℕ → List NoteKind → List Rec → List Motion → Motion → Type 0
IsWithin key units records motions (Moved number Present moved diverted) = IsPaidFor key units records motions number
IsWithin key units records motions m = ⊤

-- each motion that put notes out is paid for by the one token of its segment
abbrev pub Within : List ℕ → List NoteKind → List Rec → List Motion → Type 0
Within key units records motions = AllByRecursion (IsWithin key units records motions) motions
