-- The token of a segment, and what was put out on it.
use Rattle.std.specs.Prelude.{◌≡◌, ℕ, ◌+◌, ◌<◌, ◌≤◌, ◌^◌, Bool, List, [], Some, None, slice_get, slice_index, unwrap_or, ⊤}
use Rattle.std.specs.Bool.{OnTrue, OnFalse}
use Rattle.std.specs.declared.option.Option.{Option}
use Rattle.xfs_base.specs.Money.{value}
use Rattle.xfs_base.specs.declared.counts.Counts.{Counts}
use Rattle.xfs_base.specs.declared.money.NoteKind.{NoteKind}
use Rattle.xfs_token.specs.Token.{Parts, Genuine}
use Rattle.xfs_token.specs.Amounts.{amount_in, amounts_of}
use Rattle.xfs_journal.specs.declared.record.Rec.{Rec}
use Rattle.xfs_journal.specs.declared.record.Rec.TheVariants.{Issue}
use Rattle.xfs_journal.specs.Journal.{record_at, token_of}
use Rattle.xfs_guard.specs.Within.{IsOfNonce}
use Rattle.xfs_audit.specs.declared.claim.Claim.{Claim}

-- the record of this number is an Issue of this number and word; or it is none
abbrev pub IsIssueAt : List Rec → ℕ → Option (ℕ × ℕ) → Type 0
IsIssueAt records p (Some issue) = record_at records p ≡ Some (Issue issue.0 issue.1)
IsIssueAt records p None = (number word : ℕ) → ¬ (record_at records p ≡ Some (Issue number word))

-- the record of this number is an Issue
pub record IsIssue (records : List Rec) (p : ℕ) : Type 0 where
  pub number : ℕ
  pub word : ℕ
  pub there : record_at records p ≡ Some (Issue number word)

-- a text spells this token, which is genuine and has this nonce
pub record HasToken (key nonce text : List ℕ) (token : Parts) : Type 0 where
  pub genuine : Genuine key token text
  pub same : token.nonce ≡ nonce

abbrev pub IsTokenOf : List ℕ → List ℕ → List ℕ → Option Parts → Type 0
IsTokenOf key nonce text (Some token) = HasToken key nonce text token
IsTokenOf key nonce text None = (token : Parts) → ¬ (HasToken key nonce text token)

-- what amounts allow in a currency
abbrev pub allowed : Option (List (List ℕ × ℕ)) → List ℕ → ℕ
allowed amounts currency = amount_in (unwrap_or amounts []) currency

-- the issue has a genuine token with its nonce, whose amounts these are
pub record HasClaim (key : List ℕ) (records : List Rec) (issue : ℕ) (amounts : Option (List (List ℕ × ℕ))) : Type 0 where
  pub bytes : List ℕ
  pub bound : token_of records issue ≡ Some bytes
  pub token : Parts
  pub carries : IsOfNonce key records issue bytes token
  pub amounts_are : amounts ≡ amounts_of token

-- the claim of an issue's token, on which nothing was put out yet; or the issue has no such token
abbrev pub IsClaimOf : List ℕ → List Rec → ℕ → Option Claim → Type 0
IsClaimOf key records issue (Some claim) = HasClaim key records issue claim.amounts × ((u : ℕ) → slice_index claim.shown u ≡ 0)
IsClaimOf key records issue None = (amounts : Option (List (List ℕ × ℕ))) → ¬ (HasClaim key records issue amounts)

-- nothing was put out on a claim that was just made
abbrev pub IsUnspent : Option Claim → Type 0
IsUnspent (Some claim) = (u : ℕ) → slice_index claim.shown u ≡ 0
IsUnspent None = ⊤

-- the sums of a claim stay far within their type
abbrev pub IsUnder : Claim → Type 0
IsUnder claim = (u : ℕ) → slice_index claim.shown u < 2 ^ 64

-- in the currency of this unit what was put out grew by these notes, and is worth no more than is allowed
pub record IsPaidAt (units : List NoteKind) (moved : Counts) (i : ℕ) (kind : NoteKind) (old new : Claim) : Type 0 where
  pub sum : slice_index new.shown i ≡ slice_index old.shown i + value units moved kind.currency
  pub enough : slice_index new.shown i ≤ allowed old.amounts kind.currency

-- with these notes what was put out is worth more than is allowed, in the currency of some unit
pub record IsOver (units : List NoteKind) (moved : Counts) (claim : Claim) : Type 0 where
  pub place : ℕ
  pub kind : NoteKind
  pub there : slice_get units place ≡ Some kind
  pub over : allowed claim.amounts kind.currency < slice_index claim.shown place + value units moved kind.currency

-- notes are put out on a claim, where it covers them
pub record Spends (units : List NoteKind) (moved : Counts) (old new : Claim) (covered : Bool) : Type 0 where
  pub amounts : new.amounts ≡ old.amounts
  pub small : OnTrue covered (IsUnder new)
  pub paid : OnTrue covered ((i : ℕ) (kind : NoteKind) → slice_get units i ≡ Some kind → IsPaidAt units moved i kind old new)
  pub over : OnFalse covered (IsOver units moved old)
