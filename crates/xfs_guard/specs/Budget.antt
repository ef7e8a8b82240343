-- The budget: what was put out since the nonce was issued, what lies on the transport and what is ordered from a unit are together worth no more than the bound token.
use Rattle.std.specs.Prelude.{◌≡◌, ℕ, ◌+◌, ◌≤◌, List, Some, None}
use Rattle.xfs_base.specs.Money.{value}
use Rattle.xfs_token.specs.Token.{Parts}
use Rattle.xfs_token.specs.Amounts.{amount, amounts_of}
use Rattle.xfs_journal.specs.Journal.{live_of, token_of}
use Rattle.xfs_guard.specs.View.{View}
use Rattle.xfs_guard.specs.Presented.{presented_in, unsettled, pending}
use Rattle.xfs_guard.specs.Within.{IsOfNonce}

-- the token that is bound to the live nonce has these amounts, and covers what was put out, what lies ready, and what is ordered
pub record IsFunded (v : View) (p : ℕ) (bytes : List ℕ) : Type 0 where
  pub token : Parts
  pub carries : IsOfNonce v.key v.records p bytes token
  pub amounts : List (List ℕ × ℕ)
  pub amounts_are : amounts_of token ≡ Some amounts
  pub kept : v.bound ≡ Some amounts
  pub enough : (c : List ℕ) → presented_in v.units v.records c + unsettled v.units v.open_order c
      + value v.units v.places.transport c + pending v.units v.open_order c ≤ amount token c

-- a bound token is funded; where none is bound, nothing was presented and no amounts are kept
pub record Budget (v : View) : Type 0 where
  pub funded : (p : ℕ) (bytes : List ℕ) → live_of v.records ≡ Some p → token_of v.records p ≡ Some bytes → IsFunded v p bytes
  pub unbound : (p : ℕ) → live_of v.records ≡ Some p → token_of v.records p ≡ None → (v.bound ≡ None) × ((c : List ℕ) → presented_in v.units v.records c ≡ 0)
  pub dead : live_of v.records ≡ None → v.bound ≡ None
