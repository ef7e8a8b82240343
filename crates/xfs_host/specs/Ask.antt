-- What an ask says, and when it may be made: its nonce is of the token's grammar and its amount one that a token may carry.
use Rattle.std.specs.Prelude.{ℕ, ◌≤◌, ◌==◌, ◌&&◌, not, nat_lt, Bool, List, IsTrue, None, Some, if◌then◌else◌}
use Rattle.std.specs.declared.option.Option.{Option}
use Rattle.std.specs.Str.{bytes_eq}
use Rattle.xfs_token.specs.Token.{is_nonce}
use Rattle.xfs_host.specs.declared.faults.AskFault.{AskFault}
use Rattle.xfs_host.specs.declared.faults.AskFault.TheVariants.{BadNonce, BadAmount}

-- the transaction's number, the account, the nonce of the machine, and the amount in thousandths of the currency's unit
pub record Terms : Type 0 where
  pub tx : ℕ
  pub account : ℕ
  pub nonce : List ℕ
  pub currency : List ℕ
  pub amount : ℕ

-- a nonce of the grammar, and at most 999,999,999,999 thousandths
pub record IsTerms (t : Terms) : Type 0 where
  pub nonce : IsTrue (is_nonce t.nonce)
  pub small : t.amount ≤ 999999999999

-- two asks have the same terms, whatever the transaction's number
abbrev pub is_same : Terms → Terms → Bool
is_same a b = a.account == b.account && bytes_eq a.nonce b.nonce && bytes_eq a.currency b.currency && a.amount == b.amount

-- the first refusal of a nonce and an amount
abbrev pub ask_refusal : List ℕ → ℕ → Option AskFault
ask_refusal nonce amount =
    if not (is_nonce nonce) then Some BadNonce
    else if nat_lt 999999999999 amount then Some BadAmount
    else None
