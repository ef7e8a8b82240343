-- The lines of the command `host`: the bytes that write each verb with its fields.
use Rattle.std.specs.Prelude.{◌≡◌, ℕ, ◌≤◌, IsTrue, List, [], ◌∷◌, codes, decimal, Some}
use Rattle.xfs_token.specs.Amounts.{read_amount}
use Rattle.xfs_token.specs.Token.{is_nonce}
use Rattle.xfs_script.specs.Words.{IsSkipped}
use Rattle.xfs_script.specs.Fields.{fields}
use Rattle.xfs_script.specs.declared.host_line.HostLine.{HostLine}
use Rattle.xfs_script.specs.declared.host_line.HostLine.TheVariants.{Skip, Account, Ask, Show}

-- a number from 0 to 18446744073709551615, without leading zeros
pub record IsNumber (field : List ℕ) (n : ℕ) : Type 0 where
  pub digits : field ≡ decimal n
  pub most : n ≤ 18446744073709551615

-- the fields are `open`, an account's number, and an amount in the form of a dispense value
pub record IsAccount (text : List ℕ) (account : ℕ) (currency : List ℕ) (balance : ℕ) : Type 0 where
  pub number : List ℕ
  pub field : List ℕ
  pub line : fields text ≡ codes "open" ∷ number ∷ field ∷ []
  pub account_is : IsNumber number account
  pub balance_is : read_amount field ≡ Some (currency, balance)

-- the fields are `ask`, the numbers of a transaction and of an account, a nonce of the grammar, and such an amount
pub record IsAsk (text : List ℕ) (tx account : ℕ) (nonce currency : List ℕ) (amount : ℕ) : Type 0 where
  pub first : List ℕ
  pub second : List ℕ
  pub field : List ℕ
  pub line : fields text ≡ codes "ask" ∷ first ∷ second ∷ nonce ∷ field ∷ []
  pub tx_is : IsNumber first tx
  pub account_is : IsNumber second account
  pub valid : IsTrue (is_nonce nonce)
  pub amount_is : read_amount field ≡ Some (currency, amount)

-- the text is this line
abbrev pub IsHostLine : List ℕ → HostLine → Type 0
IsHostLine text Skip = IsSkipped text
IsHostLine text (Account account currency balance) = IsAccount text account currency balance.0
IsHostLine text (Ask tx account nonce currency amount) = IsAsk text tx account nonce currency amount.0
IsHostLine text Show = text ≡ codes "show"
