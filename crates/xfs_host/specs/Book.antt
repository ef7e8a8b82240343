-- What a history comes to: the list of the calls that were answered, the oldest first. An ask is first where no earlier one has its number.
use Rattle.std.specs.Prelude.{◌≡◌, ℕ, ◌-◌, ◌==◌, ◌&&◌, not, nat_lt, Bool, true, false, List, [], ◌∷◌, ◌++◌, if◌then◌else◌, fold, find, is_some, map, None, Some, OnOk, OnErr}
use Rattle.std.specs.Option.{option_map}
use Rattle.std.specs.declared.option.Option.{Option}
use Rattle.std.specs.declared.result.Result.{Result}
use Rattle.std.specs.List.{sum_by}
use Rattle.std.specs.Ordering.{nat_cmp}
use Rattle.std.specs.BTreeSet.{insert_key}
use Rattle.std.specs.Str.{bytes_eq}
use Rattle.xfs_host.specs.Ask.{Terms, is_same}
use Rattle.xfs_host.specs.declared.account.Account.{Account}
use Rattle.xfs_host.specs.declared.decision.Decision.{Decision}
use Rattle.xfs_host.specs.declared.decision.Decision.TheVariants.{Paid, Other, Unknown, WrongCurrency, UsedNonce, Poor}
use Rattle.xfs_host.specs.declared.first.First.{First}

-- a call that was answered: an account was opened with a balance in a currency, or something was asked
pub data Call : Type 0 where
  Opened : ℕ → List ℕ → ℕ → Call
  Asked : Terms → Call

-- a call stands at the end of a history, or where that failed the history is as it was
pub record Adds {T E : Type 0} (call : Call) (old new : List Call) (result : Result T E) : Type 0 where
  pub ok : OnOk result (new ≡ old ++ call ∷ [])
  pub err : OnErr result (new ≡ old)

-- an account as it was opened
pub record Opening : Type 0 where
  pub account : ℕ
  pub currency : List ℕ
  pub balance : ℕ

-- the accounts in the order in which they were opened, and the first asks in theirs, each with what was decided
pub record Book : Type 0 where
  pub opened : List Opening
  pub asked : List First

abbrev pub is_paid : Decision → Bool
is_paid Paid = true
is_paid Other = false
is_paid Unknown = false
is_paid WrongCurrency = false
is_paid (UsedNonce tx) = false
is_paid (Poor balance) = false

-- an account, as it was opened
abbrev pub opening_in : Book → ℕ → Option Opening
opening_in b account = find (λ o. o.account == account) b.opened

-- the first ask with a number
abbrev pub first_ask_in : Book → ℕ → Option First
first_ask_in b tx = find (λ f. f.terms.tx == tx) b.asked

-- the first ask that was answered a token for a nonce
abbrev pub user_in : Book → List ℕ → Option First
user_in b nonce = find (λ f. is_paid f.decision && bytes_eq f.terms.nonce nonce) b.asked

-- what a first ask took from an account
abbrev pub debit : ℕ → First → ℕ
debit account f = if is_paid f.decision && f.terms.account == account then f.terms.amount else 0

-- what all of them took from it
abbrev pub debits : Book → ℕ → ℕ
debits b account = sum_by (debit account) b.asked

-- the balance of an account: what it was opened with less what was taken
abbrev pub balance_in : Book → ℕ → Opening → ℕ
balance_in b account o = o.balance - debits b account

-- by the balance
abbrev pub by_balance : ℕ → ℕ → Decision
by_balance balance amount = if nat_lt balance amount then Poor balance else Paid

-- by who used the nonce, and then by the balance
abbrev pub by_nonce : Option First → ℕ → ℕ → Decision
by_nonce (Some user) balance amount = UsedNonce user.terms.tx
by_nonce None balance amount = by_balance balance amount

-- by the account, then its currency, the nonce and the balance
abbrev pub by_account : Option Opening → Book → Terms → Decision
by_account None b t = Unknown
by_account (Some o) b t =
    if not (bytes_eq o.currency t.currency) then WrongCurrency
    else by_nonce (user_in b t.nonce) (balance_in b t.account o) t.amount

-- what is decided of a first ask
abbrev pub decided : Book → Terms → Decision
decided b t = by_account (opening_in b t.account) b t

-- what is decided of an ask, where the first one with its number is this
abbrev pub by_first : Option First → Book → Terms → Decision
by_first (Some f) b t = if is_same f.terms t then f.decision else Other
by_first None b t = decided b t

-- what is decided of any ask
abbrev pub decided_any : Book → Terms → Decision
decided_any b t = by_first (first_ask_in b t.tx) b t

-- a first ask with what is decided of it
abbrev pub first_of : Book → Terms → First
first_of b t = record { terms = t; decision = decided b t }

-- one more first ask
abbrev pub with_first : Book → First → Book
with_first b f = record b { asked = b.asked ++ f ∷ [] }

-- one more account
abbrev pub with_opening : Book → Opening → Book
with_opening b o = record b { opened = b.opened ++ o ∷ [] }

-- one more call. What opens an account that is open changes nothing, and neither does an ask with a number that is kept
abbrev pub noted : Book → Call → Book
noted b (Opened account currency balance) =
    if is_some (opening_in b account) then b
    else with_opening b (record { account = account; currency = currency; balance = balance })
noted b (Asked t) = if is_some (first_ask_in b t.tx) then b else with_first b (first_of b t)

-- the book after a history
abbrev pub book_of : List Call → Book
book_of calls = fold noted (record { opened = []; asked = [] }) calls

-- what is decided of an ask after a history
abbrev pub reply_after : List Call → Terms → Decision
reply_after calls t = decided_any (book_of calls) t

-- an account with its balance
abbrev pub account_of : Book → ℕ → Opening → Account
account_of b account o = record { currency = o.currency; balance = balance_in b account o }

-- the account with a number, where it is open
abbrev pub account_in : Book → ℕ → Option Account
account_in b account = option_map (account_of b account) (opening_in b account)

-- the balance of an account after a history, where it is open
abbrev pub balance_after : List Call → ℕ → Option ℕ
balance_after calls account = option_map (λ a. a.balance) (account_in (book_of calls) account)

-- the numbers of the open accounts, rising
abbrev pub rising : Book → List ℕ
rising b = fold (λ numbers o. insert_key nat_cmp numbers o.account) [] b.opened

-- the open accounts by their rising numbers, with their currencies and balances
abbrev pub listed : Book → List (ℕ × Option Account)
listed b = map (λ n. (n, account_in b n)) (rising b)
