-- When a first ask is answered a token, and what a token leaves.
use Rattle.std.proofs.Common.{◌≡◌, ℕ, ◌≤◌, not, nat_lt, Bool, true, false, true≢false, cond, None, Some, Option, bytes_eq, refl, sym}
use Rattle.std.proofs.lemmas.Bool.{ltb-false}
use Rattle.xfs_host.specs.Ask.{Terms}
use Rattle.xfs_host.specs.Book.{Book, Opening, opening_in, user_in, balance_in, by_account, by_nonce, by_balance, decided, is_paid}
use Rattle.xfs_host.specs.declared.decision.Decision.TheVariants.{Paid, WrongCurrency, Poor}
use Rattle.xfs_host.specs.declared.first.First.{First}

-- an open account in the currency, a nonce that nobody used, and a balance that covers the amount
pub record IsPaying (b : Book) (t : Terms) : Type 0 where
  pub account : Opening
  pub found : opening_in b t.account ≡ Some account
  pub currency : bytes_eq account.currency t.currency ≡ true
  pub unused : user_in b t.nonce ≡ None
  pub covered : t.amount ≤ balance_in b t.account account

enough : (balance amount : ℕ) → is_paid (by_balance balance amount) ≡ true → amount ≤ balance
enough balance amount h = by_test (nat_lt balance amount) balance amount refl h
  where
    by_test : (t : Bool) (balance amount : ℕ) → nat_lt balance amount ≡ t → is_paid (cond t (Poor balance) Paid) ≡ true → amount ≤ balance
    by_test true balance amount e h = absurd (true≢false (sym h))
    by_test false balance amount e h = ltb-false balance amount e

by_user : (user : Option First) (balance amount : ℕ) → is_paid (by_nonce user balance amount) ≡ true → (user ≡ None) × (amount ≤ balance)
by_user (Some f) balance amount h = absurd (true≢false (sym h))
by_user None balance amount h = (refl, enough balance amount h)

by_opening : (x : Option Opening) (b : Book) (t : Terms) → opening_in b t.account ≡ x → is_paid (by_account x b t) ≡ true → IsPaying b t
by_opening None b t e h = absurd (true≢false (sym h))
by_opening (Some o) b t e h = by_currency (bytes_eq o.currency t.currency) refl h
  where
    by_currency : (c : Bool) → bytes_eq o.currency t.currency ≡ c → is_paid (cond (not c) WrongCurrency (by_nonce (user_in b t.nonce) (balance_in b t.account o) t.amount)) ≡ true → IsPaying b t
    by_currency false same h = absurd (true≢false (sym h))
    by_currency true same h =
        let u = by_user (user_in b t.nonce) (balance_in b t.account o) t.amount h in
        record { account = o; found = e; currency = same; unused = u.0; covered = u.1 }

-- what is paid is covered, for an unused nonce
pub paying : (b : Book) (t : Terms) → is_paid (decided b t) ≡ true → IsPaying b t
paying b t h = by_opening (opening_in b t.account) b t refl h
