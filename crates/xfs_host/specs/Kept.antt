-- The three maps, as equations with the book of the history.
use Rattle.std.specs.Prelude.{◌≡◌, ℕ, ◌-◌, ◌==◌, if◌then◌else◌, List, length, None}
use Rattle.std.specs.Option.{option_map}
use Rattle.std.specs.declared.option.Option.{Option}
use Rattle.std.specs.Ordering.{nat_cmp}
use Rattle.std.specs.Cmp.Lexicographic.{slice_cmp}
use Rattle.std.specs.BTreeMap.{BTreeMap, get, get_by, keys, btree_map_len}
use Rattle.std.specs.Global.{Global}
use Rattle.std.specs.Prelude.{Vec}
use Rattle.xfs_host.specs.Book.{Book, Call, Opened, Asked, account_in, opening_in, first_ask_in, user_in, debits, rising}
use Rattle.xfs_host.specs.declared.account.Account.{Account}
use Rattle.xfs_host.specs.declared.event.Event.{Event}
use Rattle.xfs_host.specs.declared.event.Event.TheVariants as event
use Rattle.xfs_host.specs.declared.first.First.{First}

-- the call that an event stands for
abbrev pub call_of : Event → Call
call_of (event.Opened account currency balance) = Opened account currency balance
call_of (event.Asked ask) = Asked ask.value

-- an account with so much less
abbrev pub less : ℕ → Account → Account
less amount a = record a { balance = a.balance - amount }

-- what is at a number, where so much is taken from the account
abbrev pub charged : ℕ → ℕ → ℕ → Option Account → Option Account
charged account amount q a = if account == q then option_map (less amount) a else a

-- what a map with nonces as its keys has at one
abbrev pub tx_at : BTreeMap (Vec ℕ Global) ℕ → List ℕ → Option ℕ
tx_at nonces nonce = get_by (λ k. slice_cmp nat_cmp nonce k.items) nonces

-- the accounts with their balances, the first asks by their numbers, and who used a nonce; nothing was taken from an account that is not open
pub record IsKept (b : Book) (accs : BTreeMap ℕ Account) (fs : BTreeMap ℕ First) (ns : BTreeMap (Vec ℕ Global) ℕ) : Type 0 where
  pub accounts : (q : ℕ) → get nat_cmp accs q ≡ account_in b q
  pub numbers : keys accs ≡ rising b
  pub opened : btree_map_len accs ≡ length b.opened
  pub firsts : (q : ℕ) → get nat_cmp fs q ≡ first_ask_in b q
  pub asked : btree_map_len fs ≡ length b.asked
  pub untouched : (q : ℕ) → opening_in b q ≡ None → debits b q ≡ 0
  pub nonces : (n : List ℕ) → tx_at ns n ≡ option_map (λ f. f.terms.tx) (user_in b n)
