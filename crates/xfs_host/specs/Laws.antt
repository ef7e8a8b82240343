-- What is true of every history and of every token.
use Rattle.std.specs.Prelude.{◌≡◌, ℕ, ◌≤◌, ◌&&◌, Bool, List, [], ◌∷◌, if◌then◌else◌, count_by, IfSome}
use Rattle.std.specs.List.{sum_by}
use Rattle.std.specs.Str.{bytes_eq}
use Rattle.xfs_token.specs.Amounts.{IsMade}
use Rattle.xfs_host.specs.Ask.{Terms}
use Rattle.xfs_host.specs.Book.{Book, Call, Opening, book_of, debits, is_paid, opening_in}
use Rattle.xfs_host.specs.Reply.{IsReply}
use Rattle.xfs_host.specs.declared.decision.Decision.{Decision}
use Rattle.xfs_host.specs.declared.first.First.{First}
use Rattle.xfs_host.specs.declared.reply.Reply.TheVariants.{Token}

-- what the token of a first ask is worth in a currency
abbrev pub worth : List ℕ → First → ℕ
worth currency f = if is_paid f.decision && bytes_eq f.terms.currency currency then f.terms.amount else 0

-- what all tokens together are
abbrev pub tokens_in : List ℕ → Book → ℕ
tokens_in currency b = sum_by (worth currency) b.asked

-- what was taken from an account of a currency
abbrev pub taken : Book → List ℕ → Opening → ℕ
taken b currency o = if bytes_eq o.currency currency then debits b o.account else 0

-- what was taken from all of them
abbrev pub debits_in : List ℕ → Book → ℕ
debits_in currency b = sum_by (taken b currency) b.opened

-- whether a first ask got a token for a nonce
abbrev pub uses : List ℕ → First → Bool
uses nonce f = is_paid f.decision && bytes_eq f.terms.nonce nonce

-- no balance is below 0
abbrev pub IsCovered : Book → ℕ → Type 0
IsCovered b account = IfSome (opening_in b account) (λ o. debits b account ≤ o.balance)

-- in each currency what the tokens are worth was taken from its accounts, and a nonce got one token at most
pub record TokensArePaid (b : Book) : Type 0 where
  pub covered : (account : ℕ) → IsCovered b account
  pub totals : (currency : List ℕ) → tokens_in currency b ≡ debits_in currency b
  pub once : (nonce : List ℕ) → count_by (uses nonce) b.asked ≤ 1

-- the book of every history is sound
abbrev pub AreSound : Type 0
AreSound = (calls : List Call) → TokensArePaid (book_of calls)

-- a token that is replied is genuine, with the ask's nonce and its one amount
abbrev pub AreMade : Type 0
AreMade = (key text : List ℕ) (t : Terms) (decision : Decision) → IsReply key t decision (Token text) → IsMade key t.nonce ((t.currency, t.amount) ∷ []) text

-- a token that is made again has the same text
abbrev pub AreSame : Type 0
AreSame = (key nonce : List ℕ) (amounts : List (List ℕ × ℕ)) (a b : List ℕ) → IsMade key nonce amounts a → IsMade key nonce amounts b → a ≡ b
