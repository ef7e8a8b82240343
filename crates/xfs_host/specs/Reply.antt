-- A reply tells what was decided, and of what was paid the token: `make`'s for the host's key, the nonce and this one amount.
use Rattle.std.specs.Prelude.{◌≡◌, ℕ, List, [], ◌∷◌}
use Rattle.xfs_token.specs.Amounts.{IsMade}
use Rattle.xfs_host.specs.Ask.{Terms}
use Rattle.xfs_host.specs.declared.decision.Decision.{Decision}
use Rattle.xfs_host.specs.declared.decision.Decision.TheVariants.{Paid, Other, Unknown, WrongCurrency, UsedNonce, Poor}
use Rattle.xfs_host.specs.declared.reply.Reply.{Reply}
use Rattle.xfs_host.specs.declared.reply.Reply.TheVariants as reply

-- the reply, with the text of its token where there is one
abbrev pub reply_of : List ℕ → Decision → Reply
reply_of text Paid = reply.Token text
reply_of text Other = reply.Other
reply_of text Unknown = reply.Unknown
reply_of text WrongCurrency = reply.WrongCurrency
reply_of text (UsedNonce tx) = reply.UsedNonce tx
reply_of text (Poor balance) = reply.Poor (record { 0 = balance })

-- the reply to an ask of which this was decided; what was paid has its token
pub record IsReply (key : List ℕ) (t : Terms) (decision : Decision) (reply : Reply) : Type 0 where
  pub text : List ℕ
  pub is : reply ≡ reply_of text decision
  pub made : decision ≡ Paid → IsMade key t.nonce ((t.currency, t.amount) ∷ []) text
