-- The answers of the command `host`: the bank's side, from a key and a history of calls on.
use Rattle.std.specs.Prelude.{◌≡◌, ◌⊎◌, ℕ, ◌≤◌, List, [], ◌∷◌, ◌++◌, length, map, codes, decimal, None, Some, ⊤}
use Rattle.std.specs.declared.option.Option.{Option}
use Rattle.xfs_host.specs.Ask.{Terms}
use Rattle.xfs_host.specs.Book.{Call, Opened, Asked, book_of, listed, reply_after}
use Rattle.xfs_host.specs.Host.{State, host_refusal, open_refusal}
use Rattle.xfs_host.specs.Reply.{IsReply}
use Rattle.xfs_host.specs.declared.account.Account.{Account as Open}
use Rattle.xfs_host.specs.declared.faults.HostFault.{HostFault}
use Rattle.xfs_host.specs.declared.faults.HostFault.TheVariants as asking
use Rattle.xfs_host.specs.declared.faults.OpenFault.{OpenFault}
use Rattle.xfs_host.specs.declared.faults.OpenFault.TheVariants as opening
use Rattle.xfs_host.specs.declared.reply.Reply.{Reply}
use Rattle.xfs_host.specs.declared.reply.Reply.TheVariants as reply
use Rattle.xfs_script.specs.Answered.{lines_text}
use Rattle.xfs_script.specs.Commands.{Command}
use Rattle.xfs_script.specs.HostLines.{IsHostLine}
use Rattle.xfs_script.specs.declared.feed.TheConstants.{LONGEST_LINE}
use Rattle.xfs_script.specs.declared.host_line.HostLine.{HostLine}
use Rattle.xfs_script.specs.declared.host_line.HostLine.TheVariants.{Skip, Account, Ask, Show}
use Rattle.xfs_guard.specs.declared.fail.BootFault.{BootFault}

-- the host before its first call
abbrev pub new_host : List ℕ → State
new_host key = record { key = key; calls = [] }

-- the host with one more call that was answered
abbrev pub with_call : State → Call → State
with_call s call = record s { calls = s.calls ++ call ∷ [] }

-- the text of a reply
abbrev pub reply_text : Reply → List ℕ
reply_text (reply.Token text) = codes "token " ++ text
reply_text reply.Other = codes "refused other"
reply_text reply.Unknown = codes "refused account"
reply_text reply.WrongCurrency = codes "refused currency"
reply_text (reply.UsedNonce tx) = codes "refused nonce used " ++ decimal tx
reply_text (reply.Poor balance) = codes "refused balance " ++ decimal balance.0

-- an account that may be opened is opened; another changes nothing
abbrev pub OpensAccount : State → Option OpenFault → Call → List ℕ → State → Type 0
OpensAccount s None call answer next = (answer ≡ codes "opened") × (next ≡ with_call s call)
OpensAccount s (Some opening.Known) call answer next = (answer ≡ codes "known") × (next ≡ s)
OpensAccount s (Some opening.Limit) call answer next = (answer ≡ codes "full") × (next ≡ s)
OpensAccount s (Some opening.Memory) call answer next = ⊥

-- the answer is the reply that is due after the history, and this ask is behind it then
pub record IsReplied (s : State) (t : Terms) (answer : List ℕ) (next : State) : Type 0 where
  pub reply : Reply
  pub is : IsReply s.key t (reply_after s.calls t) reply
  pub text : answer ≡ reply_text reply
  pub grown : next ≡ with_call s (Asked t)

-- an ask is replied to, but for a new one where there is no room; that changes nothing
abbrev pub IsAsked : State → Option HostFault → Terms → List ℕ → State → Type 0
IsAsked s None t answer next = IsReplied s t answer next
IsAsked s (Some asking.Limit) t answer next = (answer ≡ codes "full") × (next ≡ s)
IsAsked s (Some asking.Memory) t answer next = ⊥

-- the answer to `open`
abbrev pub AnswersOpen : State → ℕ → List ℕ → ℕ → List ℕ → State → Type 0
AnswersOpen s account currency balance answer next = OpensAccount s (open_refusal (book_of s.calls) account) (Opened account currency balance) answer next

-- the answer to `ask`
abbrev pub AnswersAsk : State → Terms → List ℕ → State → Type 0
AnswersAsk s t answer next = IsAsked s (host_refusal (book_of s.calls) t) t answer next

-- the line of an account, which is open
abbrev pub account_line : ℕ → Option Open → List ℕ
account_line number None = []
account_line number (Some a) = decimal number ++ codes " " ++ decimal a.balance ++ codes " " ++ a.currency

-- a line for each open account, by their rising numbers
abbrev pub show_lines : State → List (List ℕ)
show_lines s = map (λ e. account_line e.0 e.1) (listed (book_of s.calls))

-- the one line that answers
pub record IsOneLine (Answer : List ℕ → State → Type 0) (output : List (List ℕ)) (next : State) : Type 0 where
  pub line : List ℕ
  pub answer : Answer line next
  pub output_is : output ≡ line ∷ []

-- the lines that answer a verb: none for a skipped line, one for each account for `show`, and one else
abbrev pub AreHostAnswer : State → HostLine → List (List ℕ) → State → Type 0
AreHostAnswer s Skip output next = (output ≡ []) × (next ≡ s)
AreHostAnswer s (Account account currency balance) output next = IsOneLine (AnswersOpen s account currency balance.0) output next
AreHostAnswer s (Ask tx account nonce currency amount) output next =
    IsOneLine (AnswersAsk s (record { tx = tx; account = account; nonce = nonce; currency = currency; amount = amount.0 })) output next
AreHostAnswer s Show output next = (output ≡ show_lines s) × (next ≡ s)

-- a line of at most 70,000 bytes that writes a verb of `host`
pub record IsLineOfHost (text : List ℕ) : Type 0 where
  pub verb : HostLine
  pub reads : IsHostLine text verb
  pub short : length text ≤ LONGEST_LINE

-- a line of `host` and the lines that answer it
pub record AnswersHost (s : State) (text : List ℕ) (output : List (List ℕ)) (next : State) : Type 0 where
  pub verb : HostLine
  pub reads : IsHostLine text verb
  pub short : length text ≤ LONGEST_LINE
  pub answer : AreHostAnswer s verb output next

-- nothing was done of a verb; or all of it, and the line that answers it was not written
abbrev pub LeavesOfVerb : State → HostLine → State → Type 0
LeavesOfVerb s verb end = (end ≡ s) ⊎ ((output : List (List ℕ)) × AreHostAnswer s verb output end)

-- nothing was done of a line; or all of it, and the lines that answer it were not written
abbrev pub LeavesHost : State → List ℕ → State → Type 0
LeavesHost s text end = (end ≡ s) ⊎ ((output : List (List ℕ)) × AnswersHost s text output end)

-- the command `host` over its lines: want of memory leaves nothing of one or all of it, and it ends at none
abbrev pub host_lines : Command State BootFault
host_lines = record { IsLine = IsLineOfHost; Answers = AnswersHost; Leaves = LeavesHost; EndsAt = λ s text why end. ⊥ }

-- what is answered is a line
pub is-line : (s next : State) (text : List ℕ) (output : List (List ℕ)) → AnswersHost s text output next → IsLineOfHost text
is-line s next text output a = record { verb = a.verb; reads = a.reads; short = a.short }

-- the balance of an `open` line is one that an account may have
abbrev pub IsSmall : HostLine → Type 0
IsSmall Skip = ⊤
IsSmall (Account account currency balance) = balance.0 ≤ 999999999999
IsSmall (Ask tx account nonce currency amount) = ⊤
IsSmall Show = ⊤

-- the bytes are the one line that answers, with its line feed
pub record TellsLine (Answer : List ℕ → State → Type 0) (bytes : List ℕ) (next : State) : Type 0 where
  pub line : List ℕ
  pub answer : Answer line next
  pub text : bytes ≡ lines_text (line ∷ [])

-- nothing was done; or all of it, and the line that answers it was not written
abbrev pub WholeOrNone : (List ℕ → State → Type 0) → State → State → Type 0
WholeOrNone Answer s end = (end ≡ s) ⊎ ((line : List ℕ) × Answer line end)
