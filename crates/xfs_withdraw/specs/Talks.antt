-- One withdrawal over a link that was dialled for it: the texts that the link handed over, the asks that it sent, and how it ended.
use Rattle.std.specs.Prelude.{◌≡◌, ◌<◌, ℕ, List, [], ◌∷◌, ◌++◌, codes, Bool, true, false, Option, None, Some, IfErr, OnOk}
use Rattle.std.specs.declared.result.Result.{Result}
use Rattle.xfs_base.specs.Causes.{IfTold}
use Rattle.xfs_envelope.specs.Fields.{empty}
use Rattle.xfs_client.specs.Commands.{command_text}
use Rattle.xfs_client.specs.Withdrawals.{Terms, Withdrawing, HasHeard, IsMove, conversation, step_in}
use Rattle.xfs_client.specs.declared.withdrawal.Move.TheVariants as move
use Rattle.xfs_server.specs.Links.{LinkLog}
use Rattle.xfs_server.specs.declared.link.GiveFault.{GiveFault}
use Rattle.xfs_withdraw.specs.Endings.{ending_of, give_ending, is_cut_off}
use Rattle.xfs_withdraw.specs.declared.ending.Ending.{Ending}
use Rattle.xfs_withdraw.specs.declared.ending.Ending.TheVariants.{Done, Ended, Refused, BadAnswer, Closed, Quiet, Failed, Memory}
use Rattle.xfs_withdraw.specs.declared.talk.TheConstants.{MOST_QUIETS}

-- what is withdrawn, and the key of its token
abbrev pub terms_of : List ℕ → ℕ → List ℕ → Terms
terms_of currency amount key = record { currency = currency; amount = amount; key = key }

-- a withdrawal that has heard these texts, none of which ended it, has these asks
pub data HasAsked (terms : Terms) : List (List ℕ) → List (List ℕ) → Type 0 where
  -- at its start it asks for a nonce
  started : HasAsked terms [] (command_text (codes "Common.GetCommandNonce") 1 empty ∷ [])
  -- a text after which it waits
  waited : {texts asks : List (List ℕ)} → HasAsked terms texts asks
      → (text : List ℕ) → IsMove terms (step_in (conversation texts) text) move.Wait
      → HasAsked terms (texts ++ text ∷ []) asks
  -- a text after which it asks
  asked : {texts asks : List (List ℕ)} → HasAsked terms texts asks
      → (text ask : List ℕ) → IsMove terms (step_in (conversation texts) text) (move.Ask ask)
      → HasAsked terms (texts ++ text ∷ []) (asks ++ ask ∷ [])

-- a withdrawal that took these texts and sent these asks ended so
pub data EndsAs (terms : Terms) : Ending → List (List ℕ) → List (List ℕ) → Type 0 where
  -- at its last text
  at_text : {texts asks : List (List ℕ)} → HasAsked terms texts asks
      → (text : List ℕ) (ending : Ending) → ending_of (step_in (conversation texts) text) ≡ Some ending
      → EndsAs terms ending (texts ++ text ∷ []) asks
  -- where it waited for a text
  waiting : {texts asks : List (List ℕ)} → HasAsked terms texts asks
      → (ending : Ending) → is_cut_off ending ≡ true
      → EndsAs terms ending texts asks
  -- without memory to hear its last text
  unheard : {texts asks : List (List ℕ)} → HasAsked terms texts asks
      → (text : List ℕ)
      → EndsAs terms Memory (texts ++ text ∷ []) asks
  -- where its last ask wasn't sent
  unsent : {texts asks : List (List ℕ)} (ask : List ℕ) → HasAsked terms texts (asks ++ ask ∷ [])
      → (fault : GiveFault)
      → EndsAs terms (give_ending fault) texts asks

-- whether the link told that it is closed
abbrev pub was_closed : Option Ending → Bool
was_closed None = false
was_closed (Some Done) = false
was_closed (Some (Ended code)) = false
was_closed (Some (Refused status)) = false
was_closed (Some BadAnswer) = false
was_closed (Some Closed) = true
was_closed (Some Quiet) = false
was_closed (Some Failed) = false
was_closed (Some Memory) = false

-- how often the link failed
abbrev pub fault_count : Option Ending → ℕ
fault_count None = 0
fault_count (Some Done) = 0
fault_count (Some (Ended code)) = 0
fault_count (Some (Refused status)) = 0
fault_count (Some BadAnswer) = 0
fault_count (Some Closed) = 0
fault_count (Some Quiet) = 0
fault_count (Some Failed) = 1
fault_count (Some Memory) = 0

-- how often the link was quiet
abbrev pub IsQuietFor : Option Ending → ℕ → Type 0
IsQuietFor None quiets = quiets < MOST_QUIETS
IsQuietFor (Some Done) quiets = quiets < MOST_QUIETS
IsQuietFor (Some (Ended code)) quiets = quiets < MOST_QUIETS
IsQuietFor (Some (Refused status)) quiets = quiets < MOST_QUIETS
IsQuietFor (Some BadAnswer) quiets = quiets < MOST_QUIETS
IsQuietFor (Some Closed) quiets = quiets < MOST_QUIETS
IsQuietFor (Some Quiet) quiets = quiets ≡ MOST_QUIETS
IsQuietFor (Some Failed) quiets = quiets < MOST_QUIETS
IsQuietFor (Some Memory) quiets = quiets < MOST_QUIETS

-- what the link tells of a withdrawal that took these texts and sent these asks, and ended so or goes on
pub record LinkTells (l : LinkLog) (ending : Option Ending) (texts asks : List (List ℕ)) : Type 0 where
  pub taken : IfTold l.taken (λ list. list ≡ texts)
  pub sent : IfTold l.sent (λ list. list ≡ asks)
  pub closed : l.closed ≡ was_closed ending
  pub faults : l.faults ≡ fault_count ending
  pub quiets : IsQuietFor ending l.quiets

-- the withdrawal over the link ended so
pub record Withdraws (terms : Terms) (ending : Ending) (l : LinkLog) : Type 0 where
  pub texts : List (List ℕ)
  pub asks : List (List ℕ)
  pub ends : EndsAs terms ending texts asks
  pub tells : LinkTells l (Some ending) texts asks

-- the withdrawal over the link goes on, and heard a quiet so often
pub record IsUnderWay (w : Withdrawing) (quiets : ℕ) (l : LinkLog) : Type 0 where
  pub texts : List (List ℕ)
  pub asks : List (List ℕ)
  pub heard : HasHeard w texts
  pub has_asks : HasAsked w.terms texts asks
  pub tells : LinkTells l None texts asks
  pub count : l.quiets ≡ quiets

-- the withdrawal over the link goes on, with one text that was taken and isn't heard yet
pub record HasTaken (w : Withdrawing) (quiets : ℕ) (text : List ℕ) (l : LinkLog) : Type 0 where
  pub texts : List (List ℕ)
  pub asks : List (List ℕ)
  pub heard : HasHeard w texts
  pub has_asks : HasAsked w.terms texts asks
  pub tells : LinkTells l None (texts ++ text ∷ []) asks
  pub count : l.quiets ≡ quiets

-- a step over the link leaves the withdrawal under way, or ends it; its terms stay
pub record EndsOrGoesOn {T : Type 0} (old new : Withdrawing) (quiets : ℕ) (result : Result T Ending) (l : LinkLog) : Type 0 where
  pub goes_on : OnOk result (IsUnderWay new quiets l)
  pub ends : IfErr result (λ ending. Withdraws old.terms ending l)
  pub terms : new.terms ≡ old.terms
