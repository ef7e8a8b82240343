-- A withdrawal asks for a nonce, then for notes by a token for that nonce, then for their presentation: each command once the one before it succeeded.
use Rattle.std.specs.Prelude.{◌≡◌, ℕ, ◌*◌, ◌==◌, ◌++◌, List, [], ◌∷◌, codes, Bool, true, false, fold, Option, None, Some, option_and_then, Result, Ok, Err, OnErr, if◌then◌else◌}
use Rattle.serde_json.specs.Data.{Data, string, object, member, no_members}
use Rattle.serde_json.specs.Find.{as_str}
use Rattle.xfs_json.specs.Members.{member_of, member_as}
use Rattle.xfs_envelope.specs.Fields.{passing, needed, empty}
use Rattle.xfs_envelope.specs.Messages.{numbered}
use Rattle.xfs_envelope.specs.declared.code.Code.{Code}
use Rattle.xfs_envelope.specs.declared.code.Code.TheVariants.{Success}
use Rattle.xfs_envelope.specs.declared.code.Status.{Status}
use Rattle.xfs_token.specs.Token.{is_nonce}
use Rattle.xfs_token.specs.Amounts.{IsMade}
use Rattle.xfs_client.specs.Commands.{ReadsAs, command_text}
use Rattle.xfs_client.specs.Desks.{Remembered, Recalls, OfKept, IsOpenTo, IsEndOf}
use Rattle.xfs_client.specs.History as history
use Rattle.xfs_client.specs.History.{Told, Entry, asks, told_in, is_open}
use Rattle.xfs_client.specs.declared.heard.HearFault.{HearFault}
use Rattle.xfs_client.specs.declared.heard.HearFault.TheVariants.{Shape}
use Rattle.xfs_client.specs.declared.withdrawal.Move.{Move}
use Rattle.xfs_client.specs.declared.withdrawal.Move.TheVariants.{Ask, Wait, Done, Ended, Refused}

-- the currency, the amount in whole units of it, and the key of the device's tokens
pub record Terms : Type 0 where
  pub currency : List ℕ
  pub amount : ℕ
  pub key : List ℕ

pub record Withdrawing : Type 0 where
  pub terms : Terms
  pub desk : Remembered

-- a withdrawal stays one on the same terms, and where the call fails it stays as it was
pub record KeepsTerms {T E : Type 0} (result : Result T E) (old new : Withdrawing) : Type 0 where
  pub terms : new.terms ≡ old.terms
  pub same : OnErr result (new ≡ old)

-- what follows a message
pub data Step : Type 0 where
  waits : Step
  dispenses : List ℕ → Step
  presents : Step
  ends : Step
  fails : Code → Step
  gives_up : Status → Step

-- the nonce in the payload of GetCommandNonce's completion
abbrev pub nonce_of : Data → Option (List ℕ)
nonce_of payload = option_and_then (passing is_nonce) (needed (member_as as_str (member_of (codes "commandNonce") payload)))

abbrev pub dispenses_for : Option (List ℕ) → Result Step HearFault
dispenses_for None = Err Shape
dispenses_for (Some nonce) = Ok (dispenses nonce)

-- what follows the success of the last of so many asks: the nonce's, the Dispense's or the Present's
abbrev pub after_success : ℕ → Data → Result Step HearFault
after_success asked payload =
    if asked == 1 then dispenses_for (nonce_of payload)
    else (if asked == 2 then Ok presents
    else Ok ends)

abbrev pub is_success : Code → Bool
is_success Success = true
is_success code = false

abbrev pub after_completion : ℕ → Code → Data → Result Step HearFault
after_completion asked code payload = if is_success code then after_success asked payload else Ok (fails code)

-- what follows what was told
abbrev pub step_of : ℕ → Told → Result Step HearFault
step_of asked (history.acknowledged id) = Ok waits
step_of asked (history.refused id status) = Ok (gives_up status)
step_of asked (history.event id) = Ok waits
step_of asked (history.completed id code payload) = after_completion asked code payload
step_of asked history.unsolicited = Ok waits

abbrev pub step_by : List Entry → Result Told HearFault → Result Step HearFault
step_by h (Err e) = Err e
step_by h (Ok t) = step_of (asks h) t

-- what follows a text after this history, or why it is not heard
abbrev pub step_in : List Entry → List ℕ → Result Step HearFault
step_in h text = step_by h (told_in h text)

-- the ask of a step, where it has one
abbrev pub asked_by : Step → List Entry
asked_by waits = []
asked_by (dispenses nonce) = history.ask ∷ []
asked_by presents = history.ask ∷ []
asked_by ends = []
asked_by (fails code) = []
asked_by (gives_up status) = []

-- the history with what was told and the ask that followed; where the step is refused, nothing was heard
abbrev pub goes_on : List Entry → Told → Result Step HearFault → List Entry
goes_on h t (Err e) = h
goes_on h t (Ok step) = h ++ history.heard t ∷ asked_by step

abbrev pub hears : List Entry → Result Told HearFault → List Entry
hears h (Err e) = h
hears h (Ok t) = goes_on h t (step_of (asks h) t)

-- the history of a withdrawal that was started and has heard these texts
abbrev pub conversation : List (List ℕ) → List Entry
conversation texts = fold (λ h text. hears h (told_in h text)) (history.ask ∷ []) texts

-- a withdrawal that was started and has heard these texts
abbrev pub HasHeard : Withdrawing → List (List ℕ) → Type 0
HasHeard w texts = Recalls w.desk (conversation texts)

-- P holds of all texts that a withdrawal may have heard since its start
abbrev pub OfHeard : Withdrawing → (List (List ℕ) → Type 0) → Type 0
OfHeard w P = (texts : List (List ℕ)) → HasHeard w texts → P texts

-- the desk keeps what it kept, with what was told and the ask that follows
abbrev pub HearsThen : Told → Result Step HearFault → Remembered → Remembered → Type 0
HearsThen t step old new = OfKept old (λ h. IsOpenTo h t → Recalls new (goes_on h t step))

-- the desk keeps what it kept, with whatever ended the open ask of the id and the ask that follows
abbrev pub EndsThen : ℕ → Result Step HearFault → Remembered → Remembered → Type 0
EndsThen id step old new = (h : List Entry) (t : Told) → Recalls old h → is_open h id ≡ true → IsEndOf id t → Recalls new (goes_on h t step)

abbrev pub denomination : List ℕ → ℕ → Data
denomination currency amount = object (member (codes "currencies") (object (member currency (numbered amount) no_members)) no_members)

abbrev pub dispense_payload : List ℕ → ℕ → List ℕ → Data
dispense_payload currency amount token =
    object (member (codes "denomination") (denomination currency amount)
    (member (codes "mix") (string (codes "minimum"))
    (member (codes "token") (string token) no_members)))

-- the text of a Dispense with a genuine token for this nonce and the amount, and a service reads it so
pub record IsDispense (terms : Terms) (nonce text : List ℕ) : Type 0 where
  pub token : List ℕ
  pub made : IsMade terms.key nonce ((terms.currency, 1000 * terms.amount) ∷ []) token
  pub is : text ≡ command_text (codes "CashDispenser.Dispense") 2 (dispense_payload terms.currency terms.amount token)
  pub reads_back : ReadsAs text (codes "CashDispenser.Dispense") 2 (dispense_payload terms.currency terms.amount token)

-- the text of a Present, and a service reads it so
pub record IsPresent (text : List ℕ) : Type 0 where
  pub is : text ≡ command_text (codes "CashDispenser.Present") 3 empty
  pub reads_back : ReadsAs text (codes "CashDispenser.Present") 3 empty

abbrev pub IsAskMove : (List ℕ → Type 0) → Move → Type 0
IsAskMove P (Ask text) = P text
IsAskMove P Wait = ⊥
IsAskMove P Done = ⊥
IsAskMove P (Ended code) = ⊥
IsAskMove P (Refused status) = ⊥

-- the move of a step
abbrev pub IsMove : Terms → Result Step HearFault → Move → Type 0
IsMove terms (Err e) m = ⊥
IsMove terms (Ok waits) m = m ≡ Wait
IsMove terms (Ok (dispenses nonce)) m = IsAskMove (IsDispense terms nonce) m
IsMove terms (Ok presents) m = IsAskMove IsPresent m
IsMove terms (Ok ends) m = m ≡ Done
IsMove terms (Ok (fails code)) m = m ≡ Ended code
IsMove terms (Ok (gives_up status)) m = m ≡ Refused status

-- the withdrawal makes this move on the text, whatever it heard since its start
abbrev pub MovesOn : Withdrawing → List ℕ → Move → Type 0
MovesOn w text m = OfHeard w (λ texts. IsMove w.terms (step_in (conversation texts) text) m)

-- the withdrawal refuses the text for this, whatever it heard since its start
abbrev pub RefusesFor : Withdrawing → List ℕ → HearFault → Type 0
RefusesFor w text why = OfHeard w (λ texts. step_in (conversation texts) text ≡ Err why)
