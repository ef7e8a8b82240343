-- How the deeds of `load` are played on a machine: only calls of it, each a step, in the order of the deeds.
use Rattle.std.specs.Prelude.{◌≡◌, ◌≢◌, ◌⊎◌, ◌+◌, ◌++◌, ◌∷◌, [], ℕ, List}
use Rattle.xfs_base.specs.declared.moment.Moment.{Moment}
use Rattle.xfs_base.specs.declared.moment.Service.TheVariants.{Cash}
use Rattle.xfs_mech.specs.declared.touch.Touch.TheVariants.{NotesTaken}
use Rattle.xfs_model.specs.Events.{Answer, join, post, touch, outbox, joined, done, handed, memory}
use Rattle.xfs_model.specs.State.{Pass, State}
use Rattle.xfs_model.specs.Step.{Step}
use Rattle.xfs_load.specs.declared.ask.Ask.{Ask}
use Rattle.xfs_load.specs.Generator.{Client, Deed, asking, count, after_round, hears_all, newcomer, plan, say, take}
use Rattle.xfs_load.specs.Rests.{Rests}
use Rattle.xfs_load.specs.Steps.{RestsInPart}
use Rattle.xfs_load.specs.Texts.{IsText}

-- every call that takes a moment is given the first
abbrev pub at_start : Moment
at_start = record { 0 = 0 }

-- a client says a text, the machine rests, and the client is handed the frames that wait for it
pub record SaysAndHears (pass : Pass) (text : List ℕ) (s : State) (frames : List (List ℕ)) (new : State) : Type 0 where
  pub posted : State
  pub post : Step s (post pass text at_start) done posted
  pub many : ℕ
  pub rested : State
  pub rests : Rests at_start 100000 posted many rested
  pub hands : Step rested (outbox pass) (handed frames) new

-- the client asks something, with the next request id, and hears what it is handed
pub record Asks (ask : Ask) (c : Client) (s : State) (after : Client) (new : State) : Type 0 where
  pub text : List ℕ
  pub text_is : IsText c.key c.nonce ask (c.asked + 1) text
  pub frames : List (List ℕ)
  pub says : SaysAndHears c.pass text s frames new
  pub hears : after ≡ hears_all ask (asking ask c) frames

-- the customer takes the notes that lie in the outlet, if any do and the mechanism lets them go
pub record IsTaken (c : Client) (s : State) (after : Client) (new : State) : Type 0 where
  pub answer : Answer
  pub told : answer ≢ memory
  pub step : Step s (touch NotesTaken) answer new
  pub same : after ≡ c

abbrev pub DoesDeed : Deed → Client → State → Client → State → Type 0
DoesDeed (say ask) c s after new = Asks ask c s after new
DoesDeed take c s after new = IsTaken c s after new
DoesDeed count c s after new = (after ≡ after_round c) × (new ≡ s)

-- one deed is done, and then what Rest says
pub record DoesThen (Rest : Client → State → Type 0) (deed : Deed) (c : Client) (s : State) : Type 0 where
  pub client : Client
  pub between : State
  pub does : DoesDeed deed c s client between
  pub rest : Rest client between

-- deeds are done one after another
abbrev pub Plays : List Deed → Client → State → Client → State → Type 0
Plays [] c s after new = (after ≡ c) × (new ≡ s)
Plays (deed ∷ deeds) c s after new = DoesThen (λ client between. Plays deeds client between after new) deed c s

-- of what a client says the first calls were made: memory ran out at the post, in the rest behind it, or once all were made
pub data SaysInPart (pass : Pass) (text : List ℕ) (s new : State) : Type 0 where
  posting : Step s (post pass text at_start) memory new → SaysInPart pass text s new
  resting : {posted : State} → Step s (post pass text at_start) done posted → RestsInPart at_start posted new → SaysInPart pass text s new
  hearing : {frames : List (List ℕ)} → SaysAndHears pass text s frames new → SaysInPart pass text s new

pub record AsksInPart (ask : Ask) (c : Client) (s new : State) : Type 0 where
  pub text : List ℕ
  pub text_is : IsText c.key c.nonce ask (c.asked + 1) text
  pub says : SaysInPart c.pass text s new

-- the first calls of a deed were made, or none
abbrev pub DoesInPart : Deed → Client → State → State → Type 0
DoesInPart (say ask) c s new = (new ≡ s) ⊎ AsksInPart ask c s new
DoesInPart take c s new = Step s (touch NotesTaken) memory new
DoesInPart count c s new = new ≡ s

-- the first of the deeds were done, and of the next the first calls
pub record PlaysInPart (deeds : List Deed) (c : Client) (s new : State) : Type 0 where
  pub first : List Deed
  pub deed : Deed
  pub left : List Deed
  pub are : deeds ≡ first ++ deed ∷ left
  pub client : Client
  pub between : State
  pub plays : Plays first c s client between
  pub begins : DoesInPart deed client between new

-- a client joins the dispenser, and so many rounds are played
pub record PlaysRounds (key : List ℕ) (many : ℕ) (s : State) (after : Client) (new : State) : Type 0 where
  pub pass : Pass
  pub between : State
  pub joins : Step s (join Cash) (joined pass) between
  pub plays : Plays (plan many) (newcomer key pass) between after new

-- a client joined, and the first of the deeds were done, and of the next the first calls
pub record IsBrokenOff (key : List ℕ) (many : ℕ) (s new : State) : Type 0 where
  pub pass : Pass
  pub between : State
  pub joins : Step s (join Cash) (joined pass) between
  pub plays : PlaysInPart (plan many) (newcomer key pass) between new

-- what want of memory leaves
abbrev pub RoundsInPart : List ℕ → ℕ → State → State → Type 0
RoundsInPart key many s new = Step s (join Cash) memory new ⊎ IsBrokenOff key many s new
