-- The answers of the command `replay`: the events of the machine that a line stands for, the text of their answers, and the frames that wait then.
use Rattle.std.specs.Prelude.{◌≡◌, ◌≤◌, ◌==◌, ℕ, List, [], ◌∷◌, ◌++◌, length, map, flat_map, codes, decimal, if◌then◌else◌, None, Some}
use Rattle.std.specs.declared.option.Option.{Option}
use Rattle.std.specs.Option.{option_map}
use Rattle.xfs_guard.specs.Nonce.{live_in}
use Rattle.xfs_guard.specs.declared.nonce.Nonce.{Nonce}
use Rattle.xfs_mech.specs.declared.touch.Touch.{Touch}
use Rattle.xfs_mech.specs.declared.touch.Touch.TheVariants as touches
use Rattle.xfs_token.specs.Amounts.{IsMade}
use Rattle.xfs_script.specs.Answered.{lines_text}
use Rattle.xfs_script.specs.Counts.{counts_text}
use Rattle.xfs_script.specs.ReplayLines.{IsReplayLine}
use Rattle.xfs_script.specs.declared.replay_line.ReplayLine.{ReplayLine}
use Rattle.xfs_script.specs.declared.replay_line.ReplayLine.TheVariants.{Skip, Join, Leave, Say, At, Work, Rest, CardIn, CardTaken, CardFault, Key, KeyFault, Take, Mint, Restart, Show}
use Rattle.xfs_model.specs.Events.{Event, join, post, touch, work, outbox, leave, restart, Answer, joined, full, done, taken, fault, closed, touched, did, idle, handed, restarted}
use Rattle.xfs_load.specs.Rests.{Rests}
use Rattle.xfs_model.specs.State.{State}
use Rattle.xfs_model.specs.Step.{Step}
use Rattle.xfs_lines.specs.Guard.Texts.{show_lines}
use Rattle.xfs_cli.specs.Replay.States.{Played, pass_of, is_joined, with_client, without_client}
use Rattle.xfs_cli.specs.declared.commands.replay.clients.Client.{Client}
use Rattle.xfs_script.specs.declared.feed.TheConstants.{LONGEST_LINE}

-- the bytes of the last minted token, or none
abbrev pub token_bytes : Option (List ℕ) → List ℕ
token_bytes None = []
token_bytes (Some token) = token

-- a message with a token in place of each `@`
abbrev pub with_token : List ℕ → List ℕ → List ℕ
with_token token message = flat_map (λ b. if b == 64 then token else b ∷ []) message

-- the event that a line of one event stands for, where its client is joined, or for `join` where it isn't
abbrev pub event_of : Played → ReplayLine → Option Event
event_of s (Join client service) = if is_joined s.clients client then None else Some (join service)
event_of s (Leave client) = option_map leave (pass_of s.clients client)
event_of s (Say client message) = option_map (λ pass. post pass (with_token (token_bytes s.last) message) s.now) (pass_of s.clients client)
event_of s (Work service) = Some (work service s.now)
event_of s (CardIn tracks) = Some (touch (touches.CardIn tracks))
event_of s CardTaken = Some (touch touches.CardTaken)
event_of s CardFault = Some (touch touches.CardFault)
event_of s (Key key) = Some (touch (touches.Key key))
event_of s KeyFault = Some (touch touches.KeyFault)
event_of s Take = Some (touch touches.NotesTaken)
event_of s Restart = Some restart
event_of s other = None

-- the lines that tell an answer of the machine
abbrev pub lines_of : Answer → Option (List (List ℕ))
lines_of full = Some (codes "full" ∷ [])
lines_of done = Some []
lines_of did = Some (codes "did" ∷ [])
lines_of idle = Some (codes "idle" ∷ [])
lines_of touched = Some []
lines_of (taken counts) = Some ((codes "taken " ++ counts_text counts) ∷ [])
lines_of fault = Some (codes "fault taken none" ∷ [])
lines_of closed = Some (codes "shutter closed" ∷ [])
lines_of restarted = Some (codes "restarted" ∷ [])
lines_of other = None

-- the lines that answer a line of the script; a join tells the number that the script gave its client
abbrev pub lines_to : ReplayLine → Answer → Option (List (List ℕ))
lines_to (Join client service) (joined pass) = Some ((codes "joined " ++ decimal client) ∷ [])
lines_to verb answer = lines_of answer

-- the script's clients behind a line: one more, one less, or none of those before a restart
abbrev pub clients_after : List Client → ReplayLine → Answer → List Client
clients_after clients (Join client service) (joined pass) = with_client clients (record { number = client; pass = pass })
clients_after clients (Leave client) done = without_client clients client
clients_after clients Restart restarted = []
clients_after clients verb answer = clients

-- the event happens, and the line tells its answer
pub record Happens (s : Played) (verb : ReplayLine) (event : Event) (said : List (List ℕ)) (next : Played) : Type 0 where
  pub answer : Answer
  pub machine : State
  pub step : Step s.machine event answer machine
  pub text : lines_to verb answer ≡ Some said
  pub is : next ≡ record s { machine = machine; clients = clients_after s.clients verb answer }

-- a number that isn't joined, or for `join` one that is, has no event
abbrev pub AnswersEvent : Played → ReplayLine → Option Event → List (List ℕ) → Played → Type 0
AnswersEvent s verb None said next = (said ≡ codes "no client" ∷ []) × (next ≡ s)
AnswersEvent s verb (Some event) said next = Happens s verb event said next

-- a touch of the world happens, and the line tells its answer
pub record IsTouched (s : Played) (it : Touch) (said : List (List ℕ)) (next : Played) : Type 0 where
  pub answer : Answer
  pub machine : State
  pub step : Step s.machine (touch it) answer machine
  pub text : lines_of answer ≡ Some said
  pub is : next ≡ record s { machine = machine }

pub record IsRested (s : Played) (said : List (List ℕ)) (next : Played) : Type 0 where
  pub count : ℕ
  pub machine : State
  pub rests : Rests s.now 100000 s.machine count machine
  pub text : said ≡ (codes "rested " ++ decimal count) ∷ []
  pub is : next ≡ record s { machine = machine }

-- a token for the live nonce under the key, which is the last one then; where none lives, none is
pub record IsMinted (s : Played) (nonce : Nonce) (amounts : List (List ℕ × ℕ)) (said : List (List ℕ)) (next : Played) : Type 0 where
  pub token : List ℕ
  pub made : IsMade s.machine.seen.guard.key nonce.text amounts token
  pub text : said ≡ (codes "token " ++ token) ∷ []
  pub is : next ≡ record s { last = Some token }

abbrev pub Mints : Option Nonce → Played → List (List ℕ × ℕ) → List (List ℕ) → Played → Type 0
Mints (Some nonce) s amounts said next = IsMinted s nonce amounts said next
Mints None s amounts said next = (said ≡ codes "token none" ∷ []) × (next ≡ record s { last = None })

-- what a verb is answered, before the frames
abbrev pub AnswersVerb : Played → ReplayLine → List (List ℕ) → Played → Type 0
AnswersVerb s Skip said next = (said ≡ []) × (next ≡ s)
AnswersVerb s (At moment) said next = (said ≡ []) × (next ≡ record s { now = moment })
AnswersVerb s Rest said next = IsRested s said next
AnswersVerb s (Mint amounts) said next = Mints (live_in s.machine.seen.guard.boot_missing s.machine.seen.guard.records) s amounts said next
AnswersVerb s Show said next = (said ≡ show_lines (length s.machine.seen.guard.units) s.machine.seen.guard.places) × (next ≡ s)
AnswersVerb s verb said next = AnswersEvent s verb (event_of s verb) said next

-- a frame behind its client's number
abbrev pub frame_line : ℕ → List ℕ → List ℕ
frame_line number frame = decimal number ++ 32 ∷ frame

-- a client is handed its frames, and then the clients behind it
pub record HandsThen (Rest : State → List (List ℕ) → Type 0) (s : State) (client : Client) (said : List (List ℕ)) : Type 0 where
  pub frames : List (List ℕ)
  pub between : State
  pub step : Step s (outbox client.pass) (handed frames) between
  pub later : List (List ℕ)
  pub rest : Rest between later
  pub text : said ≡ map (frame_line client.number) frames ++ later

-- every client is handed the frames that wait for it, one client after another
abbrev pub HandsAll : List Client → State → List (List ℕ) → State → Type 0
HandsAll [] s said new = (said ≡ []) × (new ≡ s)
HandsAll (client ∷ clients) s said new = HandsThen (λ between later. HandsAll clients between later new) s client said

-- behind a text stand the frames that were handed over
pub record HasMail (clients : List Client) (before : State) (text all : List ℕ) (after : State) : Type 0 where
  pub mail : List (List ℕ)
  pub hands : HandsAll clients before mail after
  pub written : all ≡ text ++ lines_text mail

-- a line of `replay`, what answers it and the frames behind that, and what the next line is answered from
pub record AnswersReplay (s : Played) (text : List ℕ) (output : List (List ℕ)) (next : Played) : Type 0 where
  pub verb : ReplayLine
  pub reads : IsReplayLine text verb
  pub short : length text ≤ LONGEST_LINE
  pub said : List (List ℕ)
  pub between : Played
  pub answer : AnswersVerb s verb said between
  pub mail : List (List ℕ)
  pub machine : State
  pub hands : HandsAll between.clients between.machine mail machine
  pub joined_text : output ≡ said ++ mail
  pub is : next ≡ record between { machine = machine }
