-- Each frame that a step sends, and each result that it makes, tells what stands in the journal.
use Rattle.std.proofs.Common.{◌≡◌, ℕ, ◌+◌, ◌==◌, not, Bool, true, false, cond, MatchBool, MatchOption, List, [], ◌∷◌, Option, None, Some, Result, Ok, Err, length, map, All, refl, ap, sym, subst}
use Rattle.std.specs.Prelude.{⊤, drop}
use Rattle.std.specs.List.{list_any}
use Rattle.std.specs.Option.{IfSome, option_and_then}
use Rattle.std.proofs.lemmas.List.Elements.{All-append, All-cons, All-filter, All-map, All-nil, All-push}
use Rattle.std.proofs.lemmas.Option.{none-some}
use Rattle.serde_json.specs.Data.{Data}
use Rattle.xfs_base.specs.declared.moment.ClientId.{ClientId}
use Rattle.xfs_base.specs.declared.moment.Moment.{Moment}
use Rattle.xfs_base.specs.declared.moment.Service.{Service}
use Rattle.xfs_base.specs.declared.moment.Service.TheVariants.{Publisher, Card, Keys, Cash}
use Rattle.xfs_card.specs.Table as card_reader
use Rattle.xfs_card.specs.declared.state.CardEvent.TheVariants as card_event
use Rattle.xfs_common.specs.Cancel.{request_ids}
use Rattle.xfs_common.specs.Payloads.{capabilities_payload, nothing, present_status_payload, services_payload, status_payload}
use Rattle.xfs_common.specs.declared.error.ErrorCode.TheVariants.{NoMatchingRequestIds}
use Rattle.xfs_common.specs.declared.payloads.Fit2.{Fit2}
use Rattle.xfs_conversation.specs.Pending.{is_wrong_id}
use Rattle.xfs_dispenser.specs.Answers.{Start, told, planned, Went, more, done as over}
use Rattle.xfs_dispenser.specs.Seen.{Seen}
use Rattle.xfs_dispenser.specs.declared.plan.Plan.{Plan}
use Rattle.xfs_envelope.specs.Commands.{command_in}
use Rattle.xfs_envelope.specs.Commands as envelope
use Rattle.xfs_envelope.specs.Replies.{Reply, acknowledge, completion, event as event_reply, reply_in, unsolicited}
use Rattle.xfs_envelope.specs.declared.code.Code.{Code}
use Rattle.xfs_envelope.specs.declared.code.Status.{Status}
use Rattle.xfs_envelope.specs.declared.code.Code.TheVariants.{TimeOut}
use Rattle.xfs_envelope.specs.declared.code.Status.TheVariants.{InvalidRequestId, TooManyRequests}
use Rattle.xfs_envelope.specs.declared.command.Refuse.{Refuse}
use Rattle.xfs_guard.specs.View.{View}
use Rattle.xfs_journal.specs.declared.record.Rec.{Rec}
use Rattle.xfs_journal.proofs.JournalLaws.{record_at-pushed}
use Rattle.xfs_json.specs.declared.members.Shape.{Shape}
use Rattle.xfs_keyboard.specs.Keyboard as keyboard
use Rattle.xfs_keyboard.specs.declared.state.KeyEvent.TheVariants as key_event
use Rattle.xfs_mech.specs.declared.touch.Touch.{Touch}
use Rattle.xfs_mech.specs.declared.touch.Touch.TheVariants.{CardIn, CardTaken, CardFault, Key, KeyFault, NotesTaken}
use Rattle.xfs_queue.specs.declared.command.Command.{Command}
use Rattle.xfs_queue.specs.Commands.{is_due, is_ready}
use Rattle.xfs_queue.specs.Queue.{is_named, is_crowded}
use Rattle.xfs_units.specs.Payloads.{storage_payload}
use Rattle.xfs_guard.specs.Lives.{BeginsWith}
use Rattle.xfs_model.specs.Cases.{AnswersFirst, BeginsAs, Does, DoesNonce, Stops, TakesNonce, resulting, with_start, with_went}
use Rattle.xfs_common.specs.Commands.{immediate_of}
use Rattle.xfs_common.specs.declared.command.Immediate.{Immediate}
use Rattle.xfs_common.specs.declared.command.Immediate.TheVariants as immediate
use Rattle.xfs_model.specs.declared.known.Known.{Known}
use Rattle.xfs_model.specs.Commands.{known_of}
use Rattle.xfs_model.specs.Connections.{announced, connection_at, connection_of, is_at, is_client, is_service, left, sent, with_mail, without_mail}
use Rattle.xfs_model.specs.Devices.{Hears, Saying, card_says, device_stopped, keyboard_says, with_keypad, with_saying, with_slot}
use Rattle.xfs_model.specs.Events.{Answer, Event, join, post, touch, work, outbox, leave, restart, end_, finish, joined, full, done, handed, restarted, unrestarted, ended, unsettled}
use Rattle.xfs_model.specs.Frames.{Announces, AreEvents, IsAcknowledge, IsCompletion, IsUnsolicited, Notice}
use Rattle.xfs_model.specs.Guards.{NonceCommand, cleared_, issued, none_to_clear, refused, uncleared, unissued}
use Rattle.xfs_model.specs.Immediate.{AtOnce, ComesTo, ResultsIn, canceling, done_by, health_of, ids_of, told_of}
use Rattle.xfs_model.specs.PresentStatus.{TellsPresented, TellsUnless, nonce_in}
use Rattle.xfs_evidence.specs.Evidence.{evidence_refusal}
use Rattle.xfs_evidence.specs.declared.faults.EvidenceFault.{EvidenceFault}
use Rattle.xfs_evidence.specs.declared.faults.EvidenceFault.TheVariants.{NoIssue, Unsettled, Memory}
use Rattle.xfs_model.specs.Kept.{IsMachine}
use Rattle.xfs_model.specs.Pendings.{pending_in}
use Rattle.xfs_model.specs.Posts.{Accepts, Refuses, TakesText, TakesOn}
use Rattle.xfs_model.specs.Results.{error, plain, success}
use Rattle.xfs_model.specs.State.{Ask, issue, clear, cash, card, entry, bad, Connection, Ending, Job, Outcome, Pass, State, bare, queue_at}
use Rattle.xfs_model.specs.Step.{Happens, HandsOver, DropsClient, Posts, Step, at_moment, happens, wanting}
use Rattle.xfs_model.specs.Told.{HasMark, IsTold, ResultStands, Stands, TellsRecords, payload_in}
use Rattle.xfs_model.specs.Touches.{CardSays, IsHeard, TakesNotes, Touches, failed, running_at, shut, took}
use Rattle.xfs_model.specs.Work as working
use Rattle.xfs_model.specs.Work.{case_of}
use Rattle.xfs_model.proofs.Advancing.{advances}
use Rattle.xfs_model.proofs.Changes.{each}
use Rattle.xfs_model.proofs.Payloads.{SayingStands, StartStands, WentStands, begins_stands, card_stands, error_stands, keys_stand, longer_stands, nothing_stands, silent, works_stands}
use Rattle.xfs_model.proofs.Turns.{AllFit, Speaks, Turn, accepted, at_event, begun, card_begins, card_touched, heard, keys_begin, keys_touched, late, marks, misasked, nonce, seen_at, stays, stopped_running, stopped_waiting, turns, worked}
use Rattle.xfs_model.proofs.AtOnce.{by_command}
use Rattle.xfs_model.proofs.Wanting.{unmoved}
use Rattle.xfs_model.proofs.Lists.{found_all}

-- the results
nonce_stands : (s : State) (ask : Ask) (result : Outcome) (next : Seen) (moment : Moment) → NonceCommand s ask result next moment → Stands next.guard.records result.payload
nonce_stands s ask result next moment (refused asks unfit) = nothing_stands next.guard.records
nonce_stands s ask result next moment (issued now fit is) =
    let grown = ap (λ (v : View). v.records) is.guard_is in
    record { nonce = record { place = length s.seen.guard.records + 1; issue = _; word = _; stands = rw grown (record_at-pushed s.seen.guard.records _); is = refl }; mark = tt }
nonce_stands s ask result next moment (unissued now fit is) = nothing_stands next.guard.records
nonce_stands s ask result next moment (cleared_ now fit live is) = nothing_stands next.guard.records
nonce_stands s ask result next moment (uncleared now fit live is) = nothing_stands next.guard.records
nonce_stands s ask result next moment (none_to_clear fit dead) = nothing_stands next.guard.records

went_result : (old new : List Rec) → BeginsWith new old → (left : Plan) (b : Bool) (went : Went) (a : Command Job) → WentStands old went → ResultStands new a → ResultStands new (with_went left b went a)
went_result old new e left b more a stands_ h = h
went_result old new e left b (over answer) a stands_ h = longer_stands old new e answer.payload stands_

start_result : (old new : List Rec) → BeginsWith new old → (start : Start) (a : Command Job) → StartStands old start → ResultStands new a → ResultStands new (with_start start a)
start_result old new e (told answer) a stands_ h = longer_stands old new e answer.payload stands_
start_result old new e (planned plan) a stands_ h = h

saying_result : (records : List Rec) (result : Option Outcome) (a : Command Job) → IfSome result (λ (r : Outcome). Stands records r.payload) → ResultStands records a → ResultStands records (with_saying result a)
saying_result records None a stands_ h = h
saying_result records (Some result) a stands_ h = stands_

speaks_stands : (records : List Rec) (s : State) (event : Event) (service : Service) (a : Command Job) (saying : Saying) → Speaks s event service a saying → SayingStands records saying
speaks_stands records s event service a saying (card_begins waits ask) = card_stands records s.slot (card_event.Begin ask)
speaks_stands records s event service a saying (keys_begin waits ask) = keys_stand records s.keypad (key_event.Begin ask)
speaks_stands records s event service a saying (card_touched at runs touched fault) = card_stands records s.slot touched
speaks_stands records s event service a saying (keys_touched at runs touched fault) = keys_stand records s.keypad touched

turn_tells : (s : State) (event : Event) (new : State) (service : Service) (b : Command Job) → HasMark s.seen → BeginsWith new.seen.guard.records s.seen.guard.records
    → Turn s event new (ResultStands new.seen.guard.records) service b → ResultStands new.seen.guard.records b
turn_tells s event new service b mark grown (stays a h still) = h
turn_tells s event new service b mark grown (marks a holds h still) = h
turn_tells s event new service b mark grown (accepted client id line timeout name payload ask has asks) = tt
turn_tells s event new service b mark grown (stopped_waiting a holds h waits marked) = nothing_stands new.seen.guard.records
turn_tells s event new service b mark grown (late a h waits due) = nothing_stands new.seen.guard.records
turn_tells s event new service b mark grown (stopped_running a h runs stops) = nothing_stands new.seen.guard.records
turn_tells s event new service b mark grown (nonce a h waits at result does) = nonce_stands s a.job.ask result new.seen new.issued does
turn_tells s event new service b mark grown (misasked a h waits asks) = nothing_stands new.seen.guard.records
turn_tells s event new service b mark grown (begun a h waits none here ask asks start begins) =
    start_result s.seen.guard.records new.seen.guard.records grown start a (begins_stands s.seen s.exchange ask new.seen new.exchange start mark begins) h
turn_tells s event new service b mark grown (worked a h runs at plan left has went works) =
    went_result s.seen.guard.records new.seen.guard.records grown left _ went a (works_stands s.seen plan new.seen left went mark works) h
turn_tells s event new service b mark grown (heard a h elsewhere saying speaks) =
    saying_result new.seen.guard.records saying.result a (speaks_stands new.seen.guard.records s event service a saying speaks) h

-- the frames
reads_stands : (records : List Rec) (frame : List ℕ) (reply : Reply) → reply_in frame ≡ Some reply → IfSome (payload_in reply) (Stands records) → TellsRecords records frame
reads_stands records frame reply reads h = subst (λ (o : Option Reply). IfSome (option_and_then payload_in o) (Stands records)) (sym reads) h

module _ (records : List Rec) where
  acknowledge_tells : (id : Option ℕ) (name : Option (List ℕ)) (status : Option Status) (frame : List ℕ) → IsAcknowledge id name status frame → TellsRecords records frame
  acknowledge_tells id name status frame is = reads_stands records frame (acknowledge id name status) is.reads_back tt

  completion_tells : (id : ℕ) (name : List ℕ) (code : Code) (payload : Data) (frame : List ℕ) → IsCompletion id name code payload frame → Stands records payload → TellsRecords records frame
  completion_tells id name code payload frame is h = reads_stands records frame (completion id name code payload) is.reads_back h

  unsolicited_tells : (name : List ℕ) (payload : Data) (frame : List ℕ) → IsUnsolicited name payload frame → Stands records payload → TellsRecords records frame
  unsolicited_tells name payload frame is h = reads_stands records frame (unsolicited name payload) is.reads_back h

  -- notices
  abbrev NoticesStand : List Notice → Type 0
  NoticesStand [] = ⊤
  NoticesStand (notice ∷ notices) = Stands records notice.payload × NoticesStand notices

  events_tell : (id : ℕ) (notices : List Notice) (frames : List (List ℕ)) → AreEvents id notices frames → NoticesStand notices → All (TellsRecords records) frames
  events_tell id [] [] are h = All-nil (TellsRecords records)
  events_tell id [] (frame ∷ frames) are h = absurd are
  events_tell id (notice ∷ notices) [] are h = absurd are
  events_tell id (notice ∷ notices) (frame ∷ frames) are h =
      All-cons (TellsRecords records) frame frames (reads_stands records frame (event_reply id notice.name notice.payload) (are.0).reads_back h.0) (events_tell id notices frames are.1 h.1)

  card_notices : (effect : card_reader.Effect) → NoticesStand (card_says effect).events
  card_notices card_reader.nothing = tt
  card_notices card_reader.ask_insert = (nothing_stands records, tt)
  card_notices (card_reader.inserted payload) = (nothing_stands records, tt)
  card_notices (card_reader.done code payload) = tt
  card_notices card_reader.removed = tt

  keys_notices : (effect : keyboard.Effect) → NoticesStand (keyboard_says effect).events
  keys_notices keyboard.nothing = tt
  keys_notices (keyboard.told key) = (silent records _ refl refl, tt)
  keys_notices (keyboard.ended key payload) = (silent records _ refl refl, tt)
  keys_notices keyboard.failed = tt

  -- what is told at once
  status_stands : (service : Service) (fit : Fit2) → Stands records (status_payload service fit)
  status_stands service fit = silent records (status_payload service fit) refl refl

  capabilities_stands : (service : Service) → Stands records (capabilities_payload service)
  capabilities_stands Publisher = silent records _ refl refl
  capabilities_stands Card = silent records _ refl refl
  capabilities_stands Keys = silent records _ refl refl
  capabilities_stands Cash = silent records _ refl refl

  told_stands : (s : State) (service : Service) (command : Option Immediate) → Stands records (told_of s service command).payload
  told_stands s service None = nothing_stands records
  told_stands s service (Some immediate.Status) = status_stands service (health_of s)
  told_stands s service (Some immediate.Capabilities) = capabilities_stands service
  told_stands s service (Some immediate.Cancel) = nothing_stands records
  told_stands s service (Some immediate.GetServices) = silent records services_payload refl refl
  told_stands s service (Some immediate.GetStorage) = silent records (storage_payload s.seen.guard.units s.seen.guard.places) refl refl
  told_stands s service (Some immediate.GetPresentStatus) = nothing_stands records

  canceling_stands : (q : List (Command Job)) (client : ClientId) (ids : Result (Option (List ℕ)) Shape) → Stands records (canceling q client ids).result.payload
  canceling_stands q client (Err shape) = nothing_stands records
  canceling_stands q client (Ok ids) = go (list_any (is_named client (ids_of ids)) q) _ _
    where
      go : (b : Bool) (x y : List (Command Job)) → Stands records (cond {A = AtOnce} b (record { result = success nothing; queue = x }) (record { result = error NoMatchingRequestIds; queue = y })).result.payload
      go true x y = nothing_stands records
      go false x y = error_stands records _

  at_once_stands : (s : State) (k : Connection) (payload : Data) (command : Option Immediate) → Stands records (done_by s k payload command).result.payload
  at_once_stands s k payload command = by_command s k payload (λ did. Stands records did.result.payload) command
      (λ is. canceling_stands (queue_at s k.service) k.client (request_ids payload)) (told_stands s k.service command)

  presented_stands : (v : View) (text : List ℕ) (result : Outcome) (why : Option EvidenceFault) → TellsUnless v text result why → Stands records result.payload
  presented_stands v text result None tells = rw (tells.is) (silent records (present_status_payload tells.token) refl refl)
  presented_stands v text result (Some NoIssue) tells = rw tells (error_stands records _)
  presented_stands v text result (Some (Unsettled order)) tells = rw tells (error_stands records _)
  presented_stands v text result (Some Memory) tells = absurd tells

  status_of_present_stands : (v : View) (text : Option (List ℕ)) (result : Outcome) → TellsPresented v text result → Stands records result.payload
  status_of_present_stands v None result tells = rw tells (nothing_stands records)
  status_of_present_stands v (Some text) result tells = presented_stands v text result (evidence_refusal v.base (drop v.base v.records)) tells

  comes_stands : (s : State) (k : Connection) (c : envelope.Command) (result : Outcome) → ComesTo s k c result → Stands records result.payload
  comes_stands s k c result comes = go (immediate_of k.service c.name) comes
    where
      go : (command : Option Immediate) → ResultsIn s k c.payload command result → Stands records result.payload
      go None is = rw is (at_once_stands s k c.payload None)
      go (Some immediate.Status) is = rw is (at_once_stands s k c.payload (Some immediate.Status))
      go (Some immediate.Capabilities) is = rw is (at_once_stands s k c.payload (Some immediate.Capabilities))
      go (Some immediate.Cancel) is = rw is (at_once_stands s k c.payload (Some immediate.Cancel))
      go (Some immediate.GetServices) is = rw is (at_once_stands s k c.payload (Some immediate.GetServices))
      go (Some immediate.GetStorage) is = rw is (at_once_stands s k c.payload (Some immediate.GetStorage))
      go (Some immediate.GetPresentStatus) tells = status_of_present_stands s.seen.guard (nonce_in c.payload) result tells

  -- all that waits tells what stands
  abbrev FramesTell : State → Type 0
  FramesTell s = All (λ k. All (TellsRecords records) k.waiting) s.connections

  mailed : (gets : Bool) (frames : List (List ℕ)) (k : Connection) → All (TellsRecords records) frames → All (TellsRecords records) k.waiting → All (TellsRecords records) (with_mail gets frames k).waiting
  mailed true frames k h kept = All-append (TellsRecords records) k.waiting frames kept h
  mailed false frames k h kept = kept

  sent_tell : (s : State) (service : Service) (client : ClientId) (frames : List (List ℕ)) → All (TellsRecords records) frames → FramesTell s → FramesTell (sent s service client frames)
  sent_tell s service client frames h kept = All-map (λ k. All (TellsRecords records) k.waiting) (λ k. with_mail (is_at service client k) frames k) s.connections
      (each (λ k. All (TellsRecords records) k.waiting) (λ k. All (TellsRecords records) (with_mail (is_at service client k) frames k).waiting) (λ k kept_one. mailed (is_at service client k) frames k h kept_one) s.connections kept)

  announced_tell : (s : State) (service : Service) (frame : List ℕ) → TellsRecords records frame → FramesTell s → FramesTell (announced s service (Some frame))
  announced_tell s service frame h kept = All-map (λ k. All (TellsRecords records) k.waiting) (λ k. with_mail (is_service service k.service) (frame ∷ []) k) s.connections
      (each (λ k. All (TellsRecords records) k.waiting) (λ k. All (TellsRecords records) (with_mail (is_service service k.service) (frame ∷ []) k).waiting)
      (λ k kept_one. mailed (is_service service k.service) (frame ∷ []) k (All-cons (TellsRecords records) frame [] h (All-nil (TellsRecords records))) kept_one) s.connections kept)

  announces_tell : (s : State) (service : Service) (ending : Option Ending) (frame : Option (List ℕ)) → Announces ending frame → FramesTell s → FramesTell (announced s service frame)
  announces_tell s service None None is h = h
  announces_tell s service None (Some frame) is h = absurd is
  announces_tell s service (Some ending) None is h = absurd is
  announces_tell s service (Some ending) (Some frame) is h = announced_tell s service frame (unsolicited_tells _ _ frame is (silent records _ refl refl)) h

  hears_tell : (u : State) (service : Service) (a : Command Job) (saying : Saying) (new : State) → NoticesStand saying.events → Hears u service a saying new → FramesTell u → FramesTell new
  hears_tell u service a saying new notices is h = rw (is.is) (sent_tell u service a.client is.events (events_tell a.id saying.events is.events is.are_events notices) h)

module _ (records : List Rec) (s new : State) (h : FramesTell records s) (results : (service : Service) → All (ResultStands records) (queue_at s service)) where
  answers_tell : (service : Service) → AnswersFirst s service new → FramesTell records new
  answers_tell service is =
      let stands_ : ResultStands records is.command = found_all (ResultStands records) (λ b. is_ready b.stage) (queue_at s service) is.command is.first (results service) in
      let last = completion_tells records is.command.id is.command.job.name is.result.code is.result.payload is.last is.completes (rw (is.has) at stands_) in
      rw (is.is) (sent_tell records (announced s service is.before) service is.command.client (is.last ∷ []) (All-cons (TellsRecords records) is.last [] last (All-nil (TellsRecords records)))
      (announces_tell records s service is.result.ending is.before is.announces h))

  takes_nonce : TakesNonce s new → FramesTell records new
  takes_nonce is = by_time (is_due s.now is.command) is.is
    where
      by_time : (b : Bool) → MatchBool b (new ≡ resulting s Cash is.command (plain TimeOut)) (DoesNonce s is.command new) → FramesTell records new
      by_time true late_ = rw late_ h
      by_time false does = rw (does.is) h

  stops : (service : Service) → Stops s service new → FramesTell records new
  stops service is = rw (is.is) (of_device service _ h)
    where
      of_device : (device : Service) (t : State) → FramesTell records t → FramesTell records (device_stopped t device)
      of_device Publisher t talks = talks
      of_device Card t talks = talks
      of_device Keys t talks = talks
      of_device Cash t talks = talks

  begins_as : (service : Service) (a : Command Job) (ask : Ask) → BeginsAs ask s service a new → FramesTell records new
  begins_as service a bad is = rw is h
  begins_as service a (cash ask) is = rw (is.is) h
  begins_as service a (card ask) is = let row = card_reader.row_of s.slot (card_event.Begin ask) in hears_tell records (with_slot s row.next) service a (card_says row.effect) new (card_notices records row.effect) is h
  begins_as service a (entry ask) is = let row = keyboard.row_of s.keypad (key_event.Begin ask) in hears_tell records (with_keypad s row.next) service a (keyboard_says row.effect) new (keys_notices records row.effect) is h
  begins_as service a issue is = absurd is
  begins_as service a clear is = absurd is

  does : (case : working.Case) (service : Service) → Does case s service new → FramesTell records new
  does working.order service is = rw (is.is) h
  does working.expire service is = rw (is.is) (announces_tell records s Cash is.ending is.frame is.announces h)
  does working.answer service is = answers_tell service is
  does working.nonce service is = takes_nonce is
  does working.overdue service is = rw (is.is) h
  does working.stop service is = stops service is
  does working.go_on service is = rw (is.is) h
  does working.begin service is = begins_as service is.command is.command.job.ask is.begins
  does working.rest service is = rw is h

  is_heard : (service : Service) (o : Option (Command Job)) (saying : Saying) → NoticesStand records saying.events → IsHeard s service o saying new → FramesTell records new
  is_heard service None saying notices is = rw is h
  is_heard service (Some a) saying notices is = hears_tell records s service a saying new notices is h

  card_says_ : (effect : card_reader.Effect) → CardSays s effect new → FramesTell records new
  card_says_ card_reader.removed is = rw (is.2) (announced_tell records s Card is.0 (unsolicited_tells records _ _ is.0 is.1 (nothing_stands records)) h)
  card_says_ card_reader.nothing is = is_heard Card (running_at s Card) (card_says card_reader.nothing) (card_notices records card_reader.nothing) is
  card_says_ card_reader.ask_insert is = is_heard Card (running_at s Card) (card_says card_reader.ask_insert) (card_notices records card_reader.ask_insert) is
  card_says_ (card_reader.inserted payload) is = is_heard Card (running_at s Card) (card_says (card_reader.inserted payload)) (card_notices records (card_reader.inserted payload)) is
  card_says_ (card_reader.done code payload) is = is_heard Card (running_at s Card) (card_says (card_reader.done code payload)) (card_notices records (card_reader.done code payload)) is

  one_frame : (frame : List ℕ) → TellsRecords records frame → All (TellsRecords records) (frame ∷ [])
  one_frame frame tells = All-cons (TellsRecords records) frame [] tells (All-nil (TellsRecords records))

  refuses : (k : Connection) (id : Option ℕ) (name : Option (List ℕ)) (why : Status) → Refuses s k id name why new → FramesTell records new
  refuses k id name why is = rw (is.is) (sent_tell records s k.service k.client (is.reply ∷ []) (one_frame is.reply (acknowledge_tells records id name (Some why) is.reply is.acknowledges)) h)

  takes_on : (k : Connection) (c : envelope.Command) (known : Option Known) → TakesOn s k c known new → FramesTell records new
  takes_on k c None is =
      let last = completion_tells records c.id c.name _ _ is.last is.completes (comes_stands records s k c is.result is.comes) in
      rw (is.is) (sent_tell records s k.service k.client (is.reply ∷ is.last ∷ [])
      (All-cons (TellsRecords records) is.reply (is.last ∷ []) (acknowledge_tells records _ _ _ is.reply is.acknowledges) (one_frame is.last last)) h)
  takes_on k c (Some known) is = of_room (is_crowded (queue_at s k.service) k.client) is
    where
      of_room : (b : Bool) → MatchBool b (Refuses s k (Some c.id) (Some c.name) TooManyRequests new) (Accepts s k known c new) → FramesTell records new
      of_room true is = refuses k _ _ _ is
      of_room false is = rw (is.is) (sent_tell records s k.service k.client (is.reply ∷ []) (one_frame is.reply (acknowledge_tells records _ _ _ is.reply is.acknowledges)) h)

  takes : (k : Connection) (says : Result envelope.Command Refuse) → TakesText s k says new → FramesTell records new
  takes k (Err refuse) is = refuses k _ _ _ is
  takes k (Ok c) is = of_id (is_wrong_id (pending_in k.client (queue_at s k.service)) c.id) is
    where
      of_id : (b : Bool) → MatchBool b (Refuses s k (Some c.id) (Some c.name) InvalidRequestId new) (TakesOn s k c (known_of k.service c.name) new) → FramesTell records new
      of_id true is = refuses k _ _ _ is
      of_id false is = takes_on k c (known_of k.service c.name) is

notes_taken : (records : List Rec) (s : State) (told_ : Answer) (new : State) → TakesNotes s told_ new → FramesTell records s → FramesTell records new
notes_taken records s told_ new (shut closed) h = h
notes_taken records s told_ new (took moved next open_ takes_) h = h
notes_taken records s told_ new (failed moved next open_ takes_) h = h

module _ (records : List Rec) (old new : State) (h : FramesTell records old) (results : (service : Service) → All (ResultStands records) (queue_at old service)) where
  touches : (touched : Touch) (told_ : Answer) → Touches old touched told_ new → FramesTell records new
  touches (CardIn tracks) told_ is = let row = card_reader.row_of old.slot (card_event.Inserted tracks) in card_says_ records (with_slot old row.next) new h results row.effect is.1
  touches CardTaken told_ is = let row = card_reader.row_of old.slot card_event.Removed in card_says_ records (with_slot old row.next) new h results row.effect is.1
  touches CardFault told_ is = let row = card_reader.row_of old.slot card_event.Fault in card_says_ records (with_slot old row.next) new h results row.effect is.1
  touches (Key key) told_ is = let row = keyboard.row_of old.keypad (key_event.Key key) in is_heard records (with_keypad old row.next) new h results Keys (running_at old Keys) (keyboard_says row.effect) (keys_notices records row.effect) is.1
  touches KeyFault told_ is = let row = keyboard.row_of old.keypad key_event.Fault in is_heard records (with_keypad old row.next) new h results Keys (running_at old Keys) (keyboard_says row.effect) (keys_notices records row.effect) is.1
  touches NotesTaken told_ is = notes_taken records old told_ new is h

  posts : (pass : Pass) (text : List ℕ) (now : Moment) → Posts old pass text now new → FramesTell records new
  posts pass text now is = go (connection_of old pass) is
    where
      go : (o : Option Connection) → MatchOption o (new ≡ old) (λ k. TakesText (at_moment old now) k (command_in text) new) → FramesTell records new
      go None is = rw is h
      go (Some k) is = takes records (at_moment old now) new h results k (command_in text) is

  emptied : (b : Bool) (k : Connection) → All (TellsRecords records) k.waiting → All (TellsRecords records) (cond b (record k { waiting = [] }) k).waiting
  emptied true k kept = All-nil (TellsRecords records)
  emptied false k kept = kept

  hands : (pass : Pass) (frames : List (List ℕ)) → HandsOver old pass frames new → FramesTell records new
  hands pass frames is = go (connection_of old pass) is
    where
      go : (o : Option Connection) → MatchOption o ((frames ≡ []) × (new ≡ old)) (λ k. (frames ≡ k.waiting) × (new ≡ record old { connections = map (without_mail k.client) old.connections })) → FramesTell records new
      go None is = rw (is.1) h
      go (Some k) is = rw (is.1) (All-map (λ j. All (TellsRecords records) j.waiting) (without_mail k.client) old.connections
          (each (λ j. All (TellsRecords records) j.waiting) (λ j. All (TellsRecords records) (without_mail k.client j).waiting) (λ j kept. emptied (is_client k.client j) j kept) old.connections h))

  leaves : (pass : Pass) → DropsClient old pass new → FramesTell records new
  leaves pass is = go (connection_of old pass) is
    where
      go : (o : Option Connection) → MatchOption o (new ≡ old) (λ k. new ≡ left old k) → FramesTell records new
      go None is = rw is h
      go (Some k) is = rw is (All-filter (λ j. not (is_client k.client j)) (λ j. All (TellsRecords records) j.waiting) old.connections h)

  frames_by : (event : Event) (told_ : Answer) → Happens old event told_ new → FramesTell records new
  frames_by (join service) (joined pass) is = rw (is.is) (All-push (λ j. All (TellsRecords records) j.waiting) old.connections _ h (All-nil (TellsRecords records)))
  frames_by (join service) full is = rw (is.1) h
  frames_by (post pass text now) done is = posts pass text now is
  frames_by (touch it) told_ is = touches it told_ is
  frames_by (work service now) told_ is = does records (at_moment old now) new h results (case_of (at_moment old now) service) service is.1
  frames_by (outbox pass) (handed frames) is = hands pass frames is
  frames_by (leave pass) done is = leaves pass is
  frames_by restart restarted is = rw (is.is) (All-nil (λ j. All (TellsRecords records) j.waiting))
  frames_by restart unrestarted is = rw (is.is) (All-nil (λ j. All (TellsRecords records) j.waiting))
  frames_by end_ ended is = rw is (All-nil (λ j. All (TellsRecords records) j.waiting))
  frames_by finish ended is = rw (is.is) (All-nil (λ j. All (TellsRecords records) j.waiting))
  frames_by finish unsettled is = rw (is.is) (All-nil (λ j. All (TellsRecords records) j.waiting))
  frames_by event told_ is = absurd is

  frames_after_step : (event : Event) (told_ : Answer) → Step old event told_ new → FramesTell records new
  frames_after_step event told_ (happens up is) = frames_by event told_ is
  frames_after_step event told_ (wanting is_memory wants) = let u = unmoved old new event wants in rw (u.is) h

-- what tells of a list tells of a longer one
longer_payload : (old new : List Rec) → BeginsWith new old → (o : Option Data) → IfSome o (Stands old) → IfSome o (Stands new)
longer_payload old new e None h = tt
longer_payload old new e (Some payload) h = longer_stands old new e payload h

pub longer_tells : (old new : List Rec) → BeginsWith new old → (frame : List ℕ) → TellsRecords old frame → TellsRecords new frame
longer_tells old new e frame h = longer_payload old new e (option_and_then payload_in (reply_in frame)) h

longer_result : (old new : List Rec) → BeginsWith new old → (a : Command Job) → ResultStands old a → ResultStands new a
longer_result old new e a h = go a.job.outcome h
  where
    go : (o : Option Outcome) → IfSome o (λ (r : Outcome). Stands old r.payload) → IfSome o (λ (r : Outcome). Stands new r.payload)
    go None h = tt
    go (Some r) h = longer_stands old new e r.payload h

-- Each step keeps what was told of the journal, where its list has a mark.
pub told_kept : (old new : State) (event : Event) (told_ : Answer) → IsMachine old → AllFit old → HasMark old.seen → Step old event told_ new → IsTold old → IsTold new
told_kept old new event told_ machine fit mark is h =
    let grown = (advances old new event told_ is).records in
    let before = old.seen.guard.records in
    let after = new.seen.guard.records in
    let results = λ (service : Service). each (ResultStands before) (ResultStands after) (longer_result before after grown) (queue_at old service) (h.results service) in
    let frames = each (λ (k : Connection). All (TellsRecords before) k.waiting) (λ k. All (TellsRecords after) k.waiting) (λ k told_one. each (TellsRecords before) (TellsRecords after) (longer_tells before after grown) k.waiting told_one) old.connections h.frames in
    record {
      frames = frames_after_step after old new frames results event told_ is;
      results = λ service. each (Turn (at_event old event) event new (ResultStands after) service) (ResultStands after)
          (λ b turn. turn_tells (at_event old event) event new service b (subst HasMark (sym (seen_at old event)) mark) (subst (λ (x : Seen). BeginsWith after x.guard.records) (sym (seen_at old event)) grown) turn)
          (queue_at new service) (turns (λ b. ResultStands after) old machine fit results event told_ new is service);
    }

-- what holds of every connection holds of the one that is open for a pass
open_all : (s : State) (pass : Pass) (k : Connection) (b : Bool) → cond b (connection_at s pass.client) None ≡ Some k → All (λ j. All (TellsRecords s.seen.guard.records) j.waiting) s.connections → All (TellsRecords s.seen.guard.records) k.waiting
open_all s pass k true found h = found_all (λ j. All (TellsRecords s.seen.guard.records) j.waiting) (is_client pass.client) s.connections k found h
open_all s pass k false found h = absurd (none-some k found)

-- what a client is handed tells what stands
pub handed_tell : (old new : State) (pass : Pass) (frames : List (List ℕ)) → Step old (outbox pass) (handed frames) new → IsTold old → All (TellsRecords old.seen.guard.records) frames
handed_tell old new pass frames (happens up is) h = go (connection_of old pass) refl is
  where
    go : (o : Option Connection) → connection_of old pass ≡ o → MatchOption o ((frames ≡ []) × (new ≡ old)) (λ k. (frames ≡ k.waiting) × (new ≡ record old { connections = map (without_mail k.client) old.connections })) → All (TellsRecords old.seen.guard.records) frames
    go None none is = rw (is.0) (All-nil (TellsRecords old.seen.guard.records))
    go (Some k) found is = rw (is.0) (open_all old pass k (old.boot == pass.boot) found h.frames)
handed_tell old new pass frames (wanting is_memory wants) h = absurd wants

-- nothing was told yet
pub bare_told : (seen : Seen) (life boot : ℕ) → IsTold (bare seen life boot)
bare_told seen life boot = record { frames = All-nil _; results = results }
  where
    results : (service : Service) → All (ResultStands seen.guard.records) (queue_at (bare seen life boot) service)
    results Publisher = All-nil _
    results Card = All-nil _
    results Keys = All-nil _
    results Cash = All-nil _
