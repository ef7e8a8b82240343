-- What the payloads of results tell of the journal.
use Rattle.std.proofs.Common.{◌≡◌, ℕ, Bool, true, false, cond, List, [], ◌∷◌, Option, None, Some, Result, Ok, Err, refl, sym, subst, inl, inr}
use Rattle.std.specs.Prelude.{codes}
use Rattle.std.specs.Option.{IfSome}
use Rattle.serde_json.specs.Data.{Data, no_members, number, object, unsigned}
use Rattle.serde_json.specs.Find.{get}
use Rattle.xfs_base.specs.declared.counts.Counts.{Counts}
use Rattle.xfs_base.specs.declared.money.NoteKind.{NoteKind}
use Rattle.xfs_card.specs.Slot.{Slot, empty, awaited, inside, at_exit}
use Rattle.xfs_card.specs.Table as card_reader
use Rattle.xfs_card.specs.Tracks.{is_asked, told_if, tracks_payload}
use Rattle.xfs_card.specs.declared.ask.CardAsk.TheVariants as card_ask
use Rattle.xfs_card.specs.declared.state.CardEvent.{CardEvent}
use Rattle.xfs_card.specs.declared.state.CardEvent.TheVariants as card_event
use Rattle.xfs_common.specs.Payloads.{error_payload, nothing, only}
use Rattle.xfs_dispenser.specs.Answers.{CashAnswer, Start, told, planned, Went, more, done, answer_of, denial, plain_answer}
use Rattle.xfs_dispenser.specs.Begins.{Begins, StartsRefused, StartsUnless, StartsWith}
use Rattle.xfs_dispenser.specs.Seen.{Seen}
use Rattle.xfs_dispenser.specs.Steps.{DoesFirst, DoesPart, IsDenied, Works, WorksOn, onward, settled}
use Rattle.xfs_dispenser.specs.declared.ask.CashAsk.{CashAsk}
use Rattle.xfs_dispenser.specs.declared.ask.CashAsk.TheVariants.{Denominate, Dispense, Present, Reject, Reset, Retract, StartExchange, SetStorage, EndExchange}
use Rattle.xfs_dispenser.specs.declared.part.Part.{Part}
use Rattle.xfs_dispenser.specs.declared.part.Part.TheVariants.{Order, Restore, Load, Note}
use Rattle.xfs_dispenser.specs.declared.plan.Plan.{Plan}
use Rattle.xfs_dispenser.specs.declared.refusal.Refusal.{Refusal}
use Rattle.xfs_dispenser.specs.declared.refusal.Refusal.TheVariants as refusal
use Rattle.xfs_envelope.specs.Messages.{with_if}
use Rattle.xfs_envelope.specs.declared.code.Code.TheVariants.{HardwareError}
use Rattle.xfs_keyboard.specs.Entries.{Entry, completion, is_ignored, typed}
use Rattle.xfs_keyboard.specs.Keyboard as keyboard
use Rattle.xfs_keyboard.specs.declared.state.KeyEvent.{KeyEvent}
use Rattle.xfs_keyboard.specs.declared.state.KeyEvent.TheVariants as key_event
use Rattle.xfs_mech.specs.Tracks.{CardTracks}
use Rattle.xfs_guard.specs.Fits.{unfit}
use Rattle.xfs_guard.specs.Upheld.{IsMarkAt}
use Rattle.xfs_guard.specs.View.{View}
use Rattle.xfs_guard.specs.declared.deny.Deny.{Deny}
use Rattle.xfs_guard.specs.declared.deny.Deny.TheVariants.{Shut, Full, TooLong, KeyNoValue, Format, NoNonce, WrongNonce, WrongMac, NoAmounts, OtherBound, NotEmpty, OverBudget, Unbound, Nothing, OutletFull, Short, Disk, Memory}
use Rattle.xfs_guard.specs.declared.open.Open.{Open}
use Rattle.xfs_guard.specs.declared.open.Open.TheVariants.{No, Written, Acted}
use Rattle.xfs_journal.specs.Journal.{last_mark}
use Rattle.xfs_journal.specs.declared.record.Rec.{Rec}
use Rattle.xfs_guard.specs.Lives.{BeginsWith}
use Rattle.xfs_guard.proofs.MarkLaws.{mark-begun, still-begun}
use Rattle.xfs_model.specs.Devices.{Saying, card_says, keyboard_says}
use Rattle.xfs_model.specs.State.{Outcome}
use Rattle.xfs_model.proofs.Denials.{IsGood, Since, SinceMark, active_good, denominate_good, inactive_good, grant_good, of_some, own_since, refusal_since, storage_good, unfit_since}
use Rattle.xfs_model.specs.Told.{IsIssueText, IsMarkNumber, Stands}

-- a payload that tells nothing of the journal
pub silent : (records : List Rec) (payload : Data) → get (codes "commandNonce") payload ≡ None → get (codes "journalRecord") payload ≡ None → Stands records payload
silent records payload no_nonce no_mark = record { nonce = rw no_nonce tt; mark = rw no_mark tt }

pub nothing_stands : (records : List Rec) → Stands records nothing
nothing_stands records = silent records nothing refl refl

pub error_stands : (records : List Rec) (code : List ℕ) → Stands records (error_payload code)
error_stands records code = silent records (error_payload code) refl refl

-- the mark of a record's number
pub mark_stands : (records : List Rec) (since : ℕ) → IsMarkAt records (last_mark records) → since ≡ last_mark records → Stands records (only (codes "journalRecord") (number (unsigned since)))
mark_stands records since stands is = record { nonce = tt; mark = record { place = since; stands = rw is stands; is = refl } }

-- what stood in a list stands in a longer one
longer_issue : (old new : List Rec) → BeginsWith new old → (d : Data) → IsIssueText old d → IsIssueText new d
longer_issue old new e d is = record { place = is.place; issue = is.issue; word = is.word; stands = still-begun new old _ is.place e is.stands; is = is.is }

longer_mark : (old new : List Rec) → BeginsWith new old → (d : Data) → IsMarkNumber old d → IsMarkNumber new d
longer_mark old new e d is = record { place = is.place; stands = mark-begun new old is.place e is.stands; is = is.is }

of_option : {X : Type 0} (P Q : X → Type 0) → ((x : X) → P x → Q x) → (o : Option X) → IfSome o P → IfSome o Q
of_option P Q step None h = tt
of_option P Q step (Some x) h = step x h

pub longer_stands : (old new : List Rec) → BeginsWith new old → (payload : Data) → Stands old payload → Stands new payload
longer_stands old new e payload s = record {
  nonce = of_option (IsIssueText old) (IsIssueText new) (longer_issue old new e) (get (codes "commandNonce") payload) s.nonce;
  mark = of_option (IsMarkNumber old) (IsMarkNumber new) (longer_mark old new e) (get (codes "journalRecord") payload) s.mark;
}

-- the answer of a refusal
abbrev AnswerStands : List Rec → Option CashAnswer → Type 0
AnswerStands records o = IfSome o (λ (a : CashAnswer). Stands records a.payload)

denial_stands : (records : List Rec) → IsMarkAt records (last_mark records) → (deny : Deny) → SinceMark records deny → AnswerStands records (denial deny)
denial_stands records mark Shut h = nothing_stands records
denial_stands records mark Full h = nothing_stands records
denial_stands records mark Disk h = nothing_stands records
denial_stands records mark TooLong h = nothing_stands records
denial_stands records mark (KeyNoValue place) h = nothing_stands records
denial_stands records mark (Format place) h = nothing_stands records
denial_stands records mark (NoNonce since) h = mark_stands records since mark h
denial_stands records mark (WrongNonce since) h = mark_stands records since mark h
denial_stands records mark (WrongMac due) h = nothing_stands records
denial_stands records mark NoAmounts h = nothing_stands records
denial_stands records mark (OtherBound since) h = nothing_stands records
denial_stands records mark (NotEmpty notes) h = nothing_stands records
denial_stands records mark (OverBudget currency left) h = nothing_stands records
denial_stands records mark (Unbound since) h = nothing_stands records
denial_stands records mark Nothing h = error_stands records _
denial_stands records mark (OutletFull notes) h = nothing_stands records
denial_stands records mark (Short unit) h = error_stands records _
denial_stands records mark Memory h = tt

abbrev RefusalMark : List Rec → Refusal → Type 0
RefusalMark records (refusal.Deny deny) = SinceMark records deny
RefusalMark records other = Unit {0}

refusal_stands : (records : List Rec) → IsMarkAt records (last_mark records) → (r : Refusal) → RefusalMark records r → AnswerStands records (answer_of r)
refusal_stands records mark refusal.InvalidData h = nothing_stands records
refusal_stands records mark refusal.NoToken h = nothing_stands records
refusal_stands records mark (refusal.Error code) h = error_stands records _
refusal_stands records mark (refusal.Deny deny) h = denial_stands records mark deny h
refusal_stands records mark refusal.Memory h = tt

-- what a step of a plan, or a begin, has come to
abbrev pub WentStands : List Rec → Went → Type 0
WentStands records more = Unit {0}
WentStands records (done a) = Stands records a.payload

abbrev pub StartStands : List Rec → Start → Type 0
StartStands records (told a) = Stands records a.payload
StartStands records (planned plan) = Unit {0}

onward_stands : (records : List Rec) (units : List NoteKind) (notes : Option Counts) (parts : List Part) → WentStands records (onward units notes parts)
onward_stands records units None [] = nothing_stands records
onward_stands records units (Some counts) [] = silent records _ refl refl
onward_stands records units notes (part ∷ parts) = tt

settled_stands : (records : List Rec) (units : List NoteKind) (plan : Plan) (failed : Bool) → WentStands records (settled units plan failed)
settled_stands records units plan true = nothing_stands records
settled_stands records units plan false = onward_stands records units plan.notes plan.parts.items

went_is : (records : List Rec) (went other : Went) → went ≡ other → WentStands records other → WentStands records went
went_is records went other e h = subst (WentStands records) (sym e) h

denied_stands : (s : Seen) (first : Option Deny) (next : Seen) (went : Went) → IsMarkAt s.guard.records (last_mark s.guard.records) → Since s.guard.records first → IsDenied s first next went → WentStands s.guard.records went
denied_stands s first next went mark since is =
    went_is s.guard.records went (done is.answer) is.is
    (of_some (λ (a : CashAnswer). Stands s.guard.records a.payload) (denial is.deny) is.answer is.due (denial_stands s.guard.records mark is.deny (of_some (SinceMark s.guard.records) first is.deny is.first since)))

load_stands : (records : List Rec) (units : List NoteKind) (notes : Option Counts) (parts : List Part) (failed : Bool) → WentStands records (cond {A = Went} failed (done (plain_answer HardwareError)) (onward units notes parts))
load_stands records units notes parts true = nothing_stands records
load_stands records units notes parts false = onward_stands records units notes parts

part_stands : (part : Part) (rest : List Part) (s : Seen) (plan : Plan) (next : Seen) (left : Plan) (went : Went) → IsMarkAt s.guard.records (last_mark s.guard.records) → DoesPart part rest s plan next left went → WentStands s.guard.records went
part_stands (Order ask) rest s plan next left went mark (inl is) = went_is s.guard.records went more is.2 tt
part_stands (Order ask) rest s plan next left went mark (inr (kept, inl d)) = denied_stands s _ next went mark (refusal_since s.guard ask) d
part_stands (Order ask) rest s plan next left went mark (inr (kept, inr u)) = went_is s.guard.records went _ u.is (nothing_stands s.guard.records)
part_stands Restore rest s plan next left went mark (inl is) = went_is s.guard.records went _ is.is (onward_stands s.guard.records s.guard.units plan.notes _)
part_stands Restore rest s plan next left went mark (inr is) = went_is s.guard.records went _ is.1 (nothing_stands s.guard.records)
part_stands (Load unit count) rest s plan next left went mark is = went_is s.guard.records went _ is.is (load_stands s.guard.records s.guard.units plan.notes rest is.outcome.failed)
part_stands (Note unit count) rest s plan next left went mark (inl is) = went_is s.guard.records went _ is.2 (onward_stands s.guard.records s.guard.units plan.notes rest)
part_stands (Note unit count) rest s plan next left went mark (inr (kept, inl d)) = denied_stands s _ next went mark (unfit_since s.guard) d
part_stands (Note unit count) rest s plan next left went mark (inr (kept, inr u)) = went_is s.guard.records went _ u.is (nothing_stands s.guard.records)

pub works_stands : (s : Seen) (plan : Plan) (next : Seen) (left : Plan) (went : Went) → IsMarkAt s.guard.records (last_mark s.guard.records) → Works s plan next left went → WentStands s.guard.records went
works_stands s plan next left went mark is = go s.guard.open_order is
  where
    first : (parts : List Part) → DoesFirst parts s plan next left went → WentStands s.guard.records went
    first [] is = absurd is
    first (part ∷ rest) is = part_stands part rest s plan next left went mark is

    go : (o : Open) → WorksOn o s plan next left went → WentStands s.guard.records went
    go (Written kind counts) is = went_is s.guard.records went more is.is tt
    go (Acted kind moved diverted failed) (kept, inl i) = went_is s.guard.records went _ i.is (settled_stands s.guard.records s.guard.units plan failed)
    go (Acted kind moved diverted failed) (kept, inr u) = went_is s.guard.records went _ u.is (nothing_stands s.guard.records)
    go No is = first plan.parts.items is

-- each refusal names the last mark, where it names a record
marks_good : (v : View) → IsGood v (RefusalMark v.records)
marks_good v = record {
  invalid = tt;
  no_token = tt;
  error = λ code. tt;
  barred = λ deny e. of_some (SinceMark v.records) (unfit v) deny e (unfit_since v);
  own = λ deny own. own_since v.records deny own;
}

start_is : (records : List Rec) (start other : Start) → start ≡ other → StartStands records other → StartStands records start
start_is records start other e h = subst (StartStands records) (sym e) h

told_stands : (records : List Rec) → IsMarkAt records (last_mark records) → (r : Refusal) (start : Start) → RefusalMark records r → StartsRefused r start → StartStands records start
told_stands records mark r start h is = start_is records start (told is.answer) is.is (of_some (λ (a : CashAnswer). Stands records a.payload) (answer_of r) is.answer is.due (refusal_stands records mark r h))

unless_stands : (records : List Rec) → IsMarkAt records (last_mark records) → (o : Option Refusal) (otherwise start : Start) → IfSome o (RefusalMark records) → StartStands records otherwise → StartsUnless o otherwise start → StartStands records start
unless_stands records mark None otherwise start h own is = start_is records start otherwise is own
unless_stands records mark (Some r) otherwise start h own is = told_stands records mark r start h is

with_stands : {T : Type 0} (records : List Rec) → IsMarkAt records (last_mark records) → (result : Result T Refusal) (begun : T → Start) (start : Start) → ((r : Refusal) → result ≡ Err r → RefusalMark records r) → ((x : T) → StartStands records (begun x))
    → StartsWith result begun start → StartStands records start
with_stands records mark (Ok x) begun start h own is = start_is records start (begun x) is (own x)
with_stands records mark (Err r) begun start h own is = told_stands records mark r start (h r refl) is

pub begins_stands : (s : Seen) (exchange : Bool) (ask : CashAsk) (next : Seen) (after : Bool) (start : Start) → IsMarkAt s.guard.records (last_mark s.guard.records) → Begins s exchange ask next after start → StartStands s.guard.records start
begins_stands s exchange (Denominate notes) next after start mark is =
    with_stands s.guard.records mark is.2.given _ start (denominate_good s.guard (RefusalMark s.guard.records) (marks_good s.guard) notes is.2.given is.2.checks) (λ counts. silent s.guard.records _ refl refl) is.2.starts
begins_stands s exchange (Dispense notes token) next after start mark is =
    with_stands s.guard.records mark is.1.grant _ start (grant_good s (RefusalMark s.guard.records) (marks_good s.guard) next (λ rose. tt) exchange notes token is.1.checked is.1.grant is.1.checks is.1.permits) (λ l. tt) is.1.starts
begins_stands s exchange Present next after start mark is = unless_stands s.guard.records mark _ _ start (active_good s.guard (RefusalMark s.guard.records) (marks_good s.guard) exchange) tt is.2
begins_stands s exchange Reject next after start mark is = unless_stands s.guard.records mark _ _ start (active_good s.guard (RefusalMark s.guard.records) (marks_good s.guard) exchange) tt is.2
begins_stands s exchange Retract next after start mark is = unless_stands s.guard.records mark _ _ start (active_good s.guard (RefusalMark s.guard.records) (marks_good s.guard) exchange) tt is.2
begins_stands s exchange Reset next after start mark is = unless_stands s.guard.records mark _ _ start (active_good s.guard (RefusalMark s.guard.records) (marks_good s.guard) exchange) tt is.2
begins_stands s exchange StartExchange next after start mark is = unless_stands s.guard.records mark _ _ start (active_good s.guard (RefusalMark s.guard.records) (marks_good s.guard) exchange) (nothing_stands s.guard.records) is.1.1
begins_stands s exchange EndExchange next after start mark is = unless_stands s.guard.records mark _ _ start (inactive_good s.guard (RefusalMark s.guard.records) (marks_good s.guard) exchange) (nothing_stands s.guard.records) is.1.1
begins_stands s exchange (SetStorage added) next after start mark is =
    with_stands s.guard.records mark is.2.checked _ start (storage_good s.guard (RefusalMark s.guard.records) (marks_good s.guard) exchange added is.2.checked is.2.checks) (λ counts. tt) is.2.starts

-- the devices tell nothing of the journal
no_nonce : (a b c : Option Data) → get (codes "commandNonce") (object (with_if (codes "track1") a (with_if (codes "track2") b (with_if (codes "track3") c no_members)))) ≡ None
no_nonce None None None = refl
no_nonce None None (Some c) = refl
no_nonce None (Some b) None = refl
no_nonce None (Some b) (Some c) = refl
no_nonce (Some a) None None = refl
no_nonce (Some a) None (Some c) = refl
no_nonce (Some a) (Some b) None = refl
no_nonce (Some a) (Some b) (Some c) = refl

no_record : (a b c : Option Data) → get (codes "journalRecord") (object (with_if (codes "track1") a (with_if (codes "track2") b (with_if (codes "track3") c no_members)))) ≡ None
no_record None None None = refl
no_record None None (Some c) = refl
no_record None (Some b) None = refl
no_record None (Some b) (Some c) = refl
no_record (Some a) None None = refl
no_record (Some a) None (Some c) = refl
no_record (Some a) (Some b) None = refl
no_record (Some a) (Some b) (Some c) = refl

tracks_stand : (records : List Rec) (asked_for : List Bool) (card : CardTracks) → Stands records (tracks_payload asked_for card)
tracks_stand records asked_for card = silent records (tracks_payload asked_for card)
    (no_nonce (told_if (is_asked asked_for 0) card.one) (told_if (is_asked asked_for 1) card.two) (told_if (is_asked asked_for 2) card.three))
    (no_record (told_if (is_asked asked_for 0) card.one) (told_if (is_asked asked_for 1) card.two) (told_if (is_asked asked_for 2) card.three))

-- the result that a device says
abbrev pub SayingStands : List Rec → Saying → Type 0
SayingStands records saying = IfSome saying.result (λ (r : Outcome). Stands records r.payload)

pub card_stands : (records : List Rec) (slot : Slot) (event : CardEvent) → SayingStands records (card_says (card_reader.row_of slot event).effect)
card_stands records empty (card_event.Begin (card_ask.Read asked_for)) = tt
card_stands records (awaited before) (card_event.Begin (card_ask.Read asked_for)) = tt
card_stands records (inside card) (card_event.Begin (card_ask.Read asked_for)) = tracks_stand records asked_for card
card_stands records at_exit (card_event.Begin (card_ask.Read asked_for)) = nothing_stands records
card_stands records empty (card_event.Begin card_ask.Move) = error_stands records _
card_stands records (awaited before) (card_event.Begin card_ask.Move) = error_stands records _
card_stands records (inside card) (card_event.Begin card_ask.Move) = nothing_stands records
card_stands records at_exit (card_event.Begin card_ask.Move) = error_stands records _
card_stands records empty (card_event.Begin card_ask.Reset) = nothing_stands records
card_stands records (awaited before) (card_event.Begin card_ask.Reset) = nothing_stands records
card_stands records (inside card) (card_event.Begin card_ask.Reset) = nothing_stands records
card_stands records at_exit (card_event.Begin card_ask.Reset) = nothing_stands records
card_stands records empty (card_event.Inserted card) = tt
card_stands records (awaited before) (card_event.Inserted card) = tracks_stand records before card
card_stands records (inside before) (card_event.Inserted card) = tt
card_stands records at_exit (card_event.Inserted card) = tt
card_stands records empty card_event.Removed = tt
card_stands records (awaited before) card_event.Removed = tt
card_stands records (inside before) card_event.Removed = tt
card_stands records at_exit card_event.Removed = tt
card_stands records empty card_event.Fault = tt
card_stands records (awaited before) card_event.Fault = nothing_stands records
card_stands records (inside before) card_event.Fault = tt
card_stands records at_exit card_event.Fault = tt
card_stands records empty card_event.Stop = tt
card_stands records (awaited before) card_event.Stop = tt
card_stands records (inside before) card_event.Stop = tt
card_stands records at_exit card_event.Stop = tt

pub keys_stand : (records : List Rec) (slot : Option Entry) (event : KeyEvent) → SayingStands records (keyboard_says (keyboard.row_of slot event).effect)
keys_stand records before (key_event.Begin ask) = tt
keys_stand records None (key_event.Key key) = tt
keys_stand records None key_event.Fault = tt
keys_stand records None key_event.Stop = tt
keys_stand records (Some e) (key_event.Key key) = go (is_ignored key e)
  where
    behind : (o : Option (List ℕ)) → SayingStands records (keyboard_says (keyboard.behind_key e.ask key (typed key e.digits) o).effect)
    behind None = tt
    behind (Some completed) = silent records _ refl refl

    go : (b : Bool) → SayingStands records (keyboard_says (cond {A = keyboard.Row} b (keyboard.row keyboard.nothing (Some e)) (keyboard.behind_key e.ask key (typed key e.digits) (completion e.ask key (typed key e.digits)))).effect)
    go true = tt
    go false = behind (completion e.ask key (typed key e.digits))
keys_stand records (Some e) key_event.Fault = nothing_stands records
keys_stand records (Some e) key_event.Stop = tt
