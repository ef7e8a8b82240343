-- The devices never answer that a command was canceled, or that its time was over.
use Rattle.std.proofs.Common.{◌≡◌, Bool, true, false, cond, List, [], ◌∷◌, Option, None, Some, Result, Ok, Err, refl, sym, subst, inl, inr}
use Rattle.std.specs.Option.{IfSome}
use Rattle.xfs_base.specs.declared.counts.Counts.{Counts}
use Rattle.xfs_base.specs.declared.money.NoteKind.{NoteKind}
use Rattle.xfs_card.specs.Slot.{Slot, empty, awaited, inside, at_exit}
use Rattle.xfs_card.specs.Table as card_reader
use Rattle.xfs_card.specs.declared.ask.CardAsk.TheVariants.{Read, Move, Reset as ResetCard}
use Rattle.xfs_card.specs.declared.state.CardEvent.{CardEvent}
use Rattle.xfs_card.specs.declared.state.CardEvent.TheVariants.{Begin, Inserted, Removed, Fault, Stop}
use Rattle.xfs_dispenser.specs.Answers.{CashAnswer, Start, told, planned, Went, more, done, denial, answer_of, plain_answer}
use Rattle.xfs_dispenser.specs.Begins.{Begins, StartsRefused, StartsUnless, StartsWith}
use Rattle.xfs_dispenser.specs.Seen.{Seen}
use Rattle.xfs_dispenser.specs.Steps.{DoesFirst, DoesPart, IsDenied, Works, WorksOn, onward, settled}
use Rattle.xfs_dispenser.specs.declared.ask.CashAsk.{CashAsk}
use Rattle.xfs_dispenser.specs.declared.ask.CashAsk.TheVariants.{Denominate, Dispense, Present, Reject, Reset, Retract, StartExchange, SetStorage, EndExchange}
use Rattle.xfs_dispenser.specs.declared.part.Part.{Part}
use Rattle.xfs_dispenser.specs.declared.part.Part.TheVariants.{Order, Restore, Load, Note}
use Rattle.xfs_dispenser.specs.declared.plan.Plan.{Plan}
use Rattle.xfs_dispenser.specs.declared.refusal.Refusal.{Refusal}
use Rattle.xfs_dispenser.specs.declared.refusal.Refusal.TheVariants as refusal
use Rattle.xfs_envelope.specs.declared.code.Code.{Code}
use Rattle.xfs_envelope.specs.declared.code.Code.TheVariants.{Canceled, TimeOut, HardwareError}
use Rattle.xfs_guard.specs.declared.deny.Deny.{Deny}
use Rattle.xfs_guard.specs.declared.deny.Deny.TheVariants.{Shut, Full, TooLong, KeyNoValue, Format, NoNonce, WrongNonce, WrongMac, NoAmounts, OtherBound, NotEmpty, OverBudget, Unbound, Nothing, OutletFull, Short, Disk, Memory}
use Rattle.xfs_guard.specs.declared.open.Open.{Open}
use Rattle.xfs_guard.specs.declared.open.Open.TheVariants.{No, Written, Acted}

-- the command was stopped: canceled, or its time was over
abbrev pub is_stopping : Code → Bool
is_stopping Canceled = true
is_stopping TimeOut = true
is_stopping other = false

-- a result of its own
abbrev pub IsOwn : Code → Type 0
IsOwn code = is_stopping code ≡ false

abbrev Answered : Option CashAnswer → Type 0
Answered o = IfSome o (λ (a : CashAnswer). IsOwn a.code)

of_some : (o : Option CashAnswer) (a : CashAnswer) → o ≡ Some a → Answered o → IsOwn a.code
of_some o a e h = rw e at h

denied : (deny : Deny) → Answered (denial deny)
denied Shut = refl
denied Full = refl
denied Disk = refl
denied TooLong = refl
denied (KeyNoValue at) = refl
denied (Format at) = refl
denied (NoNonce since) = refl
denied (WrongNonce since) = refl
denied (WrongMac due) = refl
denied NoAmounts = refl
denied (OtherBound since) = refl
denied (NotEmpty notes) = refl
denied (OverBudget currency left) = refl
denied (Unbound since) = refl
denied Nothing = refl
denied (OutletFull notes) = refl
denied (Short unit) = refl
denied Memory = tt

refused : (r : Refusal) → Answered (answer_of r)
refused refusal.InvalidData = refl
refused refusal.NoToken = refl
refused (refusal.Error fault) = refl
refused (refusal.Deny deny) = denied deny
refused refusal.Memory = tt

-- what a step of a plan, or a begin, has come to
abbrev pub WentOwn : Went → Type 0
WentOwn more = Unit {0}
WentOwn (done a) = IsOwn a.code

abbrev pub StartOwn : Start → Type 0
StartOwn (told a) = IsOwn a.code
StartOwn (planned plan) = Unit {0}

onward_own : (units : List NoteKind) (notes : Option Counts) (parts : List Part) → WentOwn (onward units notes parts)
onward_own units None [] = refl
onward_own units (Some counts) [] = refl
onward_own units notes (part ∷ parts) = tt

settled_own : (units : List NoteKind) (plan : Plan) (failed : Bool) → WentOwn (settled units plan failed)
settled_own units plan true = refl
settled_own units plan false = onward_own units plan.notes plan.parts.items

went_is : (went other : Went) → went ≡ other → WentOwn other → WentOwn went
went_is went other e h = subst WentOwn (sym e) h

denied_own : (s : Seen) (first : Option Deny) (next : Seen) (went : Went) → IsDenied s first next went → WentOwn went
denied_own s first next went is = went_is went (done is.answer) is.is (of_some (denial is.deny) is.answer is.due (denied is.deny))

load_own : (units : List NoteKind) (notes : Option Counts) (parts : List Part) (failed : Bool) → WentOwn (cond {A = Went} failed (done (plain_answer HardwareError)) (onward units notes parts))
load_own units notes parts true = refl
load_own units notes parts false = onward_own units notes parts

part_own : (part : Part) (rest : List Part) (s : Seen) (plan : Plan) (next : Seen) (left : Plan) (went : Went) → DoesPart part rest s plan next left went → WentOwn went
part_own (Order ask) rest s plan next left went (inl is) = went_is went more is.2 tt
part_own (Order ask) rest s plan next left went (inr is) = elim (is.1) [
  | inl d ↦ denied_own s _ next went d
  | inr u ↦ went_is went _ u.is refl
]
part_own Restore rest s plan next left went (inl is) = went_is went _ is.is (onward_own s.guard.units plan.notes _)
part_own Restore rest s plan next left went (inr is) = went_is went _ is.1 refl
part_own (Load unit count) rest s plan next left went is = went_is went _ is.is (load_own s.guard.units plan.notes rest is.outcome.failed)
part_own (Note unit count) rest s plan next left went (inl is) = went_is went _ is.2 (onward_own s.guard.units plan.notes rest)
part_own (Note unit count) rest s plan next left went (inr is) = elim (is.1) [
  | inl d ↦ denied_own s _ next went d
  | inr u ↦ went_is went _ u.is refl
]

works_on_own : (o : Open) (s : Seen) (plan : Plan) (next : Seen) (left : Plan) (went : Went) → WorksOn o s plan next left went → WentOwn went
works_on_own (Written kind counts) s plan next left went is = went_is went more is.is tt
works_on_own (Acted kind moved diverted failed) s plan next left went is = elim (is.1) [
  | inl d ↦ went_is went _ d.is (settled_own s.guard.units plan failed)
  | inr u ↦ went_is went _ u.is refl
]
works_on_own No s plan next left went is = of_parts plan.parts.items is
  where
    of_parts : (parts : List Part) → DoesFirst parts s plan next left went → WentOwn went
    of_parts [] is = absurd is
    of_parts (part ∷ rest) is = part_own part rest s plan next left went is

pub works_own : (s : Seen) (plan : Plan) (next : Seen) (left : Plan) (went : Went) → Works s plan next left went → WentOwn went
works_own s plan next left went is = works_on_own s.guard.open_order s plan next left went is

start_is : (start other : Start) → start ≡ other → StartOwn other → StartOwn start
start_is start other e h = subst StartOwn (sym e) h

told_own : (r : Refusal) (start : Start) → StartsRefused r start → StartOwn start
told_own r start is = start_is start (told is.answer) is.is (of_some (answer_of r) is.answer is.due (refused r))

unless_own : (o : Option Refusal) (otherwise start : Start) → StartOwn otherwise → StartsUnless o otherwise start → StartOwn start
unless_own None otherwise start own is = start_is start otherwise is own
unless_own (Some r) otherwise start own is = told_own r start is

with_own : {T : Type 0} (result : Result T Refusal) (begun : T → Start) (start : Start) → ((x : T) → StartOwn (begun x)) → StartsWith result begun start → StartOwn start
with_own (Ok x) begun start own is = start_is start (begun x) is (own x)
with_own (Err r) begun start own is = told_own r start is

pub begins_own : (s : Seen) (exchange : Bool) (ask : CashAsk) (next : Seen) (after : Bool) (start : Start) → Begins s exchange ask next after start → StartOwn start
begins_own s exchange (Denominate notes) next after start is = with_own is.2.given _ start (λ counts. refl) is.2.starts
begins_own s exchange (Dispense notes token) next after start is = with_own is.1.grant _ start (λ l. tt) is.1.starts
begins_own s exchange Present next after start is = unless_own _ _ start tt is.2
begins_own s exchange Reject next after start is = unless_own _ _ start tt is.2
begins_own s exchange Retract next after start is = unless_own _ _ start tt is.2
begins_own s exchange Reset next after start is = unless_own _ _ start tt is.2
begins_own s exchange StartExchange next after start is = unless_own _ _ start refl is.1.1
begins_own s exchange EndExchange next after start is = unless_own _ _ start refl is.1.1
begins_own s exchange (SetStorage added) next after start is = with_own is.2.checked _ start (λ counts. tt) is.2.starts

-- the card reader
abbrev pub EffectOwn : card_reader.Effect → Type 0
EffectOwn card_reader.nothing = Unit {0}
EffectOwn card_reader.ask_insert = Unit {0}
EffectOwn (card_reader.inserted payload) = Unit {0}
EffectOwn (card_reader.done code payload) = IsOwn code
EffectOwn card_reader.removed = Unit {0}

pub card_own : (slot : Slot) (event : CardEvent) → EffectOwn (card_reader.row_of slot event).effect
card_own empty (Begin (Read asked)) = tt
card_own (awaited before) (Begin (Read asked)) = tt
card_own (inside card) (Begin (Read asked)) = refl
card_own at_exit (Begin (Read asked)) = refl
card_own empty (Begin Move) = refl
card_own (awaited before) (Begin Move) = refl
card_own (inside card) (Begin Move) = refl
card_own at_exit (Begin Move) = refl
card_own empty (Begin ResetCard) = refl
card_own (awaited before) (Begin ResetCard) = refl
card_own (inside card) (Begin ResetCard) = refl
card_own at_exit (Begin ResetCard) = refl
card_own empty (Inserted tracks) = tt
card_own (awaited before) (Inserted tracks) = tt
card_own (inside card) (Inserted tracks) = tt
card_own at_exit (Inserted tracks) = tt
card_own empty Removed = tt
card_own (awaited before) Removed = tt
card_own (inside card) Removed = tt
card_own at_exit Removed = tt
card_own empty Fault = tt
card_own (awaited before) Fault = refl
card_own (inside card) Fault = tt
card_own at_exit Fault = tt
card_own empty Stop = tt
card_own (awaited before) Stop = tt
card_own (inside card) Stop = tt
card_own at_exit Stop = tt
