-- How a command of the dispenser begins: the first check that applies is its answer; else it is done at once, or it has a plan.
use Rattle.std.specs.Prelude.{◌≡◌, ◌<◌, ◌+◌, ◌&&◌, ℕ, Bool, true, false, List, length, drop, not, nat_lt, Some, None, Ok, Err, IfOk, if◌then◌else◌}
use Rattle.std.specs.List.{list_all}
use Rattle.std.specs.declared.option.Option.{Option}
use Rattle.std.specs.declared.result.Result.{Result}
use Rattle.xfs_base.specs.Counts.{at}
use Rattle.xfs_base.specs.declared.counts.Counts.{Counts}
use Rattle.xfs_base.specs.declared.money.NoteKind.{NoteKind}
use Rattle.xfs_common.specs.declared.error.ErrorCode.TheVariants.{InvalidUnit, StorageFull}
use Rattle.xfs_envelope.specs.declared.code.Code.TheVariants as Code
use Rattle.xfs_mech.specs.Mechanism.{CanLoad}
use Rattle.xfs_mix.specs.Asked.{is_none}
use Rattle.xfs_guard.specs.View.{View}
use Rattle.xfs_guard.specs.declared.ask.Ask.{Ask as Asked}
use Rattle.xfs_guard.specs.declared.ask.Ask.TheVariants as Ask
use Rattle.xfs_dispenser.specs.Answers.{CashAnswer, Start, told, planned, plain_answer, answer_of}
use Rattle.xfs_dispenser.specs.Checks.{Passed, DispenseChecks, Permits, active_refusal, inactive_refusal, unfit_refusal}
use Rattle.xfs_dispenser.specs.Denominations.{Denominates, FirstOf, denomination_answer}
use Rattle.xfs_dispenser.specs.Plans.{dispense_plan, order_plan, reset_plan, storage_plan}
use Rattle.xfs_dispenser.specs.Seen.{Seen}
use Rattle.xfs_dispenser.specs.declared.ask.CashAsk.{CashAsk}
use Rattle.xfs_dispenser.specs.declared.ask.CashAsk.TheVariants.{Denominate, Dispense, Present, Reject, Reset, Retract, StartExchange, SetStorage, EndExchange}
use Rattle.xfs_dispenser.specs.declared.grant.Grant.{Grant}
use Rattle.xfs_dispenser.specs.declared.named.Named.{Named}
use Rattle.xfs_dispenser.specs.declared.named.Named.TheVariants.{These, OtherName}
use Rattle.xfs_dispenser.specs.declared.notes.Notes.{Notes}
use Rattle.xfs_dispenser.specs.declared.refusal.Refusal.{Refusal}
use Rattle.xfs_dispenser.specs.declared.refusal.Refusal.TheVariants.{InvalidData, Error}

-- the answer is the refusal's
pub record StartsRefused (refusal : Refusal) (start : Start) : Type 0 where
  pub answer : CashAnswer
  pub due : answer_of refusal ≡ Some answer
  pub is : start ≡ told answer

-- a refusal is told; where there is none, the command starts as it would otherwise
abbrev pub StartsUnless : Option Refusal → Start → Start → Type 0
StartsUnless (Some refusal) otherwise start = StartsRefused refusal start
StartsUnless None otherwise start = start ≡ otherwise

-- the checks end in a refusal, which is told, or in a value, with which the command starts
abbrev pub StartsWith : {T : Type 0} → Result T Refusal → (T → Start) → Start → Type 0
StartsWith (Err refusal) begun start = StartsRefused refusal start
StartsWith (Ok value) begun start = start ≡ begun value

-- Denominate: the notes that a Dispense would give
pub record IsDenominated (v : View) (notes : Notes) (start : Start) : Type 0 where
  pub given : Result Counts Refusal
  pub checks : Denominates v notes given
  pub starts : StartsWith given (λ counts. told (denomination_answer v.units counts)) start

-- Dispense: the token is bound, and the orders of the units are planned, for a count of each of eight units
pub record IsDispensed (s : Seen) (exchange : Bool) (notes : Notes) (token : Option (List ℕ)) (next : Seen) (start : Start) : Type 0 where
  pub checked : Result Passed Refusal
  pub checks : DispenseChecks s.guard exchange notes token checked
  pub grant : Result Grant Refusal
  pub permits : Permits s checked grant next
  pub eight : IfOk grant (λ (l : Grant). length l.counts.0 ≡ 8)
  pub starts : StartsWith grant (λ (l : Grant). planned (dispense_plan l.issue l.counts)) start

-- each count is at most 10,000
abbrev pub are_few : List ℕ → Bool
are_few counts = list_all (λ count. nat_lt count 10001) counts

-- some notes are added, to no unit more than 10,000
abbrev pub are_added : Counts → Bool
are_added added = not (is_none added.0) && are_few added.0

abbrev pub added_refusal : Named → Option Refusal
added_refusal OtherName = None
added_refusal (These added) = if are_added added then None else Some InvalidData

-- a name isn't of the unit table
abbrev pub unit_refusal : List NoteKind → Named → Option Refusal
unit_refusal units OtherName = Some (Error InvalidUnit)
unit_refusal units (These added) = if is_none (drop (length units) added.0) then None else Some (Error InvalidUnit)

-- a unit takes so many notes, where there are some
abbrev pub UnitTakes : View → ℕ → ℕ → Type 0
UnitTakes v unit count = 0 < count → CanLoad v.units v.places unit count

-- each unit takes what is added to it
abbrev pub UnitsHaveRoom : View → Counts → Type 0
UnitsHaveRoom v added = (u : ℕ) → UnitTakes v (u + 1) (at added u)

-- the room of the units: what is added passes no limit; or it would pass one
abbrev pub RoomChecks : View → Named → Result Counts Refusal → Type 0
RoomChecks v (These added) (Ok counts) = (counts ≡ added) × UnitsHaveRoom v added
RoomChecks v (These added) (Err refusal) = (refusal ≡ Error StorageFull) × ¬ UnitsHaveRoom v added
RoomChecks v OtherName result = ⊥

-- the checks of SetStorage, in their order
abbrev pub StorageChecks : View → Bool → Named → Result Counts Refusal → Type 0
StorageChecks v exchange added =
    FirstOf (added_refusal added) (FirstOf (inactive_refusal exchange) (FirstOf (unfit_refusal v) (FirstOf (unit_refusal v.units added) (RoomChecks v added))))

-- SetStorage: the loadings are planned
pub record IsStorageSet (v : View) (exchange : Bool) (added : Named) (start : Start) : Type 0 where
  pub checked : Result Counts Refusal
  pub checks : StorageChecks v exchange added checked
  pub starts : StartsWith checked (λ counts. planned (storage_plan counts)) start

-- an order of all the notes of a place is planned
abbrev pub StartsOrder : Asked → Bool → Start → Type 0
StartsOrder ask exchange start = StartsUnless (active_refusal exchange) (planned (order_plan ask)) start

-- StartExchange: an exchange is active then
abbrev pub StartsExchange : Bool → Bool → Start → Type 0
StartsExchange exchange after start = (after ≡ true) × StartsUnless (active_refusal exchange) (told (plain_answer Code.Success)) start

-- EndExchange: no exchange is active then
abbrev pub EndsExchange : Bool → Bool → Start → Type 0
EndsExchange exchange after start = (after ≡ false) × StartsUnless (inactive_refusal exchange) (told (plain_answer Code.Success)) start

-- what begins of what is asked, by command: what is seen of the guard and whether an exchange is active, before and after
abbrev pub Begins : Seen → Bool → CashAsk → Seen → Bool → Start → Type 0
Begins s exchange (Denominate notes) next after start = (next ≡ s) × (after ≡ exchange) × IsDenominated s.guard notes start
Begins s exchange (Dispense notes token) next after start = (after ≡ exchange) × IsDispensed s exchange notes token next start
Begins s exchange Present next after start = (next ≡ s) × (after ≡ exchange) × StartsOrder Ask.Present exchange start
Begins s exchange Reject next after start = (next ≡ s) × (after ≡ exchange) × StartsOrder Ask.Reject exchange start
Begins s exchange Retract next after start = (next ≡ s) × (after ≡ exchange) × StartsOrder Ask.Retract exchange start
Begins s exchange Reset next after start = (next ≡ s) × (after ≡ exchange) × StartsUnless (active_refusal exchange) (planned reset_plan) start
Begins s exchange StartExchange next after start = (next ≡ s) × StartsExchange exchange after start
Begins s exchange EndExchange next after start = (next ≡ s) × EndsExchange exchange after start
Begins s exchange (SetStorage added) next after start = (next ≡ s) × (after ≡ exchange) × IsStorageSet s.guard exchange added start
