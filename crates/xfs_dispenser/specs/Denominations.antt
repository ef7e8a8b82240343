-- Which notes a denomination gives, and what its answer tells of them.
use Rattle.std.specs.Prelude.{◌≡◌, ℕ, ◌/◌, ◌≤◌, ◌<◌, nat_lt, ◌&&◌, Bool, List, fold, sum, codes, Some, None, Ok, Err, if◌then◌else◌}
use Rattle.std.specs.List.{list_any}
use Rattle.std.specs.Str.{bytes_eq}
use Rattle.std.specs.declared.option.Option.{Option}
use Rattle.std.specs.declared.result.Result.{Result}
use Rattle.serde_json.specs.Data.{Data, number, unsigned, object, Members, no_members, member, put as with_member}
use Rattle.xfs_base.specs.Money.{value}
use Rattle.xfs_base.specs.declared.counts.Counts.{Counts}
use Rattle.xfs_base.specs.declared.money.NoteKind.{NoteKind}
use Rattle.xfs_common.specs.Payloads.{only}
use Rattle.xfs_common.specs.declared.error.ErrorCode.TheVariants.{NotDispensable, TooManyItems, InvalidCurrency, InvalidDenomination}
use Rattle.xfs_envelope.specs.declared.code.Code.TheVariants as Code
use Rattle.xfs_guard.specs.View.{View}
use Rattle.xfs_mix.specs.Asked.{count_fault}
use Rattle.xfs_mix.specs.Mix.{IsMix, IsLeast}
use Rattle.xfs_mix.specs.declared.asked.CountFault.{CountFault}
use Rattle.xfs_mix.specs.declared.asked.CountFault.TheVariants as count
use Rattle.xfs_units.specs.Payloads.{unit_name}
use Rattle.xfs_dispenser.specs.Answers.{CashAnswer}
use Rattle.xfs_dispenser.specs.Units.{kinds_with, units_with}
use Rattle.xfs_dispenser.specs.declared.named.Named.TheVariants.{These, OtherName}
use Rattle.xfs_dispenser.specs.declared.notes.Notes.{Notes}
use Rattle.xfs_dispenser.specs.declared.notes.Notes.TheVariants.{Least, Individual}
use Rattle.xfs_dispenser.specs.declared.refusal.Refusal.{Refusal}
use Rattle.xfs_dispenser.specs.declared.refusal.Refusal.TheVariants.{InvalidData, Error}

-- a refusal that applies is the result; else it is what the later checks come to
abbrev pub FirstOf : {T : Type 0} → Option Refusal → (Result T Refusal → Type 0) → Result T Refusal → Type 0
FirstOf (Some refusal) Later result = result ≡ Err refusal
FirstOf None Later result = Later result

-- an amount is from 1 to 1,000,000 of the currency's units
abbrev pub members_refusal : Notes → Option Refusal
members_refusal (Least currency amount) = if nat_lt 0 amount && nat_lt amount 1000001 then None else Some InvalidData
members_refusal (Individual named) = None

-- a unit has the currency
abbrev pub has_currency : List NoteKind → List ℕ → Bool
has_currency units currency = list_any (λ k. bytes_eq k.currency currency) units

abbrev pub currency_refusal : List NoteKind → List ℕ → Option Refusal
currency_refusal units currency = if has_currency units currency then None else Some (Error InvalidCurrency)

-- the fewest notes for an amount, at most 60; or there are no such notes, or only more than 60
abbrev pub MixGiven : List NoteKind → Counts → List ℕ → ℕ → Result Counts Refusal → Type 0
MixGiven units have currency amount (Ok counts) = IsMix units have currency amount counts × IsLeast units have currency amount counts × (sum counts.0 ≤ 60)
MixGiven units have currency amount (Err (Error NotDispensable)) = (n : Counts) → IsMix units have currency amount n → ⊥
MixGiven units have currency amount (Err (Error TooManyItems)) = ((n : Counts) × IsMix units have currency amount n) × ((n : Counts) → IsMix units have currency amount n → 60 < sum n.0)
MixGiven units have currency amount (Err other) = ⊥

-- why counts by unit aren't given
abbrev pub count_refusal : CountFault → Refusal
count_refusal count.Empty = Error InvalidDenomination
count_refusal count.TooMany = Error TooManyItems
count_refusal (count.Short unit) = Error NotDispensable

abbrev pub given_unless : Counts → Option CountFault → Result Counts Refusal
given_unless counts None = Ok counts
given_unless counts (Some fault) = Err (count_refusal fault)

-- the notes that are given of those in the units, or the first check that they don't pass
abbrev pub NotesGiven : List NoteKind → Counts → Notes → Result Counts Refusal → Type 0
NotesGiven units have (Least currency amount) given = FirstOf (currency_refusal units currency) (MixGiven units have currency amount) given
NotesGiven units have (Individual OtherName) given = given ≡ Err (Error InvalidDenomination)
NotesGiven units have (Individual (These counts)) given = given ≡ given_unless counts (count_fault units have counts)

-- a Denominate's checks, in their order
abbrev pub Denominates : View → Notes → Result Counts Refusal → Type 0
Denominates v notes = FirstOf (members_refusal notes) (NotesGiven v.units v.places.units notes)

-- a kind's currency, with the whole amount of all the notes in it
abbrev pub with_currency : List NoteKind → Counts → Members → NoteKind → Members
with_currency units counts ms kind = with_member kind.currency (number (unsigned (value units counts kind.currency / 1000))) ms

-- the members have the amount of a kind's currency besides
abbrev pub PutsCurrency : List NoteKind → Counts → NoteKind → Members → Members → Type 0
PutsCurrency units counts kind old new = new ≡ with_currency units counts old kind

-- each currency of a unit with notes, with the whole amount of all the notes in it
abbrev pub currencies_of : List NoteKind → Counts → Members
currencies_of units counts = fold (with_currency units counts) no_members (kinds_with units counts.0)

-- a unit and how many notes there are of it
abbrev pub with_count : Members → ℕ × ℕ → Members
with_count ms u = with_member (unit_name u.0) (number (unsigned u.1)) ms

-- each unit with notes, and how many
abbrev pub values_of : List ℕ → Members
values_of counts = fold with_count no_members (units_with counts)

-- the notes of a denomination, by currency and by unit
abbrev pub denomination_payload : List NoteKind → Counts → Data
denomination_payload units counts =
    only (codes "denomination") (object
    (member (codes "currencies") (object (currencies_of units counts))
    (member (codes "values") (object (values_of counts.0)) no_members)))

-- the answer that tells the notes of a denomination
abbrev pub denomination_answer : List NoteKind → Counts → CashAnswer
denomination_answer units counts = record { code = Code.Success; payload = denomination_payload units counts }
