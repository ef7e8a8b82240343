-- A conversation read from its end: the commands that are pending before some frame are those that stay so, in their order, and those that are completed from it on. That is all that the rest asks of them.
use Rattle.std.specs.Prelude.{ℕ, List, [], ◌∷◌, ◌++◌, ◌≡◌, ◌≤◌, ◌<◌, ◌+◌, ◌-◌, ◌↔◌, ◌⊎◌, ◌==◌, ◌&&◌, length, map, take, drop, slice_get, Bool, Contains, Option, None, Some, Result, if◌then◌else◌}
use Rattle.std.specs.Borrow.{Bor}
use Rattle.std.specs.List.{remove}
use Rattle.std.specs.Str.{bytes_eq}
use Rattle.xfs_envelope.specs.declared.code.Status.{Status}
use Rattle.xfs_envelope.specs.declared.command.Refuse.{Refuse}
use Rattle.xfs_envelope.specs.Commands.{Command}
use Rattle.xfs_envelope.specs.Replies.{Reply, reply_in, acknowledge}
use Rattle.xfs_conversation.specs.Pending.{Pending}
use Rattle.xfs_audit.specs.Conversing.{Acknowledges, IsWithout, Converses}
use Rattle.xfs_audit.specs.declared.way.Way.{Way}
use Rattle.xfs_audit.specs.declared.way.Step.{Step}
use Rattle.xfs_audit.specs.declared.way.Step.TheVariants.{Accepted, Completed, Told}
use Rattle.xfs_audit.specs.declared.rest.Rest.{Rest}

-- whether two commands have one id and name
abbrev pub is_same : Pending → Pending → Bool
is_same p q = p.id == q.id && bytes_eq p.name q.name

-- how many of these commands have the id and name of this one
abbrev pub times : Pending → List Pending → ℕ
times p [] = 0
times p (q ∷ qs) = (if is_same p q then 1 else 0) + times p qs

-- some of the commands, in their order
pub data Stay : List Pending → List Pending → Type 0 where
  none : Stay [] []
  stays : (p : Pending) {some all : List Pending} → Stay some all → Stay (p ∷ some) (p ∷ all)
  goes : (p : Pending) {some all : List Pending} → Stay some all → Stay some (p ∷ all)

-- `count` of the pending commands stay, by the first of these ids, and the others are those that are due, in any order
pub record Splits (ids : List ℕ) (count : ℕ) (due pending : List Pending) : Type 0 where
  pub bound : count ≤ length ids
  pub staying : List Pending
  pub order : Stay staying pending
  pub by_id : map (λ (p : Pending). p.id) staying ≡ take count ids
  pub others : (p : Pending) → times p pending ≡ times p staying + times p due

-- one of the ways splits the pending commands
pub record IsSplit (ids : List ℕ) (ways : List Way) (pending : List Pending) : Type 0 where
  pub way : Way
  pub there : Contains ways way
  pub splits : Splits ids way.stays way.due.items pending

-- the id is that of a pending command
pub record HasId (id : ℕ) (pending : List Pending) : Type 0 where
  pub command : Pending
  pub there : Contains pending command
  pub its : command.id ≡ id

-- which commands are pending behind a step
abbrev pub PendsBehind : Step → List Pending → List Pending → Type 0
PendsBehind (Accepted p) pending after = after ≡ pending ++ p ∷ []
PendsBehind (Completed p) pending after = IsWithout p pending after
PendsBehind (Told id) pending after = (after ≡ pending) × HasId id pending

-- a step leads from the pending commands to some that one of the ways splits
abbrev pub LeadsToSplit : List ℕ → Step → List Way → List Pending → Type 0
LeadsToSplit ids step ways pending = (after : List Pending) × PendsBehind step pending after × IsSplit ids ways after

-- the ways before a step split just the commands that it leads from to some that the ways behind it split
abbrev pub LeadsBack : List ℕ → Step → List Way → List Way → Type 0
LeadsBack ids step behind ways = (pending : List Pending) → IsSplit ids ways pending ↔ LeadsToSplit ids step behind pending

-- the ways have besides those that a step leads into this one from
abbrev pub Adds : List ℕ → Step → Way → List Way → List Way → Type 0
Adds ids step way old new = (pending : List Pending) → IsSplit ids new pending ↔ (IsSplit ids old pending ⊎ ((after : List Pending) × PendsBehind step pending after × Splits ids way.stays way.due.items after))

-- the ways have besides this one without a command like this, where one is due
abbrev pub AddsWithout : Pending → Way → List Way → List Way → Type 0
AddsWithout p way old new = (ids : List ℕ) (pending : List Pending)
    → IsSplit ids new pending ↔ (IsSplit ids old pending ⊎ ((i : ℕ) × (slice_get way.due.items i ≡ Some p) × Splits ids way.stays (remove way.due.items i) pending))

-- the ways have this one besides
abbrev pub IsMore : Way → List Way → List Way → Type 0
IsMore way old new = (ids : List ℕ) (pending : List Pending) → IsSplit ids new pending ↔ (IsSplit ids old pending ⊎ Splits ids way.stays way.due.items pending)

-- a way that does the same is among these
pub record IsKnown (ways : List Way) (way : Way) : Type 0 where
  pub known : Way
  pub there : Contains ways known
  pub stays : known.stays ≡ way.stays
  pub due : known.due.items ≡ way.due.items

-- no command is pending
abbrev pub IsOver : Way → Type 0
IsOver way = (way.stays ≡ 0) × (way.due.items ≡ [])

-- the last of so many of the ids is this one
pub record CanStay (ids : List ℕ) (count id : ℕ) : Type 0 where
  pub last : ℕ
  pub counted : count ≡ last + 1
  pub its : slice_get ids last ≡ Some id

-- a command like this stands at this place; or there is none
abbrev pub IsPlaceOf : Pending → List Pending → Option ℕ → Type 0
IsPlaceOf p due (Some place) = slice_get due place ≡ Some p
IsPlaceOf p due None = times p due ≡ 0

-- one that is due has this id, or one that stays
abbrev pub HasIdOf : ℕ → List Pending → List ℕ → Type 0
HasIdOf id due ids = HasId id due ⊎ Contains ids id

-- the rest of a conversation: it is one with the last texts from some on, whatever commands are pending that one of the ways splits, and with none else
abbrev pub IsRest : List ℕ → List (List ℕ) → List (List ℕ) → Rest → Type 0
IsRest ids texts frames rest = (rest.left ≤ length texts) × ((m : ℕ) (pending : List Pending) → m ≤ length texts → Converses ids pending (drop m texts) frames ↔ ((m ≡ rest.left) × IsSplit ids rest.ways.items pending))

-- the rest with one more frame before it, by what that frame says
abbrev pub Extends : List ℕ → List (List ℕ) → Option Reply → Rest → Rest → Type 0
Extends ids texts reply old new = (frame : List ℕ) (frames : List (List ℕ)) → reply_in frame ≡ reply → IsRest ids texts frames old → IsRest ids texts (frame ∷ frames) new

-- the ways before an acknowledge by this status, of a text that asks for this
abbrev pub AnswersText : List ℕ → Result Command Refuse → Option Status → List Way → List Way → Type 0
AnswersText ids asked status behind ways = (id : Option ℕ) (name : Option (List ℕ)) (pending : List Pending)
    → IsSplit ids ways pending ↔ ((after : List Pending) × Acknowledges pending asked (Some (acknowledge id name status)) after × IsSplit ids behind after)

-- the last of so many texts; none where there are fewer, or it is the last of none
abbrev pub IsLastText : List (List ℕ) → ℕ → Option (Bor (List ℕ)) → Type 0
IsLastText texts count (Some text) = (0 < count) × (slice_get texts (count - 1) ≡ Some text.now)
IsLastText texts count None = (count ≡ 0) ⊎ (length texts < count)

-- in one of the ways no command is pending
pub record HasOver (ways : List Way) : Type 0 where
  pub way : Way
  pub there : Contains ways way
  pub over : IsOver way

-- every text is acknowledged in the rest, and no command is pending before it
abbrev pub IsWhole : Rest → Type 0
IsWhole rest = (rest.left ≡ 0) × HasOver rest.ways.items
