-- The journal: a list of records, the oldest first. A record's number is its place, from 1.
use Rattle.std.specs.Prelude.{◌≡◌, ℕ, zero, suc, ◌+◌, ◌-◌, ◌==◌, Bool, true, false, List, [], ◌∷◌, ◌++◌, take, fold, filter, length, Some, None, slice_get, if◌then◌else◌, ◌||◌, ⊤}
use Rattle.std.specs.declared.option.Option.{Option}
use Rattle.std.specs.Option.{option_map}
use Rattle.hex.specs.Hex.{encode_upper}
use Rattle.std.specs.Int.{to_be_bytes, w64}
use Rattle.xfs_base.specs.declared.counts.Places.{Places}
use Rattle.xfs_journal.specs.declared.record.Rec.{Rec}
use Rattle.xfs_journal.specs.declared.record.Rec.TheVariants.{Issue, Clear, Expire, Boot, Start, Bind}

-- the record of a number
abbrev pub record_at : List Rec → ℕ → Option Rec
record_at records zero = None
record_at records (suc i) = slice_get records i

-- a mark ends what the issue before it allowed: an Issue, a Clear, an Expire, a Boot or a Start
abbrev pub is_mark : Rec → Bool
is_mark (Issue number word) = true
is_mark Clear = true
is_mark Expire = true
is_mark (Boot places) = true
is_mark (Start issues places) = true
is_mark r = false

-- a boot record: the machine started or was reset
abbrev pub is_boot : Rec → Bool
is_boot (Boot places) = true
is_boot (Start issues places) = true
is_boot r = false

-- a boot record stands in the list
abbrev pub has_boot : List Rec → Bool
has_boot [] = false
has_boot (r ∷ behind) = is_boot r || has_boot behind

-- how many records stand in front of the last boot record; 0 where there is none
abbrev pub base_of : List Rec → ℕ
base_of [] = 0
base_of (r ∷ behind) = if has_boot behind then suc (base_of behind) else 0

-- where the notes lay when the machine started or was reset
abbrev pub boot_places : Rec → Option Places
boot_places (Boot places) = Some places
boot_places (Start issues places) = Some places
boot_places r = None

-- the nonces' records
abbrev pub is_issue : Rec → Bool
is_issue (Issue number word) = true
is_issue r = false

-- how many nonces were issued
abbrev pub issues_in : List Rec → ℕ
issues_in records = length (filter is_issue records)

-- the record that a start puts behind these records: how many nonces were issued, and where the notes lie
unfoldable pub boot_of : List Rec → Places → Rec
boot_of records places = Start (issues_in records) places

-- the records behind a start: the record of the start is the last of them
abbrev pub with_boot : List Rec → Places → List Rec
with_boot records places = records ++ boot_of records places ∷ []

-- how many records there are, and which issue lives after them: the last mark, where that's an issue
pub record Reading : Type 0 where
  pub count : ℕ
  pub live : Option ℕ

-- the live issue after one more record: an Issue lives from its place on, and every other mark ends it
abbrev pub live_after : ℕ → Option ℕ → Rec → Option ℕ
live_after count live (Issue number word) = Some (count + 1)
live_after count live r = if is_mark r then None else live

abbrev pub reading_after : Reading → Rec → Reading
reading_after r rec = record { count = r.count + 1; live = live_after r.count r.live rec }

abbrev pub nothing_read : Reading
nothing_read = record { count = 0; live = None }

abbrev pub reading : List Rec → Reading
reading records = fold reading_after nothing_read records

-- the issue that lives after the records
abbrev pub live_of : List Rec → Option ℕ
live_of records = (reading records).live

-- the issue in whose segment the record of this number stands
abbrev pub live_at : List Rec → ℕ → Option ℕ
live_at records n = live_of (take (n - 1) records)

abbrev pub is_place : ℕ → Option ℕ → Bool
is_place p None = false
is_place p (Some q) = q == p

-- a Bind record: its number, and the token that it binds
pub record Binding : Type 0 where
  pub number : ℕ
  pub token : List ℕ

abbrev pub first_of : Option Binding → Binding → Option Binding
first_of None b = Some b
first_of (Some a) b = Some a

-- how far the records were read, and the Bind that was found
pub record Finding : Type 0 where
  pub read : Reading
  pub bind : Option Binding

abbrev pub found_after : ℕ → Finding → Rec → Option Binding
found_after p f (Issue number word) = if f.read.count + 1 == p then None else f.bind
found_after p f (Bind token) = if is_place p f.read.live then first_of f.bind (record { number = f.read.count + 1; token = token }) else f.bind
found_after p f r = f.bind

abbrev pub finding_after : ℕ → Finding → Rec → Finding
finding_after p f r = record { read = reading_after f.read r; bind = found_after p f r }

-- the first Bind while the issue at p lived
abbrev pub binding_of : List Rec → ℕ → Option Binding
binding_of records p = (fold (finding_after p) (record { read = nothing_read; bind = None }) records).bind

-- the token that was bound first while the issue at p lived
abbrev pub token_of : List Rec → ℕ → Option (List ℕ)
token_of records p = option_map (λ (b : Binding). b.token) (binding_of records p)

-- the number of the first Bind while the issue at p lived
abbrev pub bind_of : List Rec → ℕ → Option ℕ
bind_of records p = option_map (λ (b : Binding). b.number) (binding_of records p)

-- Walks along a list: what each record owes, given what came before it.
abbrev pub Walk : {S : Type 0} → (S → Rec → S) → (S → Rec → Type 0) → S → List Rec → Type 0
Walk step Owes s [] = ⊤
Walk step Owes s (r ∷ rs) = Owes s r × Walk step Owes (step s r) rs

-- the number of the issue behind the record
abbrev pub next_number : ℕ → Rec → ℕ
next_number n (Issue number word) = n + 1
next_number n r = n

-- the number of the next issue: one more than there are
abbrev pub next_issue : List Rec → ℕ
next_issue records = fold next_number 1 records

abbrev pub CarriesNumber : ℕ → Rec → Type 0
CarriesNumber n (Issue number word) = number ≡ n
CarriesNumber n (Start issues places) = issues + 1 ≡ n
CarriesNumber n r = ⊤

-- each Issue carries one more than the number of Issues before it, and a Start their number
abbrev pub Numbered : List Rec → Type 0
Numbered records = Walk next_number CarriesNumber 1 records

-- the text of an issue's nonce: the 16 upper-case hexadecimal digits of its word, then the 16 of its number
abbrev pub nonce_text : ℕ → ℕ → List ℕ
nonce_text number word = encode_upper (to_be_bytes w64 word ++ to_be_bytes w64 number)

-- how many records there are, and the number of the last mark, or 0 before the first
pub record Marking : Type 0 where
  pub count : ℕ
  pub mark : ℕ

abbrev pub mark_after : ℕ → ℕ → Rec → ℕ
mark_after count mark r = if is_mark r then count + 1 else mark

abbrev pub marking_after : Marking → Rec → Marking
marking_after m rec = record { count = m.count + 1; mark = mark_after m.count m.mark rec }

-- the number of the last mark; 0 where there is none
abbrev pub last_mark : List Rec → ℕ
last_mark records = (fold marking_after (record { count = 0; mark = 0 }) records).mark
