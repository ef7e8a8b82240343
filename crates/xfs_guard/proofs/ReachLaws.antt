-- What is read of a list from a boot record on is read of the records from there on alone, with every number counted from there.
use Rattle.std.proofs.Common.{◌≡◌, inl, inr, ℕ, zero, suc, ◌+◌, ◌<◌, ◌≤◌, Bool, true, false, List, [], ◌∷◌, ◌++◌, length, None, Some, refl, sym, ◌∙◌, ap, subst, take, drop, arith, zero-add, add-one, length-append, length-take-le}
use Rattle.std.specs.Prelude.{◌==◌, slice_get, fold, if◌then◌else◌, ⊤}
use Rattle.std.specs.declared.option.Option.{Option}
use Rattle.std.specs.Option.{option_map}
use Rattle.std.proofs.lemmas.Bool.{cases_eq}
use Rattle.std.proofs.lemmas.List.{take-append-drop, take-append-le, drop-append-le}
use Rattle.std.proofs.lemmas.List.Sums.{fold-append}
use Rattle.std.proofs.lemmas.Option.{slice_get_within}
use Rattle.xfs_base.specs.declared.counts.Places.{Places}
use Rattle.xfs_base.specs.declared.money.NoteKind.{NoteKind}
use Rattle.xfs_journal.specs.declared.record.Rec.{Rec}
use Rattle.xfs_journal.specs.declared.record.Rec.TheVariants.{Issue, Clear, Expire, Boot, Start, Bind, Order, Done, Load}
use Rattle.xfs_journal.specs.Journal.{boot_places, record_at, live_after, live_of, Reading, reading, reading_after, nothing_read, Binding, Finding, first_of, found_after, finding_after, token_of, is_place, next_number, next_issue, CarriesNumber}
use Rattle.xfs_journal.proofs.JournalLaws.{eqb-same, eqb-no, reading-count, record_at-push, record_at-within, Walk-push}
use Rattle.xfs_journal.proofs.StartLaws.{boot-ends}
use Rattle.xfs_guard.specs.Presented.{Paid, paid_after, worth_after, presented_in}
use Rattle.xfs_guard.specs.Reach.{IsBootAt, NumberedBehind}
use Rattle.xfs_guard.proofs.RecordLaws.{LivesWithin, lives-step, is_place-no}

-- a place counted from another
abbrev pub placed : ℕ → Option ℕ → Option ℕ
placed k place = option_map (λ q. k + q) place

-- a reading with as many records in front
abbrev up : ℕ → Reading → Reading
up k s = record { count = k + s.count; live = placed k s.live }

live-up : (k count : ℕ) (live : Option ℕ) (r : Rec) → live_after (k + count) (placed k live) r ≡ placed k (live_after count live r)
live-up k count live (Issue n w) = ap Some (omega arith)
live-up k count live Clear = refl
live-up k count live Expire = refl
live-up k count live (Boot q) = refl
live-up k count live (Start i q) = refl
live-up k count live (Bind t) = refl
live-up k count live (Order kind c) = refl
live-up k count live (Done m d) = refl
live-up k count live (Load u n) = refl

step-up : (k : ℕ) (s : Reading) (r : Rec) → reading_after (up k s) r ≡ up k (reading_after s r)
step-up k s r = let e : k + s.count + 1 ≡ k + (s.count + 1) = omega arith in rw (e, live-up k s.count s.live r) refl

reading-up : (k : ℕ) (s : Reading) (rs : List Rec) → fold reading_after (up k s) rs ≡ up k (fold reading_after s rs)
reading-up k s [] = refl
reading-up k s (r ∷ rs) = rw (step-up k s r) (reading-up k (reading_after s r) rs)

-- behind a boot record no issue lives, however many records stand in front of it
booted-reading : (front : List Rec) (b : Rec) (p : Places) → boot_places b ≡ Some p → reading_after (reading front) b ≡ up (length front) (reading_after nothing_read b)
booted-reading front b p tells = rw (boot-ends b p tells (reading front).count (reading front).live, boot-ends b p tells 0 None, reading-count front) refl

module _ (front : List Rec) (b : Rec) (p : Places) (tells : boot_places b ≡ Some p) where
  -- the live issue
  pub live-split : (rest : List Rec) → live_of (front ++ b ∷ rest) ≡ placed (length front) (live_of (b ∷ rest))
  live-split rest = ap (λ (s : Reading). s.live) (fold-append reading_after nothing_read front (b ∷ rest)
      ∙ ap (λ (s : Reading). fold reading_after s rest) (booted-reading front b p tells)
      ∙ reading-up (length front) (reading_after nothing_read b) rest)

  finds-none : (q : ℕ) (f : Finding) (r : Rec) → boot_places r ≡ Some p → found_after q f r ≡ f.bind
  finds-none q f (Boot x) is = refl
  finds-none q f (Start i x) is = refl
  finds-none q f (Issue n w) is = cc
  finds-none q f Clear is = refl
  finds-none q f Expire is = refl
  finds-none q f (Bind t) is = cc
  finds-none q f (Order k c) is = refl
  finds-none q f (Done m d) is = refl
  finds-none q f (Load u n) is = refl

-- a finding with as many records in front
abbrev numbered_up : ℕ → Option Binding → Option Binding
numbered_up k bind = option_map (λ (b : Binding). record { number = k + b.number; token = b.token }) bind

abbrev nothing_found : Finding
nothing_found = record { read = nothing_read; bind = None }

abbrev found_up : ℕ → Finding → Finding
found_up k f = record { read = up k f.read; bind = numbered_up k f.bind }

eqb-up : (k a b : ℕ) → (k + a == k + b) ≡ (a == b)
eqb-up k a b = elim (cases_eq a b) [
  | inl same ↦ rw same (eqb-same (k + b) ∙ sym (eqb-same b))
  | inr other ↦ eqb-no (k + a) (k + b) (λ e. other (omega (arith, e))) ∙ sym (eqb-no a b other)
]

place-up : (k p : ℕ) (live : Option ℕ) → is_place (k + p) (placed k live) ≡ is_place p live
place-up k p None = refl
place-up k p (Some q) = eqb-up k q p

first-up : (k : ℕ) (bind : Option Binding) (b : Binding) → first_of (numbered_up k bind) (record { number = k + b.number; token = b.token }) ≡ numbered_up k (first_of bind b)
first-up k None b = refl
first-up k (Some a) b = refl

ended-up : (k : ℕ) (same : Bool) (bind : Option Binding) → (if same then None else numbered_up k bind) ≡ numbered_up k (if same then None else bind)
ended-up k true bind = refl
ended-up k false bind = refl

bound-up : (k : ℕ) (here : Bool) (bind : Option Binding) (b : Binding)
    → (if here then first_of (numbered_up k bind) (record { number = k + b.number; token = b.token }) else numbered_up k bind) ≡ numbered_up k (if here then first_of bind b else bind)
bound-up k true bind b = first-up k bind b
bound-up k false bind b = refl

found-up : (k p : ℕ) (f : Finding) (r : Rec) → found_after (k + p) (found_up k f) r ≡ numbered_up k (found_after p f r)
found-up k p f (Issue n w) =
    let e : k + f.read.count + 1 ≡ k + (f.read.count + 1) = omega arith in
    rw (e, eqb-up k (f.read.count + 1) p) (ended-up k (f.read.count + 1 == p) f.bind)
found-up k p f Clear = refl
found-up k p f Expire = refl
found-up k p f (Boot q) = refl
found-up k p f (Start i q) = refl
found-up k p f (Bind t) =
    let e : k + f.read.count + 1 ≡ k + (f.read.count + 1) = omega arith in
    rw (e, place-up k p f.read.live) (bound-up k (is_place p f.read.live) f.bind (record { number = f.read.count + 1; token = t }))
found-up k p f (Order kind c) = refl
found-up k p f (Done m d) = refl
found-up k p f (Load u n) = refl

finding-up : (k p : ℕ) (f : Finding) (rs : List Rec) → fold (finding_after (k + p)) (found_up k f) rs ≡ found_up k (fold (finding_after p) f rs)
finding-up k p f [] = refl
finding-up k p f (r ∷ rs) = rw (step-up k f.read r, found-up k p f r) (finding-up k p (finding_after p f r) rs)

-- an issue that is yet to come has no Bind
none-step : (p : ℕ) (f : Finding) (r : Rec) → LivesWithin f.read.count f.read.live → f.read.count + 1 < p → f.bind ≡ None → found_after p f r ≡ None
none-step p f (Issue n w) lives lt none = rw (eqb-no (f.read.count + 1) p (omega arith)) none
none-step p f Clear lives lt none = none
none-step p f Expire lives lt none = none
none-step p f (Boot q) lives lt none = none
none-step p f (Start i q) lives lt none = none
none-step p f (Bind t) lives lt none = rw (is_place-no f.read.live f.read.count p lives (omega arith)) none
none-step p f (Order k c) lives lt none = none
none-step p f (Done m d) lives lt none = none
none-step p f (Load u n) lives lt none = none

finding-none : (p : ℕ) (f : Finding) (rs : List Rec) → LivesWithin f.read.count f.read.live → f.read.count + length rs < p → f.bind ≡ None
    → fold (finding_after p) f rs ≡ record { read = fold reading_after f.read rs; bind = None }
finding-none p f [] lives lt none = rw none refl
finding-none p f (r ∷ rs) lives lt none =
    finding-none p (finding_after p f r) rs (lives-step f.read.count f.read.live r lives) (omega arith) (none-step p f r lives (omega arith) none)

module _ (front : List Rec) (b : Rec) (p : Places) (tells : boot_places b ≡ Some p) where
  -- the bound token of an issue behind the boot record
  pub token-split : (rest : List Rec) (q : ℕ) → 0 < q → token_of (front ++ b ∷ rest) (length front + q) ≡ token_of (b ∷ rest) q
  token-split rest q some =
      ap (λ (f : Finding). option_map (λ (x : Binding). x.token) f.bind) (fold-append (finding_after (length front + q)) nothing_found front (b ∷ rest)
      ∙ ap (λ (f : Finding). fold (finding_after (length front + q)) f (b ∷ rest)) (finding-none (length front + q) nothing_found front tt (omega arith) refl)
      ∙ ap (λ (f : Finding). fold (finding_after (length front + q)) f rest) begun
      ∙ finding-up (length front) q (record { read = reading_after nothing_read b; bind = None }) rest)
      ∙ tokens (fold (finding_after q) (record { read = reading_after nothing_read b; bind = None }) rest).bind
      ∙ ap (λ (bind : Option Binding). option_map (λ (x : Binding). x.token) (fold (finding_after q) (record { read = reading_after nothing_read b; bind = bind }) rest).bind)
      (sym (finds-none front b p tells q nothing_found b tells))
    where
      begun : finding_after (length front + q) (record { read = reading front; bind = None }) b ≡ found_up (length front) (record { read = reading_after nothing_read b; bind = None })
      begun = ap (λ (x : Reading). record { read = x; bind = found_after (length front + q) (record { read = reading front; bind = None }) b }) (booted-reading front b p tells)
          ∙ ap (λ (x : Option Binding). record { read = up (length front) (reading_after nothing_read b); bind = x }) (finds-none front b p tells (length front + q) (record { read = reading front; bind = None }) b tells)

      tokens : (bind : Option Binding) → option_map (λ (x : Binding). x.token) (numbered_up (length front) bind) ≡ option_map (λ (x : Binding). x.token) bind
      tokens None = refl
      tokens (Some x) = refl

  worth-none : (u : List NoteKind) (c : List ℕ) (s : Paid) (r : Rec) → boot_places r ≡ Some p → worth_after u c s r ≡ 0
  worth-none u c s (Boot x) is = refl
  worth-none u c s (Start i x) is = refl
  worth-none u c s (Issue n w) is = cc
  worth-none u c s Clear is = refl
  worth-none u c s Expire is = refl
  worth-none u c s (Bind t) is = cc
  worth-none u c s (Order k n) is = cc
  worth-none u c s (Done m d) is = cc
  worth-none u c s (Load i n) is = cc

  -- what was presented since the last mark
  pub presented-split : (u : List NoteKind) (rest : List Rec) (c : List ℕ) → presented_in u (front ++ b ∷ rest) c ≡ presented_in u (b ∷ rest) c
  presented-split u rest c = ap (λ (s : Paid). s.worth) (fold-append (paid_after u c) (record { last = None; worth = 0 }) front (b ∷ rest)
      ∙ ap (λ (n : ℕ). fold (paid_after u c) (record { last = Some b; worth = n }) rest)
      (worth-none u c (fold (paid_after u c) (record { last = None; worth = 0 }) front) b tells ∙ sym (worth-none u c (record { last = None; worth = 0 }) b tells)))

slice_get-split : {X : Type 0} (front rest : List X) (i : ℕ) → slice_get (front ++ rest) (length front + i) ≡ slice_get rest i
slice_get-split [] rest i = rw zero-add refl
slice_get-split (x ∷ front) rest i = let e : suc (length front) + i ≡ suc (length front + i) = omega arith in rw e (slice_get-split front rest i)

-- a record behind others
pub record_at-split : (front rest : List Rec) (n : ℕ) → 0 < n → record_at (front ++ rest) (length front + n) ≡ record_at rest n
record_at-split front rest zero some = absurd (omega arith)
record_at-split front rest (suc i) some = let e : length front + suc i ≡ suc (length front + i) = omega arith in rw e (slice_get-split front rest i)

-- a list at a boot record: what stands in front of it, and what stands from it on
pub record Split (records : List Rec) (from : ℕ) : Type 0 where
  pub front : List Rec
  pub boot : Rec
  pub places : Places
  pub rest : List Rec
  pub tells : boot_places boot ≡ Some places
  pub is : records ≡ front ++ boot ∷ rest
  pub long : length front ≡ from
  pub behind : drop from records ≡ boot ∷ rest

cut : {X : Type 0} (xs : List X) (i : ℕ) (x : X) → slice_get xs i ≡ Some x → drop i xs ≡ x ∷ drop (suc i) xs
cut [] i x there = cc
cut (y ∷ ys) zero x there = let same : y ≡ x = cc in rw same refl
cut (y ∷ ys) (suc i) x there = cut ys i x there

pub split : (records : List Rec) (from : ℕ) → IsBootAt records (from + 1) → Split records from
split records from b =
    let there : slice_get records from ≡ Some b.boot = rw add-one at b.there in
    let within = slice_get_within records from b.boot there in
    let behind = cut records from b.boot there in record {
      front = take from records;
      boot = b.boot;
      places = b.places;
      rest = drop (suc from) records;
      tells = b.tells;
      is = sym (take-append-drop from records) ∙ ap (λ l. take from records ++ l) behind;
      long = length-take-le from records (omega arith);
      behind = behind;
    }

module _ (records : List Rec) (from : ℕ) (s : Split records from) where
  pub live-behind : live_of records ≡ placed from (live_of (drop from records))
  live-behind = rw s.behind (ap live_of s.is ∙ live-split s.front s.boot s.places s.tells s.rest ∙ ap (λ n. placed n (live_of (s.boot ∷ s.rest))) s.long)

  pub token-behind : (q : ℕ) → 0 < q → token_of records (from + q) ≡ token_of (drop from records) q
  token-behind q some = rw s.behind (ap (λ (l : List Rec). token_of l (from + q)) s.is ∙ ap (λ n. token_of (s.front ++ s.boot ∷ s.rest) (n + q)) (sym s.long) ∙ token-split s.front s.boot s.places s.tells s.rest q some)

  pub presented-behind : (u : List NoteKind) (c : List ℕ) → presented_in u records c ≡ presented_in u (drop from records) c
  presented-behind u c = rw s.behind (ap (λ (l : List Rec). presented_in u l c) s.is ∙ presented-split s.front s.boot s.places s.tells u s.rest c)

  pub record_at-behind : (n : ℕ) → 0 < n → record_at records (from + n) ≡ record_at (drop from records) n
  record_at-behind n some = rw s.behind (ap (λ (l : List Rec). record_at l (from + n)) s.is ∙ ap (λ k. record_at (s.front ++ s.boot ∷ s.rest) (k + n)) (sym s.long) ∙ record_at-split s.front (s.boot ∷ s.rest) n some)

  pub long-behind : length records ≡ from + length (drop from records)
  long-behind = rw s.behind (ap length s.is ∙ length-append s.front (s.boot ∷ s.rest) ∙ ap (λ n. n + length (s.boot ∷ s.rest)) s.long)

  pub some-behind : 0 < length (drop from records)
  some-behind = rw s.behind (omega arith)

  -- the newest record
  pub last-behind : record_at records (length records) ≡ record_at (drop from records) (length (drop from records))
  last-behind = ap (λ n. record_at records n) long-behind ∙ record_at-behind (length (drop from records)) some-behind

  pub from-within : from ≤ length records
  from-within = let e = long-behind in omega (arith, e)

-- a live issue has a number above 0
abbrev LivesSome : Option ℕ → Type 0
LivesSome None = ⊤
LivesSome (Some q) = 0 < q

some-step : (count : ℕ) (live : Option ℕ) (r : Rec) → LivesSome live → LivesSome (live_after count live r)
some-step count live (Issue n w) some = omega arith
some-step count live Clear some = tt
some-step count live Expire some = tt
some-step count live (Boot q) some = tt
some-step count live (Start i q) some = tt
some-step count live (Bind t) some = some
some-step count live (Order k c) some = some
some-step count live (Done m d) some = some
some-step count live (Load u n) some = some

some-from : (s : Reading) (rs : List Rec) → LivesSome s.live → LivesSome (fold reading_after s rs).live
some-from s [] some = some
some-from s (r ∷ rs) some = some-from (reading_after s r) rs (some-step s.count s.live r some)

pub live-some : (records : List Rec) (q : ℕ) → live_of records ≡ Some q → 0 < q
live-some records q lives = subst LivesSome lives (some-from nothing_read records tt)

pub placed-some : (k : ℕ) (live : Option ℕ) (p : ℕ) → placed k live ≡ Some p → (q : ℕ) × (live ≡ Some q) × (k + q ≡ p)
placed-some k None p e = cc
placed-some k (Some q) p e = (q, refl, cc)

-- one more record is numbered
issues-behind : (from : ℕ) (records : List Rec) → fold next_number (next_issue (take from records)) (drop from records) ≡ next_issue records
issues-behind from records = sym (fold-append next_number 1 (take from records) (drop from records)) ∙ ap next_issue (take-append-drop from records)

pub numbered-push : (from : ℕ) (records : List Rec) (r : Rec) → from ≤ length records → CarriesNumber (next_issue records) r → NumberedBehind from records → NumberedBehind from (records ++ r ∷ [])
numbered-push from records r le carries n =
    rw (take-append-le from records (r ∷ []) le, drop-append-le from records (r ∷ []) le)
    (Walk-push next_number CarriesNumber (next_issue (take from records)) (drop from records) r n (rw issues-behind carries))

-- the boot record keeps its number in a list that grew
pub booted-push : (records : List Rec) (r : Rec) (n : ℕ) → IsBootAt records n → IsBootAt (records ++ r ∷ []) n
booted-push records r n b = record { boot = b.boot; places = b.places; there = record_at-push records r n (record_at-within records n b.boot b.there).1 ∙ b.there; tells = b.tells }
