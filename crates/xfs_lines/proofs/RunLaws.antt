-- The headline of a run: from what the disk's bytes stood for at entry, and from what its guard kept.
use Rattle.std.proofs.Common.{◌≡◌, inl, inr, ℕ, true, false, List, None, Some, refl, sym, ◌∙◌, arith}
use Rattle.std.specs.Prelude.{is_some}
use Rattle.std.specs.declared.option.Option.{Option}
use Rattle.xfs_base.specs.Causes.{IfTold}
use Rattle.xfs_base.specs.declared.counts.Places.{Places}
use Rattle.xfs_base.specs.declared.money.NoteKind.{NoteKind}
use Rattle.xfs_disk.specs.Disk.{Only}
use Rattle.xfs_disk.specs.declared.disk.Disk.{Ghosts}
use Rattle.xfs_mech.specs.declared.motion.Motion.{Motion}
use Rattle.xfs_journal.specs.Image.{StandsFor}
use Rattle.xfs_journal.specs.JournalView.{IsPossible, HasPossible, StandsForEither, IsNoJournal}
use Rattle.xfs_journal.specs.Paging.{CeasesAt}
use Rattle.xfs_journal.specs.declared.limits.Limits.{Limits}
use Rattle.xfs_journal.specs.declared.record.Rec.{Rec}
use Rattle.xfs_journal.specs.Journal.{boot_of, with_boot}
use Rattle.xfs_journal.proofs.StartLaws.{boot_of-only}
use Rattle.xfs_journal.proofs.Unique.{stands_for_one}
use Rattle.xfs_guard.specs.Booting.{HadRoom, has_no_room_at_boot}
use Rattle.xfs_guard.specs.Continues.{Continues, Leads}
use Rattle.xfs_guard.specs.Recorded.{IsRecorded}
use Rattle.xfs_guard.specs.Stored.{MayLeave}
use Rattle.xfs_guard.specs.View.{View}
use Rattle.xfs_guard.proofs.BootLaws.{IsRecorded-boot}
use Rattle.xfs_guard.proofs.ContinueLaws.{leads-record, leads-on, only-possible}
use Rattle.xfs_guard.proofs.StoredLaws.{tells, at_told}
use Rattle.xfs_guard.proofs.FollowsLaws.{Follows-same, Follows-record}
use Rattle.xfs_guard.specs.declared.fail.BootFault.{BootFault}
use Rattle.xfs_guard.specs.declared.fail.BootFault.TheVariants.{NotJournal, Disk, Full, Memory}
use Rattle.xfs_lines.specs.Boots.{BootExceeds, EndsUnread, IsDue, WritesBoot, boot_status}
use Rattle.xfs_script.specs.Streams.{Streams}
use Rattle.xfs_lines.specs.Upholds.{Upholds, FollowsWhereTold}
use Rattle.xfs_journal.specs.Held.{StandsForNone}

follows-same : (J : List Rec) (L : Option (List Motion)) (P : Places) → FollowsWhereTold J L P J L P
follows-same J None P = tt
follows-same J (Some l) P = Follows-same J l P

follows-boot : (J : List Rec) (L : Option (List Motion)) (P : Places) → FollowsWhereTold J L P (with_boot J P) L P
follows-boot J None P = tt
follows-boot J (Some l) P = Follows-record J (boot_of J P) l P (boot_of-only J P)

-- the condition at entry
abbrev pub Starts : Option (List ℕ) → (List ℕ → Type 0) → List ℕ → List NoteKind → Option (List Motion) → Type 0
Starts held images key units L = IfTold held (λ _. (c : List ℕ) → images c → (J : List Rec) → StandsFor c J → IsRecorded key units L J)

abbrev pub AtRest : Option (List ℕ) → (List ℕ → Type 0) → Type 0
AtRest held images = IfTold held (λ bytes. Only bytes images)

-- each list that the disk may leave is recorded then
pub recorded-start : {D : Type 0} (g : Ghosts D) (d : D) (key : List ℕ) (units : List NoteKind) (L : Option (List Motion)) → Starts (g.held d) (g.images d) key units L
    → (J : List Rec) → MayLeave g d J → IsRecorded key units L J
recorded-start g d key units L starts J may =
    let known = tells (g.held d) may.told in
    at_told (g.held d) (λ _. (c : List ℕ) → g.images d c → (K : List Rec) → StandsFor c K → IsRecorded key units L K) known.0 known.1 starts may.bytes may.left J may.stands

-- the headline, from the condition at entry to what is there at the end
abbrev pub UpholdsAll : Option (List ℕ) → Option (List ℕ) → (List ℕ → Type 0) → List ℕ → List NoteKind → Option (List Motion) → Places → Option (List Motion) → Places → Type 0
UpholdsAll held held' images' key units L P L' P' = IfTold held (λ bytes. (J : List Rec) → StandsFor bytes J → IfTold held' (λ _. (c : List ℕ) → images' c → Upholds key units J L P c L' P'))

-- nothing was done
pub upholds-same : (held : Option (List ℕ)) (images : List ℕ → Type 0) (key : List ℕ) (units : List NoteKind) (L : Option (List Motion)) (P : Places)
    → Starts held images key units L → AtRest held images → UpholdsAll held held images key units L P L P
upholds-same None images key units L P starts rest = tt
upholds-same (Some bytes) images key units L P starts rest = λ J stands c image.
    let here : StandsFor c J = rw (rest c image) stands in record {
      records = J;
      stands = here;
      recorded = starts c image J here;
      follows = follows-same J L P;
    }

-- what a refused boot left, over images that stand for the list or for that one with the boot record
pub upholds-refused : (held held' : Option (List ℕ)) (images images' : List ℕ → Type 0) (key : List ℕ) (units : List NoteKind) (L : Option (List Motion)) (P : Places)
    → Starts held images key units L → AtRest held images → ((bytes : List ℕ) → held ≡ Some bytes → images bytes)
    → IfTold held (λ _. (J : List Rec) → ((c : List ℕ) → images c → StandsFor c J) → (c : List ℕ) → images' c → StandsForEither J (boot_of J P) c)
    → UpholdsAll held held' images' key units L P L P
upholds-refused None held' images images' key units L P starts rest read left = tt
upholds-refused (Some bytes) None images images' key units L P starts rest read left = λ J stands. tt
upholds-refused (Some bytes) (Some now) images images' key units L P starts rest read left = λ J stands c image.
    let old : IsRecorded key units L J = starts bytes (read bytes refl) J stands in
    elim (left J (λ d is. rw (rest d is) stands) c image) [
      | inl same ↦ record { records = J; stands = same; recorded = old; follows = follows-same J L P }
      | inr booted ↦ record { records = with_boot J P; stands = booted; recorded = IsRecorded-boot key units J P L old; follows = follows-boot J L P }
    ]

-- from the boot to the end
follows-run : (first last : View) (J0 J : List Rec) → first.records ≡ with_boot J0 first.places → first.in_doubt ≡ None
    → Continues first last → IsPossible last.records last.in_doubt J → FollowsWhereTold J0 first.motions first.places J last.motions last.places
follows-run first last J0 J booted clean continues possible =
    where_told first.motions last.motions (leads-on first last J0 first.motions first.places continues (λ K is. rw (only-possible first.records K first.in_doubt clean is, booted)
    (leads-record first.motions J0 (boot_of J0 first.places) first.places (boot_of-only J0 first.places))) J possible)
  where
    where_told : (before now : Option (List Motion)) → Leads J0 before first.places J now last.places → FollowsWhereTold J0 before first.places J now last.places
    where_told None now leads = tt
    where_told (Some b) None leads = tt
    where_told (Some b) (Some n) leads = leads.follows

-- the headline of a run whose boot was not refused
pub upholds-run : (first last : View) (J0 : List Rec) (held held' : Option (List ℕ)) (images images' : List ℕ → Type 0) (told : Option (List Motion)) (places : Places)
    → first.records ≡ with_boot J0 first.places → first.in_doubt ≡ None → IfTold held (λ bytes. StandsFor bytes J0)
    → Starts held images first.key first.units first.motions → ((bytes : List ℕ) → held ≡ Some bytes → images bytes)
    → Continues first last → IfTold held' (λ _. (c : List ℕ) → images' c → HasPossible last.records last.in_doubt c)
    → (is_some held' ≡ true → (c : List ℕ) → images' c → (J : List Rec) → StandsFor c J → IsRecorded last.key last.units last.motions J)
    → told ≡ last.motions → places ≡ last.places
    → UpholdsAll held held' images' first.key first.units first.motions first.places told places
upholds-run first last J0 None held' images images' told places booted clean stood starts read c stored recorded told_is places_is = tt
upholds-run first last J0 (Some bytes) None images images' told places booted clean stood starts read c stored recorded told_is places_is = λ J stands. tt
upholds-run first last J0 (Some bytes) (Some now) images images' told places booted clean stood starts read c stored recorded told_is places_is = λ J stands d image.
    let same : J ≡ J0 = stands_for_one bytes J J0 stands stood in
    let kept = stored d image in
    let old : IsRecorded first.key first.units first.motions J0 = starts bytes (read bytes refl) J0 stood in
    rw (same, told_is, places_is) (record {
      records = kept.0;
      stands = inl kept.2;
      recorded = rw (c.key, c.units) at (recorded refl d image kept.0 (inl kept.2));
      follows = follows-run first last J0 kept.0 booted clean c kept.1;
    })

-- a boot record that was written passed no limit
pub fits-run : (limits : Limits) (P : Places) (first : View) (held : Option (List ℕ)) (X : Type 0) → HadRoom held limits P first.records
    → IfTold held (λ bytes. (J : List Rec) → StandsFor bytes J → BootExceeds limits P J → X)
fits-run limits P first None X fits = tt
fits-run limits P first (Some bytes) X (J0, stood, (booted, room)) = λ J stands over.
    let same : J ≡ J0 = stands_for_one bytes J J0 stands stood in
    let is : has_no_room_at_boot limits J0 P ≡ true = rw same at over in
    absurd (let e : true ≡ false = sym is ∙ room in cc)

-- where a list stands for the bytes, they are a journal
pub journal-run : (J0 : List Rec) (held : Option (List ℕ)) (X : Type 0) → IfTold held (λ bytes. StandsFor bytes J0) → IfTold held (λ bytes. StandsForNone bytes → X)
journal-run J0 None X stood = tt
journal-run J0 (Some bytes) X stood = λ none. absurd (none J0 stood)

-- the status of a file that is no journal
pub ends-unread : (why : BootFault) (held : Option (List ℕ)) (io : Streams) (status : ℕ) → status ≡ boot_status why → WritesBoot why io
    → ((at : ℕ) → why ≡ NotJournal at → IsNoJournal held at) → status ≡ 7 → EndsUnread held io
ends-unread (NotJournal at) held io status is written ceases seven = record { at = at; ceases = ceases at refl; written = written }
ends-unread Disk held io status is written ceases seven = absurd (omega (arith, is, seven))
ends-unread Full held io status is written ceases seven = absurd (omega (arith, is, seven))
ends-unread Memory held io status is written ceases seven = absurd (omega (arith, is, seven))

-- the status of a refused boot whose record passes a limit
pub due-full : (why : BootFault) (held : Option (List ℕ)) (limits : Limits) (P : Places) (status : ℕ) → status ≡ boot_status why
    → ((at : ℕ) → why ≡ NotJournal at → IsNoJournal held at)
    → IfTold held (λ bytes. (J : List Rec) → StandsFor bytes J → BootExceeds limits P J → IsDue 12 status)
due-full why None limits P status is ceases = tt
due-full (NotJournal at) (Some bytes) limits P status is ceases = λ J stands over. absurd ((ceases at refl).1 J stands)
due-full Disk (Some bytes) limits P status is ceases = λ J stands over. inr (inl is)
due-full Full (Some bytes) limits P status is ceases = λ J stands over. inl is
due-full Memory (Some bytes) limits P status is ceases = λ J stands over. inr (inr is)

-- the status of a refused boot over bytes that are no journal
pub due-unread : (why : BootFault) (held : Option (List ℕ)) (status : ℕ) → status ≡ boot_status why → {X : List Rec → Type 0}
    → (why ≡ Full → (J : List Rec) × IfTold held (λ bytes. StandsFor bytes J) × X J) → IfTold held (λ bytes. StandsForNone bytes → IsDue 7 status)
due-unread why None status is full = tt
due-unread (NotJournal at) (Some bytes) status is full = λ none. inl is
due-unread Disk (Some bytes) status is full = λ none. inr (inl is)
due-unread Full (Some bytes) status is full = λ none. absurd (let f = full refl in none f.0 f.1)
due-unread Memory (Some bytes) status is full = λ none. inr (inr is)
