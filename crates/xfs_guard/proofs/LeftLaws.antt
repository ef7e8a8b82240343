-- What a crash may leave at any moment of a call.
use Rattle.std.proofs.Common.{◌≡◌, ◌⊎◌, ⊎_elim, inl, inr, ℕ, ◌≤◌, true, is_some, List, [], ◌∷◌, ◌++◌, None, Some, refl, sym, ◌∙◌, ap, subst, arith}
use Rattle.std.specs.declared.option.Option.{Option}
use Rattle.xfs_base.specs.Causes.{IfTold}
use Rattle.xfs_base.specs.declared.counts.Places.{Places}
use Rattle.xfs_base.specs.declared.money.NoteKind.{NoteKind}
use Rattle.xfs_mech.specs.Mechanism.{AddsEntry}
use Rattle.xfs_mech.specs.declared.motion.Motion.{Motion}
use Rattle.xfs_disk.specs.Moments.{LeavesOnly, EachImage}
use Rattle.xfs_disk.specs.declared.disk.Disk.{Ghosts}
use Rattle.xfs_journal.specs.Image.{IsImage, StandsFor}
use Rattle.xfs_journal.specs.JournalView.{IsButForEighth, IsPossible, HasPossible, StandsForEither}
use Rattle.xfs_journal.specs.Paging.{IsOldOrShort, IsQuiet}
use Rattle.xfs_journal.specs.declared.record.Rec.{Rec}
use Rattle.xfs_journal.specs.Journal.{boot_of}
use Rattle.xfs_journal.proofs.Emptying.{short_stands}
use Rattle.xfs_journal.proofs.Moments.{started, weaken, joins}
use Rattle.xfs_journal.proofs.Told.{on_told, from_told}
use Rattle.xfs_guard.specs.declared.open.Open.{Open}
use Rattle.xfs_guard.specs.CrashOutcomes.{EachStands, IsOldOrBooted, IsOldOrFound, MayMove, StandsThrough}
use Rattle.xfs_guard.specs.Booting.{IsSpared}
use Rattle.xfs_guard.specs.Recorded.{IsRecorded}
use Rattle.xfs_guard.specs.Sound.{IsSound}
use Rattle.xfs_guard.specs.Stored.{MayLeave}
use Rattle.xfs_guard.specs.View.{View}
use Rattle.xfs_guard.proofs.BootLaws.{IsRecorded-boot}
use Rattle.xfs_guard.proofs.KeptLaws.{recorded-sound, recorded-ties, told-at}
use Rattle.xfs_guard.proofs.RecordLaws.{longer}
use Rattle.xfs_guard.proofs.SoundLaws.{acted_view, told-act}
use Rattle.xfs_guard.proofs.StoredLaws.{tells}
use Rattle.xfs_journal.specs.Held.{StandsForSome}

-- bytes that stand for one of the possible lists, each of which is recorded
pub recorded-possible : (key : List ℕ) (u : List NoteKind) (m : Option (List Motion)) (records : List Rec) (d : Option Rec) (c : List ℕ)
    → ((list : List Rec) → IsPossible records d list → IsRecorded key u m list) → StandsForSome (IsPossible records d) c → StandsForSome (IsRecorded key u m) c
recorded-possible key u m records d c recorded one = record { records = one.records; stands = one.stands; such = recorded one.records one.such }

-- bytes that stand for the list or for that with the record, both of which are recorded
pub recorded-either : (key : List ℕ) (u : List NoteKind) (m : Option (List Motion)) (records : List Rec) (r : Rec) (c : List ℕ)
    → IsRecorded key u m records → IsRecorded key u m (records ++ r ∷ []) → StandsForEither records r c → StandsForSome (IsRecorded key u m) c
recorded-either key u m records r c before after (inl was) = record { records = records; stands = was; such = before }
recorded-either key u m records r c before after (inr is) = record { records = records ++ r ∷ []; stands = is; such = after }

module _ {D : Type 0} (g : Ghosts D) where
  -- a call that called no disk
  pub left-same : (d : D) (Holds : List ℕ → Type 0) → ((c : List ℕ) → g.images_since d (g.moment d) c → g.images d c) → IfTold (g.held d) (λ _. (c : List ℕ) → g.images d c → Holds c)
      → IfTold (g.held d) (λ _. LeavesOnly g d d Holds)
  left-same d Holds only_now each = on_told (g.held d) (λ _. LeavesOnly g d d Holds) (λ all told.
      started g d Holds (λ c left. from_told (g.held d) (λ _. (c : List ℕ) → g.images d c → Holds c) each all told c (only_now c left)))

  -- each image stands for a recorded list, where each of the possible lists is one
  pub leaves-recorded : (d : D) (v : View) → EachImage g d (StandsForSome (IsPossible v.records v.in_doubt))
      → (is_some (g.held d) ≡ true → (records : List Rec) → IsPossible v.records v.in_doubt records → IsRecorded v.key v.units v.motions records)
      → IfTold (g.held d) (λ _. (c : List ℕ) → g.images d c → StandsForSome (IsRecorded v.key v.units v.motions) c)
  leaves-recorded d v leaves recorded = on_told (g.held d) (λ _. (c : List ℕ) → g.images d c → StandsForSome (IsRecorded v.key v.units v.motions) c) (λ all told c left.
      recorded-possible v.key v.units v.motions v.records v.in_doubt c (recorded (ap is_some told)) (from_told (g.held d) (λ _. (c : List ℕ) → g.images d c → StandsForSome (IsPossible v.records v.in_doubt) c) leaves all told c left))

  -- a call that wrote nothing
  pub left-unwritten : (d : D) (v : View) → ((c : List ℕ) → g.images_since d (g.moment d) c → g.images d c) → EachImage g d (StandsForSome (IsPossible v.records v.in_doubt))
      → (is_some (g.held d) ≡ true → (records : List Rec) → IsPossible v.records v.in_doubt records → IsRecorded v.key v.units v.motions records)
      → IfTold (g.held d) (λ _. LeavesOnly g d d (StandsForSome (IsRecorded v.key v.units v.motions)))
  left-unwritten d v only_now leaves recorded = left-same d (StandsForSome (IsRecorded v.key v.units v.motions)) only_now (leaves-recorded d v leaves recorded)

  -- a call that wrote this record, or whose disk failed at it
  pub left-written : (old new : D) (v : View) (r : Rec) (w : Option (List (List ℕ × ℕ))) (o : Open) → v.disk_told ≡ is_some (g.held old) → IsSound v → IsSound (longer v r w o)
      → IfTold (g.held old) (λ _. LeavesOnly g old new (StandsForEither v.records r)) → IfTold (g.held old) (λ _. LeavesOnly g old new (StandsForSome (IsRecorded v.key v.units v.motions)))
  left-written old new v r w o tells before after moments = on_told (g.held old) (λ _. LeavesOnly g old new (StandsForSome (IsRecorded v.key v.units v.motions))) (λ all told.
      let is : v.disk_told ≡ true = tells ∙ ap is_some told in
      weaken g old new (StandsForEither v.records r) (StandsForSome (IsRecorded v.key v.units v.motions))
      (λ c either. recorded-either v.key v.units v.motions v.records r c (recorded-sound v before is) (recorded-sound (longer v r w o) after is) either)
      (from_told (g.held old) (λ _. LeavesOnly g old new (StandsForEither v.records r)) moments all told))

  -- a call of the mechanism, which may add such an entry
  pub left-through : (d : D) (v : View) (MayAdd : Motion → Type 0) → ((c : List ℕ) → g.images_since d (g.moment d) c → g.images d c) → EachImage g d (StandsForSome (IsPossible v.records v.in_doubt))
      → (is_some (g.held d) ≡ true → (records : List Rec) → IsPossible v.records v.in_doubt records → IsRecorded v.key v.units v.motions records)
      → (is_some (g.held d) ≡ true → (records : List Rec) → IsPossible v.records v.in_doubt records → (entry : Motion) (now : Option (List Motion)) → MayAdd entry → AddsEntry v.motions entry now → IsRecorded v.key v.units now records)
      → IfTold (g.held d) (λ _. LeavesOnly g d d (StandsThrough v MayAdd))
  left-through d v MayAdd only_now leaves before after = left-same d (StandsThrough v MayAdd) only_now (on_told (g.held d) (λ _. (c : List ℕ) → g.images d c → StandsThrough v MayAdd c) (λ all told c left.
      let one = from_told (g.held d) (λ _. (c : List ℕ) → g.images d c → StandsForSome (IsPossible v.records v.in_doubt) c) leaves all told c left in
      record { records = one.records; stands = one.stands; before = before (ap is_some told) one.records one.such; after = after (ap is_some told) one.records one.such }))

-- the list of records stays recorded with the entry that the written order adds
pub recorded-moved : (v : View) (entry : Motion) (now : Option (List Motion)) → IsSound v → v.disk_told ≡ true → MayMove v entry → AddsEntry v.motions entry now → IsRecorded v.key v.units now v.records
recorded-moved v entry now s is may grows =
    let stands = rw may.written at s.stands in
    let grown = subst (λ (e : Motion). AddsEntry v.motions e now) may.entry_is grows in
    recorded-ties (acted_view v may.kind may.moved may.diverted may.failed now v.places v.faults) now (s.numbered is)
    (told-act v may.kind may.counts may.moved may.diverted may.failed v.motions now now v.places v.faults s.budget may.written stands.0 stands.1 stands.2 may.carried (told-at v.disk_told v v.motions is s.told) grown)

-- where no record is in doubt, the kept list is the one that is possible
pub one-possible : (records : List Rec) (d : Option Rec) (found : List Rec) → d ≡ None → IsPossible records d found → found ≡ records
one-possible records d found none (inl same) = same
one-possible records d found none (inr doubt) = absurd (never doubt.0 (sym none ∙ doubt.1))
  where
    never : (r : Rec) → None ≡ Some r → ⊥
    never r e = cc

-- a crash leaves it
pub leaves-kept : {D : Type 0} (g : Ghosts D) (disk : D) (records : List Rec) (d : Option Rec) → d ≡ None → EachImage g disk (HasPossible records d) → EachImage g disk (λ c. StandsFor c records)
leaves-kept g disk records d none stored = on_told (g.held disk) (λ _. (c : List ℕ) → g.images disk c → StandsFor c records) (λ all told c left.
    let has = from_told (g.held disk) (λ _. (c : List ℕ) → g.images disk c → HasPossible records d c) stored all told c left in
    inl (subst (λ (list : List Rec). IsImage c list) (one-possible records d has.0 none has.1) has.2))

-- a mount leaves what was there, or at most 9 bytes, which stand for the empty list as the bytes before did
short-found : (images : List ℕ → Type 0) (all c : List ℕ) → IsOldOrShort images all c → IsOldOrFound images all c
short-found images all c (inl was) = inl was
short-found images all c (inr short) = inr ([], short_stands all short.0, short_stands c short.1)

found-booted : (images : List ℕ → Type 0) (all : List ℕ) (p : Places) (c : List ℕ) → IsOldOrFound images all c → IsOldOrBooted images all p c
found-booted images all p c (inl was) = inl was
found-booted images all p c (inr (found, stood, stands)) = inr (found, stood, inl stands)

module _ {D : Type 0} (g : Ghosts D) (old mid : D) (mounted : IfTold (g.held old) (λ all. LeavesOnly g old mid (IsOldOrShort (g.images old) all))) where
  pub left-found : IfTold (g.held old) (λ all. LeavesOnly g old mid (IsOldOrFound (g.images old) all))
  left-found = on_told (g.held old) (λ all. LeavesOnly g old mid (IsOldOrFound (g.images old) all)) (λ all told.
      weaken g old mid (IsOldOrShort (g.images old) all) (IsOldOrFound (g.images old) all) (short-found (g.images old) all)
      (from_told (g.held old) (λ all. LeavesOnly g old mid (IsOldOrShort (g.images old) all)) mounted all told))

  -- a mount, and then another version
  pub left-carried : (new : D) (records : List Rec) → is_some (g.held mid) ≡ is_some (g.held old) → IfTold (g.held old) (λ all. StandsFor all records)
      → IfTold (g.held mid) (λ _. LeavesOnly g mid new (λ c. StandsFor c records)) → IfTold (g.held old) (λ all. LeavesOnly g old new (IsOldOrFound (g.images old) all))
  left-carried new records told stands carried = on_told (g.held old) (λ all. LeavesOnly g old new (IsOldOrFound (g.images old) all)) (λ all is.
      let still = tells (g.held mid) (told ∙ ap is_some is) in
      let found = from_told (g.held old) (λ all. StandsFor all records) stands all is in
      weaken g old new (λ c. IsOldOrFound (g.images old) all c ⊎ StandsFor c records) (IsOldOrFound (g.images old) all) (λ c either. ⊎_elim (λ was. was) (λ is. inr (records, found, is)) either)
      (joins g old mid new (IsOldOrFound (g.images old) all) (λ c. StandsFor c records)
      (from_told (g.held old) (λ all. LeavesOnly g old mid (IsOldOrFound (g.images old) all)) left-found all is)
      (from_told (g.held mid) (λ _. LeavesOnly g mid new (λ c. StandsFor c records)) carried still.0 still.1)))

  -- what neither wrote stays
  pub left-spared : IfTold (g.held old) (λ all. LeavesOnly g old mid (IsSpared (g.images old) all))
  left-spared = on_told (g.held old) (λ all. LeavesOnly g old mid (IsSpared (g.images old) all)) (λ all told.
      weaken g old mid (IsOldOrShort (g.images old) all) (IsSpared (g.images old) all) (λ c was. (c, was, inl refl))
      (from_told (g.held old) (λ all. LeavesOnly g old mid (IsOldOrShort (g.images old) all)) mounted all told))

  pub left-renewed : ((d : D) (all : List ℕ) → g.held d ≡ Some all → g.images d all) → ((d : D) (t : ℕ) (c : List ℕ) → t ≤ g.moment d → g.images d c → g.images_since d t c)
      → (new : D) → is_some (g.held mid) ≡ is_some (g.held old) → IfTold (g.held mid) (λ all. LeavesOnly g mid new (IsButForEighth all)) → IfTold (g.held old) (λ all. LeavesOnly g old new (IsSpared (g.images old) all))
  left-renewed as_read counts_now new told renewed = on_told (g.held old) (λ all. LeavesOnly g old new (IsSpared (g.images old) all)) (λ all is.
      let still = tells (g.held mid) (told ∙ ap is_some is) in
      let first = from_told (g.held old) (λ all. LeavesOnly g old mid (IsOldOrShort (g.images old) all)) mounted all is in
      let between = first.each still.0 (counts_now mid (g.moment old) still.0 first.later (as_read mid still.0 still.1)) in
      weaken g old new (λ c. IsOldOrShort (g.images old) all c ⊎ IsButForEighth still.0 c) (IsSpared (g.images old) all)
      (λ c either. ⊎_elim (λ was. (c, was, inl refl)) (λ other. (still.0, between, inr other)) either)
      (joins g old mid new (IsOldOrShort (g.images old) all) (IsButForEighth still.0) first
      (from_told (g.held mid) (λ all. LeavesOnly g mid new (IsButForEighth all)) renewed still.0 still.1)))

module _ {D : Type 0} (g : Ghosts D) (old mid : D) (p : Places)
    (mounted : IfTold (g.held old) (λ all. LeavesOnly g old mid (IsOldOrFound (g.images old) all))) where
  -- a mount
  pub left-mounted : IfTold (g.held old) (λ all. LeavesOnly g old mid (IsOldOrBooted (g.images old) all p))
  left-mounted = on_told (g.held old) (λ all. LeavesOnly g old mid (IsOldOrBooted (g.images old) all p)) (λ all told.
      weaken g old mid (IsOldOrFound (g.images old) all) (IsOldOrBooted (g.images old) all p) (found-booted (g.images old) all p)
      (from_told (g.held old) (λ all. LeavesOnly g old mid (IsOldOrFound (g.images old) all)) mounted all told))

  -- a mount, and then the append of the boot record
  pub left-booted : (new : D) (records : List Rec) → is_some (g.held mid) ≡ is_some (g.held old) → IfTold (g.held old) (λ all. StandsFor all records)
      → IfTold (g.held mid) (λ _. LeavesOnly g mid new (StandsForEither records (boot_of records p))) → IfTold (g.held old) (λ all. LeavesOnly g old new (IsOldOrBooted (g.images old) all p))
  left-booted new records told stands appended = on_told (g.held old) (λ all. LeavesOnly g old new (IsOldOrBooted (g.images old) all p)) (λ all is.
      let still = tells (g.held mid) (told ∙ ap is_some is) in
      let found = from_told (g.held old) (λ all. StandsFor all records) stands all is in
      weaken g old new (λ c. IsOldOrBooted (g.images old) all p c ⊎ StandsForEither records (boot_of records p) c) (IsOldOrBooted (g.images old) all p) (λ c either. ⊎_elim (λ was. was) (λ is. inr (records, found, is)) either)
      (joins g old mid new (IsOldOrBooted (g.images old) all p) (StandsForEither records (boot_of records p))
      (from_told (g.held old) (λ all. LeavesOnly g old mid (IsOldOrBooted (g.images old) all p)) left-mounted all is)
      (from_told (g.held mid) (λ _. LeavesOnly g mid new (StandsForEither records (boot_of records p))) appended still.0 still.1)))

-- what a boot leaves is recorded, where each list that was left before it is
recorded-booted : {D : Type 0} (key : List ℕ) (u : List NoteKind) (m : Option (List Motion)) (g : Ghosts D) (d : D) (all : List ℕ) (p : Places) (c : List ℕ) → is_some (g.held d) ≡ true → g.images d all
    → EachStands (g.images d) → ((records : List Rec) → MayLeave g d records → IsRecorded key u m records) → IsOldOrBooted (g.images d) all p c → StandsForSome (IsRecorded key u m) c
recorded-booted key u m g d all p c told here each recorded (inl was) =
    let list = each c was in
    record { records = list.0; stands = list.1; such = recorded list.0 (record { told = told; bytes = c; left = was; stands = list.1 }) }
recorded-booted key u m g d all p c told here each recorded (inr (records, found, either)) =
    let before = recorded records (record { told = told; bytes = all; left = here; stands = found }) in
    recorded-either key u m records (boot_of records p) c before (IsRecorded-boot key u records p m before) either

pub left-boot : {D : Type 0} (g : Ghosts D) (old new : D) (key : List ℕ) (u : List NoteKind) (m : Option (List Motion)) (p : Places)
    → ((d : D) (all : List ℕ) → g.held d ≡ Some all → g.images d all) → ((records : List Rec) → MayLeave g old records → IsRecorded key u m records)
    → IfTold (g.held old) (λ all. LeavesOnly g old new (IsOldOrBooted (g.images old) all p)) → IfTold (g.held old) (λ _. EachStands (g.images old) → LeavesOnly g old new (StandsForSome (IsRecorded key u m)))
left-boot g old new key u m p as_read recorded moments = on_told (g.held old) (λ _. EachStands (g.images old) → LeavesOnly g old new (StandsForSome (IsRecorded key u m))) (λ all told each.
    weaken g old new (IsOldOrBooted (g.images old) all p) (StandsForSome (IsRecorded key u m))
    (λ c left. recorded-booted key u m g old all p c (ap is_some told) (as_read old all told) each recorded left)
    (from_told (g.held old) (λ all. LeavesOnly g old new (IsOldOrBooted (g.images old) all p)) moments all told))

-- a boot that never called its disk leaves it as it was
module _ {D : Type 0} (g : Ghosts D) (d : D) (only_now : (c : List ℕ) → g.images_since d (g.moment d) c → g.images d c) where
  pub unread-either : (p : Places) → IfTold (g.held d) (λ _. (records : List Rec) → ((c : List ℕ) → g.images d c → StandsFor c records) → (c : List ℕ) → g.images d c → StandsForEither records (boot_of records p) c)
  unread-either p = on_told (g.held d) (λ _. (records : List Rec) → ((c : List ℕ) → g.images d c → StandsFor c records) → (c : List ℕ) → g.images d c → StandsForEither records (boot_of records p) c) (λ all told records each c now. inl (each c now))

  pub unread-quiet : IsQuiet g d d
  unread-quiet = record { same = refl; adds_none = λ c now. now; moments = started g d (g.images d) only_now; later = omega arith }

  pub unread-unlisted : IfTold (g.held d) (λ all. ((records : List Rec) → ¬ StandsFor all records) → IsQuiet g d d)
  unread-unlisted = on_told (g.held d) (λ all. ((records : List Rec) → ¬ StandsFor all records) → IsQuiet g d d) (λ all told none. unread-quiet)

  pub unread-spared : IfTold (g.held d) (λ all. LeavesOnly g d d (IsSpared (g.images d) all))
  unread-spared = on_told (g.held d) (λ all. LeavesOnly g d d (IsSpared (g.images d) all)) (λ all told.
      started g d (IsSpared (g.images d) all) (λ c left. (c, inl (only_now c left), inl refl)))

  pub unread-booted : (p : Places) → IfTold (g.held d) (λ all. LeavesOnly g d d (IsOldOrBooted (g.images d) all p))
  unread-booted p = on_told (g.held d) (λ all. LeavesOnly g d d (IsOldOrBooted (g.images d) all p)) (λ all told.
      started g d (IsOldOrBooted (g.images d) all p) (λ c left. inl (only_now c left)))
