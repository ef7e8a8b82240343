-- What a run starts from on a disk in memory: nothing is pending, and bytes that are the image of no list have no records.
use Rattle.std.proofs.Common.{◌≡◌, ◌≢◌, inl, inr, ℕ, ◌<◌, List, [], ◌∷◌, ◌++◌, length, None, Some, sym, ◌∙◌, ap, arith, length-append}
use Rattle.std.specs.declared.option.Option.{Option}
use Rattle.xfs_base.specs.Causes.{IfTold}
use Rattle.xfs_base.specs.declared.money.NoteKind.{NoteKind}
use Rattle.xfs_disk.specs.Disk.{Only}
use Rattle.xfs_disk.specs.MemDisk.{IsImage as MayBe, bytes_of, steps_of}
use Rattle.xfs_disk.specs.declared.memory.MemDisk.{MemDisk}
use Rattle.xfs_mech.specs.declared.motion.Motion.{Motion}
use Rattle.xfs_journal.specs.Image.{IsImage, StandsFor, blocks, magic}
use Rattle.xfs_journal.specs.declared.record.Rec.{Rec}
use Rattle.xfs_journal.specs.declared.record.Rec.TheVariants.{Order}
use Rattle.xfs_journal.proofs.Unique.{head_of}
use Rattle.xfs_journal.proofs.JournalLaws.{record_at-within}
use Rattle.xfs_guard.specs.Agrees.{Agrees}
use Rattle.xfs_guard.specs.Recorded.{IsRecorded}
use Rattle.xfs_guard.specs.Within.{Within}

-- no list has these bytes as its image
abbrev pub HasNoImage : List ℕ → Type 0
HasNoImage bytes = (J : List Rec) → ¬ IsImage bytes J

pub short-no_image : (bytes : List ℕ) → length bytes < 9 → HasNoImage bytes
short-no_image bytes short J image =
    let size = ap length image.bytes_are in
    let joined = length-append (magic ++ blocks J) (image.gate ∷ image.rest) in
    let front = length-append magic (blocks J) in
    absurd (omega (arith, size, joined, front, short))

-- what doesn't begin with the X of the magic
pub other-no_image : (bytes rest : List ℕ) (x : ℕ) → bytes ≡ x ∷ rest → x ≢ 0x58 → HasNoImage bytes
other-no_image bytes rest x is other J image = other (ap head_of (sym is ∙ image.bytes_are))

pub at_rest-memory : (m : MemDisk) → steps_of m ≡ [] → Only (bytes_of m) (MayBe m)
at_rest-memory m settled c is = rw settled at is

-- an empty list is recorded beside a mechanism that did nothing
pub recorded-empty : (key : List ℕ) (units : List NoteKind) (L : Option (List Motion)) → IfTold L (λ l. l ≡ []) → IsRecorded key units L []
recorded-empty key units L fresh = record { numbered = tt; agrees = agrees L fresh; within = within L fresh }
  where
    agrees : (L : Option (List Motion)) → IfTold L (λ l. l ≡ []) → IfTold L (Agrees [])
    agrees None fresh = tt
    agrees (Some l) fresh = rw fresh (record { rising = tt; asked = tt; shape = tt; done = λ n k c m d o e. absurd (let w = record_at-within [] n (Order k c) o in omega (arith, w.0, w.1)) })

    within : (L : Option (List Motion)) → IfTold L (λ l. l ≡ []) → IfTold L (Within key units [])
    within None fresh = tt
    within (Some l) fresh = rw fresh tt

pub starts-memory : (m : MemDisk) (key : List ℕ) (units : List NoteKind) (L : Option (List Motion)) → steps_of m ≡ [] → HasNoImage (bytes_of m) → IfTold L (λ l. l ≡ [])
    → (c : List ℕ) → MayBe m c → (J : List Rec) → StandsFor c J → IsRecorded key units L J
starts-memory m key units L settled none fresh c is J (inl image) = absurd (none J (rw (at_rest-memory m settled c is) at image))
starts-memory m key units L settled none fresh c is J (inr empty) = rw empty.0 (recorded-empty key units L fresh)
