-- A disk in memory to which nothing was written has no records, which agrees with a mechanism that did nothing.
use Rattle.std.proofs.Common.{◌≡◌, inl, inr, ℕ, ◌<◌, List, [], ◌∷◌, ◌++◌, length, ap, arith, length-append}
use Rattle.std.specs.declared.option.Option.{Option}
use Rattle.xfs_base.specs.Causes.{IfTold}
use Rattle.xfs_base.specs.declared.money.NoteKind.{NoteKind}
use Rattle.xfs_disk.specs.MemDisk.{IsImage as MayBe, bytes_of, steps_of}
use Rattle.xfs_disk.specs.declared.memory.MemDisk.{MemDisk}
use Rattle.xfs_mech.specs.declared.motion.Motion.{Motion}
use Rattle.xfs_journal.specs.Image.{IsImage, StandsFor, blocks, magic}
use Rattle.xfs_journal.specs.declared.record.Rec.{Rec}
use Rattle.xfs_guard.specs.Recorded.{IsRecorded}
use Rattle.xfs_guard.proofs.StartLaws.{recorded-empty}

pub short_is_no_image : (bytes : List ℕ) (records : List Rec) → length bytes < 9 → ¬ IsImage bytes records
short_is_no_image bytes records short image =
    let size = ap length image.bytes_are in
    let joined = length-append (magic ++ blocks records) (image.gate ∷ image.rest) in
    let front = length-append magic (blocks records) in
    absurd (omega (arith, size, joined, front, short))

pub starts_empty : (m : MemDisk) (key : List ℕ) (units : List NoteKind) (did : Option (List Motion)) → steps_of m ≡ [] → ((records : List Rec) → ¬ IsImage (bytes_of m) records) → IfTold did (λ l. l ≡ [])
    → (image : List ℕ) → MayBe m image → (records : List Rec) → StandsFor image records → IsRecorded key units did records
starts_empty m key units did settled none fresh image is records (inl it) = absurd (none records (rw (rw settled at is) at it))
starts_empty m key units did settled none fresh image is records (inr empty) = rw empty.0 (recorded-empty key units did fresh)
