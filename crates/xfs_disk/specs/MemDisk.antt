-- What a disk in memory shows.
use Rattle.std.specs.Prelude.{◌≡◌, ℕ, max, List, length, reverse, OnErr}
use Rattle.std.specs.declared.result.Result.{Result}
use Rattle.xfs_base.specs.Causes.{HasCause, next_count}
use Rattle.xfs_disk.specs.declared.memory.MemDisk.{MemDisk}
use Rattle.xfs_disk.specs.declared.step.Step.{Step}
use Rattle.xfs_disk.specs.Disk.{AddsNone, Elapses}
use Rattle.xfs_disk.specs.Steps.{LeftNow, LeftSince, history}

-- what a read gives
abbrev pub bytes_of : MemDisk → List ℕ
bytes_of m = m.bytes.items

-- the steps of a disk, the oldest first
abbrev pub history_of : MemDisk → List Step
history_of m = history m.settled.items m.steps.items

-- the steps of a disk, the newest first
abbrev pub steps_of : MemDisk → List Step
steps_of m = reverse (history_of m)

-- the images of a disk
abbrev pub IsImage : MemDisk → List ℕ → Type 0
IsImage m = LeftNow (bytes_of m) (steps_of m)

-- the number of a disk's steps
abbrev pub moment_of : MemDisk → ℕ
moment_of m = length (history_of m)

-- the images of a disk at the moments from one on
abbrev pub WasImage : MemDisk → ℕ → List ℕ → Type 0
WasImage m = LeftSince (bytes_of m) (steps_of m)

-- time goes on from one state of a disk to a later one
abbrev pub TimeGoesOn : MemDisk → MemDisk → Type 0
TimeGoesOn old new = Elapses (moment_of old) (moment_of new) (WasImage old) (WasImage new) (IsImage new)

-- a call that changes no byte and adds no image
pub record KeepsBytes (old new : MemDisk) : Type 0 where
  pub same : bytes_of new ≡ bytes_of old
  pub crash : AddsNone (IsImage old) (IsImage new)

-- how often a growth was refused
abbrev pub faults_of : MemDisk → ℕ
faults_of m = m.faults

-- how often it was read, in a count that stands still at its last value
abbrev pub reads_of : MemDisk → ℕ
reads_of m = m.reads

-- the length of the longest buffer that a read was handed
abbrev pub widest_of : MemDisk → ℕ
widest_of m = m.widest

-- a call that reads into a buffer of this length: one read more, and the longest buffer so far
pub record CountsRead (old new : MemDisk) (len : ℕ) : Type 0 where
  pub reads : reads_of new ≡ next_count (reads_of old)
  pub widest : widest_of new ≡ max (widest_of old) len

-- a call that reads nothing
pub record IsUnread (old new : MemDisk) : Type 0 where
  pub reads : reads_of new ≡ reads_of old
  pub widest : widest_of new ≡ widest_of old

-- a call that keeps the bytes and the images
pub record IsUndone (old new : MemDisk) : Type 0 where
  pub bytes : bytes_of new ≡ bytes_of old
  pub steps : steps_of new ≡ steps_of old

-- a call that changes the disk: time goes on, it reads nothing, and where a growth was refused, which it counts, it did nothing
pub record ActsWhole {T E : Type 0} (old new : MemDisk) (result : Result T E) : Type 0 where
  pub time : TimeGoesOn old new
  pub cause : HasCause (faults_of old) (faults_of new) result
  pub unread : IsUnread old new
  pub refused : OnErr result (IsUndone old new)
