-- The images of each moment of a disk in memory, from its bytes and the steps that led to them, of which the newest comes first.
use Rattle.std.specs.Prelude.{◌≡◌, ◌⊎◌, ℕ, zero, suc, ◌+◌, ◌-◌, ◌≤◌, ◌%◌, ◌==◌, nat_le, min, Bool, true, false, ◌&&◌, ◌||◌, if◌then◌else◌, List, [], ◌∷◌, ◌++◌, length, take, drop, replicate}
use Rattle.std.specs.declared.snapshot.Snapshot.{Snapshot}
use Rattle.std.specs.Prelude.{Vec}
use Rattle.std.specs.Global.{Global}
use Rattle.xfs_disk.specs.Disk.{overlaid, Torn, Cut}
use Rattle.xfs_disk.specs.declared.step.Step.{Step}
use Rattle.xfs_disk.specs.declared.step.Step.TheVariants.{Write, Resize, Sync}

-- all steps, the oldest first: those that each sync settled, with the sync behind them, and those since
abbrev pub history : List (Snapshot (Vec Step Global)) → List Step → List Step
history [] since = since
history (s ∷ newer) since = s.value.items ++ Sync ∷ history newer since

-- a write of so many bytes at a place was noted behind the steps, with the bytes that it covers
abbrev pub NotesWrite : ℕ → ℕ → List ℕ → List Step → List Step → Type 0
NotesWrite at len all old new = (was : Vec ℕ Global) × (was.items ≡ take (min len (length all - at)) (drop at all)) × (new ≡ old ++ Write at len was ∷ [])

-- the bytes before a step
abbrev pub before : Step → List ℕ → List ℕ
before (Write at len was) now = take at now ++ was.items ++ drop (at + len) now
before (Resize len was) now = was.items
before Sync now = now

-- what a crash may make of a step: of a sync that succeeded, nothing but the bytes as they read
abbrev pub Makes : Step → List ℕ → List ℕ → Type 0
Makes (Write at len was) old new = Torn at len old new
Makes (Resize len was) old new = Cut len old new
Makes Sync old new = ⊥

-- what a crash may leave: the bytes as they read, or what the newest step makes of an earlier image
abbrev pub LeftNow : List ℕ → List Step → List ℕ → Type 0
LeftNow now [] c = c ≡ now
LeftNow now (s ∷ older) c = (c ≡ now) ⊎ ((d : List ℕ) × LeftNow (before s now) older d × Makes s d c)

-- what a crash at some moment from t on might have left; the moment is the number of steps
abbrev pub LeftSince : List ℕ → List Step → ℕ → List ℕ → Type 0
LeftSince now [] t c = LeftNow now [] c
LeftSince now (s ∷ older) t c = LeftNow now (s ∷ older) c ⊎ ((t ≤ length older) × LeftSince (before s now) older t c)

-- A write lies within the bytes. What it overwrote is no longer than it, and shorter only at the end.
abbrev pub stands : Step → List ℕ → Bool
stands (Write at len was) now = nat_le (at + len) (length now) && nat_le (length was.items) len && (length was.items == len || at + len == length now)
stands s now = true

-- each step stands in the bytes behind it
abbrev pub is_sound : List ℕ → List Step → Bool
is_sound now [] = true
is_sound now (s ∷ older) = stands s now && is_sound (before s now) older

abbrev pub is_sync : Step → Bool
is_sync Sync = true
is_sync s = false

-- the bytes at the last sync
abbrev pub synced : List ℕ → List Step → List ℕ
synced now [] = now
synced now (s ∷ older) = if is_sync s then now else synced (before s now) older

-- a crash in the newest step that leaves one byte everywhere in its range, where it is a write
abbrev pub blotted : ℕ → List ℕ → List Step → List ℕ
blotted byte now (Write at len was ∷ older) = overlaid now at (replicate len byte)
blotted byte now steps = now

-- The image of a pick. With 0 all is lost since the last sync; another pick leaves its last eight bits in each byte of the newest write.
abbrev pub crashed : ℕ → List ℕ → List Step → List ℕ
crashed zero now steps = synced now steps
crashed (suc k) now steps = blotted ((k + 1) % 256) now steps
