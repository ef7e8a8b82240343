-- What a crash leaves of a disk, now and at every moment since an earlier state of it.
use Rattle.std.specs.Prelude.{◌⊎◌, ℕ, ◌≤◌, List}
use Rattle.xfs_base.specs.Causes.{IfTold}
use Rattle.xfs_disk.specs.declared.disk.Disk.{Ghosts}

-- Each image of each moment since `old` is such.
pub record LeavesOnly {D : Type 0} (g : Ghosts D) (old new : D) (IsSuch : List ℕ → Type 0) : Type 0 where
  pub later : g.moment old ≤ g.moment new
  pub each : (c : List ℕ) → g.images_since new (g.moment old) c → IsSuch c
  -- for a run that began earlier
  pub before : (t : ℕ) (c : List ℕ) → t ≤ g.moment old → g.images_since new t c → g.images_since old t c ⊎ IsSuch c

-- where the disk tells its bytes, each image is such: a crash now leaves nothing else
abbrev pub EachImage : {D : Type 0} → Ghosts D → D → (List ℕ → Type 0) → Type 0
EachImage g disk IsSuch = IfTold (g.held disk) (λ _. (c : List ℕ) → g.images disk c → IsSuch c)

-- where the disk told its bytes, each image of each moment since is such, by those bytes: a crash in between left nothing else
abbrev pub EachMoment : {D : Type 0} → Ghosts D → D → D → (List ℕ → List ℕ → Type 0) → Type 0
EachMoment g old new IsSuch = IfTold (g.held old) (λ all. LeavesOnly g old new (IsSuch all))
