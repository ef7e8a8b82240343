-- The disk in memory behind a disk that fails, and which calls fail.
use Rattle.std.specs.Prelude.{◌≡◌, ℕ, Bool, ◌+◌, List, Vec, OnOk, OnErr}
use Rattle.std.specs.declared.alloc.Global.{Global}
use Rattle.std.specs.declared.result.Result.{Result}
use Rattle.xfs_base.specs.Causes.{HasCause, Rose, next_count}
use Rattle.xfs_disk.specs.MemDisk.{faults_of, TimeGoesOn}
use Rattle.xfs_disk.specs.declared.faulty.FaultRule.{Ghosts}
use Rattle.xfs_disk.specs.declared.faulty.FaultyDisk.{FaultyDisk}
use Rattle.xfs_disk.specs.declared.file.FileDisk.{FileDisk}
use Rattle.xfs_disk.specs.declared.memory.MemDisk.{MemDisk}

abbrev pub inner_of : {R : Type 0} → FaultyDisk R → MemDisk
inner_of f = f.inner

-- which calls fail
abbrev pub rule_of : {R : Type 0} → FaultyDisk R → R
rule_of f = f.rule

-- the places, from 1, of the calls that fail
abbrev pub failing_calls : FaultyDisk (Vec ℕ Global) → List ℕ
failing_calls f = f.rule.items

-- how many calls were made
abbrev pub calls_of : {R : Type 0} → FaultyDisk R → ℕ
calls_of f = f.calls

abbrev pub faulty_faults : {R : Type 0} → FaultyDisk R → ℕ
faulty_faults f = faults_of f.inner + f.failed

abbrev pub file_faults : FileDisk → ℕ
file_faults d = d.faults

-- a sync of the file has failed
abbrev pub has_lost : FileDisk → Bool
has_lost d = d.lost

-- a call did nothing to the disk behind it
pub record Failed {T E : Type 0} (old new : MemDisk) (result : Result T E) : Type 0 where
  pub fails : OnOk result ⊥
  pub nothing : new ≡ old

-- a call of the disk behind it, which fails only as that disk does
abbrev pub Passed : {T E : Type 0} → MemDisk → MemDisk → Result T E → Type 0
Passed old new result = OnErr result (Rose (faults_of old) (faults_of new))

-- one more call, which fails where the rule names it and counts where it failed; time goes on
pub record FailsByRule {R T E : Type 0} (g : Ghosts R) (old new : FaultyDisk R) (result : Result T E) : Type 0 where
  pub time : TimeGoesOn (inner_of old) (inner_of new)
  pub cause : HasCause (faulty_faults old) (faulty_faults new) result
  pub calls : calls_of new ≡ next_count (calls_of old)
  pub rule : rule_of new ≡ rule_of old
  pub failed : g.names (rule_of old) (calls_of old) → Failed (inner_of old) (inner_of new) result
  pub passed : ¬ g.names (rule_of old) (calls_of old) → Passed (inner_of old) (inner_of new) result
