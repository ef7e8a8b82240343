-- What an object of the outside tells, and when a call may tell a fault: only where the object's count of faults rose.
use Rattle.std.specs.Prelude.{ℕ, ◌+◌, ◌-◌, ◌^◌, ◌≤◌, min, OnErr, ⊤, None, Some, List, take}
use Rattle.std.specs.declared.result.Result.{Result}
use Rattle.std.specs.declared.option.Option.{Option}
use Rattle.std.specs.Io.KnownBytes.{Appends}

-- a fact of what the object holds, where the object tells it
abbrev pub IfTold : {T : Type 0} → Option T → (T → Type 0) → Type 0
IfTold None P = ⊤
IfTold (Some held) P = P held

-- a count of 64 bits after one more, which stands still at its last value
abbrev pub next_count : ℕ → ℕ
next_count count = min (count + 1) (2 ^ 64 - 1)

-- a count of 64 bits rose, or stands at its last value
abbrev pub Rose : ℕ → ℕ → Type 0
Rose before now = next_count before ≤ now

-- the count didn't fall, and rose where the call failed
pub record HasCause {T E : Type 0} (before now : ℕ) (result : Result T E) : Type 0 where
  pub later : before ≤ now
  pub failed : OnErr result (Rose before now)

-- a prefix of the bytes was taken
pub record TookPrefix (old new : Option (List ℕ)) (bytes : List ℕ) : Type 0 where
  pub many : ℕ
  pub taken : Appends old new (take many bytes)
