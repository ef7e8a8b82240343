-- A fault of a mechanism in memory: which call it names, and what it leaves of an order.
use Rattle.std.specs.Prelude.{◌≡◌, ℕ, ◌+◌, ◌-◌, ◌==◌, min, sum, take, List}
use Rattle.std.specs.List.{find}
use Rattle.std.specs.declared.option.Option.{Option}
use Rattle.xfs_base.specs.Counts.{at}
use Rattle.xfs_base.specs.declared.counts.Counts.{Counts}
use Rattle.xfs_base.specs.declared.counts.Kind.{Kind}
use Rattle.xfs_base.specs.declared.counts.Kind.TheVariants.{Stack}
use Rattle.xfs_mech.specs.declared.fault.Fault.{Fault}

-- the first of the faults that names this call
abbrev pub fault_at : List Fault → ℕ → Option Fault
fault_at faults call = find (λ f. f.call == call) faults

-- how many of the first notes, lower units first, are of the unit at a place: what the lower units leave of them, at most its count
abbrev pub first_notes : Counts → ℕ → ℕ → ℕ
first_notes counts many u = min (at counts u) (many - sum (take u counts.0))

-- an order that meets a fault moves the first notes, and a stack diverts the next ones
pub record StopsAt (fault : Fault) (kind : Kind) (counts moved diverted : Counts) : Type 0 where
  pub first : (u : ℕ) → at moved u ≡ first_notes counts fault.moved u
  pub next : kind ≡ Stack → (u : ℕ) → at moved u + at diverted u ≡ first_notes counts (fault.moved + fault.diverted) u
