-- What comes back of a command beside its link: its status, and the mechanism and the disk of each machine.
use Rattle.std.specs.Prelude.{ℕ, ◌≡◌, None, Option}
use Rattle.xfs_lines.specs.declared.ended.Ended.{Ended}
use Rattle.xfs_guard.specs.declared.bench.Bench.{Bench}
use Rattle.xfs_guard.specs.declared.machine_core.Core.{Core}

pub record Return (M D : Type 0) : Type 0 where
  pub status : ℕ
  pub mech : M
  pub disk : D

abbrev pub back : {M D L : Type 0} → Ended M D L → Return M D
back ended = record { status = ended.status; mech = ended.mech; disk = ended.disk }

-- the mechanism and the disk of the second machine
abbrev pub second_back : {M D L : Type 0} → Ended M D L → Return M D
second_back ended = record { status = ended.status; mech = ended.second.mech; disk = ended.second.disk }

-- the mechanism and the disk come back as they were
pub record ComesBack {M D : Type 0} (core : Core M D) (result : Return M D) : Type 0 where
  pub mech : result.mech ≡ core.mech
  pub disk : result.disk ≡ core.disk

-- what a command gives back that dialled nothing and left the second machine alone
abbrev pub given_back : {M D L : Type 0} → ℕ → M → D → Core M D → Ended M D L
given_back status mech disk second = record { status = status; mech = mech; disk = disk; link = None; second = record { mech = second.mech; disk = second.disk } }

-- both machines as they were handed in, with this status and this link
abbrev pub untouched : {M D P Q L : Type 0} → Bench M D P Q → ℕ → Option L → Ended M D L
untouched bench status link = record { status = status; mech = bench.core.mech; disk = bench.core.disk; link = link; second = record { mech = bench.second.mech; disk = bench.second.disk } }
