-- A book of notes: the kinds of notes of its units, and where the notes lie.
use Rattle.std.specs.Prelude.{ℕ, ◌+◌, ◌≤◌, List, length}
use Rattle.xfs_base.specs.Counts.{at}
use Rattle.xfs_base.specs.declared.counts.Counts.{Counts}
use Rattle.xfs_base.specs.declared.counts.Kind.{Kind}
use Rattle.xfs_base.specs.declared.counts.Places.{Places}
use Rattle.xfs_base.specs.declared.money.NoteKind.{NoteKind}
use Rattle.xfs_mech.specs.Mechanism.{source_of, PlacesFit}

pub record Holding : Type 0 where
  pub units : List NoteKind
  pub places : Places

-- the notes lie where this kind of order takes them
abbrev pub LieThere : Kind → Counts → Counts → Places → Type 0
LieThere kind moved diverted places = (u : ℕ) → at moved u + at diverted u ≤ at (source_of kind places) u

-- what a book keeps: at most 8 units, and places within the limits
pub record IsKept (units : List NoteKind) (places : Places) : Type 0 where
  pub few : length units ≤ 8
  pub fit : PlacesFit units places
