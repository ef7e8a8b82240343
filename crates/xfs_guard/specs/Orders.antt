-- What the calls on an open order do.
use Rattle.std.specs.Prelude.{◌≡◌, Bool, true, [], ◌∷◌, ◌++◌, length, Some, None, ⊤}
use Rattle.std.specs.declared.option.Option.{Option}
use Rattle.xfs_base.specs.declared.counts.Counts.{Counts}
use Rattle.xfs_base.specs.declared.counts.Kind.{Kind}
use Rattle.xfs_mech.specs.declared.motion.Motion.TheVariants.{Moved}
use Rattle.xfs_mech.specs.Motions.{PlacesOf}
use Rattle.xfs_mech.specs.Mechanism.{AddsEntry, MayCarry}
use Rattle.xfs_journal.specs.declared.record.Rec.TheVariants.{Done}
use Rattle.xfs_guard.specs.declared.open.Open.{Open}
use Rattle.xfs_guard.specs.declared.open.Open.TheVariants.{No, Written, Acted}
use Rattle.xfs_guard.specs.View.{View}

-- an order is written and not yet acted
abbrev pub IsWritten : Open → Type 0
IsWritten (Written kind counts) = ⊤
IsWritten o = ⊥

-- an order is acted and not yet settled
abbrev pub IsActed : Open → Type 0
IsActed (Acted kind moved diverted failed) = ⊤
IsActed o = ⊥

-- the kind of an order that is written and not yet acted
abbrev pub kind_unacted : Open → Option Kind
kind_unacted (Written kind counts) = Some kind
kind_unacted o = None

-- the written order was carried out, and its outcome counts the notes of eight units
pub record Acts (old new : View) (moved diverted : Counts) (failed : Bool) : Type 0 where
  pub kind : Kind
  pub counts : Counts
  pub written : old.open_order ≡ Written kind counts
  pub carried : MayCarry kind counts moved diverted failed
  pub moved_eight : length moved.0 ≡ 8
  pub diverted_eight : length diverted.0 ≡ 8
  pub motions : AddsEntry old.motions (Moved (length old.records) kind moved diverted) new.motions
  pub places : PlacesOf old.places (Moved (length old.records) kind moved diverted ∷ []) new.places
  pub same : new ≡ record old { open_order = Acted kind moved diverted failed; motions = new.motions; places = new.places; faults = new.faults }

-- the acted order is settled
pub record Settles (old new : View) : Type 0 where
  pub kind : Kind
  pub moved : Counts
  pub diverted : Counts
  pub failed : Bool
  pub acted : old.open_order ≡ Acted kind moved diverted failed
  pub same : new ≡ record old { records = old.records ++ Done moved diverted ∷ []; open_order = No }

-- the disk failed at the Done of the acted order
pub record Unsettles (old new : View) : Type 0 where
  pub kind : Kind
  pub moved : Counts
  pub diverted : Counts
  pub failed : Bool
  pub acted : old.open_order ≡ Acted kind moved diverted failed
  pub same : new ≡ record old { shut = true; in_doubt = Some (Done moved diverted); open_order = No }
