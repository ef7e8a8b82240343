-- The card slot, as its state is seen.
use Rattle.std.specs.Prelude.{List, Bool, true, false}
use Rattle.xfs_mech.specs.Tracks.{CardTracks}
use Rattle.xfs_card.specs.declared.place.Place.{Place}
use Rattle.xfs_card.specs.declared.place.Place.TheVariants as place

-- where the card is: in no place, and perhaps a Read of these tracks waits for one; inside; or at the exit
pub data Slot : Type 0 where
  empty : Slot
  awaited : List Bool → Slot
  inside : CardTracks → Slot
  at_exit : Slot

abbrev pub slot_of : Place → Slot
slot_of place.Empty = empty
slot_of (place.Awaited tracks) = awaited tracks
slot_of (place.Inside card) = inside card
slot_of place.AtExit = at_exit

abbrev pub is_awaited : Slot → Bool
is_awaited empty = false
is_awaited (awaited asked) = true
is_awaited (inside card) = false
is_awaited at_exit = false

abbrev pub is_at_exit : Slot → Bool
is_at_exit empty = false
is_at_exit (awaited asked) = false
is_at_exit (inside card) = false
is_at_exit at_exit = true
