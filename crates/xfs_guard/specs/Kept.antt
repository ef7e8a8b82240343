-- What stands in a guard beside what is seen of it.
use Rattle.std.specs.Prelude.{◌≡◌, ℕ, ◌+◌, ◌-◌, ◌<◌, ◌≤◌, true, false, List, [], ◌∷◌, ◌++◌, None, length, ⊤}
use Rattle.xfs_base.specs.declared.money.NoteKind.{NoteKind}
use Rattle.xfs_journal.specs.Image.{size}
use Rattle.xfs_journal.specs.JournalView.{IsPossible, exceeds}
use Rattle.xfs_journal.specs.declared.record.Rec.{Rec}
use Rattle.xfs_journal.specs.declared.record.Rec.TheVariants.{Done}
use Rattle.xfs_guard.specs.declared.open.Open.{Open}
use Rattle.xfs_guard.specs.declared.open.Open.TheVariants.{No, Written, Acted}
use Rattle.xfs_guard.specs.View.{View}
use Rattle.xfs_guard.specs.Balance.{IsBalanced}
use Rattle.xfs_guard.specs.Sound.{IsSound}
use Rattle.xfs_guard.specs.Recorded.{IsRecorded}

-- room for the entry and the record that an open order still adds
abbrev pub HasRoom : Open → ℕ → ℕ → Type 0
HasRoom No spare room = ⊤
HasRoom (Written kind counts) spare room = (0 < spare) × (0 < room)
HasRoom (Acted kind moved diverted failed) spare room = 0 < room

-- the limits, which count the records that memory has and the bytes of the file, leave a written order its Done, which has 68 bytes with its gate, and an acted one the Done that it gets
abbrev pub HasLimits : Open → View → Type 0
HasLimits No v = ⊤
HasLimits (Written kind counts) v = (length v.records - v.base + 1 ≤ v.limits.records) × (size v.records + 68 ≤ v.limits.bytes)
HasLimits (Acted kind moved diverted failed) v = exceeds v.limits v.base (v.records ++ Done moved diverted ∷ []) ≡ false

-- What a guard is: sound while its journal isn't shut and has its boot record, with room to carry its order through, over a mechanism of its units, whose notes balance with the last boot record. Each list that the disk may have agrees with the mechanism's, where both are told.
pub record IsKept (v : View) (spare left : ℕ) (kinds : List NoteKind) : Type 0 where
  pub sound : v.shut ≡ false → v.boot_missing ≡ false → IsSound v
  pub clean : v.shut ≡ false → v.in_doubt ≡ None
  pub balanced : IsBalanced v.records v.booted v.loaded v.places
  pub closed : v.shut ≡ true → v.open_order ≡ No
  pub missing : v.boot_missing ≡ true → v.open_order ≡ No
  pub recorded : v.disk_told ≡ true → (records : List Rec) → IsPossible v.records v.in_doubt records → IsRecorded v.key v.units v.motions records
  pub room : HasRoom v.open_order spare left
  pub limits : HasLimits v.open_order v
  pub units : kinds ≡ v.units
