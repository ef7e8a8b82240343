-- A list that was read again, and the room that there was for its boot record.
use Rattle.std.proofs.Common.{◌≡◌, ℕ, false, List, [], ◌∷◌, Option, ap, arith, sym, subst, ◌∙◌, length, take, length-append}
use Rattle.std.proofs.lemmas.List.{take-append-le, take_all}
use Rattle.xfs_base.specs.declared.counts.Places.{Places}
use Rattle.xfs_guard.specs.Booting.{HadRoom, has_no_room_at_boot}
use Rattle.xfs_journal.specs.Journal.{boot_of, with_boot}
use Rattle.xfs_journal.specs.declared.limits.Limits.{Limits}
use Rattle.xfs_journal.specs.declared.record.Rec.{Rec}

-- lists are the same that are so behind their boot record
same_read : (read records : List Rec) (places : Places) → with_boot read places ≡ with_boot records places → read ≡ records
same_read read records places is =
    let one = length-append read (boot_of read places ∷ []) in
    let other = length-append records (boot_of records places ∷ []) in
    let sizes = ap (λ (l : List Rec). length l) is in
    let same : length read ≡ length records = omega (arith, one, other, sizes) in
    sym (take-append-le (length read) read (boot_of read places ∷ []) (omega arith) ∙ take_all (length read) read (omega arith))
    ∙ ap (λ (l : List Rec). take (length read) l) is
    ∙ take-append-le (length read) records (boot_of records places ∷ []) (omega (arith, same)) ∙ take_all (length read) records (omega (arith, same))

-- there was room for the boot record behind the list that was read
pub fits_read : (held : Option (List ℕ)) (limits : Limits) (places : Places) (records now : List Rec) → now ≡ with_boot records places → HadRoom held limits places now
    → has_no_room_at_boot limits records places ≡ false
fits_read held limits places records now is (read, stands, room) =
    subst (λ (l : List Rec). has_no_room_at_boot limits l places ≡ false) (same_read read records places (sym room.0 ∙ is)) room.1
