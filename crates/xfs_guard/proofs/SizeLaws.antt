-- How long the journal grows by one record, and that it takes one more while it is fit.
use Rattle.std.proofs.Common.{◌≡◌, ℕ, ◌+◌, ◌-◌, ◌≤◌, Bool, true, false, List, [], ◌∷◌, ◌++◌, length, None, Some, refl, arith, length-append}
use Rattle.std.specs.Prelude.{nat_lt, ◌||◌, if◌then◌else◌}
use Rattle.std.specs.Int.{to_be_bytes, w16}
use Rattle.std.proofs.lemmas.Bool.{ltb-false, ltb-true, or_parts, or_from}
use Rattle.xfs_base.specs.declared.counts.Counts.{Counts}
use Rattle.xfs_base.specs.declared.counts.Kind.{Kind}
use Rattle.xfs_journal.specs.Image.{body, framed, blocks, magic, size}
use Rattle.xfs_journal.proofs.Decoding.{length-numbers}
use Rattle.xfs_journal.specs.declared.record.Rec.TheVariants.{Order, Done}
use Rattle.xfs_journal.specs.JournalView.{exceeds}
use Rattle.xfs_journal.specs.declared.limits.Limits.{Limits}
use Rattle.xfs_journal.specs.declared.record.Rec.{Rec}
use Rattle.xfs_guard.specs.declared.deny.Deny.{Deny}
use Rattle.xfs_guard.specs.Fits.{is_short, unfit}
use Rattle.xfs_guard.specs.LedgerView.{LedgerView, write_refusal}
use Rattle.xfs_guard.specs.View.{View, GuardView}
use Rattle.xfs_guard.proofs.CoveredLaws.{done-short}

framed-length : (r : Rec) → length (framed r) ≡ 2 + length (body r)
framed-length r = omega (arith, length-append (to_be_bytes w16 (length (body r))) (body r))

blocks-longer : (records : List Rec) (r : Rec) → length (blocks (records ++ r ∷ [])) ≡ length (blocks records) + (3 + length (body r))
blocks-longer [] r = omega (arith, length-append (framed r) [], framed-length r)
blocks-longer (x ∷ xs) r = omega (arith, length-append (framed x) (blocks (xs ++ r ∷ [])), length-append (framed x) (blocks xs), blocks-longer xs r)

-- a record takes three bytes and its body
pub size-longer : (records : List Rec) (r : Rec) → size (records ++ r ∷ []) ≡ size records + (3 + length (body r))
size-longer records r = omega (arith, length-append magic (blocks (records ++ r ∷ [])), length-append magic (blocks records), blocks-longer records r)

not-under : (a b : ℕ) → b ≤ a → nat_lt a b ≡ false
not-under a b le = go (nat_lt a b) refl
  where
    go : (t : Bool) → nat_lt a b ≡ t → nat_lt a b ≡ false
    go false e = e
    go true e = let lt = ltb-true a b e in absurd (omega arith)

-- a journal that takes more records: it isn't shut, enough is left, and its boot record isn't missing
pub fit-parts : (v : View) → unfit v ≡ None → (v.shut ≡ false) × (is_short v ≡ false) × (v.boot_missing ≡ false)
fit-parts v e = go v.shut v.boot_missing (is_short v) e
  where
    go : (s m f : Bool) → (if s then Some Deny.Shut else if m || f then Some Deny.Full else None) ≡ None → (s ≡ false) × (f ≡ false) × (m ≡ false)
    go true m f e = cc
    go false true f e = cc
    go false false true e = cc
    go false false false e = (refl, refl, refl)

-- it takes one more record of up to 1,025 bytes
pub takes-one : (limits : Limits) (base : ℕ) (records : List Rec) (r : Rec) → (nat_lt (limits.records - (length records - base)) 3 || nat_lt (limits.bytes - size records) 2048) ≡ false → length (body r) ≤ 1025 → exceeds limits base (records ++ r ∷ []) ≡ false
takes-one limits base records r free short =
    let parts = or_parts (nat_lt (limits.records - (length records - base)) 3) (nat_lt (limits.bytes - size records) 2048) free in
    let many = ltb-false (limits.records - (length records - base)) 3 parts.0 in
    let bytes = ltb-false (limits.bytes - size records) 2048 parts.1 in
    or_from (nat_lt limits.records (length (records ++ r ∷ []) - base)) (nat_lt limits.bytes (size (records ++ r ∷ [])))
    (not-under limits.records (length (records ++ r ∷ []) - base) (omega (arith, many, length-append records (r ∷ []))))
    (not-under limits.bytes (size (records ++ r ∷ [])) (omega (arith, bytes, size-longer records r, short)))

-- the same of a guard's view that stands for another
pub fit-at : {D : Type 0} (a b : GuardView D) → a ≡ b → unfit b.state ≡ None → (a.state.shut ≡ false) × (is_short a.state ≡ false) × (a.state.boot_missing ≡ false)
fit-at a b e fit = fit-parts a.state (rw e fit)

-- a ledger that is open and takes one more record refuses none
pub may-write : {D : Type 0} (l : LedgerView D) (r : Rec) → l.shut ≡ false → l.boot_missing ≡ false → exceeds l.limits l.base (l.records ++ r ∷ []) ≡ false → write_refusal l r ≡ None
may-write l r e m f = go l.shut l.boot_missing (exceeds l.limits l.base (l.records ++ r ∷ [])) e m f
  where
    go : (s b p : Bool) → s ≡ false → b ≡ false → p ≡ false → (if s then Some Deny.Shut else if b then Some Deny.Full else if p then Some Deny.Full else None) ≡ None
    go true b p e m f = cc
    go false true p e m f = cc
    go false false true e m f = cc
    go false false false e m f = refl

-- a ledger that refuses no record is open
pub write-open : {D : Type 0} (a b : LedgerView D) (r : Rec) → a ≡ b → write_refusal b r ≡ None → (a.shut ≡ false) × (a.boot_missing ≡ false)
write-open a b r same none = go a.shut a.boot_missing (exceeds a.limits a.base (a.records ++ r ∷ [])) (rw same none)
  where
    go : (s m p : Bool) → (if s then Some Deny.Shut else if m then Some Deny.Full else if p then Some Deny.Full else None) ≡ None → (s ≡ false) × (m ≡ false)
    go true m p e = cc
    go false true p e = cc
    go false false p e = (refl, refl)

pub order-short : (k : Kind) (c : Counts) → length c.0 ≡ 8 → length (body (Order k c)) ≡ 34
order-short k c e = omega (arith, length-numbers c.0, e)

-- the limits leave an open order its Done
pub takes-done : (limits : Limits) (base : ℕ) (records : List Rec) (m d : Counts) → length m.0 ≡ 8 → length d.0 ≡ 8 → (length records - base + 1 ≤ limits.records) × (size records + 68 ≤ limits.bytes) → exceeds limits base (records ++ Done m d ∷ []) ≡ false
takes-done limits base records m d e f room =
    or_from (nat_lt limits.records (length (records ++ Done m d ∷ []) - base)) (nat_lt limits.bytes (size (records ++ Done m d ∷ [])))
    (not-under limits.records (length (records ++ Done m d ∷ []) - base) (omega (arith, room.0, length-append records (Done m d ∷ []))))
    (not-under limits.bytes (size (records ++ Done m d ∷ [])) (omega (arith, room.1, size-longer records (Done m d), done-short m d e f)))

-- a journal that is not full leaves an order room for its Done
pub leaves-done : (limits : Limits) (base : ℕ) (records : List Rec) (k : Kind) (c : Counts) → (nat_lt (limits.records - (length records - base)) 3 || nat_lt (limits.bytes - size records) 2048) ≡ false → length c.0 ≡ 8
    → (length (records ++ Order k c ∷ []) - base + 1 ≤ limits.records) × (size (records ++ Order k c ∷ []) + 68 ≤ limits.bytes)
leaves-done limits base records k c free e =
    let parts = or_parts (nat_lt (limits.records - (length records - base)) 3) (nat_lt (limits.bytes - size records) 2048) free in
    let many = ltb-false (limits.records - (length records - base)) 3 parts.0 in
    let bytes = ltb-false (limits.bytes - size records) 2048 parts.1 in
    (omega (arith, many, length-append records (Order k c ∷ [])), omega (arith, bytes, size-longer records (Order k c), order-short k c e))
