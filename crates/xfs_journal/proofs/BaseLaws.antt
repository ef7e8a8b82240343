-- Where the last boot record stands.
use Rattle.std.proofs.Common.{◌≡◌, ◌<◌, ◌≤◌, ◌+◌, ◌||◌, ℕ, Bool, true, false, if◌then◌else◌, List, [], ◌∷◌, ◌++◌, length, take, drop, refl, sym, ◌∙◌, ap, zero-add, arith, get_or, length-take-le, length-append, filter}
use Rattle.std.proofs.lemmas.List.{take_more, take-append-drop}
use Rattle.std.proofs.lemmas.List.Elements.{filter-append}
use Rattle.xfs_journal.specs.declared.record.Rec.{Rec}
use Rattle.xfs_journal.specs.Journal.{is_boot, has_boot, base_of, issues_in, is_issue}

pub has_boot-append : (xs ys : List Rec) → has_boot (xs ++ ys) ≡ has_boot xs || has_boot ys
has_boot-append [] ys = refl
has_boot-append (x ∷ xs) ys = grind (arith, has_boot-append xs ys)

pub base_of-unmarked : (xs : List Rec) → has_boot xs ≡ false → base_of xs ≡ 0
base_of-unmarked [] none = refl
base_of-unmarked (x ∷ xs) none = grind arith

pub base_of-within : (xs : List Rec) → has_boot xs ≡ true → base_of xs < length xs
base_of-within [] some = grind arith
base_of-within (x ∷ xs) some = grind (arith, base_of-within xs)

-- the rest has it
pub boot-kept : (xs : List Rec) → has_boot xs ≡ true → has_boot (drop (base_of xs) xs) ≡ true
boot-kept [] some = some
boot-kept (x ∷ xs) some = grind (arith, boot-kept xs)

pub base_of-append : (front xs : List Rec) → has_boot xs ≡ true → base_of (front ++ xs) ≡ length front + base_of xs
base_of-append [] xs some = sym (zero-add (base_of xs))
base_of-append (f ∷ front) xs some = grind (arith, base_of-append front xs some, has_boot-append front xs)

pub base_of-push : (xs : List Rec) (x : Rec) → base_of (xs ++ x ∷ []) ≡ (if is_boot x then length xs else base_of xs)
base_of-push [] x = grind arith
base_of-push (y ∷ xs) x = grind (arith, base_of-push xs x, has_boot-append xs (x ∷ []))

-- records without a boot record behind leave it
pub base_of-unbooted : (front xs : List Rec) → has_boot xs ≡ false → base_of (front ++ xs) ≡ base_of front
base_of-unbooted [] xs none = base_of-unmarked xs none
base_of-unbooted (f ∷ front) xs none = grind (arith, base_of-unbooted front xs none, has_boot-append front xs)

within : (records : List Rec) (b : Bool) → has_boot records ≡ b → base_of records ≤ length records
within records true is = let lt : base_of records < length records = base_of-within records is in grind arith
within records false is = let none : base_of records ≡ 0 = base_of-unmarked records is in grind arith

pub base_of-le : (records : List Rec) → base_of records ≤ length records
base_of-le records = within records (has_boot records) refl

grown : (xs : List Rec) (x : Rec) (b : Bool) → is_boot x ≡ b → base_of xs ≤ base_of (xs ++ x ∷ [])
grown xs x true is = let push = base_of-push xs x in let le = base_of-le xs in grind arith
grown xs x false is = let push = base_of-push xs x in grind arith

-- one record more leaves it or is the last itself
pub base_of-grows : (xs : List Rec) (x : Rec) → base_of xs ≤ base_of (xs ++ x ∷ [])
base_of-grows xs x = grown xs x (is_boot x) refl

module _ (xs : List Rec) (i : ℕ) (d : Rec) (lt : i < length xs) where
  pub step-boot : is_boot (get_or xs i d) ≡ true → i ≡ base_of (take (i + 1) xs)
  step-boot is = rw (take_more xs i d lt, base_of-push (take i xs) (get_or xs i d), is, length-take-le i xs (omega arith)) refl

  pub step-other : is_boot (get_or xs i d) ≡ false → base_of (take i xs) ≡ base_of (take (i + 1) xs)
  step-other isnt = rw (take_more xs i d lt, base_of-push (take i xs) (get_or xs i d), isnt) refl

pub issues-append : (xs ys : List Rec) → issues_in (xs ++ ys) ≡ issues_in xs + issues_in ys
issues-append xs ys = rw (filter-append is_issue xs ys) (length-append (filter is_issue xs) (filter is_issue ys))

-- the nonces of the whole list are those in front of a place and those behind it
pub issues-split : (records : List Rec) (n : ℕ) → issues_in (take n records) + issues_in (drop n records) ≡ issues_in records
issues-split records n = sym (issues-append (take n records) (drop n records)) ∙ ap issues_in (take-append-drop n records)

short : (records : List Rec) (b : Bool) → has_boot records ≡ b → 0 < base_of records → base_of records < length records
short records true is some = base_of-within records is
short records false is some = let none : base_of records ≡ 0 = base_of-unmarked records is in absurd (omega (arith, none, some))

-- where it isn't 0 a boot record stands behind it
pub base_of-short : (records : List Rec) → 0 < base_of records → base_of records < length records
base_of-short records some = short records (has_boot records) refl some

pub issues-le : (records : List Rec) → issues_in records ≤ length records
issues-le [] = omega arith
issues-le (x ∷ records) = grind (arith, issues-le records)
