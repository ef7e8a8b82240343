-- What a record that tells places is to those who read the journal, and that a start writes such a record.
use Rattle.std.proofs.Common.{◌≡◌, ℕ, ◌+◌, true, List, None, Some, refl, sym, ap, arith, ◌∙◌}
use Rattle.std.proofs.lemmas.Option.{same_Some}
use Rattle.std.specs.declared.option.Option.{Option}
use Rattle.xfs_base.specs.declared.counts.Places.{Places}
use Rattle.xfs_journal.specs.Journal.{boot_of, boot_places, is_mark, live_after, mark_after, next_issue, next_number, CarriesNumber, issues_in}
use Rattle.xfs_journal.proofs.JournalLaws.{issues_in-next}
use Rattle.xfs_journal.specs.declared.record.Rec.{Rec}
use Rattle.xfs_journal.specs.declared.record.Rec.TheVariants.{Issue, Clear, Expire, Boot, Start, Bind, Order, Done, Load}

-- it is a mark
pub boot-mark : (r : Rec) (p : Places) → boot_places r ≡ Some p → is_mark r ≡ true
boot-mark (Boot q) p is = refl
boot-mark (Start i q) p is = refl
boot-mark (Issue number word) p is = refl
boot-mark Clear p is = refl
boot-mark Expire p is = refl
boot-mark (Bind t) p is = cc
boot-mark (Order k c) p is = cc
boot-mark (Done m d) p is = cc
boot-mark (Load u c) p is = cc

-- no issue lives behind it
pub boot-ends : (r : Rec) (p : Places) → boot_places r ≡ Some p → (count : ℕ) (live : Option ℕ) → live_after count live r ≡ None
boot-ends (Boot q) p is count live = refl
boot-ends (Start i q) p is count live = refl
boot-ends (Issue number word) p is count live = cc
boot-ends Clear p is count live = refl
boot-ends Expire p is count live = refl
boot-ends (Bind t) p is count live = cc
boot-ends (Order k c) p is count live = cc
boot-ends (Done m d) p is count live = cc
boot-ends (Load u c) p is count live = cc

-- it is the last mark
pub boot-marks : (r : Rec) (p : Places) → boot_places r ≡ Some p → (count mark : ℕ) → mark_after count mark r ≡ count + 1
boot-marks r p is count mark = rw (boot-mark r p is) refl

-- it issues no nonce
pub boot-issues_none : (r : Rec) (p : Places) → boot_places r ≡ Some p → (n : ℕ) → next_number n r ≡ n
boot-issues_none (Boot q) p is n = refl
boot-issues_none (Start i q) p is n = refl
boot-issues_none (Issue number word) p is n = cc
boot-issues_none Clear p is n = refl
boot-issues_none Expire p is n = refl
boot-issues_none (Bind t) p is n = refl
boot-issues_none (Order k c) p is n = refl
boot-issues_none (Done m d) p is n = refl
boot-issues_none (Load u c) p is n = refl

-- a start writes its places
pub boot_of-places : (records : List Rec) (p : Places) → boot_places (boot_of records p) ≡ Some p
unfolding boot_of
boot_of-places records p = refl

-- and no others
pub boot_of-only : (records : List Rec) (p q : Places) → boot_places (boot_of records p) ≡ Some q → p ≡ q
boot_of-only records p q is = same_Some p q (sym (boot_of-places records p) ∙ is)

-- what it tells of the nonces' numbers is so
pub boot_of-numbered : (records : List Rec) (p : Places) → CarriesNumber (next_issue records) (boot_of records p)
unfolding boot_of
boot_of-numbered records p = issues_in-next records

-- a number that one more than it is that of the next nonce is the number of the nonces
pub counts-issues : (records : List Rec) (issues : ℕ) → issues + 1 ≡ next_issue records → issues ≡ issues_in records
counts-issues records issues is = omega (arith, is, issues_in-next records)

-- a Start that counts the nonces so is what a start writes
pub boot_of-start : (records : List Rec) (issues : ℕ) (p : Places) → issues + 1 ≡ next_issue records → Start issues p ≡ boot_of records p
unfolding boot_of
boot_of-start records issues p is = ap (λ n. Start n p) (counts-issues records issues is)
