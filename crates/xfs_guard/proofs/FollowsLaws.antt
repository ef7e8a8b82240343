-- Places and what follows from what, over several steps.
use Rattle.std.proofs.Common.{◌≡◌, ⊎_elim, inl, inr, ℕ, ◌<◌, ◌≤◌, List, [], ◌∷◌, ◌++◌, length, Some, refl, sym, ◌∙◌, ap, arith, length-append, append_assoc}
use Rattle.std.proofs.lemmas.List.{append-nil}
use Rattle.std.proofs.lemmas.Bool.{cases_lt}
use Rattle.std.specs.List.{AllByRecursion}
use Rattle.xfs_base.specs.declared.counts.Places.{Places}
use Rattle.xfs_mech.specs.declared.motion.Motion.{Motion}
use Rattle.xfs_journal.specs.declared.record.Rec.{Rec}
use Rattle.xfs_journal.specs.Journal.{boot_of, boot_places, record_at, with_boot}
use Rattle.xfs_guard.specs.Follows.{BootFits, Follows}
use Rattle.xfs_mech.specs.Motions.{NumberIs}
use Rattle.xfs_mech.proofs.MotionLaws.{all-append, all-numbers, PlacesOf-same, PlacesOf-append}
use Rattle.xfs_journal.proofs.StartLaws.{boot_of-only}
use Rattle.xfs_journal.proofs.JournalLaws.{record_at-append, record_at-cases, record_at-within}

-- nothing happened
unfoldable pub Follows-same : (records : List Rec) (motions : List Motion) (places : Places) → Follows records motions places records motions places
Follows-same records motions places = record {
  recs = [];
  moves = [];
  grew = sym (append-nil records);
  moved = sym (append-nil motions);
  reached = PlacesOf-same places;
  later = tt;
  boots = λ n r p lt e told. let w = record_at-within records n r e in absurd (omega arith);
}

-- one more record, which has the places where it is a boot record
unfoldable pub Follows-record : (records : List Rec) (r : Rec) (motions : List Motion) (was : Places) → ((p : Places) → boot_places r ≡ Some p → was ≡ p) → Follows records motions was (records ++ r ∷ []) motions was
Follows-record records r motions was boots = record {
  recs = r ∷ [];
  moves = [];
  grew = refl;
  moved = sym (append-nil motions);
  reached = PlacesOf-same was;
  later = tt;
  boots = fits;
}
  where
    fits : (n : ℕ) (x : Rec) (p : Places) → length records < n → record_at (records ++ r ∷ []) n ≡ Some x → boot_places x ≡ Some p → BootFits was [] n p
    fits n x p lt e told = ⊎_elim (λ h. let le : n ≤ length records = h.0 in absurd (omega arith)) (λ h. record { prefix = []; back = []; split = refl; reached = rw (boots p (ap boot_places h.1 ∙ told)) (PlacesOf-same p); before = tt; after = tt }) (record_at-cases records r n x e)

-- the numbers of the entries in between are no greater than the list's length, and the rest composes
unfoldable pub Follows-trans : (records records' records'' : List Rec) (motions motions' motions'' : List Motion) (places places' places'' : Places)
    → (a : Follows records motions places records' motions' places') → AllByRecursion (NumberIs (λ n. n ≤ length records')) a.moves
    → Follows records' motions' places' records'' motions'' places'' → Follows records motions places records'' motions'' places''
Follows-trans records records' records'' motions motions' motions'' places places' places'' a small b = record {
  recs = a.recs ++ b.recs;
  moves = a.moves ++ b.moves;
  grew = rw (b.grew, a.grew) (append_assoc records a.recs b.recs);
  moved = rw (b.moved, a.moved) (append_assoc motions a.moves b.moves);
  reached = PlacesOf-append places places' places'' a.moves b.moves a.reached b.reached;
  later = all-append (NumberIs (λ n. length records ≤ n)) a.moves b.moves a.later (all-numbers (λ n. length records' ≤ n) (λ n. length records ≤ n) b.moves (λ n h. omega (arith, longer)) b.later);
  boots = λ n r p lt e told. elim (cases_lt (length records') n) [ inl above ↦ new n r p above e told | inr below ↦ old n r p lt below e told ];
}
  where
    longer : length records ≤ length records'
    longer = omega (arith, ap length a.grew, length-append records a.recs)

    old : (n : ℕ) (r : Rec) (p : Places) → length records < n → n ≤ length records' → record_at records'' n ≡ Some r → boot_places r ≡ Some p → BootFits places (a.moves ++ b.moves) n p
    old n r p lt le e told =
        let was : record_at records' n ≡ Some r = sym (ap (λ (records : List Rec). record_at records n) b.grew ∙ record_at-append records' b.recs n le) ∙ e in
        let f = a.boots n r p lt was told in record {
          prefix = f.prefix;
          back = f.back ++ b.moves;
          split = ap (λ (l : List Motion). l ++ b.moves) f.split ∙ append_assoc f.prefix f.back b.moves;
          reached = f.reached;
          before = f.before;
          after = all-append (NumberIs (λ k. n ≤ k)) f.back b.moves f.after (all-numbers (λ k. length records' ≤ k) (λ k. n ≤ k) b.moves (λ k h. omega arith) b.later);
        }

    new : (n : ℕ) (r : Rec) (p : Places) → length records' < n → record_at records'' n ≡ Some r → boot_places r ≡ Some p → BootFits places (a.moves ++ b.moves) n p
    new n r p lt e told =
        let f = b.boots n r p lt e told in record {
          prefix = a.moves ++ f.prefix;
          back = f.back;
          split = ap (λ (l : List Motion). a.moves ++ l) f.split ∙ sym (append_assoc a.moves f.prefix f.back);
          reached = PlacesOf-append places places' p a.moves f.prefix a.reached f.reached;
          before = all-append (NumberIs (λ k. k ≤ n)) a.moves f.prefix (all-numbers (λ k. k ≤ length records') (λ k. k ≤ n) a.moves (λ k h. omega arith) small) f.before;
          after = f.after;
        }

-- the first boot
pub Follows-boot : (places : Places) → Follows [] [] places (with_boot [] places) [] places
unfolding Follows-record
Follows-boot places = Follows-record [] (boot_of [] places) [] places (boot_of-only [] places)
