-- The journal and the mechanism's list stay in step.
use Rattle.std.proofs.Common.{◌≡◌, ⊎_elim, ℕ, ◌+◌, ◌<◌, ◌≤◌, List, [], ◌∷◌, ◌++◌, length, None, Some, refl, sym, ◌∙◌, ap, arith}
use Rattle.std.specs.Prelude.{slice_get, fold}
use Rattle.std.specs.declared.option.Option.{Option}
use Rattle.std.specs.List.{Contains, AllByRecursion}
use Rattle.std.proofs.lemmas.List.Elements.{Contains-append_left}
use Rattle.xfs_base.specs.declared.counts.Counts.{Counts}
use Rattle.xfs_base.specs.declared.counts.Kind.{Kind}
use Rattle.xfs_mech.specs.declared.motion.Motion.{Motion}
use Rattle.xfs_mech.specs.declared.motion.Motion.TheVariants.{Moved, Taken, Loaded}
use Rattle.xfs_journal.specs.declared.record.Rec.{Rec}
use Rattle.xfs_journal.specs.declared.record.Rec.TheVariants.{Issue, Clear, Expire, Boot, Start, Bind, Order, Done, Load}
use Rattle.xfs_base.specs.declared.counts.Places.{Places}
use Rattle.xfs_journal.specs.Journal.{boot_places, record_at}
use Rattle.xfs_base.specs.Counts.{at}
use Rattle.xfs_guard.specs.Agrees.{RisesFrom, IsAsked, IsNoOrder, MayFollow, keep_last, Agrees}
use Rattle.xfs_mech.specs.Motions.{NumberIs}
use Rattle.xfs_journal.proofs.JournalLaws.{record_at-push, record_at-cases, record_at-within, Walk-push}
use Rattle.xfs_mech.proofs.MotionLaws.{all-append, all-map}

-- a record that tells places is no order
pub boot-no_order : (r : Rec) (p : Places) → boot_places r ≡ Some p → IsNoOrder (Some r)
boot-no_order (Boot q) p is = tt
boot-no_order (Start issues q) p is = tt
boot-no_order (Issue number word) p is = tt
boot-no_order Clear p is = tt
boot-no_order Expire p is = tt
boot-no_order (Bind t) p is = tt
boot-no_order (Order k c) p is = cc
boot-no_order (Done m d) p is = tt
boot-no_order (Load u c) p is = tt

-- nor is it a Done
pub boot-no_done : (r : Rec) (p : Places) (m d : Counts) → boot_places r ≡ Some p → r ≡ Done m d → ⊥
boot-no_done r p m d is done = let none : None ≡ Some p = sym (ap boot_places done) ∙ is in cc

-- it may follow anything
pub boot-follows : (before : Option Rec) (r : Rec) (p : Places) → boot_places r ≡ Some p → MayFollow before r
boot-follows before (Boot q) p is = tt
boot-follows before (Start issues q) p is = tt
boot-follows before (Issue number word) p is = cc
boot-follows before Clear p is = cc
boot-follows before Expire p is = cc
boot-follows before (Bind t) p is = cc
boot-follows before (Order k c) p is = cc
boot-follows before (Done m d) p is = cc
boot-follows before (Load u c) p is = cc

last_from : (p : Option Rec) (x : Rec) (xs : List Rec) → fold keep_last p (x ∷ xs) ≡ slice_get (x ∷ xs) (length xs)
last_from p x [] = refl
last_from p x (y ∷ ys) = last_from (Some x) y ys

pub last_is : (records : List Rec) → fold keep_last None records ≡ record_at records (length records)
last_is [] = refl
last_is (x ∷ xs) = last_from None x xs

asked-push : (records : List Rec) (r : Rec) (m : Motion) → IsAsked records m → IsAsked (records ++ r ∷ []) m
asked-push records r (Moved n k m d) a = record {
  counts = a.counts;
  ordered = record_at-push records r n (record_at-within records n (Order k a.counts) a.ordered).1 ∙ a.ordered;
  within = a.within;
}
asked-push records r (Taken c) a = tt
asked-push records r (Loaded u c) a = tt

asked_within : (records : List Rec) (m : Motion) → IsAsked records m → NumberIs (λ n. n ≤ length records) m
asked_within records (Moved n k m d) a = (record_at-within records n (Order k a.counts) a.ordered).1
asked_within records (Taken c) a = tt
asked_within records (Loaded u c) a = tt

-- every entry's number is that of a record
pub numbers_within : (records : List Rec) (motions : List Motion) → Agrees records motions → AllByRecursion (NumberIs (λ n. n ≤ length records)) motions
numbers_within records motions a = all-map (IsAsked records) (NumberIs (λ n. n ≤ length records)) motions (asked_within records) a.asked

-- one more record, which may follow the last; where it's a done, its motion is there
pub Agrees-record : (records : List Rec) (r : Rec) (motions : List Motion) → Agrees records motions → MayFollow (record_at records (length records)) r
    → ((k : Kind) (c m d : Counts) → record_at records (length records) ≡ Some (Order k c) → r ≡ Done m d → Contains motions (Moved (length records) k m d))
    → Agrees (records ++ r ∷ []) motions
Agrees-record records r motions a may moved = record {
  rising = a.rising;
  asked = all-map (IsAsked records) (IsAsked (records ++ r ∷ [])) motions (asked-push records r) a.asked;
  shape = Walk-push keep_last MayFollow None records r a.shape (rw last_is may);
  done = λ n k c m d ordered done. ⊎_elim (λ h. old n k c m d ordered h.0 h.1) (λ h. new n k c m d ordered h.0 h.1) (record_at-cases records r (n + 1) (Done m d) done);
}
  where
    old : (n : ℕ) (k : Kind) (c m d : Counts) → record_at (records ++ r ∷ []) n ≡ Some (Order k c) → n + 1 ≤ length records → record_at records (n + 1) ≡ Some (Done m d) → Contains motions (Moved n k m d)
    old n k c m d ordered le done = a.done n k c m d (sym (record_at-push records r n (omega arith)) ∙ ordered) done

    new : (n : ℕ) (k : Kind) (c m d : Counts) → record_at (records ++ r ∷ []) n ≡ Some (Order k c) → n + 1 ≡ length records + 1 → r ≡ Done m d → Contains motions (Moved n k m d)
    new n k c m d ordered last is =
        let e : n ≡ length records = omega arith in
        rw e (moved k c m d (sym (record_at-push records r (length records) (omega arith)) ∙ rw e at ordered) is)

RisesFrom-push : (low n : ℕ) (k : Kind) (m d : Counts) (motions : List Motion) → RisesFrom low motions → AllByRecursion (NumberIs (λ i. i < n)) motions → low < n → RisesFrom low (motions ++ Moved n k m d ∷ [])
RisesFrom-push low n k m d [] r a lt = (lt, tt)
RisesFrom-push low n k m d (Moved i k' m' d' ∷ ms) r a lt = (r.0, RisesFrom-push i n k m d ms r.1 a.1 a.0)
RisesFrom-push low n k m d (Taken c ∷ ms) r a lt = RisesFrom-push low n k m d ms r a.1 lt
RisesFrom-push low n k m d (Loaded u c ∷ ms) r a lt = RisesFrom-push low n k m d ms r a.1 lt

-- the motion of the order that stands last, which had none
pub Agrees-motion : (records : List Rec) (motions : List Motion) (k : Kind) (c m d : Counts) → Agrees records motions → record_at records (length records) ≡ Some (Order k c)
    → AllByRecursion (NumberIs (λ i. i < length records)) motions → ((u : ℕ) → at m u + at d u ≤ at c u) → Agrees records (motions ++ Moved (length records) k m d ∷ [])
Agrees-motion records motions k c m d a ordered fresh fits = record {
  rising = RisesFrom-push 0 (length records) k m d motions a.rising fresh (record_at-within records (length records) (Order k c) ordered).0;
  asked = all-append (IsAsked records) motions (Moved (length records) k m d ∷ []) a.asked (record { counts = c; ordered = ordered; within = fits }, tt);
  shape = a.shape;
  done = λ n k' c' m' d' o done. Contains-append_left motions (Moved (length records) k m d ∷ []) (Moved n k' m' d') (a.done n k' c' m' d' o done);
}
