-- What a list of which memory has the end alone keeps.
use Rattle.std.proofs.Common.{◌≡◌, ◌<◌, ◌≤◌, ◌+◌, ◌^◌, ℕ, suc, Bool, true, false, List, [], ◌∷◌, ◌++◌, length, take, drop, refl, sym, ◌∙◌, ap, zero-add, arith, length-append, length-take-le, length-drop, take_at}
use Rattle.std.proofs.lemmas.List.{drop-drop, drop_at, take-append-drop}
use Rattle.std.specs.declared.snapshot.Snapshot.{Snapshot}
use Rattle.xfs_journal.specs.declared.record.Rec.{Rec}
use Rattle.xfs_journal.specs.Journal.{has_boot, base_of, issues_in}
use Rattle.xfs_journal.specs.RecentView.{RecentView}
use Rattle.xfs_journal.specs.Recents.{front_of, IsRecent}
use Rattle.xfs_journal.specs.declared.recent.Past.{Past}
use Rattle.xfs_journal.specs.declared.recent.Past.TheVariants.{Was}
use Rattle.xfs_journal.proofs.BaseLaws.{base_of-append, base_of-short, base_of-unbooted, issues-append, issues-le}

-- what was taken away and what is left are the list
pub rejoined : (front records : List Rec) (base n : ℕ) → base ≡ length front → take (base + n) (front ++ records) ++ drop n records ≡ front ++ records
rejoined front records base n is =
    ap (λ (l : List Rec). take (base + n) (front ++ records) ++ drop n l) (sym (drop_at front records base (sym is)))
    ∙ ap (λ (l : List Rec). take (base + n) (front ++ records) ++ l) (drop-drop n base (front ++ records))
    ∙ take-append-drop (base + n) (front ++ records)

take_past : (front records : List Rec) (n : ℕ) → take (length front + n) (front ++ records) ≡ front ++ take n records
take_past [] records n = ap (λ k. take k records) (zero-add n)
take_past (f ∷ front) records n =
    let more : length (f ∷ front) + n ≡ suc (length front + n) = omega arith in
    ap (λ k. take k (f ∷ (front ++ records))) more ∙ ap (λ (l : List Rec). f ∷ l) (take_past front records n)

led_at : (front records : List Rec) (b : Bool) → has_boot records ≡ b → length front ≤ base_of (front ++ records) → base_of (front ++ records) ≡ length front + base_of records
led_at front records true is led = base_of-append front records is
led_at [] records false is led = sym (zero-add (base_of records))
led_at (f ∷ front) records false is led =
    let same : base_of ((f ∷ front) ++ records) ≡ base_of (f ∷ front) = base_of-unbooted (f ∷ front) records is in
    absurd (omega (arith, led, same, base_of-short (f ∷ front) (omega (arith, led, same))))

module _ (before : Past) (records : List Rec) (base issues : ℕ) (k : IsRecent before records base issues) where
  pub all_long : length (front_of base before ++ records) ≡ base + length records
  all_long = length-append (front_of base before) records ∙ ap (λ n. n + length records) (sym k.place)

  pub base_at : base ≤ base_of (front_of base before ++ records) → base_of (front_of base before ++ records) ≡ base + base_of records
  base_at led = led_at (front_of base before) records (has_boot records) refl (omega (arith, led, k.place)) ∙ ap (λ n. n + base_of records) (sym k.place)

  pub kept-push : (x : Rec) → length (front_of base before ++ records) + 1 < 2 ^ 64 → IsRecent before (records ++ x ∷ []) base issues
  kept-push x few = record {
    place = k.place;
    older = k.older;
    few = rw length-append (omega (arith, few, all_long));
    issues_is = k.issues_is;
  }

  pub few-issues : (n : ℕ) → n ≤ length records → issues + n < 2 ^ 64
  few-issues n le = omega (arith, le, k.few, k.place, k.issues_is, issues-le (front_of base before))

  pub front_is : take base (front_of base before ++ records) ≡ front_of base before
  front_is = take_at (front_of base before) records base (sym k.place)

  pub behind_is : drop base (front_of base before ++ records) ≡ records
  behind_is = drop_at (front_of base before) records base (sym k.place)

  module _ (s : Snapshot RecentView) (all : s.value.all ≡ front_of base before ++ records) (at : s.value.base ≡ base) (n : ℕ) (some : 0 < n) (le : n ≤ length records) where
    front_now : front_of (base + n) (Was s) ≡ front_of base before ++ take n records
    front_now = ap (λ (l : List Rec). take (base + n) l) all ∙ ap (λ b. take (b + n) (front_of base before ++ records)) k.place ∙ take_past (front_of base before) records n

    pub kept-cut : (m : ℕ) → m ≡ issues_in (take n records) → IsRecent (Was s) (drop n records) (base + n) (issues + m)
    kept-cut m counted = record {
      place = omega (arith, ap length front_now, length-append (front_of base before) (take n records), length-take-le n records le, k.place);
      older = rw at (omega (arith, some));
      few = rw length-drop (omega (arith, k.few, le));
      issues_is = omega (arith, counted, k.issues_is, ap issues_in front_now, issues-append (front_of base before) (take n records));
    }
