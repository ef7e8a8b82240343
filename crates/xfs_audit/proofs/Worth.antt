-- What is worth nothing in a currency of no unit.
use Rattle.std.proofs.Common.{◌≡◌, ℕ, zero, suc, ◌+◌, Bool, true, false, List, [], ◌∷◌, Some, refl, ◌⊎◌, inl, inr, arith}
use Rattle.std.specs.Prelude.{slice_get, slice_index, if◌then◌else◌}
use Rattle.std.specs.Str.{bytes_eq}
use Rattle.std.proofs.lemmas.Slice.Eq.{bytes_eq-Decides}
use Rattle.std.proofs.lemmas.List.Sums.{sum_by-cons}
use Rattle.xfs_base.specs.Money.{value_from, value_at}
use Rattle.xfs_base.specs.declared.counts.Counts.{Counts}
use Rattle.xfs_base.specs.declared.counts.Kind.TheVariants.{Stack, Present, Reject, Retract}
use Rattle.xfs_base.specs.declared.money.NoteKind.{NoteKind}
use Rattle.xfs_mech.specs.declared.motion.Motion.{Motion}
use Rattle.xfs_mech.specs.declared.motion.Motion.TheVariants.{Moved, Taken, Loaded}
use Rattle.xfs_journal.specs.declared.record.Rec.{Rec}
use Rattle.xfs_journal.specs.Journal.{live_at, is_place}
use Rattle.xfs_guard.specs.Within.{shown_by, shown}

-- no unit has this currency
abbrev pub AreOther : List NoteKind → List ℕ → Type 0
AreOther units currency = (i : ℕ) (kind : NoteKind) → slice_get units i ≡ Some kind → bytes_eq kind.currency currency ≡ false

-- some unit has this currency
pub record HasCurrency (units : List NoteKind) (currency : List ℕ) : Type 0 where
  pub place : ℕ
  pub kind : NoteKind
  pub there : slice_get units place ≡ Some kind
  pub same : kind.currency ≡ currency

pub currency-or-not : (units : List NoteKind) (currency : List ℕ) → HasCurrency units currency ⊎ AreOther units currency
currency-or-not [] currency = inr (λ i kind got. absurd (cc))
currency-or-not (k ∷ ks) currency = by (bytes_eq k.currency currency) refl (currency-or-not ks currency)
  where
    by : (b : Bool) → bytes_eq k.currency currency ≡ b → HasCurrency ks currency ⊎ AreOther ks currency → HasCurrency (k ∷ ks) currency ⊎ AreOther (k ∷ ks) currency
    by true e rest = inl (record { place = 0; kind = k; there = refl; same = (bytes_eq-Decides k.currency currency).0 e })
    by false e (inl h) = inl (record { place = suc h.place; kind = h.kind; there = h.there; same = h.same })
    by false e (inr other) = inr at
      where
        at : AreOther (k ∷ ks) currency
        at zero kind got = let same : k ≡ kind = cc in rw (← same) e
        at (suc i) kind got = other i kind got

no-value : (units : List NoteKind) (i : ℕ) (counts currency : List ℕ) → AreOther units currency → value_from units i counts currency ≡ 0
no-value [] i counts currency other = refl
no-value (k ∷ ks) i counts currency other =
    let first : value_at k (slice_index counts i) currency ≡ 0 = rw (other 0 k refl) refl in
    let rest = no-value ks (i + 1) counts currency (λ j kind got. other (suc j) kind got) in
    omega (arith, first, rest)

none-shown_by : (units : List NoteKind) (J : List Rec) (p : ℕ) (currency : List ℕ) (m : Motion) → AreOther units currency → shown_by units J p currency m ≡ 0
none-shown_by units J p currency (Moved n Present m d) other = either (is_place p (live_at J n)) (value_from units 0 m.0 currency) (no-value units 0 m.0 currency other)
  where
    either : (b : Bool) (v : ℕ) → v ≡ 0 → (if b then v else 0) ≡ 0
    either true v e = e
    either false v e = refl
none-shown_by units J p currency (Moved n Stack m d) other = refl
none-shown_by units J p currency (Moved n Reject m d) other = refl
none-shown_by units J p currency (Moved n Retract m d) other = refl
none-shown_by units J p currency (Taken c) other = refl
none-shown_by units J p currency (Loaded u c) other = refl

pub none-shown : (units : List NoteKind) (J : List Rec) (motions : List Motion) (p : ℕ) (currency : List ℕ) → AreOther units currency → shown units J motions p currency ≡ 0
none-shown units J [] p currency other = refl
none-shown units J (m ∷ ms) p currency other =
    let e = sum_by-cons (shown_by units J p currency) m ms in
    let first = none-shown_by units J p currency m other in
    let rest = none-shown units J ms p currency other in
    omega (arith, e, first, rest)

pub no-worth : (units : List NoteKind) (counts : Counts) (currency : List ℕ) → AreOther units currency → value_from units 0 counts.0 currency ≡ 0
no-worth units counts currency other = no-value units 0 counts.0 currency other
