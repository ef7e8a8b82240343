-- The worth of counts that add up, unit by unit.
use Rattle.std.proofs.Common.{◌≡◌, ℕ, ◌+◌, ◌*◌, ◌≤◌, List, [], ◌∷◌, slice_index, arith, Bool, true, false}
use Rattle.std.specs.Prelude.{if◌then◌else◌}
use Rattle.std.proofs.Math.Nat.{mul-le-mul_left}
use Rattle.std.specs.Str.{bytes_eq}
use Rattle.xfs_base.specs.declared.money.NoteKind.{NoteKind}
use Rattle.xfs_base.specs.Money.{value_at, value_from}

value_at-plus : (k : NoteKind) (a b c : ℕ) (currency : List ℕ) → c ≡ a + b → value_at k c currency ≡ value_at k a currency + value_at k b currency
value_at-plus k a b c currency e = go (bytes_eq k.currency currency)
  where
    go : (v : Bool) → (if v then 1000 * k.value * c else 0) ≡ (if v then 1000 * k.value * a else 0) + (if v then 1000 * k.value * b else 0)
    go true = rw e (omega arith)
    go false = omega arith

value_at-le : (k : NoteKind) (a b : ℕ) (currency : List ℕ) → a ≤ b → value_at k a currency ≤ value_at k b currency
value_at-le k a b currency le = go (bytes_eq k.currency currency)
  where
    go : (v : Bool) → (if v then 1000 * k.value * a else 0) ≤ (if v then 1000 * k.value * b else 0)
    go true = mul-le-mul_left (1000 * k.value) le
    go false = omega arith

pub value_from-plus : (ks : List NoteKind) (i : ℕ) (a b c currency : List ℕ) → ((u : ℕ) → slice_index c u ≡ slice_index a u + slice_index b u)
    → value_from ks i c currency ≡ value_from ks i a currency + value_from ks i b currency
value_from-plus [] i a b c currency e = omega arith
value_from-plus (k ∷ ks) i a b c currency e =
    let here = value_at-plus k (slice_index a i) (slice_index b i) (slice_index c i) currency (e i) in
    let rest = value_from-plus ks (i + 1) a b c currency e in
    omega (arith, here, rest)

pub value_from-le : (ks : List NoteKind) (i : ℕ) (a b currency : List ℕ) → ((u : ℕ) → slice_index a u ≤ slice_index b u)
    → value_from ks i a currency ≤ value_from ks i b currency
value_from-le [] i a b currency e = omega arith
value_from-le (k ∷ ks) i a b currency e =
    let here = value_at-le k (slice_index a i) (slice_index b i) currency (e i) in
    let rest = value_from-le ks (i + 1) a b currency e in
    omega (arith, here, rest)
