-- What the sums of motions say of places.
use Rattle.std.proofs.Common.{◌≡◌, ℕ, ◌+◌, ◌*◌, ◌^◌, ◌<◌, ◌≤◌, List, [], ◌∷◌, ◌++◌, length, take, get_or, slice_index, arith, inl, inr, refl}
use Rattle.std.proofs.lemmas.List.{take_more}
use Rattle.std.specs.Prelude.{◌==◌, ◌-◌, true, nat_lt, if◌then◌else◌}
use Rattle.std.proofs.lemmas.Bool.{cases_lt, eq-eqb}
use Rattle.std.proofs.lemmas.Bool.Decides.{nat_tests}
use Rattle.xfs_mech.specs.declared.motion.Motion.{Motion}
use Rattle.xfs_mech.specs.declared.motion.Motion.TheVariants.{Moved, Taken, Loaded}
use Rattle.xfs_mech.specs.Motions.{PlacesOf, loaded}
use Rattle.xfs_base.specs.declared.counts.Places.{Places}
use Rattle.xfs_base.specs.Counts.{at}
use Rattle.std.specs.List.{sum_by}
use Rattle.std.proofs.lemmas.List.Sums.{sum_by-cons}
use Rattle.xfs_audit.specs.declared.places.Flow.{Flow}
use Rattle.xfs_audit.specs.Flow.{IsFlow, IsSmall, Balances, astray}

pub flow-more : (ms : List Motion) (i : ℕ) (d : Motion) (f : Flow) → i < length ms → IsFlow (take i ms ++ get_or ms i d ∷ []) f → IsFlow (take (i + 1) ms) f
flow-more ms i d f lt h = rw (take_more ms i d lt) h

pub small-more : (i : ℕ) (f : Flow) → IsSmall (i * 2 ^ 32 + 2 ^ 32) f → IsSmall ((i + 1) * 2 ^ 32) f
small-more i f h = let e : (i + 1) * 2 ^ 32 ≡ i * 2 ^ 32 + 2 ^ 32 = omega arith in rw e h

far-one : (u v count : ℕ) → 8 ≤ u → (if nat_lt 8 v then count else 0) ≡ 0 → (if v == u + 1 then count else 0) ≡ 0
far-one u v count le none = grind (arith, nat_tests)

one-far : (v count : ℕ) → ((u : ℕ) → 8 ≤ u → (if v == u + 1 then count else 0) ≡ 0) → (if nat_lt 8 v then count else 0) ≡ 0
one-far v count none = elim (cases_lt 8 v) [
  | inl above ↦ let e = none (v - 1) (omega arith) in let same : (v == v - 1 + 1) ≡ true = eq-eqb _ _ (omega arith) in let z : count ≡ 0 = rw same at e in grind (arith, nat_tests)
  | inr below ↦ grind (arith, nat_tests)
]

-- nothing went astray, so no unit past the eighth was loaded
astray-none : (u : ℕ) (ms : List Motion) → 8 ≤ u → sum_by astray ms ≡ 0 → sum_by (loaded u) ms ≡ 0
astray-none u [] le none = refl
astray-none u (Moved n k m d ∷ ms) le none = astray-none u ms le none
astray-none u (Taken c ∷ ms) le none = astray-none u ms le none
astray-none u (Loaded v count ∷ ms) le none =
    let a = sum_by-cons astray (Loaded v count) ms in
    let b = sum_by-cons (loaded u) (Loaded v count) ms in
    let first = far-one u v count le (omega (arith, a, none)) in
    let rest = astray-none u ms le (omega (arith, a, none)) in
    omega (arith, b, first, rest)

-- where units past the eighth were not loaded, nothing went astray
none-astray : (ms : List Motion) → ((u : ℕ) → 8 ≤ u → sum_by (loaded u) ms ≡ 0) → sum_by astray ms ≡ 0
none-astray [] none = refl
none-astray (Moved n k m d ∷ ms) none = none-astray ms none
none-astray (Taken c ∷ ms) none = none-astray ms none
none-astray (Loaded v count ∷ ms) none =
    let a = sum_by-cons astray (Loaded v count) ms in
    let first = one-far v count (λ u le. let b = sum_by-cons (loaded u) (Loaded v count) ms in omega (arith, none u le, b)) in
    let rest = none-astray ms (λ u le. let b = sum_by-cons (loaded u) (Loaded v count) ms in omega (arith, none u le, b)) in
    omega (arith, a, first, rest)

pub joined : (old new : Places) (ms : List Motion) (flow : Flow) → IsFlow ms flow → flow.astray ≡ 0 → ((u : ℕ) → Balances u old flow new) → PlacesOf old ms new
joined old new ms flow is none joins = record {
  units = λ u. let b = joins u in omega (arith, b.inside.units, is.stacked u, is.diverted u, loads u);
  transport = λ u. let b = joins u in omega (arith, b.inside.transport, is.stacked u, is.presented u, is.rejected u);
  outlet = λ u. let b = joins u in omega (arith, b.inside.outlet, is.retracted u, is.taken u, is.presented u);
  taken_out = λ u. let b = joins u in omega (arith, b.outside.taken_out, is.taken u);
  back = λ u. let b = joins u in omega (arith, b.outside.back, is.retracted u);
  bin = λ u. let b = joins u in omega (arith, b.outside.bin, is.rejected u, is.diverted u);
}
  where
    loads : (u : ℕ) → slice_index flow.loaded u ≡ sum_by (loaded u) ms
    loads u = elim (cases_lt u 8) [
      | inl below ↦ is.loaded u below
      | inr past ↦ let z = astray-none u ms past (omega (arith, is.astray)) in let p = is.past u past in omega arith
    ]

pub left-astray : (old new : Places) (ms : List Motion) (flow : Flow) → IsFlow ms flow → ((u : ℕ) → 8 ≤ u → at new.units u + (slice_index flow.stacked u + slice_index flow.diverted u) ≡ 0) → PlacesOf old ms new → flow.astray ≡ 0
left-astray old new ms flow is past places = let z = none-astray ms (λ u le. omega (arith, places.units u, is.stacked u, is.diverted u, past u le)) in omega (arith, is.astray)

pub balances : (old new : Places) (ms : List Motion) (flow : Flow) → IsFlow ms flow → flow.astray ≡ 0 → PlacesOf old ms new → (u : ℕ) → Balances u old flow new
balances old new ms flow is none places u = record {
  inside = record {
    units = omega (arith, places.units u, is.stacked u, is.diverted u, loads);
    transport = omega (arith, places.transport u, is.stacked u, is.presented u, is.rejected u);
    outlet = omega (arith, places.outlet u, is.retracted u, is.taken u, is.presented u);
  };
  outside = record {
    taken_out = omega (arith, places.taken_out u, is.taken u);
    back = omega (arith, places.back u, is.retracted u);
    bin = omega (arith, places.bin u, is.rejected u, is.diverted u);
  };
}
  where
    loads : slice_index flow.loaded u ≡ sum_by (loaded u) ms
    loads = elim (cases_lt u 8) [
      | inl below ↦ is.loaded u below
      | inr past ↦ let z = astray-none u ms past (omega (arith, is.astray)) in let p = is.past u past in omega arith
    ]
