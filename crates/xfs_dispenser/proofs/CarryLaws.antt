-- An order that is carried out, and counts that are stacked unit by unit, as the definitions say it.
use Rattle.std.proofs.Common.{◌≡◌, ◌≢◌, ◌≤◌, ◌<◌, ◌+◌, ◌-◌, ℕ, zero, suc, Bool, true, false, List, [], ◌∷◌, ◌++◌, length, drop, take, Ok, Err, inl, inr, refl, sym, subst, ◌∙◌, ap, ap₂, arith, append_assoc, length-append}
use Rattle.std.specs.Prelude.{IsErrAnd, IsTrue, ◌==◌, ◌&&◌, slice_index}
use Rattle.std.specs.List.{list_all}
use Rattle.std.specs.declared.result.Result.{Result}
use Rattle.std.proofs.lemmas.Bool.{cases_lt, ne_eqb}
use Rattle.std.proofs.lemmas.List.{append-nil, drop_all, drop_more, get_or_past, length-take-le, take_all, take_more}
use Rattle.xfs_base.specs.Causes.{Rose}
use Rattle.xfs_disk.specs.declared.disk.Disk.{Ghosts}
use Rattle.xfs_mech.specs.declared.motion.Outcome.{Outcome}
use Rattle.xfs_mix.specs.Asked.{is_none}
use Rattle.xfs_guard.specs.Refusals.{Answers}
use Rattle.xfs_guard.specs.View.{GuardView, shut_at}
use Rattle.xfs_guard.specs.declared.ask.Ask.{Ask}
use Rattle.xfs_guard.specs.declared.ask.Ask.TheVariants.{Stack}
use Rattle.xfs_guard.specs.declared.deny.Deny.{Deny}
use Rattle.xfs_guard.specs.declared.deny.Deny.TheVariants.{Disk, Memory}
use Rattle.xfs_dispenser.specs.Carried.{CarriesOut, FollowsUnit, IsStopped, Stacks, StacksFirst, StacksUnit, nothing_stacked, with_stacked}
use Rattle.xfs_dispenser.specs.Seen.{Seen, seen}
use Rattle.xfs_dispenser.specs.Steps.{order_record, refusal_of}
use Rattle.xfs_dispenser.specs.Units.{units_with}
use Rattle.xfs_dispenser.proofs.DenyLaws.{due-disk, due-some, is_disk}
use Rattle.xfs_dispenser.proofs.PlanLaws.{units_from, units-some}

pub err-same : {T : Type 0} {a b : Deny} → ◌≡◌ {A = Result T Deny} (Err a) (Err b) → a ≡ b
err-same e = cc

-- a call failed since the disk did
abbrev pub IsDiskFault : Type 0 → Deny → Type 0
IsDiskFault T deny = ◌≡◌ {A = Result T Deny} (Err deny) (Err Disk)

-- an order is refused, or the disk failed at its record
pub stopped-order : {D : Type 0} (g : Ghosts D) (old new : GuardView D) (ask : Ask) (deny : Deny)
    → Answers {T = Unit {0}} (Err deny) (refusal_of old.state ask) → (IsDiskFault (Unit {0}) deny → new.state ≡ shut_at (order_record old.state ask) old.state)
    → g.faults old.disk ≤ g.faults new.disk → (IsDiskFault (Unit {0}) deny → Rose (g.faults old.disk) (g.faults new.disk))
    → (deny ≢ Disk → new ≡ old) → deny ≢ Memory → IsStopped (seen g old) ask deny (seen g new)
stopped-order g old new ask deny answers disk later cause same some = elim (is_disk deny) [
  | inl is ↦ inr (
    due-disk (Unit {0}) deny (refusal_of old.state ask) answers is,
    is,
    inl (record { becomes = record { guard_is = disk (ap (λ e. Err e) is); later = later }; cause = cause (ap (λ e. Err e) is) }),
  )
  | inr other ↦ inl (due-some (Unit {0}) deny (refusal_of old.state ask) answers other some, ap (seen g) (same other))
]

-- an order that ends in a refusal is carried out with that as its result
pub carried-err : (s : Seen) (ask : Ask) (result : Result Outcome Deny) (deny : Deny) (next : Seen) → IsErrAnd result (λ e. e ≡ deny) → result ≢ Err Memory
    → (deny ≢ Memory → IsStopped s ask deny next) → CarriesOut s ask result next
carried-err s ask (Ok o) deny next err some stopped = absurd err
carried-err s ask (Err e) deny next err some stopped = rw err (stopped (λ is. some (ap (λ d. Err d) (err ∙ is))))

-- counts are stacked from the unit u on, which counts from 0, unit by unit, behind all that was stacked before
abbrev pub StacksFrom : ℕ → List ℕ → ℕ → Outcome → Seen → Result Outcome Deny → Seen → Type 0
StacksFrom issue [] u all s result next = (result ≡ Ok all) × (next ≡ s)
StacksFrom issue (zero ∷ counts) u all s result next = StacksFrom issue counts (u + 1) all s result next
StacksFrom issue (suc n ∷ counts) u all s result next = StacksUnit (StacksFrom issue counts (u + 1)) s (Stack issue (u + 1) (suc n)) all u result next

-- what stacks one unit's notes, and goes on
abbrev Onward : Type 1
Onward = Outcome → Seen → Result Outcome Deny → Seen → Type 0

follows-as : (A B : Onward) → ((all : Outcome) (s : Seen) (result : Result Outcome Deny) (next : Seen) → A all s result next → B all s result next)
    → (all : Outcome) (u : ℕ) (one : Result Outcome Deny) (s : Seen) (result : Result Outcome Deny) (next : Seen) → FollowsUnit A all u one s result next → FollowsUnit B all u one s result next
follows-as A B each all u (Err deny) s result next f = f
follows-as A B each all u (Ok one) s result next (inl f) = inl f
follows-as A B each all u (Ok one) s result next (inr f) = inr (f.0, each (with_stacked all u one) s result next f.1)

unit-as : (A B : Onward) → ((all : Outcome) (s : Seen) (result : Result Outcome Deny) (next : Seen) → A all s result next → B all s result next)
    → (s : Seen) (ask : Ask) (all : Outcome) (u v : ℕ) (result : Result Outcome Deny) (next : Seen) → u ≡ v → StacksUnit A s ask all u result next → StacksUnit B s ask all v result next
unit-as A B each s ask all u v result next same h = subst (λ k. StacksUnit B s ask all k result next) same (record { one = h.one; middle = h.middle; carried = h.carried; onward = follows-as A B each all u h.one h.middle result next h.onward })

unit-before : (u : ℕ) → u ≡ u + 1 - 1
unit-before u = omega arith

-- counts are stacked from a unit on as the units of which there are notes
pub stacks-units : (issue : ℕ) (counts : List ℕ) (u : ℕ) (all : Outcome) (s : Seen) (result : Result Outcome Deny) (next : Seen) → StacksFrom issue counts u all s result next → Stacks issue (units_from (u + 1) counts) all s result next
stacks-units issue [] u all s result next h = h
stacks-units issue (zero ∷ counts) u all s result next h = stacks-units issue counts (u + 1) all s result next h
stacks-units issue (suc n ∷ counts) u all s result next h = subst (λ us. Stacks issue us all s result next) (sym (units-some (u + 1) n counts))
    (unit-as (StacksFrom issue counts (u + 1)) (Stacks issue (units_from (u + 1 + 1) counts)) (λ all s result next more. stacks-units issue counts (u + 1) all s result next more)
    s (Stack issue (u + 1) (suc n)) all u (u + 1 - 1) result next (unit-before u) h)

stacks-from-units : (issue : ℕ) (counts : List ℕ) (u : ℕ) (all : Outcome) (s : Seen) (result : Result Outcome Deny) (next : Seen) → Stacks issue (units_from (u + 1) counts) all s result next → StacksFrom issue counts u all s result next
stacks-from-units issue [] u all s result next h = h
stacks-from-units issue (zero ∷ counts) u all s result next h = stacks-from-units issue counts (u + 1) all s result next h
stacks-from-units issue (suc n ∷ counts) u all s result next h =
    unit-as (Stacks issue (units_from (u + 1 + 1) counts)) (StacksFrom issue counts (u + 1)) (λ all s result next more. stacks-from-units issue counts (u + 1) all s result next more)
    s (Stack issue (u + 1) (suc n)) all (u + 1 - 1) u result next (sym (unit-before u)) (subst (λ us. Stacks issue us all s result next) (units-some (u + 1) n counts) h)

-- stacking the units of which there are notes is stacking the counts from the first unit on
pub stacks-counts : (issue : ℕ) (counts : List ℕ) (all : Outcome) (s : Seen) (result : Result Outcome Deny) (next : Seen) → Stacks issue (units_with counts) all s result next → StacksFrom issue counts 0 all s result next
stacks-counts issue counts all s result next h = stacks-from-units issue counts 0 all s result next h

-- the units of the first counts are the first units
units-first : (unit k : ℕ) (counts : List ℕ) → units_from unit (take k counts) ≡ take (length (units_from unit (take k counts))) (units_from unit counts)
units-first unit zero counts = refl
units-first unit (suc k) [] = refl
units-first unit (suc k) (zero ∷ counts) = units-first (unit + 1) k counts
units-first unit (suc k) (suc n ∷ counts) =
    let front = units-some unit n (take k counts) in
    let more : List (ℕ × ℕ) = units_from (unit + 1) (take k counts) in
    let same : more ≡ take (length more) (units_from (unit + 1) counts) = units-first (unit + 1) k counts in
    front ∙ (ap (λ us. (unit, suc n) ∷ us) same ∙ sym (ap₂ (λ (m : ℕ) (us : List (ℕ × ℕ)). take m us) (ap length front) (units-some unit n counts)))

-- nothing more is stacked
pub stacks-none : (issue : ℕ) (counts : List ℕ) (u : ℕ) (all : Outcome) (s : Seen) → IsTrue (is_none counts) → StacksFrom issue counts u all s (Ok all) s
stacks-none issue [] u all s none = (refl, refl)
stacks-none issue (zero ∷ counts) u all s none = stacks-none issue counts (u + 1) all s none
stacks-none issue (suc n ∷ counts) u all s none = absurd (rest (list_all (λ count. count == 0) counts) (rw suc-zero at none))
  where
    suc-zero : (suc n == 0) ≡ false
    suc-zero = ne_eqb (suc n) 0 (λ e. omega (arith, e))

    rest : (b : Bool) → (false && b) ≡ true → ⊥
    rest b e = cc

pub stacks-zero : (issue count : ℕ) (counts : List ℕ) (u : ℕ) (all : Outcome) (s : Seen) (result : Result Outcome Deny) (next : Seen)
    → count ≡ 0 → StacksFrom issue counts (u + 1) all s result next → StacksFrom issue (count ∷ counts) u all s result next
stacks-zero issue zero counts u all s result next e h = h
stacks-zero issue (suc n) counts u all s result next e h = absurd (omega (arith, e))

-- the order of a unit, and what follows it
pub stacks-unit : (issue count : ℕ) (counts : List ℕ) (u : ℕ) (all one : Outcome) (s middle : Seen) (result : Result Outcome Deny) (next : Seen)
    → count ≢ 0 → CarriesOut s (Stack issue (u + 1) count) (Ok one) middle → one.failed ≡ false → StacksFrom issue counts (u + 1) (with_stacked all u one) middle result next
    → StacksFrom issue (count ∷ counts) u all s result next
stacks-unit issue zero counts u all one s middle result next some carried fine h = absurd (some refl)
stacks-unit issue (suc n) counts u all one s middle result next some carried fine h = record { one = Ok one; middle = middle; carried = carried; onward = inr (fine, h) }

pub stacks-failed : (issue count : ℕ) (counts : List ℕ) (u : ℕ) (all one : Outcome) (s middle : Seen)
    → count ≢ 0 → CarriesOut s (Stack issue (u + 1) count) (Ok one) middle → one.failed ≡ true → StacksFrom issue (count ∷ counts) u all s (Ok (with_stacked all u one)) middle
stacks-failed issue zero counts u all one s middle some carried failed = absurd (some refl)
stacks-failed issue (suc n) counts u all one s middle some carried failed = record { one = Ok one; middle = middle; carried = carried; onward = inl (failed, refl, refl) }

pub stacks-err : (issue count : ℕ) (counts : List ℕ) (u : ℕ) (all : Outcome) (deny : Deny) (s middle : Seen)
    → count ≢ 0 → CarriesOut s (Stack issue (u + 1) count) (Err deny) middle → StacksFrom issue (count ∷ counts) u all s (Err deny) middle
stacks-err issue zero counts u all deny s middle some carried = absurd (some refl)
stacks-err issue (suc n) counts u all deny s middle some carried = record { one = Err deny; middle = middle; carried = carried; onward = (refl, refl) }

-- a count that isn't 0 is one of the counts
pub some-within : (counts : List ℕ) (u : ℕ) → slice_index counts u ≢ 0 → u < length counts
some-within counts u some = elim (cases_lt u (length counts)) [
  | inl within ↦ within
  | inr past ↦ absurd (some (get_or_past counts u 0 past))
]

-- what is left of the counts, from a unit of which some notes are asked
stacks-first : (issue : ℕ) (counts : List ℕ) (u : ℕ) (all : Outcome) (s : Seen) (result : Result Outcome Deny) (next : Seen) → slice_index counts u ≢ 0
    → StacksFrom issue (slice_index counts u ∷ drop (u + 1) counts) u all s result next → StacksFrom issue (drop u counts) u all s result next
stacks-first issue counts u all s result next some h = subst (λ cs. StacksFrom issue cs u all s result next) (sym (drop_more counts u 0 (some-within counts u some))) h

pub stacks-next : (issue : ℕ) (counts : List ℕ) (u at : ℕ) (all one : Outcome) (s middle : Seen) (result : Result Outcome Deny) (next : Seen)
    → at ≡ u → slice_index counts at ≢ 0 → CarriesOut s (Stack issue (u + 1) (slice_index counts at)) (Ok one) middle → one.failed ≡ false
    → StacksFrom issue (drop (u + 1) counts) (u + 1) (with_stacked all at one) middle result next → StacksFrom issue (drop u counts) u all s result next
stacks-next issue counts u at all one s middle result next is =
    subst (λ i. slice_index counts i ≢ 0 → CarriesOut s (Stack issue (u + 1) (slice_index counts i)) (Ok one) middle → one.failed ≡ false
    → StacksFrom issue (drop (u + 1) counts) (u + 1) (with_stacked all i one) middle result next → StacksFrom issue (drop u counts) u all s result next) (sym is)
    (λ some carried fine h. stacks-first issue counts u all s result next some (stacks-unit issue (slice_index counts u) (drop (u + 1) counts) u all one s middle result next some carried fine h))

-- the order of a unit failed, and none follows
pub stacks-over : (issue : ℕ) (counts : List ℕ) (u at : ℕ) (all one : Outcome) (s middle : Seen) → at ≡ u → slice_index counts at ≢ 0
    → CarriesOut s (Stack issue (u + 1) (slice_index counts at)) (Ok one) middle → one.failed ≡ true → StacksFrom issue (drop u counts) u all s (Ok (with_stacked all at one)) middle
stacks-over issue counts u at all one s middle is =
    subst (λ i. slice_index counts i ≢ 0 → CarriesOut s (Stack issue (u + 1) (slice_index counts i)) (Ok one) middle → one.failed ≡ true → StacksFrom issue (drop u counts) u all s (Ok (with_stacked all i one)) middle) (sym is)
    (λ some carried failed. stacks-first issue counts u all s (Ok (with_stacked all u one)) middle some (stacks-failed issue (slice_index counts u) (drop (u + 1) counts) u all one s middle some carried failed))

pub stacks-stop : (issue : ℕ) (counts : List ℕ) (u at : ℕ) (all : Outcome) (s middle : Seen) (result result' : Result Outcome Deny) (deny : Deny)
    → at ≡ u → slice_index counts at ≢ 0 → result ≡ Err deny → IsErrAnd result' (λ e. e ≡ deny) → result' ≢ Err Memory
    → (result ≢ Err Memory → CarriesOut s (Stack issue (u + 1) (slice_index counts at)) result middle) → StacksFrom issue (drop u counts) u all s result' middle
stacks-stop issue counts u at all s middle result (Ok o) deny is some failed err other carried = absurd err
stacks-stop issue counts u at all s middle result (Err e) deny is some failed err other carried =
    let told : result ≡ Err e = failed ∙ ap (λ d. Err d) (sym err) in
    let here : CarriesOut s (Stack issue (u + 1) (slice_index counts at)) (Err e) middle = subst (λ r. CarriesOut s (Stack issue (u + 1) (slice_index counts at)) r middle) told (carried (λ m. other (sym told ∙ m))) in
    stacks-first issue counts u all s (Err e) middle (rw (← is) some) (stacks-err issue (slice_index counts u) (drop (u + 1) counts) u all e s middle (rw (← is) some) (rw is at here))

pub stacks-skip : (issue : ℕ) (counts : List ℕ) (u : ℕ) (all : Outcome) (s : Seen) (result : Result Outcome Deny) (next : Seen) → slice_index counts u ≡ 0
    → StacksFrom issue (drop (u + 1) counts) (u + 1) all s result next → StacksFrom issue (drop u counts) u all s result next
stacks-skip issue counts u all s result next none h = elim (cases_lt u (length counts)) [
  | inl within ↦ subst (λ cs. StacksFrom issue cs u all s result next) (sym (drop_more counts u 0 within)) (stacks-zero issue (slice_index counts u) (drop (u + 1) counts) u all s result next none h)
  | inr past ↦ subst (λ cs. StacksFrom issue cs u all s result next) (sym (drop_all u counts past)) (subst (λ cs. StacksFrom issue cs (u + 1) all s result next) (drop_all (u + 1) counts (omega (arith, past))) h)
]

not-memory-disk : Memory ≡ Disk → ⊥
not-memory-disk e = cc

-- want of memory isn't the disk's
pub not-disk : (deny : Deny) → deny ≡ Memory → deny ≢ Disk
not-disk deny memory disk = not-memory-disk (sym memory ∙ disk)

pub deny-memory : {T : Type 0} (result : Result T Deny) (deny : Deny) → IsErrAnd result (λ e. e ≡ deny) → result ≡ Err Memory → deny ≡ Memory
deny-memory (Ok x) deny err is = absurd err
deny-memory (Err e) deny err is = sym err ∙ err-same is

-- behind the orders of these counts, which failed nowhere, come those of any others
abbrev pub IsFrontOf : ℕ → List ℕ → Outcome → Seen → Seen → Type 0
IsFrontOf issue counts all start s = (more : List ℕ) (result : Result Outcome Deny) (next : Seen) → StacksFrom issue more (length counts) all s result next → StacksFrom issue (counts ++ more) 0 nothing_stacked start result next

length-push : (counts : List ℕ) (count : ℕ) → length (counts ++ count ∷ []) ≡ length counts + 1
length-push counts count = let e = length-append counts (count ∷ []) in omega (arith, e)

front-push : (issue : ℕ) (counts : List ℕ) (count : ℕ) (all one : Outcome) (start s middle : Seen) → count ≢ 0 → CarriesOut s (Stack issue (length counts + 1) count) (Ok one) middle → one.failed ≡ false
    → IsFrontOf issue counts all start s → IsFrontOf issue (counts ++ count ∷ []) (with_stacked all (length counts) one) start middle
front-push issue counts count all one start s middle asked carried fine front = λ more result next h.
    let onward : StacksFrom issue more (length counts + 1) (with_stacked all (length counts) one) middle result next = subst (λ u. StacksFrom issue more u (with_stacked all (length counts) one) middle result next) (length-push counts count) h in
    let first = front (count ∷ more) result next (stacks-unit issue count more (length counts) all one s middle result next asked carried fine onward) in
    subst (λ cs. StacksFrom issue cs 0 nothing_stacked start result next) (sym (append_assoc counts (count ∷ []) more)) first

front-zero : (issue : ℕ) (counts : List ℕ) (count : ℕ) (all : Outcome) (start s : Seen) → count ≡ 0 → IsFrontOf issue counts all start s → IsFrontOf issue (counts ++ count ∷ []) all start s
front-zero issue counts count all start s none front = λ more result next h.
    let onward : StacksFrom issue more (length counts + 1) all s result next = subst (λ u. StacksFrom issue more u all s result next) (length-push counts count) h in
    let first = front (count ∷ more) result next (stacks-zero issue count more (length counts) all s result next none onward) in
    subst (λ cs. StacksFrom issue cs 0 nothing_stacked start result next) (sym (append_assoc counts (count ∷ []) more)) first

-- one more unit, whose order didn't fail
pub front-unit : (issue : ℕ) (counts : List ℕ) (u at : ℕ) (all one : Outcome) (start s middle : Seen) → at ≡ u → slice_index counts at ≢ 0
    → CarriesOut s (Stack issue (u + 1) (slice_index counts at)) (Ok one) middle → one.failed ≡ false → IsFrontOf issue (take u counts) all start s → IsFrontOf issue (take (u + 1) counts) (with_stacked all at one) start middle
front-unit issue counts u at all one start s middle is some carried fine front =
    let asked : slice_index counts u ≢ 0 = subst (λ i. slice_index counts i ≢ 0) is some in
    let within = some-within counts u asked in
    let len : length (take u counts) ≡ u = length-take-le u counts (omega (arith, within)) in
    let here : CarriesOut s (Stack issue (u + 1) (slice_index counts u)) (Ok one) middle = subst (λ i. CarriesOut s (Stack issue (u + 1) (slice_index counts i)) (Ok one) middle) is carried in
    let one-carried : CarriesOut s (Stack issue (length (take u counts) + 1) (slice_index counts u)) (Ok one) middle = subst (λ n. CarriesOut s (Stack issue (n + 1) (slice_index counts u)) (Ok one) middle) (sym len) here in
    let pushed = front-push issue (take u counts) (slice_index counts u) all one start s middle asked one-carried fine front in
    let taken : IsFrontOf issue (take (u + 1) counts) (with_stacked all (length (take u counts)) one) start middle = subst (λ cs. IsFrontOf issue cs (with_stacked all (length (take u counts)) one) start middle) (sym (take_more counts u 0 within)) pushed in
    subst (λ i. IsFrontOf issue (take (u + 1) counts) (with_stacked all i one) start middle) (len ∙ sym is) taken

-- one more unit, of which no notes are asked
pub front-skip : (issue : ℕ) (counts : List ℕ) (u : ℕ) (all : Outcome) (start s : Seen) → slice_index counts u ≡ 0 → IsFrontOf issue (take u counts) all start s → IsFrontOf issue (take (u + 1) counts) all start s
front-skip issue counts u all start s none front = elim (cases_lt u (length counts)) [
  | inl within ↦ subst (λ cs. IsFrontOf issue cs all start s) (sym (take_more counts u 0 within)) (front-zero issue (take u counts) (slice_index counts u) all start s none front)
  | inr past ↦ subst (λ cs. IsFrontOf issue cs all start s) (take_all u counts past ∙ sym (take_all (u + 1) counts (omega (arith, past)))) front
]

-- the units before one
pub front-first : (issue : ℕ) (counts : List ℕ) (u : ℕ) (all : Outcome) (start s : Seen) → all.failed ≡ false → IsFrontOf issue (take u counts) all start s → StacksFirst issue counts start s
front-first issue counts u all start s fine front = record {
  units = length (units_from 1 (take u counts));
  outcome = all;
  stacked = subst (λ us. Stacks issue us nothing_stacked start (Ok all) s) (units-first 1 u counts)
      (stacks-units issue (take u counts) 0 nothing_stacked start (Ok all) s (subst (λ cs. StacksFrom issue cs 0 nothing_stacked start (Ok all) s) (append-nil (take u counts)) (front [] (Ok all) s (refl, refl))));
  fine = fine;
}
