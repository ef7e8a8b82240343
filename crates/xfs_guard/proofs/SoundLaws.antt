-- What each step of a guard keeps.
use Rattle.std.proofs.Common.{◌≡◌, ℕ, ◌+◌, ◌≤◌, Bool, true, false, List, [], ◌∷◌, ◌++◌, length, None, Some, refl, sym, ◌∙◌, arith}
use Rattle.std.specs.declared.option.Option.{Option}
use Rattle.std.proofs.lemmas.List.Elements.{Contains-push}
use Rattle.xfs_base.specs.declared.counts.Counts.{Counts}
use Rattle.xfs_base.specs.declared.money.NoteKind.{NoteKind}
use Rattle.xfs_base.specs.declared.counts.Places.{Places}
use Rattle.xfs_base.specs.declared.counts.Kind.{Kind}
use Rattle.xfs_base.specs.declared.counts.Kind.TheVariants.{Stack, Present, Reject, Retract}
use Rattle.xfs_base.specs.Money.{value}
use Rattle.xfs_base.proofs.MoneyLaws.{value_from-plus, value_from-le}
use Rattle.xfs_token.specs.Amounts.{amount}
use Rattle.xfs_mech.specs.declared.motion.Motion.{Motion}
use Rattle.xfs_mech.specs.declared.motion.Motion.TheVariants.{Moved}
use Rattle.xfs_journal.specs.declared.record.Rec.TheVariants.{Order}
use Rattle.xfs_guard.specs.declared.open.Open.TheVariants.{Written, Acted}
use Rattle.xfs_journal.specs.Journal.{record_at, live_of}
use Rattle.xfs_mech.specs.Motions.{PlacesOf}
use Rattle.xfs_base.specs.Causes.{IfTold}
use Rattle.xfs_base.specs.Counts.{LiesIn}
use Rattle.xfs_mech.specs.Mechanism.{AddsEntry, source_of, MayCarry}
use Rattle.xfs_guard.specs.Within.{Within, shown}
use Rattle.xfs_guard.specs.View.{View}
use Rattle.xfs_guard.specs.Presented.{presented_in, pending, unsettled}
use Rattle.xfs_guard.specs.Budget.{Budget}
use Rattle.xfs_guard.specs.Sound.{IsReleased, IfPresent, Ties, where_told, IsSound}
use Rattle.xfs_guard.proofs.AgreesLaws.{Agrees-motion}
use Rattle.xfs_guard.proofs.WithinLaws.{Within-present, Within-quiet, shown-motion, shown_by-own}

-- what lies ready and was ordered covers what lies ready and was put out after it
funds-act : (u : List NoteKind) (k : Kind) (c m d : Counts) (failed : Bool) (before now : Places) (n : ℕ) (cur : List ℕ) (rest limit : ℕ)
    → MayCarry k c m d failed → PlacesOf before (Moved n k m d ∷ []) now
    → rest + value u before.transport cur + pending u (Written k c) cur ≤ limit
    → rest + unsettled u (Acted k m d failed) cur + value u now.transport cur ≤ limit
funds-act u Stack c m d failed before now n cur rest limit may places le =
    let grown = value_from-plus u 0 before.transport.0 m.0 now.transport.0 cur (λ i. omega (arith, places.transport i)) in
    let fits = value_from-le u 0 m.0 c.0 cur (λ i. omega (arith, may.within i)) in
    omega (arith, grown, fits)
funds-act u Present c m d failed before now n cur rest limit may places le =
    let split = value_from-plus u 0 now.transport.0 m.0 before.transport.0 cur (λ i. omega (arith, places.transport i)) in
    omega (arith, split)
funds-act u Reject c m d failed before now n cur rest limit may places le =
    let fewer = value_from-le u 0 now.transport.0 before.transport.0 cur (λ i. omega (arith, places.transport i)) in
    omega (arith, fewer)
funds-act u Retract c m d failed before now n cur rest limit may places le =
    let fewer = value_from-le u 0 now.transport.0 before.transport.0 cur (λ i. omega (arith, places.transport i)) in
    omega (arith, fewer)

-- the guard after its order was carried out
abbrev pub acted_view : View → Kind → Counts → Counts → Bool → Option (List Motion) → Places → ℕ → View
acted_view v k m d failed motions places faults = record v { open_order = Acted k m d failed; motions = motions; places = places; faults = faults }

budget-act : (v : View) (k : Kind) (c m d : Counts) (failed : Bool) (now : Option (List Motion)) (Q : Places) (f : ℕ)
    → Budget v → v.open_order ≡ Written k c → MayCarry k c m d failed → PlacesOf v.places (Moved (length v.records) k m d ∷ []) Q
    → Budget (acted_view v k m d failed now Q f)
budget-act v k c m d failed now Q f budget written may places = record {
  funded = λ p b lives bound.
      let old = budget.funded p b lives bound in record {
        token = old.token;
        carries = old.carries;
        amounts = old.amounts;
        amounts_are = old.amounts_are;
        kept = old.kept;
        enough = λ cur.
            let was = rw written at (old.enough cur) in
            let step = funds-act v.units k c m d failed v.places Q (length v.records) cur (presented_in v.units v.records cur) (amount old.token cur) may places (omega (arith, was)) in
            omega (arith, step);
      };
  unbound = budget.unbound;
  dead = budget.dead;
}

within-act : (v : View) (k : Kind) (c m d : Counts) (failed : Bool) (motions : List Motion) → Budget v → v.open_order ≡ Written k c
    → record_at v.records (length v.records) ≡ Some (Order k c) → LiesIn c (source_of k v.places) → IfPresent k (IsReleased v.records)
    → Ties v motions → MayCarry k c m d failed → Within v.key v.units v.records (motions ++ Moved (length v.records) k m d ∷ [])
within-act v Stack c m d failed motions budget written last lies released t may = Within-quiet v.key v.units v.records motions (Moved (length v.records) Stack m d) (λ p cur. refl) tt t.within
within-act v Reject c m d failed motions budget written last lies released t may = Within-quiet v.key v.units v.records motions (Moved (length v.records) Reject m d) (λ p cur. refl) tt t.within
within-act v Retract c m d failed motions budget written last lies released t may = Within-quiet v.key v.units v.records motions (Moved (length v.records) Retract m d) (λ p cur. refl) tt t.within
within-act v Present c m d failed motions budget written last lies released t may =
    let old = budget.funded released.number released.bytes released.lives released.bound in
    Within-present v.key v.units v.records motions (length v.records) released.number released.bytes old.token c m d last released.before released.bound old.carries
    (λ cur.
    let was = rw written at (old.enough cur) in
    let counted = rw written at (t.counted released.number cur released.lives) in
    let fits = value_from-le v.units 0 m.0 v.places.transport.0 cur (λ i. omega (arith, may.within i, lies i)) in
    omega (arith, was, counted, fits))
    t.within

counted-act : (v : View) (k : Kind) (c m d : Counts) (failed : Bool) (motions : List Motion) → v.open_order ≡ Written k c → IfPresent k (IsReleased v.records) → Ties v motions
    → (p : ℕ) (cur : List ℕ) → live_of v.records ≡ Some p
    → shown v.units v.records (motions ++ Moved (length v.records) k m d ∷ []) p cur ≡ presented_in v.units v.records cur + unsettled v.units (Acted k m d failed) cur
counted-act v Stack c m d failed motions written released t p cur lives =
    let old = rw written at (t.counted p cur lives) in let e = shown-motion v.units v.records p cur motions (Moved (length v.records) Stack m d) in omega (arith, old, e)
counted-act v Reject c m d failed motions written released t p cur lives =
    let old = rw written at (t.counted p cur lives) in let e = shown-motion v.units v.records p cur motions (Moved (length v.records) Reject m d) in omega (arith, old, e)
counted-act v Retract c m d failed motions written released t p cur lives =
    let old = rw written at (t.counted p cur lives) in let e = shown-motion v.units v.records p cur motions (Moved (length v.records) Retract m d) in omega (arith, old, e)
counted-act v Present c m d failed motions written released t p cur lives =
    let same : released.number ≡ p = some_same (sym released.lives ∙ lives) in
    let old = rw written at (t.counted p cur lives) in
    let e = shown-motion v.units v.records p cur motions (Moved (length v.records) Present m d) in
    let own = rw same at (shown_by-own v.units v.records released.number (length v.records) cur m d released.before) in
    omega (arith, old, e, own)
  where
    some_same : {a b : ℕ} → Some a ≡ Some b → a ≡ b
    some_same e = cc

-- what the mechanism carried out stands beside the journal
pub Ties-act : (v : View) (k : Kind) (c m d : Counts) (failed : Bool) (motions : List Motion) (seen : Option (List Motion)) (Q : Places) (f : ℕ) → Budget v → v.open_order ≡ Written k c
    → record_at v.records (length v.records) ≡ Some (Order k c) → LiesIn c (source_of k v.places) → IfPresent k (IsReleased v.records)
    → MayCarry k c m d failed → Ties v motions → Ties (acted_view v k m d failed seen Q f) (motions ++ Moved (length v.records) k m d ∷ [])
Ties-act v k c m d failed motions seen Q f budget written last lies released may t = record {
  agrees = Agrees-motion v.records motions k c m d t.agrees last (rw written at t.acted) may.within;
  within = within-act v k c m d failed motions budget written last lies released t may;
  counted = counted-act v k c m d failed motions written released t;
  acted = Contains-push motions (Moved (length v.records) k m d);
}

pub told-act : (v : View) (k : Kind) (c m d : Counts) (failed : Bool) (was now seen : Option (List Motion)) (Q : Places) (f : ℕ) → Budget v → v.open_order ≡ Written k c
    → record_at v.records (length v.records) ≡ Some (Order k c) → LiesIn c (source_of k v.places) → IfPresent k (IsReleased v.records)
    → MayCarry k c m d failed → IfTold was (Ties v) → AddsEntry was (Moved (length v.records) k m d) now
    → IfTold now (Ties (acted_view v k m d failed seen Q f))
told-act v k c m d failed None now seen Q f budget written last lies released may told grows = rw grows tt
told-act v k c m d failed (Some motions) now seen Q f budget written last lies released may t grows = rw grows (Ties-act v k c m d failed motions seen Q f budget written last lies released may t)

-- a list that stands beside a journal that isn't told is not told
pub grows-told : (b : Bool) (was now : Option (List Motion)) (m : Motion) → AddsEntry was m now → AddsEntry (where_told b was) m (where_told b now)
grows-told true was now m g = g
grows-told false was now m g = refl

-- carrying out the order
pub IsSound-act : (v : View) (k : Kind) (c m d : Counts) (failed : Bool) (now : Option (List Motion)) (Q : Places) (f : ℕ) → IsSound v → v.open_order ≡ Written k c
    → MayCarry k c m d failed → AddsEntry v.motions (Moved (length v.records) k m d) now → PlacesOf v.places (Moved (length v.records) k m d ∷ []) Q
    → IsSound (acted_view v k m d failed now Q f)
IsSound-act v k c m d failed now Q f s written may grows places =
    let stands = rw written at s.stands in record {
      numbered = s.numbered;
      stands = (c, stands.0, stands.2);
      budget = budget-act v k c m d failed now Q f s.budget written may places;
      told = told-act v k c m d failed (where_told v.disk_told v.motions) (where_told v.disk_told now) now Q f s.budget written stands.0 stands.1 stands.2 may s.told (grows-told v.disk_told v.motions now _ grows);
    }
