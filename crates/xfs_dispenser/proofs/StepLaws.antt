-- What a step of a plan keeps: the parts behind it can still be begun, and it adds no other entry than the one that it may.
use Rattle.std.proofs.Common.{◌≡◌, ◌≢◌, ◌≤◌, ◌+◌, ◌-◌, ◌==◌, ℕ, List, [], ◌∷◌, Ok, Err, inl, inr, refl, sym, subst, ◌∙◌, arith}
use Rattle.std.specs.Prelude.{⊤, IsErrAnd, if◌then◌else◌}
use Rattle.std.specs.List.{AllByRecursion}
use Rattle.std.specs.declared.result.Result.{Result}
use Rattle.std.proofs.lemmas.Bool.{ne_eqb}
use Rattle.xfs_base.specs.Counts.{at, all_notes}
use Rattle.xfs_base.specs.declared.counts.Counts.{Counts}
use Rattle.xfs_base.specs.declared.counts.Kind.{Kind}
use Rattle.xfs_base.specs.declared.counts.Places.{Places}
use Rattle.xfs_base.specs.declared.faults.Memory.{Memory}
use Rattle.xfs_base.specs.declared.money.NoteKind.{NoteKind}
use Rattle.xfs_disk.specs.Moments.{LeavesOnly}
use Rattle.xfs_disk.specs.declared.disk.Disk.{Ghosts}
use Rattle.xfs_journal.proofs.Moments.{weaken}
use Rattle.xfs_journal.proofs.Told.{on_told, from_told}
use Rattle.xfs_mech.specs.Mechanism.{CanLoad}
use Rattle.xfs_mech.specs.Motions.{PlacesOf}
use Rattle.xfs_mech.specs.declared.motion.Motion.{Motion}
use Rattle.xfs_mech.specs.declared.motion.Motion.TheVariants.{Moved, Loaded, Taken}
use Rattle.xfs_mech.proofs.SumLaws.{Adds-PlacesOf}
use Rattle.xfs_guard.specs.CrashOutcomes.{MayMove, StandsThrough}
use Rattle.xfs_guard.specs.Keeps.{Keeps, NoEntry}
use Rattle.xfs_guard.specs.Orders.{IsActed}
use Rattle.xfs_guard.specs.View.{View, GuardView}
use Rattle.xfs_guard.proofs.KeepsLaws.{Keeps-same, Proceeds-same}
use Rattle.xfs_guard.specs.declared.ask.Ask.TheVariants as Ask
use Rattle.xfs_guard.specs.declared.open.Open.{Open}
use Rattle.xfs_guard.specs.declared.open.Open.TheVariants.{No, Written, Acted}
use Rattle.xfs_dispenser.specs.Plans.{CanBegin, CanBeginAll, IsNoLoadOf, IsPlanned, KeepsOutcome}
use Rattle.xfs_dispenser.specs.Steps.{KeepsStep, LoadsEntry, MayWork}
use Rattle.xfs_dispenser.specs.declared.part.Part.{Part}
use Rattle.xfs_dispenser.specs.declared.part.Part.TheVariants.{Order, Restore, Load, Note}
use Rattle.xfs_dispenser.specs.declared.plan.Plan.{Plan}

-- fewer entries may be added
pub Keeps-fewer : {D : Type 0} (g : Ghosts D) (More Fewer : Motion → Type 0) (old new : GuardView D) → ((e : Motion) → Fewer e → More e) → Keeps g More old new → Keeps g Fewer old new
Keeps-fewer g More Fewer old new fewer k = record {
  proceeds = k.proceeds;
  recorded = on_told (g.held old.disk) (λ _. LeavesOnly g old.disk new.disk (StandsThrough old.state Fewer)) (λ all told.
      weaken g old.disk new.disk (StandsThrough old.state More) (StandsThrough old.state Fewer) through
      (from_told (g.held old.disk) (λ _. LeavesOnly g old.disk new.disk (StandsThrough old.state More)) k.recorded all told));
}
  where
    through : (bytes : List ℕ) → StandsThrough old.state More bytes → StandsThrough old.state Fewer bytes
    through bytes s = record { records = s.records; stands = s.stands; before = s.before; after = λ entry now may grows. s.after entry now (fewer entry may) grows }

-- a step that was done
pub KeepsStep-done : {T D : Type 0} (g : Ghosts D) (MayAdd : Motion → Type 0) (done : T) (old new : GuardView D) → Keeps g MayAdd old new → KeepsStep {T = T} g MayAdd (Ok done) old new
KeepsStep-done g MayAdd done old new k = record { proceeds = k.proceeds; keeps = k; still = λ upheld. tt }

-- a step that wanted memory, and has done nothing
pub KeepsStep-same : {T D : Type 0} (g : Ghosts D) (MayAdd : Motion → Type 0) (P : Memory → Type 0) (result : Result T Memory) (x : GuardView D) → IsErrAnd result P
    → ((d : D) (c : List ℕ) → g.images_since d (g.moment d) c → g.images d c) → KeepsStep g MayAdd result x x
KeepsStep-same g MayAdd P (Ok done) x err only_now = absurd err
KeepsStep-same g MayAdd P (Err e) x err only_now = record { proceeds = Proceeds-same g x only_now; keeps = tt; still = λ upheld. Keeps-same g x only_now upheld }

-- a step that wanted memory in a call that keeps more
pub KeepsStep-err : {T D : Type 0} (g : Ghosts D) (MayAdd More : Motion → Type 0) (P : Memory → Type 0) (result : Result T Memory) (old new : GuardView D) → IsErrAnd result P
    → Keeps g More old new → KeepsStep g MayAdd result old new
KeepsStep-err g MayAdd More P (Ok done) old new err k = absurd err
KeepsStep-err g MayAdd More P (Err e) old new err k = record { proceeds = k.proceeds; keeps = tt; still = λ upheld. Keeps-fewer g More NoEntry old new (λ entry none. absurd none) k }

not-written : (o : Open) (kind : Kind) (counts : Counts) → IsActed o → o ≡ Written kind counts → ⊥
not-written (Acted k m d f) kind counts acted e = cc
not-written No kind counts acted e = absurd acted
not-written (Written k c) kind counts acted e = absurd acted

not-none : (o : Open) → IsActed o → o ≡ No → ⊥
not-none (Acted k m d f) acted e = cc
not-none No acted e = absurd acted
not-none (Written k c) acted e = absurd acted

-- where an order is acted, a step adds no entry
pub settle-adds-none : (v : View) (plan : Plan) → IsActed v.open_order → (e : Motion) → MayWork v plan e → NoEntry e
settle-adds-none v plan acted e (inl may) = not-written v.open_order may.kind may.counts acted may.written
settle-adds-none v plan acted e (inr may) = not-none v.open_order acted may.0

no-open : (o : Open) (kind : Kind) (counts : Counts) → o ≡ No → o ≡ Written kind counts → ⊥
no-open No kind counts none e = cc
no-open (Written k c) kind counts none e = cc
no-open (Acted k m d f) kind counts none e = cc

abbrev pub IsNoLoad : Part → Type 0
IsNoLoad (Load unit count) = ⊥
IsNoLoad part = ⊤

no-load : (parts : List Part) (part : Part) (rest : List Part) (e : Motion) → parts ≡ part ∷ rest → IsNoLoad part → LoadsEntry parts e → ⊥
no-load parts (Order ask) rest e is plain may = let f = rw is at may in absurd f
no-load parts Restore rest e is plain may = let f = rw is at may in absurd f
no-load parts (Load unit count) rest e is plain may = absurd plain
no-load parts (Note unit count) rest e is plain may = let f = rw is at may in absurd f

-- a part that loads nothing adds no entry
pub part-adds-none : (v : View) (plan : Plan) (part : Part) (rest : List Part) → v.open_order ≡ No → plan.parts.items ≡ part ∷ rest → IsNoLoad part → (e : Motion) → MayWork v plan e → NoEntry e
part-adds-none v plan part rest none is plain e (inl may) = no-open v.open_order may.kind may.counts none may.written
part-adds-none v plan part rest none is plain e (inr may) = no-load plan.parts.items part rest e is plain may.1

-- a loading adds its own
pub load-adds : (v : View) (plan : Plan) (unit count : ℕ) (rest : List Part) → v.open_order ≡ No → plan.parts.items ≡ Load unit count ∷ rest → (e : Motion) → MayWork v plan e → e ≡ Loaded unit count
load-adds v plan unit count rest none is e (inl may) = absurd (no-open v.open_order may.kind may.counts none may.written)
load-adds v plan unit count rest none is e (inr may) = (let f = rw is at may.1 in f)

-- a written order adds what it may move
pub act-adds : (v : View) (plan : Plan) (kind : Kind) (counts : Counts) → v.open_order ≡ Written kind counts → (e : Motion) → MayWork v plan e → MayMove v e
act-adds v plan kind counts written e (inl may) = may
act-adds v plan kind counts written e (inr may) = absurd (no-open v.open_order kind counts may.0 written)

-- a unit has as much room as before
pub record HasAsMuchRoom (before now : Places) (unit : ℕ) : Type 0 where
  pub units : at now.units (unit - 1) ≤ at before.units (unit - 1)
  pub notes : all_notes now (unit - 1) ≤ all_notes before (unit - 1)

still-room : (units : List NoteKind) (before now : Places) (unit count : ℕ) → HasAsMuchRoom before now unit → CanLoad units before unit count → CanLoad units now unit count
still-room units before now unit count less c = record {
  low = c.low;
  high = c.high;
  room = omega (arith, less.units, c.room);
  notes = omega (arith, less.notes, c.notes);
}

begin-one : (v w : View) (part : Part) → w.units ≡ v.units → ((unit : ℕ) → HasAsMuchRoom v.places w.places unit) → CanBegin v part → CanBegin w part
begin-one v w (Order (Ask.Stack issue unit count)) same room c = rw same c
begin-one v w (Order Ask.Present) same room c = tt
begin-one v w (Order Ask.Reject) same room c = tt
begin-one v w (Order Ask.Retract) same room c = tt
begin-one v w Restore same room c = tt
begin-one v w (Load unit count) same room c = rw same (still-room v.units v.places w.places unit count (room unit) c)
begin-one v w (Note unit count) same room c = rw same c

-- where no unit has less room, what could be begun still can
pub begin-still : (v w : View) (parts : List Part) → w.units ≡ v.units → ((unit : ℕ) → HasAsMuchRoom v.places w.places unit) → CanBeginAll v parts → CanBeginAll w parts
begin-still v w [] same room c = tt
begin-still v w (part ∷ parts) same room c = (begin-one v w part same room c.0, c.1, begin-still v w parts same room c.2)

-- nothing was moved
pub same-room : (before now : Places) → now ≡ before → (unit : ℕ) → HasAsMuchRoom before now unit
same-room before now same unit = rw same (record { units = omega arith; notes = omega arith })

-- an order was carried out
pub moved-room : (before now : Places) (n : ℕ) (kind : Kind) (moved diverted : Counts) → PlacesOf before (Moved n kind moved diverted ∷ []) now → (unit : ℕ) → HasAsMuchRoom before now unit
moved-room before now n kind moved diverted places unit = record {
  units = let e = places.units (unit - 1) in omega (arith, e);
  notes = let e = (Adds-PlacesOf before now (Moved n kind moved diverted ∷ []) places) (unit - 1) in omega (arith, e);
}

-- notes of another unit were loaded
loaded-room : (before now : Places) (unit count other : ℕ) → PlacesOf before (Loaded unit count ∷ []) now → 1 ≤ other → other ≢ unit → HasAsMuchRoom before now other
loaded-room before now unit count other places low apart = record {
  units = let e = places.units (other - 1) in let n = none in omega (arith, e, n);
  notes = let e = (Adds-PlacesOf before now (Loaded unit count ∷ []) places) (other - 1) in let n = none in omega (arith, e, n);
}
  where
    none : (if unit == other - 1 + 1 then count else 0) ≡ 0
    none = rw (ne_eqb unit (other - 1 + 1) (λ e. apart (omega (arith, e, low)))) refl

begin-other : (v w : View) (unit count : ℕ) (part : Part) → w.units ≡ v.units → PlacesOf v.places (Loaded unit count ∷ []) w.places → IsNoLoadOf unit part → CanBegin v part → CanBegin w part
begin-other v w unit count (Order (Ask.Stack issue u n)) same places apart c = rw same c
begin-other v w unit count (Order Ask.Present) same places apart c = tt
begin-other v w unit count (Order Ask.Reject) same places apart c = tt
begin-other v w unit count (Order Ask.Retract) same places apart c = tt
begin-other v w unit count Restore same places apart c = tt
begin-other v w unit count (Load u n) same places apart c = rw same (still-room v.units v.places w.places u n (loaded-room v.places w.places unit count u places c.low apart) c)
begin-other v w unit count (Note u n) same places apart c = rw same c

-- once notes of a unit were loaded, the parts that load none of it can still be begun
pub begin-loaded : (v w : View) (unit count : ℕ) (parts : List Part) → w.units ≡ v.units → PlacesOf v.places (Loaded unit count ∷ []) w.places → AllByRecursion (IsNoLoadOf unit) parts
    → CanBeginAll v parts → CanBeginAll w parts
begin-loaded v w unit count [] same places apart c = tt
begin-loaded v w unit count (part ∷ parts) same places apart c = (
  begin-other v w unit count part same places apart.0 c.0,
  c.1,
  begin-loaded v w unit count parts same places apart.1 c.2,
)

-- the customer took notes
pub taken-room : (before now : Places) (counts : Counts) → PlacesOf before (Taken counts ∷ []) now → (unit : ℕ) → HasAsMuchRoom before now unit
taken-room before now counts places unit = record {
  units = let e = places.units (unit - 1) in omega (arith, e);
  notes = let e = (Adds-PlacesOf before now (Taken counts ∷ []) places) (unit - 1) in omega (arith, e);
}

-- whatever happens to the guard between two steps, a plan can be worked on where the open order and the units stay and no unit has less room
pub planned-still : (v w : View) (plan : Plan) → w.open_order ≡ v.open_order → w.units ≡ v.units → ((unit : ℕ) → HasAsMuchRoom v.places w.places unit) → IsPlanned v plan → IsPlanned w plan
planned-still v w plan orders units room p = record {
  some_left = λ e. p.some_left (sym orders ∙ e);
  outcome = subst (λ o. KeepsOutcome o plan.failed) (sym orders) p.outcome;
  parts = begin-still v w plan.parts.items units room p.parts;
  eight = p.eight;
}
