-- A step that leaves more to do leaves a plan that can be worked on, and an answer leaves no order open.
use Rattle.std.proofs.Common.{◌≡◌, ◌≢◌, ◌⊎◌, ℕ, Bool, true, false, List, [], ◌∷◌, ◌++◌, drop, get_or, Ok, Err, inl, inr, refl, sym, subst, ◌∙◌, ap}
use Rattle.std.specs.Prelude.{◌==◌, IfOk, sum, if◌then◌else◌}
use Rattle.std.specs.declared.option.Option.{Option}
use Rattle.std.specs.declared.result.Result.{Result}
use Rattle.xfs_base.specs.declared.counts.Counts.{Counts}
use Rattle.xfs_base.specs.declared.faults.Memory.{Memory}
use Rattle.xfs_base.specs.declared.money.NoteKind.{NoteKind}
use Rattle.xfs_journal.specs.declared.record.Rec.{Rec}
use Rattle.xfs_journal.specs.declared.record.Rec.TheVariants.{Load as LoadRecord}
use Rattle.xfs_journal.specs.JournalView.{IsPossible}
use Rattle.xfs_guard.specs.View.{View, unbooted, unread}
use Rattle.xfs_guard.specs.Refusals.{asked_kind, asked_counts}
use Rattle.xfs_guard.specs.declared.ask.Ask.{Ask}
use Rattle.xfs_guard.specs.declared.ask.Ask.TheVariants.{Reject, Retract}
use Rattle.xfs_guard.specs.declared.open.Open.{Open}
use Rattle.xfs_guard.specs.declared.open.Open.TheVariants.{No, Written, Acted}
use Rattle.xfs_dispenser.specs.Answers.{CashAnswer, Went, more, done, went_of}
use Rattle.xfs_dispenser.specs.Plans.{AreEight, CanBeginAll, IsPlanned, KeepsOutcome, emptying, order_of_all, with_parts}
use Rattle.xfs_dispenser.specs.Seen.{Seen}
use Rattle.xfs_dispenser.specs.Steps.{DoesFirst, DoesPart, IsActed, IsSettled, Loads, Notes, Orders, Restores, Works, WorksOn, onward, settled}
use Rattle.xfs_dispenser.specs.declared.part.Part.{Part}
use Rattle.xfs_dispenser.specs.declared.part.Part.TheVariants.{Order, Restore, Load, Note}
use Rattle.xfs_dispenser.specs.declared.plan.Plan.{Plan}
use Rattle.xfs_dispenser.specs.declared.progress.Progress.{Progress}
use Rattle.xfs_dispenser.proofs.StepLaws.{begin-loaded, begin-still, moved-room, same-room}

never : (answer : CashAnswer) → more ≡ done answer → ⊥
never answer e = cc

goes-on : (units : List NoteKind) (notes : Option Counts) (parts : List Part) → more ≡ onward units notes parts → parts ≢ []
goes-on units notes [] e f = never _ e
goes-on units notes (part ∷ parts) e f = cc

settled-on : (units : List NoteKind) (plan : Plan) (failed : Bool) → more ≡ settled units plan failed → plan.parts.items ≢ []
settled-on units plan true e = absurd (never _ e)
settled-on units plan false e = goes-on units plan.notes plan.parts.items e

loaded-on : (units : List NoteKind) (notes : Option Counts) (parts : List Part) (answer : CashAnswer) (failed : Bool) → more ≡ (if failed then done answer else onward units notes parts) → (failed ≡ false) × (parts ≢ [])
loaded-on units notes parts answer true e = absurd (never answer e)
loaded-on units notes parts answer false e = (refl, goes-on units notes parts e)

-- a plan with no order open
closed : (v : View) (plan : Plan) (parts : List Part) → plan.parts.items ≡ parts → v.open_order ≡ No → parts ≢ [] → CanBeginAll v parts → AreEight plan.notes → IsPlanned v plan
closed v plan parts is none some can eight = record { some_left = λ e. λ f. some (sym is ∙ f); outcome = subst (λ o. KeepsOutcome o plan.failed) (sym none) tt; parts = subst (CanBeginAll v) (sym is) can; eight = eight }

with-parts : (after plan : Plan) (parts : List Part) → after ≡ with_parts plan parts → after.parts.items ≡ parts
with-parts after plan parts e = ap (λ (p : Plan). p.parts.items) e

-- what the plan tells stays
with-notes : (after plan : Plan) (parts : List Part) → after ≡ with_parts plan parts → AreEight plan.notes → AreEight after.notes
with-notes after plan parts e eight = subst AreEight (sym (ap (λ (p : Plan). p.notes) e)) eight

acted-planned : (s : Seen) (plan : Plan) (next : Seen) (after : Plan) (went : Went) → IsPlanned s.guard plan → IsActed s plan next after went → IsPlanned next.guard after
acted-planned s plan next after went p a =
    let open_now : next.guard.open_order ≡ Acted a.acts.kind a.outcome.moved a.outcome.diverted a.outcome.failed = ap (λ (v : View). v.open_order) a.acts.same in
    let parts : after.parts.items ≡ plan.parts.items = ap (λ (x : Plan). x.parts.items) a.kept in
    record {
      some_left = λ e. absurd (let f : Acted a.acts.kind a.outcome.moved a.outcome.diverted a.outcome.failed ≡ No = sym open_now ∙ e in cc);
      outcome = subst (λ o. KeepsOutcome o after.failed) (sym open_now) (ap (λ (x : Plan). x.failed) a.kept);
      parts = subst (CanBeginAll next.guard) (sym parts) (begin-still s.guard next.guard plan.parts.items (ap (λ (v : View). v.units) a.acts.same) (moved-room s.guard.places next.guard.places _ a.acts.kind a.outcome.moved a.outcome.diverted a.acts.places) p.parts);
      eight = subst AreEight (sym (ap (λ (x : Plan). x.notes) a.kept)) p.eight;
    }

settled-planned : (s : Seen) (plan : Plan) (failed : Bool) (next : Seen) (after : Plan) → IsPlanned s.guard plan → after ≡ plan → IsSettled s plan failed next more → IsPlanned next.guard after
settled-planned s plan failed next after p kept i =
    closed next.guard after plan.parts.items (ap (λ (x : Plan). x.parts.items) kept) (ap (λ (v : View). v.open_order) i.settles.same) (settled-on s.guard.units plan failed i.is)
    (begin-still s.guard next.guard plan.parts.items (ap (λ (v : View). v.units) i.settles.same) (same-room s.guard.places next.guard.places (ap (λ (v : View). v.places) i.settles.same)) p.parts)
    (subst AreEight (sym (ap (λ (x : Plan). x.notes) kept)) p.eight)

order-begins : (v : View) (counts : Counts) (rest : List Part) → CanBeginAll v rest → CanBeginAll v (order_of_all Reject counts ++ rest)
order-begins v counts rest can = go (sum counts.0 == 0)
  where
    go : (b : Bool) → CanBeginAll v ((if b then [] else Order Reject ∷ []) ++ rest)
    go true = can
    go false = (tt, tt, can)

last-begins : (v : View) (counts : Counts) → CanBeginAll v (order_of_all Retract counts)
last-begins v counts = go (sum counts.0 == 0)
  where
    go : (b : Bool) → CanBeginAll v (if b then [] else Order Retract ∷ [])
    go true = tt
    go false = (tt, tt, tt)

orders-planned : (s : Seen) (plan : Plan) (next : Seen) (after : Plan) (ask : Ask) (rest : List Part) → CanBeginAll s.guard rest → AreEight plan.notes → Orders ask rest s plan next after more → IsPlanned next.guard after
orders-planned s plan next after ask rest can eight (inl (w, left, is)) =
    let parts = with-parts after plan rest left in
    let same = w.becomes.guard_is in
    record {
      some_left = λ e. absurd (let f : Written (asked_kind ask) (asked_counts s.guard ask) ≡ No = sym (ap (λ (v : View). v.open_order) same) ∙ e in cc);
      outcome = subst (λ o. KeepsOutcome o after.failed) (sym (ap (λ (v : View). v.open_order) same)) tt;
      parts = subst (CanBeginAll next.guard) (sym parts) (begin-still s.guard next.guard rest (ap (λ (v : View). v.units) same) (same-room s.guard.places next.guard.places (ap (λ (v : View). v.places) same)) can);
      eight = with-notes after plan rest left eight;
    }
orders-planned s plan next after ask rest can eight (inr (kept, inl d)) = absurd (never d.answer d.is)
orders-planned s plan next after ask rest can eight (inr (kept, inr u)) = absurd (never _ u.is)

restores-planned : (s : Seen) (plan : Plan) (next : Seen) (after : Plan) → AreEight plan.notes → Restores s plan next after more → IsPlanned next.guard after
restores-planned s plan next after eight (inl r) =
    closed next.guard after (emptying s.guard.places) (with-parts after plan (emptying s.guard.places) r.left) (ap (λ (v : View). v.open_order) r.becomes.guard_is) (goes-on s.guard.units plan.notes (emptying s.guard.places) r.is)
    (order-begins next.guard s.guard.places.transport (order_of_all Retract s.guard.places.outlet) (last-begins next.guard s.guard.places.outlet))
    (with-notes after plan (emptying s.guard.places) r.left eight)
restores-planned s plan next after eight (inr (kept, told, how)) = absurd (never _ told)

loads-planned : (s : Seen) (plan : Plan) (next : Seen) (after : Plan) (unit count : ℕ) (rest : List Part) → s.guard.open_order ≡ No → CanBeginAll s.guard (Load unit count ∷ rest) → AreEight plan.notes → Loads unit count rest s plan next after more → IsPlanned next.guard after
loads-planned s plan next after unit count rest none can eight l =
    let on = loaded-on s.guard.units plan.notes rest _ l.outcome.failed l.is in
    closed next.guard after rest (with-parts after plan rest l.left) (ap (λ (v : View). v.open_order) l.reported.same ∙ none) on.1
    (begin-loaded s.guard next.guard unit count rest (ap (λ (v : View). v.units) l.reported.same) (l.reported.reported.moves on.0).reached can.1 can.2)
    (with-notes after plan rest l.left eight)

notes-planned : (s : Seen) (plan : Plan) (next : Seen) (after : Plan) (r : Rec) (rest : List Part) → s.guard.open_order ≡ No → CanBeginAll s.guard rest → AreEight plan.notes → Notes r rest s plan next after more → IsPlanned next.guard after
notes-planned s plan next after r rest none can eight (inl (w, left, is)) =
    let same = w.becomes.guard_is in
    closed next.guard after rest (with-parts after plan rest left) (ap (λ (v : View). v.open_order) same ∙ none) (goes-on s.guard.units plan.notes rest is)
    (begin-still s.guard next.guard rest (ap (λ (v : View). v.units) same) (same-room s.guard.places next.guard.places (ap (λ (v : View). v.places) same)) can)
    (with-notes after plan rest left eight)
notes-planned s plan next after r rest none can eight (inr (kept, inl d)) = absurd (never d.answer d.is)
notes-planned s plan next after r rest none can eight (inr (kept, inr u)) = absurd (never _ u.is)

part-planned : (part : Part) (rest : List Part) (s : Seen) (plan : Plan) (next : Seen) (after : Plan) → s.guard.open_order ≡ No → CanBeginAll s.guard (part ∷ rest) → AreEight plan.notes → DoesPart part rest s plan next after more → IsPlanned next.guard after
part-planned (Order ask) rest s plan next after none can eight w = orders-planned s plan next after ask rest can.2 eight w
part-planned Restore rest s plan next after none can eight w = restores-planned s plan next after eight w
part-planned (Load unit count) rest s plan next after none can eight w = loads-planned s plan next after unit count rest none can eight w
part-planned (Note unit count) rest s plan next after none can eight w = notes-planned s plan next after (LoadRecord unit count) rest none can.2 eight w

-- a step that leaves more to do
pub work-planned : (s : Seen) (plan : Plan) (next : Seen) (after : Plan) → IsPlanned s.guard plan → Works s plan next after more → IsPlanned next.guard after
work-planned s plan next after p w = go s.guard.open_order refl w
  where
    first : (parts : List Part) → s.guard.open_order ≡ No → CanBeginAll s.guard parts → DoesFirst parts s plan next after more → IsPlanned next.guard after
    first [] none can d = absurd d
    first (part ∷ rest) none can d = part-planned part rest s plan next after none can p.eight d

    go : (o : Open) → s.guard.open_order ≡ o → WorksOn o s plan next after more → IsPlanned next.guard after
    go (Written kind counts) e a = acted-planned s plan next after more p a
    go (Acted kind moved diverted failed) e (kept, inl i) = settled-planned s plan failed next after p kept i
    go (Acted kind moved diverted failed) e (kept, inr u) = absurd (never _ u.is)
    go No e d = first plan.parts.items e p.parts d

-- what a step that is Ok has done
pub at-more : (P : Went → Type 0) (r : Result Progress Memory) → IfOk r (λ p. P (went_of p)) → r ≡ Ok Progress.More → P more
at-more P (Ok Progress.More) h e = h
at-more P (Ok (Progress.Result code payload)) h e = cc
at-more P (Err m) h e = cc

pub unread-closed : (v now : View) → (now ≡ unread v) ⊎ ((records : List Rec) × IsPossible v.records v.in_doubt records × (now ≡ unbooted v records)) → now.open_order ≡ No
unread-closed v now (inl e) = ap (λ (w : View). w.open_order) e
unread-closed v now (inr e) = ap (λ (w : View). w.open_order) e.2

restores-over : (s : Seen) (plan : Plan) (next : Seen) (after : Plan) (went : Went) → Restores s plan next after went → next.guard.open_order ≡ No
restores-over s plan next after went (inl r) = ap (λ (v : View). v.open_order) r.becomes.guard_is
restores-over s plan next after went (inr (kept, told, inl f)) = ap (λ (v : View). v.open_order) f.becomes.guard_is
restores-over s plan next after went (inr (kept, told, inr (inl u))) = ap (λ (v : View). v.open_order) u.fails.becomes.guard_is ∙ unread-closed s.guard u.now u.is
restores-over s plan next after went (inr (kept, told, inr (inr u))) = ap (λ (v : View). v.open_order) u.becomes.guard_is

part-over : (part : Part) (rest : List Part) (s : Seen) (plan : Plan) (next : Seen) (after : Plan) (answer : CashAnswer) → s.guard.open_order ≡ No → DoesPart part rest s plan next after (done answer) → next.guard.open_order ≡ No
part-over (Order ask) rest s plan next after answer none (inl (w, left, is)) = absurd (never answer (sym is))
part-over (Order ask) rest s plan next after answer none (inr (kept, inl d)) = ap (λ (x : Seen). x.guard.open_order) d.same ∙ none
part-over (Order ask) rest s plan next after answer none (inr (kept, inr u)) = ap (λ (v : View). v.open_order) u.fails.becomes.guard_is ∙ none
part-over Restore rest s plan next after answer none w = restores-over s plan next after (done answer) w
part-over (Load unit count) rest s plan next after answer none w = ap (λ (v : View). v.open_order) w.reported.same ∙ none
part-over (Note unit count) rest s plan next after answer none (inl (w, left, is)) = ap (λ (v : View). v.open_order) w.becomes.guard_is ∙ none
part-over (Note unit count) rest s plan next after answer none (inr (kept, inl d)) = ap (λ (x : Seen). x.guard.open_order) d.same ∙ none
part-over (Note unit count) rest s plan next after answer none (inr (kept, inr u)) = ap (λ (v : View). v.open_order) u.fails.becomes.guard_is ∙ none

-- a step that gives the answer
pub work-over : (s : Seen) (plan : Plan) (next : Seen) (after : Plan) (answer : CashAnswer) → Works s plan next after (done answer) → next.guard.open_order ≡ No
work-over s plan next after answer w = go s.guard.open_order refl w
  where
    first : (parts : List Part) → s.guard.open_order ≡ No → DoesFirst parts s plan next after (done answer) → next.guard.open_order ≡ No
    first [] none d = absurd d
    first (part ∷ rest) none d = part-over part rest s plan next after answer none d

    go : (o : Open) → s.guard.open_order ≡ o → WorksOn o s plan next after (done answer) → next.guard.open_order ≡ No
    go (Written kind counts) e a = absurd (never answer (sym a.is))
    go (Acted kind moved diverted failed) e (kept, inl i) = ap (λ (v : View). v.open_order) i.settles.same
    go (Acted kind moved diverted failed) e (kept, inr u) = ap (λ (v : View). v.open_order) u.unsettles.same
    go No e d = first plan.parts.items e d

pub at-answer : (P : Type 0) (Q : Went → Type 0) (r : Result Progress Memory) → ((answer : CashAnswer) → Q (done answer) → P) → IfOk r (λ p. Q (went_of p)) → IfOk r (λ p. p ≢ Progress.More → P)
at-answer P Q (Ok Progress.More) f h = λ other. absurd (other refl)
at-answer P Q (Ok (Progress.Result code payload)) f h = λ other. f _ h
at-answer P Q (Err m) f h = tt

-- the first part was begun
pub works-part : (s : Seen) (plan : Plan) (next : Seen) (after : Plan) (went : Went) (part : Part) (rest : List Part) → s.guard.open_order ≡ No → plan.parts.items ≡ part ∷ rest → DoesPart part rest s plan next after went → Works s plan next after went
works-part s plan next after went part rest none is d =
    subst (λ o. WorksOn o s plan next after went) (sym none) (subst (λ ps. DoesFirst ps s plan next after went) (sym is) d)

-- an order that isn't there is none
pub none-open : (o : Open) → ((o ≢ No) → ⊥) → o ≡ No
none-open No f = refl
none-open (Written kind counts) f = absurd (f (λ e. cc))
none-open (Acted kind moved diverted failed) f = absurd (f (λ e. cc))

-- the first part of a list, and those behind it
pub first-is : (parts : List Part) (other part : Part) → parts ≢ [] → get_or parts 0 other ≡ part → parts ≡ part ∷ drop 1 parts
first-is [] other part some is = absurd (some refl)
first-is (p ∷ ps) other part some is = ap (λ x. x ∷ ps) is
