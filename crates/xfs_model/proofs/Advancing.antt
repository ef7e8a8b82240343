-- Each call of the guard advances it, and so does each step; a restart alone moves the base.
use Rattle.std.proofs.Common.{◌≡◌, ℕ, ◌≤◌, ◌++◌, ◌⊎◌, Bool, true, false, List, [], ◌∷◌, Option, None, Some, Result, Ok, Err, refl, ap, sym, subst, ◌∙◌, inl, inr, arith}
use Rattle.xfs_base.specs.declared.counts.Counts.{Counts}
use Rattle.xfs_dispenser.specs.Answers.{Start, Went}
use Rattle.xfs_dispenser.specs.Begins.{Begins}
use Rattle.xfs_dispenser.specs.Checks.{Passed, Permits}
use Rattle.xfs_dispenser.specs.Seen.{Seen, Becomes, Fails, MechCalled}
use Rattle.xfs_dispenser.specs.Steps.{DoesFirst, DoesPart, IsDenied, IsRestoreFull, IsUnknown, FailsToWrite, Restores, Works, WorksOn}
use Rattle.xfs_dispenser.specs.declared.ask.CashAsk.{CashAsk}
use Rattle.xfs_dispenser.specs.declared.ask.CashAsk.TheVariants.{Denominate, Dispense, Present, Reject, Reset, Retract, StartExchange, SetStorage, EndExchange}
use Rattle.xfs_dispenser.specs.declared.grant.Grant.{Grant}
use Rattle.xfs_dispenser.specs.declared.part.Part.{Part}
use Rattle.xfs_dispenser.specs.declared.part.Part.TheVariants.{Order, Restore, Load, Note}
use Rattle.xfs_dispenser.specs.declared.plan.Plan.{Plan}
use Rattle.xfs_dispenser.specs.declared.refusal.Refusal.{Refusal}
use Rattle.xfs_guard.specs.Booting.{IsNotReread, IsRereadFailed}
use Rattle.xfs_guard.specs.Refusals.{Binds, bound_token}
use Rattle.xfs_guard.specs.View.{View, rebooted, reread, unbooted, unread}
use Rattle.xfs_guard.specs.declared.deny.Deny.{Deny}
use Rattle.xfs_guard.specs.declared.open.Open.{Open}
use Rattle.xfs_guard.specs.declared.open.Open.TheVariants.{No, Written, Acted}
use Rattle.xfs_journal.specs.Journal.{base_of}
use Rattle.xfs_journal.specs.JournalView.{IsPossible}
use Rattle.xfs_journal.specs.declared.record.Rec.{Rec}
use Rattle.xfs_model.specs.Advances.{Advances}
use Rattle.xfs_guard.specs.Lives.{BeginsWith}
use Rattle.xfs_guard.proofs.LifeLaws.{begins-push, begins-same, begins-trans, possible-begins}
use Rattle.xfs_model.specs.Events.{Answer, Event, join, post, touch, work, outbox, leave, restart, end_, finish, restarted, unrestarted, ended, unsettled}
use Rattle.xfs_model.specs.GuardCalls.{AtMostOneCall, GuardCall, checked, marked, missed, read, took, worked}
use Rattle.xfs_model.specs.Guards.{ActsOn, Closes, FindsNoRoom, IsUnbooted, IsUnrestored, Reboots, SettlesOn, CustomerTakes, unwritten, written}
use Rattle.xfs_model.specs.State.{State}
use Rattle.xfs_model.specs.Step.{Happens, Step, happens, wanting}
use Rattle.xfs_model.proofs.Calls.{calls}
use Rattle.xfs_model.proofs.Wanting.{unmoved}

-- what goes on but for a restart, and is transitive: with the base
record Goes (old new : Seen) : Type 0 where
  key : new.guard.key ≡ old.guard.key
  seed : new.guard.seed ≡ old.guard.seed
  units : new.guard.units ≡ old.guard.units
  limits : new.guard.limits ≡ old.guard.limits
  base : new.guard.base ≡ old.guard.base
  records : BeginsWith new.guard.records old.guard.records
  mech_faults : old.guard.faults ≤ new.guard.faults
  disk_faults : old.disk_faults ≤ new.disk_faults

-- the facts that stay of a view
record Stays (v w : View) : Type 0 where
  key : w.key ≡ v.key
  seed : w.seed ≡ v.seed
  units : w.units ≡ v.units
  limits : w.limits ≡ v.limits
  base : w.base ≡ v.base
  records : BeginsWith w.records v.records
  faults : v.faults ≤ w.faults

advance : (old new : Seen) (now : View) → Stays old.guard now → new.guard ≡ now → old.disk_faults ≤ new.disk_faults → Goes old new
advance old new now stays is later = record {
  key = ap (λ (v : View). v.key) is ∙ stays.key;
  seed = ap (λ (v : View). v.seed) is ∙ stays.seed;
  units = ap (λ (v : View). v.units) is ∙ stays.units;
  limits = ap (λ (v : View). v.limits) is ∙ stays.limits;
  base = ap (λ (v : View). v.base) is ∙ stays.base;
  records = record { more = stays.records.more; is = ap (λ (v : View). v.records) is ∙ stays.records.is };
  mech_faults = let f = stays.faults in let e = ap (λ (v : View). v.faults) is in omega (arith, f, e);
  disk_faults = later;
}

stays_with : (v w : View) → w.key ≡ v.key → w.seed ≡ v.seed → w.units ≡ v.units → w.limits ≡ v.limits → w.base ≡ v.base → w.faults ≡ v.faults → BeginsWith w.records v.records → Stays v w
stays_with v w key seed units limits base faults records = record { key = key; seed = seed; units = units; limits = limits; base = base; records = records; faults = omega (arith, faults) }

becomes : (old new : Seen) (now : View) → Stays old.guard now → Becomes old now new → Goes old new
becomes old new now stays is = advance old new now stays is.guard_is is.later

fails : (old new : Seen) (now : View) → Stays old.guard now → Fails old now new → Goes old new
fails old new now stays is = becomes old new now stays is.becomes

still : (s : Seen) → Goes s s
still s = record { key = refl; seed = refl; units = refl; limits = refl; base = refl; records = begins-same s.guard.records; mech_faults = omega arith; disk_faults = omega arith }

same : (old new : Seen) → new ≡ old → Goes old new
same old new is = rw is (still old)

further : (a b c : Seen) → Goes a b → Goes b c → Goes a c
further a b c ab bc = record {
  key = bc.key ∙ ab.key;
  seed = bc.seed ∙ ab.seed;
  units = bc.units ∙ ab.units;
  limits = bc.limits ∙ ab.limits;
  base = bc.base ∙ ab.base;
  records = begins-trans a.guard.records b.guard.records c.guard.records ab.records bc.records;
  mech_faults = let f = ab.mech_faults in let g = bc.mech_faults in omega (arith, f, g);
  disk_faults = let f = ab.disk_faults in let g = bc.disk_faults in omega (arith, f, g);
}

-- the mechanism was called, and the journal wasn't
moved : (old new : Seen) (failed : Bool) → new.guard.key ≡ old.guard.key → new.guard.seed ≡ old.guard.seed → new.guard.units ≡ old.guard.units → new.guard.limits ≡ old.guard.limits → new.guard.base ≡ old.guard.base → new.guard.records ≡ old.guard.records
    → MechCalled old failed new → Goes old new
moved old new failed key seed units limits base records called = record {
  key = key;
  seed = seed;
  units = units;
  limits = limits;
  base = base;
  records = rw records (begins-same old.guard.records);
  mech_faults = called.later;
  disk_faults = let e = called.disk_same in omega (arith, e);
}

took_ : (old new : Seen) (moved_ : Counts) (failed : Bool) → CustomerTakes old moved_ failed new → Goes old new
took_ old new moved_ failed is =
    let e = is.reported.same in
    moved old new failed (ap (λ (v : View). v.key) e) (ap (λ (v : View). v.seed) e) (ap (λ (v : View). v.units) e) (ap (λ (v : View). v.limits) e) (ap (λ (v : View). v.base) e) (ap (λ (v : View). v.records) e) is.called

acted : (old new : Seen) → ActsOn old new → Goes old new
acted old new is =
    let e = is.acts.same in
    moved old new is.failed (ap (λ (v : View). v.key) e) (ap (λ (v : View). v.seed) e) (ap (λ (v : View). v.units) e) (ap (λ (v : View). v.limits) e) (ap (λ (v : View). v.base) e) (ap (λ (v : View). v.records) e) is.called

-- the Done of an order
settled : (old new : Seen) (b : Bool) → SettlesOn old b new → Goes old new
settled old new true (written now is later) = advance old new _ (stays_with old.guard _ refl refl refl refl refl refl (begins-push old.guard.records _)) is.same later
settled old new false (unwritten now is later rose) = advance old new _ (stays_with old.guard _ refl refl refl refl refl refl (begins-same old.guard.records)) is.same later

closes : (o : Open) (old new : Seen) (b : Bool) → Closes o old b new → Goes old new
closes No old new b is = same old new is.1
closes (Written kind counts) old new b is = further old is.between new (acted old is.between is.acts) (settled is.between new b is.settles)
closes (Acted kind moved_ diverted failed) old new b is = settled old new b is

-- the steps of a plan
denied : (s : Seen) (refusal : Option Deny) (next : Seen) (went : Went) → IsDenied s refusal next went → Goes s next
denied s refusal next went is = same s next is.same

unwritten_ : (s : Seen) (refusal : Option Deny) (r : Rec) (next : Seen) (went : Went) → FailsToWrite s refusal r next went → Goes s next
unwritten_ s refusal r next went is = fails s next _ (stays_with s.guard _ refl refl refl refl refl refl (begins-same s.guard.records)) is.fails

booted : (v : View) (records : List Rec) (r : Rec) → IsPossible v.records v.in_doubt records → BeginsWith (records ++ r ∷ []) v.records
booted v records r is = begins-trans v.records records (records ++ r ∷ []) (possible-begins v.records v.in_doubt records is) (begins-push records r)

full_ : (s next : Seen) → IsRestoreFull s next → Goes s next
full_ s next is = becomes s next _ (stays_with s.guard _ refl refl refl refl refl refl (possible-begins s.guard.records s.guard.in_doubt is.records is.possible)) is.becomes

unread_ : (s next : Seen) (now : View) → (now ≡ unread s.guard) ⊎ ((records : List Rec) × IsPossible s.guard.records s.guard.in_doubt records × (now ≡ unbooted s.guard records)) → Fails s now next → Goes s next
unread_ s next now (inl e) is = fails s next (unread s.guard) (stays_with s.guard _ refl refl refl refl refl refl (begins-same s.guard.records)) (subst (λ (v : View). Fails s v next) e is)
unread_ s next now (inr e) is = fails s next (unbooted s.guard e.0) (stays_with s.guard _ refl refl refl refl refl refl (possible-begins s.guard.records s.guard.in_doubt e.0 e.1)) (subst (λ (v : View). Fails s v next) e.2 is)

unknown_ : (s next : Seen) → IsUnknown s next → Goes s next
unknown_ s next is = becomes s next _ (stays_with s.guard _ refl refl refl refl refl refl (begins-same s.guard.records)) is.becomes

unrestored_ : (s next : Seen) → IsUnrestored s next → Goes s next
unrestored_ s next (inl f) = full_ s next f
unrestored_ s next (inr (inl u)) = unread_ s next u.now u.is u.fails
unrestored_ s next (inr (inr u)) = unknown_ s next u

restores : (s : Seen) (plan : Plan) (next : Seen) (after : Plan) (went : Went) → Restores s plan next after went → Goes s next
restores s plan next after went (inl r) = becomes s next _ (stays_with s.guard _ refl refl refl refl refl refl (booted s.guard r.records _ r.possible)) r.becomes
restores s plan next after went (inr (kept, told, how)) = unrestored_ s next how

part : (p : Part) (rest : List Part) (s : Seen) (plan : Plan) (next : Seen) (after : Plan) (went : Went) → DoesPart p rest s plan next after went → Goes s next
part (Order ask) rest s plan next after went (inl (w, left, is)) = becomes s next _ (stays_with s.guard _ refl refl refl refl refl refl (begins-push s.guard.records _)) w.becomes
part (Order ask) rest s plan next after went (inr (kept, inl d)) = denied s _ next went d
part (Order ask) rest s plan next after went (inr (kept, inr u)) = unwritten_ s _ _ next went u
part Restore rest s plan next after went is = restores s plan next after went is
part (Load unit count) rest s plan next after went is =
    let e = is.reported.same in
    moved s next is.outcome.failed (ap (λ (v : View). v.key) e) (ap (λ (v : View). v.seed) e) (ap (λ (v : View). v.units) e) (ap (λ (v : View). v.limits) e) (ap (λ (v : View). v.base) e) (ap (λ (v : View). v.records) e) is.called
part (Note unit count) rest s plan next after went (inl (w, left, is)) = becomes s next _ (stays_with s.guard _ refl refl refl refl refl refl (begins-push s.guard.records _)) w.becomes
part (Note unit count) rest s plan next after went (inr (kept, inl d)) = denied s _ next went d
part (Note unit count) rest s plan next after went (inr (kept, inr u)) = unwritten_ s _ _ next went u

works : (s : Seen) (plan : Plan) (next : Seen) (after : Plan) (went : Went) → Works s plan next after went → Goes s next
works s plan next after went is = go s.guard.open_order is
  where
    first : (parts : List Part) → DoesFirst parts s plan next after went → Goes s next
    first [] is = absurd is
    first (p ∷ rest) is = part p rest s plan next after went is

    go : (o : Open) → WorksOn o s plan next after went → Goes s next
    go (Written kind counts) is = acted s next (record { moved = is.outcome.moved; diverted = is.outcome.diverted; failed = is.outcome.failed; acts = is.acts; called = is.called })
    go (Acted kind moved_ diverted failed) (kept, inl i) = advance s next _ (stays_with s.guard _ refl refl refl refl refl refl (begins-push s.guard.records _)) i.settles.same i.later
    go (Acted kind moved_ diverted failed) (kept, inr u) = advance s next _ (stays_with s.guard _ refl refl refl refl refl refl (begins-same s.guard.records)) u.unsettles.same u.later
    go No is = first plan.parts.items is

-- the token of a dispense is bound
binds : (s next : Seen) (bytes : List ℕ) (amounts : List (List ℕ × ℕ)) → s.disk_faults ≤ next.disk_faults → Binds s.guard next.guard bytes amounts → Goes s next
binds s next bytes amounts later is = go (bound_token s.guard.records) refl
  where
    go : (t : Option (List ℕ)) → bound_token s.guard.records ≡ t → Goes s next
    go None e = advance s next _ (stays_with s.guard _ refl refl refl refl refl refl (begins-push s.guard.records _)) (is.first e) later
    go (Some t) e = advance s next s.guard (stays_with s.guard s.guard refl refl refl refl refl refl (begins-same s.guard.records)) (is.again (λ f. let g : Some t ≡ None = sym e ∙ f in cc)) later

permits : (s : Seen) (c : Result Passed Refusal) (grant_ : Result Grant Refusal) (next : Seen) → Permits s c grant_ next → Goes s next
permits s (Err r) grant_ next is = same s next is.1
permits s (Ok passed) grant_ next (inl p) = binds s next passed.token passed.amounts p.later p.binds
permits s (Ok passed) grant_ next (inr u) = fails s next _ (stays_with s.guard _ refl refl refl refl refl refl (begins-same s.guard.records)) u.fails

begins : (s : Seen) (exchange : Bool) (ask : CashAsk) (next : Seen) (after : Bool) (start : Start) → Begins s exchange ask next after start → Goes s next
begins s exchange (Denominate notes) next after start is = same s next is.0
begins s exchange (Dispense notes token) next after start is = permits s is.1.checked is.1.grant next is.1.permits
begins s exchange Present next after start is = same s next is.0
begins s exchange Reject next after start is = same s next is.0
begins s exchange Retract next after start is = same s next is.0
begins s exchange Reset next after start is = same s next is.0
begins s exchange StartExchange next after start is = same s next is.0
begins s exchange EndExchange next after start is = same s next is.0
begins s exchange (SetStorage added) next after start is = same s next is.0

guard_call : (old new : Seen) → GuardCall old new → Goes old new
guard_call old new (marked mark now is) = becomes old new _ (stays_with old.guard _ refl refl refl refl refl refl (begins-push old.guard.records _)) is
guard_call old new (missed mark now is) = fails old new _ (stays_with old.guard _ refl refl refl refl refl refl (begins-same old.guard.records)) is
guard_call old new (checked exchange after ask start now is) = begins old exchange ask new after start is
guard_call old new (worked plan left went now is) = works old plan new left went is
guard_call old new (took moved_ failed now is) = took_ old new moved_ failed is
guard_call old new (read now is) = becomes old new old.guard (stays_with old.guard old.guard refl refl refl refl refl refl (begins-same old.guard.records)) is

one_call : (old new : Seen) → AtMostOneCall old new → Goes old new
one_call old new (inl is) = same old new is
one_call old new (inr is) = guard_call old new is

-- an event goes on so
goes_on : (event : Event) (old new : Seen) → Goes old new → Advances event old new
goes_on event old new is = record {
  key = is.key;
  seed = is.seed;
  units = is.units;
  limits = is.limits;
  base = λ other. is.base;
  records = is.records;
  mech_faults = is.mech_faults;
  disk_faults = is.disk_faults;
}

-- and so does a restart from its guard with another base
abbrev rebased : View → ℕ → View
rebased v base = record v { base = base }

anew : (old new : Seen) (now : View) → Stays (rebased old.guard now.base) now → Becomes old now new → Advances restart old new
anew old new now stays is =
    let on = advance (record old { guard = rebased old.guard now.base }) new now stays is.guard_is is.later in
    record {
      key = on.key;
      seed = on.seed;
      units = on.units;
      limits = on.limits;
      base = λ other. absurd (other refl);
      records = on.records;
      mech_faults = on.mech_faults;
      disk_faults = on.disk_faults;
    }

-- the facts that stay where the journal was read as this list
read_as : (v w : View) (records : List Rec) → w.key ≡ v.key → w.seed ≡ v.seed → w.units ≡ v.units → w.limits ≡ v.limits → w.faults ≡ v.faults → w.records ≡ records
    → IsPossible v.records v.in_doubt records → Stays (rebased v w.base) w
read_as v w records key seed units limits faults is possible =
    stays_with (rebased v w.base) w key seed units limits refl faults (rw is (possible-begins v.records v.in_doubt records possible))

restarted_ : (old new : Seen) → Reboots old new → Advances restart old new
restarted_ old new is =
    let now = rebooted old.guard is.records in
    anew old new now (stays_with (rebased old.guard now.base) now refl refl refl refl refl refl (booted old.guard is.records _ is.possible)) is.becomes

no_room : (old new : Seen) → FindsNoRoom old new → Advances restart old new
no_room old new is =
    let now = record (reread old.guard is.is.0) { base = base_of is.is.0 } in
    anew old new now (read_as old.guard now is.is.0 refl refl refl refl refl refl is.is.1) (subst (λ (v : View). Becomes old v new) is.is.3 is.becomes)

fails_to_boot : (old new : Seen) (now : View) → IsNotReread old.guard now ⊎ IsRereadFailed true old.guard now → Fails old now new → Advances restart old new
fails_to_boot old new now (inl e) is = goes_on restart old new (unread_ old new now (inl e) is)
fails_to_boot old new now (inr e) is =
    let then_ = record (unbooted old.guard e.0) { base = base_of e.0 } in
    anew old new then_ (read_as old.guard then_ e.0 refl refl refl refl refl refl e.1) (subst (λ (v : View). Becomes old v new) e.2 is.becomes)

unbooted_ : (old new : Seen) → IsUnbooted old new → Advances restart old new
unbooted_ old new (inl f) = no_room old new f
unbooted_ old new (inr (inl u)) = fails_to_boot old new u.now u.is u.fails
unbooted_ old new (inr (inr u)) = goes_on restart old new (unknown_ old new u)

advances_by : (old : State) (event : Event) (told_ : Answer) (new : State) → Happens old event told_ new → Advances event old.seen new.seen
advances_by old restart restarted new is = rw (is.is) (restarted_ old.seen is.next is.reboots)
advances_by old restart unrestarted new is = rw (is.is) (unbooted_ old.seen is.next is.refused)
advances_by old finish ended new is = rw (is.is) (goes_on finish old.seen is.next (closes old.seen.guard.open_order old.seen is.next true is.closes))
advances_by old finish unsettled new is = rw (is.is) (goes_on finish old.seen is.next (closes old.seen.guard.open_order old.seen is.next false is.closes))
advances_by old (join service) told_ new is = goes_on (join service) old.seen new.seen (one_call old.seen new.seen (calls old (join service) told_ new tt is))
advances_by old (post pass text now) told_ new is = goes_on (post pass text now) old.seen new.seen (one_call old.seen new.seen (calls old (post pass text now) told_ new tt is))
advances_by old (touch it) told_ new is = goes_on (touch it) old.seen new.seen (one_call old.seen new.seen (calls old (touch it) told_ new tt is))
advances_by old (work service now) told_ new is = goes_on (work service now) old.seen new.seen (one_call old.seen new.seen (calls old (work service now) told_ new tt is))
advances_by old (outbox pass) told_ new is = goes_on (outbox pass) old.seen new.seen (one_call old.seen new.seen (calls old (outbox pass) told_ new tt is))
advances_by old (leave pass) told_ new is = goes_on (leave pass) old.seen new.seen (one_call old.seen new.seen (calls old (leave pass) told_ new tt is))
advances_by old end_ told_ new is = goes_on end_ old.seen new.seen (one_call old.seen new.seen (calls old end_ told_ new tt is))
advances_by old event told_ new is = absurd is

pub advances : (old new : State) (event : Event) (told_ : Answer) → Step old event told_ new → Advances event old.seen new.seen
advances old new event told_ (happens up is) = advances_by old event told_ new is
advances old new event told_ (wanting is_memory wants) =
    let u = unmoved old new event wants in
    rw (u.is) (goes_on event old.seen u.next (becomes old.seen u.next old.seen.guard (stays_with old.seen.guard old.seen.guard refl refl refl refl refl refl (begins-same old.seen.guard.records)) u.becomes))
