-- An order of a plan that isn't refused is carried out in full by three steps, where no count of faults rises.
use Rattle.std.proofs.Common.{◌≡◌, ◌≤◌, ◌⊎◌, ℕ, zero, suc, Bool, true, false, List, [], ◌∷◌, ◌++◌, length, None, Some, inl, inr, refl, sym, subst, ◌∙◌, ap, arith}
use Rattle.std.specs.declared.option.Option.{Option}
use Rattle.xfs_base.specs.Causes.{Rose}
use Rattle.xfs_base.specs.Counts.{IsZero}
use Rattle.xfs_base.specs.declared.counts.Counts.{Counts}
use Rattle.xfs_base.specs.declared.counts.Kind.{Kind}
use Rattle.xfs_base.specs.declared.counts.Places.{Places}
use Rattle.xfs_journal.specs.JournalView.{IsPossible}
use Rattle.xfs_journal.specs.declared.record.Rec.{Rec}
use Rattle.xfs_journal.specs.declared.record.Rec.TheVariants.{Done, Load as LoadRecord}
use Rattle.xfs_mech.specs.Motions.{PlacesOf}
use Rattle.xfs_mech.specs.declared.motion.Motion.TheVariants.{Moved}
use Rattle.xfs_guard.specs.Orders.{Acts, Settles}
use Rattle.xfs_guard.specs.Refusals.{asked_kind, asked_counts}
use Rattle.xfs_guard.specs.View.{View, unbooted, unread}
use Rattle.xfs_guard.specs.declared.ask.Ask.{Ask}
use Rattle.xfs_guard.specs.declared.deny.Deny.{Deny}
use Rattle.xfs_guard.specs.declared.open.Open.{Open}
use Rattle.xfs_guard.specs.declared.open.Open.TheVariants.{No, Written, Acted}
use Rattle.xfs_dispenser.specs.Answers.{Went, more, done}
use Rattle.xfs_dispenser.specs.Complete.{IsCalm, WorksTurns, FollowsTurn}
use Rattle.xfs_dispenser.specs.Plans.{with_parts}
use Rattle.xfs_dispenser.specs.Seen.{Seen, Becomes}
use Rattle.xfs_dispenser.specs.Steps.{Works, WorksOn, DoesFirst, DoesPart, Orders, Restores, Notes, IsActed, IsSettled, IsUnsettled, IsDenied, FailsToWrite, IsWritten, onward, order_record, ordered, refusal_of}
use Rattle.xfs_dispenser.specs.declared.part.Part.{Part}
use Rattle.xfs_dispenser.specs.declared.part.Part.TheVariants.{Order, Restore, Load, Note}
use Rattle.xfs_dispenser.specs.declared.plan.Plan.{Plan}

-- a rise within a longer while is one of the longer while
pub rose-within : (a b x y : ℕ) → a ≤ x → y ≤ b → Rose x y → Rose a b
rose-within a b x y low high rose = omega (arith, low, high, rose)

-- no count of faults fell
pub record IsLater (s next : Seen) : Type 0 where
  pub mech : s.guard.faults ≤ next.guard.faults
  pub disk : s.disk_faults ≤ next.disk_faults

pub later-same : (s next : Seen) → next ≡ s → IsLater s next
later-same s next same = rw same (record { mech = omega arith; disk = omega arith })

pub later-trans : (r s t : Seen) → IsLater r s → IsLater s t → IsLater r t
later-trans r s t a b = record { mech = omega (arith, a.mech, b.mech); disk = omega (arith, a.disk, b.disk) }

-- the guard is this, of which the mechanism has as many faults
pub later-becomes : (s next : Seen) (now : View) → now.faults ≡ s.guard.faults → Becomes s now next → IsLater s next
later-becomes s next now same b = (let e = ap (λ (v : View). v.faults) b.guard_is in record { mech = omega (arith, e, same); disk = b.later })

later-written : (s next : Seen) (refusal : Option Deny) (now : View) → now.faults ≡ s.guard.faults → IsWritten s refusal now next → IsLater s next
later-written s next refusal now same w = later-becomes s next now same w.becomes

later-refused : (s next : Seen) (refusal : Option Deny) (r : Rec) (went : Went) → IsDenied s refusal next went ⊎ FailsToWrite s refusal r next went → IsLater s next
later-refused s next refusal r went (inl d) = later-same s next d.same
later-refused s next refusal r went (inr u) = later-becomes s next _ refl u.fails.becomes

unread-faults : (v now : View) → (now ≡ unread v) ⊎ ((records : List Rec) × IsPossible v.records v.in_doubt records × (now ≡ unbooted v records)) → now.faults ≡ v.faults
unread-faults v now (inl e) = ap (λ (w : View). w.faults) e
unread-faults v now (inr e) = ap (λ (w : View). w.faults) e.2

later-restores : (s : Seen) (plan : Plan) (next : Seen) (after : Plan) (went : Went) → Restores s plan next after went → IsLater s next
later-restores s plan next after went (inl r) = later-becomes s next _ refl r.becomes
later-restores s plan next after went (inr (kept, told, inl f)) = later-becomes s next _ refl f.becomes
later-restores s plan next after went (inr (kept, told, inr (inl u))) = later-becomes s next u.now (unread-faults s.guard u.now u.is) u.fails.becomes
later-restores s plan next after went (inr (kept, told, inr (inr u))) = later-becomes s next _ refl u.becomes

later-notes : (s : Seen) (plan : Plan) (next : Seen) (after : Plan) (went : Went) (r : Rec) (rest : List Part) → Notes r rest s plan next after went → IsLater s next
later-notes s plan next after went r rest (inl w) = later-written s next _ _ refl w.0
later-notes s plan next after went r rest (inr w) = later-refused s next _ r went w.1

later-part : (part : Part) (rest : List Part) (s : Seen) (plan : Plan) (next : Seen) (after : Plan) (went : Went) → DoesPart part rest s plan next after went → IsLater s next
later-part (Order ask) rest s plan next after went (inl w) = later-written s next _ _ refl w.0
later-part (Order ask) rest s plan next after went (inr w) = later-refused s next _ (order_record s.guard ask) went w.1
later-part Restore rest s plan next after went w = later-restores s plan next after went w
later-part (Load unit count) rest s plan next after went w = record { mech = w.called.later; disk = (let e = w.called.disk_same in omega (arith, e)) }
later-part (Note unit count) rest s plan next after went w = later-notes s plan next after went (LoadRecord unit count) rest w

later-on : (o : Open) (s : Seen) (plan : Plan) (next : Seen) (after : Plan) (went : Went) → WorksOn o s plan next after went → IsLater s next
later-on (Written kind counts) s plan next after went w = record { mech = w.called.later; disk = (let e = w.called.disk_same in omega (arith, e)) }
later-on (Acted kind moved diverted failed) s plan next after went (kept, inl w) = (let e = ap (λ (v : View). v.faults) w.settles.same in record { mech = omega (arith, e); disk = w.later })
later-on (Acted kind moved diverted failed) s plan next after went (kept, inr w) = (let e = ap (λ (v : View). v.faults) w.unsettles.same in record { mech = omega (arith, e); disk = w.later })
later-on No s plan next after went w = first plan.parts.items w
  where
    first : (parts : List Part) → DoesFirst parts s plan next after went → IsLater s next
    first [] d = absurd d
    first (part ∷ rest) d = later-part part rest s plan next after went d

-- a step
pub works-later : (s : Seen) (plan : Plan) (next : Seen) (after : Plan) (went : Went) → Works s plan next after went → IsLater s next
works-later s plan next after went w = later-on s.guard.open_order s plan next after went w

-- what follows a step
follows-by : (Later : Seen → Plan → Seen → Went → Type 0) (s : Seen) (plan : Plan) (first : Went) (next : Seen) (went : Went)
    → ((s : Seen) (plan : Plan) (next : Seen) (went : Went) → Later s plan next went → IsLater s next) → FollowsTurn Later s plan first next went → IsLater s next
follows-by Later s plan more next went each l = each s plan next went l
follows-by Later s plan (done a) next went each l = later-same s next l.0

-- and several
pub turns-later : (n : ℕ) (s : Seen) (plan : Plan) (next : Seen) (went : Went) → WorksTurns n s plan next went → IsLater s next
turns-later zero s plan next went t = later-same s next t.0
turns-later (suc n) s plan next went t =
    later-trans s t.middle next (works-later s plan t.middle t.after t.first t.works) (follows-by (WorksTurns n) t.middle t.after t.first next went (λ r p x w l. turns-later n r p x w l) t.later)

pub follows-later : (n : ℕ) (s : Seen) (plan : Plan) (first : Went) (next : Seen) (went : Went) → FollowsTurn (WorksTurns n) s plan first next went → IsLater s next
follows-later n s plan first next went l = follows-by (WorksTurns n) s plan first next went (λ r p x w t. turns-later n r p x w t) l

-- a calm while is calm in its first part and in the rest
pub calm-first : (r s t : Seen) → IsLater s t → IsCalm r t → IsCalm r s
calm-first r s t on calm = record {
  mech = λ rose. calm.mech (rose-within r.guard.faults t.guard.faults r.guard.faults s.guard.faults (omega arith) on.mech rose);
  disk = λ rose. calm.disk (rose-within r.disk_faults t.disk_faults r.disk_faults s.disk_faults (omega arith) on.disk rose);
}

pub calm-rest : (r s t : Seen) → IsLater r s → IsCalm r t → IsCalm s t
calm-rest r s t on calm = record {
  mech = λ rose. calm.mech (rose-within r.guard.faults t.guard.faults s.guard.faults t.guard.faults on.mech (omega arith) rose);
  disk = λ rose. calm.disk (rose-within r.disk_faults t.disk_faults s.disk_faults t.disk_faults on.disk (omega arith) rose);
}

-- an order was carried out with all of its notes
pub record IsFull (s : Seen) (ask : Ask) (next : Seen) : Type 0 where
  pub diverted : Counts
  pub none : IsZero diverted
  pub eight : length diverted.0 ≡ 8
  pub number : ℕ
  pub places : PlacesOf s.guard.places (Moved number (asked_kind ask) (asked_counts s.guard ask) diverted ∷ []) next.guard.places
  pub records : next.guard.records ≡ (s.guard.records ++ order_record s.guard ask ∷ []) ++ Done (asked_counts s.guard ask) diverted ∷ []
  pub base : next.guard.base ≡ s.guard.base
  pub settled : next.guard.open_order ≡ No
  pub bound : next.guard.bound ≡ s.guard.bound
  pub units : next.guard.units ≡ s.guard.units
  pub limits : next.guard.limits ≡ s.guard.limits
  pub shut : next.guard.shut ≡ s.guard.shut
  pub boot_missing : next.guard.boot_missing ≡ s.guard.boot_missing

-- the first order of a plan was carried out in full, and so many turns follow
pub record IsCarried (s : Seen) (plan : Plan) (ask : Ask) (rest : List Part) (n : ℕ) (next : Seen) (went : Went) : Type 0 where
  pub middle : Seen
  pub full : IsFull s ask middle
  pub since : IsLater s middle
  pub after : Plan
  pub notes : after.notes ≡ plan.notes
  pub parts : after.parts.items ≡ rest
  pub later : FollowsTurn (WorksTurns n) middle after (onward s.guard.units plan.notes rest) next went

pub written-kind : (k j : Kind) (a b : Counts) → Written k a ≡ Written j b → (j ≡ k) × (b ≡ a)
written-kind k j a b e = (cc, cc)

acted-moved : (k j : Kind) (m n d e : Counts) (f g : Bool) → Acted k m d f ≡ Acted j n e g → (n ≡ m) × (e ≡ d) × (g ≡ f)
acted-moved k j m n d e f g h = (cc, cc, cc)

places-at : (n : ℕ) (k j : Kind) (m c d : Counts) (p q r t : Places) → p ≡ q → k ≡ j → m ≡ c → r ≡ t → PlacesOf p (Moved n k m d ∷ []) t → PlacesOf q (Moved n j c d ∷ []) r
places-at n k j m c d p q r t a b e f h = rw (← a, ← b, ← e, f) h

pub sound : (b : Bool) → (b ≡ true → ⊥) → b ≡ false
sound true never = absurd (never refl)
sound false never = refl

-- written, acted with all of its notes, and settled
pub full-of : (s : Seen) (ask : Ask) (written acted next : Seen) (moved diverted : Counts) (failed : Bool) → written.guard ≡ ordered s.guard ask → failed ≡ false
    → Acts written.guard acted.guard moved diverted failed → Settles acted.guard next.guard → IsFull s ask next
full-of s ask written acted next moved diverted failed w fine a t =
    let asked = written-kind (asked_kind ask) a.kind (asked_counts s.guard ask) a.counts (sym (ap (λ (v : View). v.open_order) w) ∙ a.written) in
    let whole = a.carried.full fine in
    let done_as = acted-moved a.kind t.kind moved t.moved diverted t.diverted failed t.failed (sym (ap (λ (v : View). v.open_order) a.same) ∙ t.acted) in
    let all : moved ≡ asked_counts s.guard ask = whole.0 ∙ asked.1 in
    let appended : next.guard.records ≡ acted.guard.records ++ Done t.moved t.diverted ∷ [] = ap (λ (v : View). v.records) t.same in
    let kept : acted.guard.records ≡ s.guard.records ++ order_record s.guard ask ∷ [] = ap (λ (v : View). v.records) a.same ∙ ap (λ (v : View). v.records) w in
    record {
      diverted = diverted;
      none = whole.1;
      eight = a.diverted_eight;
      number = length written.guard.records;
      places = places-at (length written.guard.records) a.kind (asked_kind ask) moved (asked_counts s.guard ask) diverted written.guard.places s.guard.places next.guard.places acted.guard.places
          (ap (λ (v : View). v.places) w) asked.0 all (ap (λ (v : View). v.places) t.same) a.places;
      records = appended ∙ (ap (λ l. l ++ Done t.moved t.diverted ∷ []) kept
          ∙ (ap (λ m. (s.guard.records ++ order_record s.guard ask ∷ []) ++ Done m t.diverted ∷ []) (done_as.0 ∙ all)
          ∙ ap (λ d. (s.guard.records ++ order_record s.guard ask ∷ []) ++ Done (asked_counts s.guard ask) d ∷ []) done_as.1));
      base = ap (λ (v : View). v.base) t.same ∙ (ap (λ (v : View). v.base) a.same ∙ ap (λ (v : View). v.base) w);
      settled = ap (λ (v : View). v.open_order) t.same;
      bound = ap (λ (v : View). v.bound) t.same ∙ (ap (λ (v : View). v.bound) a.same ∙ ap (λ (v : View). v.bound) w);
      units = ap (λ (v : View). v.units) t.same ∙ (ap (λ (v : View). v.units) a.same ∙ ap (λ (v : View). v.units) w);
      limits = ap (λ (v : View). v.limits) t.same ∙ (ap (λ (v : View). v.limits) a.same ∙ ap (λ (v : View). v.limits) w);
      shut = ap (λ (v : View). v.shut) t.same ∙ (ap (λ (v : View). v.shut) a.same ∙ ap (λ (v : View). v.shut) w);
      boot_missing = ap (λ (v : View). v.boot_missing) t.same ∙ (ap (λ (v : View). v.boot_missing) a.same ∙ ap (λ (v : View). v.boot_missing) w);
    }

-- the step that settles an acted order
settles-full : (s : Seen) (ask : Ask) (plan : Plan) (rest : List Part) (n : ℕ) (written acted next : Seen) (acted_plan : Plan) (moved diverted : Counts) (failed : Bool) (went : Went)
    → written.guard ≡ ordered s.guard ask → IsLater s acted → failed ≡ false → Acts written.guard acted.guard moved diverted failed
    → acted_plan.notes ≡ plan.notes → acted_plan.parts.items ≡ rest → IsCalm acted next → WorksTurns (suc n) acted acted_plan next went → IsCarried s plan ask rest n next went
settles-full s ask plan rest n written acted next acted_plan moved diverted failed went w since fine a notes parts calm t =
    go (subst (λ o. WorksOn o acted acted_plan t.middle t.after t.first) (ap (λ (v : View). v.open_order) a.same) t.works)
  where
    units : acted.guard.units ≡ s.guard.units
    units = ap (λ (v : View). v.units) a.same ∙ ap (λ (v : View). v.units) w

    go : (t.after ≡ acted_plan) × (IsSettled acted acted_plan failed t.middle t.first ⊎ IsUnsettled acted t.middle t.first) → IsCarried s plan ask rest n next went
    go (kept, inr u) =
        let later = follows-later n t.middle t.after t.first next went t.later in
        absurd (calm.disk (rose-within acted.disk_faults next.disk_faults acted.disk_faults t.middle.disk_faults (omega arith) later.disk u.cause))
    go (kept, inl i) =
        let told : t.first ≡ onward s.guard.units plan.notes rest = i.is ∙ rw (fine, notes, parts, units) refl in
        record {
          middle = t.middle;
          full = full-of s ask written acted t.middle moved diverted failed w fine a i.settles;
          since = later-trans s acted t.middle since (record { mech = (let e = ap (λ (v : View). v.faults) i.settles.same in omega (arith, e)); disk = i.later });
          after = t.after;
          notes = ap (λ (p : Plan). p.notes) kept ∙ notes;
          parts = ap (λ (p : Plan). p.parts.items) kept ∙ parts;
          later = rw told at t.later;
        }

-- the step that acts a written order
acts-full : (s : Seen) (ask : Ask) (plan : Plan) (rest : List Part) (n : ℕ) (written next : Seen) (written_plan : Plan) (went : Went)
    → written.guard ≡ ordered s.guard ask → IsLater s written → written_plan ≡ with_parts plan rest → IsCalm written next → WorksTurns (suc (suc n)) written written_plan next went → IsCarried s plan ask rest n next went
acts-full s ask plan rest n written next written_plan went w since is calm t = go (subst (λ o. WorksOn o written written_plan t.middle t.after t.first) (ap (λ (v : View). v.open_order) w) t.works)
  where
    go : IsActed written written_plan t.middle t.after t.first → IsCarried s plan ask rest n next went
    go a =
        let on : WorksTurns (suc n) t.middle t.after next went = rw a.is at t.later in
        let later = turns-later (suc n) t.middle t.after next went on in
        let fine = sound a.outcome.failed (λ e. calm.mech (rose-within written.guard.faults next.guard.faults written.guard.faults t.middle.guard.faults (omega arith) later.mech (a.called.cause e))) in
        let here : IsLater written t.middle = record { mech = a.called.later; disk = (let e = a.called.disk_same in omega (arith, e)) } in
        settles-full s ask plan rest n written t.middle next t.after a.outcome.moved a.outcome.diverted a.outcome.failed went w (later-trans s written t.middle since here) fine a.acts
        (ap (λ (p : Plan). p.notes) a.kept ∙ ap (λ (p : Plan). p.notes) is) (ap (λ (p : Plan). p.parts.items) a.kept ∙ ap (λ (p : Plan). p.parts.items) is)
        (calm-rest written t.middle next here calm) on

-- the three steps of an order that isn't refused
pub carried-full : (s : Seen) (plan : Plan) (ask : Ask) (rest : List Part) (n : ℕ) (next : Seen) (went : Went) → s.guard.open_order ≡ No → plan.parts.items ≡ Order ask ∷ rest → refusal_of s.guard ask ≡ None
    → IsCalm s next → WorksTurns (suc (suc (suc n))) s plan next went → IsCarried s plan ask rest n next went
carried-full s plan ask rest n next went none is free calm t = go (subst (λ ps. DoesFirst ps s plan t.middle t.after t.first) is (subst (λ o. WorksOn o s plan t.middle t.after t.first) none t.works))
  where
    go : Orders ask rest s plan t.middle t.after t.first → IsCarried s plan ask rest n next went
    go (inl w) =
        let on : WorksTurns (suc (suc n)) t.middle t.after next went = rw w.2 at t.later in
        let here = later-written s t.middle _ _ refl w.0 in
        acts-full s ask plan rest n t.middle next t.after went w.0.becomes.guard_is here w.1 (calm-rest s t.middle next here calm) on
    go (inr (kept, inl d)) = (let e : None ≡ Some d.deny = sym free ∙ d.first in cc)
    go (inr (kept, inr u)) =
        let later = follows-later (suc (suc n)) t.middle t.after t.first next went t.later in
        absurd (calm.disk (rose-within s.disk_faults next.disk_faults s.disk_faults t.middle.disk_faults (omega arith) later.disk u.fails.cause))
