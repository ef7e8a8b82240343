-- While a Dispense or a Present runs, what it has moved and what it is still to move are all of its notes; and where it has the result success, nothing is left.
use Rattle.std.proofs.Common.{◌≡◌, ◌⊎◌, ◌≤◌, ◌<◌, ◌+◌, ℕ, zero, suc, Bool, true, false, List, [], ◌∷◌, Option, Some, length, Ok, refl, ap, sym, subst, ◌∙◌, inl, inr, arith}
use Rattle.std.specs.Prelude.{filter, map, nat_lt, zip, slice_index, ⊤}
use Rattle.std.specs.List.{range_with_len}
use Rattle.std.proofs.lemmas.Bool.{false≢true, lt-ltb}
use Rattle.xfs_base.specs.Counts.{at, IsZero}
use Rattle.xfs_base.specs.declared.counts.Counts.{Counts}
use Rattle.xfs_base.specs.declared.counts.Kind.{Kind}
use Rattle.xfs_base.specs.declared.counts.Kind.TheVariants as kinds
use Rattle.xfs_base.specs.declared.counts.Places.{Places}
use Rattle.xfs_dispenser.proofs.PlanLaws.{stacks_from, stacks-from}
use Rattle.xfs_dispenser.specs.Answers.{Went, more, done, denial}
use Rattle.xfs_dispenser.specs.Denominations.{NotesGiven, denomination_payload}
use Rattle.xfs_dispenser.specs.Plans.{dispense_plan}
use Rattle.xfs_dispenser.specs.Seen.{Seen}
use Rattle.xfs_dispenser.specs.Steps.{DoesFirst, IsActed, IsDenied, IsSettled, IsUnsettled, Orders, Works, WorksOn, onward}
use Rattle.xfs_dispenser.specs.declared.notes.Notes.{Notes}
use Rattle.xfs_dispenser.specs.declared.part.Part.{Part}
use Rattle.xfs_dispenser.specs.declared.part.Part.TheVariants.{Order}
use Rattle.xfs_dispenser.specs.declared.plan.Plan.{Plan}
use Rattle.xfs_guard.specs.Refusals.{notes_of}
use Rattle.xfs_guard.specs.View.{View}
use Rattle.xfs_guard.specs.declared.ask.Ask.TheVariants as asked
use Rattle.xfs_guard.specs.declared.deny.Deny.{Deny}
use Rattle.xfs_guard.specs.declared.open.Open.{Open}
use Rattle.xfs_guard.specs.declared.open.Open.TheVariants.{No, Written, Acted}
use Rattle.xfs_guard.proofs.CoveredLaws.{ahead, ahead-none, ahead-split, ahead-zero}
use Rattle.xfs_mech.specs.Motions.{PlacesOf}
use Rattle.xfs_mech.specs.declared.motion.Motion.TheVariants.{Moved}
use Rattle.xfs_model.specs.Moved.{IsPaidInFull, IsPresentedInFull, put_out}
use Rattle.xfs_model.specs.State.{Outcome}
use Rattle.xfs_model.specs.Successes.{is_success}
use Rattle.xfs_model.proofs.Resting.{Rests, rests_same}
use Rattle.xfs_model.proofs.Succeeding.{denied_fails, of_some}

-- an answer that is no success
abbrev IsFailing : Went → Type 0
IsFailing more = ⊥
IsFailing (done answer) = is_success answer.code ≡ false

denied_failing : (s : Seen) (first : Option Deny) (next : Seen) (went : Went) → IsDenied s first next went → IsFailing went
denied_failing s first next went is = subst IsFailing (sym is.is) (of_some (denial is.deny) is.answer is.due (denied_fails is.deny))

-- so much of an open order is still to be moved
abbrev opened : Open → ℕ → ℕ
opened (Written kind counts) u = at counts u
opened other u = 0

-- the order that is open, if there is one, stacks
abbrev Stacks : Open → Type 0
Stacks No = ⊤
Stacks (Written kind counts) = kind ≡ kinds.Stack
Stacks (Acted kind moved diverted failed) = ⊤

-- the mechanism didn't fail at it
abbrev IsFine : Open → Type 0
IsFine No = ⊤
IsFine (Written kind counts) = ⊤
IsFine (Acted kind moved diverted failed) = failed ≡ false

-- of these notes all but those that are left went from the units to the transport
record Stacking (before now : Places) (counts : Counts) (left : ℕ → ℕ) : Type 0 where
  gained : (u : ℕ) → at now.transport u + left u ≡ at before.transport u + at counts u
  given : (u : ℕ) → at now.units u + at counts u ≡ at before.units u + left u
  out : (u : ℕ) → put_out now u ≡ put_out before u
  back : (u : ℕ) → at now.retracted u ≡ at before.retracted u
  bin : (u : ℕ) → at now.rejected u ≡ at before.rejected u

stacking_rests : (before now later : Places) (counts : Counts) (left : ℕ → ℕ) → Rests now later → Stacking before now counts left → Stacking before later counts left
stacking_rests before now later counts left r s = record {
  gained = λ u. let e = s.gained u in let f = r.transport u in omega (arith, e, f);
  given = λ u. let e = s.given u in let f = r.units u in omega (arith, e, f);
  out = λ u. r.out u ∙ s.out u;
  back = λ u. r.back u ∙ s.back u;
  bin = λ u. r.bin u ∙ s.bin u;
}

stacking_left : (before now : Places) (counts : Counts) (left other : ℕ → ℕ) → ((u : ℕ) → other u ≡ left u) → Stacking before now counts left → Stacking before now counts other
stacking_left before now counts left other same s = record {
  gained = λ u. let e = s.gained u in let f = same u in omega (arith, e, f);
  given = λ u. let e = s.given u in let f = same u in omega (arith, e, f);
  out = s.out;
  back = s.back;
  bin = s.bin;
}

-- these are carried out in full
stacking_acts : (before now later : Places) (counts some diverted : Counts) (n : ℕ) (left : ℕ → ℕ) → PlacesOf now (Moved n kinds.Stack some diverted ∷ []) later → IsZero diverted
    → Stacking before now counts (λ u. at some u + left u) → Stacking before later counts left
stacking_acts before now later counts some diverted n left p nothing s = record {
  gained = λ u. let a : at later.transport u + ((0 + 0) + (0 + 0)) ≡ at now.transport u + (0 + at some u) = p.transport u in let e = s.gained u in omega (arith, a, e);
  given = λ u. let a : at later.units u + ((0 + at some u) + (0 + at diverted u)) ≡ at now.units u + (0 + 0) = p.units u in let z = nothing u in let e = s.given u in omega (arith, a, z, e);
  out = λ u.
      let a : at later.outlet u + ((0 + 0) + (0 + 0)) ≡ at now.outlet u + (0 + 0) = p.outlet u in
      let b : at later.taken u ≡ at now.taken u + (0 + 0) = p.taken_out u in
      let e = s.out u in omega (arith, a, b, e);
  back = λ u. let a : at later.retracted u ≡ at now.retracted u + (0 + 0) = p.back u in let e = s.back u in omega (arith, a, e);
  bin = λ u. let a : at later.rejected u ≡ at now.rejected u + ((0 + 0) + (0 + at diverted u)) = p.bin u in let z = nothing u in let e = s.bin u in omega (arith, a, z, e);
}

-- a Dispense runs: the orders of these counts from this unit on are left
pub record Pays (base now : View) (notes : Notes) (plan : Plan) : Type 0 where
  issue : ℕ
  unit : ℕ
  rest : List ℕ
  counts : Counts
  given : NotesGiven base.units base.places.units notes (Ok counts)
  units : now.units ≡ base.units
  tells : plan.notes ≡ Some counts
  few : unit + length rest ≤ 8
  parts : plan.parts.items ≡ stacks_from issue (unit + 1) rest
  order : Stacks now.open_order
  moving : IsFine now.open_order → Stacking base.places now.places counts (λ u. opened now.open_order u + slice_index (ahead unit rest) u)

pub pays_rests : (base now later : View) (notes : Notes) (plan : Plan) → later.open_order ≡ now.open_order → later.units ≡ now.units → Rests now.places later.places → Pays base now notes plan → Pays base later notes plan
pays_rests base now later notes plan order units rests p = record {
  issue = p.issue;
  unit = p.unit;
  rest = p.rest;
  counts = p.counts;
  given = p.given;
  units = units ∙ p.units;
  tells = p.tells;
  few = p.few;
  parts = p.parts;
  order = subst Stacks (sym order) p.order;
  moving = λ fine. subst (λ o. Stacking base.places later.places p.counts (λ u. opened o u + slice_index (ahead p.unit p.rest) u)) (sym order)
      (stacking_rests base.places now.places later.places p.counts _ rests (p.moving (subst IsFine order fine)));
}

-- what a step leaves of it
abbrev pub PaysOn : View → Notes → Seen → Plan → Went → Type 0
PaysOn base notes next left more = Pays base next.guard notes left
PaysOn base notes next left (done answer) = (result : Outcome) → result.payload ≡ answer.payload → is_success answer.code ≡ true → IsPaidInFull base next.guard notes result

pays_is : (base : View) (notes : Notes) (next : Seen) (left : Plan) (went other : Went) → went ≡ other → PaysOn base notes next left other → PaysOn base notes next left went
pays_is base notes next left went other e h = subst (PaysOn base notes next left) (sym e) h

pays_fails : (base : View) (notes : Notes) (next : Seen) (left : Plan) (went : Went) → IsFailing went → PaysOn base notes next left went
pays_fails base notes next left (done answer) fails = λ result tells success. absurd (false≢true (sym fails ∙ success))
pays_fails base notes next left more fails = absurd fails

-- it begins
pub begun_pays : (base now : View) (notes : Notes) (issue : ℕ) (counts : Counts) → NotesGiven base.units base.places.units notes (Ok counts) → now.units ≡ base.units → now.places ≡ base.places → now.open_order ≡ No → length counts.0 ≡ 8
    → Pays base now notes (dispense_plan issue counts)
begun_pays base now notes issue counts given units places none eight = record {
  issue = issue;
  unit = 0;
  rest = counts.0;
  counts = counts;
  given = given;
  units = units;
  tells = refl;
  few = omega (arith, eight);
  parts = stacks-from issue 1 counts.0;
  order = subst Stacks (sym none) tt;
  moving = λ fine. subst (λ o. Stacking base.places now.places counts (λ u. opened o u + slice_index (ahead 0 counts.0) u)) (sym none)
      (subst (λ (x : Places). Stacking base.places x counts (λ u. 0 + slice_index counts.0 u)) (sym places) (record {
        gained = λ u. omega arith;
        given = λ u. omega arith;
        out = λ u. refl;
        back = λ u. refl;
        bin = λ u. refl;
      }));
}

-- nothing is left where there are no orders
no_orders : (issue unit : ℕ) (rest : List ℕ) → stacks_from issue (unit + 1) rest ≡ [] → (u : ℕ) → slice_index (ahead unit rest) u ≡ 0
no_orders issue unit [] none u = ahead-none unit u
no_orders issue unit (zero ∷ rest) none u = rw (ahead-zero unit rest) (no_orders issue (suc unit) rest (ap (λ k. stacks_from issue k rest) (let e : suc unit + 1 ≡ unit + 1 + 1 = omega arith in e) ∙ none) u)
no_orders issue unit (suc n ∷ rest) none u = (let e : Order (asked.Stack issue (unit + 1) (suc n)) ∷ stacks_from issue (unit + 1 + 1) rest ≡ [] = none in cc)

-- the acted order is settled
pays_settled : (base : View) (s : Seen) (notes : Notes) (plan : Plan) (next : Seen) (went : Went) (kind : Kind) (moved diverted : Counts) → s.guard.open_order ≡ Acted kind moved diverted false → Pays base s.guard notes plan → IsSettled s plan false next went → PaysOn base notes next plan went
pays_settled base s notes plan next went kind moved diverted at p i = pays_is base notes next plan went (onward s.guard.units plan.notes plan.parts.items) i.is (go plan.parts.items refl)
  where
    places : next.guard.places ≡ s.guard.places
    places = ap (λ (v : View). v.places) i.settles.same

    moving : Stacking base.places next.guard.places p.counts (λ u. 0 + slice_index (ahead p.unit p.rest) u)
    moving = subst (λ (x : Places). Stacking base.places x p.counts (λ u. 0 + slice_index (ahead p.unit p.rest) u)) (sym places)
        (subst (λ o. Stacking base.places s.guard.places p.counts (λ u. opened o u + slice_index (ahead p.unit p.rest) u)) at (p.moving (subst IsFine (sym at) refl)))

    go : (parts : List Part) → plan.parts.items ≡ parts → PaysOn base notes next plan (onward s.guard.units plan.notes parts)
    go (part ∷ parts) are = record {
      issue = p.issue;
      unit = p.unit;
      rest = p.rest;
      counts = p.counts;
      given = p.given;
      units = ap (λ (v : View). v.units) i.settles.same ∙ p.units;
      tells = p.tells;
      few = p.few;
      parts = p.parts;
      order = subst Stacks (sym (ap (λ (v : View). v.open_order) i.settles.same)) tt;
      moving = λ fine. subst (λ o. Stacking base.places next.guard.places p.counts (λ u. opened o u + slice_index (ahead p.unit p.rest) u)) (sym (ap (λ (v : View). v.open_order) i.settles.same)) moving;
    }
    go [] are = subst (λ (o : Option Counts). PaysOn base notes next plan (onward s.guard.units o [])) (sym p.tells) (λ result tells success. record {
      counts = p.counts;
      given = p.given;
      told = tells ∙ ap (λ units. denomination_payload units p.counts) p.units;
      stacked = record {
        gained = λ u. let e = moving.gained u in let z = none u in omega (arith, e, z);
        given = λ u. let e = moving.given u in let z = none u in omega (arith, e, z);
        out = moving.out;
        back = moving.back;
        bin = moving.bin;
      };
    })
      where
        none : (u : ℕ) → slice_index (ahead p.unit p.rest) u ≡ 0
        none = no_orders p.issue p.unit p.rest (sym p.parts ∙ are)

-- the written order is acted
pays_acted : (base : View) (s : Seen) (notes : Notes) (plan : Plan) (next : Seen) (left : Plan) (went : Went) → Pays base s.guard notes plan → IsActed s plan next left went → PaysOn base notes next left went
pays_acted base s notes plan next left went p a = pays_is base notes next left went more a.is (record {
  issue = p.issue;
  unit = p.unit;
  rest = p.rest;
  counts = p.counts;
  given = p.given;
  units = ap (λ (v : View). v.units) a.acts.same ∙ p.units;
  tells = ap (λ (x : Plan). x.notes) a.kept ∙ p.tells;
  few = p.few;
  parts = ap (λ (x : Plan). x.parts.items) a.kept ∙ p.parts;
  order = subst Stacks (sym now) tt;
  moving = λ fine. subst (λ o. Stacking base.places next.guard.places p.counts (λ u. opened o u + slice_index (ahead p.unit p.rest) u)) (sym now) (acted (subst IsFine now fine));
})
  where
    now : next.guard.open_order ≡ Acted a.acts.kind a.outcome.moved a.outcome.diverted a.outcome.failed
    now = ap (λ (v : View). v.open_order) a.acts.same

    acted : a.outcome.failed ≡ false → Stacking base.places next.guard.places p.counts (λ u. 0 + slice_index (ahead p.unit p.rest) u)
    acted fine =
        let whole = a.acts.carried.full fine in
        let kind : a.acts.kind ≡ kinds.Stack = subst Stacks a.acts.written p.order in
        let before = subst (λ o. Stacking base.places s.guard.places p.counts (λ u. opened o u + slice_index (ahead p.unit p.rest) u)) a.acts.written (p.moving (subst IsFine (sym a.acts.written) tt)) in
        let places : PlacesOf s.guard.places (Moved (length s.guard.records) kinds.Stack a.acts.counts a.outcome.diverted ∷ []) next.guard.places =
        subst (λ k. PlacesOf s.guard.places (Moved (length s.guard.records) k a.acts.counts a.outcome.diverted ∷ []) next.guard.places) kind
        (subst (λ m. PlacesOf s.guard.places (Moved (length s.guard.records) a.acts.kind m a.outcome.diverted ∷ []) next.guard.places) whole.0 a.acts.places) in
        stacking_left base.places next.guard.places p.counts (slice_index (ahead p.unit p.rest)) (λ u. 0 + slice_index (ahead p.unit p.rest) u) (λ u. omega arith)
        (stacking_acts base.places s.guard.places next.guard.places p.counts a.acts.counts a.outcome.diverted (length s.guard.records) (slice_index (ahead p.unit p.rest)) places whole.1 before)

-- the next order is written
pays_ordered : (base : View) (s : Seen) (notes : Notes) (plan : Plan) (next : Seen) (left : Plan) (went : Went) (issue unit : ℕ) (rest : List ℕ) (counts : Counts)
    → s.guard.open_order ≡ No → NotesGiven base.units base.places.units notes (Ok counts) → s.guard.units ≡ base.units → plan.notes ≡ Some counts → unit + length rest ≤ 8
    → Stacking base.places s.guard.places counts (slice_index (ahead unit rest)) → DoesFirst (stacks_from issue (unit + 1) rest) s plan next left went → PaysOn base notes next left went
pays_ordered base s notes plan next left went issue unit [] counts none given units tells few moving is = absurd is
pays_ordered base s notes plan next left went issue unit (zero ∷ rest) counts none given units tells few moving is =
    pays_ordered base s notes plan next left went issue (suc unit) rest counts none given units tells (omega (arith, few))
    (subst (λ xs. Stacking base.places s.guard.places counts (slice_index xs)) (ahead-zero unit rest) moving)
    (subst (λ k. DoesFirst (stacks_from issue k rest) s plan next left went) (let e : unit + 1 + 1 ≡ suc unit + 1 = omega arith in e) is)
pays_ordered base s notes plan next left went issue unit (suc n ∷ rest) counts none given units tells few moving (inr (kept, inl d)) = pays_fails base notes next left went (denied_failing s _ next went d)
pays_ordered base s notes plan next left went issue unit (suc n ∷ rest) counts none given units tells few moving (inr (kept, inr u)) = pays_fails base notes next left went (subst IsFailing (sym u.is) refl)
pays_ordered base s notes plan next left went issue unit (suc n ∷ rest) counts none given units tells few moving (inl (w, left_, is)) = pays_is base notes next left went more is (record {
  issue = issue;
  unit = suc unit;
  rest = rest;
  counts = counts;
  given = given;
  units = ap (λ (v : View). v.units) w.becomes.guard_is ∙ units;
  tells = ap (λ (x : Plan). x.notes) left_ ∙ tells;
  few = omega (arith, few);
  parts = ap (λ (x : Plan). x.parts.items) left_ ∙ ap (λ k. stacks_from issue k rest) (let e : unit + 1 + 1 ≡ suc unit + 1 = omega arith in e);
  order = subst Stacks (sym now) refl;
  moving = λ fine. subst (λ o. Stacking base.places next.guard.places counts (λ u. opened o u + slice_index (ahead (suc unit) rest) u)) (sym now)
      (subst (λ (x : Places). Stacking base.places x counts (λ u. at (notes_of (unit + 1) (suc n)) u + slice_index (ahead (suc unit) rest) u)) (sym (ap (λ (v : View). v.places) w.becomes.guard_is))
      (stacking_left base.places s.guard.places counts (slice_index (ahead unit (suc n ∷ rest))) _ (λ u. sym (ahead-split unit (suc n) u rest low)) moving));
})
  where
    now : next.guard.open_order ≡ Written kinds.Stack (notes_of (unit + 1) (suc n))
    now = ap (λ (v : View). v.open_order) w.becomes.guard_is

    low : unit < 8
    low = omega (arith, few)

-- each step of it
pub pays_on : (base : View) (s : Seen) (notes : Notes) (plan : Plan) (next : Seen) (left : Plan) (went : Went) → Pays base s.guard notes plan → Works s plan next left went → PaysOn base notes next left went
pays_on base s notes plan next left went p is = go s.guard.open_order refl is
  where
    go : (o : Open) → s.guard.open_order ≡ o → WorksOn o s plan next left went → PaysOn base notes next left went
    go (Written kind counts) at a = pays_acted base s notes plan next left went p a
    go (Acted kind moved diverted true) at (kept, inl i) = pays_fails base notes next left went (subst IsFailing (sym i.is) refl)
    go (Acted kind moved diverted false) at (kept, inl i) = rw kept (pays_settled base s notes plan next went kind moved diverted at p i)
    go (Acted kind moved diverted failed) at (kept, inr u) = pays_fails base notes next left went (subst IsFailing (sym u.is) refl)
    go No at d =
        pays_ordered base s notes plan next left went p.issue p.unit p.rest p.counts at p.given p.units p.tells p.few
        (stacking_left base.places s.guard.places p.counts (λ u. 0 + slice_index (ahead p.unit p.rest) u) (slice_index (ahead p.unit p.rest)) (λ u. omega arith)
        (subst (λ o. Stacking base.places s.guard.places p.counts (λ u. opened o u + slice_index (ahead p.unit p.rest) u)) at (p.moving (subst IsFine (sym at) tt))))
        (subst (λ parts. DoesFirst parts s plan next left went) p.parts d)

rests_both : (before now later : Places) → Rests before now → Rests now later → Rests before later
rests_both before now later a b = record {
  units = λ u. b.units u ∙ a.units u;
  transport = λ u. b.transport u ∙ a.transport u;
  out = λ u. b.out u ∙ a.out u;
  back = λ u. b.back u ∙ a.back u;
  bin = λ u. b.bin u ∙ a.bin u;
}

presented_rests : (before now later : Places) → Rests now later → IsPresentedInFull before now → IsPresentedInFull before later
presented_rests before now later r p = record {
  gained = λ u. r.out u ∙ p.gained u;
  left = λ u. r.transport u ∙ p.left u;
  units = λ u. r.units u ∙ p.units u;
  back = λ u. r.back u ∙ p.back u;
  bin = λ u. r.bin u ∙ p.bin u;
}

-- a Present runs: its order is to be written, or is written of the whole transport, or is acted
pub data Presents (base now : View) (plan : Plan) : Type 0 where
  planned : plan.parts.items ≡ Order asked.Present ∷ [] → now.open_order ≡ No → Rests base.places now.places → Presents base now plan
  written : plan.parts.items ≡ [] → (counts : Counts) → now.open_order ≡ Written kinds.Present counts → ((u : ℕ) → at counts u ≡ at now.places.transport u) → Rests base.places now.places → Presents base now plan
  acted : plan.parts.items ≡ [] → (kind : Kind) (moved diverted : Counts) (failed : Bool) → now.open_order ≡ Acted kind moved diverted failed → (failed ≡ false → IsPresentedInFull base.places now.places) → Presents base now plan

pub planned_present : (base now : View) (plan : Plan) → plan.parts.items ≡ Order asked.Present ∷ [] → now.open_order ≡ No → Rests base.places now.places → Presents base now plan
planned_present base now plan parts none rests = planned parts none rests

pub presents_rests : (base now later : View) (plan : Plan) → later.open_order ≡ now.open_order → Rests now.places later.places → Presents base now plan → Presents base later plan
presents_rests base now later plan order rests (planned parts none before) = planned parts (order ∙ none) (rests_both base.places now.places later.places before rests)
presents_rests base now later plan order rests (written parts counts at is before) = written parts counts (order ∙ at) (λ u. is u ∙ sym (rests.transport u)) (rests_both base.places now.places later.places before rests)
presents_rests base now later plan order rests (acted parts kind moved diverted failed at full) = acted parts kind moved diverted failed (order ∙ at) (λ fine. presented_rests base.places now.places later.places rests (full fine))

abbrev pub PresentsOn : View → Seen → Plan → Went → Type 0
PresentsOn base next left more = Presents base next.guard left
PresentsOn base next left (done answer) = is_success answer.code ≡ true → IsPresentedInFull base.places next.guard.places

presents_is : (base : View) (next : Seen) (left : Plan) (went other : Went) → went ≡ other → PresentsOn base next left other → PresentsOn base next left went
presents_is base next left went other e h = subst (PresentsOn base next left) (sym e) h

presents_fails : (base : View) (next : Seen) (left : Plan) (went : Went) → IsFailing went → PresentsOn base next left went
presents_fails base next left (done answer) fails = λ success. absurd (false≢true (sym fails ∙ success))
presents_fails base next left more fails = absurd fails

written_is : (k j : Kind) (a b : Counts) → Written k a ≡ Written j b → (k ≡ j) × (a ≡ b)
written_is k j a b e = (cc, cc)

-- the whole transport is carried out
presented : (before now later : Places) (counts diverted : Counts) (n : ℕ) → ((u : ℕ) → at counts u ≡ at now.transport u) → Rests before now → PlacesOf now (Moved n kinds.Present counts diverted ∷ []) later → IsZero diverted → IsPresentedInFull before later
presented before now later counts diverted n whole r p nothing = record {
  gained = λ u.
      let a : at later.outlet u + ((0 + 0) + (0 + 0)) ≡ at now.outlet u + (0 + at counts u) = p.outlet u in
      let b : at later.taken u ≡ at now.taken u + (0 + 0) = p.taken_out u in
      let w = whole u in let t = r.transport u in let e = r.out u in omega (arith, a, b, w, t, e);
  left = λ u. let a : at later.transport u + ((0 + at counts u) + (0 + 0)) ≡ at now.transport u + (0 + 0) = p.transport u in let w = whole u in omega (arith, a, w);
  units = λ u. let a : at later.units u + ((0 + 0) + (0 + 0)) ≡ at now.units u + (0 + 0) = p.units u in let e = r.units u in omega (arith, a, e);
  back = λ u. let a : at later.retracted u ≡ at now.retracted u + (0 + 0) = p.back u in let e = r.back u in omega (arith, a, e);
  bin = λ u. let a : at later.rejected u ≡ at now.rejected u + ((0 + 0) + (0 + 0)) = p.bin u in let e = r.bin u in omega (arith, a, e);
}

presents_acted : (base : View) (s : Seen) (plan : Plan) (next : Seen) (left : Plan) (went : Went) (counts : Counts) → plan.parts.items ≡ [] → s.guard.open_order ≡ Written kinds.Present counts → ((u : ℕ) → at counts u ≡ at s.guard.places.transport u)
    → Rests base.places s.guard.places → IsActed s plan next left went → PresentsOn base next left went
presents_acted base s plan next left went counts parts at_ is rests a =
    let same = written_is a.acts.kind kinds.Present a.acts.counts counts (sym a.acts.written ∙ at_) in
    presents_is base next left went more a.is (acted (ap (λ (x : Plan). x.parts.items) a.kept ∙ parts) a.acts.kind a.outcome.moved a.outcome.diverted a.outcome.failed (ap (λ (v : View). v.open_order) a.acts.same) (λ fine.
    let whole = a.acts.carried.full fine in
    presented base.places s.guard.places next.guard.places counts a.outcome.diverted (length s.guard.records) is rests
    (subst (λ k. PlacesOf s.guard.places (Moved (length s.guard.records) k counts a.outcome.diverted ∷ []) next.guard.places) same.0
    (subst (λ m. PlacesOf s.guard.places (Moved (length s.guard.records) a.acts.kind m a.outcome.diverted ∷ []) next.guard.places) (whole.0 ∙ same.1) a.acts.places)) whole.1))

presents_ordered : (base : View) (s : Seen) (plan : Plan) (next : Seen) (left : Plan) (went : Went) → Rests base.places s.guard.places → Orders asked.Present [] s plan next left went → PresentsOn base next left went
presents_ordered base s plan next left went rests (inr (kept, inl d)) = presents_fails base next left went (denied_failing s _ next went d)
presents_ordered base s plan next left went rests (inr (kept, inr u)) = presents_fails base next left went (subst IsFailing (sym u.is) refl)
presents_ordered base s plan next left went rests (inl (w, left_, is)) =
    let places : next.guard.places ≡ s.guard.places = ap (λ (v : View). v.places) w.becomes.guard_is in
    presents_is base next left went more is (written (ap (λ (x : Plan). x.parts.items) left_) s.guard.places.transport (ap (λ (v : View). v.open_order) w.becomes.guard_is)
    (λ u. ap (λ (x : Places). at x.transport u) (sym places)) (rests_both base.places s.guard.places next.guard.places rests (rests_same s.guard.places next.guard.places places)))

pub presents_on : (base : View) (s : Seen) (plan : Plan) (next : Seen) (left : Plan) (went : Went) → Presents base s.guard plan → Works s plan next left went → PresentsOn base next left went
presents_on base s plan next left went (planned parts none rests) is =
    presents_ordered base s plan next left went rests (subst (λ ps. DoesFirst ps s plan next left went) parts (subst (λ o. WorksOn o s plan next left went) none is))
presents_on base s plan next left went (written parts counts at_ whole rests) is = presents_acted base s plan next left went counts parts at_ whole rests (subst (λ o. WorksOn o s plan next left went) at_ is)
presents_on base s plan next left went (acted parts kind moved diverted failed at_ full) is = go failed full (subst (λ o. WorksOn o s plan next left went) at_ is)
  where
    go : (f : Bool) → (f ≡ false → IsPresentedInFull base.places s.guard.places) → (left ≡ plan) × (IsSettled s plan f next went ⊎ IsUnsettled s next went) → PresentsOn base next left went
    go true whole (kept, inl i) = presents_fails base next left went (subst IsFailing (sym i.is) refl)
    go false whole (kept, inl i) =
        presents_is base next left went (onward s.guard.units plan.notes []) (i.is ∙ ap (onward s.guard.units plan.notes) parts)
        (λ success. subst (λ (x : Places). IsPresentedInFull base.places x) (sym (ap (λ (v : View). v.places) i.settles.same)) (whole refl))
    go f whole (kept, inr u) = presents_fails base next left went (subst IsFailing (sym u.is) refl)
