-- Counts that a token covers are stacked in full, unit by unit, where no count of faults rises.
use Rattle.std.proofs.Common.{◌≡◌, ◌≤◌, ◌<◌, ◌+◌, ◌-◌, ◌*◌, ℕ, zero, suc, List, [], ◌∷◌, ◌++◌, length, refl, subst, ◌∙◌, ap, arith, length-append}
use Rattle.std.specs.Prelude.{slice_index}
use Rattle.std.specs.Option.{option_map}
use Rattle.std.specs.declared.option.Option.{Option}
use Rattle.std.proofs.lemmas.List.{length-set}
use Rattle.xfs_base.specs.Counts.{at, IsZero}
use Rattle.xfs_base.specs.declared.counts.Counts.{Counts}
use Rattle.xfs_base.specs.declared.counts.Kind.TheVariants.{Stack, Present}
use Rattle.xfs_base.specs.declared.counts.Places.{Places}
use Rattle.xfs_base.proofs.MoneyLaws.{value_from-plus}
use Rattle.xfs_journal.specs.Image.{size}
use Rattle.xfs_journal.specs.declared.record.Rec.TheVariants.{Order as OrderRecord, Done}
use Rattle.xfs_mech.specs.Motions.{PlacesOf}
use Rattle.xfs_mech.specs.declared.motion.Motion.TheVariants.{Moved}
use Rattle.xfs_guard.specs.Nonce.{live_nonce}
use Rattle.xfs_guard.specs.Presented.{presented_in}
use Rattle.xfs_guard.specs.Refusals.{notes_of}
use Rattle.xfs_guard.specs.View.{View}
use Rattle.xfs_guard.specs.declared.ask.Ask.TheVariants.{Stack as AskStack}
use Rattle.xfs_guard.specs.declared.nonce.Nonce.{Nonce}
use Rattle.xfs_guard.specs.declared.open.Open.TheVariants.{No}
use Rattle.xfs_guard.proofs.CoveredLaws.{ahead, ahead-zero, ahead-none, ahead-split, IsAhead, IsOpenFor, nonce-push, free-order, done-short, presented-after}
use Rattle.xfs_guard.proofs.SizeLaws.{size-longer, order-short}
use Rattle.xfs_dispenser.specs.Answers.{Went, done}
use Rattle.xfs_dispenser.specs.Complete.{IsCalm, WorksTurns, FollowsTurn}
use Rattle.xfs_dispenser.specs.Seen.{Seen}
use Rattle.xfs_dispenser.specs.Steps.{onward, success_of}
use Rattle.xfs_dispenser.specs.declared.part.Part.{Part}
use Rattle.xfs_dispenser.specs.declared.plan.Plan.{Plan}
use Rattle.xfs_dispenser.proofs.PlanLaws.{stacks_from}
use Rattle.xfs_dispenser.proofs.TurnLaws.{IsFull, calm-rest, carried-full}

-- what all notes of an order from a unit, and of one to present, leave in the places
pub stack-places : (p q : Places) (n : ℕ) (m d : Counts) → PlacesOf p (Moved n Stack m d ∷ []) q → IsZero d → (w : ℕ)
    → (at q.units w + at m w ≡ at p.units w) × (at q.transport w ≡ at p.transport w + at m w) × (at q.outlet w ≡ at p.outlet w)
stack-places p q n m d h nothing w =
    let a : at q.units w + ((0 + at m w) + (0 + at d w)) ≡ at p.units w + (0 + 0) = h.units w in
    let b : at q.transport w + ((0 + 0) + (0 + 0)) ≡ at p.transport w + (0 + at m w) = h.transport w in
    let c : at q.outlet w + ((0 + 0) + (0 + 0)) ≡ at p.outlet w + (0 + 0) = h.outlet w in
    (omega (arith, a, nothing w), omega (arith, b), omega (arith, c))

pub present-places : (p q : Places) (n : ℕ) (d : Counts) → PlacesOf p (Moved n Present p.transport d ∷ []) q → (w : ℕ)
    → (at q.outlet w ≡ at p.outlet w + at p.transport w) × (at q.transport w ≡ 0)
present-places p q n d h w =
    let b : at q.transport w + ((0 + at p.transport w) + (0 + 0)) ≡ at p.transport w + (0 + 0) = h.transport w in
    let c : at q.outlet w + ((0 + 0) + (0 + 0)) ≡ at p.outlet w + (0 + at p.transport w) = h.outlet w in
    (omega (arith, c), omega (arith, b))

-- behind an order that was carried out in full
pub open-after : (s middle : Seen) (issue u n : ℕ) (amounts : List (List ℕ × ℕ)) (orders : ℕ)
    → IsFull s (AskStack issue (u + 1) n) middle → IsOpenFor s.guard issue amounts (suc orders) → IsOpenFor middle.guard issue amounts orders
open-after s middle issue u n amounts orders f o =
    let notes = notes_of (u + 1) n in
    let J = s.guard.records ++ OrderRecord Stack notes ∷ [] in
    let longer : middle.guard.records ≡ J ++ Done notes f.diverted ∷ [] = f.records in
    let m : length notes.0 ≡ 8 = length-set (0 ∷ 0 ∷ 0 ∷ 0 ∷ 0 ∷ 0 ∷ 0 ∷ 0 ∷ []) (u + 1 - 1) n in
    let many : length middle.guard.records ≡ length s.guard.records + 2 = ap length longer ∙ omega (arith, length-append J (Done notes f.diverted ∷ []), length-append s.guard.records (OrderRecord Stack notes ∷ [])) in
    let long : size middle.guard.records ≡ size s.guard.records + 105 = ap size longer ∙ omega (arith, size-longer J (Done notes f.diverted), size-longer s.guard.records (OrderRecord Stack notes), order-short Stack notes m, done-short notes f.diverted m f.eight) in
    let live : live_nonce middle.guard.records ≡ live_nonce s.guard.records = ap live_nonce longer ∙ (nonce-push J (Done notes f.diverted) (λ count live. refl) ∙ nonce-push s.guard.records (OrderRecord Stack notes) (λ count live. refl)) in
    record {
      open_still = f.shut ∙ o.open_still;
      booted = f.boot_missing ∙ o.booted;
      records = rw (f.limits, f.base) (omega (arith, o.records, many));
      bytes = rw f.limits (omega (arith, o.bytes, long));
      lives = ap (λ l. option_map (λ (n : Nonce). n.number) l) live ∙ o.lives;
      bound = f.bound ∙ o.bound;
    }

pub ahead-after : (s middle : Seen) (issue u n : ℕ) (amounts : List (List ℕ × ℕ)) (rest : List ℕ) → u < 8
    → IsFull s (AskStack issue (u + 1) n) middle → IsAhead s.guard amounts (ahead u (n ∷ rest)) → IsAhead middle.guard amounts (ahead (suc u) rest)
ahead-after s middle issue u n amounts rest low f h = record {
  lie = λ w. let p = (stack-places s.guard.places middle.guard.places f.number notes f.diverted f.places f.none w).0 in let e = ahead-split u n w rest low in let l = h.lie w in omega (arith, p, e, l);
  enough = λ c.
      let a = value_from-plus s.guard.units 0 s.guard.places.transport.0 notes.0 middle.guard.places.transport.0 c (λ w. (stack-places s.guard.places middle.guard.places f.number notes f.diverted f.places f.none w).1) in
      let b = value_from-plus s.guard.units 0 notes.0 (ahead (suc u) rest) (ahead u (n ∷ rest)) c (λ w. ahead-split u n w rest low) in
      let p : presented_in s.guard.units middle.guard.records c ≡ presented_in s.guard.units s.guard.records c = ap (λ J. presented_in s.guard.units J c) f.records ∙ presented-after s.guard.units s.guard.records notes notes f.diverted c in
      let e = h.enough c in
      rw f.units (omega (arith, a, b, p, e));
}
  where
    notes : Counts
    notes = notes_of (u + 1) n

-- all these counts were stacked, from the unit u on
pub record IsStacked (s : Seen) (issue : ℕ) (amounts : List (List ℕ × ℕ)) (notes : Option Counts) (u : ℕ) (rest : List ℕ) (next : Seen) (went : Went) : Type 0 where
  pub is : went ≡ done (success_of s.guard.units notes)
  pub units : (w : ℕ) → at next.guard.places.units w + slice_index (ahead u rest) w ≡ at s.guard.places.units w
  pub transport : (w : ℕ) → at next.guard.places.transport w ≡ at s.guard.places.transport w + slice_index (ahead u rest) w
  pub outlet : (w : ℕ) → at next.guard.places.outlet w ≡ at s.guard.places.outlet w
  pub open_for : IsOpenFor next.guard issue amounts 0

pub more-room : (v : View) (issue orders : ℕ) (amounts : List (List ℕ × ℕ)) → IsOpenFor v issue amounts (suc orders) → IsOpenFor v issue amounts orders
more-room v issue orders amounts o = record { open_still = o.open_still; booted = o.booted; records = omega (arith, o.records); bytes = omega (arith, o.bytes); lives = o.lives; bound = o.bound }

-- a unit of which nothing is asked
stacked-zero : (s : Seen) (issue : ℕ) (amounts : List (List ℕ × ℕ)) (notes : Option Counts) (u : ℕ) (rest : List ℕ) (next : Seen) (went : Went)
    → IsStacked s issue amounts notes (suc u) rest next went → IsStacked s issue amounts notes u (0 ∷ rest) next went
stacked-zero s issue amounts notes u rest next went h = record {
  is = h.is;
  units = λ w. rw (ahead-zero u rest) (h.units w);
  transport = λ w. rw (ahead-zero u rest) (h.transport w);
  outlet = h.outlet;
  open_for = h.open_for;
}

-- a unit's notes and those of the next units
stacked-unit : (s middle : Seen) (issue : ℕ) (amounts : List (List ℕ × ℕ)) (notes : Option Counts) (u n : ℕ) (rest : List ℕ) (next : Seen) (went : Went) → u < 8
    → IsFull s (AskStack issue (u + 1) n) middle → IsStacked middle issue amounts notes (suc u) rest next went → IsStacked s issue amounts notes u (n ∷ rest) next went
stacked-unit s middle issue amounts notes u n rest next went low f h = record {
  is = h.is ∙ ap (λ units. done (success_of units notes)) f.units;
  units = λ w. let p = (places w).0 in let e = ahead-split u n w rest low in let l = h.units w in omega (arith, p, e, l);
  transport = λ w. let p = (places w).1 in let e = ahead-split u n w rest low in let l = h.transport w in omega (arith, p, e, l);
  outlet = λ w. h.outlet w ∙ (places w).2;
  open_for = h.open_for;
}
  where
    places : (w : ℕ) → (at middle.guard.places.units w + at (notes_of (u + 1) n) w ≡ at s.guard.places.units w) × (at middle.guard.places.transport w ≡ at s.guard.places.transport w + at (notes_of (u + 1) n) w) × (at middle.guard.places.outlet w ≡ at s.guard.places.outlet w)
    places = stack-places s.guard.places middle.guard.places f.number (notes_of (u + 1) n) f.diverted f.places f.none

-- nothing is left to be stacked
stacked-none : (s : Seen) (issue : ℕ) (amounts : List (List ℕ × ℕ)) (notes : Option Counts) (u : ℕ) (next : Seen) (went : Went)
    → IsOpenFor s.guard issue amounts 0 → next ≡ s → went ≡ done (success_of s.guard.units notes) → IsStacked s issue amounts notes u [] next went
stacked-none s issue amounts notes u next went o same told = rw same (record {
  is = told;
  units = λ w. let e = ahead-none u w in omega (arith, e);
  transport = λ w. let e = ahead-none u w in omega (arith, e);
  outlet = λ w. refl;
  open_for = o;
})

stacks-at : (issue u v : ℕ) (rest : List ℕ) → u ≡ v → stacks_from issue u rest ≡ stacks_from issue v rest
stacks-at issue u v rest e = ap (λ k. stacks_from issue k rest) e

-- what follows a plan of which these orders are left
abbrev pub TurnsOf : List Part → Seen → Plan → Option Counts → Seen → Went → Type 0
TurnsOf parts s plan notes next went = FollowsTurn (WorksTurns (3 * length parts)) s plan (onward s.guard.units notes parts) next went

three-more : (n : ℕ) → 3 * suc n ≡ suc (suc (suc (3 * n)))
three-more n = omega arith

pub stacks-full : (issue : ℕ) (amounts : List (List ℕ × ℕ)) (notes : Option Counts) (rest : List ℕ) (u : ℕ) (s : Seen) (plan : Plan) (next : Seen) (went : Went)
    → u + length rest ≤ 8 → s.guard.open_order ≡ No → plan.notes ≡ notes → plan.parts.items ≡ stacks_from issue (u + 1) rest
    → IsOpenFor s.guard issue amounts (length rest) → IsAhead s.guard amounts (ahead u rest) → IsCalm s next → TurnsOf (stacks_from issue (u + 1) rest) s plan notes next went
    → IsStacked s issue amounts notes u rest next went
stacks-full issue amounts notes [] u s plan next went few none asked parts o h calm t = stacked-none s issue amounts notes u next went o t.0 t.1
stacks-full issue amounts notes (zero ∷ rest) u s plan next went few none asked parts o h calm t =
    let had : IsAhead s.guard amounts (ahead (suc u) rest) = rw (ahead-zero u rest) at h in
    let e = stacks-at issue (u + 1 + 1) (suc u + 1) rest (omega arith) in
    stacked-zero s issue amounts notes u rest next went (stacks-full issue amounts notes rest (suc u) s plan next went (omega (arith, few)) none asked (parts ∙ e)
    (more-room s.guard issue (length rest) amounts o) had calm (subst (λ ps. TurnsOf ps s plan notes next went) e t))
stacks-full issue amounts notes (suc n ∷ rest) u s plan next went few none asked parts o h calm t =
    let low : u < 8 = omega (arith, few) in
    let left = stacks_from issue (u + 1 + 1) rest in
    let turns = subst (λ k. WorksTurns k s plan next went) (three-more (length left)) t in
    let c = carried-full s plan (AskStack issue (u + 1) (suc n)) left (3 * length left) next went none parts (free-order s.guard issue u (suc n) amounts rest low o h) calm turns in
    let e = stacks-at issue (u + 1 + 1) (suc u + 1) rest (omega arith) in
    let on : TurnsOf left c.middle c.after notes next went = rw (c.full.units, ← asked) c.later in
    stacked-unit s c.middle issue amounts notes u (suc n) rest next went low c.full (stacks-full issue amounts notes rest (suc u) c.middle c.after next went (omega (arith, few)) c.full.settled (c.notes ∙ asked) (c.parts ∙ e)
    (open-after s c.middle issue u (suc n) amounts (length rest) c.full o) (ahead-after s c.middle issue u (suc n) amounts rest low c.full h) (calm-rest s c.middle next c.since calm) (subst (λ ps. TurnsOf ps c.middle c.after notes next went) e on))
