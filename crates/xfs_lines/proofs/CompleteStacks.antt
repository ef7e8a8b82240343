-- Counts that a token covers are stacked in full, unit by unit, where no count of faults rises.
use Rattle.std.proofs.Common.{◌≡◌, ◌≤◌, ◌<◌, ◌+◌, ◌-◌, ℕ, zero, suc, Bool, true, false, List, [], ◌∷◌, ◌++◌, length, set, Ok, inl, inr, refl, sym, subst, ◌∙◌, ap, arith, append_assoc, add-one, length-append}
use Rattle.std.specs.Prelude.{slice_index}
use Rattle.std.specs.declared.result.Result.{Result}
use Rattle.std.proofs.Math.Seq.{set-append_seam}
use Rattle.xfs_base.specs.Counts.{at}
use Rattle.xfs_base.specs.declared.counts.Counts.{Counts}
use Rattle.xfs_mech.specs.declared.motion.Outcome.{Outcome}
use Rattle.xfs_guard.specs.Refusals.{notes_of}
use Rattle.xfs_guard.specs.declared.ask.Ask.TheVariants.{Stack as AskStack}
use Rattle.xfs_guard.specs.declared.deny.Deny.{Deny}
use Rattle.xfs_dispenser.specs.Seen.{Seen}
use Rattle.xfs_dispenser.specs.Carried.{GoesOn, with_stacked}
use Rattle.xfs_dispenser.proofs.CarryLaws.{StacksFrom}
use Rattle.xfs_dispenser.specs.Complete.{IsCalm}
use Rattle.xfs_dispenser.proofs.StackLaws.{ahead-after, more-room, open-after, stack-places}
use Rattle.xfs_dispenser.proofs.TurnLaws.{IsFull, calm-first, calm-rest}
use Rattle.xfs_lines.proofs.CompleteOrders.{carries-full, carries-later, follows-later, stacks-later}
use Rattle.xfs_guard.proofs.CoveredLaws.{ahead, ahead-zero, ahead-none, ahead-split, notes-here, IsAhead, IsOpenFor, free-order}

abbrev pub zeros : ℕ → List ℕ
zeros zero = []
zeros (suc n) = 0 ∷ zeros n

-- all these counts were stacked behind those before
pub record IsStacked (s : Seen) (issue : ℕ) (amounts : List (List ℕ × ℕ)) (u : ℕ) (before rest : List ℕ) (result : Result Outcome Deny) (next : Seen) : Type 0 where
  pub outcome : Outcome
  pub is : result ≡ Ok outcome
  pub fine : outcome.failed ≡ false
  pub moved : outcome.moved.0 ≡ before ++ rest
  pub units : (w : ℕ) → at next.guard.places.units w + slice_index (ahead u rest) w ≡ at s.guard.places.units w
  pub transport : (w : ℕ) → at next.guard.places.transport w ≡ at s.guard.places.transport w + slice_index (ahead u rest) w
  pub outlet : (w : ℕ) → at next.guard.places.outlet w ≡ at s.guard.places.outlet w
  pub open_for : IsOpenFor next.guard issue amounts 0

one-more : (before rest : List ℕ) (n : ℕ) → (before ++ n ∷ []) ++ rest ≡ before ++ n ∷ rest
one-more before rest n = append_assoc before (n ∷ []) rest

-- a unit of which nothing is asked
stacked-zero : (s : Seen) (issue : ℕ) (amounts : List (List ℕ × ℕ)) (u : ℕ) (before rest : List ℕ) (result : Result Outcome Deny) (next : Seen)
    → IsStacked s issue amounts (suc u) (before ++ 0 ∷ []) rest result next → IsStacked s issue amounts u before (0 ∷ rest) result next
stacked-zero s issue amounts u before rest result next h = record {
  outcome = h.outcome;
  is = h.is;
  fine = h.fine;
  moved = h.moved ∙ one-more before rest 0;
  units = λ w. rw (ahead-zero u rest) (h.units w);
  transport = λ w. rw (ahead-zero u rest) (h.transport w);
  outlet = h.outlet;
  open_for = h.open_for;
}

-- a unit's notes and those of the next units
stacked-unit : (s middle : Seen) (issue : ℕ) (amounts : List (List ℕ × ℕ)) (u n : ℕ) (before rest : List ℕ) (result : Result Outcome Deny) (next : Seen) → u < 8
    → IsFull s (AskStack issue (u + 1) n) middle → IsStacked middle issue amounts (suc u) (before ++ n ∷ []) rest result next → IsStacked s issue amounts u before (n ∷ rest) result next
stacked-unit s middle issue amounts u n before rest result next low f h = record {
  outcome = h.outcome;
  is = h.is;
  fine = h.fine;
  moved = h.moved ∙ one-more before rest n;
  units = λ w. let p = (places w).0 in let e = ahead-split u n w rest low in let l = h.units w in omega (arith, p, e, l);
  transport = λ w. let p = (places w).1 in let e = ahead-split u n w rest low in let l = h.transport w in omega (arith, p, e, l);
  outlet = λ w. h.outlet w ∙ (places w).2;
  open_for = h.open_for;
}
  where
    places : (w : ℕ) → (at middle.guard.places.units w + at (notes_of (u + 1) n) w ≡ at s.guard.places.units w) × (at middle.guard.places.transport w ≡ at s.guard.places.transport w + at (notes_of (u + 1) n) w) × (at middle.guard.places.outlet w ≡ at s.guard.places.outlet w)
    places = stack-places s.guard.places middle.guard.places f.number (notes_of (u + 1) n) f.diverted f.places f.none

-- the notes of one more unit stand behind those before
moved-after : (all one : Outcome) (before rest : List ℕ) (u n : ℕ) → u < 8 → length before ≡ u → all.moved.0 ≡ before ++ zeros (suc (length rest)) → one.moved ≡ notes_of (u + 1) n
    → (with_stacked all u one).moved.0 ≡ (before ++ n ∷ []) ++ zeros (length rest)
moved-after all one before rest u n low long was is =
    let v : at one.moved u ≡ n = ap (λ (m : Counts). at m u) is ∙ notes-here u n low in
    let a : set all.moved.0 u (at one.moved u) ≡ set (before ++ 0 ∷ zeros (length rest)) u n = rw (was, v) refl in
    let b : set (before ++ 0 ∷ zeros (length rest)) u n ≡ before ++ n ∷ zeros (length rest) = rw (← long) (set-append_seam before 0 (zeros (length rest)) n) in
    a ∙ (b ∙ sym (one-more before (zeros (length rest)) n))

stacks-at : (issue : ℕ) (rest : List ℕ) (u v : ℕ) (all : Outcome) (s : Seen) (result : Result Outcome Deny) (next : Seen) → u ≡ v → StacksFrom issue rest u all s result next → StacksFrom issue rest v all s result next
stacks-at issue rest u v all s result next e h = subst (λ k. StacksFrom issue rest k all s result next) e h

pub stacks-full : (issue : ℕ) (amounts : List (List ℕ × ℕ)) (rest : List ℕ) (u : ℕ) (before : List ℕ) (all : Outcome) (s : Seen) (result : Result Outcome Deny) (next : Seen)
    → length before ≡ u → u + length rest ≤ 8 → all.failed ≡ false → all.moved.0 ≡ before ++ zeros (length rest)
    → IsOpenFor s.guard issue amounts (length rest) → IsAhead s.guard amounts (ahead u rest) → IsCalm s next → StacksFrom issue rest u all s result next
    → IsStacked s issue amounts u before rest result next
stacks-full issue amounts [] u before all s result next long few fine was o h calm (is, same) = rw same (record {
  outcome = all;
  is = is;
  fine = fine;
  moved = was;
  units = λ w. let e = ahead-none u w in omega (arith, e);
  transport = λ w. let e = ahead-none u w in omega (arith, e);
  outlet = λ w. refl;
  open_for = o;
})
stacks-full issue amounts (zero ∷ rest) u before all s result next long few fine was o h calm more =
    let there = stacks-at issue rest (u + 1) (suc u) all s result next (add-one u) more in
    let had : IsAhead s.guard amounts (ahead (suc u) rest) = rw (ahead-zero u rest) at h in
    stacked-zero s issue amounts u before rest result next (stacks-full issue amounts rest (suc u) (before ++ 0 ∷ []) all s result next
    (omega (arith, length-append before (0 ∷ []), long)) (omega (arith, few)) fine (was ∙ sym (one-more before (zeros (length rest)) 0))
    (more-room s.guard issue (length rest) amounts o) had calm there)
stacks-full issue amounts (suc n ∷ rest) u before all s result next long few fine was o h calm unit =
    let low : u < 8 = omega (arith, few) in
    let behind = follows-later (StacksFrom issue rest (u + 1)) (λ all s result next more. stacks-later issue rest (u + 1) all s result next more) all u unit.one unit.middle result next unit.onward in
    let first = calm-first s unit.middle next behind calm in
    let later = calm-rest s unit.middle next (carries-later s (AskStack issue (u + 1) (suc n)) unit.one unit.middle unit.carried) calm in
    let f = carries-full s (AskStack issue (u + 1) (suc n)) unit.one unit.middle (free-order s.guard issue u (suc n) amounts rest low o h) first unit.carried in
    let goes : GoesOn (StacksFrom issue rest (u + 1)) (with_stacked all u f.outcome) unit.middle result next = rw f.is at unit.onward in
    elim goes [
      | inl stops ↦ absurd (true-false f.outcome.failed stops.0 f.fine)
      | inr on ↦ (
          let there = stacks-at issue rest (u + 1) (suc u) (with_stacked all u f.outcome) unit.middle result next (add-one u) on.1 in
          stacked-unit s unit.middle issue amounts u (suc n) before rest result next low f.full (stacks-full issue amounts rest (suc u) (before ++ suc n ∷ []) (with_stacked all u f.outcome) unit.middle result next
          (omega (arith, length-append before (suc n ∷ []), long)) (omega (arith, few)) f.fine (moved-after all f.outcome before rest u (suc n) low long was f.moved)
          (open-after s unit.middle issue u (suc n) amounts (length rest) f.full o) (ahead-after s unit.middle issue u (suc n) amounts rest low f.full h) later there)
          )
    ]
  where
    true-false : (b : Bool) → b ≡ true → b ≡ false → ⊥
    true-false b e f = cc
