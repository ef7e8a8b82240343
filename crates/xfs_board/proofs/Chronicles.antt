-- A lawful step keeps the chronicle, and adds the journal's new records behind it. So what a seat had seen begins what it has seen after a turn.
use Rattle.std.proofs.Common.{◌≡◌, ◌≢◌, ◌-◌, ◌∙◌, ◌++◌, ◌∷◌, [], ℕ, zero, suc, Bool, List, drop, length, map, ap, refl, sym, subst, arith}
use mathlib.Core.List.{IsPrefix}
use Rattle.std.proofs.lemmas.List.{map-append}
use Rattle.xfs_disk.specs.declared.disk.Disk.{Ghosts}
use Rattle.xfs_guard.specs.Keeps.{Proceeds}
use Rattle.xfs_guard.specs.View.{GuardView}
use Rattle.xfs_base.specs.declared.moment.Service.{Service}
use Rattle.xfs_machine.specs.Laws.{IsLawful}
use Rattle.xfs_machine.specs.Wanted.{wants}
use Rattle.xfs_model.specs.Events.{Event, Answer, restart}
use Rattle.xfs_model.specs.Step.{Step}
use Rattle.xfs_model.specs.Told.{AllTell}
use Rattle.xfs_turn.proofs.Prefixes.{begins_longer}
use Rattle.xfs_machine.specs.MachineView.{MachineView, guard_of}
use Rattle.xfs_board.specs.Chronicles.{ComesBack, HasBase, Shared, at_opening, chronicle}
use Rattle.xfs_board.specs.Turns.{HandsTold, IsLook, IsTurn, TakesStep}
use Rattle.xfs_board.specs.declared.shared.Entry.{Entry}
use Rattle.xfs_board.specs.declared.shared.Entry.TheVariants.{Written}

-- a lawful step leaves the base, but for a restart
pub same_base : {D : Type 0} (start : GuardView D) (there found left : MachineView D) (event : Event) (answer : Answer) → event ≢ restart → IsLawful found.state event answer left.state → found ≡ there
    → HasBase start there → HasBase start left
same_base {D} start there found left event answer other laws same has =
    let base : left.state.seen.guard.base ≡ found.state.seen.guard.base = laws.advances.base other in
    let before : found.state.seen.guard.base ≡ there.state.seen.guard.base = ap (λ (m : MachineView D). m.state.seen.guard.base) same in
    base ∙ before ∙ has

-- what lies behind a place of a list that grew
drop-append : {X : Type 0} (n : ℕ) (xs ys : List X) → drop n (xs ++ ys) ≡ drop n xs ++ drop (n - length xs) ys
drop-append zero xs ys = let none : 0 ≡ 0 - length xs = omega arith in ap (λ k. xs ++ drop k ys) none
drop-append {X} (suc n) [] ys = let same : suc n ≡ suc n - length {A = X} [] = omega arith in ap (λ k. drop k ys) same
drop-append (suc n) (x ∷ xs) ys = let less : n - length xs ≡ suc n - length (x ∷ xs) = omega arith in drop-append n xs ys ∙ ap (λ k. drop n xs ++ drop k ys) less

module _ {M D : Type 0} where
  grows : (old new : Shared D) (event : Event) (answer : Answer) → new.start ≡ old.start → IsLawful old.machine.state event answer new.machine.state
      → IsPrefix (chronicle {M = M} old) (chronicle new)
  grows old new event answer same laws =
      let a = laws.advances in
      let base = old.start.state.base in
      let records = old.machine.state.seen.guard.records in
      let more = drop (base - length records) a.records.more in
      (map Written more, rw (same, a.records.is, drop-append base records a.records.more, map-append {B = Entry M D} Written (drop base records) more) refl)

  pub takes_step : (old found new : Shared D) (event : Event) (answer : Answer) → found ≡ old → new.start ≡ found.start
      → Step found.machine.state event answer new.machine.state → IsLawful found.machine.state event answer new.machine.state → TakesStep M old event answer new
  takes_step old found new event answer is same step laws = subst (λ s. TakesStep M s event answer new) is (record { step = step; laws = laws; grown = grows found new event answer same laws })

  -- what the seat had seen, as it was taken out, begins the list of the machine that was found
  begins_found : (seen taken : List (Entry M D)) (there found : Shared D) → taken ≡ seen → IsPrefix taken (chronicle there) → found ≡ there → IsPrefix seen (chronicle found)
  begins_found seen taken there found same begun is = subst (λ s. IsPrefix seen (chronicle s)) (sym is) (subst (λ xs. IsPrefix xs (chronicle there)) same begun)

  pub makes_turn : (seen taken after : List (Entry M D)) (event : Event) (answer : Answer) (there found left : Shared D) → taken ≡ seen → IsPrefix taken (chronicle there) → found ≡ there
      → TakesStep M found event answer left
      → after ≡ chronicle left → IsTurn seen after event answer
  makes_turn seen taken after event answer there found left same begun found_is takes is =
      let begins = begins_found seen taken there found same begun found_is in
      record {
        found = found;
        left = left;
        begins = begins;
        step = takes.step;
        laws = takes.laws;
        after_is = is;
        grown = subst (λ xs. IsPrefix seen xs) (sym is) (begins_longer seen (chronicle found) (chronicle left) begins takes.grown);
      }

  pub hands_told : (seen taken after : List (Entry M D)) (event : Event) (answer : Answer) (frames : List (List ℕ)) (there found left : Shared D) → taken ≡ seen → IsPrefix taken (chronicle there) → found ≡ there
      → TakesStep M found event answer left
      → after ≡ chronicle left → AllTell left.machine.state frames → HandsTold seen after event answer frames
  unfolding makes_turn
  hands_told seen taken after event answer frames there found left same begun found_is takes is told =
      record { turn = makes_turn seen taken after event answer there found left same begun found_is takes is; told = told }

  pub looks : (seen taken after : List (Entry M D)) (service : Service) (wanted : Bool) (there found : Shared D) → taken ≡ seen → IsPrefix taken (chronicle there) → found ≡ there
      → wanted ≡ wants found.machine.state service → after ≡ chronicle found → IsLook seen after service wanted
  looks seen taken after service wanted there found same begun found_is answer is = record { found = found; begins = begins_found seen taken there found same begun found_is; answer = answer; after_is = is }

-- a chronicle that begins with another has the same first entry: the guard as it was when the lock was opened
same_start : {M D : Type 0} (s t : Shared D) → IsPrefix (chronicle {M = M} s) (chronicle t) → t.start ≡ s.start
same_start s t p = cc p.1

-- a machine that comes back of the lock, whose seat had seen the chronicle at its opening, went on from the one that was put there
pub went_on : {M D : Type 0} (g : Ghosts D) (machine last : MachineView D) (seen : List (Entry M D)) → IsPrefix (chronicle {M = M} (at_opening machine)) seen → ComesBack g seen last → Proceeds g (guard_of machine) (guard_of last)
went_on g machine last seen opened_ back =
    let found : Shared _ = record { start = back.start; machine = last } in
    subst (λ v. Proceeds g v (guard_of last)) (same_start (at_opening machine) found (begins_longer (chronicle (at_opening machine)) seen (chronicle found) opened_ back.begins)) back.proceeds
