use Rattle.std.proofs.Common.{◌≡◌, ◌≢◌, ◌≤◌, ◌∙◌, length, sym, None, Some, arith, refl, rules}
use Rattle.xfs_journal.specs.Image.{body}
use Rattle.xfs_journal.specs.declared.record.Rec.TheVariants.{Bind}
use Rattle.xfs_guard.specs.declared.open.Open.TheVariants.{No}
use Rattle.xfs_guard.specs.Refusals.{bound_token}
use Rattle.xfs_guard.proofs.ClaimLaws.{IsSound-claim, kept-claim, copied-none, copied-some}
use Rattle.xfs_guard.proofs.ContinueLaws.{Continues-written}
use Rattle.xfs_guard.proofs.KeepsLaws.{Keeps-still, Keeps-wrote, writes-keeping}
use Rattle.xfs_guard.proofs.KeptLaws.{IsKept-open, IsKept-refused, Continues-refused}
use Rattle.xfs_guard.proofs.BalanceLaws.{balanced-push}
use Rattle.xfs_guard.proofs.SizeLaws.{fit-at, takes-one, may-write}
use Rattle.xfs_guard.proofs.LeftLaws.{left-written}
use Rattle.xfs_guard.proofs.BehindLaws.{behind-refused, behind-written}
use Rattle.xfs_guard.proofs.PossibleLaws.{leaves-list, leaves-refused}
use Rattle.xfs_guard.proofs.StandLaws.{grows-bind}
use Rattle.xfs_guard.proofs.guard.Guard.bind_once.Goals as goal

pub returns-then-is_some-clause-ok : goal.returns-then-is_some-clause-ok
returns-then-is_some-clause-ok g c =
    let passes = rw (← c.self.view_is, ← c.claim.view_is) at c.requires.passes in
    let fit = fit-at _ _ c.self.view_is c.requires.passes.fit in
    let there : bound_token c.self.inside.ledger.records ≢ None = copied-some c.token.result _ c.token.ensures (sym c.is_some.ensures ∙ c.if-is_some.true) in
    rw (← c.self.view_is, ← c.claim.view_is) (record {
      kept = kept-claim _ c.claim.inside.token c.claim.inside.amounts (c.self.invariant.0.sound fit.0 fit.2) passes there;
      first = λ none. absurd (there none);
      again = λ some. refl;
    })

pub bind-requires-clause-fits : goal.bind-requires-clause-fits
bind-requires-clause-fits g c =
    let fit = fit-at _ _ c.self.view_is c.requires.passes.fit in
    let spelled = rw (← c.claim.view_is) at c.requires.passes.spelled in
    let short : length (body (Bind c.claim.inside.token)) ≤ 1025 = omega (arith, spelled.short) in
    may-write c.self.inside.ledger (Bind c.claim.inside.token) fit.0 fit.2 (takes-one c.self.inside.ledger.limits c.self.inside.ledger.base c.self.inside.ledger.records (Bind c.claim.inside.token) fit.1 short)

pub invariant_of-self : goal.invariant_of-self
invariant_of-self g c = (
  (let none : c.self.inside.open_order ≡ No = rw (← c.self.view_is) at c.requires.none in
      let passes = rw (← c.self.view_is, ← c.claim.view_is) at c.requires.passes in
      let fit = fit-at _ _ c.self.view_is c.requires.passes.fit in
      let free : bound_token c.self.inside.ledger.records ≡ None = copied-none c.token.result _ c.token.ensures (sym c.is_some.ensures ∙ c.if-is_some.false) in
      IsKept-refused Unit c.in_err-bind.field-0.0 _ _ _ _ _ _ c.self.inside.ledger c.bind.new.self _ (Some c.claim.inside.amounts) _ _ _ _ _ _ c.in_err-bind.ensures.writes.wrote c.in_err-bind.ensures.writes.err c.bind.ensures.writes.told none c.self.invariant.0 fit.0 fit.2
      (IsSound-claim _ c.claim.inside.token c.claim.inside.amounts (c.self.invariant.0.sound fit.0 fit.2) none passes free)),
  leaves-refused g.D.Disk Unit c.in_err-bind.field-0.0 c.self.inside.ledger c.bind.new.self (Bind c.claim.inside.token) (Some c.claim.inside.amounts) g.met.D.Disk.counts_now c.in_err-bind.ensures.writes.wrote c.in_err-bind.ensures.writes.err c.bind.ensures.writes.told c.bind.ensures.writes.any_moment c.self.invariant.1,
)

pub invariant_of-self-2 : goal.invariant_of-self-2
invariant_of-self-2 g c = (
  (let none : c.self.inside.open_order ≡ No = rw (← c.self.view_is) at c.requires.none in
      let passes = rw (← c.self.view_is, ← c.claim.view_is) at c.requires.passes in
      let fit = fit-at _ _ c.self.view_is c.requires.passes.fit in
      let free : bound_token c.self.inside.ledger.records ≡ None = copied-none c.token.result _ c.token.ensures (sym c.is_some.ensures ∙ c.if-is_some.false) in
      let w = c.in_ok-bind.ensures.writes.wrote in
      rw (w.records, w.base, w.units, w.bound_is, w.booted, w.loaded, w.limits, w.open_still, w.boot_missing, w.in_doubt, c.bind.ensures.writes.told, none)
      (IsKept-open _ _ _ _ (IsSound-claim _ c.claim.inside.token c.claim.inside.amounts (c.self.invariant.0.sound fit.0 fit.2) none passes free) (balanced-push c.self.inside.ledger.records (Bind c.claim.inside.token) _ _ _ c.self.invariant.0.balanced) fit.2 tt tt c.self.invariant.0.units)),
  leaves-list g.D.Disk c.bind.new.self.disk c.bind.new.self.records c.bind.new.self.in_doubt c.in_ok-bind.ensures.writes.kept,
)

pub returns-in_err-bind-clause-writes : goal.returns-in_err-bind-clause-writes
returns-in_err-bind-clause-writes g c = writes-keeping (Keeps-wrote g.D.Disk _ _
    (let none : c.self.inside.open_order ≡ No = rw (← c.self.view_is) at c.requires.none in
    let fit = fit-at _ _ c.self.view_is c.requires.passes.fit in
    rw (← c.self.view_is) (Continues-refused Unit c.in_err-bind.field-0.0 _ _ _ _ _ _ c.self.inside.ledger c.bind.new.self _ (Some c.claim.inside.amounts) _ _ c.in_err-bind.ensures.writes.wrote c.in_err-bind.ensures.writes.err c.bind.ensures.writes.told (c.self.invariant.0.clean fit.0) fit.0 fit.2 (λ p e. cc) No
    (grows-bind _ c.claim.inside.token (Some c.claim.inside.amounts) (c.self.invariant.0.sound fit.0 fit.2) none)))
    (rw (← c.self.view_is) c.bind.ensures.writes.faults) (rw (← c.self.view_is) (omega arith))
    (rw (← c.self.view_is) (behind-refused Unit g.D.Disk c.in_err-bind.field-0.0 _ _ _ _ _ _ c.self.inside.ledger c.bind.new.self _ (Some c.claim.inside.amounts) _ _ g.met.D.Disk.only_now c.in_err-bind.ensures.writes.wrote c.in_err-bind.ensures.writes.err c.bind.ensures.writes.told c.bind.ensures.writes.any_moment))
    (let none : c.self.inside.open_order ≡ No = rw (← c.self.view_is) at c.requires.none in
    let passes = rw (← c.self.view_is, ← c.claim.view_is) at c.requires.passes in
    let fit = fit-at _ _ c.self.view_is c.requires.passes.fit in
    let free : bound_token c.self.inside.ledger.records ≡ None = copied-none c.token.result _ c.token.ensures (sym c.is_some.ensures ∙ c.if-is_some.false) in
    let sound = c.self.invariant.0.sound fit.0 fit.2 in
    rw (← c.self.view_is) (left-written g.D.Disk c.self.inside.ledger.disk c.bind.new.self.disk _ (Bind c.claim.inside.token) (Some c.claim.inside.amounts) No refl sound (IsSound-claim _ c.claim.inside.token c.claim.inside.amounts sound none passes free) c.bind.ensures.writes.any_moment))) (λ keeps. search rules)

pub returns-clause-writes : goal.returns-clause-writes
returns-clause-writes g c = writes-keeping (Keeps-wrote g.D.Disk _ _
    (let none : c.self.inside.open_order ≡ No = rw (← c.self.view_is) at c.requires.none in
    let fit = fit-at _ _ c.self.view_is c.requires.passes.fit in
    let w = c.in_ok-bind.ensures.writes.wrote in
    rw (← c.self.view_is, w.records, w.base, w.units, w.bound_is, w.booted, w.loaded, w.limits, w.open_still, w.boot_missing, w.in_doubt, c.bind.ensures.writes.told)
    (Continues-written _ (Bind c.claim.inside.token) (Some c.claim.inside.amounts) c.self.inside.open_order (c.self.invariant.0.clean fit.0) fit.0 fit.2 (λ p e. cc) No none
    (grows-bind _ c.claim.inside.token (Some c.claim.inside.amounts) (c.self.invariant.0.sound fit.0 fit.2) none)))
    (rw (← c.self.view_is) c.bind.ensures.writes.faults) (rw (← c.self.view_is) (omega arith))
    (rw (← c.self.view_is) (behind-written g.D.Disk _ _ (Bind c.claim.inside.token) c.bind.ensures.writes.told c.bind.ensures.writes.any_moment c.in_ok-bind.ensures.writes.wrote.records))
    (let none : c.self.inside.open_order ≡ No = rw (← c.self.view_is) at c.requires.none in
    let passes = rw (← c.self.view_is, ← c.claim.view_is) at c.requires.passes in
    let fit = fit-at _ _ c.self.view_is c.requires.passes.fit in
    let free : bound_token c.self.inside.ledger.records ≡ None = copied-none c.token.result _ c.token.ensures (sym c.is_some.ensures ∙ c.if-is_some.false) in
    let sound = c.self.invariant.0.sound fit.0 fit.2 in
    rw (← c.self.view_is) (left-written g.D.Disk c.self.inside.ledger.disk c.bind.new.self.disk _ (Bind c.claim.inside.token) (Some c.claim.inside.amounts) No refl sound (IsSound-claim _ c.claim.inside.token c.claim.inside.amounts sound none passes free) c.bind.ensures.writes.any_moment))) (λ keeps. search rules)

pub returns-then-is_some-clause-writes : goal.returns-then-is_some-clause-writes
returns-then-is_some-clause-writes g c = writes-keeping (rw (← c.self.view_is) (Keeps-still g.D.Disk _ g.met.D.Disk.only_now c.self.invariant.1 c.self.invariant.0.recorded)) (λ keeps. search rules)
