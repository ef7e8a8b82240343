use Rattle.std.proofs.Common.{◌≡◌, ◌≤◌, length, None, arith, refl, rules}
use Rattle.xfs_guard.specs.declared.open.Open.TheVariants.{No}
use Rattle.xfs_journal.specs.Image.{body}
use Rattle.xfs_guard.proofs.ContinueLaws.{Continues-written}
use Rattle.xfs_guard.proofs.KeepsLaws.{Keeps-wrote, writes-keeping}
use Rattle.xfs_guard.proofs.KeptLaws.{IsKept-open, IsKept-refused, Continues-refused}
use Rattle.xfs_guard.proofs.BalanceLaws.{balanced-push}
use Rattle.xfs_guard.proofs.SizeLaws.{fit-at, takes-one, may-write}
use Rattle.xfs_guard.proofs.RecordLaws.{IsSound-end, ends-short, ends-plain, ends-dead}
use Rattle.xfs_guard.proofs.LeftLaws.{left-written}
use Rattle.xfs_guard.proofs.BehindLaws.{behind-refused, behind-written}
use Rattle.xfs_guard.proofs.PossibleLaws.{leaves-list, leaves-refused}
use Rattle.xfs_guard.proofs.StandLaws.{grows-end}
use Rattle.xfs_guard.proofs.guard.Guard.end_nonce.Goals as goal

pub end_nonce-requires : goal.end_nonce-requires
end_nonce-requires g c =
    let fit = fit-at _ _ c.self.view_is c.requires.fit in
    let short : length (body c.args.rec) ≤ 1025 = ends-short c.args.rec c.requires.ends in record {
      fits = may-write c.self.inside.ledger c.args.rec fit.0 fit.2 (takes-one c.self.inside.ledger.limits c.self.inside.ledger.base c.self.inside.ledger.records c.args.rec fit.1 short);
      ends = c.requires.ends;
    }

pub invariant_of-self : goal.invariant_of-self
invariant_of-self g c = (
  (let none : c.self.inside.open_order ≡ No = rw (← c.self.view_is) at c.requires.none in
      let fit = fit-at _ _ c.self.view_is c.requires.fit in
      IsKept-refused Unit c.in_err-end_nonce.field-0.0 _ _ _ _ _ _ c.self.inside.ledger c.end_nonce.new.self _ None _ _ _ _ _ _ c.in_err-end_nonce.ensures.writes.wrote c.in_err-end_nonce.ensures.writes.err c.end_nonce.ensures.writes.told none c.self.invariant.0 fit.0 fit.2
      (IsSound-end _ c.args.rec c.requires.ends (c.self.invariant.0.sound fit.0 fit.2) none)),
  leaves-refused g.D.Disk Unit c.in_err-end_nonce.field-0.0 c.self.inside.ledger c.end_nonce.new.self c.args.rec None g.met.D.Disk.counts_now c.in_err-end_nonce.ensures.writes.wrote c.in_err-end_nonce.ensures.writes.err c.end_nonce.ensures.writes.told c.end_nonce.ensures.writes.any_moment c.self.invariant.1,
)

pub invariant_of-self-2 : goal.invariant_of-self-2
invariant_of-self-2 g c = (
  (let none : c.self.inside.open_order ≡ No = rw (← c.self.view_is) at c.requires.none in
      let fit = fit-at _ _ c.self.view_is c.requires.fit in
      let w = c.in_ok-end_nonce.ensures.writes.wrote in
      rw (w.records, w.base, w.units, w.bound_is, w.booted, w.loaded, w.limits, w.open_still, w.boot_missing, w.in_doubt, c.end_nonce.ensures.writes.told, none)
      (IsKept-open _ _ _ _ (IsSound-end _ c.args.rec c.requires.ends (c.self.invariant.0.sound fit.0 fit.2) none) (balanced-push c.self.inside.ledger.records c.args.rec _ _ _ c.self.invariant.0.balanced) fit.2 tt tt c.self.invariant.0.units)),
  leaves-list g.D.Disk c.end_nonce.new.self.disk c.end_nonce.new.self.records c.end_nonce.new.self.in_doubt c.in_ok-end_nonce.ensures.writes.kept,
)

pub returns-in_err-end_nonce-clause-writes : goal.returns-in_err-end_nonce-clause-writes
returns-in_err-end_nonce-clause-writes g c = writes-keeping (Keeps-wrote g.D.Disk _ _
    (let none : c.self.inside.open_order ≡ No = rw (← c.self.view_is) at c.requires.none in
    let fit = fit-at _ _ c.self.view_is c.requires.fit in
    rw (← c.self.view_is) (Continues-refused Unit c.in_err-end_nonce.field-0.0 _ _ _ _ _ _ c.self.inside.ledger c.end_nonce.new.self _ None _ _ c.in_err-end_nonce.ensures.writes.wrote c.in_err-end_nonce.ensures.writes.err c.end_nonce.ensures.writes.told (c.self.invariant.0.clean fit.0) fit.0 fit.2 (λ p e. absurd (ends-plain c.args.rec p c.requires.ends e)) No
    (grows-end _ c.args.rec c.requires.ends (c.self.invariant.0.sound fit.0 fit.2) none)))
    (rw (← c.self.view_is) c.end_nonce.ensures.writes.faults) (rw (← c.self.view_is) (omega arith))
    (rw (← c.self.view_is) (behind-refused Unit g.D.Disk c.in_err-end_nonce.field-0.0 _ _ _ _ _ _ c.self.inside.ledger c.end_nonce.new.self _ None _ _ g.met.D.Disk.only_now c.in_err-end_nonce.ensures.writes.wrote c.in_err-end_nonce.ensures.writes.err c.end_nonce.ensures.writes.told c.end_nonce.ensures.writes.any_moment))
    (let none : c.self.inside.open_order ≡ No = rw (← c.self.view_is) at c.requires.none in
    let fit = fit-at _ _ c.self.view_is c.requires.fit in
    let sound = c.self.invariant.0.sound fit.0 fit.2 in
    rw (← c.self.view_is) (left-written g.D.Disk c.self.inside.ledger.disk c.end_nonce.new.self.disk _ c.args.rec None No refl sound (IsSound-end _ c.args.rec c.requires.ends sound none) c.end_nonce.ensures.writes.any_moment))) (λ keeps. search rules)

pub returns-clause-writes : goal.returns-clause-writes
returns-clause-writes g c = writes-keeping (Keeps-wrote g.D.Disk _ _
    (let none : c.self.inside.open_order ≡ No = rw (← c.self.view_is) at c.requires.none in
    let fit = fit-at _ _ c.self.view_is c.requires.fit in
    let w = c.in_ok-end_nonce.ensures.writes.wrote in
    rw (← c.self.view_is, w.records, w.base, w.units, w.bound_is, w.booted, w.loaded, w.limits, w.open_still, w.boot_missing, w.in_doubt, c.end_nonce.ensures.writes.told)
    (Continues-written _ c.args.rec None c.self.inside.open_order (c.self.invariant.0.clean fit.0) fit.0 fit.2 (λ p e. absurd (ends-plain c.args.rec p c.requires.ends e)) No none
    (grows-end _ c.args.rec c.requires.ends (c.self.invariant.0.sound fit.0 fit.2) none)))
    (rw (← c.self.view_is) c.end_nonce.ensures.writes.faults) (rw (← c.self.view_is) (omega arith))
    (rw (← c.self.view_is) (behind-written g.D.Disk _ _ c.args.rec c.end_nonce.ensures.writes.told c.end_nonce.ensures.writes.any_moment c.in_ok-end_nonce.ensures.writes.wrote.records))
    (let none : c.self.inside.open_order ≡ No = rw (← c.self.view_is) at c.requires.none in
    let fit = fit-at _ _ c.self.view_is c.requires.fit in
    let sound = c.self.invariant.0.sound fit.0 fit.2 in
    rw (← c.self.view_is) (left-written g.D.Disk c.self.inside.ledger.disk c.end_nonce.new.self.disk _ c.args.rec None No refl sound (IsSound-end _ c.args.rec c.requires.ends sound none) c.end_nonce.ensures.writes.any_moment))) (λ keeps. search rules)

pub returns-clause-dead : goal.returns-clause-dead
returns-clause-dead g c = rw c.in_ok-end_nonce.ensures.writes.wrote.records (ends-dead c.self.inside.ledger.records c.args.rec c.requires.ends)
