use Rattle.std.proofs.Common.{◌≤◌, ◌∙◌, ap, arith, inl, length, refl, sym, true≢false}
use Rattle.std.proofs.lemmas.Result.{IfOk-weaker}
use Rattle.xfs_common.specs.declared.error.ErrorCode.TheVariants.{InvalidUnit, StorageFull}
use Rattle.xfs_dispenser.specs.declared.refusal.Refusal.TheVariants.{Deny as Denied, Error}
use Rattle.xfs_guard.proofs.KeepsLaws.{Proceeds-same}
use Rattle.xfs_lines.proofs.BegunLaws.{loads-fills}
use Rattle.xfs_lines.proofs.commands.guard.player.GuardPlayer.fill.Goals as goal
use Rattle.xfs_lines.proofs.commands.guard.player.GuardPlayer.fill.Goals.{then-unit-eq0-via-then-unit-eq0, then-unit-eq0-via-else-unit-eq0+then-unit-len}

pub returns-then-unit-eq0-clause-proceeds : goal.returns-then-unit-eq0-clause-proceeds
returns-then-unit-eq0-clause-proceeds g c = Proceeds-same g.D.Disk _ g.met.D.Disk.only_now

pub returns-then-not-room-clause-proceeds : goal.returns-then-not-room-clause-proceeds
returns-then-not-room-clause-proceeds g c = Proceeds-same g.D.Disk _ g.met.D.Disk.only_now

pub returns-in-Some-clause-proceeds : goal.returns-in-Some-clause-proceeds
returns-in-Some-clause-proceeds g c = Proceeds-same g.D.Disk _ g.met.D.Disk.only_now

pub returns-clause-memory : goal.returns-clause-memory
returns-clause-memory g c = loads-fills c.load.result _ _ _ _ c.load.ensures.memory

pub returns-then-unit-eq0-clause-answer : goal.returns-then-unit-eq0-clause-answer
returns-then-unit-eq0-clause-answer g c =
    let cause : ¬ ((1 ≤ c.args.unit) × (c.args.unit ≤ length c.args.self.now.guard.state.units)) = λ both. elim c.then-unit-eq0.branch [
      | then-unit-eq0-via-then-unit-eq0 w ↦ (let low = both.0 in omega (arith, w.if-unit-eq0.true, low))
      | then-unit-eq0-via-else-unit-eq0+then-unit-len w ↦ (let high = both.1 in let u = ap length w.units.ensures in omega (arith, w.if-unit-len.true, w.len.ensures.len, u, high))
    ] in
    IfOk-weaker c.refusal_text.result _ _ (λ text told. inl (record { refusal = Error InvalidUnit; cause = cause; refused = record { text = told; same = refl } })) c.refusal_text.ensures

pub returns-then-not-room-clause-answer : goal.returns-then-not-room-clause-answer
returns-then-not-room-clause-answer g c =
    let u = ap length c.units.ensures in
    let low : 1 ≤ c.args.unit = omega (arith, c.if-unit-eq0.false) in
    let high : c.args.unit ≤ length c.args.self.now.guard.state.units = omega (arith, c.if-unit-len.false, c.len.ensures.len, u) in
    IfOk-weaker c.refusal_text-then-not-room.result _ _ (λ text told. inl (record { refusal = Error StorageFull; cause = (low, high, λ can. true≢false (sym (c.room.ensures.1 can) ∙ c.if-not-room.true)); refused = record { text = told; same = refl } })) c.refusal_text-then-not-room.ensures

pub returns-in-Some-clause-answer : goal.returns-in-Some-clause-answer
returns-in-Some-clause-answer g c =
    let can = c.room.ensures.0 c.if-not-room.false in
    IfOk-weaker c.refusal_text-in-Some.result _ _ (λ text told. inl (record { refusal = Denied c.in-Some.deny; cause = (can, sym c.unfit.ensures.first ∙ c.in-Some.is); refused = record { text = told; same = refl } })) c.refusal_text-in-Some.ensures
