use Rattle.std.proofs.Common.{◌∙◌, ◌≡◌, Err, Some, sym, ap}
use Rattle.xfs_guard.proofs.KeepsLaws.{Keeps-same}
use Rattle.xfs_guard.specs.declared.claim.Permit.{Permit}
use Rattle.xfs_dispenser.specs.Checks.{denied}
use Rattle.xfs_dispenser.specs.Seen.{seen}
use Rattle.xfs_dispenser.proofs.GrantLaws.{given-by, grant-budget, grant-given, grant-none, grant-notes, grant-token, grant-unfit, notes-allowed, notes-refused, text-none, text-some}
use Rattle.xfs_dispenser.proofs.grant.grant_to_stack.Goals as goal

pub returns-in-Some-clause-grant : goal.returns-in-Some-clause-grant
returns-in-Some-clause-grant g c = λ some.
    grant-unfit (seen g.D.Disk c.args.guard.now) c.args.notes.now _ c.in-Some.deny c.from.result (sym c.unfit.ensures.first ∙ c.in-Some.is) c.from.ensures (λ e. some (ap (λ x. Err x) e))

pub returns-in-Some-clause-keeps : goal.returns-in-Some-clause-keeps
returns-in-Some-clause-keeps g c = Keeps-same g.D.Disk _ g.met.D.Disk.only_now c.unfit.ensures.upheld

pub returns-in_default-token-clause-grant : goal.returns-in_default-token-clause-grant
returns-in_default-token-clause-grant g c = λ some.
    grant-none (seen g.D.Disk c.args.guard.now) c.args.notes.now _ (sym c.unfit.ensures.first ∙ c.in_default.is) (text-none c.args.token c.in_default-token.is)

pub returns-in_default-token-clause-keeps : goal.returns-in_default-token-clause-keeps
returns-in_default-token-clause-keeps g c = Keeps-same g.D.Disk _ g.met.D.Disk.only_now c.unfit.ensures.upheld

pub returns-in_err-claim-clause-grant : goal.returns-in_err-claim-clause-grant
returns-in_err-claim-clause-grant g c = λ some.
    let fit = sym c.unfit.ensures.first ∙ c.in_default.is in
    let s = seen g.D.Disk c.args.guard.now in
    given-by s c.args.notes.now _ s (λ r. r ≡ denied c.in_err-claim.field-0.0) c.from_residual.result c.from_residual.ensures.1
    (λ r is. grant-token s c.args.notes.now _ c.in-Some-token.token.now c.in_err-claim.field-0.0 r fit (text-some c.args.token c.in-Some-token.token c.in-Some-token.is) c.in_err-claim.ensures.refused is) some

pub returns-in_err-claim-clause-keeps : goal.returns-in_err-claim-clause-keeps
returns-in_err-claim-clause-keeps g c = Keeps-same g.D.Disk _ g.met.D.Disk.only_now c.unfit.ensures.upheld

pub returns-in_err-counts-clause-grant : goal.returns-in_err-counts-clause-grant
returns-in_err-counts-clause-grant g c = λ some.
    let fit = sym c.unfit.ensures.first ∙ c.in_default.is in
    let claim = c.in_ok-claim in
    let s = seen g.D.Disk c.args.guard.now in
    given-by s c.args.notes.now _ s (λ r. r ≡ c.in_err-counts.field-0.0) c.from_residual-in_err-counts.result c.from_residual-in_err-counts.ensures.1
    (λ r is other. grant-notes s c.args.notes.now _ claim.claim.token claim.claim.amounts r fit (text-some c.args.token c.in-Some-token.token c.in-Some-token.is ∙ ap (λ b. Some b) (sym claim.ensures.token)) claim.ensures.ok
    (notes-refused c.args.guard.now.state c.args.notes.now c.units.result.now c.places.result c.in_err-counts.field-0.0 r is c.units.ensures c.places.ensures c.in_err-counts.ensures other)) some

pub returns-in_err-counts-clause-keeps : goal.returns-in_err-counts-clause-keeps
returns-in_err-counts-clause-keeps g c = Keeps-same g.D.Disk _ g.met.D.Disk.only_now c.unfit.ensures.upheld

pub returns-in_err-permit-clause-grant : goal.returns-in_err-permit-clause-grant
returns-in_err-permit-clause-grant g c = λ some.
    let fit = sym c.unfit.ensures.first ∙ c.in_default.is in
    let claim = c.in_ok-claim in
    let e = c.in_err-permit.ensures in
    let s = seen g.D.Disk c.args.guard.now in
    given-by s c.args.notes.now _ (seen g.D.Disk c.allow.new.self) (λ r. r ≡ denied c.in_err-permit.field-0.0) c.from_residual-in_err-permit.result c.from_residual-in_err-permit.ensures.1
    (λ r is other. grant-budget Permit g.D.Disk c.args.guard.now c.allow.new.self c.args.notes.now _ claim.claim.token claim.claim.amounts c.in_ok-counts.counts c.in_err-permit.field-0.0 r fit
    (text-some c.args.token c.in-Some-token.token c.in-Some-token.is ∙ ap (λ b. Some b) (sym claim.ensures.token)) claim.ensures.ok
    (notes-allowed c.args.guard.now.state c.args.notes.now c.units.result.now c.places.result c.in_ok-counts.counts c.units.ensures c.places.ensures c.in_ok-counts.ensures)
    e.refused e.once.unbound (λ x. e.writes.disk (ap (λ d. Err d) x)) e.writes.keeps.proceeds.disk_faults (λ x. e.writes.cause (ap (λ d. Err d) x)) e.writes.same is other) some

pub returns-clause-grant : goal.returns-clause-grant
returns-clause-grant g c = λ some.
    let fit = sym c.unfit.ensures.first ∙ c.in_default.is in
    let claim = c.in_ok-claim in
    let e = c.in_ok-permit.ensures in
    grant-given g.D.Disk c.args.guard.now c.allow.new.self c.args.notes.now _ claim.claim.token claim.claim.amounts _ fit
    (text-some c.args.token c.in-Some-token.token c.in-Some-token.is ∙ ap (λ b. Some b) (sym claim.ensures.token)) claim.ensures.ok
    (notes-allowed c.args.guard.now.state c.args.notes.now c.units.result.now c.places.result c.in_ok-counts.counts c.units.ensures c.places.ensures c.in_ok-counts.ensures)
    e.refused e.issue e.ok e.writes.keeps.proceeds.disk_faults
