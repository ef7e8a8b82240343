use Rattle.std.proofs.Common.{◌≡◌, Err, sym, ap, ◌∙◌}
use Rattle.std.proofs.lemmas.Bool.{false≢true}
use Rattle.xfs_dispenser.specs.Seen.{seen}
use Rattle.xfs_guard.proofs.KeepsLaws.{Keeps-same, Proceeds-same}
use Rattle.xfs_machine.proofs.NonceLaws.{life_ended, life_unended, write_fault}
use Rattle.xfs_machine.proofs.life.expire.Goals as goal

pub returns-in_err-frame-clause-keeps : goal.returns-in_err-frame-clause-keeps
returns-in_err-frame-clause-keeps g c = λ upheld. Keeps-same g.D.Disk _ g.met.D.Disk.only_now upheld

pub returns-in_err-frame-clause-proceeds : goal.returns-in_err-frame-clause-proceeds
returns-in_err-frame-clause-proceeds g c = Proceeds-same g.D.Disk _ g.met.D.Disk.only_now

pub returns-in_err-announce-clause-keeps : goal.returns-in_err-announce-clause-keeps
returns-in_err-announce-clause-keeps g c = λ upheld. Keeps-same g.D.Disk _ g.met.D.Disk.only_now upheld

pub returns-in_err-announce-clause-proceeds : goal.returns-in_err-announce-clause-proceeds
returns-in_err-announce-clause-proceeds g c = Proceeds-same g.D.Disk _ g.met.D.Disk.only_now

pub returns-in-Ok-clause-ends : goal.returns-in-Ok-clause-ends
returns-in-Ok-clause-ends g c = λ s.
    life_ended (record s { seen = seen g.D.Disk c.args.guard.now; connections = c.args.connections.now }) (seen g.D.Disk c.expire.new.self) c.in_ok-frame.frame c.announce.new.self c.in_ok-frame.ensures
    c.in-Ok.ensures.expired c.expire.ensures.writes.keeps.proceeds.disk_faults (rw c.list.ensures at c.in_ok-announce.ensures.ok)

pub returns-then-eq-clause-memory : goal.returns-then-eq-clause-memory
returns-then-eq-clause-memory g c =
    (c.in-Err.ensures.writes.same (λ f. false≢true (sym (rw f at c.eq.ensures) ∙ c.if-eq.true)), c.take_back.ensures c.args.connections.now c.in_ok-frame.frame (rw c.list.ensures at c.in_ok-announce.ensures.ok))

pub returns-clause-ends : goal.returns-clause-ends
returns-clause-ends g c = λ s.
    let e = write_fault Unit c.in-Err.deny _ c.requires.fit c.in-Err.ensures.refused (λ m. false≢true (sym c.if-eq.false ∙ (rw m at c.eq.ensures))) in
    let back : c.take_back.new.self ≡ c.args.connections.now = c.take_back.ensures c.args.connections.now c.in_ok-frame.frame (rw c.list.ensures at c.in_ok-announce.ensures.ok) in
    rw back (life_unended (record s { seen = seen g.D.Disk c.args.guard.now; connections = c.args.connections.now }) (seen g.D.Disk c.expire.new.self)
    (c.expire.ensures.writes.disk (c.in-Err.is ∙ ap Err e)) c.expire.ensures.writes.keeps.proceeds.disk_faults (c.expire.ensures.writes.cause (c.in-Err.is ∙ ap Err e)))
