use Rattle.std.proofs.Common.{◌≡◌, Err, ap, length, rules, arith, false, None, Some, refl}
use Rattle.xfs_base.specs.Causes.{IfTold}
use Rattle.xfs_journal.specs.Holding.{with_front}
use Rattle.xfs_journal.specs.Image.{StandsFor}
use Rattle.xfs_journal.specs.JournalView.{HasVersion, IsInDoubt, IsKept, IsMeasured}
use Rattle.xfs_journal.proofs.Appended.{stands_at_rest, told_image}
use Rattle.xfs_journal.proofs.Doubt.{measured_again, no_doubt, kept_by, doubt_by, shut_cases, version_still}
use Rattle.xfs_journal.proofs.journal.Journal.remount.Goals as goal
use Rattle.xfs_disk.specs.Moments.{EachImage}

pub returns-in-Err-clause-err : goal.returns-in-Err-clause-err
returns-in-Err-clause-err g c =
    let shut = c.is_shut_by-self-inside.ensures in
    let read = c.in-Err.ensures in
    rw (← c.self.view_is) (record { same = refl; memory = shut.memory; shut = shut.other; disk = λ is. read.tries.cause (ap Err is); not_journal = read.silent; place = read.place })

pub returns-in-Ok-clause-ok : goal.returns-in-Ok-clause-ok
returns-in-Ok-clause-ok g c =
    let j = c.self.inside in
    let read = c.in-Ok.ensures in
    let image : IfTold (g.D.Disk.held j.disk) (λ all. StandsFor all (with_front j.recent.base j.recent.all c.in-Ok.field-0.recent.all)) = told_image _ _ read.image in
    let list : EachImage g.D.Disk c.reload.new.disk (λ bytes. StandsFor bytes (with_front j.recent.base j.recent.all c.in-Ok.field-0.recent.all)) = stands_at_rest _ _ _ _ read.kept in
    rw (← c.self.view_is) (record {
      records = rw c.take_from.ensures.all read.possible;
      opened = record { shut = refl; in_doubt = refl; acknowledged = rw c.take_from.ensures.all list };
      reserved = search rules;
      stands = rw c.take_from.ensures.all image;
    })

pub returns-in-Ok-clause-possible : goal.returns-in-Ok-clause-possible
returns-in-Ok-clause-possible g c = rw (← c.self.view_is) c.self.invariant.1.possible

pub invariant_of-self-in-Err : goal.invariant_of-self-in-Err
invariant_of-self-in-Err g c =
    let j = c.self.inside in
    let d = c.reload.new.disk in
    let shut = c.is_shut_by-self-inside in
    let cases = shut_cases c.in-Err.why j.shut shut.result shut.ensures.memory shut.ensures.other in (
      kept_by g.D.Disk j.disk d c.reload.ensures.tries.goes_on.told c.reload.ensures.quiet j.recent.all j.shut shut.result j.gate cases c.self.invariant.0,
      doubt_by g.D.Disk j.disk d c.reload.ensures.tries.goes_on.told c.reload.ensures.quiet j.recent.all j.shut shut.result j.in_doubt cases c.self.invariant.1,
      version_still g.D.Disk j.disk d c.reload.ensures.tries.goes_on.told c.reload.ensures.quiet j.version c.self.invariant.2,
      c.self.invariant.3,
    )

pub invariant_of-self : goal.invariant_of-self
invariant_of-self g c =
    let j = c.self.inside in
    let d = c.reload.new.disk in
    let l = c.in-Ok.field-0 in
    let M = with_front j.recent.base j.recent.all l.recent.all in
    let kept : IsKept (g.D.Disk.held d) (g.D.Disk.images d) M false l.end = c.in-Ok.ensures.kept in
    let doubt : IsInDoubt (g.D.Disk.held d) (g.D.Disk.images d) M false None = no_doubt _ _ _ _ kept in
    let version : HasVersion (g.D.Disk.held d) (Some l.version) = search rules in
    let long : length l.recent.all ≡ length M = c.in-Ok.ensures.long in
    let measured : IsMeasured M j.recent.base None c.end_again-self-inside.result j.far =
    measured_again j.recent.all M j.in_doubt j.recent.base j.end j.far c.end_again-self-inside.result j.far c.self.invariant.3 c.in-Ok.ensures.possible
    (λ le. c.end_again-self-inside.ensures.same (omega (arith, le, long))) (λ lt. c.end_again-self-inside.ensures.longer (omega (arith, lt, long))) in (
      rw c.take_from.ensures.all kept,
      rw c.take_from.ensures.all doubt,
      version,
      rw (c.take_from.ensures.all, c.take_from.ensures.base) measured,
    )
