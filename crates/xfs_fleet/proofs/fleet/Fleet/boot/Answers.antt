use Rattle.std.proofs.Common.{subst, sym}
use Rattle.xfs_fleet.specs.Boots.{IsBooted}
use Rattle.xfs_fleet.proofs.BootLaws.{IfErr-both, IfOk-both}
use Rattle.xfs_fleet.proofs.fleet.Fleet.boot.Goals as goal

pub returns-in-Ok-clause-both : goal.returns-in-Ok-clause-both
returns-in-Ok-clause-both g c =
    IfOk-both _ _ _ c.boot_second.result (λ f same second. record { first = subst (IsBooted g.M.Mechanism g.D.Disk c.args.a) (sym same) c.in-Ok.ensures.ok; second = second }) c.boot_second.ensures.a c.boot_second.ensures.b

pub returns-in-Ok-clause-second : goal.returns-in-Ok-clause-second
returns-in-Ok-clause-second g c =
    IfErr-both _ _ _ c.boot_second.result (λ f ends refused side. record { ended = record { machine = c.in-Ok.a; booted = c.in-Ok.ensures.ok; ends = ends }; refused = refused })
    c.boot_second.ensures.ended c.boot_second.ensures.refused
