use Rattle.std.proofs.Common.{refl}
use Rattle.std.proofs.lemmas.Result.{on_ok_weaker}
use Rattle.xfs_audit.proofs.Adding.{without-place, without-none}
use Rattle.xfs_audit.proofs.way.Way.add_without.Goals as goal

pub returns-in-Some : goal.returns-in-Some
returns-in-Some c = on_ok_weaker c.add.result (without-place c.args.asked.now c.args.self record { stays = c.args.self.stays; due = c.remove.new.self } c.in-Some.place c.args.ways.now.items c.add.new.ways.items c.in-Some.ensures refl c.remove.ensures.items) c.add.ensures

pub returns-in-None : goal.returns-in-None
returns-in-None c = without-none c.args.asked.now c.args.self c.args.ways.now.items c.in-None.ensures
