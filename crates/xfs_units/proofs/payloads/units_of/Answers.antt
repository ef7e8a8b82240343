use Rattle.std.proofs.Common.{◌-◌, arith, ◌∙◌, ap}
use Rattle.serde_json.specs.Data.{put}
use Rattle.serde_json.specs.View.{view, members_view}
use Rattle.xfs_units.proofs.UnitLaws.{units-step}
use Rattle.xfs_units.proofs.payloads.units_of.Goals as goal

pub loop-i-preserved : goal.loop-i-preserved
loop-i-preserved c = record {
  within = omega arith;
  there = units-step c.args.kinds.now (c.loop-i.i - 1) c.loop-i.i c.args.counts.now c.index-kinds-i.result (view c.in_ok-unit.unit) (members_view c.loop-i.members.entries) (members_view c.put.new.map.entries)
      (omega arith) c.loop-i.invariant.within c.index-kinds-i.is c.in_ok-unit.ensures c.loop-i.invariant.there
      (c.in_ok-put.ensures.ok ∙ ap (λ name. put name (view c.in_ok-unit.unit) (members_view c.loop-i.members.entries)) c.name_of.ensures);
}
