use Rattle.std.proofs.Common.{◌∙◌, ◌⊎◌, ◌↔◌, List, sym, subst}
use Rattle.std.proofs.lemmas.List.{nil_from_length}
use Rattle.xfs_audit.specs.declared.way.Way.{Way}
use Rattle.xfs_audit.specs.Ways.{IsSplit, LeadsToSplit}
use Rattle.xfs_audit.proofs.Stepping.{step-more, step-none}
use Rattle.xfs_audit.proofs.rest.Rest.step.Goals as goal

pub loop-way-preserved : goal.loop-way-preserved
loop-way-preserved c = record {
  left = c.loop-way.invariant.left;
  ways = λ pending. step-more c.args.ids.now c.args.step.now c.in-Some.way c.pop.new.self.items c.loop-way.before.items c.back.new.ways.items (LeadsToSplit c.args.ids.now c.args.step.now c.args.self.now.ways.items pending) pending
      c.in_ok-back.ensures
      (subst (λ (l : List Way). (IsSplit c.args.ids.now c.loop-way.before.items pending ⊎ LeadsToSplit c.args.ids.now c.args.step.now l pending) ↔ LeadsToSplit c.args.ids.now c.args.step.now c.args.self.now.ways.items pending)
      c.in-Some.ensures.items (c.loop-way.invariant.ways pending));
}

pub returns-clause-ways : goal.returns-clause-ways
returns-clause-ways c = λ pending. step-none c.args.ids.now c.args.step.now c.loop-way.before.items (LeadsToSplit c.args.ids.now c.args.step.now c.args.self.now.ways.items pending) pending
    (subst (λ (l : List Way). (IsSplit c.args.ids.now c.loop-way.before.items pending ⊎ LeadsToSplit c.args.ids.now c.args.step.now l pending) ↔ LeadsToSplit c.args.ids.now c.args.step.now c.args.self.now.ways.items pending)
    (nil_from_length c.loop-way.self.ways.items (sym c.loop-way.self.ways.ok.0 ∙ c.in_default.ensures.cases.0)) (c.loop-way.invariant.ways pending))
