use Rattle.std.proofs.Common.{rules, ◌≡◌, ◌∙◌}
use Rattle.xfs_guard.specs.Replayed.{replayed}
use Rattle.xfs_guard.proofs.ReplayLaws.{renumbered-none}
use Rattle.xfs_simulated.proofs.leaving.places_left.Goals as goal

pub returns-clause-left : goal.returns-clause-left
returns-clause-left c =
    let same : c.in_ok-motions.motions.items ≡ replayed c.args.records.now = c.in_ok-motions.ensures.replayed ∙ renumbered-none (replayed c.args.records.now) in
    search rules

pub returns-clause-none : goal.returns-clause-none
returns-clause-none c =
    let same : c.in_ok-motions.motions.items ≡ replayed c.args.records.now = c.in_ok-motions.ensures.replayed ∙ renumbered-none (replayed c.args.records.now) in
    search rules
