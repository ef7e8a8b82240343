use Rattle.std.proofs.Common.{◌≡◌, ◌++◌, ◌∙◌, List, IfOk, ap, take, arith}
use Rattle.std.proofs.lemmas.List.{take_all}
use Rattle.std.proofs.lemmas.Result.{IfOk-weaker}
use Rattle.xfs_journal.specs.declared.record.Rec.{Rec}
use Rattle.xfs_guard.specs.Replayed.{Replay, renumbered, replay, replayed, taken_of}
use Rattle.xfs_guard.proofs.ReplayLaws.{agrees-replayed, behind, ends-behind, CanReplay-agreed}
use Rattle.xfs_guard.proofs.replayed.motions_of.Goals.{After-end}
use Rattle.xfs_guard.proofs.replayed.motions_of.Goals as goal

-- all records were read
ended : (c : After-end) → IfOk c.end.result (λ list. list.items ≡ renumbered c.args.base (replayed c.args.records.now))
ended c =
    let all : take c.loop-entry.entry-index c.args.records.now ≡ c.args.records.now = take_all c.loop-entry.entry-index c.args.records.now (omega (arith, c.loop-entry-test.false)) in
    let read : c.loop-entry.replay ≡ behind c.args.base (replay c.args.records.now) = c.loop-entry.invariant.read ∙ ap (λ (l : List Rec). behind c.args.base (replay l)) all in
    let whole : c.loop-entry.replay.motions ++ taken_of c.loop-entry.replay.outlet ≡ renumbered c.args.base (replayed c.args.records.now) =
    ap (λ (r : Replay). r.motions ++ taken_of r.outlet) read ∙ ends-behind c.args.base (replay c.args.records.now) in
    IfOk-weaker c.end.result _ _ (λ list items. items ∙ whole) c.end.ensures.ok

pub returns-clause-replayed : goal.returns-clause-replayed
returns-clause-replayed c = ended c

pub returns-clause-agrees : goal.returns-clause-agrees
returns-clause-agrees c =
    IfOk-weaker c.end.result _ _ (λ list is can. record { motions = replayed c.args.records.now; agrees = agrees-replayed c.args.records.now can; counted = is }) (ended c)

pub returns-clause-possible : goal.returns-clause-possible
returns-clause-possible c =
    IfOk-weaker c.end.result _ _
    (λ list is motions agrees. record { motions = replayed c.args.records.now; agrees = agrees-replayed c.args.records.now (CanReplay-agreed c.args.records.now motions agrees); counted = is })
    (ended c)
