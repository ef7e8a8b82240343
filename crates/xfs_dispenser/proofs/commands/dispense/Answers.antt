use Rattle.std.proofs.Common.{◌∙◌, sym, rules}
use Rattle.std.proofs.lemmas.Result.{IfOk-weaker}
use Rattle.xfs_guard.proofs.KeepsLaws.{Keeps-same, Proceeds-same}
use Rattle.xfs_dispenser.proofs.CommandLaws.{dispense-active, dispense-invalid, dispense-refused}
use Rattle.xfs_dispenser.proofs.commands.dispense.Goals as goal

pub returns-in-Some-clause-dispensed : goal.returns-in-Some-clause-dispensed
returns-in-Some-clause-dispensed g c = IfOk-weaker c.tell_refusal.result _ _ (λ b told. dispense-invalid _ c.args.exchange c.args.notes.now c.args.token.now c.in-Some.refusal _ (sym c.members_refusal.ensures ∙ c.in-Some.is) told) c.tell_refusal.ensures.told

pub returns-in-Some-clause-leaves : goal.returns-in-Some-clause-leaves
returns-in-Some-clause-leaves g c = record { proceeds = Proceeds-same g.D.Disk _ g.met.D.Disk.only_now; none = search rules }

pub returns-in-Some-clause-keeps : goal.returns-in-Some-clause-keeps
returns-in-Some-clause-keeps g c = λ upheld. Keeps-same g.D.Disk _ g.met.D.Disk.only_now upheld

pub returns-in-Some-active_refusal-clause-dispensed : goal.returns-in-Some-active_refusal-clause-dispensed
returns-in-Some-active_refusal-clause-dispensed g c = IfOk-weaker c.tell_refusal-in-Some-active_refusal.result _ _
    (λ b told. dispense-active _ c.args.exchange c.args.notes.now c.args.token.now c.in-Some-active_refusal.refusal _ (sym c.members_refusal.ensures ∙ c.in_default.is) (sym c.active_refusal.ensures ∙ c.in-Some-active_refusal.is) told) c.tell_refusal-in-Some-active_refusal.ensures.told

pub returns-in-Some-active_refusal-clause-leaves : goal.returns-in-Some-active_refusal-clause-leaves
returns-in-Some-active_refusal-clause-leaves g c = record { proceeds = Proceeds-same g.D.Disk _ g.met.D.Disk.only_now; none = search rules }

pub returns-in-Some-active_refusal-clause-keeps : goal.returns-in-Some-active_refusal-clause-keeps
returns-in-Some-active_refusal-clause-keeps g c = λ upheld. Keeps-same g.D.Disk _ g.met.D.Disk.only_now upheld

pub returns-in-Err-clause-dispensed : goal.returns-in-Err-clause-dispensed
returns-in-Err-clause-dispensed g c = IfOk-weaker c.tell_refusal-in-Err.result _ _
    (λ b told. dispense-refused _ c.args.exchange c.args.notes.now c.args.token.now _ _ c.in-Err.refusal _ (sym c.members_refusal.ensures ∙ c.in_default.is) (sym c.active_refusal.ensures ∙ c.in_default-active_refusal.is) c.token_text.ensures c.in-Err.ensures.grant told) c.tell_refusal-in-Err.ensures.told
