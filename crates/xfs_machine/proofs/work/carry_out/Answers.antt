use Rattle.std.proofs.lemmas.Result.{on_err_weaker, on_ok_weaker}
use Rattle.xfs_dispenser.proofs.StepLaws.{Keeps-fewer}
use Rattle.xfs_guard.proofs.KeepsLaws.{Keeps-same, Proceeds-same}
use Rattle.xfs_guard.specs.Keeps.{NoEntry}
use Rattle.xfs_machine.specs.Parts.{at_work}
use Rattle.xfs_machine.proofs.work.carry_out.Goals as goal

pub begin_first-requires-clause-none : goal.begin_first-requires-clause-none
begin_first-requires-clause-none g c = (rw (c.in-Begin.is) at c.requires.can).none

pub returns-in-Order-clause-does : goal.returns-in-Order-clause-does
returns-in-Order-clause-does g c = on_ok_weaker c.work_on_plan.result (λ h s. rw (c.in-Order.is) (h (at_work g.D.Disk s c.args.now c.args.dispenser.now c.args.devices.now c.args.traffic.now))) c.work_on_plan.ensures.works

pub returns-in-GoOn-clause-does : goal.returns-in-GoOn-clause-does
returns-in-GoOn-clause-does g c = on_ok_weaker c.work_on_plan-in-GoOn.result (λ h s. rw (c.in-GoOn.is) (h (at_work g.D.Disk s c.args.now c.args.dispenser.now c.args.devices.now c.args.traffic.now))) c.work_on_plan-in-GoOn.ensures.works

pub returns-in-Expire-clause-does : goal.returns-in-Expire-clause-does
returns-in-Expire-clause-does g c = on_ok_weaker c.expire.result (λ h s. rw (c.in-Expire.is) (h (at_work g.D.Disk s c.args.now c.args.dispenser.now c.args.devices.now c.args.traffic.now))) c.expire.ensures.ends

pub returns-in-Answer-clause-does : goal.returns-in-Answer-clause-does
returns-in-Answer-clause-does g c = on_ok_weaker c.answer_first.result (λ h s. rw (c.in-Answer.is) (h (at_work g.D.Disk s c.args.now c.args.dispenser.now c.args.devices.now c.args.traffic.now))) c.answer_first.ensures.answers

pub returns-in-Answer-clause-proceeds : goal.returns-in-Answer-clause-proceeds
returns-in-Answer-clause-proceeds g c = Proceeds-same g.D.Disk _ g.met.D.Disk.only_now

pub returns-in-Answer-clause-keeps : goal.returns-in-Answer-clause-keeps
returns-in-Answer-clause-keeps g c = λ upheld. on_ok_weaker c.answer_first.result (λ _. rw (c.in-Answer.is) (Keeps-fewer g.D.Disk NoEntry _ _ _ (λ e may. may) (Keeps-same g.D.Disk _ g.met.D.Disk.only_now upheld))) c.answer_first.ensures.answers

pub returns-in-Answer-clause-still : goal.returns-in-Answer-clause-still
returns-in-Answer-clause-still g c = λ upheld. on_err_weaker c.answer_first.result (λ _. Keeps-same g.D.Disk _ g.met.D.Disk.only_now upheld) c.answer_first.ensures.memory

pub returns-in-Nonce-clause-does : goal.returns-in-Nonce-clause-does
returns-in-Nonce-clause-does g c = on_ok_weaker c.take_first.result (λ h s. rw (c.in-Nonce.is) (h (at_work g.D.Disk s c.args.now c.args.dispenser.now c.args.devices.now c.args.traffic.now))) c.take_first.ensures.takes

pub returns-in-Overdue-clause-does : goal.returns-in-Overdue-clause-does
returns-in-Overdue-clause-does g c = λ s. rw (c.in-Overdue.is) (c.time_out.ensures (at_work g.D.Disk s c.args.now c.args.dispenser.now c.args.devices.now c.args.traffic.now))

pub returns-in-Overdue-clause-proceeds : goal.returns-in-Overdue-clause-proceeds
returns-in-Overdue-clause-proceeds g c = Proceeds-same g.D.Disk _ g.met.D.Disk.only_now

pub returns-in-Overdue-clause-keeps : goal.returns-in-Overdue-clause-keeps
returns-in-Overdue-clause-keeps g c = λ upheld. rw (c.in-Overdue.is) (Keeps-fewer g.D.Disk NoEntry _ _ _ (λ e may. may) (Keeps-same g.D.Disk _ g.met.D.Disk.only_now upheld))

pub returns-in-Stop-clause-does : goal.returns-in-Stop-clause-does
returns-in-Stop-clause-does g c = on_ok_weaker c.stop_running.result (λ h s. rw (c.in-Stop.is) (h (at_work g.D.Disk s c.args.now c.args.dispenser.now c.args.devices.now c.args.traffic.now))) c.stop_running.ensures.stops

pub returns-in-Stop-clause-proceeds : goal.returns-in-Stop-clause-proceeds
returns-in-Stop-clause-proceeds g c = Proceeds-same g.D.Disk _ g.met.D.Disk.only_now

pub returns-in-Stop-clause-keeps : goal.returns-in-Stop-clause-keeps
returns-in-Stop-clause-keeps g c = λ upheld. on_ok_weaker c.stop_running.result (λ _. rw (c.in-Stop.is) (Keeps-fewer g.D.Disk NoEntry _ _ _ (λ e may. may) (Keeps-same g.D.Disk _ g.met.D.Disk.only_now upheld))) c.stop_running.ensures.stops

pub returns-in-Stop-clause-still : goal.returns-in-Stop-clause-still
returns-in-Stop-clause-still g c = λ upheld. on_err_weaker c.stop_running.result (λ _. Keeps-same g.D.Disk _ g.met.D.Disk.only_now upheld) c.stop_running.ensures.memory

pub returns-in-Begin-clause-does : goal.returns-in-Begin-clause-does
returns-in-Begin-clause-does g c = on_ok_weaker c.begin_first.result (λ h s. rw (c.in-Begin.is) (h (at_work g.D.Disk s c.args.now c.args.dispenser.now c.args.devices.now c.args.traffic.now))) c.begin_first.ensures.begins

pub returns-in-Rest-clause-proceeds : goal.returns-in-Rest-clause-proceeds
returns-in-Rest-clause-proceeds g c = Proceeds-same g.D.Disk _ g.met.D.Disk.only_now

pub returns-in-Rest-clause-keeps : goal.returns-in-Rest-clause-keeps
returns-in-Rest-clause-keeps g c = λ upheld. rw (c.in-Rest.is) (Keeps-fewer g.D.Disk NoEntry _ _ _ (λ e may. may) (Keeps-same g.D.Disk _ g.met.D.Disk.only_now upheld))
