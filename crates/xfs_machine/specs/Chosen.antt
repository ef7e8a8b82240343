-- Which case of the work applies, as code chooses it.
use Rattle.std.specs.Prelude.{◌&&◌, ◌||◌, not, Bool, List, if◌then◌else◌}
use Rattle.std.specs.List.{list_any}
use Rattle.xfs_base.specs.declared.moment.Moment.{Moment}
use Rattle.xfs_queue.specs.declared.command.Command.{Command}
use Rattle.xfs_queue.specs.declared.command.Line.TheVariants.{Device}
use Rattle.xfs_queue.specs.Commands.{is_due, is_running, waits_on}
use Rattle.xfs_model.specs.State.{Job}
use Rattle.xfs_model.specs.Work.{Case, order, expire, answer, nonce, overdue, stop, go_on, begin, rest}
use Rattle.xfs_machine.specs.declared.cases.Case.{Case as Chosen}
use Rattle.xfs_machine.specs.declared.cases.Case.TheVariants as chosen

abbrev pub case_seen : Chosen → Case
case_seen chosen.Order = order
case_seen chosen.Expire = expire
case_seen chosen.Answer = answer
case_seen chosen.Nonce = nonce
case_seen chosen.Overdue = overdue
case_seen chosen.Stop = stop
case_seen chosen.GoOn = go_on
case_seen chosen.Begin = begin
case_seen chosen.Rest = rest

-- the last five cases, which look at the device line alone
abbrev pub device_case : List (Command Job) → Bool → Moment → Case
device_case q is_cash now =
    if list_any (λ a. waits_on Device a && is_due now a) q then overdue
    else if list_any (λ a. is_running a.stage && (a.marked || is_due now a)) q then stop
    else if is_cash && list_any (λ a. is_running a.stage) q then go_on
    else if list_any (waits_on Device) q && not (list_any (λ a. is_running a.stage) q) then begin
    else rest
