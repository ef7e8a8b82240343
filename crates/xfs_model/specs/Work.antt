-- A step of a service's work is the first of these cases that applies.
use Rattle.std.specs.Prelude.{◌+◌, ◌==◌, ◌&&◌, ◌||◌, not, nat_le, Bool, true, false, if◌then◌else◌}
use Rattle.std.specs.List.{list_any}
use Rattle.xfs_base.specs.declared.moment.Service.{Service}
use Rattle.xfs_base.specs.declared.moment.Service.TheVariants.{Cash}
use Rattle.xfs_guard.specs.declared.open.Open.{Open}
use Rattle.xfs_guard.specs.declared.open.Open.TheVariants.{No, Written, Acted}
use Rattle.xfs_queue.specs.declared.command.Command.{Command}
use Rattle.xfs_queue.specs.declared.command.Line.TheVariants.{Nonce, Device}
use Rattle.xfs_queue.specs.Commands.{is_due, is_ready, is_running, waits_on}
use Rattle.xfs_model.specs.Connections.{is_service}
use Rattle.xfs_model.specs.Guards.{is_fit, is_live}
use Rattle.xfs_model.specs.State.{Job, State, queue_at}

pub data Case : Type 0 where
  -- the open order is acted, or settled
  order : Case
  -- the live nonce ends, whose life is over
  expire : Case
  -- the first command that has its result is answered
  answer : Case
  -- the first command that waits on the nonce line is done, or its deadline has come
  nonce : Case
  -- the first command that waits on the device line, and whose deadline has come, has its result
  overdue : Case
  -- the running command is canceled, or its deadline has come
  stop : Case
  -- the next part of the running plan is done
  go_on : Case
  -- the first command that waits on the device line is begun
  begin : Case
  rest : Case

abbrev pub is_ordered : Open → Bool
is_ordered No = false
is_ordered (Written kind counts) = true
is_ordered (Acted kind moved diverted failed) = true

abbrev pub has_order : State → Service → Bool
has_order s service = is_service Cash service && is_ordered s.seen.guard.open_order

-- a nonce lives whose life has an end, and the moment of its issue lies that far back; and the journal takes more records
abbrev pub is_life_over : State → Bool
is_life_over s = is_live s.seen && not (s.life == 0) && nat_le (s.issued.0 + s.life) s.now.0 && is_fit s.seen

abbrev pub has_ready : State → Service → Bool
has_ready s service = list_any (λ a. is_ready a.stage) (queue_at s service)

abbrev pub has_nonce : State → Service → Bool
has_nonce s service = list_any (waits_on Nonce) (queue_at s service)

abbrev pub is_overdue : State → Command Job → Bool
is_overdue s a = waits_on Device a && is_due s.now a

abbrev pub has_overdue : State → Service → Bool
has_overdue s service = list_any (is_overdue s) (queue_at s service)

abbrev pub is_stopped : State → Command Job → Bool
is_stopped s a = is_running a.stage && (a.marked || is_due s.now a)

abbrev pub has_stopped : State → Service → Bool
has_stopped s service = list_any (is_stopped s) (queue_at s service)

abbrev pub has_running : State → Service → Bool
has_running s service = list_any (λ a. is_running a.stage) (queue_at s service)

-- a command waits on the device line, and none runs
abbrev pub can_begin : State → Service → Bool
can_begin s service = list_any (waits_on Device) (queue_at s service) && not (has_running s service)

-- the first case that applies; a command that waits for a card or a key is none
abbrev pub case_of : State → Service → Case
case_of s service =
    if has_order s service then order
    else if is_service Cash service && is_life_over s then expire
    else if has_ready s service then answer
    else if is_service Cash service && has_nonce s service then nonce
    else if has_overdue s service then overdue
    else if has_stopped s service then stop
    else if is_service Cash service && has_running s service then go_on
    else if can_begin s service then begin
    else rest
