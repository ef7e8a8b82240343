-- The results of commands, and where they stand in a queue.
use Rattle.std.specs.Prelude.{List, map, Bool, Some, None, if◌then◌else◌}
use Rattle.serde_json.specs.Data.{Data}
use Rattle.xfs_common.specs.Errors.{error_text}
use Rattle.xfs_common.specs.Payloads.{nothing, error_payload}
use Rattle.xfs_common.specs.declared.error.ErrorCode.{ErrorCode}
use Rattle.xfs_envelope.specs.declared.code.Code.{Code}
use Rattle.xfs_envelope.specs.declared.code.Code.TheVariants.{Success, CommandErrorCode}
use Rattle.xfs_queue.specs.declared.command.Command.{Command}
use Rattle.xfs_queue.specs.declared.command.Stage.TheVariants.{Running, Ready}
use Rattle.xfs_queue.specs.Commands.{ticket_of, is_at}
use Rattle.xfs_dispenser.specs.declared.plan.Plan.{Plan}
use Rattle.xfs_model.specs.State.{reset, Outcome, Job}

-- a code and a payload, and no nonce ended
abbrev pub outcome : Code → Data → Outcome
outcome code payload = record { code = code; payload = payload; ending = None }

abbrev pub plain : Code → Outcome
plain code = outcome code nothing

abbrev pub success : Data → Outcome
success payload = outcome Success payload

abbrev pub error : ErrorCode → Outcome
error fault = outcome CommandErrorCode (error_payload (error_text fault))

-- a command's result, and where its restore ended a live nonce, that is announced with it
abbrev pub closing : Job → Outcome → Outcome
closing job result = record result { ending = if job.ended_nonce then Some reset else result.ending }

-- the command with its result
abbrev pub with_result : Outcome → Command Job → Command Job
with_result result a = record a { stage = Ready; job = record a.job { outcome = Some (closing a.job result) } }

-- the command begun
abbrev pub running : Command Job → Command Job
running a = record a { stage = Running }

-- the command running, with what is left of its plan, and whether its restore ended a live nonce
abbrev pub with_plan : Plan → Bool → Command Job → Command Job
with_plan plan ended a = record a { stage = Running; job = record a.job { plan = Some plan; ended_nonce = ended } }

-- a change of the one command in its queue
abbrev pub changed : (Command Job → Command Job) → Command Job → List (Command Job) → List (Command Job)
changed f a q = map (λ b. if is_at (ticket_of a) b then f b else b) q
