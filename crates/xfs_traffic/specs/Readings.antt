-- What reading a text as a command comes to.
use Rattle.std.specs.Prelude.{◌≡◌, ◌≢◌, ℕ, List, Result, Ok, Err}
use Rattle.xfs_envelope.specs.Commands.{command_in, said}
use Rattle.xfs_envelope.specs.declared.command.Envelope.{Envelope}
use Rattle.xfs_envelope.specs.declared.command.Refuse.{Refuse}
use Rattle.xfs_envelope.specs.declared.command.Why.TheVariants.{Memory}

-- a text reads as its command, or as its refusal, want of memory aside
abbrev pub IsOutcome : List ℕ → Result Envelope Refuse → Type 0
IsOutcome text (Ok command) = command_in text ≡ Ok (said command)
IsOutcome text (Err refuse) = refuse.why ≢ Memory → command_in text ≡ Err refuse
