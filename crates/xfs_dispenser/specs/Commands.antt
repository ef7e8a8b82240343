-- The commands of the cash dispenser that wait for it, by name.
use Rattle.std.specs.Prelude.{ℕ, List, [], ◌∷◌, codes, Option}
use Rattle.std.specs.Map.{lookup}
use Rattle.std.specs.Str.{bytes_eq}
use Rattle.xfs_dispenser.specs.declared.command.CashCommand.{CashCommand}
use Rattle.xfs_dispenser.specs.declared.command.CashCommand.TheVariants.{Denominate, Dispense, Present, Reject, Reset, Retract, StartExchange, SetStorage, EndExchange}

abbrev pub cash_commands : List (List ℕ × CashCommand)
cash_commands =
    (codes "CashDispenser.Denominate", Denominate)
    ∷ (codes "CashDispenser.Dispense", Dispense)
    ∷ (codes "CashDispenser.Present", Present)
    ∷ (codes "CashDispenser.Reject", Reject)
    ∷ (codes "CashManagement.Reset", Reset)
    ∷ (codes "CashManagement.Retract", Retract)
    ∷ (codes "Storage.StartExchange", StartExchange)
    ∷ (codes "Storage.SetStorage", SetStorage)
    ∷ (codes "Storage.EndExchange", EndExchange) ∷ []

-- the command of a name
abbrev pub cash_command : List ℕ → Option CashCommand
cash_command name = lookup (bytes_eq name) cash_commands
