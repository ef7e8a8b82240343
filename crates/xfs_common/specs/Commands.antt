-- The commands of Common that wait, and those that are done at once, by name.
use Rattle.std.specs.Prelude.{ℕ, List, [], ◌∷◌, codes, Option}
use Rattle.std.specs.Option.{option_or}
use Rattle.std.specs.Map.{lookup}
use Rattle.std.specs.Str.{bytes_eq}
use Rattle.xfs_base.specs.declared.moment.Service.{Service}
use Rattle.xfs_base.specs.declared.moment.Service.TheVariants.{Publisher, Card, Keys, Cash}
use Rattle.xfs_common.specs.declared.command.Immediate.{Immediate}
use Rattle.xfs_common.specs.declared.command.Immediate.TheVariants.{Status, Capabilities, Cancel, GetServices, GetStorage, GetPresentStatus}
use Rattle.xfs_common.specs.declared.command.CommonCommand.{CommonCommand}
use Rattle.xfs_common.specs.declared.command.CommonCommand.TheVariants.{GetCommandNonce, ClearCommandNonce}

abbrev pub nonce_commands : List (List ℕ × CommonCommand)
nonce_commands =
    (codes "Common.GetCommandNonce", GetCommandNonce)
    ∷ (codes "Common.ClearCommandNonce", ClearCommandNonce) ∷ []

-- done at once at every service
abbrev pub immediates : List (List ℕ × Immediate)
immediates =
    (codes "Common.Status", Status)
    ∷ (codes "Common.Capabilities", Capabilities)
    ∷ (codes "Common.Cancel", Cancel) ∷ []

-- done at once at this service alone
abbrev pub own_immediates : Service → List (List ℕ × Immediate)
own_immediates Publisher = (codes "ServicePublisher.GetServices", GetServices) ∷ []
own_immediates Card = []
own_immediates Keys = []
own_immediates Cash =
    (codes "Storage.GetStorage", GetStorage)
    ∷ (codes "CashDispenser.GetPresentStatus", GetPresentStatus) ∷ []

-- the command of a name
abbrev pub nonce_command : List ℕ → Option CommonCommand
nonce_command name = lookup (bytes_eq name) nonce_commands

abbrev pub own_immediate_of : Service → List ℕ → Option Immediate
own_immediate_of service name = lookup (bytes_eq name) (own_immediates service)

-- the command of a name that is done at once at the service
abbrev pub immediate_of : Service → List ℕ → Option Immediate
immediate_of service name = option_or (lookup (bytes_eq name) immediates) (own_immediate_of service name)
