-- The words that a run of the program takes: those of the table of commands.
use Rattle.std.specs.Prelude.{◌⊎◌, ℕ, List, String}
use Rattle.std.specs.declared.alloc.Global.{Global}
use Rattle.xfs_words.specs.Words.{Names, texts}
use Rattle.xfs_words.specs.declared.command.Command.{Command}
use Rattle.xfs_words.specs.declared.command.Command.TheVariants.{Guard, Token, Replay, Load, Serve, Client, Host, Audit, Fleet}

abbrev pub IsGuard : List (String Global) → Type 0
IsGuard words = Names Guard (texts words)

abbrev pub IsToken : List (String Global) → Type 0
IsToken words = Names Token (texts words)

abbrev pub IsReplay : List (String Global) → Type 0
IsReplay words = Names Replay (texts words)

-- the words are `load` and so many rounds
abbrev pub IsLoadOf : ℕ → List (String Global) → Type 0
IsLoadOf rounds words = Names (Load rounds) (texts words)

abbrev pub IsLoad : List (String Global) → Type 0
IsLoad words = (rounds : ℕ) × IsLoadOf rounds words

-- the words are `serve` and so many connections
abbrev pub IsServeOf : ℕ → List (String Global) → Type 0
IsServeOf connections words = Names (Serve connections) (texts words)

abbrev pub IsServe : List (String Global) → Type 0
IsServe words = (connections : ℕ) × IsServeOf connections words

-- the words are `client`, a currency and an amount
abbrev pub IsClientOf : List ℕ → ℕ → List (String Global) → Type 0
IsClientOf currency amount words = Names (Client currency amount) (texts words)

abbrev pub IsClient : List (String Global) → Type 0
IsClient words = (currency : List ℕ) × (amount : ℕ) × IsClientOf currency amount words

abbrev pub IsHost : List (String Global) → Type 0
IsHost words = Names Host (texts words)

abbrev pub IsAudit : List (String Global) → Type 0
IsAudit words = Names Audit (texts words)

abbrev pub IsFleet : List (String Global) → Type 0
IsFleet words = Names Fleet (texts words)

-- the words name a command
abbrev pub IsCommand : List (String Global) → Type 0
IsCommand words = (command : Command) × Names command (texts words)

-- a command that reads no input
abbrev pub IsUnread : List (String Global) → Type 0
IsUnread words = IsLoad words ⊎ (IsServe words ⊎ IsClient words)
