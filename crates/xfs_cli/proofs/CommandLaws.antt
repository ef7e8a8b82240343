-- What the run of a command says of the words that name it, and what is said where words name none.
use Rattle.std.proofs.Common.{◌≡◌, ◌≢◌, ℕ, List, arith, inl, inr, subst, sym}
use Rattle.std.specs.Prelude.{String}
use Rattle.std.specs.declared.alloc.Global.{Global}
use Rattle.xfs_disk.specs.declared.disk.Disk.{Ghosts as Disks}
use Rattle.xfs_mech.specs.declared.mechanism.Mechanism.{Ghosts as Mechanisms}
use Rattle.xfs_guard.specs.declared.bench.Bench.{Bench}
use Rattle.xfs_script.specs.Streams.{Output, Streams}
use Rattle.xfs_server.specs.Doors.{DoorLog}
use Rattle.xfs_server.specs.Links.{LinkLog}
use Rattle.xfs_words.specs.Words.{Names, texts}
use Rattle.xfs_words.specs.declared.command.Command.{Command}
use Rattle.xfs_words.specs.declared.command.Command.TheVariants.{Guard, Token, Replay, Load, Serve, Client, Host, Audit, Fleet}
use Rattle.xfs_words.proofs.WordsLaws.{one_command}
use Rattle.xfs_lines.specs.Output.Statuses.{IsCaused, IsStatusOf}
use Rattle.xfs_lines.specs.Output.Usages.{TellsUsage}
use Rattle.xfs_lines.specs.Returns.{ComesBack, second_back}
use Rattle.xfs_lines.specs.Run.{IsClient, IsCommand, IsFleet, IsUnread}
use Rattle.xfs_lines.specs.declared.ended.Ended.{Ended}
use Rattle.xfs_cli.specs.ClientRuns.{IsUndialled, RunsClientOf}
use Rattle.xfs_cli.specs.CommandRuns.{HasCauses, HasStatus, LeavesSecond, ReadsNothing, AtDoors, RunsDoorless}
use Rattle.xfs_cli.specs.ServeRuns.{RunsServeOf}

-- the run that these words have is that of the command which they name
pub doorless-run : {M D P Q L : Type 0} (m : Mechanisms M) (d : Disks D) (bench : Bench M D P Q) (ended : Ended M D L) (io : Streams) (words : List (String Global)) (command other : Command)
    → Names command (texts words) → RunsDoorless command m d bench ended io → Names other (texts words) → RunsDoorless other m d bench ended io
doorless-run m d bench ended io words command other names runs is = subst (λ c. RunsDoorless c m d bench ended io) (sym (one_command command other (texts words) names is)) runs

doors-run : {M D P Q L : Type 0} (m : Mechanisms M) (d : Disks D) (log : L → LinkLog) (bench : Bench M D P Q) (ended : Ended M D L) (before now : DoorLog) (o : Output) (words : List (String Global)) (command other : Command)
    → Names command (texts words) → AtDoors command m d log bench ended before now o → Names other (texts words) → AtDoors other m d log bench ended before now o
doors-run m d log bench ended before now o words command other names runs is =
    subst (λ c. AtDoors c m d log bench ended before now o) (sym (one_command command other (texts words) names is)) runs

module _ {M D P Q L : Type 0} (m : Mechanisms M) (d : Disks D) (log : L → LinkLog) (bench : Bench M D P Q) (ended : Ended M D L) (before now : DoorLog) (o : Output) (words : List (String Global)) where
  pub serve-run : (command : Command) → Names command (texts words) → AtDoors command m d log bench ended before now o → RunsServeOf words m d bench.core ended before now o
  serve-run command names runs = λ connections is. (doors-run m d log bench ended before now o words command (Serve connections) names runs is).0

  pub client-run : (command : Command) → Names command (texts words) → AtDoors command m d log bench ended before now o → RunsClientOf words log bench.core ended before now o
  client-run command names runs = λ currency amount is. doors-run m d log bench ended before now o words command (Client currency amount) names runs is

  -- words that aren't those of `client` dial nobody
  pub undialled-run : (command : Command) → Names command (texts words) → AtDoors command m d log bench ended before now o → ¬ (IsClient words) → IsUndialled ended.link before now
  undialled-run Guard names runs other = runs
  undialled-run Token names runs other = runs
  undialled-run Replay names runs other = runs
  undialled-run (Load rounds) names runs other = runs
  undialled-run (Serve connections) names runs other = runs.1
  undialled-run (Client currency amount) names runs other = absurd (other (currency, amount, names))
  undialled-run Host names runs other = runs
  undialled-run Audit names runs other = runs
  undialled-run Fleet names runs other = runs

-- words of a command that reads nothing read nothing
pub unread-run : {S : Type 0} (before after : S) (words : List (String Global)) (command : Command) → Names command (texts words) → (ReadsNothing command → after ≡ before) → IsUnread words → after ≡ before
unread-run before after words command names unread is = elim is [
  | inl load ↦ unread (reads (Load load.0) load.1 tt)
  | inr doors ↦ elim doors [
    | inl serve ↦ unread (reads (Serve serve.0) serve.1 tt)
    | inr client ↦ unread (reads (Client client.0 client.1) client.2 tt)
  ]
]
  where
    reads : (other : Command) → Names other (texts words) → ReadsNothing other → ReadsNothing command
    reads other is_other nothing = subst ReadsNothing (one_command command other (texts words) names is_other) nothing

pub status-run : (words : List (String Global)) (command : Command) (status : ℕ) → Names command (texts words) → HasStatus command status → IsStatusOf words status
status-run words Guard status names has = λ serve client. has
status-run words Token status names has = λ serve client. has
status-run words Replay status names has = λ serve client. has
status-run words (Load rounds) status names has = λ serve client. has
status-run words (Serve connections) status names has = λ serve client. absurd (serve (connections, names))
status-run words (Client currency amount) status names has = λ serve client. absurd (client (currency, amount, names))
status-run words Host status names has = λ serve client. has
status-run words Audit status names has = λ serve client. has
status-run words Fleet status names has = λ serve client. has

pub causes-run : (words : List (String Global)) (command : Command) (status : ℕ) (io : Streams) → Names command (texts words) → HasCauses command status io → ¬ (IsUnread words) → IsCaused status io
causes-run words Guard status io names has reads = has
causes-run words Token status io names has reads = has
causes-run words Replay status io names has reads = has
causes-run words (Load rounds) status io names has reads = absurd (reads (inl (rounds, names)))
causes-run words (Serve connections) status io names has reads = absurd (reads (inr (inl (connections, names))))
causes-run words (Client currency amount) status io names has reads = absurd (reads (inr (inr (currency, amount, names))))
causes-run words Host status io names has reads = has
causes-run words Audit status io names has reads = has
causes-run words Fleet status io names has reads = has

pub second-run : {M D P Q L : Type 0} (bench : Bench M D P Q) (ended : Ended M D L) (words : List (String Global)) (command : Command) → Names command (texts words)
    → LeavesSecond command bench ended → ¬ (IsFleet words) → ComesBack bench.second (second_back ended)
second-run bench ended words Guard names leaves other = leaves
second-run bench ended words Token names leaves other = leaves
second-run bench ended words Replay names leaves other = leaves
second-run bench ended words (Load rounds) names leaves other = leaves
second-run bench ended words (Serve connections) names leaves other = leaves
second-run bench ended words (Client currency amount) names leaves other = leaves
second-run bench ended words Host names leaves other = leaves
second-run bench ended words Audit names leaves other = leaves
second-run bench ended words Fleet names leaves other = absurd (other names)

-- words that name a command aren't told those that there are
pub usage-run : {S M D P Q L : Type 0} (m : Mechanisms M) (d : Disks D) (bench : Bench M D P Q) (ended : Ended M D L) (before after : S) (io : Streams) (words : List (String Global)) (command : Command)
    → Names command (texts words) → ended.status ≢ 2 → TellsUsage (IsCommand words) bench ended before after io
usage-run m d bench ended before after io words command names other = record {
  usage = (λ two. absurd (other two), λ none. absurd (none (command, names)));
  usage_written = λ two. absurd (other two);
  unread = λ two. absurd (other two);
  idle = λ two. absurd (other two);
}

-- the status of words that name no command is none of the input's
pub usage-causes : (io : Streams) → IsCaused 2 io
usage-causes io = record {
  whole = λ e. absurd (omega (arith, e));
  fewer = λ e. absurd (omega (arith, e));
  read = λ e. absurd (omega (arith, e));
  write = λ e. absurd (omega (arith, e));
  quota = λ e. absurd (omega (arith, e));
}
