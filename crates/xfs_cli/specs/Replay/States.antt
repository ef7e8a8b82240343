-- What the lines of `replay` are answered from: a machine, and what the script keeps beside it.
use Rattle.std.specs.Prelude.{ℕ, ◌==◌, nat_lt, List, [], find, is_some, Bool, None}
use Rattle.std.specs.List.{insert, remove, position_or_len}
use Rattle.std.specs.declared.option.Option.{Option}
use Rattle.std.specs.Option.{option_map}
use Rattle.xfs_base.specs.declared.moment.Moment.{Moment}
use Rattle.xfs_disk.specs.declared.disk.Disk.{Ghosts as Disks}
use Rattle.xfs_mech.specs.declared.mechanism.Mechanism.{Ghosts as Mechanisms}
use Rattle.xfs_model.specs.State.{Pass, State}
use Rattle.xfs_lines.specs.Guard.States.{GuardState}
use Rattle.xfs_cli.specs.declared.commands.replay.clients.Client.{Client}
use Rattle.xfs_cli.specs.declared.commands.replay.player.Player.{Player}

-- the machine; the clients that are joined, their numbers rising; the moment of the calls to come; and the token that was minted last
pub record Played : Type 0 where
  pub machine : State
  pub clients : List Client
  pub now : Moment
  pub last : Option (List ℕ)

-- the state of what answers the lines of `replay`
abbrev pub played : {M D : Type 0} {m : Mechanisms M} {d : Disks D} → Player M D m d → Played
played p = record { machine = p.machine.state; clients = p.clients; now = p.now; last = p.last }

-- a machine at which no client is joined, at the moment 0, and no token that was minted
abbrev pub begun : State → Played
begun machine = record { machine = machine; clients = []; now = record { 0 = 0 }; last = None }

-- what a run of `guard` would see of such a state: the guard, how often its disk failed, and the last token
abbrev pub guard_state_of : Played → GuardState
guard_state_of s = record { guard = s.machine.seen.guard; disk_faults = s.machine.seen.disk_faults; last = s.last }

abbrev pub is_number : ℕ → Client → Bool
is_number number client = client.number == number

abbrev pub is_above : ℕ → Client → Bool
is_above number client = nat_lt number client.number

-- the pass of a number, where it is joined
abbrev pub pass_of : List Client → ℕ → Option Pass
pass_of clients number = option_map (λ c. c.pass) (find (is_number number) clients)

abbrev pub is_joined : List Client → ℕ → Bool
is_joined clients number = is_some (pass_of clients number)

-- the clients with one more, before the first of a higher number
abbrev pub with_client : List Client → Client → List Client
with_client clients client = insert clients (position_or_len (is_above client.number) clients) client

-- the clients without the one of a number
abbrev pub without_client : List Client → ℕ → List Client
without_client clients number = remove clients (position_or_len (is_number number) clients)
