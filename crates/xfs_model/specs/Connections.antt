-- The open connections, and the frames that wait for their clients.
use Rattle.std.specs.Prelude.{ℕ, ◌==◌, ◌&&◌, not, List, [], ◌∷◌, ◌++◌, map, filter, find, Bool, Option, Some, None, if◌then◌else◌}
use Rattle.xfs_base.specs.declared.moment.ClientId.{ClientId}
use Rattle.xfs_base.specs.declared.moment.Service.{Service}
use Rattle.xfs_base.specs.declared.moment.Service.TheVariants.{Publisher, Card, Keys, Cash}
use Rattle.xfs_queue.specs.declared.command.Command.{Command}
use Rattle.xfs_queue.specs.Queue.{without_client}
use Rattle.xfs_model.specs.State.{Pass, Connection, Job, State, queue_at, with_queue}

abbrev pub number : Service → ℕ
number Publisher = 0
number Card = 1
number Keys = 2
number Cash = 3

abbrev pub is_service : Service → Service → Bool
is_service a b = number b == number a

abbrev pub is_client : ClientId → Connection → Bool
is_client client k = k.client.0 == client.0

abbrev pub is_at : Service → ClientId → Connection → Bool
is_at service client k = is_service service k.service && is_client client k

abbrev pub connection_at : State → ClientId → Option Connection
connection_at s client = find (is_client client) s.connections

-- the open connection of a pass; a pass of another boot has none
abbrev pub connection_of : State → Pass → Option Connection
connection_of s pass = if s.boot == pass.boot then connection_at s pass.client else None

-- the connection, with these frames behind those that wait, where it is to get them
abbrev pub with_mail : Bool → List (List ℕ) → Connection → Connection
with_mail gets frames k = if gets then record k { waiting = k.waiting ++ frames } else k

abbrev pub without_mail : ClientId → Connection → Connection
without_mail client k = if is_client client k then record k { waiting = [] } else k

abbrev pub with_queue_at : State → Service → List (Command Job) → State
with_queue_at s service q = record s { queues = with_queue s.queues service q }

-- frames for one connection; for one that has left they are dropped
abbrev pub sent : State → Service → ClientId → List (List ℕ) → State
sent s service client frames = record s { connections = map (λ k. with_mail (is_at service client k) frames k) s.connections }

-- a frame for every connection of a service
abbrev pub announced : State → Service → Option (List ℕ) → State
announced s service None = s
announced s service (Some frame) = record s { connections = map (λ k. with_mail (is_service service k.service) (frame ∷ []) k) s.connections }

-- the connection is gone with its commands, but for its running one, which is marked
abbrev pub left : State → Connection → State
left s k = record (with_queue_at s k.service (without_client (queue_at s k.service) k.client)) { connections = filter (λ j. not (is_client k.client j)) s.connections }
