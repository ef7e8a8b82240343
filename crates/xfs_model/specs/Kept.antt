-- What the machine keeps: at most 64 connections, whose client numbers rise, and in each service's queue differing ids of a client and at most one running command.
use Rattle.std.specs.Prelude.{◌<◌, ◌≤◌, All, AllPairs, length}
use Rattle.xfs_base.specs.declared.moment.Service.{Service}
use Rattle.xfs_queue.specs.Queue.{IsQueue}
use Rattle.xfs_model.specs.State.{State, queue_at}

pub record IsMachine (s : State) : Type 0 where
  pub room : length s.connections ≤ 64
  pub rising : AllPairs (λ a b. a.client.0 < b.client.0) s.connections
  -- each client has a number that was given
  pub connections : All (λ k. k.client.0 ≤ s.given) s.connections
  pub queues : (service : Service) → IsQueue (queue_at s service)
  pub commands : (service : Service) → All (λ a. a.client.0 ≤ s.given) (queue_at s service)
