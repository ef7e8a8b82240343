-- A frame is sent to connections, and is taken back: each that had it is without the last frame that waits.
use Rattle.std.specs.Prelude.{◌-◌, ℕ, List, [], ◌∷◌, length, map, take, if◌then◌else◌}
use Rattle.xfs_base.specs.declared.moment.ClientId.{ClientId}
use Rattle.xfs_base.specs.declared.moment.Service.{Service}
use Rattle.xfs_model.specs.Connections.{is_at, is_service, with_mail}
use Rattle.xfs_model.specs.State.{Connection}

-- a frame for the connection of a client at a service
abbrev pub mailed_one : Service → ClientId → List ℕ → List Connection → List Connection
mailed_one service client frame ks = map (λ k. with_mail (is_at service client k) (frame ∷ []) k) ks

-- a frame for every connection of a service
abbrev pub mailed_all : Service → List ℕ → List Connection → List Connection
mailed_all service frame ks = map (λ k. with_mail (is_service service k.service) (frame ∷ []) k) ks

-- the frames that wait, but for the last
abbrev pub all_but_last : List (List ℕ) → List (List ℕ)
all_but_last frames = take (length frames - 1) frames

-- a connection without the last frame that waits, where it is one of the service
abbrev pub taken_back : Service → Connection → Connection
taken_back service k = if is_service service k.service then record k { waiting = all_but_last k.waiting } else k
