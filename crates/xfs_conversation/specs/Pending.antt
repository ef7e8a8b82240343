-- A command is pending from the acknowledge that accepts it to its completion. While it is, no other command of the connection can have its id.
use Rattle.std.specs.Prelude.{ℕ, List, filter, not, ◌==◌, ◌&&◌, ◌||◌, nat_le, Bool}
use Rattle.std.specs.List.{list_any}
use Rattle.xfs_envelope.specs.Commands.{Command}

-- a pending command
pub record Pending : Type 0 where
  pub id : ℕ
  pub name : List ℕ

abbrev pub pending_of : Command → Pending
pending_of c = record { id = c.id; name = c.name }

-- an id that a command may have
abbrev pub is_request_id : ℕ → Bool
is_request_id id = nat_le 1 id && nat_le id 2147483647

abbrev pub has_id : ℕ → Pending → Bool
has_id id p = p.id == id

abbrev pub is_pending : List Pending → ℕ → Bool
is_pending pending id = list_any (has_id id) pending

-- an id that a new command can't have: 0, above 2147483647, or that of a pending command
abbrev pub is_wrong_id : List Pending → ℕ → Bool
is_wrong_id pending id = not (is_request_id id) || is_pending pending id

-- the pending commands without the one that has this id
abbrev pub without_id : ℕ → List Pending → List Pending
without_id id pending = filter (λ p. not (has_id id p)) pending
