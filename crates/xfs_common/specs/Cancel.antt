-- The commands that a Cancel names: all of its connection, or those of a list of request ids.
use Rattle.std.specs.Prelude.{ℕ, List, [], ◌∷◌, codes, Option, Some, None, option_map, option_and_then, Result}
use Rattle.serde_json.specs.Data.{Data, Items, no_items, item}
use Rattle.serde_json.specs.Find.{as_array}
use Rattle.xfs_json.specs.declared.members.Shape.{Shape}
use Rattle.xfs_json.specs.Members.{member_of, member_as, whole_in}
use Rattle.xfs_common.specs.declared.cancel.CancelWhat.{CancelWhat}
use Rattle.xfs_common.specs.declared.cancel.CancelWhat.TheVariants.{All, These}

-- the numbers of a list whose items are all whole numbers from 1 to 2147483647
abbrev pub ids_of : Items → Option (List ℕ)
ids_of no_items = Some []
ids_of (item d ds) = option_and_then (λ id. option_map (λ ids. id ∷ ids) (ids_of ds)) (whole_in 1 2147483647 d)

-- the list in requestIds, which may be absent or null
abbrev pub request_ids : Data → Result (Option (List ℕ)) Shape
request_ids payload = member_as (λ d. option_and_then ids_of (as_array d)) (member_of (codes "requestIds") payload)

-- the ids that are named, and none where all are
abbrev pub named_by : CancelWhat → Option (List ℕ)
named_by All = None
named_by (These ids) = Some ids
