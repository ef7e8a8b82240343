-- The timeout that an object names.
use Rattle.std.specs.Prelude.{ℕ, Option, codes, option_and_then}
use Rattle.std.specs.Result.{result_ok}
use Rattle.serde_json.specs.Data.{Data}
use Rattle.xfs_json.specs.Members.{member_as, member_of, whole_in}

-- the object's member `timeout`, where it is a whole number of milliseconds, of at most an hour
abbrev pub timeout_of : Data → Option ℕ
timeout_of d = option_and_then (λ found. found) (result_ok (member_as (whole_in 0 3600000) (member_of (codes "timeout") d)))
