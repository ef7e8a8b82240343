-- The fields of a message, each as its member's value gives it: nothing where the member is absent or null, and Shape where it breaks its rule.
use Rattle.std.specs.Prelude.{ℕ, ◌-◌, ◌^◌, List, codes, Bool, Option, Some, None, option_and_then, is_some, Result, Ok, Err, if◌then◌else◌}
use Rattle.std.specs.Str.{bytes_eq}
use Rattle.serde_json.specs.Data.{Data, object, no_members}
use Rattle.serde_json.specs.Find.{get, as_str, as_object}
use Rattle.xfs_json.specs.declared.members.Shape.{Shape}
use Rattle.xfs_json.specs.Members.{member_of, member_as, whole_in}
use Rattle.xfs_envelope.specs.declared.code.Code.{Code}
use Rattle.xfs_envelope.specs.declared.code.Status.{Status}
use Rattle.xfs_envelope.specs.Codes.{code_of, status_of}
use Rattle.xfs_envelope.specs.Names.{is_name, is_version}

-- a text that passes a test
abbrev pub passing : (List ℕ → Bool) → List ℕ → Option (List ℕ)
passing test text = if test text then Some text else None

abbrev pub object_only : Data → Option Data
object_only d = if is_some (as_object d) then Some d else None

-- the header of a message
abbrev pub header_of : Data → Option Data
header_of d = option_and_then object_only (get (codes "header") d)

-- whether the header's type is this text
abbrev pub is_of_type : List ℕ → Data → Bool
is_of_type kind h = is_some (option_and_then (passing (bytes_eq kind)) (option_and_then as_str (get (codes "type") h)))

abbrev pub name_at : Data → Result (Option (List ℕ)) Shape
name_at h = member_as (λ d. option_and_then (passing is_name) (as_str d)) (member_of (codes "name") h)

abbrev pub id_at : Data → Result (Option ℕ) Shape
id_at h = member_as (whole_in 0 (2 ^ 64 - 1)) (member_of (codes "requestId") h)

-- an id that a command can have
abbrev pub usable_id_at : Data → Result (Option ℕ) Shape
usable_id_at h = member_as (whole_in 1 2147483647) (member_of (codes "requestId") h)

abbrev pub timeout_at : Data → Result (Option ℕ) Shape
timeout_at h = member_as (whole_in 0 2147483647) (member_of (codes "timeout") h)

abbrev pub version_at : Data → Result (Option (List ℕ)) Shape
version_at h = member_as (λ d. option_and_then (passing is_version) (as_str d)) (member_of (codes "version") h)

abbrev pub status_at : Data → Result (Option Status) Shape
status_at h = member_as (λ d. option_and_then status_of (as_str d)) (member_of (codes "status") h)

abbrev pub code_at : Data → Result (Option Code) Shape
code_at h = member_as (λ d. option_and_then code_of (as_str d)) (member_of (codes "completionCode") h)

-- the payload of a message, which stands beside its header
abbrev pub payload_at : Data → Result (Option Data) Shape
payload_at d = member_as object_only (member_of (codes "payload") d)

-- a field that must be there
abbrev pub needed : {A : Type 0} → Result (Option A) Shape → Option A
needed (Err e) = None
needed (Ok found) = found

-- a field that may be absent
abbrev pub optional : {A : Type 0} → Result (Option A) Shape → Option (Option A)
optional (Err e) = None
optional (Ok found) = Some found

-- a field that is a where it is absent
abbrev pub or_else : {A : Type 0} → A → Result (Option A) Shape → Option A
or_else a (Err e) = None
or_else a (Ok None) = Some a
or_else a (Ok (Some found)) = Some found

-- the object without members
abbrev pub empty : Data
empty = object no_members
