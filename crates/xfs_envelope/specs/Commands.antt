-- A command by its text: at most 65,536 bytes, whose header gives type, name, request id, timeout and version in this order, and then the payload; the first that is wrong is the refusal.
use Rattle.std.specs.Prelude.{ℕ, List, codes, length, not, Option, Some, None, Result, Ok, Err, nat_lt, if◌then◌else◌}
use Rattle.serde_json.specs.Data.{Data}
use Rattle.serde_json.specs.View.{view}
use Rattle.xfs_json.specs.Reading.{reading}
use Rattle.xfs_envelope.specs.declared.command.Envelope.{Envelope}
use Rattle.xfs_envelope.specs.declared.command.Refuse.{Refuse}
use Rattle.xfs_envelope.specs.declared.command.Why.{Why}
use Rattle.xfs_envelope.specs.declared.command.Why.TheVariants.{TooLong, NotJson, NoHeader, BadType, BadName, BadId, BadTimeout, BadVersion, BadPayload}
use Rattle.xfs_envelope.specs.Fields.{header_of, is_of_type, name_at, id_at, usable_id_at, timeout_at, version_at, payload_at, needed, optional, or_else, empty}

-- what a command says
pub record Command : Type 0 where
  pub name : List ℕ
  pub id : ℕ
  pub timeout : ℕ
  pub payload : Data

-- a field, and what comes after it; the refusal where the field is wrong
abbrev pub given : {A B : Type 0} → Option A → Why → (A → Result B Why) → Result B Why
given None why next = Err why
given (Some found) why next = next found

-- the command of these fields, with the payload of a value
abbrev pub with_payload : List ℕ → ℕ → ℕ → Data → Result Command Why
with_payload name id timeout d = given (or_else empty (payload_at d)) BadPayload (λ payload. Ok record { name = name; id = id; timeout = timeout; payload = payload })

-- the command of a header and the value that it stands in
abbrev pub command_of : Data → Data → Result Command Why
command_of h d =
    if not (is_of_type (codes "command") h) then Err BadType
    else given (needed (name_at h)) BadName (λ name.
    given (needed (id_at h)) BadId (λ id.
    given (or_else 0 (timeout_at h)) BadTimeout (λ timeout.
    given (optional (version_at h)) BadVersion (λ version. with_payload name id timeout d))))

-- a refusal tells the id, where the header has one that a command can have
abbrev pub telling : Option ℕ → Result Command Why → Result Command Refuse
telling id (Ok command) = Ok command
telling id (Err why) = Err record { why = why; id = id }

abbrev pub of_header : Data → Option Data → Result Command Refuse
of_header d None = Err record { why = NoHeader; id = None }
of_header d (Some h) = telling (needed (usable_id_at h)) (command_of h d)

abbrev pub of_value : Option Data → Result Command Refuse
of_value None = Err record { why = NotJson; id = None }
of_value (Some d) = of_header d (header_of d)

-- the command of a text, or its refusal
abbrev pub command_in : List ℕ → Result Command Refuse
command_in text = if nat_lt 65536 (length text) then Err record { why = TooLong; id = None } else of_value (reading text)

-- what an envelope says
abbrev pub said : Envelope → Command
said e = record { name = e.name; id = e.id; timeout = e.timeout; payload = view e.payload }
