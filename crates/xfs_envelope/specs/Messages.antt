-- The value of each message of a service; its members stand in the order of their names' bytes.
use Rattle.std.specs.Prelude.{◌≡◌, ◌≤◌, ℕ, List, codes, false, IsSome, Option, Some, None, option_map}
use Rattle.serde_json.specs.Data.{Data, number, unsigned, string, object, Members, member, no_members, depth}
use Rattle.serde_json.specs.Find.{as_object}
use Rattle.serde_json.specs.Written.{has_float}
use Rattle.xfs_envelope.specs.declared.code.Code.{Code}
use Rattle.xfs_envelope.specs.declared.code.Status.{Status}
use Rattle.xfs_envelope.specs.Codes.{code_text, status_text}

-- a payload that can be sent: an object without floats, nested at most 120 deep
abbrev pub IsPayload : Data → Type 0
IsPayload d = IsSome (as_object d) × (has_float d ≡ false) × (depth d ≤ 120)

-- a member that may be absent, before others
abbrev pub with_if : List ℕ → Option Data → Members → Members
with_if name None rest = rest
with_if name (Some d) rest = member name d rest

-- the last members of each header
abbrev pub of_type : List ℕ → Members
of_type kind = member (codes "type") (string kind) (member (codes "version") (string (codes "2.0")) no_members)

abbrev pub numbered : ℕ → Data
numbered id = number (unsigned id)

abbrev pub acknowledge_header : Option (List ℕ) → Option ℕ → Option Status → Data
acknowledge_header name id status =
    object (with_if (codes "name") (option_map string name)
    (with_if (codes "requestId") (option_map numbered id)
    (with_if (codes "status") (option_map (λ s. string (status_text s)) status)
    (of_type (codes "acknowledge")))))

abbrev pub event_header : List ℕ → ℕ → Data
event_header name id = object (member (codes "name") (string name) (member (codes "requestId") (numbered id) (of_type (codes "event"))))

abbrev pub completion_header : List ℕ → ℕ → Code → Data
completion_header name id code =
    object (member (codes "completionCode") (string (code_text code))
    (member (codes "name") (string name)
    (member (codes "requestId") (numbered id)
    (of_type (codes "completion")))))

abbrev pub unsolicited_header : List ℕ → Data
unsolicited_header name = object (member (codes "name") (string name) (of_type (codes "unsolicited")))

-- a message that is a header alone
abbrev pub headed : Data → Data
headed header = object (member (codes "header") header no_members)

-- a message of a header and a payload
abbrev pub framed : Data → Data → Data
framed header payload = object (member (codes "header") header (member (codes "payload") payload no_members))
