-- The text of a command: a header of name, request id and type, and the payload, as compact JSON.
use Rattle.std.specs.Prelude.{◌≡◌, ℕ, ◌≤◌, List, false, length, codes, IsSome, IsTrue, Ok}
use Rattle.serde_json.specs.Data.{Data, depth, string, object, member, no_members}
use Rattle.serde_json.specs.Find.{as_object}
use Rattle.serde_json.specs.Written.{compact_text, has_float}
use Rattle.xfs_envelope.specs.Commands.{command_in}
use Rattle.xfs_envelope.specs.Messages.{framed, numbered}
use Rattle.xfs_envelope.specs.Names.{is_name}

-- a value that a text is made of: no float in it, and at most 120 deep
pub record IsWritable (value : Data) : Type 0 where
  pub no_float : has_float value ≡ false
  pub shallow : depth value ≤ 120

-- a command that can be asked: it has a name of the standard's grammar, and a text is made of its payload
pub record IsAskable (name : List ℕ) (payload : Data) : Type 0 where
  pub named : IsTrue (is_name name)
  pub writable : IsWritable payload

abbrev pub command_header : List ℕ → ℕ → Data
command_header name id =
    object (member (codes "name") (string name)
    (member (codes "requestId") (numbered id)
    (member (codes "type") (string (codes "command")) no_members)))

abbrev pub command_text : List ℕ → ℕ → Data → List ℕ
command_text name id payload = compact_text (framed (command_header name id) payload)

-- a service reads this command in the text, where the payload is an object and the text isn't too long
abbrev pub ReadsAs : List ℕ → List ℕ → ℕ → Data → Type 0
ReadsAs text name id payload = IsSome (as_object payload) → length text ≤ 65536
    → command_in text ≡ Ok record { name = name; id = id; timeout = 0; payload = payload }

-- the text of a command, and a service reads it so
pub record IsCommand (name : List ℕ) (id : ℕ) (payload : Data) (bytes : List ℕ) : Type 0 where
  pub text : bytes ≡ command_text name id payload
  pub reads_back : ReadsAs bytes name id payload
