-- The texts of which a message is put together: its frame, and each member of a header that may be absent, with the comma behind it.
use Rattle.std.specs.Prelude.{ℕ, List, [], ◌++◌, codes, decimal, Option, Some, None}
use Rattle.xfs_envelope.specs.declared.code.Status.{Status}
use Rattle.xfs_envelope.specs.Codes.{status_text}

-- a message of the texts of its header and payload
abbrev pub frame : List ℕ → List ℕ → List ℕ
frame header payload = codes "{\"header\":" ++ (header ++ (codes ",\"payload\":" ++ (payload ++ codes "}")))

abbrev pub name_part : Option (List ℕ) → List ℕ
name_part None = []
name_part (Some name) = codes "\"name\":\"" ++ (name ++ codes "\",")

abbrev pub id_part : Option ℕ → List ℕ
id_part None = []
id_part (Some id) = codes "\"requestId\":" ++ (decimal id ++ codes ",")

abbrev pub status_part : Option Status → List ℕ
status_part None = []
status_part (Some status) = codes "\"status\":\"" ++ (status_text status ++ codes "\",")
