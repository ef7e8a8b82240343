-- What bytes read as: the value of a UTF-8 text by the grammar of JSON (RFC 8259), nested at most 127 deep.
use Rattle.std.specs.Prelude.{ℕ, List, Option, None, if◌then◌else◌}
use Rattle.std.specs.Str.{is_utf8}
use Rattle.serde_json.specs.Data.{Data}
use Rattle.serde_json.specs.Read.{read}

-- the value that the bytes read as, where there is one
abbrev pub reading : List ℕ → Option Data
reading bytes = if is_utf8 bytes then read bytes else None
