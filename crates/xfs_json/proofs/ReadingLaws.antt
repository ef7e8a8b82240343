-- What `serde_json`'s reader says of bytes that are UTF-8, as `reading` says it of all bytes.
use Rattle.std.proofs.Common.{◌≡◌, ℕ, List, Bool, true, false, Some, None, if◌then◌else◌, refl}
use Rattle.std.specs.Str.{is_utf8, IsUtf8}
use Rattle.std.proofs.lemmas.Str.{IsUtf8-from_is_utf8, is_utf8-from_IsUtf8}
use Rattle.serde_json.specs.Data.{Data}
use Rattle.serde_json.specs.Read.{read}
use Rattle.xfs_json.specs.Reading.{reading}

pub reading-Some : (bytes : List ℕ) (d : Data) → IsUtf8 bytes → read bytes ≡ Some d → reading bytes ≡ Some d
reading-Some bytes d utf8 is = rw (is_utf8-from_IsUtf8 bytes utf8) is

none_if : (bytes : List ℕ) (b : Bool) → is_utf8 bytes ≡ b → (IsUtf8 bytes → read bytes ≡ None) → (if b then read bytes else None) ≡ None
none_if bytes true is none = none (IsUtf8-from_is_utf8 bytes is)
none_if bytes false is none = refl

pub reading-None : (bytes : List ℕ) → (IsUtf8 bytes → read bytes ≡ None) → reading bytes ≡ None
reading-None bytes none = none_if bytes (is_utf8 bytes) refl none
