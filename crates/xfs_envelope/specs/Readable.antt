-- A value whose text is read back: by JSON's grammar its text, without floats, reads as the value itself.
use Rattle.std.specs.Prelude.{◌≡◌, ℕ, List, Some}
use Rattle.json.specs.Tree.{HasNumbers}
use Rattle.serde_json.specs.Data.{Data}
use Rattle.serde_json.specs.Read.{of_json}
use Rattle.serde_json.specs.Written.{compact_text, outline}
use Rattle.xfs_envelope.specs.Messages.{IsPayload}

pub record IsReadable (d : Data) : Type 0 where
  pub numbers : HasNumbers (outline d)
  pub reads : of_json (outline d) ≡ Some d

-- a text is that of a payload that can be sent, and is read back as it
pub record IsPayloadText (payload : Data) (text : List ℕ) : Type 0 where
  pub is : text ≡ compact_text payload
  pub fits : IsPayload payload
  pub readable : IsReadable payload
