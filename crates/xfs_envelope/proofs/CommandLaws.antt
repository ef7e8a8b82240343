-- The command of a header whose fields are right.
use Rattle.std.proofs.Common.{◌≡◌, ℕ, List, true, Option, Some, None, Result, Ok, codes, refl}
use Rattle.std.specs.Option.{is_some}
use Rattle.std.proofs.lemmas.Bool.{false≢true}
use Rattle.serde_json.specs.Data.{Data}
use Rattle.xfs_envelope.specs.declared.command.Why.{Why}
use Rattle.xfs_envelope.specs.declared.command.Why.TheVariants.{BadVersion, BadPayload}
use Rattle.xfs_envelope.specs.Commands.{command_of, given}
use Rattle.xfs_envelope.specs.Fields.{is_of_type, name_at, id_at, timeout_at, version_at, payload_at, needed, optional, or_else, empty}

with_version : {X B : Type 0} (version : Option X) (rest : Result B Why) → is_some version ≡ true → given version BadVersion (λ _. rest) ≡ rest
with_version None rest h = absurd (false≢true h)
with_version (Some v) rest h = refl

pub command_of-Ok : (h : Data) (name : List ℕ) (id timeout : ℕ) → is_of_type (codes "command") h ≡ true → name_at h ≡ Ok (Some name) → needed (id_at h) ≡ Some id
    → or_else 0 (timeout_at h) ≡ Some timeout → is_some (optional (version_at h)) ≡ true → (d : Data)
    → command_of h d ≡ given (or_else empty (payload_at d)) BadPayload (λ payload. Ok record { name = name; id = id; timeout = timeout; payload = payload })
command_of-Ok h name id timeout kind named numbered timed version d =
    rw (kind, named, numbered, timed) (with_version (optional (version_at h)) _ version)
