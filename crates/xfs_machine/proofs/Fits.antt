-- What GetStorage and Status tell can be sent.
use Rattle.std.proofs.Common.{◌≡◌, ◌≤◌, ℕ, ◌+◌, false, List, [], ◌∷◌, refl, arith}
use Rattle.serde_json.specs.Data.{members_depth}
use Rattle.serde_json.specs.Written.{compact_text, members_have_float}
use Rattle.xfs_base.specs.declared.counts.Counts.{Counts}
use Rattle.xfs_base.specs.declared.counts.Places.{Places}
use Rattle.xfs_base.specs.declared.money.NoteKind.{NoteKind}
use Rattle.xfs_base.specs.declared.moment.Service.{Service}
use Rattle.xfs_base.specs.declared.moment.Service.TheVariants.{Publisher, Card, Keys, Cash}
use Rattle.xfs_common.specs.Payloads.{status_payload}
use Rattle.xfs_common.specs.declared.payloads.Fit2.{Fit2}
use Rattle.xfs_common.specs.declared.payloads.Fit2.TheVariants.{Online, HardwareError}
use Rattle.xfs_envelope.specs.Messages.{IsPayload}
use Rattle.xfs_envelope.specs.Readable.{IsPayloadText}
use Rattle.xfs_units.specs.Payloads.{storage_payload, units_payload}

no_float : (ks : List NoteKind) (unit : ℕ) (counts : Counts) → members_have_float (units_payload ks unit counts) ≡ false
no_float [] unit counts = refl
no_float (k ∷ ks) unit counts = no_float ks (unit + 1) counts

flat : (ks : List NoteKind) (unit : ℕ) (counts : Counts) → members_depth (units_payload ks unit counts) ≤ 1
flat [] unit counts = omega arith
flat (k ∷ ks) unit counts = let rest = flat ks (unit + 1) counts in omega (arith, rest)

pub storage_fits : (units : List NoteKind) (places : Places) → IsPayload (storage_payload units places)
storage_fits units places =
    let rest = flat units 1 places.units in
    (refl, rw (no_float units 1 places.units) refl, omega (arith, rest))

pub status_told : (service : Service) (fit : Fit2) (text : List ℕ) → text ≡ compact_text (status_payload service fit) → IsPayloadText (status_payload service fit) text
status_told Publisher fit text is = record { is = is; fits = (refl, refl, omega arith); readable = record { numbers = ((tt, tt), tt); reads = refl } }
status_told Card fit text is = record { is = is; fits = (refl, refl, omega arith); readable = record { numbers = ((tt, tt), tt); reads = refl } }
status_told Keys fit text is = record { is = is; fits = (refl, refl, omega arith); readable = record { numbers = ((tt, tt), tt); reads = refl } }
status_told Cash Online text is = record { is = is; fits = (refl, refl, omega arith); readable = record { numbers = ((tt, tt), tt); reads = refl } }
status_told Cash HardwareError text is = record { is = is; fits = (refl, refl, omega arith); readable = record { numbers = ((tt, tt), tt); reads = refl } }
