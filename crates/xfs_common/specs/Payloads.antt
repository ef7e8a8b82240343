-- The payloads of the interface Common and of the service publisher; members stand in the order of their names' bytes.
use Rattle.std.specs.Prelude.{ℕ, List, codes, Bool, ◌||◌}
use Rattle.std.specs.Int.{is_in_range}
use Rattle.serde_json.specs.Data.{Data, number, unsigned, string, array, object, no_items, item, no_members, member}
use Rattle.xfs_base.specs.declared.moment.Service.{Service}
use Rattle.xfs_base.specs.declared.moment.Service.TheVariants.{Publisher, Card, Keys, Cash}
use Rattle.xfs_common.specs.Addresses.{uri_of}
use Rattle.xfs_common.specs.declared.payloads.Fit2.{Fit2}
use Rattle.xfs_common.specs.declared.payloads.Fit2.TheVariants.{Online, HardwareError}

-- the object {}
abbrev pub nothing : Data
nothing = object no_members

-- an object of one member
abbrev pub only : List ℕ → Data → Data
only name d = object (member name d no_members)

-- the dispenser tells a hardware error, every other service is online
abbrev pub device_state : Service → Fit2 → List ℕ
device_state Publisher fit = codes "online"
device_state Card fit = codes "online"
device_state Keys fit = codes "online"
device_state Cash Online = codes "online"
device_state Cash HardwareError = codes "hardwareError"

abbrev pub status_payload : Service → Fit2 → Data
status_payload service fit = only (codes "common") (only (codes "device") (string (device_state service fit)))

-- the command Dispense always needs a token
abbrev pub dispenser_security : Data
dispenser_security =
    only (codes "endToEndSecurity") (object
    (member (codes "commands") (array (item (string (codes "CashDispenser.Dispense")) no_items))
    (member (codes "required") (string (codes "always")) no_members)))

abbrev pub capabilities_payload : Service → Data
capabilities_payload Publisher = only (codes "common") nothing
capabilities_payload Card = only (codes "common") nothing
capabilities_payload Keys = only (codes "common") nothing
capabilities_payload Cash = only (codes "common") dispenser_security

abbrev pub service_entry : Service → Data
service_entry service = only (codes "serviceURI") (string (uri_of service))

abbrev pub services_payload : Data
services_payload = object
    (member (codes "services") (array
    (item (service_entry Card)
    (item (service_entry Keys)
    (item (service_entry Cash) no_items))))
    (member (codes "vendorName") (string (codes "xfs bench")) no_members))

-- an upper-case hexadecimal digit, 0 to 9 or A to F
abbrev pub is_upper_hex : ℕ → Bool
is_upper_hex b = is_in_range 48 57 b || is_in_range 65 70 b

abbrev pub nonce_payload : List ℕ → Data
nonce_payload text = only (codes "commandNonce") (string text)

abbrev pub present_status_payload : List ℕ → Data
present_status_payload token = only (codes "presentStatus") (only (codes "token") (string token))

abbrev pub record_payload : ℕ → Data
record_payload since = only (codes "journalRecord") (number (unsigned since))

abbrev pub error_payload : List ℕ → Data
error_payload code = only (codes "errorCode") (string code)
