-- What a host has: the key of its tokens, and the history of the calls that it answered.
use Rattle.std.specs.Prelude.{◌≡◌, ℕ, ◌≤◌, ◌&&◌, not, nat_le, List, length, if◌then◌else◌, is_some, None, Some, Err, MatchResult, ⊤}
use Rattle.std.specs.declared.option.Option.{Option}
use Rattle.std.specs.declared.result.Result.{Result}
use Rattle.xfs_host.specs.Ask.{Terms}
use Rattle.xfs_host.specs.Book.{Call, Book, first_ask_in, opening_in}
use Rattle.xfs_host.specs.declared.faults.HostFault.{HostFault}
use Rattle.xfs_host.specs.declared.faults.HostFault.TheVariants as host
use Rattle.xfs_host.specs.declared.faults.OpenFault.{OpenFault}
use Rattle.xfs_host.specs.declared.faults.OpenFault.TheVariants as opening

-- at most 10,000 accounts stand, and 100,000 transactions
pub record IsWithinLimits (b : Book) : Type 0 where
  pub accounts : length b.opened ≤ 10000
  pub transactions : length b.asked ≤ 100000

pub record State : Type 0 where
  pub key : List ℕ
  pub calls : List Call

-- an account that is open is known; of the others 10,000 are the limit
abbrev pub open_refusal : Book → ℕ → Option OpenFault
open_refusal b account =
    if is_some (opening_in b account) then Some opening.Known
    else if nat_le 10000 (length b.opened) then Some opening.Limit
    else None

-- a kept number is answered at the limit of 100,000, a new one is not
abbrev pub host_refusal : Book → Terms → Option HostFault
host_refusal b t =
    if not (is_some (first_ask_in b t.tx)) && nat_le 100000 (length b.asked) then Some host.Limit
    else None

-- this refusal is the answer; where there is none, only memory may be wanting
abbrev pub IsRefusedAs : {T E : Type 0} → E → Option E → Result T E → Type 0
IsRefusedAs memory (Some fault) result = result ≡ Err fault
IsRefusedAs memory None result = MatchResult result (λ _. ⊤) (λ fault. fault ≡ memory)
