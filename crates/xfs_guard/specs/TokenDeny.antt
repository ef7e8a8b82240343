-- How the guard hands on why a text is no token.
use Rattle.xfs_token.specs.declared.faults.TokenFault.{TokenFault}
use Rattle.xfs_token.specs.declared.faults.TokenFault.TheVariants as Fault
use Rattle.xfs_guard.specs.declared.deny.Deny.{Deny}
use Rattle.xfs_guard.specs.declared.deny.Deny.TheVariants.{TooLong, KeyNoValue, Format, Memory}

abbrev pub deny_of : TokenFault → Deny
deny_of Fault.TooLong = TooLong
deny_of (Fault.KeyNoValue at) = KeyNoValue at
deny_of (Fault.Format at) = Format at
deny_of Fault.Memory = Memory
