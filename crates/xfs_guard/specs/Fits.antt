-- Whether the journal takes more records: not where it is shut, nor where its boot record is missing, nor where fewer than 3 records or fewer than 2,048 bytes are left of its limits.
use Rattle.std.specs.Prelude.{◌-◌, nat_lt, Bool, ◌||◌, length, Some, None, if◌then◌else◌}
use Rattle.std.specs.declared.option.Option.{Option}
use Rattle.xfs_journal.specs.Image.{size}
use Rattle.xfs_guard.specs.declared.deny.Deny.{Deny}
use Rattle.xfs_guard.specs.declared.fit.Fit.{Fit}
use Rattle.xfs_guard.specs.declared.fit.TheConstants.{LEAST_BYTES, LEAST_RECORDS}
use Rattle.xfs_guard.specs.View.{View}

-- too little is left of the limits, which count the records that memory has and the bytes of the file
abbrev pub is_short : View → Bool
is_short v = nat_lt (v.limits.records - (length v.records - v.base)) LEAST_RECORDS || nat_lt (v.limits.bytes - size v.records) LEAST_BYTES

abbrev pub is_full : View → Bool
is_full v = v.boot_missing || is_short v

abbrev pub fit_of : View → Fit
fit_of v = if v.shut then Fit.Shut else if is_full v then Fit.Full else Fit.Ready

-- what each call that writes is refused for first
abbrev pub unfit : View → Option Deny
unfit v = if v.shut then Some Deny.Shut else if is_full v then Some Deny.Full else None
