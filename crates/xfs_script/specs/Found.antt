-- How the first line of the bytes that are kept ends, or why that isn't known.
use Rattle.std.specs.Prelude.{◌≡◌, ℕ, ◌+◌, ◌<◌, ◌⊎◌, Bool, true, false, List, length}
use Rattle.std.specs.declared.option.Option.{Option}
use Rattle.std.specs.Io.KnownBytes.{IsAtEnd}
use Rattle.xfs_script.specs.Lines.{line_end}
use Rattle.xfs_script.specs.Reading.{Reading}
use Rattle.xfs_script.specs.declared.feed.Found.{Found}
use Rattle.xfs_script.specs.declared.feed.Found.TheVariants.{Feed, End, Long, Quota}
use Rattle.xfs_script.specs.declared.line.LineFault.{LineFault}
use Rattle.xfs_script.specs.declared.line.LineFault.TheVariants as Fault
use Rattle.xfs_script.specs.declared.feed.TheConstants.{LONGEST_LINE, QUOTA}

-- no line feed is kept
abbrev pub IsOpen : Reading → Type 0
IsOpen r = line_end r.pending ≡ length r.pending

-- the kept bytes have their first line feed at n, or none and the source is at its end, or none and they are too many, or none and no more may be read
abbrev pub IsFound : Reading → Option (List ℕ) → Found → Type 0
IsFound r left (Feed n) = (line_end r.pending ≡ n) × (n < length r.pending)
IsFound r left End = IsOpen r × IsAtEnd left × (r.given < QUOTA)
IsFound r left Long = IsOpen r × (LONGEST_LINE + 1 < length r.pending)
IsFound r left Quota = IsOpen r × (r.given ≡ QUOTA)

-- a line whose first bytes were dropped ends, or no more may be read
abbrev pub IsPassed : Reading → Option (List ℕ) → Bool → Type 0
IsPassed r left true = (line_end r.pending < length r.pending) ⊎ (IsOpen r × IsAtEnd left × (r.given < QUOTA))
IsPassed r left false = IsOpen r × (r.given ≡ QUOTA)

-- why a line isn't handed out whose first bytes were dropped
abbrev pub IsRefusal : ℕ → Reading → Option (List ℕ) → LineFault → Type 0
IsRefusal handed r left Fault.Read = IsOpen r
IsRefusal handed r left Fault.Quota = IsPassed r left false
IsRefusal handed r left (Fault.TooLong n) = (n ≡ handed + 1) × IsPassed r left true
IsRefusal handed r left Fault.Memory = ⊥
