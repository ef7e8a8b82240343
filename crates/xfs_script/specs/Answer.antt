-- What a reader of lines answers: the first line of the bytes that it keeps and that the source has left, or why there is none.
use Rattle.std.specs.Prelude.{◌≡◌, ℕ, ◌+◌, ◌-◌, ◌<◌, ◌≤◌, ◌⊎◌, nat_le, nat_lt, if◌then◌else◌, List, [], ◌++◌, length, take, false, Ok, Err, Some, None, OnOk}
use Rattle.std.specs.declared.result.Result.{Result}
use Rattle.std.specs.declared.option.Option.{Option}
use Rattle.std.specs.Io.KnownBytes.{prepend_known, IsAtEnd}
use Rattle.xfs_base.specs.Causes.{IfTold, Rose}
use Rattle.xfs_script.specs.Lines.{has_line_feed, first_line, rest, without_return}
use Rattle.xfs_script.specs.Reading.{Reading, Gives, line_off}
use Rattle.xfs_script.specs.declared.line.Line.{Line}
use Rattle.xfs_script.specs.declared.line.LineFault.{LineFault}
use Rattle.xfs_script.specs.declared.line.LineFault.TheVariants.{Read, Quota, TooLong, Memory}
use Rattle.xfs_script.specs.declared.feed.TheConstants.{LONGEST_LINE, QUOTA}

-- a line and its number, or that it is too long
abbrev pub line_answer : ℕ → List ℕ → Result (Option Line) LineFault
line_answer number line = if nat_le (length line) LONGEST_LINE then Ok (Some (record { number = number; text = line })) else Err (TooLong number)

-- the bytes to come, of those that a source may give before the limit
abbrev pub bytes_within : Reading → List ℕ → List ℕ
bytes_within r left = r.pending ++ take (QUOTA - r.given) left

-- of the bytes to come, where the source gives so many in all: the first line that a line feed ends; else that the limit is reached; else the last line; else that there is none
abbrev pub answer_on : ℕ → List ℕ → ℕ → Result (Option Line) LineFault
answer_on handed text all =
    if has_line_feed text then line_answer (handed + 1) (first_line text)
    else if nat_le QUOTA all then Err Quota
    else if nat_lt 0 (length text) then line_answer (handed + 1) (first_line text) else Ok None

-- the answer that is due where this is kept and the source has these bytes left
unfoldable pub answer_of : Reading → List ℕ → Result (Option Line) LineFault
answer_of r left = answer_on r.handed (bytes_within r left) (r.given + length left)

-- the answer is the one that is due, but for a fault of the source and want of memory
abbrev pub IsDueAnswer : Result (Option Line) LineFault → Result (Option Line) LineFault → Type 0
IsDueAnswer (Ok found) due = due ≡ Ok found
IsDueAnswer (Err Read) due = Unit {0}
IsDueAnswer (Err Memory) due = Unit {0}
IsDueAnswer (Err Quota) due = due ≡ Err Quota
IsDueAnswer (Err (TooLong n)) due = due ≡ Err (TooLong n)

-- the answer's line is the one behind those that were handed out
abbrev pub HasNumber : ℕ → Result (Option Line) LineFault → Type 0
HasNumber handed (Ok None) = Unit {0}
HasNumber handed (Ok (Some line)) = (line.number ≡ handed + 1) × (length line.text ≤ LONGEST_LINE)
HasNumber handed (Err Read) = Unit {0}
HasNumber handed (Err Memory) = Unit {0}
HasNumber handed (Err Quota) = Unit {0}
HasNumber handed (Err (TooLong n)) = n ≡ handed + 1

-- how many lines an answer hands out
abbrev pub lines_in : Result (Option Line) LineFault → ℕ
lines_in (Ok None) = 0
lines_in (Ok (Some line)) = 1
lines_in (Err fault) = 0

-- the bytes to come: those kept, and then what the source has left, where it tells that
abbrev pub bytes_ahead : Reading → Option (List ℕ) → Option (List ℕ)
bytes_ahead r left = prepend_known r.pending left

-- the reading is cut off by a fault of the source or by the limit
abbrev pub IsCutOff : Result (Option Line) LineFault → Type 0
IsCutOff result = (result ≡ Err Read) ⊎ (result ≡ Err Quota)

-- a call took a line off the bytes to come, or says why not; where the reading is cut off, what was kept and what the source gave have no line feed
pub record ReadsLine (old new : Reading) (before after : Option (List ℕ)) (result : Result (Option Line) LineFault) : Type 0 where
  pub gives : Gives old new before after
  pub answer : IfTold before (λ left. IsDueAnswer result (answer_of old left))
  pub rest : OnOk result (IfTold before (λ left. bytes_ahead new after ≡ Some (rest (old.pending ++ left))))
  pub number : HasNumber old.handed result
  pub handed : new.handed ≡ old.handed + lines_in result
  pub memory : result ≡ Err Memory → IfTold before (λ left. bytes_ahead new after ≡ Some (old.pending ++ left))
  pub quota : result ≡ Err Quota → new.given ≡ QUOTA
  pub cut_off : IsCutOff result → has_line_feed (old.pending ++ gives.bytes) ≡ false
  pub end : result ≡ Ok None → (new.pending ≡ []) × IsAtEnd after × (new.given < QUOTA)

-- the line whose end was found among the bytes that are kept, with the number behind those that were handed out
abbrev pub line_found : Reading → Result (Option ℕ) LineFault → Result (Option Line) LineFault
line_found r (Ok (Some end)) = Ok (Some (record { number = r.handed + 1; text = without_return (take end r.pending) }))
line_found r (Ok None) = Ok None
line_found r (Err fault) = Err fault

-- what is kept once the line whose end was found is taken off
abbrev pub past_line : Reading → Result (Option ℕ) LineFault → Reading
past_line r (Ok (Some end)) = line_off r end
past_line r (Ok None) = r
past_line r (Err fault) = r

-- a line that ends at a place is kept, and with it all the bytes to come
pub record KeepsLine (old new : Reading) (before after : Option (List ℕ)) (end : ℕ) : Type 0 where
  pub within : end ≤ length new.pending
  pub some : 0 < length new.pending
  pub ahead : IfTold before (λ left. bytes_ahead new after ≡ Some (old.pending ++ left))

-- the source's count of faults didn't fall, and rose where it failed to give bytes of a line
pub record HasReadCause {T : Type 0} (before now : ℕ) (result : Result T LineFault) : Type 0 where
  pub later : before ≤ now
  pub failed : result ≡ Err Read → Rose before now
