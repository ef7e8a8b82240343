-- How a withdrawal over a link ends, its status and its last line.
use Rattle.std.specs.Prelude.{ℕ, List, [], ◌∷◌, ◌++◌, codes, Bool, true, false, Option, None, Some, Result, Ok, Err}
use Rattle.xfs_client.specs.Withdrawals as step
use Rattle.xfs_client.specs.Withdrawals.{Step}
use Rattle.xfs_client.specs.declared.heard.HearFault.{HearFault}
use Rattle.xfs_envelope.specs.Codes.{code_text, status_text}
use Rattle.xfs_server.specs.declared.doors.DialFault.{DialFault}
use Rattle.xfs_server.specs.declared.link.GiveFault.{GiveFault}
use Rattle.xfs_withdraw.specs.declared.ending.Ending.{Ending}
use Rattle.xfs_withdraw.specs.declared.ending.Ending.TheVariants.{Done, Ended, Refused, BadAnswer, Closed, Quiet, Failed, Memory}
use Rattle.xfs_withdraw.specs.declared.ending.TheConstants.{ENDED, NO_MEMORY, LINK_FAILED, STAYED_QUIET}

abbrev pub withdrawal_status : Ending → ℕ
withdrawal_status Done = ENDED
withdrawal_status (Ended code) = ENDED
withdrawal_status (Refused status) = ENDED
withdrawal_status BadAnswer = ENDED
withdrawal_status Closed = ENDED
withdrawal_status Quiet = STAYED_QUIET
withdrawal_status Failed = LINK_FAILED
withdrawal_status Memory = NO_MEMORY

-- the last line, where there is one
abbrev pub withdrawal_line : Ending → List (List ℕ)
withdrawal_line Done = codes "withdrawal done" ∷ []
withdrawal_line (Ended code) = (codes "withdrawal ended: " ++ code_text code) ∷ []
withdrawal_line (Refused status) = (codes "withdrawal refused: " ++ status_text status) ∷ []
withdrawal_line BadAnswer = codes "withdrawal ended: bad answer" ∷ []
withdrawal_line Closed = codes "withdrawal ended: closed" ∷ []
withdrawal_line Quiet = codes "withdrawal ended: quiet" ∷ []
withdrawal_line Failed = []
withdrawal_line Memory = []

-- the ending where no link is dialled
abbrev pub dial_ending : DialFault → Ending
dial_ending DialFault.Failed = Failed
dial_ending DialFault.Memory = Memory

-- the ending where an ask isn't sent
abbrev pub give_ending : GiveFault → Ending
give_ending GiveFault.Failed = Failed
give_ending GiveFault.Memory = Memory

-- the ending where a text isn't heard
abbrev pub hear_ending : HearFault → Ending
hear_ending HearFault.Stranger = BadAnswer
hear_ending HearFault.Shape = BadAnswer
hear_ending HearFault.Memory = Memory

-- the ending that follows a text, where the withdrawal doesn't go on after it
abbrev pub ending_of : Result Step HearFault → Option Ending
ending_of (Ok step.waits) = None
ending_of (Ok (step.dispenses nonce)) = None
ending_of (Ok step.presents) = None
ending_of (Ok step.ends) = Some Done
ending_of (Ok (step.fails code)) = Some (Ended code)
ending_of (Ok (step.gives_up status)) = Some (Refused status)
ending_of (Err fault) = Some (hear_ending fault)

-- the endings of a withdrawal that waits for a text
abbrev pub is_cut_off : Ending → Bool
is_cut_off Done = false
is_cut_off (Ended code) = false
is_cut_off (Refused status) = false
is_cut_off BadAnswer = false
is_cut_off Closed = true
is_cut_off Quiet = true
is_cut_off Failed = true
is_cut_off Memory = true
