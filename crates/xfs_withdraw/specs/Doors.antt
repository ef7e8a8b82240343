-- The one dial of a withdrawal.
use Rattle.std.specs.Prelude.{◌≡◌, ℕ, Bool, false, Option, None, Some, Ok, Err, ◌↔◌, true}
use Rattle.xfs_base.specs.Causes.{Rose}
use Rattle.xfs_base.specs.declared.moment.Service.TheVariants.{Cash}
use Rattle.xfs_server.specs.Doors.{DoorLog, after_dial}
use Rattle.xfs_server.specs.Links.{LinkLog}
use Rattle.xfs_server.specs.declared.doors.DialFault.{DialFault}
use Rattle.xfs_withdraw.specs.Endings.{dial_ending, withdrawal_status}
use Rattle.xfs_withdraw.specs.declared.ending.Ending.{Ending}
use Rattle.xfs_withdraw.specs.declared.ending.Ending.TheVariants.{Closed}
use Rattle.xfs_withdraw.specs.declared.ending.TheConstants.{LINK_FAILED, STAYED_QUIET}
use Rattle.xfs_withdraw.specs.declared.talk.TheConstants.{MOST_QUIETS}

-- the cash dispenser was dialled once, and there is no link exactly where the doors refused it
pub record Refuses (ending : Ending) (before now : DoorLog) : Type 0 where
  pub fault : DialFault
  pub is : ending ≡ dial_ending fault
  pub once : now ≡ after_dial {L = Unit {0}} before Cash (Err fault)

abbrev pub HasDialled : {L : Type 0} → Option L → Ending → DoorLog → DoorLog → Type 0
HasDialled (Some link) ending before now = now ≡ after_dial before Cash (Ok link)
HasDialled None ending before now = Refuses ending before now

-- whether the link that was dialled has told that it is closed
abbrev pub tells_closed : Option LinkLog → Bool
tells_closed None = false
tells_closed (Some l) = l.closed

-- how often the link that was dialled was quiet
abbrev pub quiets_of : Option LinkLog → ℕ
quiets_of None = 0
quiets_of (Some l) = l.quiets

-- the link failed once, or the doors failed where none was dialled
abbrev pub HasFailed : Option LinkLog → DoorLog → DoorLog → Type 0
HasFailed None before now = Rose before.faults now.faults
HasFailed (Some l) before now = l.faults ≡ 1

-- the endings that the link and the doors are the cause of: it was closed, it stayed quiet, or one of the two failed
pub record HasLinkCause (ending : Ending) (link : Option LinkLog) (before now : DoorLog) : Type 0 where
  pub closed : (ending ≡ Closed) ↔ (tells_closed link ≡ true)
  pub quiet : (withdrawal_status ending ≡ STAYED_QUIET) ↔ (quiets_of link ≡ MOST_QUIETS)
  pub failed : withdrawal_status ending ≡ LINK_FAILED → HasFailed link before now
