-- A run of `client`: the withdrawal over the link that was dialled for it, its line and its status. It boots nothing.
use Rattle.std.specs.Prelude.{◌≡◌, ◌↔◌, ℕ, List, String, IfSome, Option, None, option_map, true}
use Rattle.std.specs.declared.alloc.Global.{Global}
use Rattle.xfs_client.specs.Withdrawals.{Terms}
use Rattle.xfs_guard.specs.declared.machine_core.Core.{Core}
use Rattle.xfs_server.specs.Doors.{DoorLog}
use Rattle.xfs_server.specs.Links.{LinkLog}
use Rattle.xfs_withdraw.specs.Doors.{HasDialled, HasFailed, tells_closed, quiets_of}
use Rattle.xfs_withdraw.specs.Endings.{withdrawal_line, withdrawal_status}
use Rattle.xfs_withdraw.specs.Talks.{Withdraws, terms_of}
use Rattle.xfs_withdraw.specs.declared.ending.Ending.{Ending}
use Rattle.xfs_withdraw.specs.declared.ending.Ending.TheVariants.{Closed}
use Rattle.xfs_withdraw.specs.declared.talk.TheConstants.{MOST_QUIETS}
use Rattle.xfs_lines.specs.Returns.{back, ComesBack}
use Rattle.xfs_lines.specs.Run.{IsClientOf}
use Rattle.xfs_script.specs.Streams.{Output}
use Rattle.xfs_lines.specs.declared.ended.Ended.{Ended}
use Rattle.xfs_lines.specs.declared.output.status.TheConstants.{LINK_FAILED, STAYED_QUIET}
use Rattle.xfs_script.specs.LastLines.{WritesLast}

pub record RunsClient {M D L : Type 0} (log : L → LinkLog) (terms : Terms) (core : Core M D) (ended : Ended M D L) (before now : DoorLog) (o : Output) : Type 0 where
  pub ending : Ending
  -- the texts that the link sent are the withdrawal's asks after those that it handed over, and so it ended
  pub withdraws : IfSome ended.link (λ link. Withdraws terms ending (log link))
  -- the cash dispenser was dialled once, and there is no link exactly where the doors refused it
  pub dialled : HasDialled ended.link ending before now
  pub status_is : ended.status ≡ withdrawal_status ending
  pub line : WritesLast (withdrawal_line ending) o
  -- the causes of closed, quiet and failed
  pub closed : (ending ≡ Closed) ↔ (tells_closed (option_map log ended.link) ≡ true)
  pub quiet : (ended.status ≡ STAYED_QUIET) ↔ (quiets_of (option_map log ended.link) ≡ MOST_QUIETS)
  pub failed : ended.status ≡ LINK_FAILED → HasFailed (option_map log ended.link) before now
  pub kept : ComesBack core (back ended)

-- a run of `client` for an amount of a currency, with a token under the core's key
abbrev pub RunsClientFor : {M D L : Type 0} → (L → LinkLog) → List ℕ → ℕ → Core M D → Ended M D L → DoorLog → DoorLog → Output → Type 0
RunsClientFor log currency amount core ended before now o = RunsClient log (terms_of currency amount core.key) core ended before now o

-- the words `client`, a currency and an amount have that run
abbrev pub RunsClientOf : {M D L : Type 0} → List (String Global) → (L → LinkLog) → Core M D → Ended M D L → DoorLog → DoorLog → Output → Type 0
RunsClientOf words log core ended before now o = (currency : List ℕ) (amount : ℕ) → IsClientOf currency amount words → RunsClientFor log currency amount core ended before now o

-- nobody was dialled, and there is no link
pub record IsUndialled {L : Type 0} (link : Option L) (before now : DoorLog) : Type 0 where
  pub none : link ≡ None
  pub dials : now.dials ≡ before.dials
