-- The command `replay` over its lines: what answers them, what want of memory leaves of one, and that it ends at a restart which is refused.
use Rattle.std.specs.Prelude.{◌≡◌, ◌≤◌, ◌⊎◌, ℕ, List, length, map}
use Rattle.std.specs.Option.{option_to_list}
use Rattle.std.proofs.Common.{arith, inl, refl}
use Rattle.xfs_disk.specs.declared.disk.Disk.{Ghosts as Disks}
use Rattle.xfs_mech.specs.declared.mechanism.Mechanism.{Ghosts as Mechanisms}
use Rattle.xfs_guard.proofs.ContinueLaws.{Continues-same}
use Rattle.xfs_guard.proofs.KeepsLaws.{Proceeds-same, Proceeds-trans}
use Rattle.xfs_guard.specs.Continues.{Continues}
use Rattle.xfs_guard.specs.Keeps.{Proceeds}
use Rattle.xfs_guard.specs.declared.fail.BootFault.{BootFault}
use Rattle.xfs_script.specs.Commands.{Command}
use Rattle.xfs_script.specs.ReplayLines.{IsReplayLine}
use Rattle.xfs_script.specs.declared.replay_line.ReplayLine.{ReplayLine}
use Rattle.xfs_script.specs.declared.replay_line.ReplayLine.TheVariants.{Rest}
use Rattle.xfs_sides.specs.ReadLines.{IsReplayText}
use Rattle.xfs_load.specs.Steps.{HappensInPart, RestsInPart}
use Rattle.xfs_machine.specs.MachineView.{MachineView, guard_of}
use Rattle.xfs_model.specs.Events.{outbox}
use Rattle.xfs_model.specs.State.{State}
use Rattle.xfs_lines.specs.Guard.Restarts.{EndsRestart, RestartFails}
use Rattle.xfs_lines.specs.Guard.States.{IsLater}
use Rattle.xfs_cli.specs.Replay.States.{Played, guard_state_of, played}
use Rattle.xfs_cli.specs.declared.commands.replay.clients.Client.{Client}
use Rattle.xfs_cli.specs.declared.commands.replay.player.Player.{Player}
use Rattle.xfs_cli.specs.Replay.Events.{AnswersReplay, event_of}
use Rattle.xfs_script.specs.declared.feed.TheConstants.{LONGEST_LINE}

-- the first of a verb's events happened: of a rest, of so many rounds
abbrev pub IsPartDone : Played → ReplayLine → Played → Type 0
IsPartDone s Rest end = RestsInPart s.now s.machine end.machine
IsPartDone s verb end = HappensInPart (option_to_list (event_of s verb)) s.machine end.machine

-- the restart of a player is refused for this
abbrev pub IsRestartRefused : {M D : Type 0} {m : Mechanisms M} {d : Disks D} → Player M D m d → BootFault → Player M D m d → Type 0
IsRestartRefused old why new = RestartFails (guard_state_of (played old)) why (guard_state_of (played new))

-- the first of the clients were handed the frames that waited for them
abbrev pub IsPartMailed : List Client → State → State → Type 0
IsPartMailed clients s end = HappensInPart (map (λ c. outbox c.pass) clients) s end

-- the first events of a line's verb happened, and then the first of the clients were handed their frames
pub record IsBegun (s : Played) (text : List ℕ) (end : Played) : Type 0 where
  pub verb : ReplayLine
  pub reads : IsReplayLine text verb
  pub short : length text ≤ LONGEST_LINE
  pub between : Played
  pub done : IsPartDone s verb between
  pub mailed : IsPartMailed between.clients between.machine end.machine

-- want of memory leaves nothing of a line, or its first part, and goes on from what stood before it
pub record LeavesReplay (s : Played) (text : List ℕ) (end : Played) : Type 0 where
  pub begun : (end ≡ s) ⊎ IsBegun s text end
  pub continues : Continues s.machine.seen.guard end.machine.seen.guard
  pub later : IsLater (guard_state_of s) (guard_state_of end)

abbrev pub replay_lines : Command Played BootFault
replay_lines = record { IsLine = IsReplayText; Answers = AnswersReplay; Leaves = LeavesReplay; EndsAt = EndsRestart guard_state_of }

-- the guard proceeds, and the count of its disk's failures that the machine keeps doesn't fall
pub record Progresses {D : Type 0} (d : Disks D) (old new : MachineView D) : Type 0 where
  pub proceeds : Proceeds d (guard_of old) (guard_of new)
  pub later : old.state.seen.disk_faults ≤ new.state.seen.disk_faults

pub progress-same : {D : Type 0} (d : Disks D) (m : MachineView D) → ((disk : D) (bytes : List ℕ) → d.images_since disk (d.moment disk) bytes → d.images disk bytes) → Progresses d m m
progress-same d m only_now = record { proceeds = Proceeds-same d (guard_of m) only_now; later = omega arith }

pub progress-then : {D : Type 0} (d : Disks D) (a b c : MachineView D) → ((disk : D) (t : ℕ) (bytes : List ℕ) → t ≤ d.moment disk → d.images disk bytes → d.images_since disk t bytes) → Progresses d a b → Progresses d b c → Progresses d a c
progress-then d a b c counts_now first then = record {
  proceeds = Proceeds-trans d _ _ _ counts_now first.proceeds then.proceeds;
  later = let low = first.later in let high = then.later in omega (arith, low, high);
}

-- want of memory may leave nothing of a line
pub leaves-none : (s : Played) (text : List ℕ) → LeavesReplay s text s
leaves-none s text = record { begun = inl refl; continues = Continues-same s.machine.seen.guard; later = record { mech = omega arith; disk = omega arith } }

-- what is answered is a line
pub is-replay-line : (s next : Played) (text : List ℕ) (output : List (List ℕ)) → AnswersReplay s text output next → IsReplayText text
is-replay-line s next text output a = record { line = a.verb; reads = a.reads; short = a.short }
