-- A run of `fleet`: two machines, each with its own key, list and disk, whose lines stand in one input, and one status.
use Rattle.std.specs.Prelude.{◌≡◌, ◌⊎◌, ◌<◌, ◌++◌, ℕ, List, String, None, codes, length}
use Rattle.std.specs.declared.alloc.Global.{Global}
use Rattle.xfs_base.specs.Causes.{IfTold, Rose}
use Rattle.xfs_disk.specs.declared.disk.Disk.{Ghosts as Disks}
use Rattle.xfs_mech.specs.declared.mechanism.Mechanism.{Ghosts as Mechanisms}
use Rattle.xfs_journal.specs.declared.record.Rec.{Rec}
use Rattle.xfs_guard.specs.Entries.{at_entry}
use Rattle.xfs_guard.specs.declared.fail.BootFault.{BootFault}
use Rattle.xfs_guard.specs.declared.machine_core.Core.{Core}
use Rattle.xfs_script.specs.Commands.{Command}
use Rattle.xfs_script.specs.FleetLines.{letter_mark, letter_a, letter_b}
use Rattle.xfs_script.specs.Lines.{AllLines, StopsAtLine}
use Rattle.xfs_script.specs.declared.feed.TheConstants.{QUOTA}
use Rattle.xfs_sides.specs.Sides.{AreAlone, Sides, sides}
use Rattle.xfs_lines.specs.Boots.{BootExceeds, EndsFailed, EndsFull, EndsUnread, IsDue}
use Rattle.xfs_lines.specs.Guard.States.{GuardState}
use Rattle.xfs_cli.specs.Replay.Command.{replay_lines}
use Rattle.xfs_cli.specs.Replay.Runs.{Begins}
use Rattle.xfs_cli.specs.Replay.States.{Played, guard_state_of}
use Rattle.xfs_lines.specs.Returns.{Return, back, second_back, ComesBack}
use Rattle.xfs_lines.specs.Run.{IsFleet}
use Rattle.xfs_lines.specs.Runs.{FromStart, IsEnd, IsStillAt, IsUnbooted, NothingFailed}
use Rattle.xfs_lines.specs.Output.InputEnds.{EndsInput}
use Rattle.xfs_lines.specs.Output.Statuses.{HasFullRestart, IsFinished}
use Rattle.xfs_script.specs.Streams.{Streams}
use Rattle.xfs_lines.specs.Headlines.{HasHeadline}
use Rattle.xfs_lines.specs.declared.ended.Ended.{Ended}
use Rattle.xfs_lines.specs.declared.output.status.TheConstants.{DISK_FAULT, JOURNAL_FULL, NOT_A_JOURNAL, NOT_A_LINE, READ_TO_END}
use Rattle.xfs_guard.specs.declared.bench.Bench.{Bench}
use Rattle.xfs_journal.specs.Held.{OfJournal, WhereNoJournal}
use Rattle.xfs_guard.specs.Booting.{LacksRoom}

-- the lines of `replay`, each at the machine of its letter
abbrev pub fleet_lines : Command (Sides Played) BootFault
fleet_lines = sides replay_lines

-- the line `restart` of a machine
abbrev pub restart_of : ℕ → List ℕ
restart_of letter = letter_mark letter ++ codes "restart"

-- what a run of `guard` would see of each machine
abbrev pub state_a : Sides Played → GuardState
state_a s = guard_state_of s.a

abbrev pub state_b : Sides Played → GuardState
state_b s = guard_state_of s.b

-- `a` and `b` are what comes back of the cores
module _ {M D : Type 0} (m : Mechanisms M) (d : Disks D) (core second : Core M D) (a b : Return M D) where
  -- each machine is as the boot of its core begins it
  abbrev pub BeginsBoth : Sides Played → Type 0
  BeginsBoth start = Begins (at_entry m d core) core.life start.a × Begins (at_entry m d second) second.life start.b

  -- what comes back of each machine is that of its last state
  abbrev pub AreEnds : Sides Played → Type 0
  AreEnds end = IsEnd m d a (state_a end) × IsEnd m d b (state_b end)

  -- the lines are answered from a state on, until that of what comes back
  pub record AnswersBoth (io : Streams) (text : List ℕ) (start : Sides Played) : Type 0 where
    pub end : Sides Played
    pub ends : AreEnds end
    pub answers : EndsInput fleet_lines start end a.status io text

  -- each machine answers its lines as if it were alone, from a state on until that of what comes back
  pub record AnswersAlone (io : Streams) (text : List ℕ) (start : Sides Played) : Type 0 where
    pub end : Sides Played
    pub ends : AreEnds end
    pub alone : AreAlone replay_lines start end io.output io.output_now text

  -- the boot of the first was refused, and the second is as it was
  abbrev pub IsFirstUnbooted : Streams → Type 0
  IsFirstUnbooted io = IsUnbooted core a io × ComesBack second b

  -- the boot of the second was refused, and the first, which was booted, ended
  abbrev pub IsSecondUnbooted : Streams → Type 0
  IsSecondUnbooted io = IsUnbooted second b io × FromStart (Begins (at_entry m d core) core.life) (λ start. IsEnd m d a (guard_state_of start))

  -- a fact holds of one of the two machines
  abbrev pub AtEither : (Core M D → Return M D → Type 0) → Type 0
  AtEither P = P core a ⊎ P second b

  -- a fact of the second machine, unless the boot of the first was refused
  abbrev pub WhereFirstBoots : Streams → Type 0 → Type 0
  WhereFirstBoots io P = IsFirstUnbooted io ⊎ P

  -- every line of the input is a line, the input is short enough, and no boot record passes a limit: none behind the records of a disk, nor that of a restart which ends the run
  pub record AreUnhindered (text : List ℕ) (records others : List Rec) : Type 0 where
    pub lines : AllLines fleet_lines.IsLine text
    pub short : length text < QUOTA
    pub boots : ¬ (BootExceeds core.limits (m.places core.mech) records)
    pub second_boots : ¬ (BootExceeds second.limits (m.places second.mech) others)
    pub restarts : ¬ (HasFullRestart (restart_of letter_a) fleet_lines state_a BeginsBoth (IsStillAt m d a) text)
    pub second_restarts : ¬ (HasFullRestart (restart_of letter_b) fleet_lines state_b BeginsBoth (IsStillAt m d b) text)

  pub record RunsFleet (io : Streams) : Type 0 where
    pub first : HasHeadline m d core a
    pub other : HasHeadline m d second b
    -- what is written: the answers of the lines from the boots on, and at most one last line
    pub answers : IfTold io.input (λ text. IsFirstUnbooted io ⊎ (IsSecondUnbooted io ⊎ FromStart BeginsBoth (AnswersBoth io text)))
    -- where the input was read to its end, each machine answered as it does alone
    pub alone : a.status ≡ READ_TO_END → IfTold io.input (λ text. FromStart BeginsBoth (AnswersAlone io text))
    pub lines : a.status ≡ READ_TO_END → IfTold io.input (AllLines fleet_lines.IsLine)
    pub not_a_line : a.status ≡ NOT_A_LINE → IfTold io.input (StopsAtLine fleet_lines.IsLine)
    -- the statuses of a boot are those of a refused one, or of a restart that found the same, with the cause at that machine
    pub disk_fault : a.status ≡ DISK_FAULT → AtEither (λ c r. EndsFailed (d.faults c.disk) (d.faults r.disk) io)
        ⊎ FromStart BeginsBoth (λ _. AtEither (λ c r. Rose (d.faults c.disk) (d.faults r.disk)))
    pub not_journal : a.status ≡ NOT_A_JOURNAL → AtEither (λ c r. EndsUnread (d.held c.disk) io) ⊎ FromStart BeginsBoth (λ _. AtEither (λ c r. d.held c.disk ≡ None))
    pub full : a.status ≡ JOURNAL_FULL → AtEither (λ c r. EndsFull c.limits (m.places c.mech) (d.held c.disk) io)
        ⊎ FromStart BeginsBoth (λ _. AtEither (λ c r. LacksRoom (d.held r.disk) c.limits (m.places r.mech)))
    -- a disk that is no journal is due its status, and a journal that has no room for the boot record is due its own
    pub unread : WhereNoJournal (d.held core.disk) (IsDue NOT_A_JOURNAL a.status)
    pub second_unread : WhereNoJournal (d.held second.disk) (WhereFirstBoots io (IsDue NOT_A_JOURNAL a.status))
    pub overfull : OfJournal (d.held core.disk) (λ records. BootExceeds core.limits (m.places core.mech) records → IsDue JOURNAL_FULL a.status)
    pub second_overfull : OfJournal (d.held second.disk) (λ others. BootExceeds second.limits (m.places second.mech) others → WhereFirstBoots io (IsDue JOURNAL_FULL a.status))
    -- a run that nothing hinders ends with its input
    pub finishes : NothingFailed io (d.faults core.disk) (d.faults a.disk) → ¬ (Rose (d.faults second.disk) (d.faults b.disk)) → IfTold io.input (λ text.
        OfJournal (d.held core.disk) (λ records. OfJournal (d.held second.disk) (λ others. AreUnhindered text records others → IsFinished a.status)))

-- the machines of a bench have a run of `fleet`
abbrev pub RunsBoth : {M D P Q L : Type 0} → Mechanisms M → Disks D → Bench M D P Q → Ended M D L → Streams → Type 0
RunsBoth m d bench ended io = RunsFleet m d bench.core bench.second (back ended) (second_back ended) io

-- the words `fleet` have that run
abbrev pub RunsFleetOf : {M D P Q L : Type 0} → List (String Global) → Mechanisms M → Disks D → Bench M D P Q → Ended M D L → Streams → Type 0
RunsFleetOf words m d bench ended io = IsFleet words → RunsBoth m d bench ended io
