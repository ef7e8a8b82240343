-- A run of `load` is as its record says: where its rounds were played, and where the boot was refused.
use Rattle.std.proofs.Common.{◌≡◌, ◌≢◌, ◌∷◌, [], ◌⊎◌, ℕ, List, None, Some, inl, inr, refl, arith, ◌≤◌, length}
use Rattle.std.specs.declared.option.Option.{Option}
use Rattle.xfs_base.specs.Causes.{IfTold, Rose}
use Rattle.xfs_base.specs.declared.counts.Places.{Places}
use Rattle.xfs_disk.specs.declared.disk.Disk.{Ghosts as Disks}
use Rattle.xfs_mech.specs.declared.mechanism.Mechanism.{Ghosts as Mechanisms}
use Rattle.xfs_journal.specs.Image.{StandsFor}
use Rattle.xfs_journal.specs.Paging.{CeasesAt}
use Rattle.xfs_journal.specs.declared.limits.Limits.{Limits}
use Rattle.xfs_journal.specs.declared.record.Rec.{Rec}
use Rattle.xfs_journal.specs.Journal.{with_boot}
use Rattle.xfs_journal.proofs.Unique.{stands_for_one}
use Rattle.xfs_guard.specs.Keeps.{Proceeds}
use Rattle.xfs_guard.specs.declared.fail.BootFault.{BootFault}
use Rattle.xfs_guard.specs.declared.fail.BootFault.TheVariants.{NotJournal, Disk, Full, Memory}
use Rattle.xfs_guard.specs.declared.machine_core.Core.{Core}
use Rattle.xfs_machine.specs.MachineView.{MachineView, guard_of}
use Rattle.xfs_model.specs.State.{State, bare}
use Rattle.xfs_lines.specs.Boots.{BootExceeds, WritesBoot, boot_status}
use Rattle.xfs_guard.specs.Entries.{at_entry, opened}
use Rattle.xfs_load.specs.Summaries.{IsSummary, summary_line}
use Rattle.xfs_load.specs.declared.summary.Summary.{Summary}
use Rattle.xfs_script.specs.Answered.{lines_text}
use Rattle.xfs_cli.specs.LoadEnds.{EndsLoad, Output, WritesTextOrNot}
use Rattle.xfs_cli.specs.LoadRuns.{RunsLoad, guard_state_of}
use Rattle.xfs_lines.specs.Output.Statuses.{IsFinished, IsStatus}
use Rattle.xfs_script.specs.Streams.{Streams, output_of}
use Rattle.xfs_lines.specs.Returns.{Return}
use Rattle.xfs_lines.proofs.BootedLaws.{ends-at, ends-failed, told-any}
use Rattle.xfs_cli.proofs.BootsOnceLaws.{boots-refused, boots-served}
use Rattle.xfs_lines.proofs.EndingLaws.{boot-least}
use Rattle.xfs_lines.proofs.NumberLaws.{newer-run, newer-same}
use Rattle.xfs_lines.proofs.RunLaws.{Starts}
use Rattle.xfs_lines.proofs.EndsLaws.{HasEnded}
use Rattle.xfs_guard.specs.Outcomes.{BootsGuard, RefusesBoot}
use Rattle.xfs_journal.specs.JournalView.{IsNoJournal}

-- a boot that nothing hinders is refused for want of memory alone
pub refused-finishes : (why : BootFault) (held : Option (List ℕ)) (limits : Limits) (places : Places) (status faults now : ℕ) → status ≡ boot_status why
    → ((at : ℕ) → why ≡ NotJournal at → IsNoJournal held at) → (why ≡ Disk → Rose faults now)
    → (why ≡ Full → (J : List Rec) × IfTold held (λ bytes. StandsFor bytes J) × BootExceeds limits places J) → ¬ (Rose faults now)
    → IfTold held (λ bytes. (J : List Rec) → StandsFor bytes J → ¬ (BootExceeds limits places J) → IsFinished status)
refused-finishes why None limits places status faults now is ceases failed full fine = tt
refused-finishes (NotJournal at) (Some bytes) limits places status faults now is ceases failed full fine = λ J stands fits. absurd ((ceases at refl).1 J stands)
refused-finishes Disk (Some bytes) limits places status faults now is ceases failed full fine = λ J stands fits. absurd (fine (failed refl))
refused-finishes Full (Some bytes) limits places status faults now is ceases failed full fine = λ J stands fits.
    let f = full refl in
    let same : J ≡ f.0 = stands_for_one bytes J f.0 stands f.1 in
    absurd (fits (rw same f.2))
refused-finishes Memory (Some bytes) limits places status faults now is ceases failed full fine = λ J stands fits. inr is

-- a load whose boot was refused
pub loads-refused : {M D : Type 0} (m : Mechanisms M) (d : Disks D) (core : Core M D) (rounds : ℕ) (why : BootFault) (result : Return M D) (io : Streams)
    → result.mech ≡ core.mech → RefusesBoot d (at_entry m d core) core.disk why result.disk → result.status ≡ boot_status why → WritesBoot why io → io.left ≡ io.input → RunsLoad m d core rounds result io
loads-refused m d core rounds why result io same f status written unread = record {
  loads = inl (record { why = why; status_is = status; unread = unread; written = written; unmoved = same });
  unread_input = unread;
  not_of_input = (λ three. absurd (omega (arith, low, status, three)), λ four. absurd (omega (arith, low, status, four)), λ ten. (boot-least why).1 (omega (arith, status, ten)));
  write = λ five. absurd (omega (arith, low, status, five));
  disk_fault = λ six. ends-failed _ _ _ _ _ status written f.disk six;
  boots_once = boots-refused m d core why result io same f status written;
  newer = rw same (newer-same _ _);
  finishes = λ sink disk. refused-finishes why _ _ _ _ _ _ status f.not_journal f.disk f.full disk;
}
  where
    low : 6 ≤ boot_status why
    low = (boot-least why).0

-- the statuses of a load that has booted
ends-status : (key : List ℕ) (rounds : ℕ) (s new : State) (status : ℕ) (o : Output) → EndsLoad key rounds s new status o → (status ≡ 0) ⊎ (((status ≡ 5) × Rose o.faults o.faults_now) ⊎ (status ≡ 8))
ends-status key rounds s new status o (inl p) = elim p.tells [ inl w ↦ inl w.status_is | inr c ↦ inr (inl (c.status_is, c.cause)) ]
ends-status key rounds s new status o (inr r) = inr (inr r.silent.status_is)

-- where it was not refused
pub loads-served : {M D : Type 0} (m : Mechanisms M) (d : Disks D) → ((disk : D) (all : List ℕ) → d.held disk ≡ Some all → d.images disk all) → (core : Core M D) (rounds : ℕ) (result : Return M D) (io : Streams) (start end : MachineView D)
    → BootsGuard d (at_entry m d core) core.disk (guard_of start) → start.state.seen.disk_faults ≡ d.faults start.disk → start.state ≡ bare start.state.seen core.life (length start.state.seen.guard.records)
    → Proceeds d (guard_of start) (guard_of end) → end.state.seen.disk_faults ≡ d.faults result.disk → EndsLoad core.key rounds start.state end.state result.status (output_of io) → HasEnded m d (guard_of end) result → io.left ≡ io.input
    → Starts (d.held core.disk) (d.images core.disk) core.key core.units (m.motions core.mech) → RunsLoad m d core rounds result io
loads-served m d as_read core rounds result io start end b tied bare_is proceeds counted loads e unread starts = record {
  loads = inr (record {
    start = start.state;
    begins = record {
      boots = record { records = b.begins.0; stands = b.begins.1; guard_is = b.begins.2; later = let low = b.leaves.faults in omega (arith, low, tied); none = refl };
      machine = bare_is;
    };
    writes = record {
      end = end.state;
      ends = ends-at m d end.state.seen.guard result e.motions e.places e.faults e.stored (guard_state_of end.state) refl counted;
      loads = loads;
    };
  });
  unread_input = unread;
  not_of_input = (λ three. no 3 three (omega arith) (omega arith) (omega arith), λ four. no 4 four (omega arith) (omega arith) (omega arith), λ ten. no 10 ten (omega arith) (omega arith) (omega arith));
  write = λ five. cause five;
  disk_fault = λ six. absurd (no 6 six (omega arith) (omega arith) (omega arith));
  boots_once = boots-served m d core (guard_of start) result io b (λ seven. no 7 seven (omega arith) (omega arith) (omega arith)) (λ twelve. no 12 twelve (omega arith) (omega arith) (omega arith));
  newer = newer-run (opened (at_entry m d core) (with_boot b.begins.0 (m.places core.mech))) (guard_of end).state b.begins.0 _ _ _ refl refl b.begins.1 starts (as_read core.disk) (rw b.begins.2 at proceeds.continues) e.motions;
  finishes = λ sink disk. told-any (d.held core.disk) _ (λ bytes J stands fits. done sink);
}
  where
    one : (result.status ≡ 0) ⊎ (((result.status ≡ 5) × Rose io.write_faults io.write_faults_now) ⊎ (result.status ≡ 8))
    one = ends-status _ _ _ _ _ (output_of io) loads

    no : (n : ℕ) → result.status ≡ n → n ≢ 0 → n ≢ 5 → n ≢ 8 → ⊥
    no n is not_0 not_5 not_8 = elim one [
      | inl zero_is ↦ not_0 (omega (arith, is, zero_is))
      | inr (inl five) ↦ not_5 (let f = five.0 in omega (arith, is, f))
      | inr (inr eight) ↦ not_8 (omega (arith, is, eight))
    ]

    cause : result.status ≡ 5 → Rose io.write_faults io.write_faults_now
    cause is = elim one [
      | inl zero_is ↦ absurd (omega (arith, is, zero_is))
      | inr (inl five) ↦ five.1
      | inr (inr eight) ↦ absurd (omega (arith, is, eight))
    ]

    done : ¬ (Rose io.write_faults io.write_faults_now) → IsFinished result.status
    done sink = elim one [
      | inl zero_is ↦ inl zero_is
      | inr (inl five) ↦ absurd (sink five.1)
      | inr (inr eight) ↦ inr eight
    ]

-- the status of a load that is over
pub ends-one : (key : List ℕ) (rounds : ℕ) (s new : State) (status : ℕ) (o : Output) → EndsLoad key rounds s new status o → IsStatus status × (status ≢ 2)
ends-one key rounds s new status o loads = elim (ends-status key rounds s new status o loads) [
  | inl zero_is ↦ (inl zero_is, λ two. omega (arith, zero_is, two))
  | inr (inl five) ↦ (inr (inr (inr (inr (inl five.0)))), λ two. (let f = five.0 in omega (arith, f, two)))
  | inr (inr eight) ↦ (inr (inr (inr (inr (inr (inr (inr (inl eight))))))), λ two. omega (arith, eight, two))
]

-- a load that was played whole ends as its line is told
pub told-ends : (key : List ℕ) (rounds : ℕ) (s new : State) (status : ℕ) (o : Output) (summary : Summary) → IsSummary key rounds s new summary → WritesTextOrNot (lines_text (summary_line summary ∷ [])) status o → EndsLoad key rounds s new status o
told-ends key rounds s new status o summary sums (inl tells) = inl (record { summary = summary; sums = sums; tells = tells })
told-ends key rounds s new status o summary sums (inr silent) = inr (record { silent = silent; played = inr (record { summary = summary; sums = sums }) })
