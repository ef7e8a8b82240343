-- A run of a command that boots is as its record says: where its lines were served, and where the boot was refused.
use Rattle.std.proofs.Common.{◌≡◌, ◌≤◌, [], ℕ, List, None, Some, inl, inr, refl, sym, ◌∙◌, ap, arith}
use Rattle.xfs_base.specs.Causes.{Rose}
use Rattle.xfs_disk.specs.declared.disk.Disk.{Ghosts as Disks}
use Rattle.xfs_mech.specs.declared.mechanism.Mechanism.{Ghosts as Mechanisms}
use Rattle.xfs_journal.specs.Journal.{with_boot}
use Rattle.xfs_guard.specs.Continues.{Continues}
use Rattle.xfs_guard.specs.Keeps.{Proceeds}
use Rattle.xfs_guard.specs.View.{View, GuardView}
use Rattle.xfs_guard.specs.declared.fail.BootFault.{BootFault}
use Rattle.xfs_guard.specs.declared.machine_core.Core.{Core}
use Rattle.xfs_script.specs.Commands.{Command}
use Rattle.xfs_lines.specs.Boots.{WritesBoot, boot_status}
use Rattle.xfs_guard.specs.Entries.{at_entry, opened}
use Rattle.xfs_lines.specs.Guard.Restarts.{IsFull}
use Rattle.xfs_lines.specs.Runs.{IsEnd, Runs}
use Rattle.xfs_lines.specs.Guard.States.{GuardState}
use Rattle.xfs_lines.specs.Output.InputEnds.{IsAnswered}
use Rattle.xfs_script.specs.Streams.{Streams}
use Rattle.xfs_lines.specs.Returns.{Return}
use Rattle.xfs_lines.proofs.BootedLaws.{EndsAtRestarts, failed-end, untold-end, left-full, ends-at, still-at, told-more, told-any, ends-failed, ends-full, none-told, full-end, full-line}
use Rattle.xfs_lines.proofs.EndLaws.{finishes, causes-served, causes-refused}
use Rattle.xfs_lines.proofs.EndingLaws.{boot-least}
use Rattle.xfs_lines.proofs.NumberLaws.{newer-run, newer-same}
use Rattle.xfs_lines.proofs.RunLaws.{Starts, ends-unread, due-full, due-unread, journal-run, fits-run}
use Rattle.xfs_lines.proofs.UnreadLaws.{unwritten-quiet}
use Rattle.xfs_guard.specs.Outcomes.{BootsGuard, RefusesBoot}
use Rattle.xfs_lines.proofs.EndsLaws.{HasEnded}
use Rattle.xfs_journal.specs.Held.{StandsForNone}
use Rattle.xfs_guard.specs.Booting.{LacksRoom}

module _ {M D S A : Type 0} (m : Mechanisms M) (d : Disks D) (c : Command S BootFault) (see : S → GuardState) (IsStartOf : S → Type 0) (Keeps : A → A → Type 0) (state : A → S) (guard : A → GuardView D)
    (as_read : (disk : D) (all : List ℕ) → d.held disk ≡ Some all → d.images disk all) (restarts : EndsAtRestarts c see) (empty : c.IsLine [])
    (guard_is : (a : A) → (see (state a)).guard ≡ (guard a).state) (keeps : (a b : A) → Keeps a b → Proceeds d (guard a) (guard b))
    (later : (a b : A) → Keeps a b → (see (state a)).disk_faults ≤ (see (state b)).disk_faults) where
  told_is : (a : A) → (see (state a)).guard.disk_told ≡ (guard a).state.disk_told
  told_is a = ap (λ (v : View). v.disk_told) (guard_is a)

  still_told : (a b : A) → Keeps a b → (see (state b)).guard.disk_told ≡ (see (state a)).guard.disk_told
  still_told a b k = told_is b ∙ ((keeps a b k).continues.disk_told ∙ sym (told_is a))

  -- where the boot was not refused
  pub runs-served : (core : Core M D) (result : Return M D) (io : Streams) (start end : A) → BootsGuard d (at_entry m d core) core.disk (guard start) → d.faults core.disk ≤ (see (state start)).disk_faults → (see (state end)).disk_faults ≡ d.faults result.disk → IsStartOf (state start) → IsAnswered Keeps state c start end result.status io → HasEnded m d (guard end) result
      → Starts (d.held core.disk) (d.images core.disk) core.key core.units (m.motions core.mech) → Runs c see IsStartOf m d core result io
  runs-served core result io start end b low high begins s e starts = record {
    answers = told-more io.input _ _ (λ text answers. inr (record {
      start = state start;
      begins = begins;
      writes = record { end = state end; ends = ends; answers = answers };
    })) s.answers;
    lines = s.lines;
    not_a_line = s.not_a_line;
    disk_fault = λ six. inr (record { start = state start; begins = begins; writes = failed six });
    not_journal = λ seven. inr (record { start = state start; begins = begins; writes = untold seven });
    full = λ twelve. inr (record { start = state start; begins = begins; writes = overfull twelve });
    unread = journal-run b.begins.0 _ _ b.begins.1;
    unwritten = journal-run b.begins.0 _ _ b.begins.1;
    unmoved = journal-run b.begins.0 _ _ b.begins.1;
    overfull = fits-run _ _ (guard start).state _ _ b.fits;
    newer = newer-run (opened (at_entry m d core) (with_boot b.begins.0 (m.places core.mech))) (guard end).state b.begins.0 _ _ _ refl refl b.begins.1 starts (as_read core.disk) (rw b.begins.2 at continues) e.motions;
    finishes = λ none. finishes _ _ empty _ _ io.left _ _ _ _ _ _ (causes-served _ _ _ _ _ _ _ _ _ _ _ s.statuses s.usage failed untold
        (λ twelve. full-line c see restarts IsStartOf _ (state start) (state end) result.status io begins
        (λ x. still-at m d result (see (state end)) x ends)
        s.answers twelve) s.causes.read s.not_a_line s.causes.write s.causes.quota) none.source none.sink none.disk;
  }
    where
      ends : IsEnd m d result (see (state end))
      ends = ends-at m d (guard end).state result e.motions e.places e.faults e.stored (see (state end)) (guard_is end) high

      continues : Continues (guard start).state (guard end).state
      continues = (keeps start end s.keeps).continues

      failed : result.status ≡ 6 → Rose (d.faults core.disk) (d.faults result.disk)
      failed six =
          let rose = failed-end c see restarts Keeps state start result.status (state end) later (s.unbooted (inl six)) six in
          omega (arith, low, rose, high)

      untold : result.status ≡ 7 → d.held core.disk ≡ None
      untold seven =
          let quiet = untold-end c see restarts Keeps state start result.status (state end) still_told (s.unbooted (inr (inl seven))) seven in
          none-told (d.held core.disk) (sym (ap (λ (v : View). v.disk_told) b.begins.2) ∙ (sym (told_is start) ∙ quiet))

      overfull : result.status ≡ 12 → LacksRoom (d.held result.disk) core.limits (m.places result.mech)
      overfull twelve =
          let limits = continues.limits ∙ ap (λ (v : View). v.limits) b.begins.2 in
          let full : IsFull (guard end).state = rw (guard_is end) at (left-full c see restarts Keeps state start result.status (state end) (s.unbooted (inr (inr twelve))) twelve) in
          full-end (guard end).state _ _ _ _ limits e.places (as_read result.disk) e.stored full

-- where it was refused
pub runs-refused : {M D S : Type 0} (m : Mechanisms M) (d : Disks D) (c : Command S BootFault) (see : S → GuardState) (IsStartOf : S → Type 0) → c.IsLine [] → (core : Core M D) (why : BootFault) (result : Return M D) (io : Streams)
    → result.mech ≡ core.mech → RefusesBoot d (at_entry m d core) core.disk why result.disk → result.status ≡ boot_status why → WritesBoot why io → io.left ≡ io.input → Runs c see IsStartOf m d core result io
runs-refused m d c see IsStartOf empty core why result io same f status written unread = record {
  answers = told-any io.input _ (λ text. inl (record { why = why; status_is = status; unread = unread; written = written; unmoved = same }));
  lines = λ zero. absurd (omega (arith, low, status, zero));
  not_a_line = λ four. absurd (omega (arith, low, status, four));
  disk_fault = λ six. inl (ends-failed _ _ _ _ _ status written f.disk six);
  not_journal = λ seven. inl (ends-unread _ _ _ _ status written f.not_journal seven);
  full = λ twelve. inl (ends-full _ _ _ _ _ _ status written f.full twelve);
  unread = due-unread _ _ _ status f.full;
  unwritten = unwritten-quiet d core.disk result.disk f.unlisted;
  unmoved = told-any (d.held core.disk) (λ bytes. StandsForNone bytes → result.mech ≡ core.mech) (λ bytes none. same);
  overfull = due-full _ _ _ _ _ status f.not_journal;
  newer = rw same (newer-same _ _);
  finishes = λ none. finishes _ _ empty _ _ io.left _ _ _ _ _ _ (causes-refused _ _ _ _ _ _ _ _ _ _ _ _ status f.not_journal f.disk f.full) none.source none.sink none.disk;
}
  where
    low : 6 ≤ boot_status why
    low = (boot-least why).0
