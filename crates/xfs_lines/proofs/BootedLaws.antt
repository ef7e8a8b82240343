-- What was written from the boot on, once the mechanism and the disk come back.
use Rattle.std.proofs.Common.{◌≡◌, ◌≤◌, ℕ, false, List, None, Some, codes, inl, inr, refl, sym, ◌∙◌, ap, subst, arith}
use Rattle.std.specs.Prelude.{is_some}
use Rattle.std.specs.declared.option.Option.{Option}
use Rattle.xfs_base.specs.Causes.{IfTold, Rose}
use Rattle.xfs_base.specs.declared.counts.Places.{Places}
use Rattle.xfs_journal.specs.JournalView.{HasPossible}
use Rattle.xfs_journal.specs.Image.{StandsFor}
use Rattle.xfs_journal.specs.declared.record.Rec.{Rec}
use Rattle.xfs_journal.specs.Journal.{with_boot}
use Rattle.xfs_guard.specs.View.{View, GuardView}
use Rattle.xfs_guard.proofs.ContinueLaws.{only-possible}
use Rattle.xfs_lines.specs.Boots.{EndsFailed, BootExceeds, EndsFull, WritesBoot, boot_status}
use Rattle.xfs_journal.specs.declared.limits.Limits.{Limits}
use Rattle.xfs_lines.specs.Output.Statuses.{HasFullRestart}
use Rattle.xfs_guard.specs.declared.fail.BootFault.{BootFault}
use Rattle.xfs_guard.specs.declared.fail.BootFault.TheVariants.{NotJournal, Disk, Full, Memory as BootMemory}
use Rattle.xfs_lines.specs.Guard.Restarts.{EndsRestart, HasNoRoom, IsFull, RestartCause}
use Rattle.xfs_guard.specs.Entries.{AtEntry, opened}
use Rattle.xfs_lines.specs.Guard.Starts.{IsStart}
use Rattle.xfs_lines.specs.Runs.{IsEnd, IsStillAt}
use Rattle.xfs_script.specs.Streams.{Streams}
use Rattle.xfs_lines.specs.Returns.{Return}
use Rattle.xfs_disk.specs.declared.disk.Disk.{Ghosts as Disks}
use Rattle.xfs_mech.specs.declared.mechanism.Mechanism.{Ghosts as Mechanisms}
use Rattle.xfs_script.specs.Commands.{Command}
use Rattle.xfs_lines.specs.Output.InputEnds.{EndsUnbooted, EndsInput, ending_status}
use Rattle.xfs_script.specs.Endings.{AnswersInput}
use Rattle.xfs_script.specs.declared.answerer.Ending.TheVariants.{Ended}
use Rattle.xfs_lines.proofs.EndingLaws.{is-boot}
use Rattle.xfs_lines.specs.Guard.States.{GuardState, IsStill, guard_state}
use Rattle.xfs_script.specs.Lines.{behind, first_line}
use Rattle.xfs_guard.specs.Booting.{LacksRoom}

-- the last state is that of a guard which is over
pub ends-at : {M D : Type 0} (m : Mechanisms M) (d : Disks D) (v : View) (result : Return M D)
    → m.motions result.mech ≡ v.motions → m.places result.mech ≡ v.places → m.faults result.mech ≡ v.faults
    → IfTold (d.held result.disk) (λ _. (bytes : List ℕ) → d.images result.disk bytes → HasPossible v.records v.in_doubt bytes)
    → (s : GuardState) → s.guard ≡ v → s.disk_faults ≡ d.faults result.disk → IsEnd m d result s
ends-at m d v result motions places faults stored s is disk = record {
  motions = ap (λ (w : View). w.motions) is ∙ sym motions;
  places = ap (λ (w : View). w.places) is ∙ sym places;
  mech_faults = ap (λ (w : View). w.faults) is ∙ sym faults;
  disk_faults = disk;
  stored = subst (λ (w : View). IfTold (d.held result.disk) (λ _. (bytes : List ℕ) → d.images result.disk bytes → HasPossible w.records w.in_doubt bytes)) (sym is) stored;
}

-- such a state leaves the mechanism as it stood in an earlier one, where it is still so
pub still-at : {M D : Type 0} (m : Mechanisms M) (d : Disks D) (result : Return M D) (end s : GuardState) → IsEnd m d result end
    → IsStill end.guard.motions end.guard.places end.guard.faults end.disk_faults s → IsStillAt m d result s
still-at m d result end s ends still = record {
  motions_are = still.motions_are ∙ ends.motions;
  places_are = still.places_are ∙ ends.places;
  mech_is = still.mech_is ∙ ends.mech_faults;
  later = let low = still.later in let same = ends.disk_faults in omega (arith, low, same);
}

-- a count that rose in a part rose in the whole
pub rose-later : (a b c : ℕ) → a ≤ b → Rose b c → Rose a c
rose-later a b c le rose = omega (arith, le, rose)

-- the causes of the statuses of a restart that is refused
pub failed-then : (status : ℕ) (why : BootFault) (s end : GuardState) → status ≡ boot_status why → RestartCause s why end → status ≡ 6 → Rose s.disk_faults end.disk_faults
failed-then status (NotJournal at) s end is cause six = absurd (omega (arith, is, six))
failed-then status Disk s end is cause six = cause
failed-then status Full s end is cause six = absurd (omega (arith, is, six))
failed-then status BootMemory s end is cause six = absurd (omega (arith, is, six))

pub untold-then : (status : ℕ) (why : BootFault) (s end : GuardState) → status ≡ boot_status why → RestartCause s why end → status ≡ 7 → s.guard.disk_told ≡ false
untold-then status (NotJournal at) s end is cause seven = cause
untold-then status Disk s end is cause seven = absurd (omega (arith, is, seven))
untold-then status Full s end is cause seven = absurd (omega (arith, is, seven))
untold-then status BootMemory s end is cause seven = absurd (omega (arith, is, seven))

pub full-then : (status : ℕ) (why : BootFault) (s end : GuardState) → status ≡ boot_status why → RestartCause s why end → status ≡ 12 → HasNoRoom s.guard × IsFull end.guard
full-then status (NotJournal at) s end is cause twelve = absurd (omega (arith, is, twelve))
full-then status Disk s end is cause twelve = absurd (omega (arith, is, twelve))
full-then status Full s end is cause twelve = cause
full-then status BootMemory s end is cause twelve = absurd (omega (arith, is, twelve))

-- a command that ends at nothing but a restart which is refused
abbrev pub EndsAtRestarts : {S : Type 0} → Command S BootFault → (S → GuardState) → Type 0
EndsAtRestarts {S} c see = (s : S) (text : List ℕ) (why : BootFault) (end : S) → c.EndsAt s text why end → EndsRestart see s text why end

-- a run that ended at a refused restart, by its status
module _ {S A : Type 0} (c : Command S BootFault) (see : S → GuardState) (restarts : EndsAtRestarts c see) (Keeps : A → A → Type 0) (state : A → S) where
  fails : (start : A) (status : ℕ) (end : S) (u : EndsUnbooted Keeps state c start status end) → RestartCause (see (state u.after.before)) u.why (see end)
  fails start status end u = (restarts (state u.after.before) u.after.line u.why end u.after.ends).fails.cause

  pub failed-end : (start : A) (status : ℕ) (end : S) → ((a b : A) → Keeps a b → (see (state a)).disk_faults ≤ (see (state b)).disk_faults) → EndsUnbooted Keeps state c start status end
      → status ≡ 6 → Rose (see (state start)).disk_faults (see end).disk_faults
  failed-end start status end later u six =
      rose-later _ _ _ (later start u.after.before u.after.keeps) (failed-then status u.why (see (state u.after.before)) (see end) u.status_is (fails start status end u) six)

  pub untold-end : (start : A) (status : ℕ) (end : S) → ((a b : A) → Keeps a b → (see (state b)).guard.disk_told ≡ (see (state a)).guard.disk_told) → EndsUnbooted Keeps state c start status end
      → status ≡ 7 → (see (state start)).guard.disk_told ≡ false
  untold-end start status end told u seven =
      sym (told start u.after.before u.after.keeps) ∙ untold-then status u.why (see (state u.after.before)) (see end) u.status_is (fails start status end u) seven

  pub left-full : (start : A) (status : ℕ) (end : S) → EndsUnbooted Keeps state c start status end → status ≡ 12 → IsFull (see end).guard
  left-full start status end u twelve = (full-then status u.why (see (state u.after.before)) (see end) u.status_is (fails start status end u) twelve).1

-- a guard whose boot record has no room leaves a disk that reads as its list
pub full-end : (v : View) (limits : Limits) (places : Places) (held : Option (List ℕ)) (images : List ℕ → Type 0) → v.limits ≡ limits → places ≡ v.places
    → ((bytes : List ℕ) → held ≡ Some bytes → images bytes) → IfTold held (λ _. (bytes : List ℕ) → images bytes → HasPossible v.records v.in_doubt bytes) → IsFull v → LacksRoom held limits places
full-end v limits places held images l p read stored full = (v.records, go held read stored, rw (← l, p) full.exceeds_limit)
  where
    go : (held : Option (List ℕ)) → ((bytes : List ℕ) → held ≡ Some bytes → images bytes) → IfTold held (λ _. (bytes : List ℕ) → images bytes → HasPossible v.records v.in_doubt bytes) → IfTold held (λ bytes. StandsFor bytes v.records)
    go None read stored = tt
    go (Some bytes) read stored =
        let kept = stored bytes (read bytes refl) in
        let here : StandsFor bytes kept.0 = inl kept.2 in
        rw (only-possible v.records kept.0 v.in_doubt full.clear kept.1) at here

-- a fact of what a source tells gives another
pub told-more : {T : Type 0} (held : Option T) (P Q : T → Type 0) → ((x : T) → P x → Q x) → IfTold held P → IfTold held Q
told-more None P Q more h = tt
told-more (Some x) P Q more h = more x h

pub told-any : {T : Type 0} (held : Option T) (Q : T → Type 0) → ((x : T) → Q x) → IfTold held Q
told-any None Q all = tt
told-any (Some x) Q all = all x

-- the start of a run
pub starts-run : {D : Type 0} (faults : D → ℕ) (g : GuardView D) (e : AtEntry) (J : List Rec)
    → IfTold e.held (λ bytes. StandsFor bytes J) → g.state ≡ opened e (with_boot J e.places) → e.disk_faults ≤ faults g.disk → IsStart e (guard_state faults g None)
starts-run faults g e J stands is later = record { records = J; stands = stands; guard_is = is; later = later; none = refl }

pub none-told : {T : Type 0} (held : Option T) → is_some held ≡ false → held ≡ None
none-told None e = refl
none-told (Some x) e = cc

-- a refused boot whose disk failed
pub ends-failed : (why : BootFault) (faults now : ℕ) (io : Streams) (status : ℕ) → status ≡ boot_status why → WritesBoot why io → (why ≡ Disk → Rose faults now)
    → status ≡ 6 → EndsFailed faults now io
ends-failed (NotJournal at) faults now io status is written failed six = absurd (omega (arith, is, six))
ends-failed Disk faults now io status is written failed six = record { cause = failed refl; written = written }
ends-failed Full faults now io status is written failed six = absurd (omega (arith, is, six))
ends-failed BootMemory faults now io status is written failed six = absurd (omega (arith, is, six))

-- a refused boot whose boot record passes a limit
pub ends-full : (why : BootFault) (limits : Limits) (places : Places) (held : Option (List ℕ)) (io : Streams) (status : ℕ) → status ≡ boot_status why → WritesBoot why io
    → (why ≡ Full → LacksRoom held limits places) → status ≡ 12 → EndsFull limits places held io
ends-full (NotJournal at) limits places held io status is written full twelve = absurd (omega (arith, is, twelve))
ends-full Disk limits places held io status is written full twelve = absurd (omega (arith, is, twelve))
ends-full Full limits places held io status is written full twelve = record { lacks = full refl; written = written }
ends-full BootMemory limits places held io status is written full twelve = absurd (omega (arith, is, twelve))

-- under status 12 a restart found no room for its boot record
pub full-line : {S : Type 0} (c : Command S BootFault) (see : S → GuardState) → EndsAtRestarts c see → (IsStartOf : S → Type 0) (Still : GuardState → Type 0) (start end : S) (status : ℕ) (io : Streams) → IsStartOf start
    → ((s : GuardState) → IsStill (see end).guard.motions (see end).guard.places (see end).guard.faults (see end).disk_faults s → Still s)
    → IfTold io.input (EndsInput c start end status io) → status ≡ 12 → IfTold io.input (HasFullRestart (codes "restart") c see IsStartOf Still)
full-line c see restarts IsStartOf Still start end status io begins more h twelve = told-more io.input _ _ (λ text h. go text h) h
  where
    go : (text : List ℕ) → EndsInput c start end status io text → HasFullRestart (codes "restart") c see IsStartOf Still text
    go text h =
        let e = is-boot h.ending (inr (inr (sym h.status_is ∙ twelve))) in
        let a : AnswersInput c (Ended e.0) start end io.left io.output h.answered text = rw e.1 at h.answers in
        let r = restarts a.last (first_line (behind a.many text)) e.0 end a.ends.0 in
        let full = full-then status e.0 (see a.last) (see end) (h.status_is ∙ ap ending_status e.1) r.fails.cause twelve in
        record {
          start = start;
          begins = begins;
          many = a.many;
          output = a.output;
          last = a.last;
          each = a.each;
          line = r.restart;
          full = full.0;
          ends = more (see a.last) r.fails.still;
        }
