-- A run of `serve` is as its record says: where its connections were taken, and where the boot was refused.
use Rattle.std.proofs.Common.{◌≡◌, ◌≢◌, ◌≤◌, ◌∷◌, [], ◌⊎◌, ℕ, List, None, Some, Result, Ok, Err, Bool, true, false, is_ok, inl, inr, refl, subst, sym, ap, ◌∙◌, arith, length}
use Rattle.std.proofs.lemmas.Bool.{false≢true}
use Rattle.std.specs.declared.option.Option.{Option}
use Rattle.xfs_base.specs.Causes.{IfTold, Rose, next_count}
use Rattle.xfs_disk.specs.declared.disk.Disk.{Ghosts as Disks}
use Rattle.xfs_mech.specs.declared.mechanism.Mechanism.{Ghosts as Mechanisms}
use Rattle.xfs_journal.specs.JournalView.{HasPossible}
use Rattle.xfs_journal.specs.declared.record.Rec.{Rec}
use Rattle.xfs_guard.specs.Continues.{Continues}
use Rattle.xfs_guard.specs.Entries.{AtEntry, opened, at_entry}
use Rattle.xfs_guard.specs.Reach.{BeginsBehind, IsComparable, StandsBehind}
use Rattle.xfs_guard.specs.View.{GuardView, View}
use Rattle.xfs_guard.proofs.BegunLaws.{begun}
use Rattle.xfs_guard.proofs.BootLaws.{base_of-boot}
use Rattle.xfs_journal.specs.Journal.{with_boot}
use Rattle.xfs_guard.specs.Lives.{BeginsWith}
use Rattle.xfs_guard.specs.declared.deny.Deny.{Deny}
use Rattle.xfs_guard.specs.declared.fail.BootFault.{BootFault}
use Rattle.xfs_guard.specs.declared.fail.BootFault.TheVariants.{NotJournal, Disk, Full, Memory}
use Rattle.xfs_guard.specs.declared.machine_core.Core.{Core}
use Rattle.xfs_guard.specs.declared.open.Open.{Open}
use Rattle.xfs_guard.specs.declared.open.Open.TheVariants.{No, Written, Acted}
use Rattle.xfs_dispenser.specs.Seen.{Seen, seen}
use Rattle.xfs_machine.specs.Answers.{finished}
use Rattle.xfs_machine.specs.Endings.{Finishes, IsHandedBack}
use Rattle.xfs_machine.specs.MachineView.{MachineView, guard_of}
use Rattle.xfs_model.specs.Events.{finish, unsettled as unsettled_}
use Rattle.xfs_model.specs.Guards.{Closes, SettlesOn, unwritten}
use Rattle.xfs_model.specs.State.{State, bare}
use Rattle.xfs_model.specs.Step.{Step, gone, happens, wanting}
use Rattle.xfs_model.proofs.Advancing.{advances}
use Rattle.xfs_server.specs.Counted.{counted}
use Rattle.xfs_server.specs.Doors.{DoorLog}
use Rattle.xfs_serving.specs.Takings.{Takes, faults_in}
use Rattle.xfs_serving.specs.declared.ending.Ending.{Ending}
use Rattle.xfs_serving.specs.declared.ending.Ending.TheVariants as taking
use Rattle.xfs_lines.specs.Boots.{WritesBoot, boot_status}
use Rattle.xfs_lines.specs.Returns.{Return}
use Rattle.xfs_cli.specs.ServeRuns.{ClosesBehind, RunsServe, served_line, served_status}
use Rattle.xfs_lines.specs.Output.Statuses.{IsFinished, IsOneOf}
use Rattle.xfs_script.specs.Streams.{Output, unread_io}
use Rattle.xfs_lines.specs.declared.output.status.TheConstants.{DISK_FAULT, JOURNAL_FULL, LINK_FAILED, NOT_A_JOURNAL, NO_MEMORY, READ_TO_END}
use Rattle.xfs_lines.proofs.BootedLaws.{ends-failed, told-any}
use Rattle.xfs_cli.proofs.BootsOnceLaws.{boots-refused, boots-served}
use Rattle.xfs_lines.proofs.EndingLaws.{boot-least}
use Rattle.xfs_cli.proofs.LoadLaws.{refused-finishes}
use Rattle.xfs_script.specs.LastLines.{WritesLast}
use Rattle.xfs_guard.specs.Outcomes.{BootsGuard, RefusesBoot}
use Rattle.xfs_journal.specs.Held.{StandsForSome}
use Rattle.xfs_guard.proofs.LifeLaws.{begins-trans, possible-begins}

-- ---- the records at the end begin with those of the boot

stands-more : (held' : Option (List ℕ)) (images' : List ℕ → Type 0) (from records : List Rec) (doubt : Option Rec) → BeginsWith records from
    → IfTold held' (λ _. (image : List ℕ) → images' image → HasPossible records doubt image) → IfTold held' (λ _. (image : List ℕ) → images' image → StandsForSome (λ list. BeginsWith list from) image)
stands-more None images' from records doubt begins stored = tt
stands-more (Some now) images' from records doubt begins stored = λ image left.
    let kept = stored image left in
    record { records = kept.0; stands = inl kept.2; such = begins-trans from records kept.0 begins (possible-begins records doubt kept.0 kept.1) }

-- ---- an open order isn't settled only where the disk failed

unsettles : (old new : Seen) → SettlesOn old false new → Rose old.disk_faults new.disk_faults
unsettles old new (unwritten now is later rose) = rose

unclosed : (o : Open) (old new : Seen) → Closes o old false new → Rose old.disk_faults new.disk_faults
unclosed No old new is = absurd (false≢true is.0)
unclosed (Written kind counts) old new is =
    let rose = unsettles is.between new is.settles in
    let same = is.acts.called.disk_same in
    omega (arith, rose, same)
unclosed (Acted kind moved diverted failed) old new is = unsettles old new is

unfinished : (old new : State) → Step old finish unsettled_ new → Rose old.seen.disk_faults new.seen.disk_faults
unfinished old new (happens there is) = subst (λ (s : State). Rose old.seen.disk_faults s.seen.disk_faults) (sym is.is) (unclosed old.seen.guard.open_order old.seen is.next is.closes)
unfinished old new (wanting memory wants) = absurd wants

-- the line that says so
wrote-failed : (settled : Result Unit Deny) (deny : Deny) (o : Output) → settled ≡ Err deny → WritesLast (served_line settled) o → WritesBoot Disk (unread_io o)
wrote-failed (Err e) deny o is line = line
wrote-failed (Ok done) deny o is line = absurd (false≢true (sym (ap is_ok is)))

-- ---- the statuses of a server that has booted

served-one : (ending : Ending) (settled : Result Unit Deny) (status : ℕ) → status ≡ served_status ending settled
    → (status ≡ DISK_FAULT × ((deny : Deny) × (settled ≡ Err deny))) ⊎ ((status ≡ READ_TO_END × (ending ≡ taking.Served)) ⊎ ((status ≡ LINK_FAILED × (ending ≡ taking.Failed)) ⊎ (status ≡ NO_MEMORY)))
served-one ending (Err deny) status is = inl (is, (deny, refl))
served-one taking.Served (Ok done) status is = inr (inl (is, refl))
served-one taking.Failed (Ok done) status is = inr (inr (inl (is, refl)))
served-one taking.Memory (Ok done) status is = inr (inr (inr is))

-- ---- what stands behind the base of the boot

pub closes-behind : {M D : Type 0} (m : Mechanisms M) (d : Disks D) (e : AtEntry) (records : List Rec) (start : View) (last : GuardView D) (mech : M) (disk : D)
    → start ≡ opened e (with_boot records e.places) → Continues start last.state → IsHandedBack m d (seen d last) mech disk → ClosesBehind m d start mech disk
closes-behind m d e records start last mech disk is goes_on back = record {
  last = last;
  goes_on = goes_on;
  back = back;
  numbered = ((stood false (λ compared. absurd (false≢true compared))).recorded last.state.records (inl refl)).numbered;
  recorded = λ none. rw (back.motions, ← goes_on.key, ← goes_on.units) ((stood true (λ compared. none)).recorded last.state.records (inl refl));
}
  where
    begins : BeginsBehind start
    begins = begun start records e.places (ap (λ (v : View). v.records) is) (ap (λ (v : View). v.base) is ∙ base_of-boot records e.places) (ap (λ (v : View). v.open_order) is) (ap (λ (v : View). v.in_doubt) is)

    stood : (compared : Bool) → IsComparable compared start.base start.motions → StandsBehind compared start.base last.state
    stood compared comparable = goes_on.behind compared start.base (begins compared comparable)

-- where the boot was not refused
pub serves-booted : {M D : Type 0} (m : Mechanisms M) (d : Disks D) (core : Core M D) (connections : ℕ) (result : Return M D) (before now : DoorLog) (o : Output) (start : MachineView D) (last : State) (ending : Ending) (settled : Result Unit Deny)
    → BootsGuard d (at_entry m d core) core.disk (guard_of start) → start.state ≡ bare start.state.seen core.life (length start.state.seen.guard.records)
    → start.state.seen.disk_faults ≡ d.faults start.disk → Takes connections ending before now → Continues start.state.seen.guard last.seen.guard → start.state.seen.disk_faults ≤ last.seen.disk_faults
    → Finishes m d last settled result.mech result.disk → ClosesBehind m d start.state.seen.guard result.mech result.disk → result.status ≡ served_status ending settled
    → WritesLast (served_line settled) o → RunsServe m d core connections result before now o
serves-booted m d core connections result before now o start last ending settled b bare_is tied takes goes_on grown f closes status line = record {
  serves = inr (record {
    start = start.state;
    begins = record { boots = record { records = b.begins.0; stands = b.begins.1; guard_is = b.begins.2; later = low; none = refl }; machine = bare_is };
    writes = record {
      ending = ending;
      takes = takes;
      last = last;
      goes_on = goes_on;
      later = grown;
      settled = settled;
      finishes = f;
      status_is = status;
      line = line;
      closes = closes;
      begins = stands-more _ _ _ f.0.guard.records f.0.guard.in_doubt begun f.2.stored;
    };
  });
  status_is = elim one [
    | inl disk ↦ inr (inl disk.0)
    | inr (inl all) ↦ inl all.0
    | inr (inr (inl failed)) ↦ inr (inr (inr (inr (inl failed.0))))
    | inr (inr (inr memory)) ↦ inr (inr (inr (inl memory)))
  ];
  came = λ zero_is. came_all zero_is;
  failed = λ nine. doors_failed nine;
  undialled = ap (λ (l : DoorLog). l.dials) takes.is;
  disk_fault = λ six. let u = unsettled six in record { cause = disk_rose u.0 u.1; written = wrote-failed settled u.0 o u.1 line };
  boots_once = boots-served m d core (guard_of start) result (unread_io o) b (λ seven. no_7 seven) (λ twelve. no_12 twelve);
  finishes = λ doors disk. told-any (d.held core.disk) _ (λ bytes J stands fits. done doors disk);
}
  where
    one : (result.status ≡ DISK_FAULT × ((deny : Deny) × (settled ≡ Err deny))) ⊎ ((result.status ≡ READ_TO_END × (ending ≡ taking.Served)) ⊎ ((result.status ≡ LINK_FAILED × (ending ≡ taking.Failed)) ⊎ (result.status ≡ NO_MEMORY)))
    one = served-one ending settled result.status status

    low : d.faults core.disk ≤ start.state.seen.disk_faults
    low = let later = b.leaves.faults in omega (arith, later, tied)

    disk_rose : (deny : Deny) → settled ≡ Err deny → Rose (d.faults core.disk) (d.faults result.disk)
    disk_rose deny is =
        let step : Step last finish (finished (Err deny)) (gone last f.0) = subst (λ (s : Result Unit Deny). Step last finish (finished s) (gone last f.0)) is f.1 in
        let rose = unfinished last (gone last f.0) step in
        let same = f.2.disk_faults in
        omega (arith, low, grown, rose, same)

    begun : BeginsWith f.0.guard.records start.state.seen.guard.records
    begun = begins-trans _ last.seen.guard.records _ goes_on.grew (advances last (gone last f.0) finish (finished settled) f.1).records

    came_all : result.status ≡ READ_TO_END → now.came ≡ counted connections before.came
    came_all zero_is = elim one [
      | inl disk ↦ absurd (let s = disk.0 in omega (arith, s, zero_is))
      | inr (inl all) ↦ ap (λ (l : DoorLog). l.came) takes.is ∙ ap (λ n. counted n before.came) (takes.all all.1)
      | inr (inr (inl failed)) ↦ absurd (let s = failed.0 in omega (arith, s, zero_is))
      | inr (inr (inr memory)) ↦ absurd (omega (arith, memory, zero_is))
    ]

    rose : ending ≡ taking.Failed → Rose before.faults now.faults
    rose is =
        let same : now.faults ≡ next_count before.faults = ap (λ (l : DoorLog). l.faults) takes.is ∙ ap (λ e. counted (faults_in e) before.faults) is in
        omega (arith, same)

    doors_failed : result.status ≡ LINK_FAILED → Rose before.faults now.faults
    doors_failed nine = elim one [
      | inl disk ↦ absurd (let s = disk.0 in omega (arith, s, nine))
      | inr (inl all) ↦ absurd (let s = all.0 in omega (arith, s, nine))
      | inr (inr (inl failed)) ↦ rose failed.1
      | inr (inr (inr memory)) ↦ absurd (omega (arith, memory, nine))
    ]

    unsettled : result.status ≡ DISK_FAULT → (deny : Deny) × (settled ≡ Err deny)
    unsettled six = elim one [
      | inl disk ↦ disk.1
      | inr (inl all) ↦ absurd (let s = all.0 in omega (arith, s, six))
      | inr (inr (inl failed)) ↦ absurd (let s = failed.0 in omega (arith, s, six))
      | inr (inr (inr memory)) ↦ absurd (omega (arith, memory, six))
    ]

    done : ¬ (Rose before.faults now.faults) → ¬ (Rose (d.faults core.disk) (d.faults result.disk)) → IsFinished result.status
    done doors calm = elim one [
      | inl disk ↦ absurd (calm (disk_rose disk.1.0 disk.1.1))
      | inr (inl all) ↦ inl all.0
      | inr (inr (inl failed)) ↦ absurd (doors (rose failed.1))
      | inr (inr (inr memory)) ↦ inr memory
    ]

    no : (n : ℕ) → result.status ≡ n → n ≢ 6 → n ≢ 0 → n ≢ 9 → n ≢ 8 → ⊥
    no n is not_6 not_0 not_9 not_8 = elim one [
      | inl disk ↦ not_6 (let s = disk.0 in omega (arith, is, s))
      | inr (inl all) ↦ not_0 (let s = all.0 in omega (arith, is, s))
      | inr (inr (inl failed)) ↦ not_9 (let s = failed.0 in omega (arith, is, s))
      | inr (inr (inr memory)) ↦ not_8 (omega (arith, is, memory))
    ]

    no_7 : result.status ≢ 7
    no_7 seven = no 7 seven (omega arith) (omega arith) (omega arith) (omega arith)

    no_12 : result.status ≢ 12
    no_12 twelve = no 12 twelve (omega arith) (omega arith) (omega arith) (omega arith)

-- where it was refused
pub serves-refused : {M D : Type 0} (m : Mechanisms M) (d : Disks D) (core : Core M D) (connections : ℕ) (why : BootFault) (result : Return M D) (before now : DoorLog) (o : Output)
    → result.mech ≡ core.mech → RefusesBoot d (at_entry m d core) core.disk why result.disk → result.status ≡ boot_status why → WritesBoot why (unread_io o) → now ≡ before → RunsServe m d core connections result before now o
serves-refused m d core connections why result before now o kept f status written same = record {
  serves = inl (record { unbooted = record { why = why; status_is = status; unread = refl; written = written; unmoved = kept }; untaken = same });
  status_is = refused-one why result.status status;
  came = λ zero_is. absurd (omega (arith, low, status, zero_is));
  failed = λ nine. absurd (not-nine why (sym status ∙ nine));
  undialled = ap (λ (l : DoorLog). l.dials) same;
  disk_fault = λ six. ends-failed _ _ _ _ _ status written f.disk six;
  boots_once = boots-refused m d core why result (unread_io o) kept f status written;
  finishes = λ doors disk. refused-finishes why _ _ _ _ _ _ status f.not_journal f.disk f.full disk;
}
  where
    low : 6 ≤ boot_status why
    low = (boot-least why).0

    refused-one : (why : BootFault) (status : ℕ) → status ≡ boot_status why → IsOneOf (READ_TO_END ∷ DISK_FAULT ∷ NOT_A_JOURNAL ∷ NO_MEMORY ∷ LINK_FAILED ∷ JOURNAL_FULL ∷ []) status
    refused-one (NotJournal at) status is = inr (inr (inl is))
    refused-one Disk status is = inr (inl is)
    refused-one Full status is = inr (inr (inr (inr (inr (inl is)))))
    refused-one Memory status is = inr (inr (inr (inl is)))

    not-nine : (why : BootFault) → boot_status why ≡ LINK_FAILED → ⊥
    not-nine (NotJournal at) is = absurd (omega (arith, is))
    not-nine Disk is = absurd (omega (arith, is))
    not-nine Full is = absurd (omega (arith, is))
    not-nine Memory is = absurd (omega (arith, is))

-- no status of a server is that of words that are no command
pub served-no-usage : (status : ℕ) → IsOneOf (READ_TO_END ∷ DISK_FAULT ∷ NOT_A_JOURNAL ∷ NO_MEMORY ∷ LINK_FAILED ∷ JOURNAL_FULL ∷ []) status → status ≢ 2
served-no-usage status (inl is) two = omega (arith, is, two)
served-no-usage status (inr (inl is)) two = omega (arith, is, two)
served-no-usage status (inr (inr (inl is))) two = omega (arith, is, two)
served-no-usage status (inr (inr (inr (inl is)))) two = omega (arith, is, two)
served-no-usage status (inr (inr (inr (inr (inl is))))) two = omega (arith, is, two)
served-no-usage status (inr (inr (inr (inr (inr (inl is)))))) two = omega (arith, is, two)
served-no-usage status (inr (inr (inr (inr (inr (inr none)))))) two = absurd none
