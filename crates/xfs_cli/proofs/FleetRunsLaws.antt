-- A run of `fleet` is as its record says: where the lines were served, and where the boot of either machine was refused.
use Rattle.std.proofs.Common.{◌≡◌, ◌⊎◌, ◌≤◌, ◌++◌, [], ℕ, List, None, Some, inl, inr, ⊎_elim, refl, sym, ◌∙◌, ap, arith}
use Rattle.std.proofs.lemmas.List.{append-nil}
use Rattle.xfs_base.specs.Causes.{IfTold, Rose}
use Rattle.xfs_disk.specs.declared.disk.Disk.{Ghosts as Disks}
use Rattle.xfs_mech.specs.declared.mechanism.Mechanism.{Ghosts as Mechanisms}
use Rattle.xfs_guard.specs.Booting.{LacksRoom}
use Rattle.xfs_guard.specs.Entries.{at_entry}
use Rattle.xfs_guard.specs.Keeps.{Proceeds}
use Rattle.xfs_guard.specs.View.{View, GuardView}
use Rattle.xfs_guard.specs.declared.fail.BootFault.{BootFault}
use Rattle.xfs_guard.specs.declared.machine_core.Core.{Core}
use Rattle.xfs_machine.specs.MachineView.{MachineView, guard_of}
use Rattle.xfs_model.specs.State.{State}
use Rattle.xfs_fleet.specs.Boots.{IsBooted, IsRefusedBoot}
use Rattle.xfs_fleet.specs.Endings.{Ends}
use Rattle.xfs_fleet.specs.declared.side.Side.{Side}
use Rattle.xfs_fleet.specs.declared.side.Side.TheVariants as which
use Rattle.xfs_script.specs.Answered.{AnswersEach, lines_text}
use Rattle.xfs_script.specs.Endings.{AnswersInput}
use Rattle.xfs_script.specs.FleetLines.{IsOf, letter_mark, letter_a, letter_b}
use Rattle.xfs_script.specs.Lines.{behind, first_line, first_lines}
use Rattle.xfs_script.specs.declared.answerer.Ending.TheVariants.{AtEnd, Ended}
use Rattle.xfs_sides.proofs.SideLaws.{are-alone, empty-line}
use Rattle.xfs_sides.specs.Sides.{AreAlone, Sides}
use Rattle.xfs_lines.specs.Boots.{BootExceeds, WritesBoot, boot_status}
use Rattle.xfs_cli.specs.FleetRuns.{AreUnhindered, BeginsBoth, IsFirstUnbooted, RunsFleet, fleet_lines, restart_of, state_a, state_b}
use Rattle.xfs_cli.specs.Replay.Command.{Progresses, replay_lines}
use Rattle.xfs_cli.specs.Replay.Runs.{Begins}
use Rattle.xfs_cli.specs.Replay.States.{Played, begun, guard_state_of}
use Rattle.xfs_lines.specs.Guard.Restarts.{EndsRestart, IsFull}
use Rattle.xfs_lines.specs.Returns.{Return, ComesBack}
use Rattle.xfs_lines.specs.Runs.{IsEnd, IsStillAt, NothingFailed}
use Rattle.xfs_lines.specs.Output.InputEnds.{EndsInput, ending_status, IsAnswered}
use Rattle.xfs_lines.specs.Output.Statuses.{HasFullRestart, IsFinished}
use Rattle.xfs_script.specs.Streams.{Streams, output_of}
use Rattle.xfs_lines.specs.Headlines.{HasHeadline}
use Rattle.xfs_lines.proofs.BootedLaws.{ends-at, ends-failed, ends-full, failed-then, full-end, full-then, none-told, still-at, told-any, told-more, untold-then}
use Rattle.xfs_lines.proofs.EndingLaws.{boot-least, is-boot, is-end}
use Rattle.xfs_cli.proofs.FleetEndLaws.{HasCausesOf, at-list, causes-unbooted, finishes-of}
use Rattle.xfs_script.proofs.LastLaws.{last-taken}
use Rattle.xfs_lines.proofs.RunLaws.{due-full, due-unread, ends-unread, fits-run, journal-run}
use Rattle.xfs_lines.proofs.EndsLaws.{HasEnded}
use Rattle.xfs_cli.proofs.MachineLaws.{machine-ended}
use Rattle.xfs_script.specs.LastLines.{WritesLast}
use Rattle.xfs_guard.specs.Outcomes.{BootsGuard}
use Rattle.xfs_journal.specs.Held.{StandsForNone, OfJournal}
use Rattle.std.proofs.KnownBytes.{Appends-trans}

-- ---- one machine of a run whose lines were answered

-- the machine was booted, and came to its end by what is kept from line to line; `pick` is its part of what answers the lines
pub record IsPlayed {M D A : Type 0} (m : Mechanisms M) (d : Disks D) (Keeps : A → A → Type 0) (see : A → Played) (guard : A → GuardView D) (core : Core M D) (r : Return M D) (start end : A) : Type 0 where
  pub is : (x : A) → (see x).machine.seen.guard ≡ (guard x).state
  pub keeps : (x y : A) → Keeps x y → Proceeds d (guard x) (guard y)
  pub later : (x y : A) → Keeps x y → (see x).machine.seen.disk_faults ≤ (see y).machine.seen.disk_faults
  pub booted : BootsGuard d (at_entry m d core) core.disk (guard start)
  pub low : d.faults core.disk ≤ (see start).machine.seen.disk_faults
  pub high : (see end).machine.seen.disk_faults ≡ d.faults r.disk
  pub ended : HasEnded m d (guard end) r
  pub kept : Keeps start end

-- a machine that is booted and ends is played
pub is-played : {M D A : Type 0} (m : Mechanisms M) (d : Disks D) (Keeps : A → A → Type 0) (see : A → Played) (machine : A → MachineView D) (core : Core M D) (r : Return M D) (start end : A)
    → ((x : A) → (see x).machine ≡ (machine x).state) → ((x y : A) → Keeps x y → Progresses d (machine x) (machine y)) → IsBooted m d core (machine start) → Ends m d (machine end) r.mech r.disk → Keeps start end
    → IsPlayed m d Keeps see (λ x. guard_of (machine x)) core r start end
is-played m d Keeps see machine core r start end is progresses booted ends kept = record {
  is = λ x. ap (λ (s : State). s.seen.guard) (is x);
  keeps = λ x y k. (progresses x y k).proceeds;
  later = λ x y k. rw (is x, is y) (progresses x y k).later;
  booted = booted.boots;
  low = rw (is start) (let tied = booted.tied in let low = booted.boots.leaves.faults in omega (arith, tied, low));
  high = ap (λ (s : State). s.seen.disk_faults) (is end) ∙ sym ends.back.disk_faults;
  ended = machine-ended m d (machine end) r ends.back ends.recorded ends.disk_is;
  kept = kept;
}

module _ {M D A : Type 0} (m : Mechanisms M) (d : Disks D) (Keeps : A → A → Type 0) (see : A → Played) (guard : A → GuardView D) (core : Core M D) (r : Return M D) (start end : A) (p : IsPlayed m d Keeps see guard core r start end) where
  played-end : IsEnd m d r (guard_state_of (see end))
  played-end = ends-at m d (guard end).state r p.ended.motions p.ended.places p.ended.faults p.ended.stored (guard_state_of (see end)) (p.is end) p.high

  -- the run ended at a restart of this machine which was refused
  module _ (before : A) (kept : Keeps start before) (line : List ℕ) (why : BootFault) (at : EndsRestart guard_state_of (see before) line why (see end)) (status : ℕ) (is : status ≡ boot_status why) where
    played-failed : status ≡ 6 → Rose (d.faults core.disk) (d.faults r.disk)
    played-failed six =
        let rose = failed-then status why (guard_state_of (see before)) (guard_state_of (see end)) is at.fails.cause six in
        let later = p.later start before kept in
        let low = p.low in
        let high = p.high in
        omega (arith, low, later, rose, high)

    played-untold : status ≡ 7 → d.held core.disk ≡ None
    played-untold seven =
        let quiet = untold-then status why (guard_state_of (see before)) (guard_state_of (see end)) is at.fails.cause seven in
        let told = ap (λ (v : View). v.disk_told) (p.is before) in
        none-told (d.held core.disk) (sym (ap (λ (v : View). v.disk_told) p.booted.begins.2) ∙ (sym (p.keeps start before kept).continues.disk_told ∙ (sym told ∙ quiet)))

    played-full : ((disk : D) (all : List ℕ) → d.held disk ≡ Some all → d.images disk all) → status ≡ 12 → LacksRoom (d.held r.disk) core.limits (m.places r.mech)
    played-full as_read twelve =
        let limits = (p.keeps start end p.kept).continues.limits ∙ ap (λ (v : View). v.limits) p.booted.begins.2 in
        let full : IsFull (guard end).state = rw (p.is end) at ((full-then status why (guard_state_of (see before)) (guard_state_of (see end)) is at.fails.cause twelve).1) in
        full-end (guard end).state _ _ _ _ limits p.ended.places (as_read r.disk) p.ended.stored full

-- the line at which it ended is the restart of its letter, which found no room
full-line-of : {M D : Type 0} (m : Mechanisms M) (d : Disks D) (pick : Sides Played → Played) (letter : ℕ) (r : Return M D) (IsStartOf : Sides Played → Type 0) (start end : Sides Played) (text : List ℕ) (many : ℕ) (output : List (List ℕ)) (last : Sides Played) (why : BootFault) (status : ℕ)
    → IsEnd m d r (guard_state_of (pick end)) → IsStartOf start → AnswersEach fleet_lines.Answers start (first_lines many text) output last
    → IsOf letter (λ line. EndsRestart guard_state_of (pick last) line why (pick end)) (first_line (behind many text)) → status ≡ boot_status why → status ≡ 12
    → HasFullRestart (restart_of letter) fleet_lines (λ s. guard_state_of (pick s)) IsStartOf (IsStillAt m d r) text
full-line-of m d pick letter r IsStartOf start end text many output last why status ends begins each at is twelve = record {
  start = start;
  begins = begins;
  many = many;
  output = output;
  last = last;
  each = each;
  line = at.text_is ∙ ap (λ t. letter_mark letter ++ t) at.is.restart;
  full = (full-then status why (guard_state_of (pick last)) (guard_state_of (pick end)) is at.is.fails.cause twelve).0;
  ends = still-at m d r (guard_state_of (pick end)) (guard_state_of (pick last)) ends at.is.fails.still;
}

-- where the input was read to its end
alone-served : (start end : Sides Played) (status : ℕ) (io : Streams) (text : List ℕ) → EndsInput fleet_lines start end status io text → status ≡ 0 → AreAlone replay_lines start end io.output io.output_now text
alone-served start end status io text h zero =
    let e = is-end h.ending (sym h.status_is ∙ zero) in
    let x : AnswersInput fleet_lines AtEnd start end io.left io.output h.answered text = rw e at h.answers in
    let taken : WritesLast [] (record (output_of io) { held = h.answered }) = rw e at h.last in
    let alone = are-alone replay_lines start end io.left io.output h.answered text x in
    record {
      many = alone.many;
      whole = alone.whole;
      output = alone.output;
      written = rw (append-nil (lines_text alone.output)) at (Appends-trans io.output h.answered io.output_now (lines_text alone.output) [] alone.written (last-taken (record (output_of io) { held = h.answered }) taken));
      at_a = alone.at_a;
      at_b = alone.at_b;
    }

-- what holds at each side
pub by-side : {X : Type 0} (side : Side) → (side ≡ which.A → X) → (side ≡ which.B → X) → X
by-side which.A first second = first refl
by-side which.B first second = second refl

-- what a boot begins
pub begins-of : {M D : Type 0} (m : Mechanisms M) (d : Disks D) (core : Core M D) (machine : MachineView D) → IsBooted m d core machine → Begins (at_entry m d core) core.life (begun machine.state)
begins-of m d core machine booted = record {
  boots = record {
    records = booted.boots.begins.0;
    stands = booted.boots.begins.1;
    guard_is = booted.boots.begins.2;
    later = let tied = booted.tied in let low = booted.boots.leaves.faults in omega (arith, tied, low);
    none = refl;
  };
  machine = booted.bare;
  clients = refl;
  now = refl;
}

module _ {M D : Type 0} (m : Mechanisms M) (d : Disks D) (core second : Core M D) (a b : Return M D) (io : Streams) where
  -- a machine has no room for a boot record, at the boot or at a restart
  abbrev NoRoom : List ℕ → Type 0
  NoRoom text = (LacksRoom (d.held core.disk) core.limits (m.places core.mech) ⊎ HasFullRestart (restart_of letter_a) fleet_lines state_a (BeginsBoth m d core second a b) (IsStillAt m d a) text)
      ⊎ (LacksRoom (d.held second.disk) second.limits (m.places second.mech) ⊎ HasFullRestart (restart_of letter_b) fleet_lines state_b (BeginsBoth m d core second a b) (IsStillAt m d b) text)

  abbrev DiskRose : Type 0
  DiskRose = Rose (d.faults core.disk) (d.faults a.disk) ⊎ Rose (d.faults second.disk) (d.faults b.disk)

  abbrev HasNoJournal : Type 0
  HasNoJournal = IfTold (d.held core.disk) StandsForNone ⊎ IfTold (d.held second.disk) StandsForNone

  abbrev HasItsCauses : Type 0
  HasItsCauses = HasCausesOf fleet_lines.IsLine NoRoom a.status io.input io.left (Rose io.read_faults io.read_faults_now) (Rose io.write_faults io.write_faults_now) DiskRose HasNoJournal

  finishing : HasItsCauses → NothingFailed io (d.faults core.disk) (d.faults a.disk) → ¬ (Rose (d.faults second.disk) (d.faults b.disk))
      → IfTold io.input (λ text. OfJournal (d.held core.disk) (λ records. OfJournal (d.held second.disk) (λ others. AreUnhindered m d core second a b text records others → IsFinished a.status)))
  finishing causes none unfailed =
      told-more io.input _ _ (λ text ends. at-list (d.held core.disk) (BootExceeds core.limits (m.places core.mech)) _ (λ J journal lacks.
      at-list (d.held second.disk) (BootExceeds second.limits (m.places second.mech)) _ (λ K other_journal other_lacks free.
      ends (⊎_elim journal other_journal) free.lines free.short
      (⊎_elim (⊎_elim (λ l. free.boots (lacks l)) free.restarts) (⊎_elim (λ l. free.second_boots (other_lacks l)) free.second_restarts)))))
      (finishes-of fleet_lines.IsLine NoRoom (empty-line replay_lines) a.status io.input io.left _ _ _ _ causes none.source none.sink (⊎_elim none.disk unfailed))

  -- the boot of the first was refused
  pub first-unbooted : (why : BootFault) → IsRefusedBoot m d core why a.mech a.disk → ComesBack second b → a.status ≡ boot_status why → WritesBoot why io → io.left ≡ io.input
      → HasHeadline m d core a → HasHeadline m d second b → RunsFleet m d core second a b io
  first-unbooted why f kept status written unread first other = record {
    first = first;
    other = other;
    answers = told-any io.input _ (λ text. inl here);
    alone = λ zero. absurd (omega (arith, low, status, zero));
    lines = λ zero. absurd (omega (arith, low, status, zero));
    not_a_line = λ four. absurd (omega (arith, low, status, four));
    disk_fault = λ six. inl (inl (ends-failed _ _ _ _ _ status written f.refuses.disk six));
    not_journal = λ seven. inl (inl (ends-unread _ _ _ _ status written f.refuses.not_journal seven));
    full = λ twelve. inl (inl (ends-full _ _ _ _ _ _ status written f.refuses.full twelve));
    unread = due-unread _ _ _ status f.refuses.full;
    second_unread = told-any (d.held second.disk) _ (λ bytes none. inl here);
    overfull = due-full _ _ _ _ _ status f.refuses.not_journal;
    second_overfull = told-any (d.held second.disk) _ (λ bytes J stands over. inl here);
    finishes = finishing (causes-unbooted _ _ why _ _ _ _ _ _ _ status (λ e. inl (f.refuses.disk e)) (λ at e. inl (told-more (d.held core.disk) _ _ (λ all none. none.1) (f.refuses.not_journal at e))) (λ e text. inl (inl (f.refuses.full e))));
  }
    where
      low : 6 ≤ boot_status why
      low = (boot-least why).0

      here : IsFirstUnbooted m d core second a b io
      here = (record { why = why; status_is = status; unread = unread; written = written; unmoved = f.mech_is }, kept)

  -- the boot of the second was refused, and the first ended
  pub second-unbooted : (why : BootFault) (machine : MachineView D) → IsBooted m d core machine → Ends m d machine a.mech a.disk → IsRefusedBoot m d second why b.mech b.disk
      → a.status ≡ boot_status why → b.status ≡ boot_status why → WritesBoot why io → io.left ≡ io.input → HasHeadline m d core a → HasHeadline m d second b → RunsFleet m d core second a b io
  second-unbooted why machine booted over f status same written unread first other = record {
    first = first;
    other = other;
    answers = told-any io.input _ (λ text. inr (inl (
      record { why = why; status_is = same; unread = unread; written = written; unmoved = f.mech_is },
      record {
        start = begun machine.state;
        begins = begins-of m d core machine booted;
        writes = ends-at m d machine.state.seen.guard a over.back.motions over.back.places over.back.faults over.back.stored _ refl (sym over.back.disk_faults);
      },
    )));
    alone = λ zero. absurd (omega (arith, low, status, zero));
    lines = λ zero. absurd (omega (arith, low, status, zero));
    not_a_line = λ four. absurd (omega (arith, low, status, four));
    disk_fault = λ six. inl (inr (ends-failed _ _ _ _ _ status written f.refuses.disk six));
    not_journal = λ seven. inl (inr (ends-unread _ _ _ _ status written f.refuses.not_journal seven));
    full = λ twelve. inl (inr (ends-full _ _ _ _ _ _ status written f.refuses.full twelve));
    unread = journal-run booted.boots.begins.0 _ _ booted.boots.begins.1;
    second_unread = told-more (d.held second.disk) _ _ (λ bytes due none. inr (due none)) (due-unread _ _ _ status f.refuses.full);
    overfull = fits-run _ _ machine.state.seen.guard _ _ booted.boots.fits;
    second_overfull = told-more (d.held second.disk) _ _ (λ bytes due J stands exceeds. inr (due J stands exceeds)) (due-full _ _ _ _ _ status f.refuses.not_journal);
    finishes = finishing (causes-unbooted _ _ why _ _ _ _ _ _ _ status (λ e. inr (f.refuses.disk e)) (λ at e. inr (told-more (d.held second.disk) _ _ (λ all none. none.1) (f.refuses.not_journal at e))) (λ e text. inr (inl (f.refuses.full e))));
  }
    where
      low : 6 ≤ boot_status why
      low = (boot-least why).0

-- the lines were answered
module _ {M D A : Type 0} (m : Mechanisms M) (d : Disks D) (core second : Core M D) (a b : Return M D) (io : Streams) (Keeps : A → A → Type 0) (state : A → Sides Played) (guard_a guard_b : A → GuardView D)
    (as_read : (disk : D) (all : List ℕ) → d.held disk ≡ Some all → d.images disk all) (start end : A)
    (p : IsPlayed m d Keeps (λ x. (state x).a) guard_a core a start end) (q : IsPlayed m d Keeps (λ x. (state x).b) guard_b second b start end)
    (begins : BeginsBoth m d core second a b (state start)) (s : IsAnswered Keeps state fleet_lines start end a.status io) where
  ends_a : IsEnd m d a (state_a (state end))
  ends_a = played-end m d Keeps (λ x. (state x).a) guard_a core a start end p

  ends_b : IsEnd m d b (state_b (state end))
  ends_b = played-end m d Keeps (λ x. (state x).b) guard_b second b start end q

  failed : a.status ≡ 6 → Rose (d.faults core.disk) (d.faults a.disk) ⊎ Rose (d.faults second.disk) (d.faults b.disk)
  failed six =
      let u = s.unbooted (inl six) in
      elim u.after.ends [
        | inl at ↦ inl (played-failed m d Keeps (λ x. (state x).a) guard_a core a start end p u.after.before u.after.keeps at.0.behind u.why at.0.is a.status u.status_is six)
        | inr at ↦ inr (played-failed m d Keeps (λ x. (state x).b) guard_b second b start end q u.after.before u.after.keeps at.0.behind u.why at.0.is a.status u.status_is six)
      ]

  untold : a.status ≡ 7 → (d.held core.disk ≡ None) ⊎ (d.held second.disk ≡ None)
  untold seven =
      let u = s.unbooted (inr (inl seven)) in
      elim u.after.ends [
        | inl at ↦ inl (played-untold m d Keeps (λ x. (state x).a) guard_a core a start end p u.after.before u.after.keeps at.0.behind u.why at.0.is a.status u.status_is seven)
        | inr at ↦ inr (played-untold m d Keeps (λ x. (state x).b) guard_b second b start end q u.after.before u.after.keeps at.0.behind u.why at.0.is a.status u.status_is seven)
      ]

  overfull : a.status ≡ 12 → LacksRoom (d.held a.disk) core.limits (m.places a.mech) ⊎ LacksRoom (d.held b.disk) second.limits (m.places b.mech)
  overfull twelve =
      let u = s.unbooted (inr (inr twelve)) in
      elim u.after.ends [
        | inl at ↦ inl (played-full m d Keeps (λ x. (state x).a) guard_a core a start end p u.after.before u.after.keeps at.0.behind u.why at.0.is a.status u.status_is as_read twelve)
        | inr at ↦ inr (played-full m d Keeps (λ x. (state x).b) guard_b second b start end q u.after.before u.after.keeps at.0.behind u.why at.0.is a.status u.status_is as_read twelve)
      ]

  -- under status 12 a restart of one of the two found no room
  full-line : a.status ≡ 12 → IfTold io.input (NoRoom m d core second a b io)
  full-line twelve = told-more io.input _ _ (λ text h. go text h) s.answers
    where
      go : (text : List ℕ) → EndsInput fleet_lines (state start) (state end) a.status io text → NoRoom m d core second a b io text
      go text h =
          let e = is-boot h.ending (inr (inr (sym h.status_is ∙ twelve))) in
          let x : AnswersInput fleet_lines (Ended e.0) (state start) (state end) io.left io.output h.answered text = rw e.1 at h.answers in
          let is = h.status_is ∙ ap ending_status e.1 in
          elim x.ends.0 [
            | inl at ↦ inl (inr (full-line-of m d (λ t. t.a) letter_a a (BeginsBoth m d core second a b) (state start) (state end) text x.many x.output x.last e.0 a.status ends_a begins x.each at.0 is twelve))
            | inr at ↦ inr (inr (full-line-of m d (λ t. t.b) letter_b b (BeginsBoth m d core second a b) (state start) (state end) text x.many x.output x.last e.0 a.status ends_b begins x.each at.0 is twelve))
          ]

  causes-played : HasItsCauses m d core second a b io
  causes-played = record {
    one = s.statuses;
    words = s.usage;
    read = s.causes.read;
    line = s.not_a_line;
    write = s.causes.write;
    disk_fault = failed;
    unread = λ seven. elim (untold seven) [ inl none ↦ inl (rw none tt) | inr none ↦ inr (rw none tt) ];
    quota = s.causes.quota;
    full = full-line;
  }

  pub fleet-played : HasHeadline m d core a → HasHeadline m d second b → RunsFleet m d core second a b io
  fleet-played first other = record {
    first = first;
    other = other;
    answers = told-more io.input _ _ (λ text answers. inr (inr (record {
      start = state start;
      begins = begins;
      writes = record { end = state end; ends = (ends_a, ends_b); answers = answers };
    }))) s.answers;
    alone = λ zero. told-more io.input _ _ (λ text answers. record {
      start = state start;
      begins = begins;
      writes = record { end = state end; ends = (ends_a, ends_b); alone = alone-served (state start) (state end) a.status io text answers zero };
    }) s.answers;
    lines = s.lines;
    not_a_line = s.not_a_line;
    disk_fault = λ six. inr (record { start = state start; begins = begins; writes = failed six });
    not_journal = λ seven. inr (record { start = state start; begins = begins; writes = untold seven });
    full = λ twelve. inr (record { start = state start; begins = begins; writes = overfull twelve });
    unread = journal-run p.booted.begins.0 _ _ p.booted.begins.1;
    second_unread = journal-run q.booted.begins.0 _ _ q.booted.begins.1;
    overfull = fits-run _ _ (guard_a start).state _ _ p.booted.fits;
    second_overfull = fits-run _ _ (guard_b start).state _ _ q.booted.fits;
    finishes = finishing m d core second a b io causes-played;
  }
