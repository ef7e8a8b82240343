-- A run over the disks of two machines ends with its input, where nothing is the cause of another status.
use Rattle.std.proofs.Common.{◌≡◌, ◌<◌, ◌≤◌, inl, inr, ℕ, List, [], length, None, Some, refl, sym, subst, ◌∙◌, arith}
use Rattle.std.specs.declared.option.Option.{Option}
use Rattle.xfs_base.specs.Causes.{IfTold}
use Rattle.xfs_journal.specs.Image.{StandsFor}
use Rattle.xfs_journal.specs.declared.record.Rec.{Rec}
use Rattle.xfs_journal.proofs.Unique.{stands_for_one}
use Rattle.xfs_guard.specs.Booting.{IsFound}
use Rattle.xfs_guard.specs.declared.fail.BootFault.{BootFault}
use Rattle.xfs_guard.specs.declared.fail.BootFault.TheVariants.{NotJournal, Disk, Full, Memory as NoMemory}
use Rattle.xfs_script.specs.Lines.{AllLines, StopsAtLine}
use Rattle.xfs_script.specs.Reading.{GaveAll}
use Rattle.xfs_lines.specs.Boots.{boot_status}
use Rattle.xfs_lines.specs.Output.Statuses.{IsFinished, IsStatus}
use Rattle.xfs_lines.proofs.BootedLaws.{told-any}
use Rattle.xfs_lines.proofs.EndLaws.{lines-all, short-all}
use Rattle.xfs_lines.proofs.EndingLaws.{boot-least, status-boot}
use Rattle.xfs_journal.specs.Held.{StandsForNone}

-- what each status of a run has as its cause
pub record HasCausesOf (IsLineOf NoRoomAt : List ℕ → Type 0) (status : ℕ) (left left' : Option (List ℕ)) (source sink disk journal : Type 0) : Type 0 where
  pub one : IsStatus status
  pub words : status ≡ 2 → ⊥
  pub read : status ≡ 3 → source
  pub line : status ≡ 4 → IfTold left (StopsAtLine IsLineOf)
  pub write : status ≡ 5 → sink
  pub disk_fault : status ≡ 6 → disk
  pub unread : status ≡ 7 → journal
  pub quota : status ≡ 10 → GaveAll left left'
  pub full : status ≡ 12 → IfTold left NoRoomAt

-- a refused boot has the cause of its status
pub causes-unbooted : (IsLineOf NoRoomAt : List ℕ → Type 0) (why : BootFault) (status : ℕ) (left left' : Option (List ℕ)) (source sink disk journal : Type 0) → status ≡ boot_status why
    → (why ≡ Disk → disk) → ((at : ℕ) → why ≡ NotJournal at → journal) → (why ≡ Full → (text : List ℕ) → NoRoomAt text)
    → HasCausesOf IsLineOf NoRoomAt status left left' source sink disk journal
causes-unbooted IsLineOf NoRoomAt why status left left' source sink disk journal is failed none full = record {
  one = rw is (status-boot why);
  words = λ e. omega (arith, low, e);
  read = λ e. absurd (omega (arith, low, e));
  line = λ e. absurd (omega (arith, low, e));
  write = λ e. absurd (omega (arith, low, e));
  disk_fault = λ e. six why (sym is ∙ e) failed;
  unread = λ e. seven why (sym is ∙ e) none;
  quota = λ e. absurd ((boot-least why).1 (sym is ∙ e));
  full = λ e. twelve why (sym is ∙ e) full;
}
  where
    low : 6 ≤ status
    low = rw is (boot-least why).0

    six : (why : BootFault) → boot_status why ≡ 6 → (why ≡ Disk → disk) → disk
    six (NotJournal at) e failed = absurd (omega (arith, e))
    six Disk e failed = failed refl
    six Full e failed = absurd (omega (arith, e))
    six NoMemory e failed = absurd (omega (arith, e))

    seven : (why : BootFault) → boot_status why ≡ 7 → ((at : ℕ) → why ≡ NotJournal at → journal) → journal
    seven (NotJournal at) e none = none at refl
    seven Disk e none = absurd (omega (arith, e))
    seven Full e none = absurd (omega (arith, e))
    seven NoMemory e none = absurd (omega (arith, e))

    twelve : (why : BootFault) → boot_status why ≡ 12 → (why ≡ Full → (text : List ℕ) → NoRoomAt text) → IfTold left NoRoomAt
    twelve (NotJournal at) e full = absurd (omega (arith, e))
    twelve Disk e full = absurd (omega (arith, e))
    twelve Full e full = told-any left NoRoomAt (full refl)
    twelve NoMemory e full = absurd (omega (arith, e))

-- where no cause is there, the run ends with its input
pub finishes-of : (IsLineOf NoRoomAt : List ℕ → Type 0) → IsLineOf [] → (status : ℕ) (left left' : Option (List ℕ)) (source sink disk journal : Type 0) → HasCausesOf IsLineOf NoRoomAt status left left' source sink disk journal
    → ¬ source → ¬ sink → ¬ disk → IfTold left (λ text. ¬ journal → AllLines IsLineOf text → length text < 67108864 → ¬ (NoRoomAt text) → IsFinished status)
finishes-of IsLineOf NoRoomAt empty status None left' source sink disk journal causes no_source no_sink no_disk = tt
finishes-of IsLineOf NoRoomAt empty status (Some text) left' source sink disk journal causes no_source no_sink no_disk = λ no_journal lines short room. by_status no_journal lines short room causes.one
  where
    by_status : ¬ journal → AllLines IsLineOf text → length text < 67108864 → ¬ (NoRoomAt text) → IsStatus status → IsFinished status
    by_status no_journal lines short room (inl is) = inl is
    by_status no_journal lines short room (inr (inl is)) = absurd (causes.words is)
    by_status no_journal lines short room (inr (inr (inl is))) = absurd (no_source (causes.read is))
    by_status no_journal lines short room (inr (inr (inr (inl is)))) = (let stops = causes.line is in absurd (lines-all IsLineOf text stops.many empty lines stops.none))
    by_status no_journal lines short room (inr (inr (inr (inr (inl is))))) = absurd (no_sink (causes.write is))
    by_status no_journal lines short room (inr (inr (inr (inr (inr (inl is)))))) = absurd (no_disk (causes.disk_fault is))
    by_status no_journal lines short room (inr (inr (inr (inr (inr (inr (inl is))))))) = absurd (no_journal (causes.unread is))
    by_status no_journal lines short room (inr (inr (inr (inr (inr (inr (inr (inl is)))))))) = inr is
    by_status no_journal lines short room (inr (inr (inr (inr (inr (inr (inr (inr (inl is))))))))) = absurd (short-all text left' short (causes.quota is))
    by_status no_journal lines short room (inr (inr (inr (inr (inr (inr (inr (inr (inr (inl is)))))))))) = absurd (room (causes.full is))
    by_status no_journal lines short room (inr (inr (inr (inr (inr (inr (inr (inr (inr (inr none)))))))))) = absurd none

-- where the disk's bytes stand for a list, they are a journal, and what was found of them is that list
pub at-list : (held : Option (List ℕ)) (Over P : List Rec → Type 0) → ((J : List Rec) → ¬ (IfTold held StandsForNone) → (IsFound held Over → Over J) → P J) → IfTold held (λ bytes. (J : List Rec) → StandsFor bytes J → P J)
at-list None Over P then = tt
at-list (Some bytes) Over P then = λ J stands. then J (λ none. none J stands) (λ found. subst Over (sym (stands_for_one bytes J found.0 stands found.1)) found.2)
