-- How a run ends: with one of the statuses, and with its input where nothing hinders it.
use Rattle.std.proofs.Common.{◌≡◌, ◌⊎◌, ⊎_elim, inl, inr, ℕ, zero, suc, ◌+◌, ◌-◌, ◌<◌, ◌≤◌, List, [], ◌++◌, length, None, Some, refl, sym, ◌∙◌, ap, arith, length-append}
use Rattle.std.proofs.lemmas.Bool.{cases_lt}
use Rattle.std.specs.declared.option.Option.{Option}
use Rattle.xfs_base.specs.Causes.{IfTold}
use Rattle.xfs_base.specs.declared.counts.Places.{Places}
use Rattle.xfs_journal.specs.Image.{StandsFor}
use Rattle.xfs_journal.specs.Paging.{CeasesAt}
use Rattle.xfs_journal.specs.declared.limits.Limits.{Limits}
use Rattle.xfs_journal.specs.declared.record.Rec.{Rec}
use Rattle.xfs_journal.proofs.Unique.{stands_for_one}
use Rattle.xfs_script.specs.Lines.{behind, first_line, rest, AllLines, StopsAtLine}
use Rattle.xfs_script.specs.Reading.{GaveAll}
use Rattle.xfs_guard.specs.declared.fail.BootFault.{BootFault}
use Rattle.xfs_guard.specs.declared.fail.BootFault.TheVariants.{NotJournal, Disk, Full, Memory as NoMemory}
use Rattle.xfs_lines.specs.Boots.{BootExceeds, boot_status}
use Rattle.xfs_lines.proofs.EndingLaws.{status-boot}
use Rattle.xfs_lines.specs.Output.Statuses.{IsStatus, IsUnhindered, IsFinished}
use Rattle.xfs_journal.specs.Held.{StandsForNone}
use Rattle.xfs_journal.specs.JournalView.{IsNoJournal}

-- behind the end of a text there is nothing
behind-end : (many more : ℕ) (text : List ℕ) → behind many text ≡ [] → behind (many + more) text ≡ []
behind-end many zero text is = let none : many + 0 ≡ many = omega arith in rw none is
behind-end many (suc more) text is = let next : many + suc more ≡ suc (many + more) = omega arith in rw next (ap rest (behind-end many more text is))

-- a text of lines alone has none that is no line
pub lines-all : (IsLineOf : List ℕ → Type 0) (text : List ℕ) (many : ℕ) → IsLineOf [] → AllLines IsLineOf text → ¬ (IsLineOf (first_line (behind many text))) → ⊥
lines-all IsLineOf text many empty all none = elim (cases_lt many all.many) [
  | inl within ↦ none (all.lines many within)
  | inr past ↦ (
      let more = many - all.many in
      let is : many ≡ all.many + more = omega (arith, past) in
      none (rw (is, behind-end all.many more text all.whole) empty))
]

-- a short input doesn't give all that there may be
pub short-all : (text : List ℕ) (after : Option (List ℕ)) → length text < 67108864 → ¬ (GaveAll (Some text) after)
short-all text None short gave = gave.taken
short-all text (Some left) short gave =
    let whole : length text ≡ length (gave.bytes ++ left) = ap length gave.taken in
    omega (arith, whole, length-append gave.bytes left, gave.many, short)

-- what each status of a run has as its cause
pub record HasCauses (IsLineOf HasNoRoomAt : List ℕ → Type 0) (status : ℕ) (left left' held : Option (List ℕ)) (limits : Limits) (places : Places) (source sink disk : Type 0) : Type 0 where
  pub one : IsStatus status
  pub words : status ≡ 2 → ⊥
  pub read : status ≡ 3 → source
  pub line : status ≡ 4 → IfTold left (StopsAtLine IsLineOf)
  pub write : status ≡ 5 → sink
  pub disk_fault : status ≡ 6 → disk
  pub journal : status ≡ 7 → IfTold held StandsForNone
  pub quota : status ≡ 10 → GaveAll left left'
  pub full : status ≡ 12 → IfTold left (λ text. IfTold held (λ bytes. (J : List Rec) → StandsFor bytes J → BootExceeds limits places J ⊎ HasNoRoomAt text))

-- a refused boot has the cause of its status
pub causes-refused : (IsLineOf HasNoRoomAt : List ℕ → Type 0) (why : BootFault) (status : ℕ) (left left' held : Option (List ℕ)) (limits : Limits) (places : Places) (source sink disk : Type 0) → status ≡ boot_status why
    → ((at : ℕ) → why ≡ NotJournal at → IsNoJournal held at) → (why ≡ Disk → disk)
    → (why ≡ Full → (J : List Rec) × IfTold held (λ bytes. StandsFor bytes J) × BootExceeds limits places J)
    → HasCauses IsLineOf HasNoRoomAt status left left' held limits places source sink disk
causes-refused IsLineOf HasNoRoomAt why status left left' held limits places source sink disk is none failed full = record {
  one = rw is (status-boot why);
  words = λ e. omega (arith, low, e);
  read = λ e. absurd (omega (arith, low, e));
  line = λ e. absurd (omega (arith, low, e));
  write = λ e. absurd (omega (arith, low, e));
  disk_fault = λ e. six why (sym is ∙ e) failed;
  journal = λ e. seven why (sym is ∙ e) none;
  quota = λ e. absurd (ten why (sym is ∙ e));
  full = λ e. twelve why (sym is ∙ e) full;
}
  where
    least : (why : BootFault) → 6 ≤ boot_status why
    least (NotJournal at) = omega arith
    least Disk = omega arith
    least Full = omega arith
    least NoMemory = omega arith

    low : 6 ≤ status
    low = rw is (least why)

    ten : (why : BootFault) → boot_status why ≡ 10 → ⊥
    ten (NotJournal at) e = omega (arith, e)
    ten Disk e = omega (arith, e)
    ten Full e = omega (arith, e)
    ten NoMemory e = omega (arith, e)

    six : (why : BootFault) → boot_status why ≡ 6 → (why ≡ Disk → disk) → disk
    six (NotJournal at) e failed = absurd (omega (arith, e))
    six Disk e failed = failed refl
    six Full e failed = absurd (omega (arith, e))
    six NoMemory e failed = absurd (omega (arith, e))

    seven : (why : BootFault) → boot_status why ≡ 7 → ((at : ℕ) → why ≡ NotJournal at → IsNoJournal held at) → IfTold held StandsForNone
    seven (NotJournal at) e none = go held (none at refl)
      where
        go : (held : Option (List ℕ)) → IsNoJournal held at → IfTold held StandsForNone
        go None h = tt
        go (Some bytes) h = h.1
    seven Disk e none = absurd (omega (arith, e))
    seven Full e none = absurd (omega (arith, e))
    seven NoMemory e none = absurd (omega (arith, e))

    twelve : (why : BootFault) → boot_status why ≡ 12 → (why ≡ Full → (J : List Rec) × IfTold held (λ bytes. StandsFor bytes J) × BootExceeds limits places J)
        → IfTold left (λ text. IfTold held (λ bytes. (J : List Rec) → StandsFor bytes J → BootExceeds limits places J ⊎ HasNoRoomAt text))
    twelve (NotJournal at) e full = absurd (omega (arith, e))
    twelve Disk e full = absurd (omega (arith, e))
    twelve Full e full = let over = full refl in go left held over.0 over.1 over.2
      where
        go : (left held : Option (List ℕ)) (J : List Rec) → IfTold held (λ bytes. StandsFor bytes J) → BootExceeds limits places J
            → IfTold left (λ text. IfTold held (λ bytes. (J : List Rec) → StandsFor bytes J → BootExceeds limits places J ⊎ HasNoRoomAt text))
        go None held J stood over = tt
        go (Some text) None J stood over = tt
        go (Some text) (Some bytes) J stood over = λ K stands. inl (rw (stands_for_one bytes K J stands stood) over)
    twelve NoMemory e full = absurd (omega (arith, e))

-- the boot record of a restart may pass a limit
pub full-restart : (IsLineOf HasNoRoomAt : List ℕ → Type 0) (left held : Option (List ℕ)) (limits : Limits) (places : Places) → IfTold left HasNoRoomAt
    → IfTold left (λ text. IfTold held (λ bytes. (J : List Rec) → StandsFor bytes J → BootExceeds limits places J ⊎ HasNoRoomAt text))
full-restart IsLineOf HasNoRoomAt None held limits places has = tt
full-restart IsLineOf HasNoRoomAt (Some text) None limits places has = tt
full-restart IsLineOf HasNoRoomAt (Some text) (Some bytes) limits places has = λ J stands. inr has

-- a run whose boot was not refused has the cause of its status
pub causes-served : (IsLineOf HasNoRoomAt : List ℕ → Type 0) (status : ℕ) (left left' held : Option (List ℕ)) (limits : Limits) (places : Places) (source sink disk : Type 0) → IsStatus status
    → (status ≡ 2 → ⊥) → (status ≡ 6 → disk) → (status ≡ 7 → held ≡ None) → (status ≡ 12 → IfTold left HasNoRoomAt)
    → (status ≡ 3 → source) → (status ≡ 4 → IfTold left (StopsAtLine IsLineOf)) → (status ≡ 5 → sink) → (status ≡ 10 → GaveAll left left')
    → HasCauses IsLineOf HasNoRoomAt status left left' held limits places source sink disk
causes-served IsLineOf HasNoRoomAt status left left' held limits places source sink disk one two six seven twelve read line write quota = record {
  one = one;
  words = two;
  read = read;
  line = line;
  write = write;
  disk_fault = six;
  journal = λ e. rw (seven e) tt;
  quota = quota;
  full = λ e. full-restart IsLineOf HasNoRoomAt left held limits places (twelve e);
}

-- where no cause is there, the run ends with its input
pub finishes : (IsLineOf HasNoRoomAt : List ℕ → Type 0) → IsLineOf [] → (status : ℕ) (left left' held : Option (List ℕ)) (limits : Limits) (places : Places) (source sink disk : Type 0) → HasCauses IsLineOf HasNoRoomAt status left left' held limits places source sink disk
    → ¬ source → ¬ sink → ¬ disk → IfTold left (λ text. IfTold held (λ bytes. (J : List Rec) → StandsFor bytes J → IsUnhindered IsLineOf HasNoRoomAt text limits places J → IsFinished status))
finishes IsLineOf HasNoRoomAt empty status None left' held limits places source sink disk causes no_source no_sink no_disk = tt
finishes IsLineOf HasNoRoomAt empty status (Some text) left' None limits places source sink disk causes no_source no_sink no_disk = tt
finishes IsLineOf HasNoRoomAt empty status (Some text) left' (Some bytes) limits places source sink disk causes no_source no_sink no_disk = λ J stands free. by_status J stands free causes.one
  where
    by_status : (J : List Rec) → StandsFor bytes J → IsUnhindered IsLineOf HasNoRoomAt text limits places J → IsStatus status → IsFinished status
    by_status J stands free (inl is) = inl is
    by_status J stands free (inr (inl is)) = absurd (causes.words is)
    by_status J stands free (inr (inr (inl is))) = absurd (no_source (causes.read is))
    by_status J stands free (inr (inr (inr (inl is)))) = (let stops = causes.line is in absurd (lines-all IsLineOf text stops.many empty free.lines stops.none))
    by_status J stands free (inr (inr (inr (inr (inl is))))) = absurd (no_sink (causes.write is))
    by_status J stands free (inr (inr (inr (inr (inr (inl is)))))) = absurd (no_disk (causes.disk_fault is))
    by_status J stands free (inr (inr (inr (inr (inr (inr (inl is))))))) = absurd (causes.journal is J stands)
    by_status J stands free (inr (inr (inr (inr (inr (inr (inr (inl is)))))))) = inr is
    by_status J stands free (inr (inr (inr (inr (inr (inr (inr (inr (inl is))))))))) = absurd (short-all text left' free.short (causes.quota is))
    by_status J stands free (inr (inr (inr (inr (inr (inr (inr (inr (inr (inl is)))))))))) = absurd (⊎_elim free.boots free.restarts (causes.full is J stands))
    by_status J stands free (inr (inr (inr (inr (inr (inr (inr (inr (inr (inr none)))))))))) = absurd none
