-- The answers of the command `guard`: what each line is answered in a state, and what the state is then.
use Rattle.std.specs.Prelude.{◌≡◌, ◌≤◌, ◌⊎◌, ℕ, true, false, List, [], ◌∷◌, ◌++◌, length, codes, Some, None}
use Rattle.std.specs.declared.option.Option.{Option}
use Rattle.xfs_base.specs.Counts.{LiesIn}
use Rattle.xfs_token.specs.Amounts.{IsMade}
use Rattle.xfs_mech.specs.Mechanism.{CanLoad}
use Rattle.xfs_mech.specs.declared.motion.Outcome.{Outcome}
use Rattle.xfs_mech.specs.declared.motion.Motion.TheVariants.{Taken, Loaded}
use Rattle.xfs_guard.specs.NextNonce.{next_record, next_text}
use Rattle.xfs_journal.specs.declared.record.Rec.{Rec}
use Rattle.xfs_guard.specs.View.{View}
use Rattle.xfs_guard.specs.Fits.{unfit}
use Rattle.xfs_guard.specs.Nonce.{live_nonce, live_in}
use Rattle.xfs_guard.specs.Reports.{HasReported}
use Rattle.xfs_guard.specs.declared.ask.Ask.TheVariants as Ask
use Rattle.xfs_guard.specs.declared.nonce.Nonce.{Nonce}
use Rattle.xfs_script.specs.Guard.{IsGuardLine}
use Rattle.xfs_script.specs.declared.guard_line.GuardLine.{GuardLine}
use Rattle.xfs_script.specs.declared.guard_line.GuardLine.TheVariants.{Skip, Issue, Clear, Mint, Dispense, Fill, Present, Reject, Retract, Take, Restart, Show}
use Rattle.xfs_lines.specs.Guard.Texts.{outcome_text, show_lines}
use Rattle.xfs_lines.specs.Guard.States.{GuardState}
use Rattle.xfs_lines.specs.Guard.OneRecord.{IsRefusalLine, WritesOne, WritesNone}
use Rattle.xfs_lines.specs.Guard.Moves.{MechCalled, Moves}
use Rattle.xfs_lines.specs.Guard.Dispenses.{DispensesFor}
use Rattle.xfs_lines.specs.Guard.Restarts.{Restarts}
use Rattle.xfs_common.specs.declared.error.ErrorCode.TheVariants.{InvalidUnit, StorageFull}
use Rattle.xfs_dispenser.specs.declared.refusal.Refusal.{Refusal}
use Rattle.xfs_dispenser.specs.declared.refusal.Refusal.TheVariants.{Error, Deny as Denied}
use Rattle.xfs_script.specs.declared.feed.TheConstants.{LONGEST_LINE}

-- `issue`: the next nonce, which lives then
abbrev pub Issues : GuardState → List ℕ → GuardState → Type 0
Issues s line next =
    WritesOne s (unfit s.guard) (next_record s.guard) (record s.guard { records = s.guard.records ++ next_record s.guard ∷ []; bound = None })
    (codes "nonce " ++ next_text s.guard) line next

-- `clear`: the live nonce, where there is one
abbrev pub Clears : Option Nonce → GuardState → List ℕ → GuardState → Type 0
Clears (Some nonce) s line next =
    WritesOne s (unfit s.guard) Rec.Clear (record s.guard { records = s.guard.records ++ Rec.Clear ∷ []; bound = None }) (codes "cleared") line next
Clears None s line next = WritesNone s (unfit s.guard) (codes "nothing to clear") line next

-- a token was made for this nonce under the key, and is the last one then
pub record IsMinted (s : GuardState) (nonce : Nonce) (amounts : List (List ℕ × ℕ)) (line : List ℕ) (next : GuardState) : Type 0 where
  pub token : List ℕ
  pub made : IsMade s.guard.key nonce.text amounts token
  pub text : line ≡ codes "token " ++ token
  pub kept : next ≡ record s { last = Some token }

-- `mint`: a token for the live nonce, where there is one
abbrev pub Mints : Option Nonce → GuardState → List (List ℕ × ℕ) → List ℕ → GuardState → Type 0
Mints (Some nonce) s amounts line next = IsMinted s nonce amounts line next
Mints None s amounts line next = (line ≡ codes "token none") × (next ≡ record s { last = None })

-- `take`: what the customer took from the outlet
pub record TakesNotes (s : GuardState) (line : List ℕ) (next : GuardState) : Type 0 where
  pub outcome : Outcome
  pub lie : LiesIn outcome.moved s.guard.places.outlet
  pub reported : HasReported s.guard next.guard (Taken outcome.moved) outcome.moved outcome.diverted outcome.failed
  pub called : MechCalled s outcome.failed next
  pub text : line ≡ outcome_text (codes "taken") outcome

-- what `fill` is refused for: no such unit, then a limit of the notes, then the journal's fit
abbrev pub FillRefused : View → ℕ → ℕ → Refusal → Type 0
FillRefused v unit count (Error InvalidUnit) = ¬ ((1 ≤ unit) × (unit ≤ length v.units))
FillRefused v unit count (Error StorageFull) = (1 ≤ unit) × (unit ≤ length v.units) × ¬ (CanLoad v.units v.places unit count)
FillRefused v unit count (Denied deny) = CanLoad v.units v.places unit count × (unfit v ≡ Some deny)
FillRefused v unit count other = ⊥

pub record IsUnfilled (s : GuardState) (unit count : ℕ) (line : List ℕ) (next : GuardState) : Type 0 where
  pub refusal : Refusal
  pub cause : FillRefused s.guard unit count refusal
  pub refused : IsRefusalLine s refusal line next

-- a loading that was noted, or failed
abbrev pub IsNoted : GuardState → Outcome → ℕ → ℕ → List ℕ → GuardState → Type 0
IsNoted s outcome unit count line next =
    ((outcome.failed ≡ true) × (line ≡ codes "fault") × (next ≡ s))
    ⊎ ((outcome.failed ≡ false) × WritesOne s (unfit s.guard) (Rec.Load unit count) (record s.guard { records = s.guard.records ++ Rec.Load unit count ∷ [] }) (codes "filled") line next)

-- the mechanism was called to load these notes, and then the load was noted
pub record IsLoaded (s : GuardState) (unit count : ℕ) (line : List ℕ) (next : GuardState) : Type 0 where
  pub can : CanLoad s.guard.units s.guard.places unit count
  pub fit : unfit s.guard ≡ None
  pub outcome : Outcome
  pub loaded : GuardState
  pub reported : HasReported s.guard loaded.guard (Loaded unit count) outcome.moved outcome.diverted outcome.failed
  pub called : MechCalled s outcome.failed loaded
  pub noted : IsNoted loaded outcome unit count line next

-- `fill`: so many notes into a unit, which counts from 1
abbrev pub Fills : GuardState → ℕ → ℕ → List ℕ → GuardState → Type 0
Fills s unit count line next = IsUnfilled s unit count line next ⊎ IsLoaded s unit count line next

-- the line that answers a verb; a skipped line has none, and `show` more than one
abbrev pub IsGuardAnswer : GuardState → GuardLine → List ℕ → GuardState → Type 0
IsGuardAnswer s Skip line next = ⊥
IsGuardAnswer s Issue line next = Issues s line next
IsGuardAnswer s Clear line next = Clears (live_nonce s.guard.records) s line next
IsGuardAnswer s (Mint amounts) line next = Mints (live_in s.guard.boot_missing s.guard.records) s amounts line next
IsGuardAnswer s (Dispense token counts) line next = DispensesFor s token counts line next
IsGuardAnswer s (Fill unit count) line next = Fills s unit count line next
IsGuardAnswer s Present line next = Moves s Ask.Present line next
IsGuardAnswer s Reject line next = Moves s Ask.Reject line next
IsGuardAnswer s Retract line next = Moves s Ask.Retract line next
IsGuardAnswer s Take line next = TakesNotes s line next
IsGuardAnswer s Restart line next = Restarts s line next
IsGuardAnswer s Show line next = ⊥

-- one line, of which this is so
pub record IsOneLine (IsText : List ℕ → Type 0) (output : List (List ℕ)) : Type 0 where
  pub line : List ℕ
  pub is : IsText line
  pub only : output ≡ line ∷ []

-- the lines that answer a verb: none for a skipped line, a line a unit for `show`, and else one
abbrev pub AreGuardAnswer : GuardState → GuardLine → List (List ℕ) → GuardState → Type 0
AreGuardAnswer s Skip output next = (output ≡ []) × (next ≡ s)
AreGuardAnswer s Show output next = (output ≡ show_lines (length s.guard.units) s.guard.places) × (next ≡ s)
AreGuardAnswer s verb output next = IsOneLine (λ line. IsGuardAnswer s verb line next) output

-- a line of `guard`, what answers it, and the state then
pub record AnswersGuard (s : GuardState) (text : List ℕ) (output : List (List ℕ)) (next : GuardState) : Type 0 where
  pub verb : GuardLine
  pub reads : IsGuardLine text verb
  pub short : length text ≤ LONGEST_LINE
  pub answer : AreGuardAnswer s verb output next
