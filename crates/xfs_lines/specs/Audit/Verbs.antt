-- The command `audit`: what its lines hand in, and the line that tells the verdict.
use Rattle.std.specs.Prelude.{◌≡◌, ℕ, ◌≤◌, List, [], ◌∷◌, ◌++◌, length, codes}
use Rattle.xfs_base.specs.declared.counts.Places.{Places}
use Rattle.xfs_base.specs.declared.money.NoteKind.{NoteKind}
use Rattle.xfs_mech.specs.declared.motion.Motion.{Motion}
use Rattle.xfs_journal.specs.declared.record.Rec.{Rec}
use Rattle.xfs_audit.specs.Verdicts.{IsVerdict}
use Rattle.xfs_audit.specs.declared.verdict.Rule.TheVariants as Rule
use Rattle.xfs_audit.specs.declared.verdict.Verdict.{Verdict}
use Rattle.xfs_audit.specs.declared.verdict.Verdict.TheVariants.{Clean, Broken}
use Rattle.xfs_script.specs.Answered.{lines_text}
use Rattle.xfs_script.specs.AuditLines.{IsAuditLine}
use Rattle.xfs_script.specs.Commands.{Command}
use Rattle.xfs_script.specs.declared.audit_line.AuditLine.{AuditLine}
use Rattle.xfs_script.specs.declared.audit_line.AuditLine.TheVariants.{Skip, Body, Entry, From, To}
use Rattle.xfs_script.specs.declared.feed.TheConstants.{LONGEST_LINE}
use Rattle.xfs_lines.specs.declared.commands.audit.answer.Auditor.{Auditor}
use Rattle.xfs_guard.specs.declared.fail.BootFault.{BootFault}
use Rattle.xfs_guard.specs.Balance.{no_notes}

-- the records of a journal and the entries of a mechanism's list, the oldest first, and the places at the list's beginning and at its end
pub record Handed : Type 0 where
  pub records : List Rec
  pub motions : List Motion
  pub from : Places
  pub to : Places

abbrev pub nowhere : Places
nowhere = record { units = no_notes; transport = no_notes; outlet = no_notes; taken = no_notes; retracted = no_notes; rejected = no_notes }

-- before the first line
abbrev pub nothing : Handed
nothing = record { records = []; motions = []; from = nowhere; to = nowhere }

-- a record and an entry come behind those before them; places come in the stead of those before them
abbrev pub with_line : Handed → AuditLine → Handed
with_line h Skip = h
with_line h (Body r) = record h { records = h.records ++ r ∷ [] }
with_line h (Entry entry) = record h { motions = h.motions ++ entry ∷ [] }
with_line h (From places) = record h { from = places }
with_line h (To places) = record h { to = places }

-- a line of at most 70,000 bytes that writes a verb of `audit`
pub record IsLineOfAudit (text : List ℕ) : Type 0 where
  pub verb : AuditLine
  pub reads : IsAuditLine text verb
  pub short : length text ≤ LONGEST_LINE

-- a line hands something in, and nothing answers it
pub record HandsIn (h : Handed) (text : List ℕ) (output : List (List ℕ)) (next : Handed) : Type 0 where
  pub verb : AuditLine
  pub reads : IsAuditLine text verb
  pub short : length text ≤ LONGEST_LINE
  pub none : output ≡ []
  pub next_is : next ≡ with_line h verb

-- the command `audit` over its lines: want of memory leaves nothing of one, and it ends at none
abbrev pub audit_lines : Command Handed BootFault
audit_lines = record { IsLine = IsLineOfAudit; Answers = HandsIn; Leaves = λ h text end. end ≡ h; EndsAt = λ h text why end. ⊥ }

-- what hands something in is a line
pub is-line : (h next : Handed) (text : List ℕ) (output : List (List ℕ)) → HandsIn h text output next → IsLineOfAudit text
is-line h next text output a = record { verb = a.verb; reads = a.reads; short = a.short }

-- the line of a verdict
abbrev pub verdict_text : Verdict → List ℕ
verdict_text Clean = codes "clean"
verdict_text (Broken Rule.Agrees) = codes "broken agrees"
verdict_text (Broken Rule.Numbered) = codes "broken numbered"
verdict_text (Broken Rule.Within) = codes "broken within"
verdict_text (Broken Rule.Places) = codes "broken places"

-- the bytes are the line of the verdict of what was handed in, under a key and a table of units
pub record TellsVerdict (key : List ℕ) (units : List NoteKind) (h : Handed) (bytes : List ℕ) : Type 0 where
  pub verdict : Verdict
  pub is : IsVerdict key units h.records h.motions h.from h.to verdict
  pub text : bytes ≡ lines_text (verdict_text verdict ∷ [])

-- what an auditor was handed
abbrev pub handed_of : Auditor → Handed
handed_of a = record { records = a.records.items; motions = a.motions.items; from = a.from; to = a.to }
