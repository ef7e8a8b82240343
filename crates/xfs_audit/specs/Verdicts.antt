-- What an audit finds: every rule is kept, or the first that isn't.
use Rattle.std.specs.Prelude.{ℕ, List}
use Rattle.xfs_base.specs.declared.counts.Places.{Places}
use Rattle.xfs_base.specs.declared.money.NoteKind.{NoteKind}
use Rattle.xfs_mech.specs.declared.motion.Motion.{Motion}
use Rattle.xfs_mech.specs.Motions.{PlacesOf}
use Rattle.xfs_journal.specs.declared.record.Rec.{Rec}
use Rattle.xfs_journal.specs.Journal.{Numbered}
use Rattle.xfs_guard.specs.Agrees.{Agrees}
use Rattle.xfs_guard.specs.Within.{Within}
use Rattle.xfs_audit.specs.declared.verdict.Rule.TheVariants as Rule
use Rattle.xfs_audit.specs.declared.verdict.Verdict.{Verdict}
use Rattle.xfs_audit.specs.declared.verdict.Verdict.TheVariants.{Clean, Broken}

-- the rules in their order: clean where all are kept, else the first that isn't
abbrev pub IsVerdict : List ℕ → List NoteKind → List Rec → List Motion → Places → Places → Verdict → Type 0
IsVerdict key units records motions from to Clean = Agrees records motions × Numbered records × Within key units records motions × PlacesOf from motions to
IsVerdict key units records motions from to (Broken Rule.Agrees) = ¬ (Agrees records motions)
IsVerdict key units records motions from to (Broken Rule.Numbered) = Agrees records motions × ¬ (Numbered records)
IsVerdict key units records motions from to (Broken Rule.Within) = Agrees records motions × Numbered records × ¬ (Within key units records motions)
IsVerdict key units records motions from to (Broken Rule.Places) = Agrees records motions × Numbered records × Within key units records motions × ¬ (PlacesOf from motions to)
