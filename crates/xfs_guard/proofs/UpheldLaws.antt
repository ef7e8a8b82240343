-- What stands of a guard between its calls.
use Rattle.std.proofs.Common.{◌≡◌, ℕ, ◌+◌, Bool, true, false, List, None, Some, refl, ◌∙◌}
use Rattle.std.specs.Prelude.{is_some, ◌||◌}
use Rattle.std.specs.declared.option.Option.{Option}
use Rattle.xfs_base.specs.Causes.{IfTold}
use Rattle.xfs_base.specs.declared.money.NoteKind.{NoteKind}
use Rattle.xfs_disk.specs.declared.disk.Disk.{Ghosts}
use Rattle.xfs_journal.specs.Journal.{live_of}
use Rattle.xfs_mech.specs.declared.motion.Motion.{Motion}
use Rattle.xfs_guard.specs.declared.open.Open.TheVariants.{No}
use Rattle.xfs_guard.specs.Kept.{IsKept}
use Rattle.xfs_guard.specs.Presented.{presented_in, unsettled}
use Rattle.xfs_guard.specs.Sound.{Ties, where_told}
use Rattle.xfs_guard.specs.Upheld.{IsCounted, IsUpheld}
use Rattle.xfs_guard.specs.View.{View}
use Rattle.xfs_guard.specs.Within.{shown}
use Rattle.xfs_guard.proofs.LeftLaws.{leaves-recorded}
use Rattle.xfs_guard.proofs.MarkLaws.{boot-marked, mark-there, bound-there, issue-there}
use Rattle.xfs_disk.specs.Moments.{EachImage}
use Rattle.xfs_journal.specs.JournalView.{HasPossible, IsPossible}
use Rattle.xfs_journal.specs.Held.{StandsForSome}
use Rattle.std.proofs.lemmas.Bool.{or_parts}

either : (a b : Bool) (Claim : Type 0) → (a ≡ true → Claim) → (b ≡ true → Claim) → (a || b) ≡ true → Claim
either true b Claim one two e = one refl
either false b Claim one two e = two e

counted : (v : View) → IfTold (where_told v.disk_told v.motions) (Ties v) → IsCounted v
counted v told = go (where_told v.disk_told v.motions) told
  where
    go : (m : Option (List Motion)) → IfTold m (Ties v) → IfTold m (λ motions.
        (p : ℕ) (c : List ℕ) → live_of v.records ≡ Some p
        → shown v.units v.records motions p c ≡ presented_in v.units v.records c + unsettled v.units v.open_order c)
    go None t = tt
    go (Some entries) t = t.counted

pub upheld : {D : Type 0} (g : Ghosts D) (v : View) (d : D) (spare left : ℕ) (kinds : List NoteKind) → v.disk_told ≡ is_some (g.held d) → IsKept v spare left kinds → EachImage g d (HasPossible v.records v.in_doubt) → EachImage g d (StandsForSome (IsPossible v.records v.in_doubt))
    → IsUpheld g (record { state = v; disk = d })
upheld g v d spare left kinds told kept stored leaves = record {
  stored = stored;
  recorded = leaves-recorded g d v leaves (λ is. kept.recorded (told ∙ is));
  clean = kept.clean;
  closed = λ e. either v.shut v.boot_missing (v.open_order ≡ No) kept.closed kept.missing e;
  order = λ e. let both = or_parts v.shut v.boot_missing e in (kept.sound both.0 both.1).stands;
  budget = λ e. let both = or_parts v.shut v.boot_missing e in (kept.sound both.0 both.1).budget;
  counted = λ e. let both = or_parts v.shut v.boot_missing e in counted v (kept.sound both.0 both.1).told;
  issue = issue-there v.boot_missing v.records;
  balanced = kept.balanced;
  mark = mark-there v.records (boot-marked kept.balanced.boot v.booted kept.balanced.tells v.records kept.balanced.kept);
  bind = bound-there v.records;
}
