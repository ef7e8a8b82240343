-- The numbers of what the mechanism did in a run lie behind the journal that the run began with.
use Rattle.std.proofs.Common.{◌≡◌, inl, ℕ, ◌<◌, ◌≤◌, List, length, None, Some, refl, ◌∙◌, ap, arith}
use Rattle.std.specs.declared.option.Option.{Option}
use Rattle.xfs_base.specs.Causes.{IfTold}
use Rattle.xfs_base.specs.declared.counts.Places.{Places}
use Rattle.xfs_mech.specs.Moves.{IsNewer}
use Rattle.xfs_mech.specs.declared.motion.Motion.{Motion}
use Rattle.xfs_mech.proofs.MotionLaws.{all-numbers}
use Rattle.xfs_mech.proofs.MoveLaws.{IsNewer-same}
use Rattle.xfs_journal.specs.Image.{StandsFor}
use Rattle.xfs_journal.specs.declared.record.Rec.{Rec}
use Rattle.xfs_journal.specs.Journal.{boot_of, with_boot}
use Rattle.xfs_journal.proofs.Unique.{stands_for_one}
use Rattle.xfs_guard.specs.Continues.{Continues, Leads, Led}
use Rattle.xfs_guard.specs.View.{View}
use Rattle.xfs_guard.proofs.ContinueLaws.{only-possible}
use Rattle.xfs_guard.proofs.RecordLaws.{length-pushed}
use Rattle.xfs_lines.proofs.RunLaws.{Starts}

-- what led from a list with a boot record has numbers behind the list without it
newer-led : (J K : List Rec) (b n : List Motion) (P Q R : Places) → Led (with_boot J P) b Q K n R → IsNewer (length J) (Some b) (Some n)
newer-led J K b n P Q R led = record {
  entries = led.follows.moves;
  grown = ap Some led.follows.moved;
  newer = all-numbers (λ k. length (with_boot J P) ≤ k) (λ k. length J < k) led.follows.moves (λ k le. let more = length-pushed J (boot_of J P) in omega (arith, le, more)) led.follows.later;
}

newer-leads : (J K : List Rec) (before now : Option (List Motion)) (P Q R : Places) → Leads (with_boot J P) before Q K now R → IsNewer (length J) before now
newer-leads J K None None P Q R leads = IsNewer-same (length J) None
newer-leads J K None (Some n) P Q R leads = absurd leads
newer-leads J K (Some b) None P Q R leads = absurd leads
newer-leads J K (Some b) (Some n) P Q R leads = newer-led J K b n P Q R leads

pub newer-run : (first last : View) (J0 : List Rec) (held : Option (List ℕ)) (images : List ℕ → Type 0) (told : Option (List Motion))
    → first.records ≡ with_boot J0 first.places → first.in_doubt ≡ None → IfTold held (λ bytes. StandsFor bytes J0)
    → Starts held images first.key first.units first.motions → ((bytes : List ℕ) → held ≡ Some bytes → images bytes)
    → Continues first last → told ≡ last.motions
    → IfTold held (λ bytes. (J : List Rec) → StandsFor bytes J → IsNewer (length J) first.motions told)
newer-run first last J0 None images told booted clean stood starts read c told_is = tt
newer-run first last J0 (Some bytes) images told booted clean stood starts read c told_is = λ J stands.
    let same : J ≡ J0 = stands_for_one bytes J J0 stands stood in
    let comes = c.leads last.records (inl refl) in
    let from : comes.from ≡ with_boot J0 first.places = only-possible first.records comes.from first.in_doubt clean comes.possible ∙ booted in
    rw (same, told_is) (newer-leads J0 last.records first.motions last.motions first.places first.places last.places (rw from at comes.led))

-- a mechanism that did nothing
pub newer-same : (held : Option (List ℕ)) (list : Option (List Motion)) → IfTold held (λ bytes. (J : List Rec) → StandsFor bytes J → IsNewer (length J) list list)
newer-same None list = tt
newer-same (Some bytes) list = λ J stands. IsNewer-same (length J) list
