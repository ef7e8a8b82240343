use Rattle.std.proofs.Common.{rules, ◌≡◌, refl, inl, inr, arith, List, ℕ, [], length}
use Rattle.std.specs.declared.option.Option.{Option}
use Rattle.xfs_base.specs.declared.money.NoteKind.{NoteKind}
use Rattle.xfs_base.specs.declared.counts.Places.{Places}
use Rattle.xfs_mech.specs.declared.motion.Motion.{Motion}
use Rattle.xfs_disk.specs.MemDisk.{IsImage as MayBe, bytes_of}
use Rattle.xfs_disk.specs.Wrapped.{inner_of}
use Rattle.xfs_journal.specs.Image.{StandsFor}
use Rattle.xfs_journal.specs.declared.record.Rec.{Rec}
use Rattle.xfs_journal.proofs.Unique.{stands_for_one}
use Rattle.xfs_guard.specs.Recorded.{IsRecorded}
use Rattle.xfs_lines.specs.Upholds.{Upholds}
use Rattle.xfs_guard.proofs.StartLaws.{at_rest-memory}
use Rattle.xfs_scripts.proofs.bench.cut_off.Goals as goal

-- what a run upholds is what the next one starts from
upheld-starts : (key : List ℕ) (units : List NoteKind) (L L' : Option (List Motion)) (P P' : Places) (c : List ℕ) (J : List Rec) → Upholds key units [] L P c L' P' → StandsFor c J → IsRecorded key units L' J
upheld-starts key units L L' P P' c J upheld stands = rw (stands_for_one c J upheld.records stands upheld.stands) upheld.recorded

pub returns : goal.returns
returns c =
    let start : StandsFor (bytes_of (inner_of c.fused_core-core.result.disk)) [] = rw c.fused_core-core.ensures.disk (inr (refl, rw c.empty.ensures.empty (omega arith), c.empty.ensures.none)) in
    record {
      starts = record {
        units = search rules;
        recorded = λ left may J stands.
            let image : MayBe (inner_of c.play-ended.result.disk) left = rw (at_rest-memory c.crash.result c.crash.ensures.settled left may) (rw c.inner-disk.ensures at c.crash.ensures.image) in
            rw c.copied-units.ensures (rw c.resume.ensures.motions (rw c.in_ok-motions.ensures (rw c.motions.ensures
            (upheld-starts _ _ _ _ _ _ left J (c.play-ended.ensures.upholds [] start left image) stands))));
        at_rest = at_rest-memory c.crash.result c.crash.ensures.settled;
      };
    }
