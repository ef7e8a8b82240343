use Rattle.std.proofs.Common.{◌≡◌, false, [], ◌∷◌, ◌++◌, option_map, rules, sym, subst, List}
use Rattle.xfs_base.specs.Causes.{IfTold}
use Rattle.xfs_disk.specs.Disk.{Only, overlaid}
use Rattle.xfs_journal.specs.Image.{magic}
use Rattle.xfs_journal.specs.JournalView.{IsKept}
use Rattle.xfs_journal.specs.declared.record.Rec.{Rec}
use Rattle.xfs_journal.proofs.Emptying.{kept_empty}
use Rattle.xfs_journal.proofs.mount.make_empty.Goals as goal

pub returns-clause-kept : goal.returns-clause-kept
returns-clause-kept g c =
    let d = c.write_synced.new.disk in
    let written : g.D.Disk.held d ≡ option_map (λ all. overlaid all 0 (magic ++ 0x32 ∷ 0 ∷ [])) (g.D.Disk.held c.args.disk.now) = search rules in
    let durable : IfTold (g.D.Disk.held d) (λ all. Only all (g.D.Disk.images d)) = search rules in
    subst (λ (l : List Rec). IsKept (g.D.Disk.held d) (g.D.Disk.images d) l false 8) (sym c.new.ensures.0) (kept_empty _ _ _ written durable)
