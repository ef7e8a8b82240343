use Rattle.std.proofs.Common.{◌≡◌, ◌≤◌, List, ℕ, inl, subst, length, is_some, sym, ap, ◌∙◌, drop, arith}
use Rattle.std.specs.declared.option.Option.{Option}
use Rattle.xfs_base.specs.Causes.{IfTold}
use Rattle.xfs_journal.specs.Image.{IsImage}
use Rattle.xfs_journal.specs.JournalView.{HasPossible, IsPossible}
use Rattle.xfs_journal.specs.Holding.{with_front}
use Rattle.xfs_journal.proofs.BaseLaws.{base_of-le}
use Rattle.xfs_journal.proofs.Doubt.{imaged, some_list, behind_silent, joined_possible, joined_long, image_joined, kept_joined, possible_of_table}
use Rattle.xfs_journal.proofs.Told.{if_ok, if_ok_both, if_err, if_err_both}
use Rattle.xfs_journal.proofs.remount.reload.Goals as goal

pub read_again-requires-clause-image : goal.read_again-requires-clause-image
read_again-requires-clause-image g c =
    some_list _ _ c.args.kept.now.all c.args.in_doubt.now c.sync_len.ensures.reads.quiet.same
    (imaged _ (g.D.Disk.images c.args.disk.now) c.args.kept.now.all c.args.in_doubt.now (g.met.D.Disk.as_read c.args.disk.now) c.requires.possible)

pub returns-clause-possible : goal.returns-clause-possible
returns-clause-possible g c =
    let K = c.args.kept.now.all in
    let le : c.args.kept.now.base ≤ length K = omega (arith, c.requires.led, base_of-le K) in
    if_ok c.possible.result _ _ (λ l p. joined_possible K c.args.in_doubt.now c.args.kept.now.base le l.recent.all p) c.possible.ensures.possible

pub returns-clause-kept : goal.returns-clause-kept
returns-clause-kept g c =
    let K = c.args.kept.now.all in
    let d = c.args.in_doubt.now in
    let b = c.args.kept.now.base in
    let L = c.in_ok-listed.listed.recent.all in
    let h = g.D.Disk.held c.args.disk.now in
    let le : b ≤ length K = omega (arith, c.requires.led, base_of-le K) in
    let has : IfTold h (λ all. HasPossible K d all) = imaged _ (g.D.Disk.images c.args.disk.now) K d (g.met.D.Disk.as_read c.args.disk.now) c.requires.possible in
    let image : IfTold h (λ all. IsImage all L) = subst (λ (h : Option (List ℕ)). IfTold h (λ all. IsImage all L)) c.sync_len.ensures.reads.quiet.same c.in_ok-listed.ensures.image in
    let h2 = g.D.Disk.held c.read_again.new.disk in
    let told : is_some h2 ≡ is_some h = c.read_again.ensures.tries.goes_on.told ∙ ap is_some c.sync_len.ensures.reads.quiet.same in
    if_ok_both c.possible.result _ _ _ (λ l same p.
    let q : IsPossible (drop b K) d (drop b L) = rw (← same.0) p in
    let all = possible_of_table K d (with_front b K L) c.requires.of_table.0 c.requires.of_table.1 (joined_possible K d b le L q) in
    rw (same.0, same.1) (kept_joined h h2 (g.D.Disk.images c.read_again.new.disk) K L d b le has image c.in_ok-listed.listed.end told all c.in_ok-listed.ensures.kept))
    c.possible.ensures.same c.possible.ensures.possible

pub returns-clause-version : goal.returns-clause-version
returns-clause-version g c = if_ok c.possible.result _ _ (λ l same. rw same.2 c.in_ok-listed.ensures.version) c.possible.ensures.same

pub returns-clause-image : goal.returns-clause-image
returns-clause-image g c =
    let K = c.args.kept.now.all in
    let d = c.args.in_doubt.now in
    let b = c.args.kept.now.base in
    let L = c.in_ok-listed.listed.recent.all in
    let h = g.D.Disk.held c.args.disk.now in
    let le : b ≤ length K = omega (arith, c.requires.led, base_of-le K) in
    let has : IfTold h (λ all. HasPossible K d all) = imaged _ (g.D.Disk.images c.args.disk.now) K d (g.met.D.Disk.as_read c.args.disk.now) c.requires.possible in
    let image : IfTold h (λ all. IsImage all L) = subst (λ (h : Option (List ℕ)). IfTold h (λ all. IsImage all L)) c.sync_len.ensures.reads.quiet.same c.in_ok-listed.ensures.image in
    if_ok c.possible.result _ _ (λ l same. rw same.0 (image_joined h h (g.D.Disk.images c.args.disk.now) K L d b le has image)) c.possible.ensures.same

pub returns-clause-long : goal.returns-clause-long
returns-clause-long g c =
    let K = c.args.kept.now.all in
    let b = c.args.kept.now.base in
    let le : b ≤ length K = omega (arith, c.requires.led, base_of-le K) in
    if_ok c.possible.result _ _ (λ l long. sym (joined_long K l.recent.all b le long)) c.possible.ensures.long

pub returns-clause-silent : goal.returns-clause-silent
returns-clause-silent g c =
    let K = c.args.kept.now.all in
    let d = c.args.in_doubt.now in
    let b = c.args.kept.now.base in
    let L = c.in_ok-listed.listed.recent.all in
    let h = g.D.Disk.held c.args.disk.now in
    let le : b ≤ length K = omega (arith, c.requires.led, base_of-le K) in
    let has : IfTold h (λ all. HasPossible K d all) = imaged _ (g.D.Disk.images c.args.disk.now) K d (g.met.D.Disk.as_read c.args.disk.now) c.requires.possible in
    let image : IfTold h (λ all. IsImage all L) = subst (λ (h : Option (List ℕ)). IfTold h (λ all. IsImage all L)) c.sync_len.ensures.reads.quiet.same c.in_ok-listed.ensures.image in
    if_err c.possible.result _ _ (λ f other at e. behind_silent h K L d b le has image (other at e)) c.possible.ensures.other

pub returns-clause-place : goal.returns-clause-place
returns-clause-place g c = if_err_both c.possible.result _ _ _ (λ f other differs at e. inl (c.in_ok-listed.listed.recent.all, other at e, differs at e)) c.possible.ensures.other c.possible.ensures.differs
