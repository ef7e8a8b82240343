use Rattle.std.proofs.Common.{◌≡◌, ◌++◌, ◌∷◌, List, ℕ, drop, subst, sym, ◌∙◌, rules, arith}
use Rattle.std.specs.declared.option.Option.{Option}
use Rattle.xfs_base.specs.Causes.{IfTold}
use Rattle.xfs_journal.specs.Image.{framed}
use Rattle.xfs_journal.specs.Paging.{Shows, MayCease}
use Rattle.xfs_journal.specs.declared.faults.MountFault.TheVariants.{NotJournal}
use Rattle.xfs_journal.proofs.Ceasing.{ceases_behind}
use Rattle.xfs_journal.proofs.Listing.{one_more, records-few}
use Rattle.xfs_journal.proofs.Moments.{quiet_then}
use Rattle.xfs_journal.proofs.Told.{from_some, handed_on}
use Rattle.xfs_journal.proofs.scan.read_records.Goals as goal

pub loop-recent-preserved : goal.loop-recent-preserved
loop-recent-preserved g c =
    let inv = c.loop-recent.invariant in
    let r = c.in-Some.rec in
    let J = c.loop-recent.recent.all in
    let p = c.loop-recent.page in
    let q = c.read_block.new.page in
    let found = from_some _ _ c.in_ok-rec.ensures.of_table r c.in-Some.is in
    let next = subst (λ (h : Option (List ℕ)). IfTold h (λ all. (drop p.at all ≡ (1 ∷ framed r) ++ drop q.at all) × Shows all q)) inv.3.same (from_some _ _ c.in_ok-rec.ensures.record r c.in-Some.is) in
    let more = one_more (g.D.Disk.held c.args.disk.now) c.in_ok-version.version J c.take_in.new.self.all r p q inv.0 inv.1 inv.2 found next (search rules) in (
      more.0,
      more.1,
      more.2,
      quiet_then g.D.Disk _ _ _ inv.3 c.read_block.ensures.reads.quiet,
      search rules,
    )

pub take_in-requires-clause-few : goal.take_in-requires-clause-few
take_in-requires-clause-few g c = omega (arith, c.loop-recent.invariant.0, records-few c.loop-recent.recent.all, c.read_block.ensures.small)

pub returns-in_err-rec-clause-ceases : goal.returns-in_err-rec-clause-ceases
returns-in_err-rec-clause-ceases g c =
    let inv = c.loop-recent.invariant in
    handed_on c.from_residual-in_err-rec.result c.in_err-rec.field-0.0 (λ f. (x : ℕ) → f ≡ NotJournal x → MayCease x) c.from_residual-in_err-rec.ensures.1
    (λ x e. subst MayCease (sym ((c.in_err-rec.ensures.broken x e).0 ∙ inv.0)) (ceases_behind c.loop-recent.recent.all inv.1))
