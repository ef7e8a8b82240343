use Rattle.std.proofs.Common.{◌≡◌, ◌∙◌, List, ℕ, ap, subst, drop, rules}
use Rattle.std.proofs.lemmas.List.{take_rest}
use Rattle.std.specs.Prelude.{slice_index}
use Rattle.xfs_base.specs.Causes.{IfTold}
use Rattle.xfs_journal.specs.Image.{body}
use Rattle.xfs_journal.specs.Paging.{IsNoBody}
use Rattle.xfs_journal.specs.declared.faults.BodyFault.TheVariants.{Form}
use Rattle.xfs_journal.proofs.Blocks.{found, none_found, same_place}
use Rattle.xfs_journal.proofs.Told.{on_told, from_told}
use Rattle.xfs_journal.proofs.block.read_block.Goals as goal

pub returns-in-Ok-clause-record : goal.returns-in-Ok-clause-record
returns-in-Ok-clause-record g c =
    let gate = c.at-gate.result in
    let o = c.read_rest.new.block in
    let opens : IfTold (g.D.Disk.held c.args.disk.now) (λ all. slice_index (drop gate all) 0 ≡ 1) = search rules in
    let same : body c.in-Ok.rec ≡ drop 3 o = c.in-Ok.ensures.ok.1 ∙ take_rest c.bytes.result.now 3 ∙ ap (λ (l : List ℕ). drop 3 l) c.bytes.ensures in
    on_told _ _ (λ b known.
    let mid = c.read_gate.ensures.reads.quiet.same ∙ known in
    found _ b mid c.read_rest.new.page gate c.args.page.now.at o c.in_ok-read_rest.ensures.since c.at-gate.ensures.value
    (from_told _ _ c.in_ok-read_rest.ensures.whole b mid) (from_told _ _ opens b known) c.in-Ok.rec (from_told _ _ c.in_ok-read_rest.ensures.fits b mid) same)

pub returns-in-Err-Form-clause-broken : goal.returns-in-Err-Form-clause-broken
returns-in-Err-Form-clause-broken g c =
    let gate = c.at-gate.result in
    let o = c.read_rest.new.block in
    let opens : IfTold (g.D.Disk.held c.args.disk.now) (λ all. slice_index (drop gate all) 0 ≡ 1) = search rules in
    let form : c.in-Err-Form.field-0 ≡ Form = search rules in
    let none : IsNoBody (drop 3 o) = subst IsNoBody (take_rest c.bytes.result.now 3 ∙ ap (λ (l : List ℕ). drop 3 l) c.bytes.ensures) (c.in-Err-Form.ensures.form form) in
    λ x e. (
      same_place gate x e ∙ c.at-gate.ensures.value,
      on_told _ _ (λ b known.
          let mid = c.read_gate.ensures.reads.quiet.same ∙ known in
          none_found _ b mid c.read_rest.new.page gate c.args.page.now.at o c.in_ok-read_rest.ensures.since c.at-gate.ensures.value
          (from_told _ _ c.in_ok-read_rest.ensures.whole b mid) (from_told _ _ opens b known) none),
    )
