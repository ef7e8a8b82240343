use Rattle.std.proofs.Common.{◌≡◌, ◌≢◌, ◌∙◌, ◌++◌, ◌∷◌, ℕ, [], inl, inr, length, sym, arith, rules}
use Rattle.std.specs.Cmp.Lexicographic.{other_text}
use Rattle.xfs_journal.specs.Image.{magic}
use Rattle.xfs_journal.specs.Paging.{CeasesAt, MayCease}
use Rattle.xfs_journal.specs.declared.faults.MountFault.TheVariants.{NotJournal}
use Rattle.xfs_journal.proofs.Beginning.{unbegun}
use Rattle.xfs_journal.proofs.Blocks.{same_place}
use Rattle.xfs_journal.proofs.Paged.{since_front}
use Rattle.xfs_journal.proofs.Told.{on_told, handed_on}
use Rattle.xfs_journal.proofs.scan.read_magic.Goals as goal

pub returns-else-eq-clause-broken : goal.returns-else-eq-clause-broken
returns-else-eq-clause-broken g c = λ x e. on_told _ (λ all. CeasesAt all x) (λ all known.
    let o = c.need.new.out in
    let front = c.in-Some.front.now in
    let count : length o ≡ 8 = search rules in
    let split : o ≡ front ++ c.in-Some.version.now ∷ [] = sym c.bytes.ensures ∙ c.in-Some.ensures.cases.0 in
    let spelled : c.as_slice.result.now ≡ magic = search rules in
    let other : front ≢ magic = λ same. other_text front c.as_slice.result.now c.if-eq.ensures (same ∙ sym spelled) in
    inl (inl (unbegun all o front c.in-Some.version.now (since_front _ _ 0 o c.in_ok-need.ensures.since all known) count split other), same_place 0 x e))

pub returns-in_err-need-clause-ceases : goal.returns-in_err-need-clause-ceases
returns-in_err-need-clause-ceases g c =
    handed_on c.from_residual.result c.in_err-need.field-0.0 (λ f. (x : ℕ) → f ≡ NotJournal x → MayCease x) c.from_residual.ensures.1
    (λ x e. ([], inl (inr (omega arith), (c.in_err-need.ensures.short x e).0)))
