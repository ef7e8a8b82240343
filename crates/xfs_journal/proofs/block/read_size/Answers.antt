use Rattle.std.proofs.Common.{◌≡◌, ◌<◌, ℕ, drop, subst, sym, arith, rules}
use Rattle.std.specs.Prelude.{slice_index}
use Rattle.xfs_journal.specs.Paging.{AreSizeBytes, size_in}
use Rattle.xfs_journal.proofs.Blocks.{broken_long, some_of, front_at, front_size, same_place}
use Rattle.xfs_journal.proofs.Paged.{since_front}
use Rattle.xfs_journal.proofs.Told.{on_told, from_told}
use Rattle.xfs_journal.proofs.block.read_size.Goals as goal

pub returns-then-size-gt1025-clause-broken : goal.returns-then-size-gt1025-clause-broken
returns-then-size-gt1025-clause-broken g c = λ x e. (
  same_place c.args.gate x e,
  on_told _ _ (λ b known.
      let l = drop c.args.gate b in
      let o = c.need.new.out in
      let prefix = since_front _ _ _ o c.in_ok-need.ensures.since b known in
      let size : c.from-size.result ≡ size_in o = search rules in
      broken_long l (some_of l o prefix (omega (arith, c.in_ok-need.ensures.count))) (from_told _ _ c.requires.open b known)
      (omega (arith, c.if-size-gt1025.true, size, front_size l o _ prefix (omega (arith, c.in_ok-need.ensures.count))))),
)

pub returns-clause-fits : goal.returns-clause-fits
returns-clause-fits g c = on_told _ (λ all. AreSizeBytes (drop c.args.gate all)) (λ b known.
    let l = drop c.args.gate b in
    let o = c.need.new.out in
    let prefix = since_front _ _ _ o c.in_ok-need.ensures.since b known in
    let high : slice_index o 1 < 256 = search rules in
    let low : slice_index o 2 < 256 = search rules in (
      subst (λ (n : ℕ). n < 256) (sym (front_at l o _ prefix 1 (omega (arith, c.in_ok-need.ensures.count)))) high,
      subst (λ (n : ℕ). n < 256) (sym (front_at l o _ prefix 2 (omega (arith, c.in_ok-need.ensures.count)))) low,
    ))
