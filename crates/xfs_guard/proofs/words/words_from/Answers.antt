use Rattle.std.proofs.Common.{◌∙◌, ℕ, ◌+◌, ◌^◌, ◌<◌, ap, arith, inl, inr}
use Rattle.std.proofs.lemmas.Bool.{cases_eq}
use Rattle.std.proofs.lemmas.Grind.{get_or-set_at}
use Rattle.std.proofs.lemmas.List.{length-set, get_or-set_other}
use Rattle.xfs_guard.specs.Word.{before_issue, issue_word}
use Rattle.xfs_guard.proofs.words.words_from.Goals as goal

pub loop-i-preserved : goal.loop-i-preserved
loop-i-preserved c =
    let seed = c.args.seed in
    let number : ℕ = c.args.first + c.loop-i.i in
    let small : number < 2 ^ 65 = omega arith in
    let word = c.next_of.ensures.word seed number c.loop-i.invariant.before small in
    record {
      long = length-set _ _ _ ∙ c.loop-i.invariant.long;
      before = c.next_of.ensures.behind seed number c.loop-i.invariant.before small ∙ ap (before_issue seed) (omega arith);
      filled = λ j lt. elim (cases_eq j c.loop-i.i) [
        | inl same ↦ get_or-set_at c.loop-i.words c.loop-i.i j _ 0 same (omega (arith, c.loop-i.invariant.long)) ∙ word ∙ ap (λ k. issue_word seed (c.args.first + k)) (omega (arith, same))
        | inr other ↦ get_or-set_other c.loop-i.words c.loop-i.i j _ 0 other ∙ c.loop-i.invariant.filled j (omega (arith, lt, other))
      ];
    }
