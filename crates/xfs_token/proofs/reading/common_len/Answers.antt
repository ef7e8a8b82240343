use Rattle.std.proofs.Common.{◌≡◌, ◌≤◌, ℕ, zero, suc, List, [], ◌∷◌, length, drop, refl, ap, ◌∙◌, arith, nat_eq}
use Rattle.std.specs.List.{common_prefix_len}
use Rattle.std.proofs.lemmas.Bool.{eq-eqb, ne_eqb}
use Rattle.std.proofs.lemmas.List.Sums.{common_prefix_len-drop_yes, common_prefix_len-drop_no}
use Rattle.xfs_token.proofs.reading.common_len.Goals as goal

past : (ys : List ℕ) (n : ℕ) → length ys ≤ n → drop n ys ≡ []
past [] zero h = refl
past [] (suc n) h = refl
past (y ∷ ys) zero h = absurd (omega arith)
past (y ∷ ys) (suc n) h = past ys n (omega arith)

none : (xs : List ℕ) → common_prefix_len nat_eq xs [] ≡ 0
none [] = refl
none (x ∷ xs) = refl

-- the word has ended
pub returns-else-n-word : goal.returns-else-n-word
returns-else-n-word c =
    let h = c.if-n-word.false in
    let ended = ap (common_prefix_len nat_eq (drop c.loop-n.n c.args.text.now)) (past c.args.word.now c.loop-n.n (omega arith)) ∙ none (drop c.loop-n.n c.args.text.now) in
    let rest = c.loop-n.invariant.rest in
    omega (arith, rest, ended)

pub loop-n-preserved : goal.loop-n-preserved
loop-n-preserved c =
    let n = c.loop-n.n in
    let rest = c.loop-n.invariant.rest in
    let same = common_prefix_len-drop_yes nat_eq c.args.text.now c.args.word.now n 0 0 c.loop-n-test.true c.if-n-word.true (eq-eqb _ _ c.if-text-n.true) in
    record {
      in_text = omega arith;
      in_word = omega arith;
      rest = omega (arith, rest, same);
    }

-- another byte
pub returns-else-text-n : goal.returns-else-text-n
returns-else-text-n c =
    let rest = c.loop-n.invariant.rest in
    let other = common_prefix_len-drop_no nat_eq c.args.text.now c.args.word.now c.loop-n.n 0 0 c.loop-n-test.true c.if-n-word.true (ne_eqb _ _ c.if-text-n.false) in
    omega (arith, rest, other)

-- the text has ended
pub returns-after-loop-n : goal.returns-after-loop-n
returns-after-loop-n c =
    let h = c.loop-n-test.false in
    let ended = ap (λ xs. common_prefix_len nat_eq xs (drop c.loop-n.n c.args.word.now)) (past c.args.text.now c.loop-n.n (omega arith)) in
    let rest = c.loop-n.invariant.rest in
    omega (arith, rest, ended)
