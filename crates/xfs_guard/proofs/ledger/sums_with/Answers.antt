use Rattle.std.proofs.Common.{◌≡◌, ◌≢◌, ℕ, List, Some, sym, ◌∙◌, ap, arith, inl, inr, get_or}
use Rattle.std.specs.Prelude.{slice_get}
use Rattle.std.proofs.lemmas.Bool.{cases_eq}
use Rattle.std.proofs.lemmas.Option.{slice_get_within}
use Rattle.std.proofs.lemmas.List.{length-set, get_or-set_other}
use Rattle.std.proofs.lemmas.Grind.{get_or-set_at}
use Rattle.xfs_guard.proofs.ledger.sums_with.Goals as goal

pub overflow_cast-sums : goal.overflow_cast-sums
overflow_cast-sums c =
    let small = c.requires c.loop-i.i (c.at-currency.result.0, c.at-currency.result.1.0) c.at-currency.ensures in
    omega (arith, small, c.value.ensures.value)

pub overflow_add-sums : goal.overflow_add-sums
overflow_add-sums c =
    let small = c.requires c.loop-i.i (c.at-currency.result.0, c.at-currency.result.1.0) c.at-currency.ensures in
    let old = c.loop-i.invariant.old c.loop-i.i (omega arith) in
    rw c.from.ensures (omega (arith, small, c.value.ensures.value, old))

pub returns : goal.returns
returns c i a e = c.loop-i.invariant.new i a e (let lt = slice_get_within c.args.amounts.now i a e in omega (arith, lt, c.len-i-end.ensures.len))

-- the entries of a list at one place are one
same_entry : (xs : List (List ℕ × ℕ)) (i j : ℕ) (a b : List ℕ × ℕ) → i ≡ j → slice_get xs i ≡ Some a → slice_get xs j ≡ Some b → a ≡ b
same_entry xs i j a b e p q = some-same (sym p ∙ (ap (λ k. slice_get xs k) e ∙ q))
  where
    some-same : Some a ≡ Some b → a ≡ b
    some-same e = cc

pub loop-i-preserved : goal.loop-i-preserved
loop-i-preserved c = record {
  long = length-set _ _ _ ∙ c.loop-i.invariant.long;
  new = λ j a e lt. elim (cases_eq j c.from.result) [
    | inl same ↦
        let i : j ≡ c.loop-i.i = omega (arith, c.from.ensures) in
        let mine : a ≡ (c.at-currency.result.0, c.at-currency.result.1.0) = same_entry c.args.amounts.now j c.loop-i.i a _ i e c.at-currency.ensures in
        let old = c.loop-i.invariant.old j (omega arith) in
        let at = ap (λ k. get_or c.loop-i.sums k 0) same in
        get_or-set_at c.loop-i.sums c.from.result j _ 0 same (omega (arith, c.from.ensures, c.loop-i.invariant.long, c.len-i-end.ensures.valid))
        ∙ (rw mine (omega (arith, old, at, c.value.ensures.value)))
    | inr other ↦ get_or-set_other c.loop-i.sums c.from.result j _ 0 other ∙ c.loop-i.invariant.new j a e (omega (arith, c.from.ensures))
  ];
  old = λ j le. let ne : j ≢ c.from.result = omega (arith, c.from.ensures) in get_or-set_other c.loop-i.sums c.from.result j _ 0 ne ∙ c.loop-i.invariant.old j (omega arith);
}
