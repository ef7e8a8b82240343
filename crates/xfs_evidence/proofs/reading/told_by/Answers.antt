use Rattle.std.proofs.Common.{◌≡◌, ◌∙◌, [], Some, ap, sym, arith, rules}
use Rattle.std.specs.Prelude.{codes, decimal, unwrap_or}
use Rattle.xfs_token.proofs.AmountReading.{IfNone_from}
use Rattle.xfs_evidence.specs.Evidence.{IsToldBy}
use Rattle.xfs_evidence.specs.declared.shown.Shown.{Shown}
use Rattle.xfs_evidence.proofs.Pairs.{pair-at, onto-on, onto-none, onto-is, onto-listed, none-told, all-told, read-all}
use Rattle.xfs_evidence.proofs.reading.told_by.Goals as goal

pub returns-in_err-told_onto-clause-none : goal.returns-in_err-told_onto-clause-none
returns-in_err-told_onto-clause-none c =
    let pairs = c.args.token.now.pairs in
    let at = pair-at pairs c.pairs.i _ _ c.key-in-pairs.ensures c.value-in-pairs.ensures in
    let none = onto-none (unwrap_or c.pairs.amounts []) pairs c.pairs.i _ _ at c.in_err-told_onto.ensures in
    IfNone_from c.from_residual-in_err-told_onto.result ((shown : Shown) → IsToldBy pairs shown → ⊥) (λ shown t. none-told pairs shown (sym c.pairs.invariant.rest ∙ none) t)

pub pairs-preserved : goal.pairs-preserved
pairs-preserved c =
    let pairs = c.args.token.now.pairs in
    let told = unwrap_or c.pairs.amounts [] in
    let at = pair-at pairs c.pairs.i _ _ c.key-in-pairs.ensures c.value-in-pairs.ensures in
    let is = onto-is told c.in_ok-told_onto.field-0 (c.key-in-pairs.result.now, c.value-in-pairs.result.now) c.in_ok-told_onto.ensures in record {
      rest = onto-on told c.in_ok-told_onto.field-0 pairs c.pairs.i _ _ at c.in_ok-told_onto.ensures ∙ c.pairs.invariant.rest;
      few = is.few;
      rising = is.rising c.pairs.invariant.rising;
      listed = onto-listed told c.in_ok-told_onto.field-0 is;
    }

pub returns-clause-found : goal.returns-clause-found
returns-clause-found c =
    let pairs = c.args.token.now.pairs in
    let read = read-all (unwrap_or c.pairs.amounts []) pairs c.pairs.i (omega (arith, c.pairs-test.false, c.len-i-end.ensures)) c.pairs.invariant.rest in
    let name : c.key.result.now ≡ codes "ISSUE" = search rules in
    let first = pair-at pairs 0 (codes "ISSUE") (decimal c.in_ok-issue.issue) (c.key.ensures ∙ ap Some name) (c.value.ensures ∙ ap Some c.in_ok-issue.ensures.found.1) in
    all-told pairs _ _ first c.in_ok-issue.ensures.found.0 (omega arith) read c.pairs.invariant.listed
