use Rattle.std.proofs.Common.{◌<◌, Some, None, subst, arith}
use Rattle.xfs_evidence.specs.Sums.{IsNextCurrency, left_behind}
use Rattle.xfs_evidence.proofs.Summing.{sums-begin, sums-end, step, left-less, is-new, units-few}
use Rattle.xfs_evidence.proofs.sums.amounts_presented.Goals as goal

pub currencies-init : goal.currencies-init
currencies-init c = sums-begin _ _

pub with_worth-told-requires-clause-few : goal.with_worth-told-requires-clause-few
with_worth-told-requires-clause-few c = units-few c.args.units.now c.args.segment.now c.currencies.last _ c.len.ensures.high c.currencies.invariant

pub with_worth-told-requires-clause-new : goal.with_worth-told-requires-clause-new
with_worth-told-requires-clause-new c =
    let next : IsNextCurrency c.args.units.now c.currencies.last (Some c.in-Some.currency) = subst (IsNextCurrency c.args.units.now c.currencies.last) c.in-Some.is c.next_currency.ensures in
    is-new c.args.units.now c.args.segment.now c.currencies.last c.in-Some.currency next _ c.currencies.invariant c.worth_presented-worth.result c.worth_presented-worth.ensures.worth

pub currencies-smaller : goal.currencies-smaller
currencies-smaller c =
    let next : IsNextCurrency c.args.units.now c.currencies.last (Some c.in-Some.currency) = subst (IsNextCurrency c.args.units.now c.currencies.last) c.in-Some.is c.next_currency.ensures in
    let less = left-less c.args.units.now c.currencies.last c.in-Some.currency next in
    let smaller : left_behind c.args.units.now (Some c.in-Some.currency) < left_behind c.args.units.now c.currencies.last = omega (arith, less) in
    smaller

pub currencies-preserved : goal.currencies-preserved
currencies-preserved c =
    let next : IsNextCurrency c.args.units.now c.currencies.last (Some c.in-Some.currency) = subst (IsNextCurrency c.args.units.now c.currencies.last) c.in-Some.is c.next_currency.ensures in
    rw c.with_worth-told.ensures (step c.args.units.now c.args.segment.now c.currencies.last c.in-Some.currency next _ c.currencies.invariant c.worth_presented-worth.result c.worth_presented-worth.ensures.worth c.worth_presented-worth.ensures.letters (rw c.worth_presented-worth.ensures.worth (c.requires.small c.in-Some.currency)))

pub returns : goal.returns
returns c =
    let next : IsNextCurrency c.args.units.now c.currencies.last None = subst (IsNextCurrency c.args.units.now c.currencies.last) c.in_default.is c.next_currency.ensures in
    sums-end c.args.units.now c.args.segment.now c.currencies.last _ c.len.ensures.high next c.currencies.invariant
