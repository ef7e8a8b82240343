use Rattle.std.proofs.Common.{◌≡◌, ◌+◌, take, drop, refl, sym, subst, arith}
use Rattle.std.proofs.lemmas.Bool.{OnTrue_at, OnFalse_at}
use Rattle.std.proofs.lemmas.List.{take_all}
use Rattle.xfs_guard.specs.Agrees.{IsAsked}
use Rattle.xfs_guard.specs.Within.{Within}
use Rattle.xfs_audit.proofs.PayingLaws.{unbroken, paying-more, rises-on, all-at}
use Rattle.xfs_audit.proofs.within.is_within.Goals as goal

pub loop-entry-init : goal.loop-entry-init
loop-entry-init c = record {
  paying = c.new-payer.ensures.paying c.new-key.result c.args.units.now c.args.records.now;
  small = c.new-payer.ensures.small;
  rises = (0, c.requires.rising, omega (arith, c.new-payer.ensures.start));
}

pub returns-then-not-branch : goal.returns-then-not-branch
returns-then-not-branch c =
    let key = c.new-key.result in
    let motions = c.args.motions.now in
    let i = c.loop-entry.entry-index in (
      λ e. absurd (cc),
      λ w. absurd (unbroken key c.args.units.now c.args.records.now motions i _ c.loop-entry-test.true
          (OnFalse_at c.if-not-branch.true c.in_ok-read.ensures.unpaid (take i motions) (drop (i + 1) motions) c.loop-entry.invariant.paying)
          (subst (λ k. Within k c.args.units.now c.args.records.now motions) (sym c.new-key.ensures) w)),
    )

pub loop-entry-preserved : goal.loop-entry-preserved
loop-entry-preserved c =
    let motions = c.args.motions.now in
    let i = c.loop-entry.entry-index in
    let inv = c.loop-entry.invariant in
    let lt = c.loop-entry-test.true in
    record {
      paying = paying-more c.new-key.result c.args.units.now c.args.records.now motions i _ c.read.new.self lt
          (OnTrue_at c.if-not-branch.false c.in_ok-read.ensures.paid (take i motions) (all-at (IsAsked c.args.records.now) motions i _ lt c.requires.asked) inv.paying);
      small = OnTrue_at c.if-not-branch.false c.in_ok-read.ensures.small;
      rises = rises-on motions i _ inv.rises.0 _ lt inv.rises.1 (OnTrue_at c.if-not-branch.false c.in_ok-read.ensures.read inv.rises.0 inv.rises.2);
    }

pub returns : goal.returns
returns c =
    let key = c.args.key.now in
    let all : take c.loop-entry.entry-index c.args.motions.now ≡ c.args.motions.now = take_all c.loop-entry.entry-index c.args.motions.now (omega (arith, c.loop-entry-test.false)) in
    (λ yes. rw all at (rw c.new-key.ensures at c.loop-entry.invariant.paying).within, λ w. refl)
