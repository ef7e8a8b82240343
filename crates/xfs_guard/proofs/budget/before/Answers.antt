use Rattle.std.proofs.Common.{refl, sym, ◌∙◌}
use Rattle.xfs_guard.proofs.budget.before.Goals as goal

pub returns-in-Some : goal.returns-in-Some
returns-in-Some c =
    let less = sym c.is_lt.ensures ∙ c.if-is_lt.true in
    let e = rw (c.cmp.ensures, c.letters.ensures.now, c.letters-in-Some-1.ensures.now) at less in
    rw (c.in-Some.is, e) refl

pub returns-in_default : goal.returns-in_default
returns-in_default c =
    let less = sym c.is_lt.ensures ∙ c.if-is_lt.false in
    let e = rw (c.cmp.ensures, c.letters.ensures.now, c.letters-in-Some-1.ensures.now) at less in
    rw (c.in-Some.is, e) refl
