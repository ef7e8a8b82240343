use Rattle.std.proofs.Common.{◌≡◌, arith}
use Rattle.std.proofs.lemmas.Nat.Gcd.{IsGcd-from_mod, IsGcd-from_zero}
use Rattle.xfs_mix.proofs.steps.greatest_divisor.Goals as goal

pub loop-rest-preserved : goal.loop-rest-preserved
loop-rest-preserved c = λ g gcd. c.loop-rest.invariant g (IsGcd-from_mod c.loop-rest.divisor c.loop-rest.rest g gcd)

pub returns : goal.returns
returns c =
    let none : c.loop-rest.rest ≡ 0 = omega arith in
    c.loop-rest.invariant c.loop-rest.divisor (IsGcd-from_zero c.loop-rest.divisor c.loop-rest.rest none)
