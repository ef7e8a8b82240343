-- What two facts of a result give together.
use Rattle.std.proofs.Common.{Ok, Err, IfErr, IfOk}
use Rattle.std.specs.declared.result.Result.{Result}

-- two facts of an error give a third
pub IfErr-both : {A E : Type 0} (P Q S : E → Type 0) (result : Result A E) → ((e : E) → P e → Q e → S e) → IfErr result P → IfErr result Q → IfErr result S
IfErr-both P Q S (Ok a) follows one other = tt
IfErr-both P Q S (Err e) follows one other = follows e one other

-- two facts of a value give a third
pub IfOk-both : {A E : Type 0} (P Q S : A → Type 0) (result : Result A E) → ((a : A) → P a → Q a → S a) → IfOk result P → IfOk result Q → IfOk result S
IfOk-both P Q S (Ok a) follows one other = follows a one other
IfOk-both P Q S (Err e) follows one other = tt
