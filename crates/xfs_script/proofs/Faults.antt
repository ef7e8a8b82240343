-- A fault that is passed on.
use Rattle.std.proofs.Common.{◌≡◌, Ok, Err, sym, ◌∙◌}
use Rattle.std.specs.Result.{IsErrAnd}
use Rattle.std.specs.declared.result.Result.{Result}
use Rattle.xfs_script.specs.declared.guard_line.ScriptFault.{ScriptFault}
use Rattle.xfs_script.specs.declared.guard_line.ScriptFault.TheVariants.{NotALine}

pub passed_on : {A : Type 0} (r : Result A ScriptFault) (f : ScriptFault) → IsErrAnd r (λ e. e ≡ f) → r ≡ Err NotALine → f ≡ NotALine
passed_on (Ok a) f passed is = absurd passed
passed_on (Err e) f passed is = sym passed ∙ (let same : e ≡ NotALine = cc in same)
