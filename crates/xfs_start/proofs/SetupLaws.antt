-- What lines set up, one after the other.
use Rattle.std.proofs.Common.{◌≡◌, ◌∙◌, List, [], ◌∷◌, ◌++◌, None, Some, ap, refl}
use Rattle.std.specs.Prelude.{fold}
use Rattle.std.specs.declared.option.Option.{Option}
use Rattle.std.proofs.lemmas.List.Sums.{fold_push}
use Rattle.xfs_simulated.specs.Setups.{BenchSetup, quiet_setup}
use Rattle.xfs_start.specs.BenchFile.{setup_after, setup_by, with_line}
use Rattle.xfs_start.specs.declared.bench_line.BenchLine.{BenchLine}

pub one_more : (xs : List BenchLine) (x : BenchLine) (before : BenchSetup) → setup_by xs ≡ Some before → setup_by (xs ++ x ∷ []) ≡ with_line before x
one_more xs x before is = fold_push setup_after (Some quiet_setup) xs x ∙ ap (λ s. setup_after s x) is

none_after : (xs : List BenchLine) → fold setup_after None xs ≡ None
none_after [] = refl
none_after (x ∷ xs) = none_after xs

stopped_at : (xs rest : List BenchLine) (x : BenchLine) (s : Option BenchSetup) (before : BenchSetup) → fold setup_after s xs ≡ Some before → with_line before x ≡ None → fold setup_after s (xs ++ x ∷ rest) ≡ None
stopped_at [] rest x s before is none = ap (λ t. fold setup_after (setup_after t x) rest) is ∙ ap (λ t. fold setup_after t rest) none ∙ none_after rest
stopped_at (y ∷ ys) rest x s before is none = stopped_at ys rest x (setup_after s y) before is none

-- a line that says something again, wherever it stands
pub stopped : (xs rest : List BenchLine) (x : BenchLine) (before : BenchSetup) → setup_by xs ≡ Some before → with_line before x ≡ None → setup_by (xs ++ x ∷ rest) ≡ None
stopped xs rest x before is none = stopped_at xs rest x (Some quiet_setup) before is none
