-- Places over several steps, and facts of every entry of a list.
use Rattle.std.proofs.Common.{ℕ, List, [], ◌∷◌, ◌++◌, arith}
use Rattle.std.specs.List.{AllByRecursion}
use Rattle.std.proofs.lemmas.List.Sums.{sum_by-append}
use Rattle.xfs_base.specs.declared.counts.Places.{Places}
use Rattle.xfs_mech.specs.declared.motion.Motion.{Motion}
use Rattle.xfs_mech.specs.declared.motion.Motion.TheVariants.{Moved, Taken, Loaded}
use Rattle.xfs_mech.specs.Motions.{stacked, diverted_of, presented, rejected, retracted, taken, loaded, PlacesOf, NumberIs}

pub PlacesOf-same : (P : Places) → PlacesOf P [] P
PlacesOf-same P = record {
  units = λ u. omega arith;
  transport = λ u. omega arith;
  outlet = λ u. omega arith;
  taken_out = λ u. omega arith;
  back = λ u. omega arith;
  bin = λ u. omega arith;
}

pub PlacesOf-append : (P Q R : Places) (E F : List Motion) → PlacesOf P E Q → PlacesOf Q F R → PlacesOf P (E ++ F) R
PlacesOf-append P Q R E F a b = record {
  units = λ u. omega (arith, a.units u, b.units u, sum_by-append (stacked u) E F, sum_by-append (diverted_of u) E F, sum_by-append (loaded u) E F);
  transport = λ u. omega (arith, a.transport u, b.transport u, sum_by-append (presented u) E F, sum_by-append (rejected u) E F, sum_by-append (stacked u) E F);
  outlet = λ u. omega (arith, a.outlet u, b.outlet u, sum_by-append (retracted u) E F, sum_by-append (taken u) E F, sum_by-append (presented u) E F);
  taken_out = λ u. omega (arith, a.taken_out u, b.taken_out u, sum_by-append (taken u) E F);
  back = λ u. omega (arith, a.back u, b.back u, sum_by-append (retracted u) E F);
  bin = λ u. omega (arith, a.bin u, b.bin u, sum_by-append (rejected u) E F, sum_by-append (diverted_of u) E F);
}

pub all-append : {X : Type 0} (P : X → Type 0) (xs ys : List X) → AllByRecursion P xs → AllByRecursion P ys → AllByRecursion P (xs ++ ys)
all-append P [] ys a b = b
all-append P (x ∷ xs) ys a b = (a.0, all-append P xs ys a.1 b)

pub all-map : {X : Type 0} (P Q : X → Type 0) (xs : List X) → ((x : X) → P x → Q x) → AllByRecursion P xs → AllByRecursion Q xs
all-map P Q [] f a = tt
all-map P Q (x ∷ xs) f a = (f x a.0, all-map P Q xs f a.1)

pub all-numbers : (P Q : ℕ → Type 0) (xs : List Motion) → ((n : ℕ) → P n → Q n) → AllByRecursion (NumberIs P) xs → AllByRecursion (NumberIs Q) xs
all-numbers P Q [] f a = tt
all-numbers P Q (Moved n k m d ∷ xs) f a = (f n a.0, all-numbers P Q xs f a.1)
all-numbers P Q (Taken c ∷ xs) f a = (tt, all-numbers P Q xs f a.1)
all-numbers P Q (Loaded u c ∷ xs) f a = (tt, all-numbers P Q xs f a.1)

pub all-right : {X : Type 0} (P : X → Type 0) (xs ys : List X) → AllByRecursion P (xs ++ ys) → AllByRecursion P ys
all-right P [] ys a = a
all-right P (x ∷ xs) ys a = all-right P xs ys a.1
