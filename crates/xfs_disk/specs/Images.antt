-- What a disk tells by its images, at a disk in memory: they hold what a read gives, and are counted by moments.
use Rattle.std.specs.Prelude.{◌≡◌, ℕ, List, [], ◌∷◌, length, reverse, Some, refl}
use Rattle.std.proofs.Common.{inl, inr, sym, subst, arith}
use Rattle.std.proofs.lemmas.Option.{same_Some}
use Rattle.std.proofs.lemmas.List.{length-reverse}
use Rattle.xfs_disk.specs.Steps.{LeftNow, LeftSince}
use Rattle.xfs_disk.specs.declared.step.Step.{Step}

pub here : (now : List ℕ) (steps : List Step) → LeftNow now steps now
here now [] = refl
here now (s ∷ older) = inl refl

pub as_read : (now : List ℕ) (steps : List Step) (all : List ℕ) → Some now ≡ Some all → LeftNow now steps all
as_read now steps all told = subst (LeftNow now steps) (same_Some now all told) (here now steps)

pub counts_now : (now : List ℕ) (steps : List Step) (t : ℕ) (c : List ℕ) → LeftNow now steps c → LeftSince now steps t c
counts_now now [] t c is = is
counts_now now (s ∷ older) t c is = inl is

only : (now : List ℕ) (steps : List Step) (c : List ℕ) → LeftSince now steps (length steps) c → LeftNow now steps c
only now [] c left = left
only now (s ∷ older) c (inl is) = is
only now (s ∷ older) c (inr past) = absurd (omega (arith, past.0))

pub only_now : (now : List ℕ) (steps : List Step) (c : List ℕ) → LeftSince now (reverse steps) (length steps) c → LeftNow now (reverse steps) c
only_now now steps c left = only now (reverse steps) c (subst (λ n. LeftSince now (reverse steps) n c) (sym (length-reverse steps)) left)
