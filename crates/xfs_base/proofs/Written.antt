-- Bytes that a sink took in pieces.
use Rattle.std.proofs.Common.{◌≡◌, ℕ, ◌+◌, ◌-◌, List, length, take, drop, None, Some, ◌∙◌, append_assoc, arith, length-drop}
use Rattle.std.proofs.lemmas.List.{take_all}
use Rattle.std.proofs.Math.Seq.{take-add}
use Rattle.std.specs.declared.option.Option.{Option}
use Rattle.std.specs.Io.KnownBytes.{Appends, Keeps}
use Rattle.xfs_base.specs.Causes.{TookPrefix}

pub Appends-more : (x y z : Option (List ℕ)) (bs : List ℕ) (n m : ℕ) → Appends x y (take n bs) → Appends y z (take m (drop n bs)) → Appends x z (take (n + m) bs)
Appends-more None y z bs n m p q = tt
Appends-more (Some a) None z bs n m p q = absurd p
Appends-more (Some a) (Some b) None bs n m p q = absurd q
Appends-more (Some a) (Some b) (Some c) bs n m p q = rw (take-add n m bs, q, p) (append_assoc a (take n bs) (take m (drop n bs)))

pub Appends-prefix : (x y z : Option (List ℕ)) (bs : List ℕ) (n : ℕ) → Appends x y (take n bs) → Keeps y z → TookPrefix x z bs
Appends-prefix None y z bs n p q = record { many = n; taken = tt }
Appends-prefix (Some a) None z bs n p q = absurd p
Appends-prefix (Some a) (Some b) None bs n p q = absurd q
Appends-prefix (Some a) (Some b) (Some c) bs n p q = record { many = n; taken = q ∙ p }

-- the value of `&bytes[n..]`
pub tail_is : (n : ℕ) (bs : List ℕ) → take (length bs - n) (drop n bs) ≡ drop n bs
tail_is n bs = take_all (length bs - n) (drop n bs) (omega (arith, length-drop n bs))

pub Appends-tail : (x y z : Option (List ℕ)) (bs : List ℕ) (n m : ℕ) → Appends x y (take n bs) → Appends y z (take m (take (length bs - n) (drop n bs))) → Appends x z (take (n + m) bs)
Appends-tail x y z bs n m p q = Appends-more x y z bs n m p (rw tail_is at q)
