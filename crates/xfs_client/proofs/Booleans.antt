-- Truth values of an ask: whether it is open (o), acknowledged (a), and the one that a frame is for (i).
use Rattle.std.proofs.Common.{◌≡◌, ℕ, ◌+◌, ◌<◌, ◌≤◌, Bool, true, false, cond, ◌&&◌, ◌||◌, ◌==◌, not, nat_le, nat_lt, refl, sym, arith}
use Rattle.std.proofs.lemmas.Bool.{false≢true}

-- nothing ends
pub waits_still : (o a : Bool) → ((o && not false) && not (a || false)) ≡ (o && not a)
waits_still true true = refl
waits_still true false = refl
waits_still false a = refl

pub runs_still : (o a : Bool) → ((o && not false) && (a || false)) ≡ (o && a)
runs_still true true = refl
runs_still true false = refl
runs_still false a = refl

-- one is over
pub waits_but : (o a i : Bool) → ((o && not i) && not (a || false)) ≡ ((o && not a) && not i)
waits_but true true true = refl
waits_but true true false = refl
waits_but true false true = refl
waits_but true false false = refl
waits_but false a i = refl

pub runs_but : (o a i : Bool) → ((o && not i) && (a || false)) ≡ ((o && a) && not i)
runs_but true true true = refl
runs_but true true false = refl
runs_but true false true = refl
runs_but true false false = refl
runs_but false a i = refl

-- one is acknowledged
pub waits_less : (o a i : Bool) → ((o && not false) && not (a || i)) ≡ ((o && not a) && not i)
waits_less true true true = refl
waits_less true true false = refl
waits_less true false true = refl
waits_less true false false = refl
waits_less false a i = refl

pub runs_more : (o a i : Bool) → (i ≡ true → o ≡ true) → ((o && not false) && (a || i)) ≡ ((o && a) || (i || false))
runs_more true true i h = refl
runs_more true false true h = refl
runs_more true false false h = refl
runs_more false a true h = absurd (false≢true (h refl))
runs_more false a false h = refl

-- what is not among them is not taken out
pub none_out : (b i : Bool) → (i ≡ true → b ≡ false) → (b && not i) ≡ b
none_out true true h = sym (h refl)
none_out true false h = refl
none_out false i h = refl

-- the two ways to be open
pub waits_only : (o a : Bool) → (o && not a) ≡ true → (o ≡ true) × (a ≡ false)
waits_only true true h = absurd (false≢true h)
waits_only true false h = (refl, refl)
waits_only false a h = absurd (false≢true h)

pub runs_only : (o a : Bool) → (o && a) ≡ true → (o ≡ true) × (a ≡ true)
runs_only true true h = (refl, refl)
runs_only true false h = absurd (false≢true h)
runs_only false a h = absurd (false≢true h)

pub unopened : (o a : Bool) → (o && not a) ≡ false → (o && a) ≡ false → o ≡ false
unopened true true h k = absurd (false≢true (sym k))
unopened true false h k = absurd (false≢true (sym h))
unopened false a h k = refl

-- the numbers behind n, up to m
pub next_less : (n m q : ℕ) → ((nat_lt n q && nat_le q m) && not (n + 1 == q)) ≡ (nat_lt (n + 1) q && nat_le q m)
next_less n m q = grind arith

pub one_longer : (n m q : ℕ) → n ≤ m → cond (m + 1 == q) true (nat_lt n q && nat_le q m) ≡ (nat_lt n q && nat_le q (m + 1))
one_longer n m q h = grind arith

pub next_is : (n m : ℕ) → n < m → (nat_lt n (n + 1) && nat_le (n + 1) m) ≡ true
next_is n m h = grind arith

pub between : (n m q : ℕ) → (nat_lt n q && nat_le q m) ≡ true → (n < q) × (q ≤ m)
between n m q h = grind arith

pub none_between : (m q : ℕ) → (nat_lt m q && nat_le q m) ≡ false
none_between m q = grind arith
