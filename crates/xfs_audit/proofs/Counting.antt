-- Commands counted by their id and name, and some of them in their order.
use Rattle.std.proofs.Common.{◌≡◌, ◌<◌, ◌≤◌, ◌+◌, ◌==◌, ℕ, zero, suc, true, false, List, [], ◌∷◌, ◌++◌, length, get_or, take, Contains, Some, refl, ap, sym, ◌∙◌, ◌⊎◌, inl, inr, arith, subst}
use Rattle.std.specs.List.{slice_get, remove}
use Rattle.std.specs.Str.{bytes_eq}
use Rattle.std.specs.Cmp.Derive.{both_true}
use Rattle.std.proofs.lemmas.Bool.{cases_Bool, eqb-true, eq-eqb, and_parts}
use Rattle.std.proofs.lemmas.Slice.Eq.{bytes_eq-Decides}
use Rattle.std.proofs.lemmas.List.Elements.{Contains-append_right}
use Rattle.std.proofs.lemmas.List.{take_more}
use Rattle.xfs_conversation.specs.Pending.{Pending}
use Rattle.xfs_audit.specs.Ways.{is_same, times, Stay, none, stays, goes}

pub same-refl : (p : Pending) → is_same p p ≡ true
same-refl p = both_true (eq-eqb p.id p.id refl) ((bytes_eq-Decides p.name p.name).1 refl)

pub same-is : (p q : Pending) → is_same p q ≡ true → p ≡ q
same-is p q h =
    let both = and_parts (p.id == q.id) (bytes_eq p.name q.name) h in
    let its : p.id ≡ q.id = eqb-true p.id q.id both.0 in
    let named : p.name ≡ q.name = (bytes_eq-Decides p.name q.name).0 both.1 in
    rw (its, named) refl

pub times-append : (p : Pending) (xs ys : List Pending) → times p (xs ++ ys) ≡ times p xs + times p ys
times-append p [] ys = omega arith
times-append p (x ∷ xs) ys = let e = times-append p xs ys in omega arith

pub times-one : (p q : Pending) (xs ys : List Pending) → times p (xs ++ q ∷ ys) ≡ times p (xs ++ ys) + times p (q ∷ [])
times-one p q xs ys = let a = times-append p xs (q ∷ ys) in let b = times-append p xs ys in omega arith

pub times-self : (p : Pending) → times p (p ∷ []) ≡ 1
times-self p = rw (same-refl p) refl

-- one that is counted stands somewhere
pub times-there : (p : Pending) (xs : List Pending) → 0 < times p xs → (before : List Pending) × (later : List Pending) × (xs ≡ before ++ p ∷ later)
times-there p [] h = absurd (omega arith)
times-there p (x ∷ xs) h = elim (cases_Bool (is_same p x)) [
  | inl y ↦ ([], xs, ap (λ q. q ∷ xs) (sym (same-is p x y)))
  | inr n ↦ let more : 0 < times p xs = let e = rw n at h in omega arith in let r = times-there p xs more in (x ∷ r.0, r.1, ap (λ l. x ∷ l) r.2)
]

pub split-contains : (p : Pending) (before later : List Pending) → Contains (before ++ p ∷ later) p
split-contains p before later = Contains-append_right before (p ∷ later) p (zero, omega arith, refl)

pub contains-split : {X : Type 0} (xs : List X) (x : X) → Contains xs x → (before : List X) × (later : List X) × (xs ≡ before ++ x ∷ later)
contains-split {X = X} xs x (k, within, is) = go xs k within is
  where
    go : (ys : List X) (n : ℕ) → n < length ys → get_or ys n x ≡ x → (before : List X) × (later : List X) × (ys ≡ before ++ x ∷ later)
    go [] n lt e = absurd (omega arith)
    go (y ∷ ys) zero lt e = ([], ys, ap (λ z. z ∷ ys) e)
    go (y ∷ ys) (suc n) lt e = let r = go ys n (omega arith) e in (y ∷ r.0, r.1, ap (λ l. y ∷ l) r.2)

pub contains-times : (p : Pending) (xs : List Pending) → Contains xs p → 0 < times p xs
contains-times p xs there =
    let r = contains-split xs p there in
    let a = times-one p p r.0 r.1 in
    let b = times-self p in
    rw r.2 (omega arith)

pub times-contains : (p : Pending) (xs : List Pending) → 0 < times p xs → Contains xs p
times-contains p xs h = let r = times-there p xs h in rw r.2 (split-contains p r.0 r.1)

pub times-none : (xs : List Pending) → ((p : Pending) → times p xs ≡ 0) → xs ≡ []
times-none [] h = refl
times-none (x ∷ xs) h = let e : 1 + times x xs ≡ 0 = rw (same-refl x) at (h x) in absurd (omega arith)

-- the element of a place taken out
pub removed : {X : Type 0} (xs : List X) (i : ℕ) (x : X) → slice_get xs i ≡ Some x → (before : List X) × (later : List X) × (xs ≡ before ++ x ∷ later) × (remove xs i ≡ before ++ later)
removed [] i x e = absurd cc
removed (y ∷ xs) zero x e = ([], xs, cc, refl)
removed (y ∷ xs) (suc i) x e = let r = removed xs i x e in (y ∷ r.0, r.1, ap (λ l. y ∷ l) r.2, ap (λ l. y ∷ l) r.3)

pub stay-push : {some all : List Pending} (p : Pending) → Stay some all → Stay (some ++ p ∷ []) (all ++ p ∷ [])
stay-push p none = stays p none
stay-push p (stays q h) = stays q (stay-push p h)
stay-push p (goes q h) = goes q (stay-push p h)

pub stay-past : {some all : List Pending} (p : Pending) → Stay some all → Stay some (all ++ p ∷ [])
stay-past p none = goes p none
stay-past p (stays q h) = stays q (stay-past p h)
stay-past p (goes q h) = goes q (stay-past p h)

pub stay-nothing : (some : List Pending) → Stay some [] → some ≡ []
stay-nothing [] h = refl
stay-nothing (p ∷ some) h = elim h [ ]

pub stay-last : {some whole : List Pending} → Stay some whole → (all : List Pending) (p : Pending) → whole ≡ all ++ p ∷ [] → Stay some all ⊎ ((front : List Pending) × (some ≡ front ++ p ∷ []) × Stay front all)
stay-last none [] p e = absurd cc
stay-last none (r ∷ all) p e = absurd cc
stay-last (stays q {some = some} {all = rest} h) [] p e =
    let nothing : some ≡ [] = stay-nothing some (subst (λ l. Stay some l) (cc) h) in
    let same : q ≡ p = cc in
    inr ([], rw (nothing, same) refl, none)
stay-last (stays q {some = some} {all = rest} h) (r ∷ all) p e =
    let same : r ≡ q = cc in
    elim (stay-last h all p (cc)) [
      | inl s ↦ inl (rw same (stays q s))
      | inr s ↦ inr (q ∷ s.0, ap (λ l. q ∷ l) s.1, rw same (stays q s.2))
    ]
stay-last (goes q {some = some} {all = rest} h) [] p e = inl (subst (λ l. Stay some l) (cc) h)
stay-last (goes q {some = some} {all = rest} h) (r ∷ all) p e = elim (stay-last h all p (cc)) [
  | inl s ↦ inl (goes r s)
  | inr s ↦ inr (s.0, s.1, goes r s.2)
]

pub stay-all : (all : List Pending) → Stay all all
stay-all [] = none
stay-all (p ∷ all) = stays p (stay-all all)

pub stay-times : {some all : List Pending} (p : Pending) → Stay some all → times p some ≤ times p all
stay-times p none = omega arith
stay-times p (stays q h) = let e = stay-times p h in omega arith
stay-times p (goes q h) = let e = stay-times p h in omega arith

pub stay-contains : {some all : List Pending} (p : Pending) → Stay some all → Contains some p → Contains all p
stay-contains {some} {all} p h there = let a = contains-times p some there in let b = stay-times p h in times-contains p all (omega arith)

-- one more that goes
pub stay-with : {some rest : List Pending} → Stay some rest → (before later : List Pending) (p : Pending) → rest ≡ before ++ later → Stay some (before ++ p ∷ later)
stay-with {some} h [] later p e = goes p (subst (λ l. Stay some l) e h)
stay-with none (r ∷ before) later p e = absurd cc
stay-with (stays q {some} {all} h) (r ∷ before) later p e =
    let same : r ≡ q = cc in
    rw same (stays q (stay-with h before later p (cc)))
stay-with (goes q h) (r ∷ before) later p e = goes r (stay-with h before later p (cc))

-- one of those that go taken out
pub stay-without : {some all : List Pending} (p : Pending) → Stay some all → times p some < times p all → (before : List Pending) × (later : List Pending) × (all ≡ before ++ p ∷ later) × Stay some (before ++ later)
stay-without p none h = absurd (omega arith)
stay-without p (stays q {some} {all} s) h =
    let r = stay-without p s (omega arith) in
    (q ∷ r.0, r.1, ap (λ l. q ∷ l) r.2, stays q r.3)
stay-without p (goes q {some} {all} s) h = elim (cases_Bool (is_same p q)) [
  | inl y ↦ ([], all, ap (λ x. x ∷ all) (sym (same-is p q y)), s)
  | inr n ↦
      let more : times p some < times p all = let e = rw n at h in omega arith in
      let r = stay-without p s more in
      (q ∷ r.0, r.1, ap (λ l. q ∷ l) r.2, goes q r.3)
]

-- where none goes
pub stay-whole : {some all : List Pending} → Stay some all → ((p : Pending) → times p all ≡ times p some) → some ≡ all
stay-whole none h = refl
stay-whole (stays q s) h = ap (λ l. q ∷ l) (stay-whole s (λ p. let e = h p in omega arith))
stay-whole (goes q {some} {all} s) h =
    let e : 1 + times q all ≡ times q some = rw (same-refl q) at (h q) in
    let le = stay-times q s in
    absurd (omega arith)

-- one more that is not like this
pub times-more : (p q : Pending) (xs : List Pending) (i : ℕ) → i < length xs → get_or xs i q ≡ q → is_same p q ≡ false → times p (take i xs) ≡ 0 → times p (take (i + 1) xs) ≡ 0
times-more p q xs i within is differ none_yet =
    let a = take_more xs i q within in
    let b : times p (take (i + 1) xs) ≡ times p (take i xs) + times p (q ∷ []) = ap (times p) (a ∙ ap (λ x. take i xs ++ x ∷ []) is) ∙ times-append p (take i xs) (q ∷ []) in
    let c : times p (q ∷ []) ≡ 0 = rw differ refl in
    omega arith

-- the element at a place of both lists is the same
pub take-same : (xs ys : List Pending) (i : ℕ) (x y : Pending) → i < length xs → length xs ≡ length ys → get_or xs i x ≡ x → get_or ys i y ≡ y → is_same x y ≡ true → take i xs ≡ take i ys → take (i + 1) xs ≡ take (i + 1) ys
take-same xs ys i x y within lengths at_x at_y same front =
    take_more xs i x within ∙ ap (λ z. take i xs ++ z ∷ []) (at_x ∙ same-is x y same ∙ sym at_y) ∙ ap (λ l. l ++ get_or ys i y ∷ []) front ∙ sym (take_more ys i y (omega arith))
