-- Where a text is stuck, part by part from its end to its front.
use Rattle.std.proofs.Common.{◌≡◌, ℕ, suc, ◌+◌, ◌-◌, ◌<◌, ◌≤◌, Bool, true, false, cond, List, [], ◌∷◌, ◌++◌, length, refl, sym, ◌∙◌, ap, subst, arith, append_assoc, inl, inr}
use Rattle.std.specs.Prelude.{nat_eq}
use Rattle.std.specs.List.{list_all, common_prefix_len}
use Rattle.std.proofs.lemmas.Bool.{and_parts, cases_Bool, eqb-true, eqb-false}
use Rattle.xfs_token.specs.Reading.{Stops, IsStuck, WordThen}

pub both_ways : (b : Bool) → b ≡ true → b ≡ false → ⊥
both_ways b t f = absurd (cc)

-- what is stuck in the second part is stuck in the whole
pub stuck_behind : (L M : List ℕ → Type 0) (front text : List ℕ) (left : ℕ) → ((rest : List ℕ) → L rest → M (front ++ rest)) → ((rest : List ℕ) → M (front ++ rest) → L rest) → IsStuck L text left → IsStuck M (front ++ text) left
stuck_behind L M front text left into back s = record {
  good = front ++ s.good;
  bad = s.bad;
  cut = ap (λ (l : List ℕ). front ++ l) s.cut ∙ sym (append_assoc front s.good s.bad);
  left_is = s.left_is;
  more = s.more;
  begins = subst M (sym (append_assoc front s.good s.more)) (into (s.good ++ s.more) s.begins);
  stops = both s.bad s.stops;
}
  where
    both : (bad : List ℕ) → Stops L s.good bad → Stops M (front ++ s.good) bad
    both [] h = λ m. h (back s.good m)
    both (b ∷ bs) h = λ more m. h more (back (s.good ++ b ∷ more) (subst M (append_assoc front s.good (b ∷ more)) m))

-- a text that begins with another byte, or with none, is stuck at once
pub stuck_now : (L : List ℕ → Type 0) (text more : List ℕ) → L more → Stops L [] text → IsStuck L text (length text)
stuck_now L text more l stops = record { good = []; bad = text; cut = refl; left_is = refl; more = more; begins = l; stops = stops }

-- a text that isn't of the word is stuck where they part
pub stuck_word : (L : List ℕ → Type 0) (word text some : List ℕ) → L some → common_prefix_len nat_eq text word < length word → IsStuck (WordThen word L) text (length text - common_prefix_len nat_eq text word)
stuck_word L [] text some l less = absurd (omega arith)
stuck_word L (w ∷ word) [] some l less = stuck_now (WordThen (w ∷ word) L) [] (w ∷ word ++ some) (record { rest = some; is = refl; then = l }) (λ m. let e = m.is in cc)
stuck_word L (w ∷ word) (b ∷ text) some l less = elim (cases_Bool (nat_eq b w)) [
  | inl same ↦ (
      let e : b ≡ w = eqb-true b w same in
      let less' : common_prefix_len nat_eq text word < length word = shorter same less in
      let inner = stuck_behind (WordThen word L) (WordThen (w ∷ word) L) (w ∷ []) text _ (λ rest m. record { rest = m.rest; is = ap (λ (l : List ℕ). w ∷ l) m.is; then = m.then }) (λ rest m. record { rest = m.rest; is = tail_same m.is; then = m.then }) (stuck_word L word text some l less') in
      rw (same, e) (subst (IsStuck (WordThen (w ∷ word) L) (w ∷ text)) (omega arith) inner))
  | inr other ↦ rw other (subst (IsStuck (WordThen (w ∷ word) L) (b ∷ text)) (omega arith) (stuck_now (WordThen (w ∷ word) L) (b ∷ text) (w ∷ word ++ some) (record { rest = some; is = refl; then = l }) (λ more m. eqb-false b w other (head_same m.is))))
]
  where
    shorter : nat_eq b w ≡ true → cond (nat_eq b w) (1 + common_prefix_len nat_eq text word) 0 < suc (length word) → common_prefix_len nat_eq text word < length word
    shorter same h = let k = rw same at h in omega arith

    tail_same : {x y : ℕ} {xs ys : List ℕ} → x ∷ xs ≡ y ∷ ys → xs ≡ ys
    tail_same h = cc

    head_same : {x y : ℕ} {xs ys : List ℕ} → x ∷ xs ≡ y ∷ ys → x ≡ y
    head_same h = cc

-- two lists that pass a test, each followed by a byte that doesn't, are the same
pub same_run : (p : ℕ → Bool) (xs ys us vs : List ℕ) (a b : ℕ) → list_all p xs ≡ true → list_all p ys ≡ true → p a ≡ false → p b ≡ false → xs ++ a ∷ us ≡ ys ++ b ∷ vs → (xs ≡ ys) × (a ≡ b) × (us ≡ vs)
same_run p [] [] us vs a b hx hy ha hb e = (refl, cc, cc)
same_run p [] (y ∷ ys) us vs a b hx hy ha hb e = let h : a ≡ y = cc in let t = (and_parts (p y) (list_all p ys) hy).0 in absurd (both_ways (p y) t (sym (ap p h) ∙ ha))
same_run p (x ∷ xs) [] us vs a b hx hy ha hb e = let h : x ≡ b = cc in let t = (and_parts (p x) (list_all p xs) hx).0 in absurd (both_ways (p x) t (ap p h ∙ hb))
same_run p (x ∷ xs) (y ∷ ys) us vs a b hx hy ha hb e =
    let h : x ≡ y = cc in
    let t : xs ++ a ∷ us ≡ ys ++ b ∷ vs = cc in
    let r = same_run p xs ys us vs a b (and_parts (p x) (list_all p xs) hx).1 (and_parts (p y) (list_all p ys) hy).1 ha hb t in
    (cc (h, r.0), r.1, r.2)

-- a run that goes on can't be the front of one that stops no later
pub no_longer : (p : ℕ → Bool) (xs ys us vs : List ℕ) (a b : ℕ) → list_all p xs ≡ true → p a ≡ true → p b ≡ false → length ys ≤ length xs → xs ++ a ∷ us ≡ ys ++ b ∷ vs → ⊥
no_longer p [] [] us vs a b hx ha hb le e = let h : a ≡ b = cc in both_ways (p b) (sym (ap p h) ∙ ha) hb
no_longer p [] (y ∷ ys) us vs a b hx ha hb le e = absurd (omega arith)
no_longer p (x ∷ xs) [] us vs a b hx ha hb le e = let h : x ≡ b = cc in both_ways (p b) (sym (ap p h) ∙ (and_parts (p x) (list_all p xs) hx).0) hb
no_longer p (x ∷ xs) (y ∷ ys) us vs a b hx ha hb le e = let t : xs ++ a ∷ us ≡ ys ++ b ∷ vs = cc in no_longer p xs ys us vs a b (and_parts (p x) (list_all p xs) hx).1 ha hb (omega arith) t

-- a run that passes throughout holds no byte that doesn't
pub no_stop : (p : ℕ → Bool) (xs ys vs : List ℕ) (b : ℕ) → list_all p xs ≡ true → p b ≡ false → xs ≡ ys ++ b ∷ vs → ⊥
no_stop p [] [] vs b hx hb e = absurd (cc)
no_stop p [] (y ∷ ys) vs b hx hb e = absurd (cc)
no_stop p (x ∷ xs) [] vs b hx hb e = let h : x ≡ b = cc in both_ways (p b) (sym (ap p h) ∙ (and_parts (p x) (list_all p xs) hx).0) hb
no_stop p (x ∷ xs) (y ∷ ys) vs b hx hb e = let t : xs ≡ ys ++ b ∷ vs = cc in no_stop p xs ys vs b (and_parts (p x) (list_all p xs) hx).1 hb t
