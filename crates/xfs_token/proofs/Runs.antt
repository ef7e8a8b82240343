-- What a run of bytes of one class tells of a text.
use Rattle.std.proofs.Common.{◌≡◌, ℕ, zero, suc, ◌+◌, ◌≤◌, ◌==◌, Bool, true, false, ◌&&◌, List, [], ◌∷◌, ◌++◌, length, take, drop, refl, sym, ◌∙◌, ap, arith, inl, inr}
use Rattle.std.specs.Prelude.{◌⊎◌}
use Rattle.std.specs.List.{list_all, prefix_len}
use Rattle.std.proofs.lemmas.Bool.{and_from, cases_Bool, eqb-true}
use Rattle.std.proofs.lemmas.List.{take-append-drop}
use Rattle.xfs_token.specs.Reading.{first_is}
use Rattle.xfs_token.proofs.Tails.{FirstFails}

-- the first n bytes are of the class, and a byte of another class follows, or none, or there are as many as there may be
pub record Run (p : ℕ → Bool) (most : ℕ) (text : List ℕ) (n : ℕ) : Type 0 where
  pub within : n ≤ length text
  pub few : n ≤ most
  pub all : list_all p (take n text) ≡ true
  pub stop : (n ≡ most) ⊎ FirstFails p (drop n text)

pub run_of : (p : ℕ → Bool) (most : ℕ) (text : List ℕ) → Run p most text (prefix_len p (take most text))
run_of p zero text = record { within = omega arith; few = omega arith; all = refl; stop = inl refl }
run_of p (suc most) [] = record { within = omega arith; few = omega arith; all = refl; stop = inr tt }
run_of p (suc most) (x ∷ xs) = elim (cases_Bool (p x)) [
  | inl pass ↦ (
      let r = run_of p most xs in
      let e : 1 + prefix_len p (take most xs) ≡ suc (prefix_len p (take most xs)) = omega arith in
      rw (pass, e) (longer r.within r.few (and_from (p x) (list_all p (take (prefix_len p (take most xs)) xs)) pass r.all) r.stop))
  | inr fails ↦ rw fails (record { within = omega arith; few = omega arith; all = refl; stop = inr fails })
]
  where
    more : {n : ℕ} → (n ≡ most) ⊎ FirstFails p (drop n xs) → (suc n ≡ suc most) ⊎ FirstFails p (drop n xs)
    more (inl e) = inl (ap suc e)
    more (inr f) = inr f

    longer : {n : ℕ} → n ≤ length xs → n ≤ most → (p x && list_all p (take n xs)) ≡ true → (n ≡ most) ⊎ FirstFails p (drop n xs) → Run p (suc most) (x ∷ xs) (suc n)
    longer a b d s = record { within = omega arith; few = omega arith; all = d; stop = more s }

-- the whole text is the most that a run may have
pub run_of_all : (p : ℕ → Bool) (text : List ℕ) → (prefix_len p text ≤ length text) × (list_all p (take (prefix_len p text) text) ≡ true) × FirstFails p (drop (prefix_len p text) text)
run_of_all p [] = (omega arith, refl, tt)
run_of_all p (x ∷ xs) = elim (cases_Bool (p x)) [
  | inl pass ↦ (
      let r = run_of_all p xs in
      let e : 1 + prefix_len p xs ≡ suc (prefix_len p xs) = omega arith in
      rw (pass, e) (longer r.0 (and_from (p x) (list_all p (take (prefix_len p xs) xs)) pass r.1) r.2))
  | inr fails ↦ rw fails (omega arith, refl, fails)
]
  where
    longer : {n : ℕ} → n ≤ length xs → (p x && list_all p (take n xs)) ≡ true → FirstFails p (drop n xs) → (suc n ≤ suc (length xs)) × ((p x && list_all p (take n xs)) ≡ true) × FirstFails p (drop n xs)
    longer a d s = (omega arith, d, s)

-- a byte stands behind the first n
pub byte_behind : (text : List ℕ) (n byte : ℕ) → first_is byte (drop n text) ≡ true → text ≡ take n text ++ byte ∷ drop (n + 1) text
byte_behind text n byte h = sym (take-append-drop n text) ∙ ap (λ (l : List ℕ). take n text ++ l) (at text n h)
  where
    first : (x : ℕ) (xs : List ℕ) → (x == byte) ≡ true → x ∷ xs ≡ byte ∷ xs
    first x xs h = let e = eqb-true x byte h in ap (λ (b : ℕ). b ∷ xs) e

    at : (text : List ℕ) (n : ℕ) → first_is byte (drop n text) ≡ true → drop n text ≡ byte ∷ drop (n + 1) text
    at [] zero h = absurd (cc)
    at [] (suc n) h = absurd (cc)
    at (x ∷ xs) zero h = first x xs h
    at (x ∷ xs) (suc n) h = let e : suc n + 1 ≡ suc (n + 1) = omega arith in rw e (at xs n h)

pub other_first : (byte : ℕ) (rest : List ℕ) → first_is byte rest ≡ false → FirstFails (λ b. b == byte) rest
other_first byte [] h = tt
other_first byte (b ∷ bs) h = h
