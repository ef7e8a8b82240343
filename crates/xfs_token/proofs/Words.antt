-- A text that has a word in front, and one that parts from it.
use Rattle.std.proofs.Common.{◌≡◌, ℕ, suc, ◌+◌, ◌≤◌, true, false, cond, List, [], ◌∷◌, ◌++◌, length, drop, refl, sym, ◌∙◌, ap, subst, arith, inl, inr, nat_eq}
use Rattle.std.specs.Prelude.{◌⊎◌}
use Rattle.std.specs.List.{common_prefix_len}
use Rattle.std.proofs.lemmas.Bool.{cases_Bool, eqb-true}
use Rattle.xfs_token.specs.Reading.{IsStuck, WordThen}
use Rattle.xfs_token.proofs.Stuck.{stuck_behind}

pub cancel : (word xs ys : List ℕ) → word ++ xs ≡ word ++ ys → xs ≡ ys
cancel [] xs ys e = e
cancel (w ∷ word) xs ys e = let t : word ++ xs ≡ word ++ ys = cc in cancel word xs ys t

-- what is stuck behind a word is stuck in the whole
pub stuck_behind_word : (L : List ℕ → Type 0) (word text : List ℕ) (left : ℕ) → IsStuck L text left → IsStuck (WordThen word L) (word ++ text) left
stuck_behind_word L word text left s = stuck_behind L (WordThen word L) word text left (λ rest l. record { rest = rest; is = refl; then = l }) (λ rest m. subst L (sym (cancel word rest m.rest m.is)) m.then) s

-- a text that is as the word to its end has it in front
pub word_in_front : (word text : List ℕ) → length word ≤ common_prefix_len nat_eq text word → text ≡ word ++ drop (length word) text
word_in_front [] text h = refl
word_in_front (w ∷ word) [] h = absurd (omega arith)
word_in_front (w ∷ word) (b ∷ text) h = go (cases_Bool (nat_eq b w)) h (λ k. word_in_front word text k)
  where
    go : (nat_eq b w ≡ true) ⊎ (nat_eq b w ≡ false) → suc (length word) ≤ cond (nat_eq b w) (1 + common_prefix_len nat_eq text word) 0 → (length word ≤ common_prefix_len nat_eq text word → text ≡ word ++ drop (length word) text) → b ∷ text ≡ w ∷ word ++ drop (length word) text
    go (inl same) h rest =
        let k = rw same at h in
        let e : b ≡ w = eqb-true b w same in
        let t = rest (omega arith) in
        ap (λ (x : ℕ). x ∷ text) e ∙ ap (λ (l : List ℕ). w ∷ l) t
    go (inr other) h rest = let k = rw other at h in absurd (omega arith)
