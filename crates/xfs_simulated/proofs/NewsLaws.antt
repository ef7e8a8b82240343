-- The news, one visit or entry at a time.
use Rattle.std.proofs.Common.{◌≡◌, ◌∙◌, ℕ, ◌+◌, List, suc, [], ◌∷◌, ◌++◌, ap, refl, sym, arith}
use Rattle.xfs_mech.specs.declared.key.KeyName.TheVariants.{One, Two, Three, Four, Enter}
use Rattle.xfs_mech.specs.declared.touch.Touch.{Touch}
use Rattle.xfs_mech.specs.declared.touch.Touch.TheVariants.{CardIn, CardTaken, Key}
use Rattle.xfs_simulated.specs.News.{card, entries, visits}

pub visits-none : visits 0 ≡ []
unfolding visits
visits-none = refl

pub entries-none : entries 0 ≡ []
unfolding entries
entries-none = refl

visits-more : (n : ℕ) → visits (n + 1) ≡ visits n ++ CardIn card ∷ CardTaken ∷ []
unfolding visits
visits-more n = let on : n + 1 ≡ suc n = omega arith in ap visits on

entries-more : (n : ℕ) → entries (n + 1) ≡ entries n ++ Key One ∷ Key Two ∷ Key Three ∷ Key Four ∷ Key Enter ∷ []
unfolding entries
entries-more n = let on : n + 1 ≡ suc n = omega arith in ap entries on

two : (ts : List Touch) (a b : Touch) → (ts ++ a ∷ []) ++ b ∷ [] ≡ ts ++ a ∷ b ∷ []
two [] a b = refl
two (t ∷ ts) a b = ap (λ l. t ∷ l) (two ts a b)

five : (ts : List Touch) (a b c d e : Touch) → ((((ts ++ a ∷ []) ++ b ∷ []) ++ c ∷ []) ++ d ∷ []) ++ e ∷ [] ≡ ts ++ a ∷ b ∷ c ∷ d ∷ e ∷ []
five [] a b c d e = refl
five (t ∷ ts) a b c d e = ap (λ l. t ∷ l) (five ts a b c d e)

-- one more visit is pushed, touch by touch
pub visit-pushed : (n : ℕ) → (visits n ++ CardIn card ∷ []) ++ CardTaken ∷ [] ≡ visits (n + 1)
visit-pushed n = two (visits n) (CardIn card) CardTaken ∙ sym (visits-more n)

-- one more entry is pushed, key by key
pub entry-pushed : (n : ℕ) → ((((entries n ++ Key One ∷ []) ++ Key Two ∷ []) ++ Key Three ∷ []) ++ Key Four ∷ []) ++ Key Enter ∷ [] ≡ entries (n + 1)
entry-pushed n = five (entries n) (Key One) (Key Two) (Key Three) (Key Four) (Key Enter) ∙ sym (entries-more n)
