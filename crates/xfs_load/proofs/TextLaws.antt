-- Pieces of a text, one behind the other.
use Rattle.std.proofs.Common.{◌≡◌, ℕ, List, [], ◌++◌, append_assoc, ap, sym, ◌∙◌}

-- five pieces behind a text
behind-pieces : (a b c d e t u v w x y : List ℕ) → u ≡ t ++ a → v ≡ u ++ b → w ≡ v ++ c → x ≡ w ++ d → y ≡ x ++ e → y ≡ ((((t ++ a) ++ b) ++ c) ++ d) ++ e
behind-pieces a b c d e t u v w x y first second third fourth fifth =
    fifth ∙ ap (λ l. l ++ e) (fourth ∙ ap (λ l. l ++ d) (third ∙ ap (λ l. l ++ c) (second ∙ ap (λ l. l ++ b) first)))

-- and from the start of a text
pub five-pieces : (a b c d e t u v w x y : List ℕ) → t ≡ [] → u ≡ t ++ a → v ≡ u ++ b → w ≡ v ++ c → x ≡ w ++ d → y ≡ x ++ e → y ≡ (((a ++ b) ++ c) ++ d) ++ e
five-pieces a b c d e t u v w x y none first second third fourth fifth =
    behind-pieces a b c d e t u v w x y first second third fourth fifth ∙ ap (λ l. ((((l ++ a) ++ b) ++ c) ++ d) ++ e) none

-- the last of the five is two, of which the first stands with those before it
pub closed-pieces : (a b c d e f t u v w x y : List ℕ) → u ≡ t ++ a → v ≡ u ++ b → w ≡ v ++ c → x ≡ w ++ d → y ≡ x ++ (e ++ f) → y ≡ (t ++ ((((a ++ b) ++ c) ++ d) ++ e)) ++ f
closed-pieces a b c d e f t u v w x y first second third fourth fifth =
    let front : (((((t ++ a) ++ b) ++ c) ++ d) ++ e) ≡ t ++ ((((a ++ b) ++ c) ++ d) ++ e)
    = ap (λ l. l ++ e) (ap (λ l. l ++ d) (ap (λ l. l ++ c) (append_assoc t a b) ∙ append_assoc t (a ++ b) c) ∙ append_assoc t ((a ++ b) ++ c) d) ∙ append_assoc t (((a ++ b) ++ c) ++ d) e in
    behind-pieces a b c d (e ++ f) t u v w x y first second third fourth fifth
    ∙ (sym (append_assoc ((((t ++ a) ++ b) ++ c) ++ d) e f) ∙ ap (λ l. l ++ f) front)
