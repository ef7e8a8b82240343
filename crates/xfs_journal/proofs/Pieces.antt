-- Pieces put one behind another.
use Rattle.std.proofs.Common.{◌≡◌, List, [], ◌∷◌, ◌++◌, ℕ, length, sym, ◌∙◌, ap, append_assoc, append-nil, arith}
use Rattle.std.specs.Prelude.{slice_index}
use Rattle.std.specs.Int.{to_be_bytes, w32}
use Rattle.std.specs.List.{flat_map}

pub behind : (o p x o1 o2 : List ℕ) → o1 ≡ o ++ p → o2 ≡ o1 ++ x → o2 ≡ o ++ (p ++ x)
behind o p x o1 o2 first second = second ∙ ap (λ (l : List ℕ). l ++ x) first ∙ append_assoc o p x

pub eight : (a b c d e f g h : List ℕ) → a ++ b ++ c ++ d ++ e ++ f ++ g ++ h ≡ a ++ (b ++ (c ++ (d ++ (e ++ (f ++ (g ++ (h ++ [])))))))
eight a b c d e f g h = sym (
    sym (append_assoc a b (c ++ (d ++ (e ++ (f ++ (g ++ (h ++ []))))))) ∙ sym (append_assoc (a ++ b) c (d ++ (e ++ (f ++ (g ++ (h ++ []))))))
    ∙ sym (append_assoc (a ++ b ++ c) d (e ++ (f ++ (g ++ (h ++ []))))) ∙ sym (append_assoc (a ++ b ++ c ++ d) e (f ++ (g ++ (h ++ []))))
    ∙ sym (append_assoc (a ++ b ++ c ++ d ++ e) f (g ++ (h ++ []))) ∙ sym (append_assoc (a ++ b ++ c ++ d ++ e ++ f) g (h ++ []))
    ∙ sym (append_assoc (a ++ b ++ c ++ d ++ e ++ f ++ g) h []) ∙ append-nil (a ++ b ++ c ++ d ++ e ++ f ++ g ++ h))

pub each_count : (l : List ℕ) → length l ≡ 8 →
    to_be_bytes w32 (slice_index l 0) ++ to_be_bytes w32 (slice_index l 1) ++ to_be_bytes w32 (slice_index l 2) ++ to_be_bytes w32 (slice_index l 3)
    ++ to_be_bytes w32 (slice_index l 4) ++ to_be_bytes w32 (slice_index l 5) ++ to_be_bytes w32 (slice_index l 6) ++ to_be_bytes w32 (slice_index l 7)
    ≡ flat_map (to_be_bytes w32) l
each_count (a ∷ b ∷ c ∷ d ∷ e ∷ f ∷ g ∷ h ∷ []) is = eight (to_be_bytes w32 a) (to_be_bytes w32 b) (to_be_bytes w32 c) (to_be_bytes w32 d) (to_be_bytes w32 e) (to_be_bytes w32 f) (to_be_bytes w32 g) (to_be_bytes w32 h)
each_count [] is = absurd (omega arith)
each_count (a ∷ []) is = absurd (omega arith)
each_count (a ∷ b ∷ []) is = absurd (omega arith)
each_count (a ∷ b ∷ c ∷ []) is = absurd (omega arith)
each_count (a ∷ b ∷ c ∷ d ∷ []) is = absurd (omega arith)
each_count (a ∷ b ∷ c ∷ d ∷ e ∷ []) is = absurd (omega arith)
each_count (a ∷ b ∷ c ∷ d ∷ e ∷ f ∷ []) is = absurd (omega arith)
each_count (a ∷ b ∷ c ∷ d ∷ e ∷ f ∷ g ∷ []) is = absurd (omega arith)
each_count (a ∷ b ∷ c ∷ d ∷ e ∷ f ∷ g ∷ h ∷ i ∷ more) is = absurd (omega arith)
