-- Bytes are the image of at most one list, and stand for at most one.
use Rattle.std.proofs.Common.{◌≡◌, ◌≢◌, inl, inr, ℕ, ◌<◌, ◌^◌, List, [], ◌∷◌, ◌++◌, length, take, drop, refl, sym, ◌∙◌, ap, ap₂, arith, append_assoc, take_at, drop_at}
use Rattle.std.specs.Int.{to_be_bytes, from_be_bytes, w16}
use Rattle.std.specs.List.{AllByRecursion}
use Rattle.std.proofs.lemmas.Nat.{from_be_bytes-to_be_bytes_2}
use Rattle.xfs_journal.specs.Image.{IsImage, IsRecord, StandsFor, body, framed, blocks}
use Rattle.xfs_journal.specs.declared.record.Rec.{Rec}
use Rattle.xfs_journal.proofs.Decoding.{no_two_bodies, body-short}

first_part : (a b c d : List ℕ) → length a ≡ length c → a ++ b ≡ c ++ d → a ≡ c
first_part a b c d size same = sym (take_at a b (length a) refl) ∙ ap (λ (l : List ℕ). take (length a) l) same ∙ take_at c d (length a) (sym size)

pub second_part : (a b c d : List ℕ) → length a ≡ length c → a ++ b ≡ c ++ d → b ≡ d
second_part a b c d size same = sym (drop_at a b (length a) refl) ∙ ap (λ (l : List ℕ). drop (length a) l) same ∙ drop_at c d (length a) (sym size)

abbrev pub head_of : List ℕ → ℕ
head_of [] = 0
head_of (x ∷ xs) = x

abbrev pub tail_of : List ℕ → List ℕ
tail_of [] = []
tail_of (x ∷ xs) = xs

same_size : (r s : Rec) → IsRecord r → IsRecord s → to_be_bytes w16 (length (body r)) ≡ to_be_bytes w16 (length (body s)) → length (body r) ≡ length (body s)
same_size r s is_r is_s same =
    let fits_r : length (body r) < 2 ^ 16 = omega (arith, body-short r is_r) in
    let fits_s : length (body s) < 2 ^ 16 = omega (arith, body-short s is_s) in
    sym (from_be_bytes-to_be_bytes_2 (length (body r)) fits_r) ∙ ap (from_be_bytes w16) same ∙ from_be_bytes-to_be_bytes_2 (length (body s)) fits_s

-- behind one open gate byte each
pub one_block : (r s : Rec) (x y : List ℕ) → IsRecord r → IsRecord s → framed r ++ x ≡ framed s ++ y → (r ≡ s) × (x ≡ y)
one_block r s x y is_r is_s same =
    let two = to_be_bytes w16 (length (body r)) in
    let other = to_be_bytes w16 (length (body s)) in
    let apart : two ++ (body r ++ x) ≡ other ++ (body s ++ y) = sym (append_assoc two (body r) x) ∙ same ∙ append_assoc other (body s) y in
    let size = same_size r s is_r is_s (first_part two (body r ++ x) other (body s ++ y) refl apart) in
    let rest = second_part two (body r ++ x) other (body s ++ y) refl apart in
    (no_two_bodies r s is_r is_s (first_part (body r) x (body s) y size rest), second_part (body r) x (body s) y size rest)

same_blocks : (J K : List Rec) (g h : ℕ) (x y : List ℕ) → AllByRecursion IsRecord J → AllByRecursion IsRecord K → g ≢ 1 → h ≢ 1 → blocks J ++ g ∷ x ≡ blocks K ++ h ∷ y → J ≡ K
same_blocks [] [] g h x y all_j all_k shut_g shut_h same = refl
same_blocks [] (k ∷ K) g h x y all_j all_k shut_g shut_h same = absurd (shut_g (ap head_of same))
same_blocks (j ∷ J) [] g h x y all_j all_k shut_g shut_h same = absurd (shut_h (sym (ap head_of same)))
same_blocks (j ∷ J) (k ∷ K) g h x y all_j all_k shut_g shut_h same =
    let behind : framed j ++ (blocks J ++ g ∷ x) ≡ framed k ++ (blocks K ++ h ∷ y) =
    sym (append_assoc (framed j) (blocks J) (g ∷ x)) ∙ ap tail_of same ∙ append_assoc (framed k) (blocks K) (h ∷ y) in
    let first = one_block j k (blocks J ++ g ∷ x) (blocks K ++ h ∷ y) all_j.0 all_k.0 behind in
    ap₂ (λ (r : Rec) (l : List Rec). r ∷ l) first.0 (same_blocks J K g h x y all_j.1 all_k.1 shut_g shut_h first.1)

pub at_most_one : (bytes : List ℕ) (J K : List Rec) → IsImage bytes J → IsImage bytes K → J ≡ K
at_most_one bytes J K of_j of_k =
    let same = sym of_j.bytes_are ∙ of_k.bytes_are in
    same_blocks J K of_j.gate of_k.gate of_j.rest of_k.rest of_j.of_table of_k.of_table of_j.closed of_k.closed (ap (λ (l : List ℕ). drop 8 l) same)

-- bytes stand for at most one list
pub stands_for_one : (bytes : List ℕ) (J K : List Rec) → StandsFor bytes J → StandsFor bytes K → J ≡ K
stands_for_one bytes J K (inl of_j) (inl of_k) = at_most_one bytes J K of_j of_k
stands_for_one bytes J K (inl of_j) (inr (none, le, other)) = absurd (other J of_j)
stands_for_one bytes J K (inr (none, le, other)) (inl of_k) = absurd (other K of_k)
stands_for_one bytes J K (inr (none, le, other)) (inr (empty, short, no_other)) = none ∙ sym empty
