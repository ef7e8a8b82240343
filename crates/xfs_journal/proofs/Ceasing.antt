-- Bytes that cease to be a journal are the image of no list.
use Rattle.std.proofs.Common.{◌≡◌, ◌≢◌, inl, inr, ℕ, ◌+◌, ◌<◌, ◌≤◌, List, [], ◌∷◌, ◌++◌, length, take, drop, refl, sym, ◌∙◌, ap, arith, append_assoc, append-nil, length-append}
use Rattle.std.specs.List.{AllByRecursion}
use Rattle.xfs_journal.specs.Image.{IsImage, IsRecord, StandsFor, blocks, framed, contents, end_of, magic}
use Rattle.xfs_journal.specs.Paging.{IsBroken, CeasesAt, MayCease}
use Rattle.xfs_journal.specs.declared.record.Rec.{Rec}
use Rattle.xfs_journal.proofs.Unique.{one_block, head_of, tail_of}

no_blocks : (J K : List Rec) (g : ℕ) (x rest : List ℕ) → AllByRecursion IsRecord J → AllByRecursion IsRecord K → g ≢ 1 → IsBroken rest → blocks J ++ rest ≢ blocks K ++ g ∷ x
no_blocks [] [] g x rest all_j all_k shut (inl none) same = absurd (omega (arith, ap length none, ap length same))
no_blocks [] [] g x rest all_j all_k shut (inr (more, is, broken)) same = shut (sym (ap head_of (sym is ∙ same)))
no_blocks [] (k ∷ K) g x rest all_j all_k shut (inl none) same = absurd (omega (arith, ap length none, ap length same))
no_blocks [] (k ∷ K) g x rest all_j all_k shut (inr (more, is, broken)) same =
    broken k all_k.0 (blocks K ++ g ∷ x) (ap tail_of (sym is ∙ same) ∙ append_assoc (framed k) (blocks K) (g ∷ x))
no_blocks (j ∷ J) [] g x rest all_j all_k shut broken same = shut (sym (ap head_of same))
no_blocks (j ∷ J) (k ∷ K) g x rest all_j all_k shut broken same =
    let behind : framed j ++ (blocks J ++ rest) ≡ framed k ++ (blocks K ++ g ∷ x) =
    sym (append_assoc (framed j) (blocks J) rest) ∙ ap tail_of same ∙ append_assoc (framed k) (blocks K) (g ∷ x) in
    let first = one_block j k (blocks J ++ rest) (blocks K ++ g ∷ x) all_j.0 all_k.0 behind in
    no_blocks J K g x rest all_j.1 all_k.1 shut broken first.1

pub begins : (c : List ℕ) (J : List Rec) → IsImage c J → take 7 c ≡ magic
begins c J image = ap (λ (l : List ℕ). take 7 l) image.bytes_are

pub image_long : (c : List ℕ) (J : List Rec) → IsImage c J → 9 + length (blocks J) ≤ length c
image_long c J image = omega (arith, ap length image.bytes_are, length-append (blocks J) (image.gate ∷ image.rest))

pub no_image : (c : List ℕ) (at : ℕ) → CeasesAt c at → (J : List Rec) → ¬ IsImage c J
no_image c at (inl (inl other, zero_is)) J image = other (begins c J image)
no_image c at (inl (inr short, zero_is)) J image = omega (arith, short, image_long c J image)
no_image c at (inr (v, K, rest, all, is, broken, place)) J image =
    no_blocks K J image.gate image.rest rest all image.of_table image.closed broken
    (ap (λ (l : List ℕ). drop 8 l) (sym is ∙ image.bytes_are))

pub no_list : (c : List ℕ) (at : ℕ) → CeasesAt c at → 9 < length c → (J : List Rec) → ¬ StandsFor c J
no_list c at ceases long J (inl image) = no_image c at ceases J image
no_list c at ceases long J (inr (none, short, other)) = omega (arith, long, short)

-- at most 9 bytes stand for no other list than the empty one
pub short_empty : (c : List ℕ) (J : List Rec) → length c ≤ 9 → StandsFor c J → J ≡ []
short_empty c [] short stands = refl
short_empty c (j ∷ J) short (inl image) = absurd (omega (arith, short, image_long c (j ∷ J) image))
short_empty c (j ∷ J) short (inr (none, le, other)) = none

-- no bytes cease at once
pub ceases_at_start : MayCease 0
ceases_at_start = ([], inl (inr (omega arith), refl))

-- bytes may cease behind any records
pub ceases_behind : (J : List Rec) → AllByRecursion IsRecord J → MayCease (end_of J)
ceases_behind J all = (contents 0x32 J, inr (0x32, J, [], all, sym (append-nil (contents 0x32 J)), inl refl, refl))
