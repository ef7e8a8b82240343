-- What stands at a gate byte: a block of the format, or none.
use Rattle.std.proofs.Common.{◌≡◌, ◌≢◌, inr, ℕ, ◌+◌, ◌<◌, ◌≤◌, List, [], ◌∷◌, ◌++◌, length, take, drop, refl, sym, ◌∙◌, ap, ap₂, subst, arith, length-append, length-take, length-drop, take-append-drop, take_at}
use Rattle.std.specs.Int.{to_be_bytes, from_be_bytes, w16}
use Rattle.std.specs.Prelude.{slice_index}
use Rattle.std.proofs.lemmas.List.{get_or-take, drop-take}
use Rattle.std.proofs.lemmas.Nat.{from_be_bytes-to_be_bytes_2}
use Rattle.xfs_journal.specs.Image.{IsRecord, body, framed}
use Rattle.xfs_journal.specs.Paging.{PageView, Shows, Since, size_in, AreSizeBytes, IsNoBody, IsShut, IsBroken}
use Rattle.xfs_journal.specs.declared.faults.MountFault.{MountFault}
use Rattle.xfs_journal.specs.declared.faults.MountFault.TheVariants.{NotJournal, Disk, Memory}
use Rattle.xfs_journal.specs.declared.record.Rec.{Rec}
use Rattle.std.proofs.Common.{Some, drop-drop}
use Rattle.std.specs.declared.option.Option.{Option}
use Rattle.xfs_journal.proofs.Decoding.{body-short}
use Rattle.xfs_journal.proofs.Paged.{since_front, since_shows}
use Rattle.xfs_journal.proofs.Told.{from_told}

two_back : (y z : ℕ) → y < 256 → z < 256 → to_be_bytes w16 (from_be_bytes w16 (y ∷ z ∷ [])) ≡ y ∷ z ∷ []
two_back y z fits_y fits_z = ap₂ (λ (a b : ℕ). a ∷ b ∷ []) (omega (arith, fits_y, fits_z)) (omega (arith, fits_y, fits_z))

-- the first bytes of what stands there
module _ (l o : List ℕ) (k : ℕ) (is : o ≡ take k l) where
  pub front_at : (i : ℕ) → i < k → slice_index l i ≡ slice_index o i
  front_at i lt = sym (ap (λ (x : List ℕ). slice_index x i) is ∙ get_or-take k l i 0 lt)

  pub front_size : 3 ≤ k → size_in l ≡ size_in o
  front_size le = ap₂ (λ (a b : ℕ). from_be_bytes w16 (a ∷ b ∷ [])) (front_at 1 (omega (arith, le))) (front_at 2 (omega (arith, le)))

shut_from : (l : List ℕ) → 1 ≤ length l → slice_index l 0 ≢ 1 → IsShut l
shut_from [] le ne = absurd (omega (arith, le))
shut_from (x ∷ xs) le ne = (x, xs, ne, refl)

broken_from : (l : List ℕ) → 1 ≤ length l → slice_index l 0 ≡ 1 → ((r : Rec) → IsRecord r → (more : List ℕ) → l ≢ 1 ∷ (framed r ++ more)) → IsBroken l
broken_from [] le is none = absurd (omega (arith, le))
broken_from (x ∷ xs) le is none = inr (xs, ap (λ (g : ℕ). g ∷ xs) is, λ r of_table more same. none r of_table more (ap₂ (λ (g : ℕ) (ys : List ℕ). g ∷ ys) is same))

module _ (r : Rec) (of_table : IsRecord r) (more l : List ℕ) (same : l ≡ 1 ∷ (framed r ++ more)) where
  told_size : size_in l ≡ length (body r)
  told_size = ap size_in same ∙ from_be_bytes-to_be_bytes_2 (length (body r)) (omega (arith, body-short r of_table))

  told_length : length l ≡ 3 + length (body r) + length more
  told_length = ap length same ∙ omega (arith, length-append (framed r) more, length-append (to_be_bytes w16 (length (body r))) (body r))

  told_body : take (size_in l) (drop 3 l) ≡ body r
  told_body = ap₂ (λ (n : ℕ) (x : List ℕ). take n (drop 3 x)) told_size same ∙ take_at (body r) more (length (body r)) refl

module _ (l : List ℕ) (some : 1 ≤ length l) (opens : slice_index l 0 ≡ 1) where
  pub broken_short : length l < 3 + size_in l → IsBroken l
  broken_short short = broken_from l some opens (λ r of_table more same. omega (arith, short, told_size r of_table more l same, told_length r of_table more l same))

  pub broken_long : 1025 < size_in l → IsBroken l
  broken_long long = broken_from l some opens (λ r of_table more same. omega (arith, long, told_size r of_table more l same, body-short r of_table))

  pub broken_body : IsNoBody (take (size_in l) (drop 3 l)) → IsBroken l
  broken_body none = broken_from l some opens (λ r of_table more same. none r of_table (sym (told_body r of_table more l same)))

-- a prefix of it
module _ (l o : List ℕ) (is : o ≡ take (length o) l) where
  pub some_of : 1 ≤ length o → 1 ≤ length l
  some_of le = omega (arith, le, ap length is, length-take (length o) l)

  pub shut_of : 1 ≤ length o → slice_index o 0 ≢ 1 → IsShut l
  shut_of le ne = shut_from l (some_of le) (λ e. ne (sym (front_at l o (length o) is 0 (omega (arith, le))) ∙ e))

  pub opens_of : 1 ≤ length o → slice_index o 0 ≡ 1 → slice_index l 0 ≡ 1
  opens_of le opens = front_at l o (length o) is 0 (omega (arith, le)) ∙ opens

  pub body_of : length o ≡ 3 + size_in l → take (size_in l) (drop 3 l) ≡ drop 3 o
  body_of whole = sym (ap (λ (x : List ℕ). drop 3 x) (is ∙ ap (λ (n : ℕ). take n l) whole) ∙ drop-take 3 (size_in l) l)

block_is : (o : List ℕ) (r : Rec) → length o ≡ 3 + size_in o → slice_index o 0 ≡ 1 → slice_index o 1 < 256 → slice_index o 2 < 256 → body r ≡ drop 3 o → o ≡ 1 ∷ framed r
block_is [] r many opens fits_y fits_z same = absurd (omega (arith, many))
block_is (x ∷ []) r many opens fits_y fits_z same = absurd (omega (arith, many))
block_is (x ∷ y ∷ []) r many opens fits_y fits_z same = absurd (omega (arith, many))
block_is (x ∷ y ∷ z ∷ zs) r many opens fits_y fits_z same =
    let size : length (body r) ≡ from_be_bytes w16 (y ∷ z ∷ []) = omega (arith, ap length same, many) in
    ap₂ (λ (g : ℕ) (two : List ℕ). g ∷ (two ++ zs)) opens (sym (ap (to_be_bytes w16) size ∙ two_back y z fits_y fits_z))
    ∙ ap (λ (x : List ℕ). 1 ∷ (to_be_bytes w16 (length (body r)) ++ x)) (sym same)

pub whole_of : (l o : List ℕ) (r : Rec) → o ≡ take (length o) l → length o ≡ 3 + size_in l → slice_index l 0 ≡ 1 → AreSizeBytes l → body r ≡ drop 3 o
    → l ≡ (1 ∷ framed r) ++ drop (length o) l
whole_of l o r is whole opens fits same =
    let at_gate : slice_index o 0 ≡ 1 = sym (front_at l o (length o) is 0 (omega (arith, whole))) ∙ opens in
    let fits_y : slice_index o 1 < 256 = subst (λ (n : ℕ). n < 256) (front_at l o (length o) is 1 (omega (arith, whole))) fits.0 in
    let fits_z : slice_index o 2 < 256 = subst (λ (n : ℕ). n < 256) (front_at l o (length o) is 2 (omega (arith, whole))) fits.1 in
    let size : length o ≡ 3 + size_in o = whole ∙ ap (λ (n : ℕ). 3 + n) (front_size l o (length o) is (omega (arith, whole))) in
    sym (take-append-drop (length o) l) ∙ ap (λ (x : List ℕ). x ++ drop (length o) l) (sym is ∙ block_is o r size at_gate fits_y fits_z same)

pub block_size : (o : List ℕ) (r : Rec) → 3 ≤ length o → body r ≡ drop 3 o → length o ≡ length (1 ∷ framed r)
block_size o r le same = omega (arith, le, ap length same, length-drop 3 o, length-append (to_be_bytes w16 (length (body r))) (body r))

abbrev place_in : MountFault → ℕ
place_in (NotJournal at) = at
place_in Disk = 0
place_in Memory = 0

pub same_place : (a b : ℕ) → NotJournal a ≡ NotJournal b → b ≡ a
same_place a b same = sym (ap place_in same)

-- a whole block was read from the gate on
module _ (h : Option (List ℕ)) (b : List ℕ) (known : h ≡ Some b) (p : PageView) (gate at : ℕ) (o : List ℕ) (since : Since h p gate o) (is : gate ≡ at)
    (whole : length o ≡ 3 + size_in (drop gate b)) (opens : slice_index (drop gate b) 0 ≡ 1) where
  pub found : (r : Rec) → AreSizeBytes (drop gate b) → body r ≡ drop 3 o → (drop at b ≡ (1 ∷ framed r) ++ drop p.at b) × Shows b p
  found r fits same = (
    ap (λ (n : ℕ). drop n b) (sym is) ∙ whole_of (drop gate b) o r (since_front h p gate o since b known) whole opens fits same
        ∙ ap (λ (l : List ℕ). (1 ∷ framed r) ++ l) (drop-drop (length o) gate b ∙ ap (λ (n : ℕ). drop n b) (sym since.at_is)),
    from_told h (λ c. Shows c p) (since_shows h p gate o since) b known,
  )

  pub none_found : IsNoBody (drop 3 o) → IsBroken (drop at b)
  none_found none = subst (λ (n : ℕ). IsBroken (drop n b)) is (
      let prefix = since_front h p gate o since b known in
      broken_body (drop gate b) (some_of (drop gate b) o prefix (omega (arith, whole))) opens (subst IsNoBody (sym (body_of (drop gate b) o prefix whole)) none))
