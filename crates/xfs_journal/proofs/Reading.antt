-- What stands at each place of a body.
use Rattle.std.proofs.Common.{◌≡◌, ◌≢◌, ◌≤◌, ℕ, suc, ◌+◌, List, [], ◌∷◌, drop, refl, sym, ◌∙◌, ap, drop-drop, arith, length, length-append, ◌++◌, ap₂, subst}
use Rattle.std.proofs.lemmas.Bool.{false≢true, eq-eqb, ne_eqb, le-leb}
use Rattle.std.specs.Int.{to_be_bytes, from_be_bytes, w32, w64}
use Rattle.std.specs.Prelude.{◌&&◌, true, false}
use Rattle.xfs_journal.proofs.Decoding.{counts-size, places-size, record-back}
use Rattle.xfs_journal.specs.Decode.{numbers, has_size, record_in, record_of, first_byte}
use Rattle.xfs_journal.specs.Paging.{IsNoBody}
use Rattle.xfs_journal.specs.Image.{IsRecord, body, counts_bytes, places_bytes}
use Rattle.xfs_journal.specs.declared.record.Rec.{Rec}
use Rattle.xfs_journal.specs.declared.record.Rec.TheVariants.{Issue, Clear, Expire, Boot, Start, Bind, Order, Done, Load}

abbrev n4 : List ℕ → ℕ
n4 bs = from_be_bytes w32 bs

skips : (bs : List ℕ) (k m : ℕ) → k + 4 ≡ m → drop 4 (drop k bs) ≡ drop m bs
skips bs k m is = drop-drop 4 k bs ∙ ap (λ (n : ℕ). drop n bs) is

-- eight numbers, each at its place
pub eight_numbers : (bs : List ℕ) (at : ℕ)
    → n4 (drop at bs) ∷ n4 (drop (at + 4) bs) ∷ n4 (drop (at + 8) bs) ∷ n4 (drop (at + 12) bs) ∷ n4 (drop (at + 16) bs) ∷ n4 (drop (at + 20) bs) ∷ n4 (drop (at + 24) bs) ∷ n4 (drop (at + 28) bs) ∷ []
    ≡ numbers 8 (drop at bs)
eight_numbers bs at =
    let one = skips bs at (at + 4) refl in
    let two = ap (λ (l : List ℕ). drop 4 l) one ∙ skips bs (at + 4) (at + 8) (omega arith) in
    let three = ap (λ (l : List ℕ). drop 4 l) two ∙ skips bs (at + 8) (at + 12) (omega arith) in
    let four = ap (λ (l : List ℕ). drop 4 l) three ∙ skips bs (at + 12) (at + 16) (omega arith) in
    let five = ap (λ (l : List ℕ). drop 4 l) four ∙ skips bs (at + 16) (at + 20) (omega arith) in
    let six = ap (λ (l : List ℕ). drop 4 l) five ∙ skips bs (at + 20) (at + 24) (omega arith) in
    let seven = ap (λ (l : List ℕ). drop 4 l) six ∙ skips bs (at + 24) (at + 28) (omega arith) in
    λ i. n4 (drop at bs) ∷ n4 (sym one i) ∷ n4 (sym two i) ∷ n4 (sym three i) ∷ n4 (sym four i) ∷ n4 (sym five i) ∷ n4 (sym six i) ∷ n4 (sym seven i) ∷ []

-- a body has as many bytes as its letter wants
pub rest_fits : (r : Rec) → IsRecord r → has_size (first_byte (body r)) (length (drop 1 (body r))) ≡ true
rest_fits (Issue number word) is = refl
rest_fits Clear is = refl
rest_fits Expire is = refl
rest_fits (Boot p) is = eq-eqb (length (places_bytes p)) 192 (places-size p is)
rest_fits (Start issues p) is = eq-eqb (length (to_be_bytes w64 issues ++ places_bytes p)) 200 (omega (arith, places-size p is.1, length-append (to_be_bytes w64 issues) (places_bytes p)))
rest_fits (Bind token) is = ap₂ (λ a b. a && b) (le-leb 1 (length token) is.0) (le-leb (length token) 1024 is.1)
rest_fits (Order kind counts) is = eq-eqb (suc (length (counts_bytes counts))) 33 (omega (arith, counts-size counts is))
rest_fits (Done moved diverted) is = eq-eqb (length (counts_bytes moved ++ counts_bytes diverted)) 64 (omega (arith, counts-size moved is.0, counts-size diverted is.1, length-append (counts_bytes moved) (counts_bytes diverted)))
rest_fits (Load unit count) is = refl

pub not_empty : (r : Rec) → 1 ≤ length (body r)
not_empty (Issue number word) = omega arith
not_empty Clear = omega arith
not_empty Expire = omega arith
not_empty (Boot p) = omega arith
not_empty (Start issues p) = omega arith
not_empty (Bind token) = omega arith
not_empty (Order kind counts) = omega arith
not_empty (Done moved diverted) = omega arith
not_empty (Load unit count) = omega arith

pub none_empty : (bs : List ℕ) → length bs ≡ 0 → IsNoBody bs
none_empty bs none r is same = absurd (omega (arith, none, not_empty r, ap length same))

pub none_unfit : (bs rest : List ℕ) (l : ℕ) → bs ≡ l ∷ rest → has_size l (length rest) ≡ false → IsNoBody bs
none_unfit bs rest l split unfit r is same =
    false≢true (sym unfit ∙ ap (λ (b : List ℕ). has_size (first_byte b) (length (drop 1 b))) (sym split ∙ sym same) ∙ rest_fits r is)

pub decoded_of : (bs rest : List ℕ) (l : ℕ) (rec : Rec) → bs ≡ l ∷ rest → rec ≡ record_in l rest → rec ≡ record_of bs
decoded_of bs rest l rec split is = is ∙ ap record_of (sym split)

same_record : (bs : List ℕ) (rec r : Rec) → rec ≡ record_of bs → IsRecord r → body r ≡ bs → r ≡ rec
same_record bs rec r decoded is same = sym (decoded ∙ ap record_of (sym same) ∙ record-back r is)

pub none_unit : (bs : List ℕ) (rec : Rec) → rec ≡ record_of bs → (IsRecord rec → ⊥) → IsNoBody bs
none_unit bs rec decoded wrong r is same = wrong (subst IsRecord (same_record bs rec r decoded is same) is)

pub none_other : (bs out : List ℕ) (rec : Rec) → rec ≡ record_of bs → out ≡ body rec → out ≢ bs → IsNoBody bs
none_other bs out rec decoded is ne r of_table same = ne (is ∙ ap body (sym (same_record bs rec r decoded of_table same)) ∙ same)

-- a letter that is none of the others is read as a Load's
pub load_in : (l : ℕ) (bs : List ℕ) → l ≢ 0x49 → l ≢ 0x43 → l ≢ 0x45 → l ≢ 0x42 → l ≢ 0x4B → l ≢ 0x54 → l ≢ 0x4F → l ≢ 0x44 → record_in 0x4C bs ≡ record_in l bs
load_in l bs i c e b k t o d = rw (ne_eqb l 0x49 i, ne_eqb l 0x43 c, ne_eqb l 0x45 e, ne_eqb l 0x42 b, ne_eqb l 0x4B k, ne_eqb l 0x54 t, ne_eqb l 0x4F o, ne_eqb l 0x44 d) refl
