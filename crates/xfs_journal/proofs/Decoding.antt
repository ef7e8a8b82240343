-- A record is found again in its body, so no two records have one body.
use Rattle.std.proofs.Common.{◌≡◌, ℕ, ◌*◌, ◌<◌, ◌≤◌, ◌^◌, List, [], ◌∷◌, ◌++◌, length, drop, refl, sym, ◌∙◌, ap, ap₂, arith, append_assoc, append-nil, length-append, drop_at}
use Rattle.std.specs.Prelude.{All}
use Rattle.std.specs.Int.{to_be_bytes, w32, w64}
use Rattle.std.specs.List.{flat_map}
use Rattle.std.proofs.lemmas.List.Elements.{All-head, All-tail}
use Rattle.std.proofs.lemmas.Nat.{from_be_bytes-to_be_bytes_4, from_be_bytes-to_be_bytes_8}
use Rattle.xfs_base.specs.declared.counts.Counts.{Counts}
use Rattle.xfs_base.specs.declared.counts.Kind.{Kind}
use Rattle.xfs_base.specs.declared.counts.Kind.TheVariants.{Stack, Present, Reject, Retract}
use Rattle.xfs_base.specs.declared.counts.Places.{Places}
use Rattle.xfs_journal.specs.Decode.{numbers, counts_in, kind_in, places_in, record_of}
use Rattle.xfs_journal.specs.Image.{body, counts_bytes, places_bytes, kind_byte, AreCounts, ArePlaces, IsRecord}
use Rattle.xfs_journal.specs.declared.record.Rec.{Rec}
use Rattle.xfs_journal.specs.declared.record.Rec.TheVariants.{Issue, Clear, Expire, Boot, Start, Bind, Order, Done, Load}

numbers-back : (l rest : List ℕ) → All (λ n. n < 2 ^ 32) l → numbers (length l) (flat_map (to_be_bytes w32) l ++ rest) ≡ l
numbers-back [] rest all = refl
numbers-back (x ∷ xs) rest all = ap₂ (λ (n : ℕ) (ns : List ℕ). n ∷ ns) (from_be_bytes-to_be_bytes_4 x (All-head (λ n. n < 2 ^ 32) x xs all)) (numbers-back xs rest (All-tail (λ n. n < 2 ^ 32) x xs all))

pub length-numbers : (l : List ℕ) → length (flat_map (to_be_bytes w32) l) ≡ 4 * length l
length-numbers [] = refl
length-numbers (x ∷ xs) = omega (arith, length-numbers xs)

pub counts-size : (c : Counts) → AreCounts c → length (counts_bytes c) ≡ 32
counts-size c are = omega (arith, length-numbers c.0, are.0)

counts-back : (c : Counts) (rest : List ℕ) → AreCounts c → counts_in (counts_bytes c ++ rest) ≡ c
counts-back c rest are = ap (λ (l : List ℕ). record_counts l) (ap (λ (n : ℕ). numbers n (counts_bytes c ++ rest)) (sym are.0) ∙ numbers-back c.0 rest are.1)
  where
    record_counts : List ℕ → Counts
    record_counts l = record { 0 = l }

counts-alone : (c : Counts) → AreCounts c → counts_in (counts_bytes c) ≡ c
counts-alone c are = ap counts_in (sym (append-nil (counts_bytes c))) ∙ counts-back c [] are

kind-back : (k : Kind) → kind_in (kind_byte k) ≡ k
kind-back Stack = refl
kind-back Present = refl
kind-back Reject = refl
kind-back Retract = refl

-- the k-th of pieces of 32 bytes
skip : (a b : List ℕ) (n : ℕ) → length a ≡ n → drop n (a ++ b) ≡ b
skip a b n is = drop_at a b n is

places-back : (p : Places) → AreCounts p.units → AreCounts p.transport → AreCounts p.outlet → AreCounts p.taken → AreCounts p.retracted → AreCounts p.rejected → places_in (places_bytes p) ≡ p
places-back p au at ao ak ar aj =
    let u = counts_bytes p.units in
    let t = counts_bytes p.transport in
    let o = counts_bytes p.outlet in
    let k = counts_bytes p.taken in
    let r = counts_bytes p.retracted in
    let j = counts_bytes p.rejected in
    let all = u ++ t ++ o ++ k ++ r ++ j in
    let nu = counts-size p.units au in
    let nt = counts-size p.transport at in
    let no' = counts-size p.outlet ao in
    let nk = counts-size p.taken ak in
    let nr = counts-size p.retracted ar in
    let two : length (u ++ t) ≡ 64 = omega (arith, length-append u t, nu, nt) in
    let three : length (u ++ t ++ o) ≡ 96 = omega (arith, length-append (u ++ t) o, two, no') in
    let four : length (u ++ t ++ o ++ k) ≡ 128 = omega (arith, length-append (u ++ t ++ o) k, three, nk) in
    let five : length (u ++ t ++ o ++ k ++ r) ≡ 160 = omega (arith, length-append (u ++ t ++ o ++ k) r, four, nr) in
    let from_k : all ≡ (u ++ t ++ o) ++ (k ++ (r ++ j)) = append_assoc (u ++ t ++ o ++ k) r j ∙ append_assoc (u ++ t ++ o) k (r ++ j) in
    let from_o : all ≡ (u ++ t) ++ (o ++ (k ++ (r ++ j))) = from_k ∙ append_assoc (u ++ t) o (k ++ (r ++ j)) in
    let from_t : all ≡ u ++ (t ++ (o ++ (k ++ (r ++ j)))) = from_o ∙ append_assoc u t (o ++ (k ++ (r ++ j))) in
    let from_r : all ≡ (u ++ t ++ o ++ k) ++ (r ++ j) = append_assoc (u ++ t ++ o ++ k) r j in
    built p all
    (ap counts_in from_t ∙ counts-back p.units (t ++ (o ++ (k ++ (r ++ j)))) au)
    (ap (λ (l : List ℕ). counts_in (drop 32 l)) from_t ∙ ap counts_in (skip u (t ++ (o ++ (k ++ (r ++ j)))) 32 nu) ∙ counts-back p.transport (o ++ (k ++ (r ++ j))) at)
    (ap (λ (l : List ℕ). counts_in (drop 64 l)) from_o ∙ ap counts_in (skip (u ++ t) (o ++ (k ++ (r ++ j))) 64 two) ∙ counts-back p.outlet (k ++ (r ++ j)) ao)
    (ap (λ (l : List ℕ). counts_in (drop 96 l)) from_k ∙ ap counts_in (skip (u ++ t ++ o) (k ++ (r ++ j)) 96 three) ∙ counts-back p.taken (r ++ j) ak)
    (ap (λ (l : List ℕ). counts_in (drop 128 l)) from_r ∙ ap counts_in (skip (u ++ t ++ o ++ k) (r ++ j) 128 four) ∙ counts-back p.retracted j ar)
    (ap counts_in (skip (u ++ t ++ o ++ k ++ r) j 160 five) ∙ counts-alone p.rejected aj)
  where
    built : (p : Places) (bs : List ℕ) → counts_in bs ≡ p.units → counts_in (drop 32 bs) ≡ p.transport → counts_in (drop 64 bs) ≡ p.outlet → counts_in (drop 96 bs) ≡ p.taken
        → counts_in (drop 128 bs) ≡ p.retracted → counts_in (drop 160 bs) ≡ p.rejected → places_in bs ≡ p
    built p bs a b c d e f = λ i. record { units = a i; transport = b i; outlet = c i; taken = d i; retracted = e i; rejected = f i }

-- each record is found again in its body
pub record-back : (r : Rec) → IsRecord r → record_of (body r) ≡ r
record-back (Issue number word) is = ap₂ (λ n w. Issue n w) (from_be_bytes-to_be_bytes_8 number is.0) (from_be_bytes-to_be_bytes_8 word is.1)
record-back Clear is = refl
record-back Expire is = refl
record-back (Boot p) is = ap (λ q. Boot q) (places-back p is.0 is.1 is.2 is.3 is.4 is.5)
record-back (Start issues p) is = ap₂ (λ n q. Start n q) (from_be_bytes-to_be_bytes_8 issues is.0) (places-back p is.1.0 is.1.1 is.1.2 is.1.3 is.1.4 is.1.5)
record-back (Bind token) is = refl
record-back (Order kind counts) is = ap₂ (λ k c. Order k c) (kind-back kind) (counts-alone counts is)
record-back (Done moved diverted) is = ap₂ (λ m d. Done m d) (counts-back moved (counts_bytes diverted) is.0)
    (ap counts_in (skip (counts_bytes moved) (counts_bytes diverted) 32 (counts-size moved is.0)) ∙ counts-alone diverted is.1)
record-back (Load unit count) is = ap (λ c. Load unit c) (from_be_bytes-to_be_bytes_4 count is.2)

pub no_two_bodies : (r s : Rec) → IsRecord r → IsRecord s → body r ≡ body s → r ≡ s
no_two_bodies r s is_r is_s same = sym (record-back r is_r) ∙ ap record_of same ∙ record-back s is_s

pub places-size : (p : Places) → ArePlaces p → length (places_bytes p) ≡ 192
places-size p is = omega (
  arith,
  counts-size p.units is.0,
  counts-size p.transport is.1,
  counts-size p.outlet is.2,
  counts-size p.taken is.3,
  counts-size p.retracted is.4,
  counts-size p.rejected is.5,
  length-append (counts_bytes p.units) (counts_bytes p.transport),
  length-append (counts_bytes p.units ++ counts_bytes p.transport) (counts_bytes p.outlet),
  length-append (counts_bytes p.units ++ counts_bytes p.transport ++ counts_bytes p.outlet) (counts_bytes p.taken),
  length-append (counts_bytes p.units ++ counts_bytes p.transport ++ counts_bytes p.outlet ++ counts_bytes p.taken) (counts_bytes p.retracted),
  length-append (counts_bytes p.units ++ counts_bytes p.transport ++ counts_bytes p.outlet ++ counts_bytes p.taken ++ counts_bytes p.retracted) (counts_bytes p.rejected),
)

-- a body fits the two bytes of its length
pub body-short : (r : Rec) → IsRecord r → length (body r) ≤ 1025
body-short (Issue number word) is = omega arith
body-short Clear is = omega arith
body-short Expire is = omega arith
body-short (Boot p) is = omega (arith, places-size p is)
body-short (Start issues p) is = omega (arith, places-size p is.1, length-append (to_be_bytes w64 issues) (places_bytes p))
body-short (Bind token) is = omega (arith, is.1)
body-short (Order kind counts) is = omega (arith, counts-size counts is)
body-short (Done moved diverted) is = omega (arith, counts-size moved is.0, counts-size diverted is.1, length-append (counts_bytes moved) (counts_bytes diverted))
body-short (Load unit count) is = omega arith
