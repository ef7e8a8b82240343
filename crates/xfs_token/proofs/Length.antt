-- Where the length field ends in a text, or is stuck.
use Rattle.std.proofs.Common.{◌≡◌, ℕ, zero, suc, ◌+◌, ◌-◌, ◌/◌, ◌%◌, ◌<◌, ◌≤◌, ◌==◌, true, false, List, [], ◌∷◌, ◌++◌, length, take, drop, replicate, refl, sym, ◌∙◌, ap, subst, arith, inl, inr, length-append, append_assoc}
use Rattle.std.specs.Prelude.{◌⊎◌, codes, slice_index, nat_eq}
use Rattle.std.specs.List.{list_all, common_prefix_len}
use Rattle.std.proofs.lemmas.Bool.{and_parts, and_from, cases_Bool, eqb-false}
use Rattle.std.proofs.lemmas.List.Folds.{list_all-append}
use Rattle.std.proofs.lemmas.List.{take-append-drop, length-take-le, drop-drop}
use Rattle.std.proofs.lemmas.List.Sums.{common_prefix_len-le}
use Rattle.xfs_token.proofs.Words.{stuck_behind_word, word_in_front}
use Rattle.xfs_token.specs.Token.{is_digit, four_digits}
use Rattle.xfs_token.specs.Reading.{Stops, IsStuck, WordThen, LengthThen, IsFormatAt, IsLengthAt, first_is}
use Rattle.xfs_token.proofs.Stuck.{stuck_word, same_run, no_longer}
use Rattle.xfs_token.proofs.Tails.{FirstFails, some_tail, ending}
use Rattle.xfs_token.proofs.Front.{some_length, number_from, number_of_digits}
use Rattle.xfs_token.proofs.AmountText.{digit_is}
use Rattle.xfs_token.proofs.Runs.{Run, byte_behind, other_first}
use Rattle.xfs_token.proofs.HexText.{length-zeros}

-- the number of four digits in a list
abbrev pub number_in : List ℕ → ℕ
number_in ds = number_from (slice_index ds 0) (slice_index ds 1) (slice_index ds 2) (slice_index ds 3)

four_of : (ds : List ℕ) → length ds ≡ 4 → list_all is_digit ds ≡ true → (number_in ds ≤ 9999) × (ds ≡ four_digits (number_in ds))
four_of [] l h = absurd (omega arith)
four_of (a ∷ []) l h = absurd (omega arith)
four_of (a ∷ b ∷ []) l h = absurd (omega arith)
four_of (a ∷ b ∷ d ∷ []) l h = absurd (omega arith)
four_of (a ∷ b ∷ d ∷ e ∷ []) l h =
    let ha = and_parts (is_digit a) (list_all is_digit (b ∷ d ∷ e ∷ [])) h in
    let hb = and_parts (is_digit b) (list_all is_digit (d ∷ e ∷ [])) ha.1 in
    let hd = and_parts (is_digit d) (list_all is_digit (e ∷ [])) hb.1 in
    let he = and_parts (is_digit e) true hd.1 in
    number_of_digits a b d e ha.0 hb.0 hd.0 he.0
four_of (a ∷ b ∷ d ∷ e ∷ f ∷ ds) l h = absurd (omega arith)

length_into : (ds : List ℕ) → length ds ≡ 4 → list_all is_digit ds ≡ true → LengthThen (ds ++ 44 ∷ ending)
length_into ds l h = let f = four_of ds l h in record { number = number_in ds; rest = ending; small = f.0; is = ap (λ (x : List ℕ). x ++ 44 ∷ ending) f.1; then = some_tail [] }

all_four : (n : ℕ) → list_all is_digit (four_digits n) ≡ true
all_four n = and_from _ _ (digit_is (n / 1000 % 10) (omega arith)) (and_from _ _ (digit_is (n / 100 % 10) (omega arith)) (and_from _ _ (digit_is (n / 10 % 10) (omega arith)) (and_from _ _ (digit_is (n % 10) (omega arith)) refl)))

all-zeros : (n : ℕ) → list_all is_digit (replicate n 48) ≡ true
all-zeros zero = refl
all-zeros (suc n) = all-zeros n

stuck_few : (ds rest : List ℕ) → length ds < 4 → list_all is_digit ds ≡ true → FirstFails is_digit rest → IsStuck LengthThen (ds ++ rest) (length rest)
stuck_few ds rest few h fails =
    let pad : List ℕ = replicate (4 - length ds) 48 in
    let l = length-append ds pad in
    let z = length-zeros (4 - length ds) in record {
      good = ds;
      bad = rest;
      cut = refl;
      left_is = refl;
      more = pad ++ 44 ∷ ending;
      begins = subst LengthThen (append_assoc ds pad (44 ∷ ending)) (length_into (ds ++ pad) (omega (arith, l, z)) (list_all-append is_digit ds pad ∙ and_from _ _ h (all-zeros (4 - length ds))));
      stops = stops rest fails;
    }
  where
    stops : (rest : List ℕ) → FirstFails is_digit rest → Stops LengthThen ds rest
    stops [] f = λ m. let e = ap length m.is in absurd (omega arith)
    stops (b ∷ bs) f = λ more m. let r = same_run is_digit ds (four_digits m.number) more m.rest b 44 h (all_four m.number) f refl m.is in let e = ap length r.0 in absurd (omega arith)

stuck_four : (ds rest : List ℕ) → length ds ≡ 4 → list_all is_digit ds ≡ true → FirstFails (λ b. b == 44) rest → IsStuck LengthThen (ds ++ rest) (length rest)
stuck_four ds rest four h fails = record {
  good = ds;
  bad = rest;
  cut = refl;
  left_is = refl;
  more = 44 ∷ ending;
  begins = length_into ds four h;
  stops = stops rest fails;
}
  where
    none : (b : ℕ) (more : List ℕ) (m : LengthThen (ds ++ b ∷ more)) → (b == 44) ≡ false → (is_digit b ≡ true) ⊎ (is_digit b ≡ false) → ⊥
    none b more m k (inl d) = no_longer is_digit ds (four_digits m.number) more m.rest b 44 h d refl (omega arith) m.is
    none b more m k (inr d) = eqb-false b 44 k (same_run is_digit ds (four_digits m.number) more m.rest b 44 h (all_four m.number) d refl m.is).1

    stops : (rest : List ℕ) → FirstFails (λ b. b == 44) rest → Stops LengthThen ds rest
    stops [] f = λ m. let e = ap length m.is in absurd (omega arith)
    stops (b ∷ bs) f = λ more m. none b more m f (cases_Bool (is_digit b))

back_to : (text rest : List ℕ) (n : ℕ) → rest ≡ drop n text → IsStuck LengthThen (take n text ++ drop n text) (length (drop n text)) → IsStuck LengthThen text (length rest)
back_to text rest n e s = subst (λ (k : ℕ). IsStuck LengthThen text k) (ap length (sym e)) (subst (λ (l : List ℕ). IsStuck LengthThen l (length (drop n text))) (take-append-drop n text) s)

pub length_few : (text rest : List ℕ) (n : ℕ) → Run is_digit 4 text n → n < 4 → rest ≡ drop n text → IsStuck LengthThen text (length rest)
length_few text rest n r few e = back_to text rest n e (stuck_few (take n text) (drop n text) (let l = length-take-le n text r.within in omega (arith, l)) r.all (go r.stop))
  where
    go : (n ≡ 4) ⊎ FirstFails is_digit (drop n text) → FirstFails is_digit (drop n text)
    go (inl full) = absurd (omega arith)
    go (inr f) = f

pub length_stuck : (text rest : List ℕ) (n : ℕ) → Run is_digit 4 text n → 4 ≤ n → rest ≡ drop n text → first_is 44 rest ≡ false → IsStuck LengthThen text (length rest)
length_stuck text rest n r full e no_comma =
    back_to text rest n e (stuck_four (take n text) (drop n text) (let l = length-take-le n text r.within in let few = r.few in omega (arith, l)) r.all (other_first 44 (drop n text) (ap (first_is 44) (sym e) ∙ no_comma)))

pub length_ends : (text digits rest : List ℕ) (n : ℕ) → Run is_digit 4 text n → 4 ≤ n → digits ≡ take n text → rest ≡ drop n text → first_is 44 rest ≡ true → IsLengthAt text (number_in digits)
length_ends text digits rest n r full d e comma =
    let few = r.few in
    let four : n ≡ 4 = omega arith in
    let l = length-take-le n text r.within in
    let f = four_of digits (ap length d ∙ l ∙ four) (ap (list_all is_digit) d ∙ r.all) in
    let is = byte_behind text n 44 (ap (first_is 44) (sym e) ∙ comma) in
    let five : n + 1 ≡ 5 = omega arith in
    record { small = f.0; is = is ∙ ap (λ (x : List ℕ). x ++ 44 ∷ drop (n + 1) text) (sym d ∙ f.1) ∙ ap (λ (k : ℕ). four_digits (number_in digits) ++ 44 ∷ drop k text) five }

-- the format's word and a length field
pub format_short : (text : List ℕ) (n : ℕ) → n ≡ common_prefix_len nat_eq text (codes "TOKENFORMAT=1,TOKENLENGTH=") → n < 26 → IsStuck (WordThen (codes "TOKENFORMAT=1,TOKENLENGTH=") LengthThen) text (length text - n)
format_short text n e lt = subst (λ (k : ℕ). IsStuck (WordThen (codes "TOKENFORMAT=1,TOKENLENGTH=") LengthThen) text (length text - k)) (sym e) (stuck_word LengthThen (codes "TOKENFORMAT=1,TOKENLENGTH=") text (four_digits 0 ++ 44 ∷ ending) some_length (subst (λ (k : ℕ). k < 26) e lt))

format_cut : (text rest : List ℕ) (n : ℕ) → n ≡ common_prefix_len nat_eq text (codes "TOKENFORMAT=1,TOKENLENGTH=") → 26 ≤ n → rest ≡ drop 26 text → codes "TOKENFORMAT=1,TOKENLENGTH=" ++ rest ≡ text
format_cut text rest n e le r = ap (λ (l : List ℕ). codes "TOKENFORMAT=1,TOKENLENGTH=" ++ l) r ∙ sym (word_in_front (codes "TOKENFORMAT=1,TOKENLENGTH=") text (subst (λ (k : ℕ). 26 ≤ k) e le))

pub format_within : (text : List ℕ) (n : ℕ) → n ≡ common_prefix_len nat_eq text (codes "TOKENFORMAT=1,TOKENLENGTH=") → n ≤ length text
format_within text n e = subst (λ (k : ℕ). k ≤ length text) (sym e) (common_prefix_len-le nat_eq text (codes "TOKENFORMAT=1,TOKENLENGTH=")).0

pub format_stuck : (text rest : List ℕ) (n left : ℕ) → n ≡ common_prefix_len nat_eq text (codes "TOKENFORMAT=1,TOKENLENGTH=") → 26 ≤ n → rest ≡ drop 26 text → IsStuck LengthThen rest left → IsStuck (WordThen (codes "TOKENFORMAT=1,TOKENLENGTH=") LengthThen) text left
format_stuck text rest n left e le r s = subst (λ (l : List ℕ). IsStuck (WordThen (codes "TOKENFORMAT=1,TOKENLENGTH=") LengthThen) l left) (format_cut text rest n e le r) (stuck_behind_word LengthThen (codes "TOKENFORMAT=1,TOKENLENGTH=") rest left s)

pub format_ends : (text rest : List ℕ) (n number : ℕ) → n ≡ common_prefix_len nat_eq text (codes "TOKENFORMAT=1,TOKENLENGTH=") → 26 ≤ n → rest ≡ drop 26 text → IsLengthAt rest number → IsFormatAt text number
format_ends text rest n number e le r a = record {
  small = a.small;
  is = sym (format_cut text rest n e le r) ∙ ap (λ (l : List ℕ). codes "TOKENFORMAT=1,TOKENLENGTH=" ++ l) (a.is ∙ ap (λ (l : List ℕ). four_digits number ++ 44 ∷ l) (ap (drop 5) r ∙ drop-drop 5 26 text));
}
