-- Where a nonce, a key, a value and an HMAC end in a text, or are stuck.
use Rattle.std.proofs.Common.{◌≡◌, ℕ, zero, suc, ◌+◌, ◌<◌, ◌≤◌, ◌==◌, Bool, true, false, not, ◌&&◌, ◌||◌, List, [], ◌∷◌, ◌++◌, length, take, drop, refl, sym, ◌∙◌, ap, subst, arith, inl, inr, length-append, append_assoc, get_or}
use Rattle.std.specs.Prelude.{◌⊎◌, codes, slice_index, Ok}
use Rattle.std.specs.List.{list_all}
use Rattle.std.specs.Str.{bytes_eq}
use Rattle.std.proofs.lemmas.Bool.{and_parts, and_from, cases_lt, eqb-true, eq-eqb, le-leb}
use Rattle.std.proofs.lemmas.List.Folds.{list_all-append}
use Rattle.std.proofs.lemmas.List.{take-append-drop, length-take-le, length-drop, take_more, append-nil}
use Rattle.hex.specs.Hex.{decode_sized, decode_pairs, upper_digits}
use Rattle.hex.proofs.HexLemmas.{length-encode_with, decode_pairs-encode_with, IsDigits-upper_digits}
use Rattle.xfs_token.specs.Token.{is_upper_hex, is_nonce, is_key, is_key_byte, is_letter, is_value, is_value_byte, is_free_key, is_reserved, has_key, pairs_text}
use Rattle.xfs_token.specs.Reading.{IsStuck, IsNonceAt, IsKeyAt, IsValueAt, NonceThen, Tail, ValueThen, MacEnd, first_is, first_in}
use Rattle.xfs_token.proofs.Stuck.{both_ways}
use Rattle.xfs_token.proofs.Tails.{FirstFails, stuck_no_value, stuck_value}
use Rattle.xfs_token.proofs.Front.{stuck_no_nonce, stuck_nonce}
use Rattle.xfs_token.proofs.HexText.{mac_of as digits_mac, stuck_mac_short, stuck_mac_long}
use Rattle.xfs_token.proofs.Keys.{Frees, stuck_no_key, stuck_key, stuck_taken, stuck_last}
use Rattle.xfs_token.proofs.Fresh.{frees_short, frees_free, longer_no_reserved}
use Rattle.xfs_token.proofs.Runs.{Run, byte_behind, other_first}

-- what is stuck behind the first n bytes
back_to : (L : List ℕ → Type 0) (text rest : List ℕ) (n : ℕ) → rest ≡ drop n text → IsStuck L (take n text ++ drop n text) (length (drop n text)) → IsStuck L text (length rest)
back_to L text rest n e s = subst (λ (k : ℕ). IsStuck L text k) (ap length (sym e)) (subst (λ (l : List ℕ). IsStuck L l (length (drop n text))) (take-append-drop n text) s)

at_zero : (p : ℕ → Bool) (most : ℕ) (text : List ℕ) (n : ℕ) → Run p (suc most) text n → n ≡ 0 → FirstFails p text
at_zero p most text n r e = go r.stop
  where
    go : (n ≡ suc most) ⊎ FirstFails p (drop n text) → FirstFails p text
    go (inl full) = absurd (omega arith)
    go (inr f) = subst (λ (k : ℕ). FirstFails p (drop k text)) e f

pub nonce_none : (text : List ℕ) (n : ℕ) → Run is_upper_hex 128 text n → n ≡ 0 → IsStuck NonceThen text (length text)
nonce_none text n r e = stuck_no_nonce text (at_zero is_upper_hex 127 text n r e)

nonce_good : (text : List ℕ) (n : ℕ) → Run is_upper_hex 128 text n → (n ≡ 0 → ⊥) → is_nonce (take n text) ≡ true
nonce_good text n r some =
    let len = length-take-le n text r.within in
    let few = r.few in
    and_from _ _ (and_from _ _ (le-leb 1 (length (take n text)) (omega (arith, len, some))) (le-leb (length (take n text)) 128 (omega (arith, len)))) r.all

pub nonce_stuck : (text rest : List ℕ) (n : ℕ) → Run is_upper_hex 128 text n → (n ≡ 0 → ⊥) → rest ≡ drop n text → first_is 44 rest ≡ false → IsStuck NonceThen text (length rest)
nonce_stuck text rest n r some e no_comma =
    back_to NonceThen text rest n e (stuck_nonce (take n text) (drop n text) (nonce_good text n r some) (full r.stop) (other_first 44 (drop n text) (ap (first_is 44) (sym e) ∙ no_comma)))
  where
    full : (n ≡ 128) ⊎ FirstFails is_upper_hex (drop n text) → (length (take n text) ≡ 128) ⊎ FirstFails is_upper_hex (drop n text)
    full (inl f) = inl (length-take-le n text r.within ∙ f)
    full (inr f) = inr f

pub nonce_ends : (text rest : List ℕ) (n : ℕ) → Run is_upper_hex 128 text n → (n ≡ 0 → ⊥) → rest ≡ drop n text → first_is 44 rest ≡ true → IsNonceAt text n
nonce_ends text rest n r some e comma = record { good = nonce_good text n r some; is = byte_behind text n 44 (ap (first_is 44) (sym e) ∙ comma) }

value_good : (text : List ℕ) (n : ℕ) → n ≤ length text → list_all is_value_byte (take n text) ≡ true → (n ≡ 0 → ⊥) → is_value (take n text) ≡ true
value_good text n within all some = let len = length-take-le n text within in and_from _ _ (le-leb 1 (length (take n text)) (omega (arith, len, some))) all

pub value_none : (text : List ℕ) (n : ℕ) (earlier : List (List ℕ × List ℕ)) (key : List ℕ) → FirstFails is_value_byte (drop n text) → n ≡ 0 → IsStuck (ValueThen earlier key) text (length text)
value_none text n earlier key f e = stuck_no_value earlier key text (subst (λ (k : ℕ). FirstFails is_value_byte (drop k text)) e f)

pub value_stuck : (text rest : List ℕ) (n : ℕ) (earlier : List (List ℕ × List ℕ)) (key : List ℕ) → n ≤ length text → list_all is_value_byte (take n text) ≡ true → FirstFails is_value_byte (drop n text) → (n ≡ 0 → ⊥) → rest ≡ drop n text → first_is 44 rest ≡ false
    → IsStuck (ValueThen earlier key) text (length rest)
value_stuck text rest n earlier key within all f some e no_comma =
    back_to (ValueThen earlier key) text rest n e (stuck_value earlier key (take n text) (drop n text) (value_good text n within all some) f (other_first 44 (drop n text) (ap (first_is 44) (sym e) ∙ no_comma)))

pub value_ends : (text rest : List ℕ) (n : ℕ) → n ≤ length text → list_all is_value_byte (take n text) ≡ true → (n ≡ 0 → ⊥) → rest ≡ drop n text → first_is 44 rest ≡ true → IsValueAt text n
value_ends text rest n within all some e comma = record { good = value_good text n within all some; is = byte_behind text n 44 (ap (first_is 44) (sym e) ∙ comma) }

pub mac_short : (text rest : List ℕ) (n : ℕ) → Run is_upper_hex 64 text n → n < 64 → rest ≡ drop n text → IsStuck MacEnd text (length rest)
mac_short text rest n r few e = back_to MacEnd text rest n e (stuck_mac_short (take n text) (drop n text) r.all (let l = length-take-le n text r.within in omega (arith, l)) (go r.stop))
  where
    go : (n ≡ 64) ⊎ FirstFails is_upper_hex (drop n text) → FirstFails is_upper_hex (drop n text)
    go (inl full) = absurd (omega arith)
    go (inr f) = f

pub mac_long : (text rest : List ℕ) (n : ℕ) → Run is_upper_hex 64 text n → 64 ≤ n → rest ≡ drop n text → (length rest ≡ 0 → ⊥) → IsStuck MacEnd text (length rest)
mac_long text rest n r full e some = back_to MacEnd text rest n e (go (drop n text) (λ z. some (ap length e ∙ z)))
  where
    go : (tail : List ℕ) → (length tail ≡ 0 → ⊥) → IsStuck MacEnd (take n text ++ tail) (length tail)
    go [] h = absurd (h refl)
    go (b ∷ bs) h = stuck_mac_long (take n text) bs b r.all (let l = length-take-le n text r.within in let few = r.few in omega (arith, l))

-- a key that begins with a letter, and how long it is
pub record KeyRun (text : List ℕ) (n : ℕ) : Type 0 where
  pub run : Run is_key_byte 32 text n
  pub first : first_in is_letter text ≡ true

letter_key_byte : (b : ℕ) → is_letter b ≡ true → is_key_byte b ≡ true
letter_key_byte b h = rw h refl

key_some : (text : List ℕ) (n : ℕ) → KeyRun text n → 1 ≤ n
key_some text zero r = absurd (go text r.first (at_zero is_key_byte 31 text 0 r.run refl))
  where
    go : (text : List ℕ) → first_in is_letter text ≡ true → FirstFails is_key_byte text → ⊥
    go [] f k = both_ways false f refl
    go (b ∷ bs) f k = both_ways (is_key_byte b) (letter_key_byte b f) k
key_some text (suc n) r = omega arith

first_letter : (text : List ℕ) (n : ℕ) → 1 ≤ n → first_in is_letter text ≡ true → is_letter (slice_index (take n text) 0) ≡ true
first_letter text zero h f = absurd (omega arith)
first_letter [] (suc n) h f = absurd (both_ways false f refl)
first_letter (b ∷ bs) (suc n) h f = f

key_good : (text : List ℕ) (n : ℕ) → KeyRun text n → is_key (take n text) ≡ true
key_good text n r =
    let some = key_some text n r in
    let len = length-take-le n text r.run.within in
    let few = r.run.few in
    and_from _ _ (and_from _ _ (and_from _ _ (le-leb 1 (length (take n text)) (omega (arith, len, some))) (le-leb (length (take n text)) 32 (omega (arith, len)))) (first_letter text n some r.first)) r.run.all

-- a key that doesn't both fill its room and stand there already can be made free
key_frees : (earlier : List (List ℕ × List ℕ)) (text : List ℕ) (n : ℕ) → KeyRun text n → length (pairs_text earlier) ≤ 1024 → (n == 32 && has_key (take n text) earlier) ≡ false → Frees earlier (take n text)
key_frees earlier text n r few open_ = elim (cases_lt n 32) [
  | inl short ↦ frees_short earlier (take n text) (omega (arith, len, some)) (omega (arith, len)) (first_letter text n some r.first) r.run.all few
  | inr full ↦ (
      let e : n ≡ 32 = (let f = r.run.few in omega arith) in
      let new : has_key (take n text) earlier ≡ false = ap (λ (b : Bool). b && has_key (take n text) earlier) (sym (eq-eqb n 32 e)) ∙ open_ in
      frees_free earlier (take n text) (and_from _ _ (and_from _ _ (key_good text n r) (ap not (longer_no_reserved (take n text) (len ∙ e)))) (ap not new)))
]
  where
    some : 1 ≤ n
    some = key_some text n r

    len : length (take n text) ≡ n
    len = length-take-le n text r.run.within

pub key_none : (earlier : List (List ℕ × List ℕ)) (text : List ℕ) → first_in is_letter text ≡ false → IsStuck (Tail earlier) text (length text)
key_none earlier text h = stuck_no_key earlier text (go text h)
  where
    go : (text : List ℕ) → first_in is_letter text ≡ false → FirstFails is_letter text
    go [] h = tt
    go (b ∷ bs) h = h

pub key_no_equals : (earlier : List (List ℕ × List ℕ)) (text rest : List ℕ) (n : ℕ) → KeyRun text n → length (pairs_text earlier) ≤ 1024 → (n == 32 && has_key (take n text) earlier) ≡ false → rest ≡ drop n text → first_is 61 rest ≡ false → IsStuck (Tail earlier) text (length rest)
key_no_equals earlier text rest n r few open_ e no_equals =
    back_to (Tail earlier) text rest n e (stuck_key earlier (take n text) (drop n text) (key_good text n r) (key_frees earlier text n r few open_) (full r.run.stop) (other_first 61 (drop n text) (ap (first_is 61) (sym e) ∙ no_equals)))
  where
    full : (n ≡ 32) ⊎ FirstFails is_key_byte (drop n text) → (length (take n text) ≡ 32) ⊎ FirstFails is_key_byte (drop n text)
    full (inl f) = inl (length-take-le n text r.run.within ∙ f)
    full (inr f) = inr f

pub key_not_free : (earlier : List (List ℕ × List ℕ)) (text rest : List ℕ) (n : ℕ) → KeyRun text n → length (pairs_text earlier) ≤ 1024 → (n == 32 && has_key (take n text) earlier) ≡ false → rest ≡ drop n text → first_is 61 rest ≡ true
    → bytes_eq (take n text) (codes "HMACSHA256") ≡ false → is_free_key (take n text) earlier ≡ false → IsStuck (Tail earlier) text (length rest)
key_not_free earlier text rest n r few open_ e equals other taken =
    let is = byte_behind text n 61 (ap (first_is 61) (sym e) ∙ equals) in
    let s = stuck_taken earlier (take n text) (drop (n + 1) text) (key_good text n r) other taken (key_frees earlier text n r few open_) in
    let l : length rest ≡ length (61 ∷ drop (n + 1) text) = (let a = ap length e in let b = length-drop n text in let d = length-drop (n + 1) text in let w = ap length is in let t = length-take-le n text r.run.within in let f = length-append (take n text) (61 ∷ drop (n + 1) text) in omega (arith, a, b, d, w, t, f)) in
    subst (λ (k : ℕ). IsStuck (Tail earlier) text k) (sym l) (subst (λ (t : List ℕ). IsStuck (Tail earlier) t (length (61 ∷ drop (n + 1) text))) (sym is) s)

pub key_full : (earlier : List (List ℕ × List ℕ)) (text rest : List ℕ) (n : ℕ) → KeyRun text n → length (pairs_text earlier) ≤ 1024 → (n == 32 && has_key (take n text) earlier) ≡ true → rest ≡ drop n text → IsStuck (Tail earlier) text (length rest + 1)
key_full earlier text rest n r few both e =
    let parts = and_parts (n == 32) (has_key (take n text) earlier) both in
    let full : n ≡ 32 = eqb-true n 32 parts.0 in
    let within = r.run.within in
    let b : ℕ = get_or text 31 0 in
    let cut : take n text ≡ take 31 text ++ b ∷ [] = ap (λ (k : ℕ). take k text) full ∙ take_more text 31 0 (omega arith) in
    let good : is_key (take 31 text ++ b ∷ []) ≡ true = ap is_key (sym cut) ∙ key_good text n r in
    let taken : has_key (take 31 text ++ b ∷ []) earlier ≡ true = ap (λ (k : List ℕ). has_key k earlier) (sym cut) ∙ parts.1 in
    let all : list_all is_key_byte (take 31 text) ≡ true = (and_parts (list_all is_key_byte (take 31 text)) (list_all is_key_byte (b ∷ [])) (sym (list_all-append is_key_byte (take 31 text) (b ∷ [])) ∙ ap (list_all is_key_byte) (sym cut) ∙ r.run.all)).0 in
    let len : length (take 31 text) ≡ 31 = length-take-le 31 text (omega arith) in
    let frees = frees_short earlier (take 31 text) (omega (arith, len)) (omega (arith, len)) (first_letter text 31 (omega arith) r.first) all few in
    let s = stuck_last earlier (take 31 text) (drop n text) b good len taken frees in
    let is : take 31 text ++ b ∷ drop n text ≡ text = sym (append_assoc (take 31 text) (b ∷ []) (drop n text)) ∙ ap (λ (l : List ℕ). l ++ drop n text) (sym cut) ∙ take-append-drop n text in
    let l : length (b ∷ drop n text) ≡ length rest + 1 = (let a = ap length e in omega (arith, a)) in
    subst (λ (k : ℕ). IsStuck (Tail earlier) text k) l (subst (λ (t : List ℕ). IsStuck (Tail earlier) t (length (b ∷ drop n text))) is s)

pub key_ends : (earlier : List (List ℕ × List ℕ)) (text rest : List ℕ) (n : ℕ) → KeyRun text n → rest ≡ drop n text → first_is 61 rest ≡ true → (bytes_eq (take n text) (codes "HMACSHA256") || is_free_key (take n text) earlier) ≡ true → IsKeyAt earlier text n
key_ends earlier text rest n r e equals good = record { good = good; is = byte_behind text n 61 (ap (first_is 61) (sym e) ∙ equals) }

pub free_from : (earlier : List (List ℕ × List ℕ)) (text : List ℕ) (n : ℕ) → KeyRun text n → is_reserved (take n text) ≡ false → has_key (take n text) earlier ≡ false → is_free_key (take n text) earlier ≡ true
free_from earlier text n r a b = and_from _ _ (and_from _ _ (key_good text n r) (ap not a)) (ap not b)

pub not_free_reserved : (earlier : List (List ℕ × List ℕ)) (key : List ℕ) → is_reserved key ≡ true → is_free_key key earlier ≡ false
not_free_reserved earlier key h = ap (λ (b : Bool). is_key key && not b && not (has_key key earlier)) h ∙ off (is_key key) (not (has_key key earlier))
  where
    off : (x y : Bool) → (x && false && y) ≡ false
    off true y = refl
    off false y = refl

pub not_free_taken : (earlier : List (List ℕ × List ℕ)) (key : List ℕ) → has_key key earlier ≡ true → is_free_key key earlier ≡ false
not_free_taken earlier key h = ap (λ (b : Bool). is_key key && not (is_reserved key) && not b) h ∙ off (is_key key && not (is_reserved key))
  where
    off : (x : Bool) → (x && false) ≡ false
    off true = refl
    off false = refl

empty_is : {X : Type 0} (xs : List X) → length xs ≡ 0 → xs ≡ []
empty_is [] h = refl
empty_is (x ∷ xs) h = absurd (omega arith)

-- 64 digits and nothing behind them are an HMAC
pub mac_whole : (text rest : List ℕ) (n : ℕ) → Run is_upper_hex 64 text n → 64 ≤ n → rest ≡ drop n text → length rest ≡ 0 → MacEnd text
mac_whole text rest n r full e none =
    let few = r.few in
    let len : length (take n text) ≡ 64 = length-take-le n text r.within ∙ (omega arith) in
    let all : take n text ≡ text = sym (append-nil (take n text)) ∙ ap (λ (l : List ℕ). take n text ++ l) (sym (empty_is (drop n text) (ap length (sym e) ∙ none))) ∙ take-append-drop n text in
    subst MacEnd all (digits_mac (take n text) r.all len)

-- the bytes that its digits decode to
pub decoded : (text : List ℕ) → (m : MacEnd text) → decode_sized text 32 ≡ Ok m.mac
decoded text m =
    let len : length text ≡ 64 = ap length m.is ∙ length-encode_with upper_digits m.mac ∙ (let k = m.is_mac.long in omega arith) in
    let pairs : decode_pairs 0 text ≡ Ok m.mac = ap (decode_pairs 0) m.is ∙ decode_pairs-encode_with upper_digits IsDigits-upper_digits 0 m.mac m.is_mac.bytes in
    rw len pairs
