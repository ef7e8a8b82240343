-- The fields of the lines of `replay`: numbers, clients, keys, and what a client says.
use Rattle.std.proofs.Common.{◌≡◌, ℕ, zero, suc, ◌<◌, ◌≤◌, ◌==◌, ◌^◌, true, false, List, [], ◌∷◌, ◌++◌, length, get_or, drop, All, None, IsUtf8, IsAscii, inl, inr, refl, ap, sym, subst, ◌∙◌, arith}
use Rattle.std.specs.Prelude.{codes, decimal, MatchOption, nat_lt, slice_index_or}
use Rattle.std.specs.Borrow.{Bor}
use Rattle.std.specs.List.{join_with_byte, list_all}
use Rattle.std.specs.declared.option.Option.{Option}
use Rattle.std.proofs.lemmas.Bool.{and_parts, ltb-true, cases_eq, ne_eqb, true≢false}
use Rattle.std.proofs.lemmas.Fmt.{IsAscii-decimal, decimal_injective}
use Rattle.std.proofs.lemmas.List.Folds.{list_all_at}
use Rattle.std.proofs.lemmas.List.Splits.{slice_split_at, length-slice_split, join_with_byte-slice_split}
use Rattle.std.proofs.lemmas.Str.{IsUtf8-from_ascii}
use Rattle.xfs_mech.specs.Keys.{name_of}
use Rattle.xfs_mech.specs.declared.key.KeyName.{KeyName}
use Rattle.xfs_mech.specs.declared.key.KeyName.TheVariants.{Zero, One, Two, Three, Four, Five, Six, Seven, Eight, Nine, Enter, Cancel, Clear, Backspace}
use Rattle.xfs_token.specs.Token.{is_digit}
use Rattle.xfs_token.proofs.AmountText.{is_whole-decimal}
use Rattle.xfs_script.specs.Fields.{fields}
use Rattle.xfs_script.specs.ReplayLines.{IsClient, IsSay}

pub number_is_text : (n : ℕ) (text : List ℕ) → n < 2 ^ 64 → text ≡ decimal n → IsUtf8 text
number_is_text n text few is = (let P : List ℕ → Type 0 = λ t. IsUtf8 t in subst P (sym is) (IsUtf8-from_ascii (decimal n) (IsAscii-decimal n few)))

is_ascii_from : (bs : List ℕ) → list_all (λ b. nat_lt b 128) bs ≡ true → IsAscii bs
is_ascii_from [] e i = omega arith
is_ascii_from (b ∷ bs) e zero = ltb-true b 128 (and_parts (nat_lt b 128) (list_all (λ b. nat_lt b 128) bs) e).0
is_ascii_from (b ∷ bs) e (suc i) = is_ascii_from bs (and_parts (nat_lt b 128) (list_all (λ b. nat_lt b 128) bs) e).1 i

pub key_is_text : (key : KeyName) → IsUtf8 (name_of key)
key_is_text key = IsUtf8-from_ascii (name_of key) (is_ascii_from (name_of key) (each key))
  where
    each : (key : KeyName) → list_all (λ b. nat_lt b 128) (name_of key) ≡ true
    each Zero = refl
    each One = refl
    each Two = refl
    each Three = refl
    each Four = refl
    each Five = refl
    each Six = refl
    each Seven = refl
    each Eight = refl
    each Nine = refl
    each Enter = refl
    each Cancel = refl
    each Clear = refl
    each Backspace = refl

-- a field that is no text is no key's name
pub no_key : (text field : List ℕ) → text ≡ codes "key " ++ field → ¬ (IsUtf8 field) → (key : KeyName) → text ≡ codes "key " ++ name_of key → ⊥
no_key text field line other key is =
    let P : List ℕ → Type 0 = λ t. IsUtf8 t in
    let same : name_of key ≡ field = ap (drop 4) (sym is ∙ line) in
    other (subst P same (key_is_text key))

pub no_client_zero : (field : List ℕ) → field ≡ decimal 0 → (client : ℕ) → IsClient field client → ⊥
no_client_zero field is client k =
    let low = k.low in
    let high = k.high in
    omega (arith, decimal_injective 0 client (omega arith) (omega arith) (sym is ∙ k.digits))

is_spaceless : (n : ℕ) → n ≤ 999 → All (λ b. (b == 32) ≡ false) (decimal n)
is_spaceless n few k d within = elim (cases_eq (slice_index_or (decimal n) k d) 32) [
  | inl same ↦ absurd (true≢false (sym (and_parts _ _ (is_whole-decimal n (omega arith))).1 ∙ list_all_at is_digit (decimal n) k d within (ap is_digit same)))
  | inr other ↦ ne_eqb (slice_index_or (decimal n) k d) 32 other
]

-- the first field behind `say ` is the client's, and a message follows it
said_fields : (text field : List ℕ) → text ≡ codes "say " ++ field → (client : ℕ) (message : List ℕ) → IsSay text client message → fields field ≡ decimal client ∷ fields message
said_fields text field line client message k =
    let who = k.who in
    let same : field ≡ decimal client ++ 32 ∷ message = ap (drop 4) (sym line ∙ k.line) ∙ ap (λ d. d ++ 32 ∷ message) who.digits in
    ap fields same ∙ slice_split_at (λ b. b == 32) (decimal client) 32 message (is_spaceless client who.high) refl

pub no_message : (text field first : List ℕ) (behind : Option (Bor (List ℕ))) → text ≡ codes "say " ++ field → behind ≡ None → MatchOption behind (fields field ≡ first ∷ []) (λ b. fields field ≡ first ∷ fields b.now) → (client : ℕ) (message : List ℕ) → IsSay text client message → ⊥
no_message text field first behind line none parts client message k =
    let P : Option (Bor (List ℕ)) → Type 0 = λ o. MatchOption o (fields field ≡ first ∷ []) (λ b. fields field ≡ first ∷ fields b.now) in
    let only : fields field ≡ first ∷ [] = subst P none parts in
    omega (arith, ap length only, ap length (said_fields text field line client message k), length-slice_split (λ c. c == 32) message)

pub no_speaker : (text field first behind : List ℕ) → text ≡ codes "say " ++ field → fields field ≡ first ∷ fields behind → ((client : ℕ) → IsClient first client → ⊥) → (client : ℕ) (message : List ℕ) → IsSay text client message → ⊥
no_speaker text field first behind line parts none client message k =
    let who = k.who in
    let same : first ≡ decimal client = ap (λ l. get_or l 0 first) (sym parts ∙ said_fields text field line client message k) in
    none client (record { digits = same; low = who.low; high = who.high })

joined_more : (c : ℕ) (x : List ℕ) (ys : List (List ℕ)) → 0 < length ys → join_with_byte c (x ∷ ys) ≡ x ++ c ∷ join_with_byte c ys
joined_more c x [] none = absurd (omega arith)
joined_more c x (y ∷ ys) some = refl

pub say_is : (text field first behind : List ℕ) (client : ℕ) → text ≡ codes "say " ++ field → fields field ≡ first ∷ fields behind → IsClient first client → IsSay text client behind
say_is text field first behind client line parts who = record {
  field = first;
  line = line ∙ ap (λ f. codes "say " ++ f) same;
  who = who;
}
  where
    same : field ≡ first ++ 32 ∷ behind
    same = sym (join_with_byte-slice_split 32 field) ∙ (ap (join_with_byte 32) parts ∙ (joined_more 32 first (fields behind) (omega (arith, length-slice_split (λ c. c == 32) behind)) ∙ ap (λ t. first ++ 32 ∷ t) (join_with_byte-slice_split 32 behind)))
