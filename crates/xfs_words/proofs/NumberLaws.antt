-- A number's text: what it may begin with, and what `clap` and `parse` make of it.
use Rattle.std.proofs.Common.{◌≡◌, ◌∙◌, ◌<◌, ◌≤◌, ◌^◌, ℕ, Bool, true, false, refl, sym, ap, arith, List, [], ◌∷◌, Option, Some, None, Result, Ok, Err}
use Rattle.std.specs.Str.Parse.{IsNumeral, ParsesUnsigned, digits_value, without_leading_plus}
use Rattle.std.proofs.lemmas.Bool.{ne_eqb}
use Rattle.std.proofs.lemmas.List.Elements.{All-head}
use Rattle.std.proofs.lemmas.Str.Parse.{digit_from_value}
use Rattle.clap.specs.Words.{ReadsOne}
use Rattle.clap.specs.Kinds.{value_kinds}
use Rattle.clap.specs.Values.{IsUnsignedIn}
use Rattle.clap.specs.ValueTests.{accepts}
use Rattle.clap.specs.declared.builder.value_parser.ValueParser.TheVariants.{Unsigned}
use Rattle.clap.proofs.ValueTestLemmas.{Accepts-accepts, accepts-Accepts}
use Rattle.xfs_base.specs.Values.{IsCurrency}
use Rattle.xfs_words.specs.Table.{begins_with_hyphen}
use Rattle.xfs_words.specs.Words.{IsNumber}

hyphen_is_no_digit : (bs : List ℕ) → IsNumeral 10 (without_leading_plus (45 ∷ bs)) → ⊥
hyphen_is_no_digit bs h = omega (arith, digit_from_value 45 h.1.0)

-- a number begins with no hyphen
pub number_plain : (most : ℕ) (text : List ℕ) (n : ℕ) → IsNumber most text n → begins_with_hyphen text ≡ false
number_plain most [] n h = refl
number_plain most (b ∷ bs) n h = ne_eqb b 45 (λ e. hyphen_is_no_digit bs (rw e at h.digits))

-- nor does a currency
pub letters_plain : (letters : List ℕ) → IsCurrency letters → begins_with_hyphen letters ≡ false
letters_plain [] h = refl
letters_plain (b ∷ bs) h =
    let first = All-head (λ k. (65 ≤ k) × (k ≤ 90)) b bs h.1 in
    ne_eqb b 45 (λ e. omega (arith, first.0, e))

-- `clap` takes a number
pub number_taken : (most : ℕ) (text : List ℕ) (n : ℕ) → most < 2 ^ 64 → IsNumber most text n → value_kinds false (Unsigned 1 most) text ≡ []
number_taken most text n fits h =
    let small : digits_value 10 (without_leading_plus text) < 2 ^ 64 = omega (arith, h.value, h.most_is, fits) in
    let least : 1 ≤ digits_value 10 (without_leading_plus text) = omega (arith, h.value, h.least) in
    let below : digits_value 10 (without_leading_plus text) ≤ most = omega (arith, h.value, h.most_is) in
    rw (Accepts-accepts false (Unsigned 1 most) text (h.digits, small, least, below)) refl

-- and nothing else
pub taken_number : (most : ℕ) (text : List ℕ) → value_kinds false (Unsigned 1 most) text ≡ [] → IsNumber most text (digits_value 10 (without_leading_plus text))
taken_number most text e = go (accepts false (Unsigned 1 most) text) refl
  where
    made : IsUnsignedIn 1 most text → IsNumber most text (digits_value 10 (without_leading_plus text))
    made h = record { digits = h.0; value = refl; least = h.2; most_is = h.3 }

    go : (b : Bool) → accepts false (Unsigned 1 most) text ≡ b → IsNumber most text (digits_value 10 (without_leading_plus text))
    go true is = made (accepts-Accepts false (Unsigned 1 most) text is)
    go false is =
        let none = rw is at e in
        cc

-- `parse` reads it
pub number_read : (E : Type 0) (gives : List ℕ → Result ℕ E → Type 0) (most : ℕ) (text : List ℕ) (n : ℕ) (r : Option ℕ) → ReadsOne gives text r
    → ((u : List ℕ) (x : Result ℕ E) → gives u x → ParsesUnsigned 64 10 u x) → most < 2 ^ 64 → IsNumber most text n → r ≡ Some n
number_read E gives most text n (Some v) read only fits h =
    let is = only text (Ok v) read in
    ap (λ k. Some k) (is.1 ∙ sym h.value)
number_read E gives most text n None read only fits h =
    let small : digits_value 10 (without_leading_plus text) < 2 ^ 64 = omega (arith, h.value, h.most_is, fits) in
    absurd (only text (Err read.0) read.1 (h.digits, small))
