-- What `clap` says of the words of each command: which it takes, and what it finds in them.
use Rattle.std.proofs.Common.{◌≡◌, ◌∙◌, ◌<◌, ◌^◌, ℕ, Bool, true, false, not, refl, sym, arith, List, [], ◌∷◌, Some, codes}
use Rattle.std.specs.List.{list_all}
use Rattle.std.specs.Str.Parse.{digits_value, without_leading_plus}
use Rattle.clap.specs.Walk.{Rule, Text, nothing_held, rows_after}
use Rattle.clap.specs.Simple.{subcommand_of}
use Rattle.clap.specs.Kinds.{Kinds, or_else}
use Rattle.clap.specs.Faults.{fault_of, level_fault}
use Rattle.clap.proofs.OnLiterals.{clap_on_literals}
use Rattle.clap.proofs.WalkLemmas.{both}
use Rattle.clap.proofs.SimpleLemmas.{is_false}
use Rattle.xfs_words.proofs.ClapLaws.{sub, sub_fault, sub_rows}
use Rattle.xfs_words.proofs.LeafLaws.{bare_alone, bare_more, both_none, client_amount, client_missing, client_more, client_short, client_whole, no_more, number_alone, number_missing, number_more, number_row}
use Rattle.xfs_words.proofs.NumberLaws.{number_taken, taken_number}
use Rattle.xfs_words.specs.Table.{HasNumber, begins_with_hyphen, currency_rule, number_rule, table}
use Rattle.xfs_words.specs.Words.{IsNumber}

-- the words begin with no hyphen
abbrev pub all_plain : List Text → Bool
all_plain = list_all (λ word. not (begins_with_hyphen word))

first_plain : (x : Text) (rest : List Text) → all_plain (x ∷ rest) ≡ true → begins_with_hyphen x ≡ false
first_plain x rest e = is_false _ (both _ _ e).0

rest_plain : (x : Text) (rest : List Text) → all_plain (x ∷ rest) ≡ true → all_plain rest ≡ true
rest_plain x rest e = (both _ _ e).1

-- the kinds of the words behind the name
abbrev behind : Text → List Rule → List Text → Kinds
behind name rules rest = or_else (level_fault (sub name rules) [] nothing_held rest false []) []

-- ---- the words behind the name, where `clap` takes them

bare_rest : (name : Text) (rest : List Text) → all_plain rest ≡ true → behind name [] rest ≡ [] → rest ≡ []
bare_rest name [] plain e = refl
bare_rest name (x ∷ rest) plain e = absurd (bare_more name x rest (first_plain x rest plain) (both_none _ _ e).0)

-- one word is left, and is a number
pub record IsOneNumber (most : ℕ) (rest : List Text) : Type 0 where
  pub text : Text
  pub words_are : rest ≡ text ∷ []
  pub plain : begins_with_hyphen text ≡ false
  pub number : IsNumber most text (digits_value 10 (without_leading_plus text))

number_rest : (name : Text) (most : ℕ) (rest : List Text) → all_plain rest ≡ true → behind name (number_rule most ∷ []) rest ≡ [] → IsOneNumber most rest
number_rest name most [] plain e = absurd (number_missing name most (both_none _ _ e).0)
number_rest name most (x ∷ []) plain e =
    let first = first_plain x [] plain in
    record { text = x; words_are = refl; plain = first; number = taken_number most x (sym (number_alone name most x first) ∙ (both_none _ _ e).0) }
number_rest name most (x ∷ y ∷ rest) plain e =
    let second = first_plain y rest (rest_plain x (y ∷ rest) plain) in
    absurd (number_more name most x y rest (first_plain x (y ∷ rest) plain) second (both_none _ _ e).0)

-- two words are left, of which the second is a number
pub record IsTextAndNumber (rest : List Text) : Type 0 where
  pub letters : Text
  pub text : Text
  pub words_are : rest ≡ letters ∷ text ∷ []
  pub plain : begins_with_hyphen letters ≡ false
  pub plain_text : begins_with_hyphen text ≡ false
  pub number : IsNumber 1000000 text (digits_value 10 (without_leading_plus text))

client_rest : (rest : List Text) → all_plain rest ≡ true → behind (codes "client") (currency_rule ∷ number_rule 1000000 ∷ []) rest ≡ [] → IsTextAndNumber rest
client_rest [] plain e = absurd (client_missing (both_none _ _ e).0)
client_rest (x ∷ []) plain e = absurd (client_short x (first_plain x [] plain) (both_none _ _ e).0)
client_rest (x ∷ y ∷ []) plain e =
    let first = first_plain x (y ∷ []) plain in
    let second = first_plain y [] (rest_plain x (y ∷ []) plain) in
    record {
      letters = x;
      text = y;
      words_are = refl;
      plain = first;
      plain_text = second;
      number = taken_number 1000000 y (sym (client_whole x y first second) ∙ (both_none _ _ e).0);
    }
client_rest (x ∷ y ∷ z ∷ rest) plain e =
    let tail = rest_plain x (y ∷ z ∷ rest) plain in
    let second = first_plain y (z ∷ rest) tail in
    let third = first_plain z rest (rest_plain y (z ∷ rest) tail) in
    absurd (client_more x y z rest (first_plain x (y ∷ z ∷ rest) plain) second third (both_none _ _ e).0)

-- ---- each command

abbrev FaultIs : Text → List Rule → Type 0
FaultIs name rules = (rest : List Text) → fault_of table (name ∷ rest) ≡ behind name rules rest

abbrev RowsAre : Text → List Rule → Type 0
RowsAre name rules = (rest : List Text) → subcommand_of table (name ∷ rest) ≡ Some (name, rows_after (sub name rules).rules [] rest)

abbrev Finds : Text → List Rule → Type 0
Finds name rules = FaultIs name rules × RowsAre name rules

pub guard_found : Finds (codes "guard") []
unfolding clap_on_literals
guard_found = (sub_fault (codes "guard") [] refl refl refl, sub_rows (codes "guard") [] refl refl refl)

pub token_found : Finds (codes "token") []
unfolding clap_on_literals
token_found = (sub_fault (codes "token") [] refl refl refl, sub_rows (codes "token") [] refl refl refl)

pub replay_found : Finds (codes "replay") []
unfolding clap_on_literals
replay_found = (sub_fault (codes "replay") [] refl refl refl, sub_rows (codes "replay") [] refl refl refl)

pub load_found : Finds (codes "load") (number_rule 10000 ∷ [])
unfolding clap_on_literals
load_found = (sub_fault (codes "load") (number_rule 10000 ∷ []) refl refl refl, sub_rows (codes "load") (number_rule 10000 ∷ []) refl refl refl)

pub serve_found : Finds (codes "serve") (number_rule 1000000 ∷ [])
unfolding clap_on_literals
serve_found = (sub_fault (codes "serve") (number_rule 1000000 ∷ []) refl refl refl, sub_rows (codes "serve") (number_rule 1000000 ∷ []) refl refl refl)

pub client_found : Finds (codes "client") (currency_rule ∷ number_rule 1000000 ∷ [])
unfolding clap_on_literals
client_found = (
  sub_fault (codes "client") (currency_rule ∷ number_rule 1000000 ∷ []) refl refl refl,
  sub_rows (codes "client") (currency_rule ∷ number_rule 1000000 ∷ []) refl refl refl,
)

pub host_found : Finds (codes "host") []
unfolding clap_on_literals
host_found = (sub_fault (codes "host") [] refl refl refl, sub_rows (codes "host") [] refl refl refl)

pub audit_found : Finds (codes "audit") []
unfolding clap_on_literals
audit_found = (sub_fault (codes "audit") [] refl refl refl, sub_rows (codes "audit") [] refl refl refl)

pub fleet_found : Finds (codes "fleet") []
unfolding clap_on_literals
fleet_found = (sub_fault (codes "fleet") [] refl refl refl, sub_rows (codes "fleet") [] refl refl refl)

-- ---- which words are taken, and what is found in them

-- of a command without arguments
module _ (name : Text) (finds : Finds name []) where
  pub bare_taken : fault_of table (name ∷ []) ≡ []
  bare_taken = finds.0 [] ∙ no_more _ ∙ bare_alone name

  pub taken_bare : (rest : List Text) → all_plain rest ≡ true → fault_of table (name ∷ rest) ≡ [] → rest ≡ []
  taken_bare rest plain e = bare_rest name rest plain (sym (finds.0 rest) ∙ e)

-- of a command with a number
module _ (name : Text) (most : ℕ) (finds : Finds name (number_rule most ∷ [])) where
  pub numbered_taken : (text : Text) → begins_with_hyphen text ≡ false → (n : ℕ) → most < 2 ^ 64 → IsNumber most text n → fault_of table (name ∷ text ∷ []) ≡ []
  numbered_taken text plain n fits h = finds.0 (text ∷ []) ∙ no_more _ ∙ number_alone name most text plain ∙ number_taken most text n fits h

  pub taken_numbered : (rest : List Text) → all_plain rest ≡ true → fault_of table (name ∷ rest) ≡ [] → IsOneNumber most rest
  taken_numbered rest plain e = number_rest name most rest plain (sym (finds.0 rest) ∙ e)

-- of `client`
pub client_taken : (letters text : Text) → begins_with_hyphen letters ≡ false → begins_with_hyphen text ≡ false → (n : ℕ) → IsNumber 1000000 text n
    → fault_of table (codes "client" ∷ letters ∷ text ∷ []) ≡ []
client_taken letters text plain plain_text n h =
    client_found.0 (letters ∷ text ∷ []) ∙ no_more _ ∙ client_whole letters text plain plain_text ∙ number_taken 1000000 text n (omega arith) h

pub taken_client : (rest : List Text) → all_plain rest ≡ true → fault_of table (codes "client" ∷ rest) ≡ [] → IsTextAndNumber rest
taken_client rest plain e = client_rest rest plain (sym (client_found.0 rest) ∙ e)

-- the rows of a number
pub number_is_found : (name : Text) (most : ℕ) (text : Text) → begins_with_hyphen text ≡ false → IsNumber most text (digits_value 10 (without_leading_plus text))
    → HasNumber most (rows_after (sub name (number_rule most ∷ [])).rules [] (text ∷ [])) (digits_value 10 (without_leading_plus text))
number_is_found name most text plain h = record { text = text; found = number_row name most text plain; number = h }

pub amount_is_found : (letters text : Text) → begins_with_hyphen letters ≡ false → begins_with_hyphen text ≡ false → IsNumber 1000000 text (digits_value 10 (without_leading_plus text))
    → HasNumber 1000000 (rows_after (sub (codes "client") (currency_rule ∷ number_rule 1000000 ∷ [])).rules [] (letters ∷ text ∷ [])) (digits_value 10 (without_leading_plus text))
amount_is_found letters text plain plain_text h = record { text = text; found = client_amount letters text plain plain_text; number = h }
