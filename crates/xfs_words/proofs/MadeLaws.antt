-- What is made of what `clap` found.
use Rattle.std.proofs.Common.{◌≡◌, ◌∙◌, ◌<◌, ◌^◌, ℕ, refl, sym, ap, ap₂, subst, arith, List, Option, Some, None, Result, Ok, Err, codes, slice_index}
use Rattle.clap.specs.Walk.{Row, Text, first_of}
use Rattle.xfs_base.specs.Values.{IsCurrency}
use Rattle.xfs_words.specs.Table.{HasNumber, IsMadeOf, MakesWithdrawal}
use Rattle.xfs_words.specs.declared.command.Command.{Command}
use Rattle.xfs_words.specs.declared.command.Command.TheVariants.{Load, Serve, Client}
use Rattle.xfs_words.specs.declared.command.WordsFault.{WordsFault}
use Rattle.xfs_words.specs.declared.command.WordsFault.TheVariants.{Usage}

-- the answer is the number that was found
abbrev pub GivesNumber : List Row → Result ℕ WordsFault → Type 0
GivesNumber rows result = (most n : ℕ) → most < 2 ^ 64 → HasNumber most rows n → result ≡ Ok n

same_number : (rows : List Row) (result : Result ℕ WordsFault) (k most n : ℕ) → GivesNumber rows result → result ≡ Ok k → most < 2 ^ 64 → HasNumber most rows n → k ≡ n
same_number rows result k most n gives is fits has =
    let found : Ok k ≡ Ok n = sym is ∙ gives most n fits has in
    cc

pub load_made : (name : Text) (rows : List Row) (result : Result ℕ WordsFault) (k : ℕ) → name ≡ codes "load" → GivesNumber rows result → result ≡ Ok k
    → IsMadeOf name rows (Ok (Load k))
load_made name rows result k is gives found = record {
  guard = λ e. let clash : 108 ≡ 103 = ap (λ (t : Text). slice_index t 0) (sym is ∙ e) in absurd (omega arith);
  token = λ e. let clash : 108 ≡ 116 = ap (λ (t : Text). slice_index t 0) (sym is ∙ e) in absurd (omega arith);
  replay = λ e. let clash : 108 ≡ 114 = ap (λ (t : Text). slice_index t 0) (sym is ∙ e) in absurd (omega arith);
  load = λ e n has. ap (λ i. Ok (Load i)) (same_number rows result k 10000 n gives found (omega arith) has);
  serve = λ e. let clash : 108 ≡ 115 = ap (λ (t : Text). slice_index t 0) (sym is ∙ e) in absurd (omega arith);
  client = λ e. let clash : 108 ≡ 99 = ap (λ (t : Text). slice_index t 0) (sym is ∙ e) in absurd (omega arith);
  host = λ e. let clash : 108 ≡ 104 = ap (λ (t : Text). slice_index t 0) (sym is ∙ e) in absurd (omega arith);
  audit = λ e. let clash : 108 ≡ 97 = ap (λ (t : Text). slice_index t 0) (sym is ∙ e) in absurd (omega arith);
  fleet = λ e. let clash : 108 ≡ 102 = ap (λ (t : Text). slice_index t 0) (sym is ∙ e) in absurd (omega arith);
}

pub serve_made : (name : Text) (rows : List Row) (result : Result ℕ WordsFault) (k : ℕ) → name ≡ codes "serve" → GivesNumber rows result → result ≡ Ok k
    → IsMadeOf name rows (Ok (Serve k))
serve_made name rows result k is gives found = record {
  guard = λ e. let clash : 115 ≡ 103 = ap (λ (t : Text). slice_index t 0) (sym is ∙ e) in absurd (omega arith);
  token = λ e. let clash : 115 ≡ 116 = ap (λ (t : Text). slice_index t 0) (sym is ∙ e) in absurd (omega arith);
  replay = λ e. let clash : 115 ≡ 114 = ap (λ (t : Text). slice_index t 0) (sym is ∙ e) in absurd (omega arith);
  load = λ e. let clash : 115 ≡ 108 = ap (λ (t : Text). slice_index t 0) (sym is ∙ e) in absurd (omega arith);
  serve = λ e n has. ap (λ i. Ok (Serve i)) (same_number rows result k 1000000 n gives found (omega arith) has);
  client = λ e. let clash : 115 ≡ 99 = ap (λ (t : Text). slice_index t 0) (sym is ∙ e) in absurd (omega arith);
  host = λ e. let clash : 115 ≡ 104 = ap (λ (t : Text). slice_index t 0) (sym is ∙ e) in absurd (omega arith);
  audit = λ e. let clash : 115 ≡ 97 = ap (λ (t : Text). slice_index t 0) (sym is ∙ e) in absurd (omega arith);
  fleet = λ e. let clash : 115 ≡ 102 = ap (λ (t : Text). slice_index t 0) (sym is ∙ e) in absurd (omega arith);
}

-- ---- the command `client`

pub no_letters : (rows : List Row) → None ≡ first_of (codes "currency") rows → MakesWithdrawal rows (Err Usage)
no_letters rows none letters n found has =
    let clash : ◌≡◌ {A = Option Text} None (Some letters) = none ∙ found in
    cc

same_letters : (rows : List Row) (text letters : Text) → Some text ≡ first_of (codes "currency") rows → first_of (codes "currency") rows ≡ Some letters → text ≡ letters
same_letters rows text letters is found =
    let both : ◌≡◌ {A = Option Text} (Some text) (Some letters) = is ∙ found in
    cc

pub other_letters : (rows : List Row) (text : Text) → Some text ≡ first_of (codes "currency") rows → ¬ (IsCurrency text) → MakesWithdrawal rows (Err Usage)
other_letters rows text is other letters n found has = (refl, λ valid. other (subst IsCurrency (sym (same_letters rows text letters is found)) valid))

pub withdrawal_made : (rows : List Row) (text currency : Text) (result : Result ℕ WordsFault) (k : ℕ) → Some text ≡ first_of (codes "currency") rows → currency ≡ text → IsCurrency text
    → GivesNumber rows result → result ≡ Ok k → MakesWithdrawal rows (Ok (Client currency k))
withdrawal_made rows text currency result k is same valid gives got letters n found has =
    let letters_are = same_letters rows text letters is found in
    (subst IsCurrency letters_are valid, ap₂ (λ c i. Client c i) (same ∙ letters_are) (same_number rows result k 1000000 n gives got (omega arith) has))
