-- The answers of the command `token`, under the key that was handed in.
use Rattle.std.specs.Prelude.{◌≡◌, ◌↔◌, ℕ, ◌≤◌, ◌⊎◌, Bool, true, false, IsTrue, List, [], ◌∷◌, ◌++◌, length, map, codes, decimal, None, Some}
use Rattle.std.specs.declared.option.Option.{Option}
use Rattle.std.specs.List.{join_with_byte}
use Rattle.hex.specs.Hex.{encode_lower}
use Rattle.xfs_hmac.specs.Hmac.{hmac}
use Rattle.xfs_token.specs.Token.{Parts, Spells, Genuine}
use Rattle.xfs_token.specs.Fault.{IsFault}
use Rattle.xfs_token.specs.Amounts.{amounts_of, IsMade}
use Rattle.xfs_token.specs.declared.faults.TokenFault.{TokenFault}
use Rattle.xfs_token.specs.declared.faults.TokenFault.TheVariants.{TooLong, KeyNoValue, Format, Memory}
use Rattle.xfs_script.specs.Commands.{Command}
use Rattle.xfs_script.specs.TokenLines.{IsTokenLine}
use Rattle.xfs_script.specs.declared.token_line.TokenLine.{TokenLine}
use Rattle.xfs_script.specs.declared.token_line.TokenLine.TheVariants.{Skip, Read, Make, Mac}
use Rattle.xfs_guard.specs.declared.fail.BootFault.{BootFault}
use Rattle.xfs_script.specs.declared.feed.TheConstants.{LONGEST_LINE}

-- a currency and its thousandths
abbrev pub thousandths_text : List ℕ × ℕ → List ℕ
thousandths_text a = a.0 ++ codes ":" ++ decimal a.1

abbrev pub joined_amounts : List (List ℕ × ℕ) → List ℕ
joined_amounts amounts = join_with_byte 44 (map thousandths_text amounts)

-- the amounts of a token joined by commas, or that it has none
abbrev pub amounts_text : Option (List (List ℕ × ℕ)) → List ℕ
amounts_text None = codes "none"
amounts_text (Some amounts) = joined_amounts amounts

abbrev pub yes_or_no : Bool → List ℕ
yes_or_no true = codes "yes"
yes_or_no false = codes "no"

-- the answer to a token: its nonce, its amounts, and whether it is genuine
abbrev pub token_text : Parts → Bool → List ℕ
token_text token genuine = codes "ok nonce=" ++ token.nonce ++ codes " amounts=" ++ amounts_text (amounts_of token) ++ codes " genuine=" ++ yes_or_no genuine

-- the bytes spell a token, and the answer tells of it; whether it is genuine is asked under the key
pub record TellsToken (key bytes answer : List ℕ) : Type 0 where
  pub token : Parts
  pub spelled : Spells token bytes
  pub genuine : Bool
  pub is_genuine : IsTrue genuine ↔ Genuine key token bytes
  pub text : answer ≡ token_text token genuine

-- the answer to a fault; want of memory has none
abbrev pub IsFaultText : TokenFault → List ℕ → Type 0
IsFaultText TooLong answer = answer ≡ codes "fault TooLong"
IsFaultText (KeyNoValue at) answer = answer ≡ codes "fault KeyNoValue " ++ decimal at
IsFaultText (Format at) answer = answer ≡ codes "fault Format " ++ decimal at
IsFaultText Memory answer = ⊥

-- the bytes spell no token, and the answer tells why
pub record TellsFault (bytes answer : List ℕ) : Type 0 where
  pub fault : TokenFault
  pub is : IsFault bytes fault
  pub text : IsFaultText fault answer

-- the answer tells of the token that the bytes spell, or why they spell none
abbrev pub TellsRead : List ℕ → List ℕ → List ℕ → Type 0
TellsRead key bytes answer = TellsToken key bytes answer ⊎ TellsFault bytes answer

-- the answer is a genuine token under the key
pub record TellsMade (key nonce : List ℕ) (amounts : List (List ℕ × ℕ)) (answer : List ℕ) : Type 0 where
  pub token : List ℕ
  pub made : IsMade key nonce amounts token
  pub text : answer ≡ codes "token " ++ token

-- the answer to a verb
abbrev pub IsTokenAnswer : List ℕ → TokenLine → List ℕ → Type 0
IsTokenAnswer key Skip answer = ⊥
IsTokenAnswer key (Read bytes) answer = TellsRead key bytes answer
IsTokenAnswer key (Make nonce amounts) answer = TellsMade key nonce amounts answer
IsTokenAnswer key (Mac first second) answer = answer ≡ codes "mac " ++ encode_lower (hmac first second)

-- the lines that answer a verb: one, and none for a skipped line
abbrev pub AreTokenAnswer : List ℕ → TokenLine → List (List ℕ) → Type 0
AreTokenAnswer key verb [] = verb ≡ Skip
AreTokenAnswer key verb (answer ∷ []) = IsTokenAnswer key verb answer
AreTokenAnswer key verb (answer ∷ other ∷ more) = ⊥

-- a line of at most 70,000 bytes that writes a verb of `token`
pub record IsLineOfToken (text : List ℕ) : Type 0 where
  pub verb : TokenLine
  pub reads : IsTokenLine text verb
  pub short : length text ≤ LONGEST_LINE

-- a line of `token` and the lines that answer it; the key stays
pub record AnswersToken (key text : List ℕ) (output : List (List ℕ)) (next : List ℕ) : Type 0 where
  pub verb : TokenLine
  pub reads : IsTokenLine text verb
  pub short : length text ≤ LONGEST_LINE
  pub answer : AreTokenAnswer key verb output
  pub same : next ≡ key

-- the command `token` over its lines: want of memory leaves nothing of one, and it ends at none
abbrev pub token_lines : Command (List ℕ) BootFault
token_lines = record { IsLine = IsLineOfToken; Answers = AnswersToken; Leaves = λ key text end. end ≡ key; EndsAt = λ key text why end. ⊥ }

-- what is answered is a line
pub is-line : (key next text : List ℕ) (output : List (List ℕ)) → AnswersToken key text output next → IsLineOfToken text
is-line key next text output a = record { verb = a.verb; reads = a.reads; short = a.short }
