-- What a refused line of `guard` is answered: `refused`, the completion code or the error of a command, and the number that tells the cause.
use Rattle.std.specs.Prelude.{ℕ, List, [], ◌++◌, codes, decimal, Some, None}
use Rattle.std.specs.declared.option.Option.{Option}
use Rattle.std.specs.Option.{option_and_then, option_map, option_map_or}
use Rattle.serde_json.specs.Find.{as_str}
use Rattle.xfs_json.specs.Members.{member_of}
use Rattle.xfs_envelope.specs.Codes.{code_text}
use Rattle.xfs_guard.specs.declared.deny.Deny.TheVariants.{NoNonce, WrongNonce, OtherBound, OverBudget}
use Rattle.xfs_dispenser.specs.Answers.{CashAnswer, answer_of}
use Rattle.xfs_dispenser.specs.declared.refusal.Refusal.{Refusal}
use Rattle.xfs_dispenser.specs.declared.refusal.Refusal.TheVariants.{Deny as Denied}

-- the word for an answer: the error that its payload tells, where it tells one, or else its completion code
abbrev pub answer_word : CashAnswer → List ℕ
answer_word a = option_map_or (λ error. error) (option_and_then as_str (member_of (codes "errorCode") a.payload)) (code_text a.code)

-- the number that tells the cause, with its name
abbrev pub refusal_number : Refusal → Option (List ℕ × ℕ)
refusal_number (Denied (NoNonce since)) = Some (codes "record", since)
refusal_number (Denied (WrongNonce since)) = Some (codes "record", since)
refusal_number (Denied (OtherBound since)) = Some (codes "bound", since)
refusal_number (Denied (OverBudget currency left)) = Some (codes "left", left.0)
refusal_number r = None

-- a number and its name, each behind a space
abbrev pub number_text : Option (List ℕ × ℕ) → List ℕ
number_text None = []
number_text (Some n) = codes " " ++ n.0 ++ codes " " ++ decimal n.1

-- the answer to a refused line, by what the dispenser answers the refusal; want of memory has none
abbrev pub refusal_text : Refusal → Option (List ℕ)
refusal_text r = option_map (λ answer. codes "refused " ++ answer_word answer ++ number_text (refusal_number r)) (answer_of r)
