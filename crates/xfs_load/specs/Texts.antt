-- The texts of what the client of `load` asks: commands of the dispenser, by their names, with a payload each.
use Rattle.std.specs.Prelude.{◌≡◌, ◌*◌, ◌++◌, ◌∷◌, [], ℕ, List, codes, decimal, None, Some, option_and_then}
use Rattle.std.specs.declared.option.Option.{Option}
use Rattle.xfs_envelope.specs.Fields.{passing}
use Rattle.xfs_token.specs.Amounts.{IsMade}
use Rattle.xfs_token.specs.Token.{is_nonce}
use Rattle.xfs_load.specs.declared.ask.Ask.{Ask}
use Rattle.xfs_load.specs.declared.ask.Ask.TheVariants.{Nonce, Dispense, Present, StartExchange, Refill, EndExchange}

-- the name of an ask's command
abbrev pub ask_name : Ask → List ℕ
ask_name Nonce = codes "Common.GetCommandNonce"
ask_name (Dispense amount) = codes "CashDispenser.Dispense"
ask_name Present = codes "CashDispenser.Present"
ask_name StartExchange = codes "Storage.StartExchange"
ask_name Refill = codes "Storage.SetStorage"
ask_name EndExchange = codes "Storage.EndExchange"

-- the text of a command of this name and request id, up to its payload
abbrev pub headed_text : List ℕ → ℕ → List ℕ
headed_text name id = codes "{\"header\":{\"name\":\"" ++ name ++ codes "\",\"requestId\":" ++ decimal id ++ codes ",\"type\":\"command\"},\"payload\":"

-- the text of a command of this name and request id, with this payload
abbrev pub command_text : List ℕ → ℕ → List ℕ → List ℕ
command_text name id payload = headed_text name id ++ payload ++ codes "}"

-- the token of a Dispense, where it has one
abbrev pub token_member : Option (List ℕ) → List ℕ
token_member None = []
token_member (Some token) = codes ",\"token\":\"" ++ token ++ codes "\""

-- an amount of whole EUR, in as few notes as can be
abbrev pub dispense_payload : ℕ → Option (List ℕ) → List ℕ
dispense_payload amount token = codes "{\"denomination\":{\"currencies\":{\"EUR\":" ++ decimal amount ++ codes "}},\"mix\":\"minimum\"" ++ token_member token ++ codes "}"

-- four notes more in unit1, six in unit2 and four in unit3
abbrev pub refill_payload : List ℕ
refill_payload = codes "{\"storage\":{\"unit1\":{\"added\":4},\"unit2\":{\"added\":6},\"unit3\":{\"added\":4}}}"

-- the text of an ask with this request id; a Dispense has this token, where there is one
abbrev pub text_of : Ask → ℕ → Option (List ℕ) → List ℕ
text_of Nonce id token = command_text (codes "Common.GetCommandNonce") id (codes "{}")
text_of (Dispense amount) id token = command_text (codes "CashDispenser.Dispense") id (dispense_payload amount token)
text_of Present id token = command_text (codes "CashDispenser.Present") id (codes "{}")
text_of StartExchange id token = command_text (codes "Storage.StartExchange") id (codes "{}")
text_of Refill id token = command_text (codes "Storage.SetStorage") id refill_payload
text_of EndExchange id token = command_text (codes "Storage.EndExchange") id (codes "{}")

-- a genuine token under the key for the nonce and the amount, where there is a nonce
pub record IsToken (key nonce : List ℕ) (amount : ℕ) (token : Option (List ℕ)) : Type 0 where
  pub bytes : List ℕ
  pub made : IsMade key nonce ((codes "EUR", 1000 * amount) ∷ []) bytes
  pub is : token ≡ Some bytes

abbrev pub IsTokenFor : List ℕ → Option (List ℕ) → ℕ → Option (List ℕ) → Type 0
IsTokenFor key None amount token = token ≡ None
IsTokenFor key (Some nonce) amount token = IsToken key nonce amount token

-- the token that goes with an ask: a Dispense has one for what came back as the nonce, where that is one
abbrev pub GoesWith : List ℕ → Option (List ℕ) → Ask → Option (List ℕ) → Type 0
GoesWith key given (Dispense amount) token = IsTokenFor key (option_and_then (passing is_nonce) given) amount token
GoesWith key given ask token = token ≡ None

-- the text of an ask by a client with this key and nonce
pub record IsText (key : List ℕ) (nonce : Option (List ℕ)) (ask : Ask) (id : ℕ) (text : List ℕ) : Type 0 where
  pub token : Option (List ℕ)
  pub goes_with : GoesWith key nonce ask token
  pub is : text ≡ text_of ask id token
