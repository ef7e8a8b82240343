-- The table of commands: which words name which command. A number is decimal digits; leading zeros and one leading plus are allowed.
use Rattle.std.specs.Prelude.{◌≡◌, ◌≤◌, ◌∷◌, ℕ, List, [], String, codes, map, string_bytes}
use Rattle.std.specs.Str.Parse.{IsNumeral, digits_value, without_leading_plus}
use Rattle.std.specs.declared.alloc.Global.{Global}
use Rattle.xfs_base.specs.Values.{IsCurrency}
use Rattle.xfs_words.specs.declared.command.Command.{Command}
use Rattle.xfs_words.specs.declared.command.Command.TheVariants.{Guard, Token, Replay, Load, Serve, Client, Host, Audit, Fleet}

-- the words as their bytes
abbrev pub texts : List (String Global) → List (List ℕ)
texts words = map string_bytes words

-- the text writes the number n, which is from 1 to `most`
pub record IsNumber (most : ℕ) (text : List ℕ) (n : ℕ) : Type 0 where
  pub digits : IsNumeral 10 (without_leading_plus text)
  pub value : n ≡ digits_value 10 (without_leading_plus text)
  pub least : 1 ≤ n
  pub most_is : n ≤ most

-- the words are the name and a number
pub record IsNumbered (name : List ℕ) (most : ℕ) (words : List (List ℕ)) (n : ℕ) : Type 0 where
  pub text : List ℕ
  pub words_are : words ≡ name ∷ text ∷ []
  pub number : IsNumber most text n

-- the words are `client`, three letters A to Z and an amount
pub record NamesClient (words : List (List ℕ)) (currency : List ℕ) (amount : ℕ) : Type 0 where
  pub text : List ℕ
  pub words_are : words ≡ codes "client" ∷ currency ∷ text ∷ []
  pub letters : IsCurrency currency
  pub number : IsNumber 1000000 text amount

-- the words name the command
abbrev pub Names : Command → List (List ℕ) → Type 0
Names Guard words = words ≡ codes "guard" ∷ []
Names Token words = words ≡ codes "token" ∷ []
Names Replay words = words ≡ codes "replay" ∷ []
Names (Load rounds) words = IsNumbered (codes "load") 10000 words rounds
Names (Serve connections) words = IsNumbered (codes "serve") 1000000 words connections
Names (Client currency amount) words = NamesClient words currency amount
Names Host words = words ≡ codes "host" ∷ []
Names Audit words = words ≡ codes "audit" ∷ []
Names Fleet words = words ≡ codes "fleet" ∷ []
