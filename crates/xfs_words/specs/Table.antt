-- The table of commands as `clap` reads it, and what it finds in words.
use Rattle.std.specs.Prelude.{◌∷◌, ◌==◌, ◌≡◌, ◌⊎◌, ℕ, Bool, List, [], Result, MatchResult, Ok, Some, codes, String, string_bytes, true, false, not}
use Rattle.std.specs.List.{list_all}
use Rattle.std.specs.declared.alloc.Global.{Global}
use Rattle.clap.specs.Words.{App, Row, Rule, Shape, Text, first_of, new_rule, one_of, shape_of}
use Rattle.clap.specs.Simple.{new_shape}
use Rattle.clap.specs.declared.builder.command.Command.{Command as Clap}
use Rattle.clap.specs.declared.builder.command.Command.TheViews.{out-Command}
use Rattle.clap.specs.declared.builder.action.ArgAction.TheVariants.{Set}
use Rattle.clap.specs.declared.builder.value_parser.ValueParser.{ValueParser}
use Rattle.clap.specs.declared.builder.value_parser.ValueParser.TheVariants.{Unsigned}
use Rattle.xfs_base.specs.Values.{IsCurrency}
use Rattle.xfs_words.specs.Words.{IsNumber}
use Rattle.xfs_words.specs.declared.command.Command.{Command}
use Rattle.xfs_words.specs.declared.command.Command.TheVariants.{Guard, Token, Replay, Load, Serve, Client, Host, Audit, Fleet}
use Rattle.xfs_words.specs.declared.command.WordsFault.{WordsFault}
use Rattle.xfs_words.specs.declared.command.WordsFault.TheVariants.{Usage}

-- ---- the table

-- a needed number that the parser takes
abbrev pub number_rule_of : ValueParser → Rule
number_rule_of parser = record (new_rule (codes "number")) { action = Some Set; required = true; parser = Some parser }

-- a needed number from 1 to `most`
abbrev pub number_rule : ℕ → Rule
number_rule most = number_rule_of (Unsigned 1 most)

-- a needed text
abbrev pub currency_rule : Rule
currency_rule = record (new_rule (codes "currency")) { action = Some Set; required = true }

-- a command with these arguments
abbrev pub leaf : Text → List Rule → Shape
leaf name rules = record (new_shape name) { rules = rules }

-- the command may be added to another, and is then this one
pub record IsSubcommand (name : Text) (rules : List Rule) (command : Clap) : Type 0 where
  pub shape : shape_of command ≡ leaf name rules
  pub local : (out-Command command).has_globals ≡ false

abbrev pub commands : List Shape
commands = leaf (codes "guard") []
    ∷ leaf (codes "token") []
    ∷ leaf (codes "replay") []
    ∷ leaf (codes "load") (number_rule 10000 ∷ [])
    ∷ leaf (codes "serve") (number_rule 1000000 ∷ [])
    ∷ leaf (codes "client") (currency_rule ∷ number_rule 1000000 ∷ [])
    ∷ leaf (codes "host") []
    ∷ leaf (codes "audit") []
    ∷ leaf (codes "fleet") []
    ∷ []

-- one command, whose subcommands these are; it knows no words for help or for the version
abbrev pub table : App
table = record {
  top = record (new_shape (codes "xfs")) {
    is_leaf = false;
    no_binary_name = true;
    disable_help_flag = true;
    disable_help_subcommand = true;
    disable_version_flag = true;
    subcommand_required = true;
  };
  subs = commands;
}

-- ---- what the program looks at itself

-- the text begins with a hyphen
abbrev pub begins_with_hyphen : Text → Bool
begins_with_hyphen [] = false
begins_with_hyphen (b ∷ bs) = b == 45

-- no word begins with a hyphen
abbrev pub is_plain : List (String Global) → Bool
is_plain words = list_all (λ word. not (begins_with_hyphen (string_bytes word))) words

-- the word is the name of a command
abbrev pub IsName : Text → Type 0
IsName word = (word ≡ codes "guard") ⊎ ((word ≡ codes "token") ⊎ ((word ≡ codes "replay")
    ⊎ ((word ≡ codes "load") ⊎ ((word ≡ codes "serve") ⊎ ((word ≡ codes "client") ⊎ ((word ≡ codes "host") ⊎ ((word ≡ codes "audit") ⊎ (word ≡ codes "fleet"))))))))

-- the first word is
abbrev pub HasName : List Text → Type 0
HasName [] = ⊥
HasName (word ∷ rest) = IsName word

-- ---- what is made of what `clap` found

-- under `number` a text was found that writes n, which is from 1 to `most`
pub record HasNumber (most : ℕ) (rows : List Row) (n : ℕ) : Type 0 where
  pub text : Text
  pub found : one_of (codes "number") rows ≡ Some text
  pub number : IsNumber most text n

-- a currency's letters make the command, and others are a fault of the words
abbrev pub IsWithdrawal : Text → ℕ → Result Command WordsFault → Type 0
IsWithdrawal letters amount result = MatchResult result (λ command. IsCurrency letters × (command ≡ Client letters amount))
    (λ fault. (fault ≡ Usage) × ¬ (IsCurrency letters))

-- the letters and the number that were found make a withdrawal, or a fault
abbrev pub MakesWithdrawal : List Row → Result Command WordsFault → Type 0
MakesWithdrawal rows result = (letters : Text) (n : ℕ) → first_of (codes "currency") rows ≡ Some letters → HasNumber 1000000 rows n → IsWithdrawal letters n result

-- the answer is the command of that name, with what was found for it
pub record IsMadeOf (name : Text) (rows : List Row) (result : Result Command WordsFault) : Type 0 where
  pub guard : name ≡ codes "guard" → result ≡ Ok Guard
  pub token : name ≡ codes "token" → result ≡ Ok Token
  pub replay : name ≡ codes "replay" → result ≡ Ok Replay
  pub load : name ≡ codes "load" → (n : ℕ) → HasNumber 10000 rows n → result ≡ Ok (Load n)
  pub serve : name ≡ codes "serve" → (n : ℕ) → HasNumber 1000000 rows n → result ≡ Ok (Serve n)
  pub client : name ≡ codes "client" → MakesWithdrawal rows result
  pub host : name ≡ codes "host" → result ≡ Ok Host
  pub audit : name ≡ codes "audit" → result ≡ Ok Audit
  pub fleet : name ≡ codes "fleet" → result ≡ Ok Fleet
