-- A command that is accepted asks what its service does on its line.
use Rattle.std.proofs.Common.{◌≡◌, true, ℕ, List, [], ◌∷◌, Option, None, Some, option_map, is_none, refl, subst, inl, inr}
use Rattle.std.specs.List.{list_all}
use Rattle.std.specs.Map.{lookup}
use Rattle.std.specs.Option.{option_or}
use Rattle.std.specs.Str.{bytes_eq}
use Rattle.std.proofs.lemmas.Bool.{and_parts, cases_Bool, false≢true}
use Rattle.std.proofs.lemmas.Slice.Eq.{bytes_eq-Decides}
use Rattle.serde_json.specs.Data.{Data}
use Rattle.xfs_base.specs.declared.moment.Service.{Service}
use Rattle.xfs_base.specs.declared.moment.Service.TheVariants.{Publisher, Card, Keys, Cash}
use Rattle.xfs_card.specs.Commands.{card_command}
use Rattle.xfs_card.specs.declared.command.CardCommand.{CardCommand}
use Rattle.xfs_common.specs.Commands.{nonce_command, nonce_commands}
use Rattle.xfs_common.specs.declared.command.CommonCommand.{CommonCommand}
use Rattle.xfs_common.specs.declared.command.CommonCommand.TheVariants.{GetCommandNonce, ClearCommandNonce}
use Rattle.xfs_dispenser.specs.Commands.{cash_command, cash_commands}
use Rattle.xfs_dispenser.specs.declared.command.CashCommand.{CashCommand}
use Rattle.xfs_keyboard.specs.Commands.{keys_command}
use Rattle.xfs_keyboard.specs.declared.command.KeysCommand.{KeysCommand}
use Rattle.xfs_keyboard.specs.declared.command.KeysCommand.TheVariants.{DataEntry}
use Rattle.xfs_queue.specs.declared.command.Line.TheVariants.{Nonce, Device}
use Rattle.xfs_model.specs.declared.known.Known.{Known}
use Rattle.xfs_model.specs.declared.known.Known.TheVariants as known
use Rattle.xfs_model.specs.Commands.{Asks, known_of, line_of}
use Rattle.xfs_model.specs.Sound.{MayAsk}
use Rattle.xfs_model.specs.State.{Ask, issue, clear, cash, card, entry, bad}

-- of which service a command is
abbrev IsOf : Known → Service → Type 0
IsOf (known.Nonce command) Cash = Unit {0}
IsOf (known.Card command) Card = Unit {0}
IsOf (known.Keys command) Keys = Unit {0}
IsOf (known.Cash command) Cash = Unit {0}
IsOf command service = ⊥

none-some : (command : Known) → None ≡ Some command → ⊥
none-some command e = cc

some-some : (a b : Known) → Some a ≡ Some b → a ≡ b
some-some a b e = cc

is_of : (service : Service) (name : List ℕ) (command : Known) → known_of service name ≡ Some command → IsOf command service
is_of Publisher name command e = absurd (none-some command e)
is_of Card name command e = go (card_command name) e
  where
    go : (o : Option CardCommand) → option_map known.Card o ≡ Some command → IsOf command Card
    go None e = absurd (none-some command e)
    go (Some a) e = subst (λ c. IsOf c Card) (some-some (known.Card a) command e) tt
is_of Keys name command e = go (keys_command name) e
  where
    go : (o : Option KeysCommand) → option_map known.Keys o ≡ Some command → IsOf command Keys
    go None e = absurd (none-some command e)
    go (Some a) e = subst (λ c. IsOf c Keys) (some-some (known.Keys a) command e) tt
is_of Cash name command e = go (nonce_command name) (cash_command name) e
  where
    go : (n : Option CommonCommand) (o : Option CashCommand) → option_or (option_map known.Nonce n) (option_map known.Cash o) ≡ Some command → IsOf command Cash
    go None None e = absurd (none-some command e)
    go None (Some a) e = subst (λ c. IsOf c Cash) (some-some (known.Cash a) command e) tt
    go (Some a) o e = subst (λ c. IsOf c Cash) (some-some (known.Nonce a) command e) tt

nonce_asks : (command : CommonCommand) (payload : Data) (ask : Ask) → Asks (known.Nonce command) payload ask → MayAsk Cash Nonce ask
nonce_asks GetCommandNonce payload issue asks = tt
nonce_asks GetCommandNonce payload clear asks = tt
nonce_asks GetCommandNonce payload (cash ask) asks = absurd asks
nonce_asks GetCommandNonce payload (card ask) asks = absurd asks
nonce_asks GetCommandNonce payload (entry ask) asks = absurd asks
nonce_asks GetCommandNonce payload bad asks = asks issue tt
nonce_asks ClearCommandNonce payload issue asks = tt
nonce_asks ClearCommandNonce payload clear asks = tt
nonce_asks ClearCommandNonce payload (cash ask) asks = absurd asks
nonce_asks ClearCommandNonce payload (card ask) asks = absurd asks
nonce_asks ClearCommandNonce payload (entry ask) asks = absurd asks
nonce_asks ClearCommandNonce payload bad asks = asks clear tt

card_asks : (command : CardCommand) (payload : Data) (ask : Ask) → Asks (known.Card command) payload ask → MayAsk Card Device ask
card_asks command payload issue asks = absurd asks
card_asks command payload clear asks = absurd asks
card_asks command payload (cash ask) asks = absurd asks
card_asks command payload (card ask) asks = tt
card_asks command payload (entry ask) asks = absurd asks
card_asks command payload bad asks = tt

keys_asks : (command : KeysCommand) (payload : Data) (ask : Ask) → Asks (known.Keys command) payload ask → MayAsk Keys Device ask
keys_asks DataEntry payload issue asks = absurd asks
keys_asks DataEntry payload clear asks = absurd asks
keys_asks DataEntry payload (cash ask) asks = absurd asks
keys_asks DataEntry payload (card ask) asks = absurd asks
keys_asks DataEntry payload (entry ask) asks = tt
keys_asks DataEntry payload bad asks = tt

cash_asks : (command : CashCommand) (payload : Data) (ask : Ask) → Asks (known.Cash command) payload ask → MayAsk Cash Device ask
cash_asks command payload issue asks = absurd asks
cash_asks command payload clear asks = absurd asks
cash_asks command payload (cash ask) asks = tt
cash_asks command payload (card ask) asks = absurd asks
cash_asks command payload (entry ask) asks = absurd asks
cash_asks command payload bad asks = tt

asks_on : (service : Service) (command : Known) (payload : Data) (ask : Ask) → IsOf command service → Asks command payload ask → MayAsk service (line_of command) ask
asks_on Cash (known.Nonce command) payload ask is asks = nonce_asks command payload ask asks
asks_on Cash (known.Cash command) payload ask is asks = cash_asks command payload ask asks
asks_on Cash (known.Card command) payload ask is asks = absurd is
asks_on Cash (known.Keys command) payload ask is asks = absurd is
asks_on Card (known.Nonce command) payload ask is asks = absurd is
asks_on Card (known.Card command) payload ask is asks = card_asks command payload ask asks
asks_on Card (known.Keys command) payload ask is asks = absurd is
asks_on Card (known.Cash command) payload ask is asks = absurd is
asks_on Keys (known.Nonce command) payload ask is asks = absurd is
asks_on Keys (known.Card command) payload ask is asks = absurd is
asks_on Keys (known.Keys command) payload ask is asks = keys_asks command payload ask asks
asks_on Keys (known.Cash command) payload ask is asks = absurd is
asks_on Publisher (known.Nonce command) payload ask is asks = absurd is
asks_on Publisher (known.Card command) payload ask is asks = absurd is
asks_on Publisher (known.Keys command) payload ask is asks = absurd is
asks_on Publisher (known.Cash command) payload ask is asks = absurd is

-- whatever a known command asks on its line
pub may_ask : (service : Service) (name : List ℕ) (payload : Data) (ask : Ask) (command : Known) → known_of service name ≡ Some command → Asks command payload ask → MayAsk service (line_of command) ask
may_ask service name payload ask command knows asks = asks_on service command payload ask (is_of service name command knows) asks

pub is_absent : {Y : Type 0} (o : Option Y) → is_none o ≡ true → o ≡ None
is_absent None e = refl
is_absent (Some y) e = absurd (false≢true e)

no_entry : {X : Type 0} (name : List ℕ) (x : X) → lookup (bytes_eq name) [] ≡ Some x → ⊥
no_entry name x e = cc

-- a name of one table is none of another
module _ {X Y : Type 0} where
  apart : (es : List (List ℕ × X)) (fs : List (List ℕ × Y)) → list_all (λ (e : List ℕ × X). is_none (lookup (bytes_eq e.0) fs)) es ≡ true
      → (name : List ℕ) (x : X) → lookup (bytes_eq name) es ≡ Some x → lookup (bytes_eq name) fs ≡ None
  apart [] fs all name x has = absurd (no_entry name x has)
  apart (e ∷ es) fs all name x has = elim (cases_Bool (bytes_eq name e.0)) [
    | inl y ↦ rw ((bytes_eq-Decides name e.0).0 y) (is_absent _ (and_parts _ _ all).0)
    | inr n ↦ apart es fs (and_parts _ _ all).1 name x (rw n at has)
  ]

-- a name of the dispenser's own commands is known as such
pub cash_known : (name : List ℕ) (command : CashCommand) → cash_command name ≡ Some command → known_of Cash name ≡ Some (known.Cash command)
cash_known name command is = rw (apart cash_commands nonce_commands refl name command is, is) refl
