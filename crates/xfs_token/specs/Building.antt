-- Why a pair is not added: the key is looked at before the value.
use Rattle.std.specs.Prelude.{◌≡◌, ℕ, List, not, if◌then◌else◌, None, Some, Err, MatchResult, ⊤}
use Rattle.std.specs.declared.option.Option.{Option}
use Rattle.std.specs.declared.result.Result.{Result}
use Rattle.xfs_token.specs.Token.{is_free_key, is_value}
use Rattle.xfs_token.specs.declared.token.BuildFault.{BuildFault}
use Rattle.xfs_token.specs.declared.token.BuildFault.TheVariants.{BadKey, BadValue, Memory}

-- the first refusal of a key and a value behind these pairs
abbrev pub add_refusal : List (List ℕ × List ℕ) → List ℕ → List ℕ → Option BuildFault
add_refusal pairs key value =
    if not (is_free_key key pairs) then Some BadKey
    else if not (is_value value) then Some BadValue
    else None

-- this refusal is the answer; where there is none, only memory may be wanting
abbrev pub IsRefusedAs : {T : Type 0} → Option BuildFault → Result T BuildFault → Type 0
IsRefusedAs (Some fault) result = result ≡ Err fault
IsRefusedAs None result = MatchResult result (λ _. ⊤) (λ fault. fault ≡ Memory)
