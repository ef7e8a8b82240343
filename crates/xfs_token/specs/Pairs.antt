-- What a token's lists hold.
use Rattle.std.specs.Prelude.{ℕ, List, map}
use Rattle.xfs_token.specs.Token.{Parts}
use Rattle.xfs_token.specs.declared.pair.Pair.{Pair}

abbrev pub pair_of : Pair → List ℕ × List ℕ
pair_of p = (p.key.items, p.value.items)

abbrev pub parts : List ℕ → List Pair → List ℕ → Parts
parts nonce pairs mac = record { nonce = nonce; pairs = map pair_of pairs; mac = mac }
