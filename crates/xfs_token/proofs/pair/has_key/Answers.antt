use Rattle.std.proofs.Common.{◌≡◌, ◌∙◌, List, [], ◌∷◌, ℕ, Bool, ◌||◌, map, refl, ap}
use Rattle.std.specs.List.{list_any}
use Rattle.std.specs.Str.{bytes_eq}
use Rattle.xfs_token.specs.Token.{has_key}
use Rattle.xfs_token.specs.Pairs.{pair_of}
use Rattle.xfs_token.specs.declared.pair.Pair.{Pair}
use Rattle.xfs_token.proofs.pair.has_key.Goals as goal

any_map : (key : List ℕ) (pairs : List Pair) → list_any (λ p. bytes_eq p.key.items key) pairs ≡ has_key key (map pair_of pairs)
any_map key [] = refl
any_map key (p ∷ ps) = ap (λ (b : Bool). bytes_eq p.key.items key || b) (any_map key ps)

pub returns : goal.returns
returns c = c.any_key.ensures ∙ any_map c.args.key.now c.args.pairs.now
