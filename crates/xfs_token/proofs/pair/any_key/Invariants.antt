use Rattle.std.proofs.Common.{◌≡◌, take, false}
use Rattle.std.specs.List.{list_any}
use Rattle.std.specs.Str.{bytes_eq}
use Rattle.xfs_token.proofs.pair.any_key.Given as goal

-- no pair before here has the key
abbrev pub invariant-loop-p : goal.invariant-loop-p
invariant-loop-p l = list_any (λ p. bytes_eq p.key.items l.key) (take l.p-index l.pairs) ≡ false
