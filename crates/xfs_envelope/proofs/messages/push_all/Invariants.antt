use Rattle.std.proofs.Common.{◌≡◌, ◌++◌, take, flat_map, string_bytes}
use Rattle.xfs_envelope.proofs.messages.push_all.Given as goal

abbrev pub invariant-loop-part : goal.invariant-loop-part
invariant-loop-part l = string_bytes l.text ≡ string_bytes l.initial.text ++ flat_map (λ p. p.now) (take l.part-index l.parts)
