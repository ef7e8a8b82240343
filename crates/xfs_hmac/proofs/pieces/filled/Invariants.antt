use Rattle.std.proofs.Common.{◌≡◌, ◌-◌, length, take, drop, replicate}
use Rattle.xfs_hmac.proofs.pieces.filled.Given as goal

-- what was copied, and the zeros that are left
abbrev pub invariant-bytes : goal.invariant-bytes
invariant-bytes l =
    (length l.block ≡ 64) × (take l.i l.block ≡ take l.i l.bytes) × (drop l.i l.block ≡ replicate (64 - l.i) 0)
