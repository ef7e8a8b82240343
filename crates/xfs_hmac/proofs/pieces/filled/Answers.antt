use Rattle.std.proofs.Common.{◌≡◌, ◌+◌, ◌-◌, ◌∷◌, [], ◌++◌, ℕ, List, drop, replicate, slice_index, sym, ap, ◌∙◌, arith}
use Rattle.std.proofs.lemmas.List.{length-set, take_more_set, take_more, drop-set-lt, drop-replicate, drop-drop}
use Rattle.xfs_hmac.proofs.pieces.filled.Goals as goal

pub bytes-preserved : goal.bytes-preserved
bytes-preserved c =
    let inv = c.bytes.invariant in
    let i = c.bytes.i in
    let byte = slice_index c.args.bytes.now i in
    let less : 64 - i - 1 ≡ 64 - (i + 1) = omega arith in (
      length-set _ _ _ ∙ inv.0,
      take_more_set c.bytes.block i byte (omega arith) ∙ ap (λ (l : List ℕ). l ++ byte ∷ []) inv.1 ∙ sym (take_more c.args.bytes.now i 0 (omega arith)),
      drop-set-lt (i + 1) c.bytes.block i byte (omega arith)
          ∙ sym (drop-drop 1 i c.bytes.block) ∙ ap (drop 1) inv.2 ∙ drop-replicate 1 (64 - i) 0 ∙ ap (λ (n : ℕ). replicate n 0) less,
    )
