use Rattle.std.proofs.Common.{ℕ, ◌≤◌, ◌<◌, arith}
use Rattle.std.proofs.lemmas.List.Elements.{All-weaker}
use Rattle.std.proofs.lemmas.Str.{IsUtf8-from_ascii}
use Rattle.std.proofs.lemmas.Str.Ascii.{IsAscii-from_all}
use Rattle.xfs_client.proofs.dispense.letters_of.Goals as goal

pub unreachable-requires : goal.unreachable-requires
unreachable-requires c =
    let small = All-weaker (λ (b : ℕ). (65 ≤ b) × (b ≤ 90)) (λ (b : ℕ). b < 128) (λ (b : ℕ) (h : (65 ≤ b) × (b ≤ 90)). omega arith) c.args.letters.now c.requires.1 in
    c.in-Err.ensures.cases.0 (IsUtf8-from_ascii c.args.letters.now (IsAscii-from_all c.args.letters.now small))
