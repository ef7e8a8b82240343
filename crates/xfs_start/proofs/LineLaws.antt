-- A text that is no line of `replay` is one of a bench only where it has numbers.
use Rattle.std.proofs.Common.{◌≡◌, ℕ, List, false}
use Rattle.xfs_mech.specs.declared.touch.Touch.{Touch}
use Rattle.xfs_mech.specs.declared.touch.Touch.TheVariants.{CardIn, CardTaken, CardFault, Key, KeyFault, NotesTaken}
use Rattle.xfs_script.specs.ReplayLines.{IsReplayLine}
use Rattle.xfs_script.specs.declared.replay_line.ReplayLine.{ReplayLine}
use Rattle.xfs_script.specs.declared.replay_line.ReplayLine.TheVariants as Replay
use Rattle.xfs_start.specs.BenchLines.{IsBenchLine, IsCardLine, IsKeyLine, has_numbers}
use Rattle.xfs_start.specs.declared.bench_line.BenchLine.{BenchLine}
use Rattle.xfs_start.specs.declared.bench_line.BenchLine.TheVariants as Line
use Rattle.std.proofs.lemmas.Bool.{true≢false}

abbrev NoReplay : List ℕ → Type 0
NoReplay text = (line : ReplayLine) → IsReplayLine text line → ⊥

no_card : (text : List ℕ) → NoReplay text → (touch : Touch) → IsCardLine text touch → ⊥
no_card text none (CardIn tracks) is = none (Replay.CardIn tracks) is
no_card text none CardTaken is = none Replay.CardTaken is
no_card text none CardFault is = none Replay.CardFault is
no_card text none (Key key) is = is
no_card text none KeyFault is = is
no_card text none NotesTaken is = is

no_key : (text : List ℕ) → NoReplay text → (touch : Touch) → IsKeyLine text touch → ⊥
no_key text none (CardIn tracks) is = is
no_key text none CardTaken is = is
no_key text none CardFault is = is
no_key text none (Key key) is = none (Replay.Key key) is
no_key text none KeyFault is = none Replay.KeyFault is
no_key text none NotesTaken is = is

pub no_line : (text : List ℕ) → ((line : ReplayLine) → IsReplayLine text line → ⊥) → ((line : BenchLine) → IsBenchLine text line → has_numbers line ≡ false) → (line : BenchLine) → IsBenchLine text line → ⊥
no_line text none numbers Line.Skip is = none Replay.Skip is
no_line text none numbers (Line.Ports first) is = true≢false (numbers (Line.Ports first) is)
no_line text none numbers (Line.Card touch) is = no_card text none touch is
no_line text none numbers (Line.Key touch) is = no_key text none touch is
no_line text none numbers (Line.Fault fault) is = true≢false (numbers (Line.Fault fault) is)
no_line text none numbers (Line.Failing calls) is = true≢false (numbers (Line.Failing calls) is)
