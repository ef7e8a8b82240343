-- The lines of `xfs.bench`: the bytes that write each.
use Rattle.std.specs.Prelude.{◌≡◌, ◌⊎◌, ℕ, ◌≤◌, Bool, true, false, List, [], ◌∷◌, codes, decimal, length}
use Rattle.std.specs.List.{AllZip}
use Rattle.xfs_mech.specs.declared.fault.Fault.{Fault}
use Rattle.xfs_mech.specs.declared.touch.Touch.{Touch}
use Rattle.xfs_mech.specs.declared.touch.Touch.TheVariants.{CardIn, CardTaken, CardFault, Key, KeyFault}
use Rattle.xfs_script.specs.Fields.{fields}
use Rattle.xfs_script.specs.ReplayLines.{IsReplayLine}
use Rattle.xfs_script.specs.Words.{IsSkipped}
use Rattle.xfs_script.specs.declared.replay_line.ReplayLine.{ReplayLine}
use Rattle.xfs_script.specs.declared.replay_line.ReplayLine.TheVariants as Replay
use Rattle.xfs_start.specs.declared.bench_line.BenchLine.{BenchLine}
use Rattle.xfs_start.specs.declared.bench_line.BenchLine.TheVariants as Line

-- `ports` and the first of four ports, none of which is 0
pub record IsPorts (line : List (List ℕ)) (first : ℕ) : Type 0 where
  pub words : line ≡ codes "ports" ∷ decimal first ∷ []
  pub low : 1 ≤ first
  pub high : first ≤ 65532

-- calls count from 1
pub record IsCall (field : List ℕ) (call : ℕ) : Type 0 where
  pub digits : field ≡ decimal call
  pub low : 1 ≤ call
  pub high : call ≤ 18446744073709551615

-- a number of notes
pub record IsNotes (field : List ℕ) (count : ℕ) : Type 0 where
  pub digits : field ≡ decimal count
  pub high : count ≤ 4294967295

-- `fault`, a call, how many notes it moves, and how many it diverts
pub record IsFault (line : List (List ℕ)) (fault : Fault) : Type 0 where
  pub one : List ℕ
  pub two : List ℕ
  pub three : List ℕ
  pub words : line ≡ codes "fault" ∷ one ∷ two ∷ three ∷ []
  pub call : IsCall one fault.call
  pub moved : IsNotes two fault.moved
  pub diverted : IsNotes three fault.diverted

-- `failing` and one call or more
pub record IsFailing (line : List (List ℕ)) (calls : List ℕ) : Type 0 where
  pub places : List (List ℕ)
  pub words : line ≡ codes "failing" ∷ places
  pub some : 1 ≤ length places
  pub each : AllZip IsCall places calls

-- what befalls the card slot, as in a script of `replay`
abbrev pub IsCardLine : List ℕ → Touch → Type 0
IsCardLine text (CardIn tracks) = IsReplayLine text (Replay.CardIn tracks)
IsCardLine text CardTaken = IsReplayLine text Replay.CardTaken
IsCardLine text CardFault = IsReplayLine text Replay.CardFault
IsCardLine text touch = ⊥

-- what befalls the key pad, as in a script of `replay`
abbrev pub IsKeyLine : List ℕ → Touch → Type 0
IsKeyLine text (Key key) = IsReplayLine text (Replay.Key key)
IsKeyLine text KeyFault = IsReplayLine text Replay.KeyFault
IsKeyLine text touch = ⊥

-- the text is this line
abbrev pub IsBenchLine : List ℕ → BenchLine → Type 0
IsBenchLine text Line.Skip = IsSkipped text
IsBenchLine text (Line.Ports first) = IsPorts (fields text) first
IsBenchLine text (Line.Card touch) = IsCardLine text touch
IsBenchLine text (Line.Key touch) = IsKeyLine text touch
IsBenchLine text (Line.Fault fault) = IsFault (fields text) fault
IsBenchLine text (Line.Failing calls) = IsFailing (fields text) calls.items

-- a word and numbers
abbrev pub has_numbers : BenchLine → Bool
has_numbers Line.Skip = false
has_numbers (Line.Ports first) = true
has_numbers (Line.Card touch) = false
has_numbers (Line.Key touch) = false
has_numbers (Line.Fault fault) = true
has_numbers (Line.Failing calls) = true

-- the lines of `replay` that a bench has too
abbrev pub is_news : ReplayLine → Bool
is_news Replay.Skip = true
is_news (Replay.CardIn tracks) = true
is_news Replay.CardTaken = true
is_news Replay.CardFault = true
is_news (Replay.Key key) = true
is_news Replay.KeyFault = true
is_news line = false

-- a line of `replay` that no bench has
pub record IsOtherVerb (text : List ℕ) : Type 0 where
  pub line : ReplayLine
  pub is : IsReplayLine text line
  pub other : is_news line ≡ false

-- a line of no bench: one of `replay` that no bench has, or one of no form
abbrev pub IsNoLine : List ℕ → Type 0
IsNoLine text = IsOtherVerb text ⊎ ((line : BenchLine) → ¬ IsBenchLine text line)
