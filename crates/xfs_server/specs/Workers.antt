-- What a worker does: each of its rounds asks closing, then wants, takes one news of the watch where that is true, hands it on, and turns the board once.
use Rattle.std.specs.Prelude.{◌≡◌, ℕ, zero, suc, ◌+◌, ◌≤◌, List, [], ◌∷◌, ◌++◌, length, Bool, true, option_map, Some, None, ⊤}
use Rattle.std.specs.declared.option.Option.{Option}
use Rattle.xfs_base.specs.Causes.{IfTold}
use Rattle.xfs_mech.specs.declared.touch.Touch.{Touch}
use Rattle.xfs_server.specs.Counted.{counted, grown}
use Rattle.xfs_server.specs.Tendeds.{TendedLog}
use Rattle.xfs_server.specs.declared.worker.Over2.{Over2}

-- where a worker stands: behind a whole round; where closing answered true; at a touch, at a fault or at a turn that was refused for want of memory
pub data Halt : Type 0 where
  Between : Halt
  AtClosing : Halt
  AtTouch : Touch → Halt
  AtFault : Halt
  AtWork : Halt

-- how the worker ends that stands there
abbrev pub over_of : Halt → Option Over2
over_of Between = None
over_of AtClosing = Some Over2.Done
over_of (AtTouch touch) = Some Over2.Memory
over_of AtFault = Some Over2.Memory
over_of AtWork = Some Over2.Memory

-- closing has answered true
abbrev pub is_closing : Halt → Bool → Bool
is_closing Between before = before
is_closing AtClosing before = true
is_closing (AtTouch touch) before = before
is_closing AtFault before = before
is_closing AtWork before = before

-- the touch that was taken of the watch and not made
abbrev pub lost : Halt → List Touch
lost Between = []
lost AtClosing = []
lost (AtTouch touch) = touch ∷ []
lost AtFault = []
lost AtWork = []

-- what a round that wasn't whole had done: whether a fault was called, whether the board was turned, and whether the round was begun
abbrev pub faults_in : Halt → ℕ
faults_in Between = 0
faults_in AtClosing = 0
faults_in (AtTouch touch) = 0
faults_in AtFault = 1
faults_in AtWork = 0

abbrev pub turns_in : Halt → ℕ
turns_in Between = 0
turns_in AtClosing = 0
turns_in (AtTouch touch) = 0
turns_in AtFault = 0
turns_in AtWork = 1

abbrev pub begun : Halt → ℕ
begun Between = 0
begun AtClosing = 0
begun (AtTouch touch) = 1
begun AtFault = 1
begun AtWork = 1

-- where the watch was quiet, it has no touch to come
abbrev pub IsQuietEnd : ℕ → Option (List Touch) → Type 0
IsQuietEnd zero coming = ⊤
IsQuietEnd (suc n) coming = IfTold coming (λ touches. touches ≡ [])

-- whole rounds, and what was done of the one behind them: the touches made, the failures handed on, the quiets, the rounds in which nothing was wanted, and how often a fault counted as a touch
pub record Rounds (rounds : ℕ) (halt : Halt) (coming coming' : Option (List Touch)) (failed failed' : ℕ) (board board' : TendedLog) : Type 0 where
  pub touched : List Touch
  pub failures : ℕ
  pub quiets : ℕ
  pub unwanted : ℕ
  pub raised : ℕ
  pub each : length touched + failures + quiets + unwanted ≡ rounds + turns_in halt
  pub few : raised ≤ failures + faults_in halt
  pub news : coming ≡ option_map (λ rest. touched ++ (lost halt ++ rest)) coming'
  pub quiet : IsQuietEnd quiets coming'
  pub watch_failed : counted (failures + faults_in halt) failed ≤ failed'
  pub made : board'.touched ≡ grown touched board.touched
  pub told : board'.faults ≡ option_map (counted (failures + faults_in halt)) board.faults
  pub asked : board'.wanted ≡ option_map (counted (length (touched ++ lost halt) + (failures + faults_in halt) + quiets)) board.wanted
  pub unasked : board'.unwanted ≡ option_map (counted unwanted) board.unwanted
  pub stayed : board'.stays ≡ option_map (counted (rounds + begun halt)) board.stays
  pub closing : board'.closing ≡ is_closing halt board.closing
  pub counts : board'.touches ≡ counted (length (touched ++ lost halt) + raised) board.touches
  pub turned : board'.turns ≡ counted (rounds + turns_in halt) board.turns

-- after so many whole rounds the worker ends by where it stands
pub record Halts (rounds : ℕ) (over : Over2) (coming coming' : Option (List Touch)) (failed failed' : ℕ) (board board' : TendedLog) : Type 0 where
  pub halt : Halt
  pub course : Rounds rounds halt coming coming' failed failed' board board'
  pub over_is : Some over ≡ over_of halt

-- all that a worker did
pub record Tending (over : Over2) (coming coming' : Option (List Touch)) (failed failed' : ℕ) (board board' : TendedLog) : Type 0 where
  pub rounds : ℕ
  pub halts : Halts rounds over coming coming' failed failed' board board'

-- one news, or that none was wanted
pub record Sensed (coming coming' : Option (List Touch)) (failed failed' : ℕ) (board board' : TendedLog) : Type 0 where
  pub touched : List Touch
  pub failures : ℕ
  pub quiets : ℕ
  pub unwanted : ℕ
  pub raised : ℕ
  pub one : length touched + failures + quiets + unwanted ≡ 1
  pub few : raised ≤ failures
  pub news : coming ≡ option_map (λ rest. touched ++ rest) coming'
  pub quiet : IsQuietEnd quiets coming'
  pub watch_failed : counted failures failed ≤ failed'
  pub board_is : board' ≡ record board {
    touched = grown touched board.touched;
    faults = option_map (counted failures) board.faults;
    wanted = option_map (counted (length touched + failures + quiets)) board.wanted;
    unwanted = option_map (counted unwanted) board.unwanted;
    touches = counted (length touched + raised) board.touches;
  }

-- a news that the board refused for want of memory
pub record Unsensed (coming coming' : Option (List Touch)) (failed failed' : ℕ) (board board' : TendedLog) : Type 0 where
  pub halt : Halt
  pub raised : ℕ
  pub over_is : Some Over2.Memory ≡ over_of halt
  pub unturned : turns_in halt ≡ 0
  pub is_begun : begun halt ≡ 1
  pub open_still : (before : Bool) → is_closing halt before ≡ before
  pub one : length (lost halt) + faults_in halt ≡ 1
  pub few : raised ≤ faults_in halt
  pub news : coming ≡ option_map (λ rest. lost halt ++ rest) coming'
  pub watch_failed : counted (faults_in halt) failed ≤ failed'
  pub board_is : board' ≡ record board {
    faults = option_map (counted (faults_in halt)) board.faults;
    wanted = option_map (counted 1) board.wanted;
    touches = counted (length (lost halt) + raised) board.touches;
  }

-- what is told at a device: the news that are to come, how often its watch failed, and the log of its worker's object
pub record DeviceView : Type 0 where
  pub coming : Option (List Touch)
  pub faults : ℕ
  pub log : TendedLog

abbrev pub view : {B W : Type 0} → (B → TendedLog) → (W → Option (List Touch)) → (W → ℕ) → B → W → DeviceView
view log coming faults board watch = record { coming = coming watch; faults = faults watch; log = log board }

-- one round, whole
abbrev pub MakesRound : DeviceView → DeviceView → Type 0
MakesRound old new = Rounds 1 Between old.coming new.coming old.faults new.faults old.log new.log

-- a round that is the last, and why
abbrev pub HaltsRound : DeviceView → DeviceView → Over2 → Type 0
HaltsRound old new over = Halts 0 over old.coming new.coming old.faults new.faults old.log new.log

-- one news was handed on, where it was wanted
abbrev pub Senses : DeviceView → DeviceView → Type 0
Senses old new = Sensed old.coming new.coming old.faults new.faults old.log new.log

-- memory ran out as it was handed on
abbrev pub CannotSense : DeviceView → DeviceView → Type 0
CannotSense old new = Unsensed old.coming new.coming old.faults new.faults old.log new.log
