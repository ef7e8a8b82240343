-- What a session does: each of its turns takes one text or finds that none has come, posts that text, turns the board once, and gives the frames handed over.
use Rattle.std.specs.Prelude.{◌≡◌, ℕ, zero, suc, ◌+◌, List, [], ◌∷◌, ◌++◌, length, Bool, true, option_map, ⊤, Ok, Err}
use Rattle.std.specs.declared.option.Option.{Option}
use Rattle.std.specs.declared.result.Result.{Result}
use Rattle.xfs_base.specs.Causes.{IfTold}
use Rattle.xfs_server.specs.Boards.{BoardLog}
use Rattle.xfs_server.specs.Counted.{counted, grown}
use Rattle.xfs_server.specs.Links.{LinkLog, IsEmptyIfTold, after_give}
use Rattle.xfs_server.specs.declared.link.GiveFault.{GiveFault}
use Rattle.xfs_server.specs.declared.session.Over.{Over}

-- where a session stands: behind a whole turn; or in a turn that told that the peer has closed, that failed, or that found no memory to take a text;
-- at a post or at a turn of the board that was refused for want of memory; or with these frames given, the next refused, and the rest kept back
pub data Stop : Type 0 where
  Behind : Stop
  AtClosed : Stop
  AtFault : Stop
  AtMemory : Stop
  AtPost : List ℕ → Stop
  AtTurn : Stop
  AtGive : List (List ℕ) → List ℕ → List (List ℕ) → GiveFault → Stop

-- how the session ends that stops there; behind a whole turn it ends at the limit of turns
abbrev pub over_of : Stop → Over
over_of Behind = Over.Turns
over_of AtClosed = Over.Closed
over_of AtFault = Over.Failed
over_of AtMemory = Over.Memory
over_of (AtPost text) = Over.Memory
over_of AtTurn = Over.Memory
over_of (AtGive given refused rest GiveFault.Failed) = Over.Failed
over_of (AtGive given refused rest GiveFault.Memory) = Over.Memory

-- the text that was taken and not posted
abbrev pub lost : Stop → List (List ℕ)
lost Behind = []
lost AtClosed = []
lost AtFault = []
lost AtMemory = []
lost (AtPost text) = text ∷ []
lost AtTurn = []
lost (AtGive given refused rest fault) = []

-- the frames that a turn which was not whole had given
abbrev pub given_at : Stop → List (List ℕ)
given_at Behind = []
given_at AtClosed = []
given_at AtFault = []
given_at AtMemory = []
given_at (AtPost text) = []
given_at AtTurn = []
given_at (AtGive given refused rest fault) = given

abbrev pub kept : Stop → List (List ℕ)
kept Behind = []
kept AtClosed = []
kept AtFault = []
kept AtMemory = []
kept (AtPost text) = []
kept AtTurn = []
kept (AtGive given refused rest fault) = refused ∷ rest

-- how many turns and calls of frames the board had in a turn that wasn't whole
abbrev pub turns_in : Stop → ℕ
turns_in Behind = 0
turns_in AtClosed = 0
turns_in AtFault = 0
turns_in AtMemory = 0
turns_in (AtPost text) = 0
turns_in AtTurn = 1
turns_in (AtGive given refused rest fault) = 1

abbrev pub fetches_in : Stop → ℕ
fetches_in Behind = 0
fetches_in AtClosed = 0
fetches_in AtFault = 0
fetches_in AtMemory = 0
fetches_in (AtPost text) = 0
fetches_in AtTurn = 0
fetches_in (AtGive given refused rest fault) = 1

-- a session that ends as Closed has been told it, and one that ends as Failed has one fault
abbrev pub is_closed : Over → Bool → Bool
is_closed Over.Closed before = true
is_closed Over.Failed before = before
is_closed Over.Memory before = before
is_closed Over.Turns before = before

abbrev pub fault_count : Over → ℕ
fault_count Over.Closed = 0
fault_count Over.Failed = 1
fault_count Over.Memory = 0
fault_count Over.Turns = 0

-- a session that closed had no text to come
abbrev pub IsAllTaken : Over → Option (List (List ℕ)) → Type 0
IsAllTaken Over.Closed coming = IsEmptyIfTold coming
IsAllTaken Over.Failed coming = ⊤
IsAllTaken Over.Memory coming = ⊤
IsAllTaken Over.Turns coming = ⊤

-- the frames of a turn that wasn't whole are those that the board handed over last
abbrev pub IsLatest : Stop → Option (List (List ℕ)) → Type 0
IsLatest Behind latest = ⊤
IsLatest AtClosed latest = ⊤
IsLatest AtFault latest = ⊤
IsLatest AtMemory latest = ⊤
IsLatest (AtPost text) latest = ⊤
IsLatest AtTurn latest = ⊤
IsLatest (AtGive given refused rest fault) latest = IfTold latest (λ frames. frames ≡ given ++ refused ∷ rest)

-- whole turns, and what was done of the one behind them: the texts that were posted, the quiets, and the frames that were given in whole turns
pub record Course (turns : ℕ) (stop : Stop) (link link' : LinkLog) (board board' : BoardLog) : Type 0 where
  pub texts : List (List ℕ)
  pub quiets : ℕ
  pub given : List (List ℕ)
  pub each : length texts + quiets ≡ turns + turns_in stop
  pub coming : link.coming ≡ option_map (λ rest. texts ++ (lost stop ++ rest)) link'.coming
  pub taken : link'.taken ≡ grown (texts ++ lost stop) link.taken
  pub posted : board'.texts ≡ grown texts board.texts
  pub handed : board'.handed ≡ grown (given ++ (given_at stop ++ kept stop)) board.handed
  pub latest : IsLatest stop board'.latest
  pub sent : link'.sent ≡ grown (given ++ given_at stop) link.sent
  pub told : link'.closed ≡ is_closed (over_of stop) link.closed
  pub ended : IsAllTaken (over_of stop) link'.coming
  pub faults : link'.faults ≡ counted (fault_count (over_of stop)) link.faults
  pub quiet : link'.quiets ≡ counted quiets link.quiets
  pub posts : board'.posts ≡ counted (length (texts ++ lost stop)) board.posts
  pub worked : board'.turns ≡ counted (turns + turns_in stop) board.turns
  pub fetched : board'.fetches ≡ counted (turns + fetches_in stop) board.fetches

-- whole turns, one behind the other: the frames of each are given before the next begins
abbrev pub Turns : ℕ → LinkLog → LinkLog → BoardLog → BoardLog → Type 0
Turns zero link link' board board' = (link' ≡ link) × (board' ≡ board)
Turns (suc turns) link link' board board' = (link_before : LinkLog) × (board_before : BoardLog) × Turns turns link link_before board board_before × Course 1 Behind link_before link' board_before board'

-- a session ends at the limit only after 4,294,967,296 turns
abbrev pub IsAtLimit : Over → ℕ → Type 0
IsAtLimit Over.Closed turns = ⊤
IsAtLimit Over.Failed turns = ⊤
IsAtLimit Over.Memory turns = ⊤
IsAtLimit Over.Turns turns = turns ≡ 4294967296

-- after so many whole turns it ends by what it stops at
pub record Ends (turns : ℕ) (over : Over) (link link' : LinkLog) (board board' : BoardLog) : Type 0 where
  pub stop : Stop
  pub course : Course turns stop link link' board board'
  pub over_is : over ≡ over_of stop
  pub limit : IsAtLimit over turns

-- a whole session: whole turns, then what ends it, and both together
pub record Session (over : Over) (link link' : LinkLog) (board board' : BoardLog) : Type 0 where
  pub turns : ℕ
  pub ends : Ends turns over link link' board board'
  pub link_before : LinkLog
  pub board_before : BoardLog
  pub whole : Turns turns link link_before board board_before
  pub last : Course 0 ends.stop link_before link' board_before board'

-- the first half of a turn: the link and the board after a text that was taken and posted, or after a quiet
pub record Heard (link link' : LinkLog) (board board' : BoardLog) : Type 0 where
  pub texts : List (List ℕ)
  pub quiets : ℕ
  pub one : length texts + quiets ≡ 1
  pub coming : link.coming ≡ option_map (λ rest. texts ++ rest) link'.coming
  pub link_is : link' ≡ record link { coming = link'.coming; taken = grown texts link.taken; quiets = counted quiets link.quiets }
  pub board_is : board' ≡ record board { texts = grown texts board.texts; posts = counted (length texts) board.posts }

-- the frames before the one that was refused were given
pub record GaveFront (frames : List (List ℕ)) (fault : GiveFault) (link link' : LinkLog) : Type 0 where
  pub given : List (List ℕ)
  pub refused : List ℕ
  pub rest : List (List ℕ)
  pub frames_are : frames ≡ given ++ refused ∷ rest
  pub link_is : link' ≡ after_give (record link { sent = grown given link.sent }) refused (Err fault)

-- frames are given in order: all of them, or those before the one that was refused
abbrev pub Gave : List (List ℕ) → Result Unit GiveFault → LinkLog → LinkLog → Type 0
Gave frames (Ok _) link link' = link' ≡ record link { sent = grown frames link.sent }
Gave frames (Err fault) link link' = GaveFront frames fault link link'
