-- What contracts see of the link, the doors and the boards in memory, and what their calls answer.
use Rattle.std.specs.Prelude.{◌≡◌, ◌≢◌, ℕ, List, [], ◌∷◌, ◌++◌, drop, slice_get, Some, None, Ok, Err, Bool, true, false, ⊤}
use Rattle.std.specs.declared.result.Result.{Result}
use Rattle.std.specs.declared.option.Option.{Option}
use Rattle.xfs_base.specs.declared.moment.Service.{Service}
use Rattle.xfs_server.specs.Boards.{BoardLog}
use Rattle.xfs_server.specs.Doors.{DoorLog}
use Rattle.xfs_server.specs.Links.{LinkLog}
use Rattle.xfs_server.specs.Tendeds.{TendedLog}
use Rattle.xfs_server.specs.declared.doors.DialFault.{DialFault}
use Rattle.xfs_server.specs.declared.doors.Door.{Door}
use Rattle.xfs_server.specs.declared.link.Taking.{Taking}

-- whether the link closes once no text is to come; the places, from 1, of the calls that fail; and how many calls there were
pub record LinkPlan : Type 0 where
  pub closes : Bool
  pub failing_takes : List ℕ
  pub failing_gives : List ℕ
  pub takes : ℕ
  pub gives : ℕ

-- before any call
abbrev pub begun_plan : Bool → List ℕ → List ℕ → LinkPlan
begun_plan closes failing_takes failing_gives = record { closes = closes; failing_takes = failing_takes; failing_gives = failing_gives; takes = 0; gives = 0 }

pub record LinkInMemory : Type 0 where
  pub log : LinkLog
  pub plan : LinkPlan

-- a link to which these texts are to come
abbrev pub begun_link : List (List ℕ) → LinkLog
begun_link texts = record { coming = Some texts; taken = Some []; sent = Some []; closed = false; quiets = 0; faults = 0 }

-- the first text, and Closed or Quiet where none is to come; memory is wanted for a text alone
abbrev pub Takes : List (List ℕ) → Bool → Taking → Type 0
Takes texts closes (Taking.Text text) = slice_get texts 0 ≡ Some text
Takes texts closes Taking.Quiet = (texts ≡ []) × (closes ≡ false)
Takes texts closes Taking.Closed = (texts ≡ []) × (closes ≡ true)
Takes texts closes Taking.Failed = ⊤
Takes texts closes Taking.Memory = texts ≢ []

-- the connections to come and the one that will be dialled; the places, from 1, of the calls that fail; and how many calls there were
pub record DoorsInMemory : Type 0 where
  pub log : DoorLog
  pub coming : List (Service × LinkInMemory)
  pub dialled : Option LinkInMemory
  pub failing : List ℕ
  pub calls : ℕ

-- the first connection, and Quiet where none is to come
abbrev pub HandsOver : List (Service × LinkInMemory) → Door LinkInMemory → Type 0
HandsOver coming (Door.Came service link) = slice_get coming 0 ≡ Some (service, link)
HandsOver coming Door.Quiet = coming ≡ []
HandsOver coming Door.Failed = ⊤
HandsOver coming Door.Memory = ⊥

-- the connections that are to come after an answer of the doors
abbrev pub left_after : List (Service × LinkInMemory) → Door LinkInMemory → List (Service × LinkInMemory)
left_after coming (Door.Came service link) = drop 1 coming
left_after coming Door.Quiet = coming
left_after coming Door.Failed = coming
left_after coming Door.Memory = coming

-- the lists of frames that are to be handed over, one a call
pub record BoardInMemory : Type 0 where
  pub log : BoardLog
  pub coming : List (List (List ℕ))

-- lists joined in order
abbrev pub joined : {T : Type 0} → List (List T) → List T
joined [] = []
joined (list ∷ lists) = list ++ joined lists

-- what wants answers, and in how many calls closing is still false
pub record TendedInMemory : Type 0 where
  pub log : TendedLog
  pub wants : Bool
  pub left : ℕ

-- doors before their first call
abbrev pub begun_doors : List (Service × LinkInMemory) → Option LinkInMemory → List ℕ → DoorsInMemory
begun_doors coming dialled failing = record {
  log = record { came = 0; dials = 0; last_dialled = None; quiets = 0; faults = 0 };
  coming = coming;
  dialled = dialled;
  failing = failing;
  calls = 0;
}

-- a dial that isn't to fail hands over the link, where there is one
abbrev pub Dials : Option LinkInMemory → Result LinkInMemory DialFault → Type 0
Dials dialled (Ok link) = dialled ≡ Some link
Dials dialled (Err _) = dialled ≡ None

abbrev pub undialled : Option LinkInMemory → Result LinkInMemory DialFault → Option LinkInMemory
undialled dialled (Ok link) = None
undialled dialled (Err _) = dialled

-- a board before its first call, with these lists to hand over
abbrev pub begun_board : List (List (List ℕ)) → BoardInMemory
begun_board frames = record {
  log = record { texts = Some []; handed = Some []; latest = Some []; posts = 0; turns = 0; fetches = 0 };
  coming = frames;
}

-- a worker's board before its first call
abbrev pub begun_tended : Bool → ℕ → TendedInMemory
begun_tended wants rounds = record {
  log = record { touched = Some []; faults = Some 0; wanted = Some 0; unwanted = Some 0; stays = Some 0; closing = false; touches = 0; turns = 0 };
  wants = wants;
  left = rounds;
}
