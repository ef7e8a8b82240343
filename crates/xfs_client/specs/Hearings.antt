-- What a desk asked and heard, by the texts that it sent and by the frames that it took, each the oldest first.
use Rattle.std.specs.Prelude.{◌≡◌, ◌+◌, ◌&&◌, ℕ, List, [], ◌∷◌, ◌++◌, length, nat_le, nat_lt, Option, IfSome, Ok}
use Rattle.xfs_conversation.specs.Answers.{heading_of}
use Rattle.xfs_conversation.specs.Conversation.{Conversation}
use Rattle.xfs_conversation.specs.Pending.{Pending, is_pending}
use Rattle.xfs_envelope.specs.Commands.{command_in}
use Rattle.xfs_client.specs.Desks.{GrowsBy, Recalls, Remembered, has}
use Rattle.xfs_client.specs.History.{Entry, Told, ask, asks, heard, told_in}

-- the id that a service finds in a text, where it finds one
abbrev pub id_in : List ℕ → Option ℕ
id_in text = (heading_of (command_in text)).id

-- the n-th ask: where a service finds an id in it, that is n
abbrev pub IsAskAt : ℕ → List ℕ → Type 0
IsAskAt n text = IfSome (id_in text) (λ id. id ≡ n)

-- a desk with this history asked these texts and heard these frames
pub data Hearing : List Entry → List (List ℕ) → List (List ℕ) → Type 0 where
  begun : Hearing [] [] []
  -- a text is asked by the next number
  asked : {h : List Entry} {texts frames : List (List ℕ)} → Hearing h texts frames
      → (text : List ℕ) → IsAskAt (asks h + 1) text
      → Hearing (h ++ ask ∷ []) (texts ++ text ∷ []) frames
  -- a frame is heard, as the desk tells it
  told : {h : List Entry} {texts frames : List (List ℕ)} → Hearing h texts frames
      → (frame : List ℕ) (t : Told) → told_in h frame ≡ Ok t
      → Hearing (h ++ heard t ∷ []) texts (frames ++ frame ∷ [])

-- P holds of every history that the desk keeps, with what it asked and what it heard
abbrev pub OfHearing : Remembered → (List Entry → List (List ℕ) → List (List ℕ) → Type 0) → Type 0
OfHearing d P = (h : List Entry) (texts frames : List (List ℕ)) → Recalls d h → Hearing h texts frames → P h texts frames

-- the desk keeps one ask more, and asked this text
pub record AsksOn (text : List ℕ) (old new : Remembered) : Type 0 where
  pub keeps : GrowsBy ask old new
  pub hearing : OfHearing old (λ h texts frames. Hearing (h ++ ask ∷ []) (texts ++ text ∷ []) frames)

-- behind all that the desk asked and heard, it heard the frame and was told this
abbrev pub HearsOn : Told → List ℕ → Remembered → Type 0
HearsOn t frame d = OfHearing d (λ h texts past. Hearing (h ++ heard t ∷ []) texts (past ++ frame ∷ []))

-- the frame comes next in a lawful conversation, whose texts are the first of those that were asked
pub record ComesNext (h : List Entry) (frame : List ℕ) : Type 0 where
  pub texts : List (List ℕ)
  pub unread : List (List ℕ)
  pub before : List (List ℕ)
  pub later : List (List ℕ)
  pub pending : List Pending
  pub hears : Hearing h (texts ++ unread) before
  pub talk : Conversation texts (before ++ frame ∷ later) pending

-- every frame of a lawful conversation was heard, whose texts are the first of those that the desk asked
pub record HeardAll (d : Remembered) (texts unread : List (List ℕ)) (pending : List Pending) : Type 0 where
  pub history : List Entry
  pub keeps : Recalls d history
  pub frames : List (List ℕ)
  pub hears : Hearing history (texts ++ unread) frames
  pub talk : Conversation texts frames pending

-- P holds wherever a desk heard every frame of a lawful conversation
abbrev pub WhereHeardAll : (Remembered → List (List ℕ) → List (List ℕ) → List Pending → Type 0) → Type 0
WhereHeardAll P = (d : Remembered) (texts unread : List (List ℕ)) (pending : List Pending) → HeardAll d texts unread pending → P d texts unread pending

-- A desk remembers what is pending in the conversation of these texts, and the asks that it has not come to.
pub record Remembers (d : Remembered) (texts unread : List (List ℕ)) (pending : List Pending) : Type 0 where
  -- those that are acknowledged and not over are the pending commands
  pub running : (id : ℕ) → has d.acknowledged id ≡ is_pending pending id
  -- those that wait for their acknowledge are the texts that the service hasn't answered yet
  pub waiting : (id : ℕ) → has d.unacknowledged id ≡ (nat_lt (length texts) id && nat_le id (length (texts ++ unread)))
  pub asked : d.asked ≡ length (texts ++ unread)
