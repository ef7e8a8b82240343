-- The law of conversations: what a client posted, what it was handed and what waits for it, and its pending commands are a conversation; each step keeps it.
use Rattle.std.specs.Prelude.{◌≡◌, ◌&&◌, ℕ, ◌==◌, List, [], ◌∷◌, ◌++◌, Bool, Some, IfSome, if◌then◌else◌}
use Rattle.xfs_base.specs.declared.moment.ClientId.{ClientId}
use Rattle.xfs_conversation.specs.Conversation.{Conversation}
use Rattle.xfs_conversation.specs.Once.{IsOnce}
use Rattle.xfs_model.specs.Connections.{connection_at}
use Rattle.xfs_model.specs.Events.{Event, join, post, outbox, Answer, joined, done, handed}
use Rattle.xfs_model.specs.Pendings.{pending_at, pending_in}
use Rattle.xfs_model.specs.State.{Connection, Pass, State, queue_at}

-- a connection's texts, its frames and then those that wait, and its pending commands are a conversation
abbrev pub Talks : State → List (List ℕ) → List (List ℕ) → Connection → Type 0
Talks s texts frames k = Conversation texts (frames ++ k.waiting) (pending_in k.client (queue_at s k.service))

-- where the client's connection is open
abbrev pub IsTalk : State → ClientId → List (List ℕ) → List (List ℕ) → Type 0
IsTalk s client texts frames = IfSome (connection_at s client) (Talks s texts frames)

-- over the client's open connection each text has one acknowledge, and each accepted command at most one completion
abbrev pub CompletesOnce : State → ClientId → List (List ℕ) → List (List ℕ) → Type 0
CompletesOnce s client texts frames = (k : Connection) → connection_at s client ≡ Some k → IsOnce texts (frames ++ k.waiting) (pending_at s k)

-- whether a pass is that of a client in this boot
abbrev pub is_pass_of : State → ClientId → Pass → Bool
is_pass_of s client pass = (s.boot == pass.boot) && (pass.client.0 == client.0)

-- the texts and frames of a client after an event: both begin with its join
abbrev pub texts_after : State → List (List ℕ) → Event → Answer → ClientId → List (List ℕ)
texts_after old texts (join service) (joined pass) mine = if is_pass_of old mine pass then [] else texts
texts_after old texts (post pass text now) done mine = if is_pass_of old mine pass then texts ++ text ∷ [] else texts
texts_after old texts event answer mine = texts

abbrev pub frames_after : State → List (List ℕ) → Event → Answer → ClientId → List (List ℕ)
frames_after old frames (join service) (joined pass) mine = if is_pass_of old mine pass then [] else frames
frames_after old frames (outbox pass) (handed more) mine = if is_pass_of old mine pass then frames ++ more else frames
frames_after old frames event answer mine = frames

-- each connection that is open after the step has a conversation, with what the step added
abbrev pub Keeps : State → Event → Answer → State → Type 0
Keeps old event answer new = (client : ClientId) (texts frames : List (List ℕ)) → IsTalk old client texts frames
    → IsTalk new client (texts_after old texts event answer client) (frames_after old frames event answer client)
