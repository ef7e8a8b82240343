-- What each change of the machine adds to a connection's conversation.
use Rattle.std.proofs.Common.{◌≡◌, ℕ, ◌==◌, Bool, true, false, List, [], ◌∷◌, ◌++◌, Some, map, find, Contains, refl, ap, sym, inl, inr, append_assoc}
use Rattle.std.proofs.lemmas.Bool.{cases_Bool, and_parts, eqb-true}
use Rattle.std.proofs.lemmas.List.{append-nil}
use Rattle.serde_json.specs.Data.{Data}
use Rattle.xfs_base.specs.declared.moment.ClientId.{ClientId}
use Rattle.xfs_base.specs.declared.moment.Service.{Service}
use Rattle.xfs_conversation.specs.Conversation.{Says, completed, told, announced as unsolicited_, Conversation, heard}
use Rattle.xfs_conversation.specs.Pending.{Pending, without_id}
use Rattle.xfs_envelope.specs.declared.code.Code.{Code}
use Rattle.xfs_envelope.specs.Replies.{reply_in}
use Rattle.xfs_queue.specs.declared.command.Command.{Command}
use Rattle.xfs_queue.specs.Commands.{ticket_of, is_of}
use Rattle.xfs_queue.specs.Queue.{without}
use Rattle.xfs_model.specs.Connections.{is_service, is_client, is_at, with_mail, connection_at, with_queue_at, sent, announced}
use Rattle.xfs_model.specs.Conversations.{Talks, IsTalk}
use Rattle.xfs_model.specs.Frames.{AreEvents, IsCompletion, IsUnsolicited, Notice}
use Rattle.xfs_model.specs.Pendings.{job_pending, pending_in}
use Rattle.xfs_model.specs.State.{Connection, Job, State, queue_at}
use Rattle.xfs_model.proofs.Lists.{find-map, found_passes, IfSome-map, IfSome-same}
use Rattle.xfs_model.proofs.Pendings.{pending_found, pending_without_mine, pending_without_other}
use Rattle.xfs_model.proofs.Queues.{queue_here, queue_same, queue_there, with_same_queue}
use Rattle.xfs_model.proofs.Changes.{rest_of}
use Rattle.xfs_conversation.proofs.Once.{other_way}

pub client_with_mail : (b : Bool) (frames : List (List ℕ)) (k : Connection) → (with_mail b frames k).client ≡ k.client
client_with_mail true frames k = refl
client_with_mail false frames k = refl

-- a step that goes through the connections keeps each one's conversation where it does so at the one
pub talk_after : (s s' : State) (f : Connection → Connection) → ((k : Connection) → (f k).client ≡ k.client) → s'.connections ≡ map f s.connections
    → (mine : ClientId) (ts fs ts' fs' : List (List ℕ))
    → ((k : Connection) → connection_at s mine ≡ Some k → k.client.0 ≡ mine.0 → Talks s ts fs k → Talks s' ts' fs' (f k))
    → IsTalk s mine ts fs → IsTalk s' mine ts' fs'
talk_after s s' f same is mine ts fs ts' fs' step h =
    rw (is, find-map (is_client mine) f (λ k. ap (λ c. c.0 == mine.0) (same k)) s.connections)
    (IfSome-map (connection_at s mine) f (Talks s ts fs) (Talks s' ts' fs') (λ k found. step k found (eqb-true _ _ (found_passes (is_client mine) s.connections k found))) h)

-- a change at one service, of which one connection hears
desk : (s : State) (service : Service) (client : ClientId) (frames : List (List ℕ)) (q : List (Command Job)) (k : Connection) (ts ts' fs : List (List ℕ))
    → (is_at service client k ≡ true → Conversation ts (fs ++ k.waiting) (pending_in k.client (queue_at s service)) → Conversation ts' ((fs ++ k.waiting) ++ frames) (pending_in k.client q))
    → (is_at service client k ≡ false → (ts' ≡ ts) × (is_service service k.service ≡ true → pending_in k.client q ≡ pending_in k.client (queue_at s service)))
    → (b : Bool) → is_at service client k ≡ b → Talks s ts fs k → Talks (with_queue_at (sent s service client frames) service q) ts' fs (with_mail b frames k)
desk s service client frames q k ts ts' fs mine others true y h =
    let parts = and_parts _ _ y in
    let spoken = mine y (rw (queue_same s.queues service k.service parts.0) at h) in
    rw (queue_here s.queues service k.service q parts.0) (rw append_assoc at spoken)
desk s service client frames q k ts ts' fs mine others false n h =
    let same = others n in
    elim (cases_Bool (is_service service k.service)) [
      | inl y ↦ rw (same.0, queue_here s.queues service k.service q y, same.1 y) (rw (queue_same s.queues service k.service y) at h)
      | inr m ↦ rw (same.0, queue_there s.queues service k.service q m) h
    ]

pub talk_at_desk : (s : State) (service : Service) (client : ClientId) (frames : List (List ℕ)) (q : List (Command Job)) (mine : ClientId) (ts ts' fs : List (List ℕ))
    → ((k : Connection) → connection_at s mine ≡ Some k → k.client.0 ≡ mine.0 → is_at service client k ≡ true
    → Conversation ts (fs ++ k.waiting) (pending_in k.client (queue_at s service)) → Conversation ts' ((fs ++ k.waiting) ++ frames) (pending_in k.client q))
    → ((k : Connection) → connection_at s mine ≡ Some k → k.client.0 ≡ mine.0 → is_at service client k ≡ false
    → (ts' ≡ ts) × (is_service service k.service ≡ true → pending_in k.client q ≡ pending_in k.client (queue_at s service)))
    → IsTalk s mine ts fs → IsTalk (with_queue_at (sent s service client frames) service q) mine ts' fs
talk_at_desk s service client frames q mine ts ts' fs here there h =
    talk_after s (with_queue_at (sent s service client frames) service q) (λ k. with_mail (is_at service client k) frames k) (λ k. client_with_mail _ frames k) refl mine ts fs ts' fs
    (λ k found named talks. desk s service client frames q k ts ts' fs (here k found named) (there k found named) (is_at service client k) refl talks) h

-- an announcement
announced_at : (s : State) (service : Service) (frame name : List ℕ) (payload : Data) → IsUnsolicited name payload frame
    → (ts fs : List (List ℕ)) (k : Connection) (b : Bool) → Talks s ts fs k → Talks (announced s service (Some frame)) ts fs (with_mail b (frame ∷ []) k)
announced_at s service frame name payload is ts fs k true h =
    let says : Says (pending_in k.client (queue_at s k.service)) (reply_in frame) (pending_in k.client (queue_at s k.service)) = rw is.reads_back (unsolicited_ name payload) in
    rw append_assoc at (heard h frame says)
announced_at s service frame name payload is ts fs k false h = h

pub talk_announced : (s : State) (service : Service) (frame name : List ℕ) (payload : Data) → IsUnsolicited name payload frame
    → (mine : ClientId) (ts fs : List (List ℕ)) → IsTalk s mine ts fs → IsTalk (announced s service (Some frame)) mine ts fs
talk_announced s service frame name payload is mine ts fs h =
    talk_after s (announced s service (Some frame)) (λ k. with_mail (is_service service k.service) (frame ∷ []) k) (λ k. client_with_mail _ (frame ∷ []) k) refl mine ts fs ts fs
    (λ k found named talks. announced_at s service frame name payload is ts fs k (is_service service k.service) talks) h

-- what the one connection hears: the events of a command that is pending
told_all : (p : Pending) (ts fs : List (List ℕ)) (pending : List Pending) → Contains pending p → (notices : List Notice) (events : List (List ℕ)) → AreEvents p.id notices events
    → Conversation ts fs pending → Conversation ts (fs ++ events) pending
told_all p ts fs pending has [] [] are h = rw (append-nil fs) h
told_all p ts fs pending has [] (e ∷ events) are h = absurd are
told_all p ts fs pending has (n ∷ notices) [] are h = absurd are
told_all p ts fs pending has (n ∷ notices) (e ∷ events) are h =
    let says : Says pending (reply_in e) pending = rw (are.0.reads_back) (told p n.name n.payload has) in
    rw append_assoc at (told_all p ts (fs ++ e ∷ []) pending has notices events are.1 (heard h e says))

pub heard_events : (mine : ClientId) (p : Command Job → Bool) (q : List (Command Job)) (a : Command Job) → find p q ≡ Some a → is_of mine a ≡ true
    → (notices : List Notice) (events : List (List ℕ)) → AreEvents a.id notices events → (ts fs : List (List ℕ)) → Conversation ts fs (pending_in mine q) → Conversation ts (fs ++ events) (pending_in mine q)
heard_events mine p q a found y notices events are ts fs h = told_all (job_pending a) ts fs (pending_in mine q) (pending_found mine p q a found y) notices events are h

pub heard_completion : (mine : ClientId) (p : Command Job → Bool) (q : List (Command Job)) (a : Command Job) → find p q ≡ Some a → is_of mine a ≡ true
    → (code : Code) (payload : Data) (frame : List ℕ) → IsCompletion a.id a.job.name code payload frame → (ts fs : List (List ℕ)) → Conversation ts fs (pending_in mine q)
    → Conversation ts (fs ++ frame ∷ []) (pending_in mine (without q (ticket_of a)))
heard_completion mine p q a found y code payload frame is ts fs h =
    let says : Says (pending_in mine q) (reply_in frame) (without_id a.id (pending_in mine q)) = rw is.reads_back (completed (job_pending a) code payload (pending_found mine p q a found y)) in
    rw (pending_without_mine mine (ticket_of a) (eqb-true _ _ y) q) (heard h frame says)

addressed : (service : Service) (a : Command Job) (k : Connection) → is_at service a.client k ≡ true → is_of k.client a ≡ true
addressed service a k y = other_way k.client.0 a.client.0 true ((and_parts _ _ y).1)

not_addressed : (service : Service) (a : Command Job) (k : Connection) → is_at service a.client k ≡ false → is_service service k.service ≡ true → is_of k.client a ≡ false
not_addressed service a k n y = other_way k.client.0 a.client.0 false (rest_of _ _ y n)

-- a queue that changes, but for what is pending
pub talk_requeued : (s : State) (service : Service) (q : List (Command Job)) → ((c : ClientId) → pending_in c q ≡ pending_in c (queue_at s service))
    → (mine : ClientId) (ts fs : List (List ℕ)) → IsTalk s mine ts fs → IsTalk (with_queue_at s service q) mine ts fs
talk_requeued s service q same mine ts fs h =
    IfSome-same (connection_at s mine) (Talks s ts fs) (Talks (with_queue_at s service q) ts fs) (λ k found talks. elim (cases_Bool (is_service service k.service)) [
      | inl y ↦ rw (queue_here s.queues service k.service q y, same k.client) (rw (queue_same s.queues service k.service y) at talks)
      | inr m ↦ rw (queue_there s.queues service k.service q m) talks
    ]) h

-- a command that is answered
pub talk_completed : (s : State) (service : Service) (p : Command Job → Bool) (a : Command Job) → find p (queue_at s service) ≡ Some a
    → (code : Code) (payload : Data) (frame : List ℕ) → IsCompletion a.id a.job.name code payload frame → (mine : ClientId) (ts fs : List (List ℕ))
    → IsTalk s mine ts fs → IsTalk (with_queue_at (sent s service a.client (frame ∷ [])) service (without (queue_at s service) (ticket_of a))) mine ts fs
talk_completed s service p a found code payload frame is mine ts fs h =
    talk_at_desk s service a.client (frame ∷ []) (without (queue_at s service) (ticket_of a)) mine ts ts fs
    (λ k at named y talks. heard_completion k.client p (queue_at s service) a found (addressed service a k y) code payload frame is ts (fs ++ k.waiting) talks)
    (λ k at named n. (refl, λ y. pending_without_other k.client (ticket_of a) (not_addressed service a k n y) (queue_at s service))) h

pub sent_alone : (s : State) (service : Service) (client : ClientId) (frames : List (List ℕ)) → sent s service client frames ≡ with_queue_at (sent s service client frames) service (queue_at s service)
sent_alone s service client frames = ap (λ qs. record (sent s service client frames) { queues = qs }) (sym (with_same_queue s.queues service))

-- a command hears events, and then stands in its queue as one of the same client, id and name
pub talk_heard : (s : State) (service : Service) (p : Command Job → Bool) (a : Command Job) → find p (queue_at s service) ≡ Some a
    → (notices : List Notice) (events : List (List ℕ)) → AreEvents a.id notices events
    → (q : List (Command Job)) → ((c : ClientId) → pending_in c q ≡ pending_in c (queue_at s service)) → (mine : ClientId) (ts fs : List (List ℕ))
    → IsTalk s mine ts fs → IsTalk (with_queue_at (sent s service a.client events) service q) mine ts fs
talk_heard s service p a found notices events are q same mine ts fs h =
    talk_at_desk s service a.client events q mine ts ts fs
    (λ k at named y talks. rw (same k.client) (heard_events k.client p (queue_at s service) a found (addressed service a k y) notices events are ts (fs ++ k.waiting) talks))
    (λ k at named n. (refl, λ y. same k.client)) h
