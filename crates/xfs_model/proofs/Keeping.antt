-- Each step keeps every conversation.
use Rattle.std.proofs.Common.{◌≡◌, ℕ, ◌+◌, ◌≤◌, ◌==◌, not, Bool, true, false, cond, MatchBool, MatchOption, List, [], ◌∷◌, ◌++◌, Option, None, Some, Result, Ok, Err, map, find, All, refl, ap, sym, ◌∙◌, inl, inr, arith}
use Rattle.std.specs.Option.{IfSome, option_or}
use Rattle.std.proofs.lemmas.Bool.{cases_Bool, and_parts, eqb-true, eq-eqb, ne_eqb, cases_eq, false≢true}
use Rattle.std.proofs.lemmas.List.{append-nil}
use Rattle.std.proofs.lemmas.List.Elements.{All-head, All-tail}
use Rattle.std.proofs.lemmas.List.Folds.{find-append}
use Rattle.xfs_base.specs.declared.moment.ClientId.{ClientId}
use Rattle.xfs_base.specs.declared.moment.Moment.{Moment}
use Rattle.xfs_base.specs.declared.moment.Service.{Service}
use Rattle.xfs_conversation.specs.Conversation.{Acknowledges, misread, misnumbered, crowded, accepted, Conversation, joined as begun, posted}
use Rattle.xfs_conversation.specs.Pending.{is_wrong_id, pending_of as known_as}
use Rattle.xfs_conversation.proofs.Immediate.{completed_at_once}
use Rattle.xfs_envelope.specs.Commands.{command_in}
use Rattle.xfs_envelope.specs.Commands as envelope
use Rattle.xfs_envelope.specs.Replies.{reply_in}
use Rattle.xfs_envelope.specs.declared.code.Status.TheVariants.{InvalidRequestId, TooManyRequests}
use Rattle.xfs_envelope.specs.declared.command.Refuse.{Refuse}
use Rattle.xfs_queue.specs.declared.command.Command.{Command}
use Rattle.xfs_queue.specs.Queue.{offered, without_client, is_crowded}
use Rattle.xfs_model.specs.declared.known.Known.{Known}
use Rattle.xfs_model.specs.Commands.{known_of, line_of}
use Rattle.xfs_model.specs.Connections.{connection_at, connection_of, is_at, is_client, is_service, left, sent, with_queue_at, without_mail}
use Rattle.xfs_model.specs.Conversations.{Talks, IsTalk, Keeps, texts_after, frames_after, is_pass_of}
use Rattle.xfs_model.specs.Events.{join, post, outbox, joined, done, handed}
use Rattle.xfs_model.specs.Immediate.{done_at_once}
use Rattle.xfs_model.specs.Kept.{IsMachine}
use Rattle.xfs_model.specs.Pendings.{pending_in}
use Rattle.xfs_model.specs.Posts.{Accepts, TakesText, TakesOn, Refuses, DoesAtOnce, job_of}
use Rattle.xfs_model.specs.State.{Connection, Job, Pass, State, queue_at}
use Rattle.xfs_model.specs.Step.{HandsOver, Joins, DropsClient, Posts, at_moment}
use Rattle.xfs_model.proofs.Lists.{found_passes, find-filter, find-dropped, IfSome-same}
use Rattle.xfs_model.proofs.Pendings.{pending_at_once, pending_push_mine, pending_push_other, pending_without_client}
use Rattle.xfs_model.proofs.Queues.{itself, queue_here, queue_same, queue_there}
use Rattle.xfs_model.proofs.Talks.{talk_after, talk_at_desk, sent_alone}
use Rattle.std.proofs.lemmas.Option.{same_Some, none-some}

pub same_client : (s : State) (mine client : ClientId) → mine.0 ≡ client.0 → connection_at s mine ≡ connection_at s client
same_client s mine client e = ap (λ n. find (λ k. k.client.0 == n) s.connections) e

at_itself : (k : Connection) → is_at k.service k.client k ≡ true
at_itself k = rw (itself k.service) (eq-eqb k.client.0 k.client.0 refl)

-- the connection of a pass that is open: the pass is of this boot, and names its client
pub record IsOpen (s : State) (pass : Pass) (k : Connection) : Type 0 where
  pub boot : (s.boot == pass.boot) ≡ true
  pub found : connection_at s pass.client ≡ Some k
  pub named : k.client.0 ≡ pass.client.0

pub is_open : (s : State) (pass : Pass) (k : Connection) (b : Bool) → (s.boot == pass.boot) ≡ b → cond b (connection_at s pass.client) None ≡ Some k → IsOpen s pass k
is_open s pass k true same found = record { boot = same; found = found; named = eqb-true _ _ (found_passes (is_client pass.client) s.connections k found) }
is_open s pass k false same found = absurd (none-some k found)

-- the pass is that of a client exactly where the connection is its
pass_is : (s : State) (pass : Pass) (k : Connection) (mine : ClientId) → IsOpen s pass k → is_pass_of s mine pass ≡ (k.client.0 == mine.0)
pass_is s pass k mine open_ = rw (open_.boot) (ap (λ n. n == mine.0) (sym open_.named))

-- a text of an open connection, and the frames that it is answered with at once
post_desk : (s : State) (pass : Pass) (text : List ℕ) (k : Connection) → connection_at s pass.client ≡ Some k → k.client.0 ≡ pass.client.0 → (frames : List (List ℕ)) (q : List (Command Job))
    → (mine : ClientId) (ts fs : List (List ℕ))
    → ((c : ClientId) → c.0 ≡ k.client.0 → (heard : List (List ℕ)) → Conversation ts heard (pending_in c (queue_at s k.service)) → Conversation (ts ++ text ∷ []) (heard ++ frames) (pending_in c q))
    → ((c : ClientId) → (k.client.0 == c.0) ≡ false → pending_in c q ≡ pending_in c (queue_at s k.service))
    → IsTalk s mine ts fs → IsTalk (with_queue_at (sent s k.service k.client frames) k.service q) mine (cond (k.client.0 == mine.0) (ts ++ text ∷ []) ts) fs
post_desk s pass text k found named_ frames q mine ts fs hears others h =
    talk_at_desk s k.service k.client frames q mine ts (cond (k.client.0 == mine.0) (ts ++ text ∷ []) ts) fs
    (λ j there named y talks.
    let same : j.client.0 ≡ k.client.0 = eqb-true _ _ ((and_parts _ _ y).1) in
    let me : (k.client.0 == mine.0) ≡ true = eq-eqb k.client.0 mine.0 (sym same ∙ named) in
    rw me (hears j.client same (fs ++ j.waiting) talks))
    (λ j there named n. elim (cases_eq k.client.0 mine.0) [
      | inl e ↦
          let it : j ≡ k = same_Some j k (sym there ∙ same_client s mine pass.client (sym e ∙ named_) ∙ found) in
          absurd (false≢true (sym n ∙ ap (is_at k.service k.client) it ∙ at_itself k))
      | inr differ ↦
          let other : (k.client.0 == mine.0) ≡ false = ne_eqb k.client.0 mine.0 differ in
          (rw other refl, λ y. others j.client (ne_eqb k.client.0 j.client.0 (λ e. differ (e ∙ named))))
    ]) h

-- the pending commands of the same client, by its number
pending_same : (c d : ClientId) (q : List (Command Job)) → c.0 ≡ d.0 → pending_in c q ≡ pending_in d q
pending_same c d q e = ap (λ n. pending_in (record { 0 = n }) q) e

-- the cases of a text, at a machine at the moment
module _ (s : State) (pass : Pass) (text : List ℕ) (k : Connection) (found : connection_at s pass.client ≡ Some k) (named : k.client.0 ≡ pass.client.0) (mine : ClientId) (ts fs : List (List ℕ)) (h : IsTalk s mine ts fs) where
  abbrev texts : List (List ℕ)
  texts = cond (k.client.0 == mine.0) (ts ++ text ∷ []) ts

  abbrev q : List (Command Job)
  q = queue_at s k.service

  -- a text that is acknowledged, and then these are pending
  acknowledged : (frame : List ℕ) → ((c : ClientId) → c.0 ≡ k.client.0 → Acknowledges (pending_in c q) (command_in text) (reply_in frame) (pending_in c q))
      → IsTalk (sent s k.service k.client (frame ∷ [])) mine texts fs
  acknowledged frame says = rw (sent_alone s k.service k.client (frame ∷ [])) (post_desk s pass text k found named (frame ∷ []) q mine ts fs
      (λ me same heard talks. posted talks text frame (says me same))
      (λ me other. refl) h)

  at_once : (c : envelope.Command) → command_in text ≡ Ok c → is_wrong_id (pending_in k.client q) c.id ≡ false → (new : State) → DoesAtOnce s k c new → IsTalk new mine texts fs
  at_once c reads right new is = rw (is.is) (post_desk s pass text k found named (is.reply ∷ is.last ∷ []) (done_at_once s k c).queue mine ts fs
      (λ me same heard talks. rw (pending_at_once me s k c) (completed_at_once ts heard (pending_in me q) text is.reply is.last talks (record {
        command = c;
        code = is.result.code;
        payload = is.result.payload;
        asks = reads;
        right = rw (pending_same me k.client q same) right;
        accepts = is.acknowledges.reads_back;
        completes = is.completes.reads_back;
      })))
      (λ me other. pending_at_once me s k c) h)

  accepts_ : (known : Known) (c : envelope.Command) → command_in text ≡ Ok c → is_wrong_id (pending_in k.client q) c.id ≡ false → (new : State) → Accepts s k known c new → IsTalk new mine texts fs
  accepts_ known c reads right new is =
      let a : Command Job = offered k.client c.id (line_of known) c.timeout s.now (job_of c.name is.ask) in
      rw (is.is) (post_desk s pass text k found named (is.reply ∷ []) (q ++ a ∷ []) mine ts fs
      (λ me same heard talks.
      let right_ : is_wrong_id (pending_in me q) c.id ≡ false = rw (pending_same me k.client q same) right in
      let says : Acknowledges (pending_in me q) (command_in text) (reply_in is.reply) (pending_in me q ++ known_as c ∷ []) = rw (reads, is.acknowledges.reads_back) (accepted c right_) in
      rw (pending_push_mine me q a (eq-eqb k.client.0 me.0 (sym same))) (posted talks text is.reply says))
      (λ me other. pending_push_other me q a other) h)

  takes_on : (c : envelope.Command) → command_in text ≡ Ok c → is_wrong_id (pending_in k.client q) c.id ≡ false → (known : Option Known) (new : State) → TakesOn s k c known new → IsTalk new mine texts fs
  takes_on c reads right None new is = at_once c reads right new is
  takes_on c reads right (Some known) new is = of_room (is_crowded q k.client) is
    where
      of_room : (b : Bool) → MatchBool b (Refuses s k (Some c.id) (Some c.name) TooManyRequests new) (Accepts s k known c new) → IsTalk new mine texts fs
      of_room true is = rw (is.is) (acknowledged is.reply (λ me same. rw (reads, is.acknowledges.reads_back) (crowded c (rw (pending_same me k.client q same) right))))
      of_room false is = accepts_ known c reads right new is

  pub takes : (says : Result envelope.Command Refuse) → command_in text ≡ says → (new : State) → TakesText s k says new → IsTalk new mine texts fs
  takes (Err refuse) reads new is = rw (is.is) (acknowledged is.reply (λ me same. rw (reads, is.acknowledges.reads_back) (misread refuse)))
  takes (Ok c) reads new is = of_id (is_wrong_id (pending_in k.client q) c.id) refl is
    where
      of_id : (b : Bool) → is_wrong_id (pending_in k.client q) c.id ≡ b
          → MatchBool b (Refuses s k (Some c.id) (Some c.name) InvalidRequestId new) (TakesOn s k c (known_of k.service c.name) new) → IsTalk new mine texts fs
      of_id true wrong is = rw (is.is) (acknowledged is.reply (λ me same. rw (reads, is.acknowledges.reads_back) (misnumbered c (rw (pending_same me k.client q same) wrong))))
      of_id false right is = takes_on c reads right (known_of k.service c.name) new is

-- where a pass has no connection, its client has none, or it is of another boot
shut_pass : (s : State) (pass : Pass) (mine : ClientId) (b : Bool) → (s.boot == pass.boot) ≡ b → cond b (connection_at s pass.client) None ≡ None
    → (is_pass_of s mine pass ≡ true → connection_at s mine ≡ None)
shut_pass s pass mine true same none y = same_client s mine pass.client (sym (eqb-true _ _ ((and_parts _ _ y).1))) ∙ none
shut_pass s pass mine false same none y = absurd (false≢true (sym same ∙ (and_parts _ _ y).0))

-- where it isn't open, nothing changes for anybody
unheard : (s : State) (pass : Pass) (mine : ClientId) (ts fs ts' fs' : List (List ℕ)) → connection_of s pass ≡ None → IsTalk s mine ts fs
    → IsTalk s mine (cond (is_pass_of s mine pass) ts' ts) (cond (is_pass_of s mine pass) fs' fs)
unheard s pass mine ts fs ts' fs' none h = elim (cases_Bool (is_pass_of s mine pass)) [
  | inl y ↦ rw (y, shut_pass s pass mine (s.boot == pass.boot) refl none y) tt
  | inr n ↦ rw n h
]

pub keeps_post : (old : State) (pass : Pass) (text : List ℕ) (now : Moment) (new : State) → Posts old pass text now new → Keeps old (post pass text now) done new
keeps_post old pass text now new is mine ts fs h = go (connection_of old pass) refl is
  where
    go : (o : Option Connection) → connection_of old pass ≡ o → MatchOption o (new ≡ old) (λ k. TakesText (at_moment old now) k (command_in text) new)
        → IsTalk new mine (texts_after old ts (post pass text now) done mine) fs
    go None none is = rw is (elim (cases_Bool (is_pass_of old mine pass)) [
      | inl y ↦ rw (y, shut_pass old pass mine (old.boot == pass.boot) refl none y) tt
      | inr n ↦ rw n h
    ])
    go (Some k) found is =
        let open_ = is_open old pass k (old.boot == pass.boot) refl found in
        rw (pass_is old pass k mine open_) (takes (at_moment old now) pass text k open_.found open_.named mine ts fs h (command_in text) refl new is)

-- the frames that wait are handed over
emptied : (client : ClientId) (b : Bool) (j : Connection) → (cond b (record j { waiting = [] }) j).client ≡ j.client
emptied client true j = refl
emptied client false j = refl

pub keeps_outbox : (old : State) (pass : Pass) (frames : List (List ℕ)) (new : State) → HandsOver old pass frames new → Keeps old (outbox pass) (handed frames) new
keeps_outbox old pass frames new is mine ts fs h = go (connection_of old pass) refl is
  where
    go : (o : Option Connection) → connection_of old pass ≡ o
        → MatchOption o ((frames ≡ []) × (new ≡ old)) (λ k. (frames ≡ k.waiting) × (new ≡ record old { connections = map (without_mail k.client) old.connections }))
        → IsTalk new mine ts (frames_after old fs (outbox pass) (handed frames) mine)
    go None none is = rw (is.1) (elim (cases_Bool (is_pass_of old mine pass)) [
      | inl y ↦ rw (y, shut_pass old pass mine (old.boot == pass.boot) refl none y) tt
      | inr n ↦ rw n h
    ])
    go (Some k) found is =
        let open_ = is_open old pass k (old.boot == pass.boot) refl found in
        rw (pass_is old pass k mine open_, is.1)
        (talk_after old (record old { connections = map (without_mail k.client) old.connections }) (without_mail k.client) (λ j. emptied k.client (is_client k.client j) j) refl
        mine ts fs ts (cond (k.client.0 == mine.0) (fs ++ frames) fs)
        (λ j there named talks. elim (cases_eq k.client.0 mine.0) [
          | inl e ↦
              let it : j ≡ k = same_Some j k (sym there ∙ same_client old mine pass.client (sym e ∙ open_.named) ∙ open_.found) in
              let mail : j.waiting ≡ frames = ap (λ (c : Connection). c.waiting) it ∙ sym (is.0) in
              let me : (k.client.0 == mine.0) ≡ true = eq-eqb k.client.0 mine.0 e in
              let here : is_client k.client j ≡ true = eq-eqb j.client.0 k.client.0 (named ∙ sym e) in
              rw (me, here) (rw (append-nil (fs ++ frames)) (rw mail at talks))
          | inr differ ↦
              let me : (k.client.0 == mine.0) ≡ false = ne_eqb k.client.0 mine.0 differ in
              let there_ : is_client k.client j ≡ false = ne_eqb j.client.0 k.client.0 (λ e. differ (sym e ∙ named)) in
              rw (me, there_) talks
        ]) h)

-- a client that leaves takes its commands along
pub keeps_leave : (old : State) (pass : Pass) (new : State) → DropsClient old pass new → (mine : ClientId) (ts fs : List (List ℕ)) → IsTalk old mine ts fs → IsTalk new mine ts fs
keeps_leave old pass new is mine ts fs h = go (connection_of old pass) refl is
  where
    go : (o : Option Connection) → connection_of old pass ≡ o → MatchOption o (new ≡ old) (λ k. new ≡ left old k) → IsTalk new mine ts fs
    go None none is = rw is h
    go (Some k) found is = rw is (elim (cases_eq k.client.0 mine.0) [
      | inl e ↦ rw (find-dropped (is_client mine) (λ j. not (is_client k.client j)) (λ j y. ap not (eq-eqb j.client.0 k.client.0 (eqb-true _ _ y ∙ sym e))) old.connections) tt
      | inr differ ↦
          let stays : (j : Connection) → is_client mine j ≡ true → not (is_client k.client j) ≡ true = λ j y. ap not (ne_eqb j.client.0 k.client.0 (λ e. differ (sym e ∙ eqb-true _ _ y))) in
          rw (find-filter (is_client mine) (λ j. not (is_client k.client j)) stays old.connections)
          (IfSome-same (connection_at old mine) (Talks old ts fs) (Talks (left old k) ts fs) (λ j there talks. elim (cases_Bool (is_service k.service j.service)) [
            | inl y ↦
                let named : j.client.0 ≡ mine.0 = eqb-true _ _ (found_passes (is_client mine) old.connections j there) in
                let other : (k.client.0 == j.client.0) ≡ false = ne_eqb k.client.0 j.client.0 (λ e. differ (e ∙ named)) in
                rw (queue_here old.queues k.service j.service (without_client (queue_at old k.service) k.client) y, pending_without_client j.client k.client other (queue_at old k.service))
                (rw (queue_same old.queues k.service j.service y) at talks)
            | inr m ↦ rw (queue_there old.queues k.service j.service (without_client (queue_at old k.service) k.client) m) talks
          ]) h)
    ])

-- a number that wasn't given yet has no connection and no command
pub new_number : (a b n : ℕ) → a ≤ n → b ≡ n + 1 → (a == b) ≡ false
new_number a b n within e = ne_eqb a b (λ same. absurd (omega arith))

not_connected : (client : ClientId) (given : ℕ) → client.0 ≡ given + 1 → (ks : List Connection) → All (λ k. k.client.0 ≤ given) ks → find (is_client client) ks ≡ None
not_connected client given e [] all = refl
not_connected client given e (k ∷ ks) all =
    rw (new_number k.client.0 client.0 given (All-head (λ k. k.client.0 ≤ given) k ks all) e) (not_connected client given e ks (All-tail (λ k. k.client.0 ≤ given) k ks all))

not_pending : (client : ClientId) (given : ℕ) → client.0 ≡ given + 1 → (q : List (Command Job)) → All (λ a. a.client.0 ≤ given) q → pending_in client q ≡ []
not_pending client given e [] all = refl
not_pending client given e (a ∷ q) all =
    rw (new_number a.client.0 client.0 given (All-head (λ a. a.client.0 ≤ given) a q all) e) (not_pending client given e q (All-tail (λ a. a.client.0 ≤ given) a q all))

pub keeps_join : (old : State) (service : Service) (pass : Pass) (new : State) → IsMachine old → Joins old service pass new → Keeps old (join service) (joined pass) new
keeps_join old service pass new numbers is mine ts fs h =
    rw (is.is, is.boot) (rw (find-append (is_client mine) old.connections (k ∷ [])) (elim (cases_eq pass.client.0 mine.0) [
      | inl e ↦
          let none = same_client old mine pass.client (sym e) ∙ not_connected pass.client old.given is.client old.connections numbers.connections in
          let quiet = not_pending pass.client old.given is.client (queue_at old service) (numbers.commands service) in
          let here : (pass.client.0 == mine.0) ≡ true = eq-eqb pass.client.0 mine.0 e in
          let boots : (old.boot == old.boot) ≡ true = eq-eqb old.boot old.boot refl in
          rw (none, here, boots, quiet) begun
      | inr differ ↦
          let there : (pass.client.0 == mine.0) ≡ false = ne_eqb pass.client.0 mine.0 differ in
          let boots : (old.boot == old.boot) ≡ true = eq-eqb old.boot old.boot refl in
          rw (there, boots) (go (connection_at old mine) h)
    ]))
  where
    k : Connection
    k = record { client = pass.client; service = service; waiting = [] }

    go : (o : Option Connection) → IfSome o (Talks old ts fs) → IfSome (option_or o None) (Talks old ts fs)
    go None h = tt
    go (Some k) h = h
