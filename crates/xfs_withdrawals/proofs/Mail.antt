-- What waits for a client, behind frames that are handed over or sent.
use Rattle.std.proofs.Common.{◌≡◌, ℕ, ◌==◌, Bool, true, false, cond, List, [], ◌++◌, Option, None, Some, MatchOption, option_map, map, find, refl, ap, sym, ◌∙◌, inl, inr}
use Rattle.std.proofs.lemmas.Bool.{cases_eq, eq-eqb, eqb-true, ne_eqb}
use Rattle.std.proofs.lemmas.List.{append-nil}
use Rattle.xfs_base.specs.declared.moment.ClientId.{ClientId}
use Rattle.xfs_base.specs.declared.moment.Service.TheVariants.{Cash}
use Rattle.xfs_model.specs.Connections.{connection_at, connection_of, is_at, is_client, sent, with_mail, without_mail}
use Rattle.xfs_model.specs.Conversations.{frames_after, is_pass_of}
use Rattle.xfs_model.specs.Events.{handed, outbox}
use Rattle.xfs_model.specs.State.{Connection, Pass, State}
use Rattle.xfs_model.specs.Step.{HandsOver}
use Rattle.xfs_model.proofs.Keeping.{IsOpen, is_open, same_client}
use Rattle.xfs_model.proofs.Lists.{find-map, found_passes}
use Rattle.xfs_model.proofs.Talks.{client_with_mail}
use Rattle.xfs_withdrawals.specs.Turning.{IsConnected}
use Rattle.std.proofs.lemmas.Option.{same_Some}

-- a client's connection behind a change of all connections
found_behind : (s new : State) (mine : ClientId) (f : Connection → Connection) (k : Connection) → ((j : Connection) → (f j).client ≡ j.client) → new.connections ≡ map f s.connections
    → connection_at s mine ≡ Some k → connection_at new mine ≡ Some (f k)
found_behind s new mine f k same is found =
    ap (λ ks. find (is_client mine) ks) is ∙ find-map (is_client mine) f (λ j. ap (λ (c : ClientId). c.0 == mine.0) (same j)) s.connections ∙ ap (λ o. option_map f o) found

-- the client of a connection that is found
named : (s : State) (mine : ClientId) (k : Connection) → connection_at s mine ≡ Some k → k.client.0 ≡ mine.0
named s mine k found = eqb-true _ _ (found_passes (is_client mine) s.connections k found)

-- frames for one client wait behind those that did
pub connected_sent : (s new : State) (mine : ClientId) (waiting frames : List (List ℕ)) → new.connections ≡ (sent s Cash mine frames).connections → IsConnected s mine waiting → IsConnected new mine (waiting ++ frames)
connected_sent s new mine waiting frames is h =
    let k = h.connection in
    let gets : is_at Cash mine k ≡ true = rw (h.service, found_passes (is_client mine) s.connections k h.found) refl in
    let it : with_mail (is_at Cash mine k) frames k ≡ record k { waiting = k.waiting ++ frames } = rw gets refl in
    record {
      connection = record k { waiting = k.waiting ++ frames };
      found = found_behind s new mine (λ j. with_mail (is_at Cash mine j) frames j) k (λ j. client_with_mail _ frames j) is h.found ∙ ap (λ (j : Connection). Some j) it;
      service = h.service;
      waits = ap (λ w. w ++ frames) h.waits;
    }

-- a change beside the connections
pub connected_same : (s new : State) (mine : ClientId) (waiting : List (List ℕ)) → new.connections ≡ s.connections → IsConnected s mine waiting → IsConnected new mine waiting
connected_same s new mine waiting is h = record { connection = h.connection; found = ap (λ ks. find (is_client mine) ks) is ∙ h.found; service = h.service; waits = h.waits }

-- what a client was handed by one outbox, of what waited for it, and what then waits; all else is as it was
pub record IsHanded (s : State) (pass : Pass) (more : List (List ℕ)) (new : State) (mine : ClientId) (waiting : List (List ℕ)) : Type 0 where
  pub left : List (List ℕ)
  pub connected : IsConnected new mine left
  pub all : frames_after s [] (outbox pass) (handed more) mine ++ left ≡ waiting
  pub connections : List Connection
  pub is : new ≡ record s { connections = connections }

emptied : (client : ClientId) (j : Connection) → (without_mail client j).client ≡ j.client
emptied client j = go (is_client client j)
  where
    go : (b : Bool) → (cond b (record j { waiting = [] }) j).client ≡ j.client
    go true = refl
    go false = refl

nothing_more : (b : Bool) (w : List (List ℕ)) → (cond {A = List (List ℕ)} b [] []) ++ w ≡ w
nothing_more true w = refl
nothing_more false w = refl

pub handed_on : (s : State) (pass : Pass) (more : List (List ℕ)) (new : State) (mine : ClientId) (waiting : List (List ℕ)) → HandsOver s pass more new → IsConnected s mine waiting → IsHanded s pass more new mine waiting
handed_on s pass more new mine waiting hands h = go (connection_of s pass) refl hands
  where
    j : Connection
    j = h.connection

    go : (o : Option Connection) → connection_of s pass ≡ o
        → MatchOption o ((more ≡ []) × (new ≡ s)) (λ k. (more ≡ k.waiting) × (new ≡ record s { connections = map (without_mail k.client) s.connections }))
        → IsHanded s pass more new mine waiting
    go None none is = record {
      left = waiting;
      connected = rw (is.1) h;
      all = rw (is.0) (nothing_more (is_pass_of s mine pass) waiting);
      connections = s.connections;
      is = is.1;
    }
    go (Some k) found is = elim (cases_eq k.client.0 mine.0) [
      | inl e ↦
          let it : j ≡ k = same_Some j k (sym h.found ∙ same_client s mine pass.client (sym e ∙ there.named) ∙ there.found) in
          let mail : more ≡ waiting = is.0 ∙ sym (ap (λ (c : Connection). c.waiting) it) ∙ h.waits in
          let me : is_pass_of s mine pass ≡ true = rw (there.boot, eq-eqb pass.client.0 mine.0 (sym there.named ∙ e)) refl in
          let empty : without_mail k.client j ≡ record j { waiting = [] } = rw (eq-eqb j.client.0 k.client.0 (named s mine j h.found ∙ sym e)) refl in
          record {
            left = [];
            connected = record { connection = record j { waiting = [] }; found = behind ∙ ap (λ (c : Connection). Some c) empty; service = h.service; waits = refl };
            all = rw me (append-nil more ∙ mail);
            connections = map (without_mail k.client) s.connections;
            is = is.1;
          }
      | inr differ ↦
          let me : is_pass_of s mine pass ≡ false = rw (there.boot, ne_eqb pass.client.0 mine.0 (λ e. differ (there.named ∙ e))) refl in
          let stays : without_mail k.client j ≡ j = rw (ne_eqb j.client.0 k.client.0 (λ e. differ (sym e ∙ named s mine j h.found))) refl in
          record {
            left = waiting;
            connected = record { connection = j; found = behind ∙ ap (λ (c : Connection). Some c) stays; service = h.service; waits = h.waits };
            all = rw me refl;
            connections = map (without_mail k.client) s.connections;
            is = is.1;
          }
    ]
      where
        there : IsOpen s pass k
        there = is_open s pass k (s.boot == pass.boot) refl found

        behind : connection_at new mine ≡ Some (without_mail k.client j)
        behind = found_behind s new mine (without_mail k.client) j (emptied k.client) (ap (λ (n : State). n.connections) (is.1)) h.found
