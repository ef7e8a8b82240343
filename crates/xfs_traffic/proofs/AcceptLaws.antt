-- A command is taken in, by what was sent and what was done with the pending commands.
use Rattle.std.proofs.Common.{◌≡◌, ℕ, Bool, true, false, List, [], ◌∷◌, None, Some, refl, ap, sym, ◌∙◌}
use Rattle.std.specs.Prelude.{if◌then◌else◌}
use Rattle.std.specs.List.{list_any}
use Rattle.xfs_base.specs.declared.moment.Moment.{Moment}
use Rattle.xfs_envelope.specs.Commands as envelope
use Rattle.xfs_traffic.specs.declared.accepting.Sender.{Sender}
use Rattle.xfs_model.specs.Commands.{Asks, line_of}
use Rattle.xfs_model.specs.declared.known.Known.{Known}
use Rattle.xfs_model.specs.Frames.{IsAcknowledge}
use Rattle.xfs_model.specs.Posts.{Accepts, job_of}
use Rattle.xfs_model.specs.State.{Ask, Connection, Job, State}
use Rattle.xfs_traffic.specs.Jobs.{with_last}
use Rattle.xfs_traffic.specs.Parts.{with_traffic}
use Rattle.xfs_queue.specs.Queue.{is_crowded, offer_fault, offered}
use Rattle.xfs_queue.specs.declared.command.OfferFault.TheVariants.{Busy, TooMany}
use Rattle.xfs_traffic.specs.Senders.{mailed}
use Rattle.xfs_traffic.specs.declared.traffic.Traffic.{Traffic}
use Rattle.xfs_queue.specs.declared.command.Command.{Command}
use Rattle.xfs_queue.specs.Commands.{is_at as is_at_ticket}
use Rattle.xfs_base.specs.declared.moment.ClientId.{ClientId}

module _ (s : State) (k : Connection) (sender : Sender) (client : k.client ≡ sender.client) (service : k.service ≡ sender.service) where
  pub accepts : (now : Moment) → s.now ≡ now → (c : envelope.Command) (command : Known) (ask : Ask) (reply : List ℕ) (old new : Traffic) → IsAcknowledge (Some c.id) (Some c.name) None reply → Asks command c.payload ask
      → new.connections ≡ mailed sender (reply ∷ []) old.connections → new.queues ≡ with_last old.queues sender.service (offered sender.client c.id (line_of command) c.timeout now (job_of c.name ask))
      → Accepts (with_traffic s old) k command c (with_traffic s new)
  accepts now at c command ask reply old new acknowledges asks e f = record {
    reply = reply;
    ask = ask;
    acknowledges = acknowledges;
    asks = asks;
    is = rw (client, service) (ap (λ ks. with_traffic s (record new { connections = ks })) e
        ∙ ap (λ qs. with_traffic s (record { connections = mailed sender (reply ∷ []) old.connections; queues = qs })) (f ∙ ap (λ m. with_last old.queues sender.service (offered sender.client c.id (line_of command) c.timeout m (job_of c.name ask))) (sym at)));
  }

-- a command that nothing stands against is not pending
pub unheld : (q : List (Command Job)) (client : ClientId) (id : ℕ) → offer_fault q client id ≡ None → list_any (is_at_ticket record { client = client; id = id }) q ≡ false
unheld q client id none = go (list_any (is_at_ticket record { client = client; id = id }) q) (is_crowded q client) none
  where
    go : (a b : Bool) → (if a then Some Busy else if b then Some TooMany else None) ≡ None → a ≡ false
    go true b e = absurd cc
    go false b e = refl
