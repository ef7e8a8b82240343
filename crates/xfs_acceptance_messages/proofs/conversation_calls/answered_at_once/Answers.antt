use Rattle.std.proofs.Common.{◌≡◌, ℕ, true, List, [], ◌∷◌, None, Some, refl, ◌∙◌, sym}
use Rattle.std.specs.declared.result.Result.TheVariants.{Ok}
use Rattle.serde_json.specs.Data.{Data}
use Rattle.xfs_envelope.specs.declared.code.Code.{Code}
use Rattle.xfs_envelope.specs.declared.code.Code.TheVariants.{Success}
use Rattle.xfs_envelope.specs.Commands.{Command, command_in, said}
use Rattle.xfs_envelope.specs.Replies.{reply_in, acknowledge, completion}
use Rattle.xfs_conversation.specs.Conversation.{Conversation, joined}
use Rattle.xfs_conversation.specs.Pending.{is_request_id}
use Rattle.xfs_conversation.proofs.Immediate.{completed_at_once}
use Rattle.xfs_acceptance_messages.proofs.conversation_calls.answered_at_once.Goals as goal

-- the first exchange of a connection
pub first_exchange : (text first second : List ℕ) (c : Command) (code : Code) (payload : Data) → command_in text ≡ Ok c → is_request_id c.id ≡ true
    → reply_in first ≡ Some (acknowledge (Some c.id) (Some c.name) None) → reply_in second ≡ Some (completion c.id c.name code payload)
    → Conversation (text ∷ []) (first ∷ second ∷ []) []
first_exchange text first second c code payload asks usable accepts completes = completed_at_once [] [] [] text first second joined record {
  command = c;
  code = code;
  payload = payload;
  asks = asks;
  right = rw usable refl;
  accepts = accepts;
  completes = completes;
}

pub returns-in-Ok-Ok : goal.returns-in-Ok-Ok
returns-in-Ok-Ok c = first_exchange c.args.text.now c.in-Ok-Ok.first.items c.in-Ok-Ok.second.items (said c.in-Ok.command) Success _ c.in-Ok.ensures.ok (sym c.is_request_id.ensures ∙ c.if-not-is_request_id.false) (rw c.in-Ok-Ok.is-0 at c.acknowledge-first.ensures.reads_back) (rw c.in-Ok-Ok.is-1 at c.completion-second.ensures.reads_back)
