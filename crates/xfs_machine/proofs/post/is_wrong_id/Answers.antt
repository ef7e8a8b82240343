use Rattle.std.proofs.Common.{None, Some, ap, sym, ◌∙◌}
use Rattle.xfs_queue.specs.declared.command.OfferFault.{OfferFault}
use Rattle.xfs_queue.specs.declared.command.OfferFault.TheVariants.{Busy, TooMany, Memory}
use Rattle.xfs_machine.proofs.Posting.{wrong}
use Rattle.xfs_machine.proofs.post.is_wrong_id.Goals as goal

pub returns-in-Some-Busy : goal.returns-in-Some-Busy
returns-in-Some-Busy c = λ q client is. wrong q client c.args.id (sym c.is_request_id.ensures ∙ c.if-not-is_request_id.false) (Some Busy) (sym (c.in-Some-Busy.is ∙ ap (λ (f : OfferFault). Some f) (rw c.in-Some-Busy.is at c.in-Some-Busy.field-0-is)) ∙ is)

pub returns-in-Some-TooMany : goal.returns-in-Some-TooMany
returns-in-Some-TooMany c = λ q client is. wrong q client c.args.id (sym c.is_request_id.ensures ∙ c.if-not-is_request_id.false) (Some TooMany) (sym (c.in-Some-TooMany.is ∙ ap (λ (f : OfferFault). Some f) (rw c.in-Some-TooMany.is at c.in-Some-TooMany.field-0-is)) ∙ is)

pub returns-in-Some-Memory : goal.returns-in-Some-Memory
returns-in-Some-Memory c = λ q client is. wrong q client c.args.id (sym c.is_request_id.ensures ∙ c.if-not-is_request_id.false) (Some Memory) (sym (c.in-Some-Memory.is ∙ ap (λ (f : OfferFault). Some f) (rw c.in-Some-Memory.is at c.in-Some-Memory.field-0-is)) ∙ is)

pub returns-in-None : goal.returns-in-None
returns-in-None c = λ q client is. wrong q client c.args.id (sym c.is_request_id.ensures ∙ c.if-not-is_request_id.false) None (sym c.in-None.is ∙ is)
