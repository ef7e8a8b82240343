use Rattle.std.proofs.Common.{refl, sym, ◌∙◌}
use Rattle.xfs_audit.proofs.Stepping.{text-misread}
use Rattle.xfs_audit.proofs.rest.Rest.answer_refused.Goals as goal

pub returns-else-not-is_invalid_message : goal.returns-else-not-is_invalid_message
returns-else-not-is_invalid_message c = record {
  left = refl;
  known = c.in_default.not-Memory;
  ways = λ ids. text-misread ids c.args.refuse c.args.status c.args.self.now.ways.items (sym c.is_invalid_message.ensures ∙ c.if-not-is_invalid_message.false);
}
