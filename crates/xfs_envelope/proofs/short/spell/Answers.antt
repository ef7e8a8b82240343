use Rattle.std.proofs.Common.{◌∙◌, append-nil, refl}
use Rattle.xfs_envelope.proofs.short.spell.Goals as goal

pub returns : goal.returns
returns c = c.in_ok-push_all.ensures ∙ rw (c.in_ok-text.ensures.bytes, c.format-id.ensures.text, append-nil c.args.end.now) refl
