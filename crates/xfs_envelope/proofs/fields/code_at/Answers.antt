use Rattle.std.proofs.Common.{codes, sym, ◌∙◌, ap, Ok, option_map}
use Rattle.serde_json.specs.View.{view}
use Rattle.xfs_json.specs.Members.{member_of, shaped}
use Rattle.xfs_envelope.specs.Codes.{code_of}
use Rattle.xfs_envelope.proofs.FieldLaws.{text_as}
use Rattle.xfs_envelope.proofs.fields.code_at.Goals as goal

pub returns-in-Some : goal.returns-in-Some
returns-in-Some c = sym (text_as code_of (member_of (codes "completionCode") (view c.args.header.now)) c.in-Ok-Some.text.now (ap (λ t. Ok (option_map (λ r. r.now) t)) (sym c.in-Ok-Some.field-0-is) ∙ c.in-Ok-Some.ensures) ∙ ap shaped (sym c.in-Some.ensures))

pub returns-in-None : goal.returns-in-None
returns-in-None c = sym (text_as code_of (member_of (codes "completionCode") (view c.args.header.now)) c.in-Ok-Some.text.now (ap (λ t. Ok (option_map (λ r. r.now) t)) (sym c.in-Ok-Some.field-0-is) ∙ c.in-Ok-Some.ensures) ∙ ap shaped (sym c.in-None.ensures))
