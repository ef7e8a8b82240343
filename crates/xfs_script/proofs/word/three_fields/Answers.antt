use Rattle.std.proofs.Common.{sym, ◌∙◌}
use Rattle.xfs_script.proofs.FieldLists.{parts_some, parts_more, no_three}
use Rattle.xfs_script.proofs.word.three_fields.Goals as goal

pub returns-then-is_some-clause-none : goal.returns-then-is_some-clause-none
returns-then-is_some-clause-none c =
    no_three c.args.text.now c.in_ok-behind.field-0.now c.in_ok-behind-2.field-0.now c.cut.result.0.now c.cut-2.result.0.now
    (parts_some c.args.text.now c.cut.result.0.now c.cut.result.1 c.in_ok-behind.field-0 c.in_ok-behind.was c.cut.ensures.parts)
    (parts_some c.in_ok-behind.field-0.now c.cut-2.result.0.now c.cut-2.result.1 c.in_ok-behind-2.field-0 c.in_ok-behind-2.was c.cut-2.ensures.parts)
    (parts_more c.in_ok-behind-2.field-0.now c.cut-3.result.0.now c.cut-3.result.1 (let h1 = c.is_some.ensures in let h2 = c.if-is_some.true in let h3 = c.if-is_some.ensures in sym c.is_some.ensures ∙ c.if-is_some.true) c.cut-3.ensures.parts)
