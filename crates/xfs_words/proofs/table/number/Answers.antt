use Rattle.std.proofs.Common.{ap, true}
use Rattle.std.specs.Prelude.{Some, codes}
use Rattle.clap.specs.Words.{Rule, rule_of}
use Rattle.clap.specs.declared.builder.action.ArgAction.TheVariants.{Set}
use Rattle.clap.specs.declared.builder.value_parser.ValueParser.{ValueParser}
use Rattle.xfs_words.proofs.table.number.Goals as goal

pub returns-clause-rule : goal.returns-clause-rule
returns-clause-rule c =
    let given = c.value_parser.ensures.given in
    let made = λ (p : ValueParser) (r : Rule). record r { action = Some Set; required = true; parser = Some p } in
    rw (c.value_parser.ensures.others, given.1, given.2, c.action.ensures, c.required.ensures) (ap (made c.args.parser) c.new.ensures.rule)

pub returns-clause-global : goal.returns-clause-global
returns-clause-global c = rw (c.value_parser.ensures.others, c.action.ensures, c.required.ensures) c.new.ensures.optional.1
