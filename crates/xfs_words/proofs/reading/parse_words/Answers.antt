use Rattle.std.proofs.Common.{◌≡◌, ◌∙◌, ap, sym, true, true≢false}
use Rattle.clap.specs.Words.{app_of, kind_of, subcommand_of}
use Rattle.clap.specs.Simple.{is_simple}
use Rattle.clap.specs.Faults.{is_simple_and_free}
use Rattle.clap.specs.declared.error.kind.ErrorKind.TheVariants.{OutOfMemory}
use Rattle.clap.proofs.WalkLemmas.{both}
use Rattle.xfs_words.specs.Words.{texts}
use Rattle.xfs_words.proofs.ClapLaws.{memory_alone, simple_table, table_taken}
use Rattle.xfs_words.proofs.reading.parse_words.Goals as goal

pub returns-in-Ok-clause-ok : goal.returns-in-Ok-clause-ok
returns-in-Ok-clause-ok c =
    table_taken (app_of c.in_ok-table.field-0) (texts c.args.words.now) c.in_ok-table.ensures
    (c.in-Ok.ensures.kinds (ap is_simple_and_free c.in_ok-table.ensures ∙ simple_table))

pub returns-in-Ok-clause-rows : goal.returns-in-Ok-clause-rows
returns-in-Ok-clause-rows c =
    let simple : is_simple (app_of c.in_ok-table.field-0) ≡ true = ap is_simple c.in_ok-table.ensures ∙ (both _ _ simple_table).0 in
    (c.in-Ok.ensures.matches simple).1 ∙ ap (λ a. subcommand_of a (texts c.args.words.now)) c.in_ok-table.ensures

pub returns-clause-usage : goal.returns-clause-usage
returns-clause-usage c = λ _ none.
    let memory : kind_of c.in-Err.error ≡ OutOfMemory = memory_alone (app_of c.in_ok-table.field-0) (texts c.args.words.now) c.in-Err.error c.in_ok-table.ensures none
    (c.in-Err.ensures.kinds (ap is_simple_and_free c.in_ok-table.ensures ∙ simple_table)) in
    let same : c.eq.result ≡ true = rw (c.kind.ensures ∙ memory) at c.eq.ensures in
    absurd (true≢false (sym same ∙ c.if-eq.false))
