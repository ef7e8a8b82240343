use Rattle.std.proofs.Common.{rules, ◌≡◌, ◌∙◌, IfErr, ap, sym, true, is_some, true≢false}
use Rattle.std.proofs.lemmas.Result.{IfErr-weaker}
use Rattle.clap.specs.Words.{found_of, rows_of}
use Rattle.xfs_words.specs.Table.{is_plain}
use Rattle.xfs_words.specs.Words.{texts}
use Rattle.xfs_words.proofs.WordsLaws.{always_found, answer_err, answer_ok, answer_only, found_both, named_first, named_plain, named_taken, plain_texts, rows_some, taken_answers}
use Rattle.xfs_words.proofs.reading.read.Goals as goal
use Rattle.xfs_words.proofs.reading.read.Goals.{then-not-is_plain-via-then-not-is_plain, then-not-is_plain-via-else-not-is_plain+then-not-has_name}

pub returns-then-not-is_plain-clause-usage : goal.returns-then-not-is_plain-clause-usage
returns-then-not-is_plain-clause-usage c = λ _ command names. elim c.then-not-is_plain.branch [
  | then-not-is_plain-via-then-not-is_plain w ↦
      let plain : is_plain c.args.words.now ≡ true = plain_texts c.args.words.now ∙ named_plain command (texts c.args.words.now) names in
      absurd (true≢false (sym plain ∙ sym w.if-not-is_plain.ensures))
  | then-not-is_plain-via-else-not-is_plain+then-not-has_name w ↦
      let first = named_first command (texts c.args.words.now) names in
      let none = w.if-not-has_name.ensures.1 first in
      cc
]

pub returns-in_err-matches-clause-usage : goal.returns-in_err-matches-clause-usage
returns-in_err-matches-clause-usage c =
    let same : IfErr c.from_residual.result (λ fault. fault ≡ c.in_err-matches.field-0.0) = search rules in
    IfErr-weaker c.from_residual.result _ _ (λ fault is usage command names. c.in_err-matches.ensures.usage (sym is ∙ usage) (named_taken command (texts c.args.words.now) names)) same

pub returns-in-Some-clause-ok : goal.returns-in-Some-clause-ok
returns-in-Some-clause-ok c =
    let rows = found_both _ c.in-Some.name.now (rows_of (found_of c.in-Some.found.now)) c.in-Some.ensures.name c.in-Some.ensures.rows in
    let answers = taken_answers (texts c.args.words.now) (sym (plain_texts c.args.words.now) ∙ search rules) (search rules) c.in_ok-matches.ensures.ok
    c.in-Some.name.now (rows_of (found_of c.in-Some.found.now)) (rows ∙ c.in_ok-matches.ensures.rows) c.command.result c.command.ensures in
    answer_ok (texts c.args.words.now) c.command.result answers

pub returns-in-Some-clause-usage : goal.returns-in-Some-clause-usage
returns-in-Some-clause-usage c =
    let rows = found_both _ c.in-Some.name.now (rows_of (found_of c.in-Some.found.now)) c.in-Some.ensures.name c.in-Some.ensures.rows in
    let answers = taken_answers (texts c.args.words.now) (sym (plain_texts c.args.words.now) ∙ search rules) (search rules) c.in_ok-matches.ensures.ok
    c.in-Some.name.now (rows_of (found_of c.in-Some.found.now)) (rows ∙ c.in_ok-matches.ensures.rows) c.command.result c.command.ensures in
    answer_err (texts c.args.words.now) c.command.result answers

pub returns-in-Some-clause-only : goal.returns-in-Some-clause-only
returns-in-Some-clause-only c =
    let rows = found_both _ c.in-Some.name.now (rows_of (found_of c.in-Some.found.now)) c.in-Some.ensures.name c.in-Some.ensures.rows in
    let answers = taken_answers (texts c.args.words.now) (sym (plain_texts c.args.words.now) ∙ search rules) (search rules) c.in_ok-matches.ensures.ok
    c.in-Some.name.now (rows_of (found_of c.in-Some.found.now)) (rows ∙ c.in_ok-matches.ensures.rows) c.command.result c.command.ensures in
    answer_only (texts c.args.words.now) c.command.result answers

pub returns-clause-usage : goal.returns-clause-usage
returns-clause-usage c =
    let found = always_found (texts c.args.words.now) (search rules) in
    let some = ap is_some c.in_ok-matches.ensures.rows ∙ found in
    absurd (true≢false (sym some ∙ rows_some _ ∙ sym c.in-None.ensures.variant))
