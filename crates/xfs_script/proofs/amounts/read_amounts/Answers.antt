use Rattle.std.proofs.Common.{List, ℕ, ap, sym, subst, ◌∙◌}
use Rattle.xfs_token.specs.Amounts.{IsAmounts}
use Rattle.xfs_script.specs.Fields.{SpellsAmounts}
use Rattle.xfs_token.proofs.AmountReading.{IfNone_from}
use Rattle.xfs_token.proofs.AmountsBehind.{read_onto, more_valid}
use Rattle.xfs_script.proofs.Parts.{parts_left}
use Rattle.xfs_script.proofs.AmountParts.{one_added, none_added, none_there, none_spelled, some_spelled}
use Rattle.xfs_script.proofs.amounts.read_amounts.Goals as goal

pub returns-in_err-currency-2-clause-none : goal.returns-in_err-currency-2-clause-none
returns-in_err-currency-2-clause-none c =
    let here = c.loop-rest.invariant.same ∙ ap (λ r. read_onto c.loop-rest.amounts (parts_left r)) c.in-Some.is in
    let none = here ∙ none_there c.loop-rest.amounts c.in-Some.behind.now c.cut-in-Some.result.0.now c.cut-in-Some.result.1 c.cut-in-Some.ensures.parts c.in_err-currency-2.ensures.none in
    IfNone_from _ ((amounts : List (List ℕ × ℕ)) → SpellsAmounts c.args.text.now amounts → ⊥) (none_spelled c.args.text.now none)

pub returns-then-not-add-clause-none : goal.returns-then-not-add-clause-none
returns-then-not-add-clause-none c =
    let here = c.loop-rest.invariant.same ∙ ap (λ r. read_onto c.loop-rest.amounts (parts_left r)) c.in-Some.is in
    let none = here ∙ none_added c.loop-rest.amounts c.in-Some.behind.now c.cut-in-Some.result.0.now c.cut-in-Some.result.1 c.in_ok-currency-2.currency c.in_ok-currency-2.amount.0 c.cut-in-Some.ensures.parts
    c.in_ok-currency-2.ensures.found (sym c.add.ensures.valid ∙ c.if-not-add.true) in
    none_spelled c.args.text.now none

pub loop-rest-preserved : goal.loop-rest-preserved
loop-rest-preserved c =
    let here = c.loop-rest.invariant.same ∙ ap (λ r. read_onto c.loop-rest.amounts (parts_left r)) c.in-Some.is in
    let may = sym c.add.ensures.valid ∙ c.if-not-add.false in
    let P : List (List ℕ × ℕ) → Type 0 = λ a. IsAmounts a in
    record {
      same = here ∙ (one_added c.loop-rest.amounts c.in-Some.behind.now c.cut-in-Some.result.0.now c.cut-in-Some.result.1 c.in_ok-currency-2.currency c.in_ok-currency-2.amount.0 c.cut-in-Some.ensures.parts
          c.in_ok-currency-2.ensures.found may ∙ ap (λ a. read_onto a (parts_left c.cut-in-Some.result.1)) (sym c.if-not-add.ensures.added));
      valid = subst P (sym c.if-not-add.ensures.added) (more_valid c.loop-rest.amounts c.in_ok-currency-2.currency c.in_ok-currency-2.amount.0 c.loop-rest.invariant.valid may);
    }

pub returns-clause-found : goal.returns-clause-found
returns-clause-found c =
    some_spelled c.args.text.now c.loop-rest.amounts (c.loop-rest.invariant.same ∙ ap (λ r. read_onto c.loop-rest.amounts (parts_left r)) c.in_default.is) c.loop-rest.invariant.valid
