use Rattle.std.proofs.Common.{◌≡◌, ◌∙◌, ◌+◌, ◌-◌, true, not, length, sym, ap, arith, true≢false}
use Rattle.std.specs.Prelude.{nat_le, nat_lt, ◌&&◌}
use Rattle.std.proofs.lemmas.Bool.{and_from, le-leb, lt-ltb}
use Rattle.xfs_token.specs.Amounts.{is_currency, is_payable, has_currency}
use Rattle.xfs_token.proofs.AmountReading.{is_currency_to}
use Rattle.xfs_evidence.specs.Reading.{may_end}
use Rattle.xfs_evidence.proofs.Pairs.{may_end-last}
use Rattle.xfs_evidence.proofs.Rising.{new-behind}
use Rattle.xfs_evidence.proofs.reading.with_amount.Goals as goal

pub unreachable-requires : goal.unreachable-requires
unreachable-requires c =
    let amounts = c.in-Some.amounts in
    let few = rw c.in-Some.is at c.requires.few in
    let rising = rw c.in-Some.is at c.requires.rising in
    let place : length amounts ≡ c.len.result - 1 + 1 = omega (arith, c.len.ensures.len, c.len.ensures.valid.low) in
    let ends : may_end amounts c.args.currency ≡ true = may_end-last amounts _ (c.len.result - 1) c.args.currency c.at-last.ensures place ∙ sym c.is_before.ensures ∙ c.if-not-is_before.false in
    let letters : is_currency c.args.currency ≡ true = is_currency_to c.args.currency (rw c.letters-letters.ensures.now at c.letters-letters.ensures.valid) in
    let payable = and_from (is_currency c.args.currency) (nat_le c.args.amount.0 999999999999) letters (le-leb c.args.amount.0 999999999999 c.requires.small) in
    let room = and_from (is_payable c.args.currency c.args.amount.0) (nat_lt (length amounts) 9) payable (lt-ltb (length amounts) 9 (omega (arith, few))) in
    let good = and_from (is_payable c.args.currency c.args.amount.0 && nat_lt (length amounts) 9) (not (has_currency c.args.currency amounts)) room (ap not (new-behind amounts c.args.currency rising ends)) in
    true≢false (sym good ∙ sym c.if-not-add.ensures.valid)
