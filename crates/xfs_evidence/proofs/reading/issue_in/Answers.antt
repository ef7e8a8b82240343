use Rattle.std.proofs.Common.{◌≡◌, ◌∙◌, ℕ, Ok, Err, ap, sym, subst, arith, true≢false}
use Rattle.std.specs.declared.result.Result.{Result}
use Rattle.std.specs.Str.{IsUtf8}
use Rattle.std.specs.Prelude.{decimal}
use Rattle.std.proofs.lemmas.Fmt.{IsAscii-decimal, parse-decimal}
use Rattle.std.proofs.lemmas.Str.{IsUtf8-from_ascii}
use Rattle.xfs_evidence.proofs.reading.issue_in.Goals as goal

inside : {E : Type 0} {a b : ℕ} → ◌≡◌ {A = Result ℕ E} (Ok a) (Ok b) → a ≡ b
inside e = cc

pub returns-in-Err-clause-none : goal.returns-in-Err-clause-none
returns-in-Err-clause-none c = λ number low high is. c.in-Err.ensures.cases.0 (subst IsUtf8 (sym is) (IsUtf8-from_ascii (decimal number) (IsAscii-decimal number high)))

pub returns-in-Err-parse-clause-none : goal.returns-in-Err-parse-clause-none
returns-in-Err-parse-clause-none c = λ number low high is.
    (let r = parse-decimal 64 number c.in-Ok.digits.now c.parse.result high high (c.in-Ok.ensures.cases.0 ∙ is) c.parse.ensures.value.0 in
    let never : Err c.in-Err-parse.field-0 ≡ Ok number = sym c.in-Err-parse.is ∙ r in cc)

pub returns-then-number-eq0-clause-none : goal.returns-then-number-eq0-clause-none
returns-then-number-eq0-clause-none c = λ number low high is.
    (let r = parse-decimal 64 number c.in-Ok.digits.now c.parse.result high high (c.in-Ok.ensures.cases.0 ∙ is) c.parse.ensures.value.0 in
    let same : c.in-Ok-parse.number ≡ number = inside (sym c.in-Ok-parse.is ∙ r) in
    let zero : c.in-Ok-parse.number ≡ 0 = c.if-number-eq0.true in
    absurd (omega (arith, same, zero, low)))

pub returns-clause-none : goal.returns-clause-none
returns-clause-none c = λ number low high is.
    (let r = parse-decimal 64 number c.in-Ok.digits.now c.parse.result high high (c.in-Ok.ensures.cases.0 ∙ is) c.parse.ensures.value.0 in
    let same : c.in-Ok-parse.number ≡ number = inside (sym c.in-Ok-parse.is ∙ r) in
    true≢false (sym (c.is_written.ensures.1 (is ∙ ap decimal (sym same))) ∙ c.if-is_written.false))
