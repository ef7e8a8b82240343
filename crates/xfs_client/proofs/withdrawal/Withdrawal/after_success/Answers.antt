use Rattle.std.proofs.Common.{◌≡◌, List, ◌++◌, ◌∷◌, [], true, sym, ◌∙◌, subst, ap}
use Rattle.serde_json.specs.View.{view}
use Rattle.xfs_client.specs.Desks.{Recalls}
use Rattle.xfs_client.specs.Withdrawals.{after_success, goes_on, nonce_of}
use Rattle.xfs_client.specs.History.{Entry, ask, heard, is_open}
use Rattle.xfs_client.proofs.Outcomes.{keeps-swapped, open-still, goes_on-dispenses, neither}
use Rattle.xfs_client.proofs.withdrawal.Withdrawal.after_success.Goals.{then-asked-eq1+in_ok-ask_dispense, else-asked-eq1+then-asked-eq2+in_ok-ask_present, else-asked-eq1+else-asked-eq2}
use Rattle.xfs_client.proofs.withdrawal.Withdrawal.after_success.Goals as goal

pub returns-clause-grown : goal.returns-clause-grown
returns-clause-grown c h t keeps was_open end =
    let p = view c.args.payload.now in
    let new = c.close.new.self in
    let asked = ap (λ w. w.desk.asked) (sym c.self.view_is) ∙ sym c.asks-asked.ensures in
    let ended : (earlier : List Entry) → Recalls c.if-asked-eq1.self.desk earlier → is_open earlier c.args.id ≡ true → Recalls new (earlier ++ heard t ∷ []) = λ earlier kept was_open. c.close.ensures earlier t (subst (λ w. Recalls w.desk earlier) (sym c.self-2.view_is) kept) was_open end in
    let after_ask : Recalls c.if-asked-eq1.self.desk (h ++ ask ∷ []) → Recalls new (h ++ heard t ∷ ask ∷ []) = λ kept. keeps-swapped h t new (ended (h ++ ask ∷ []) kept (open-still h t c.args.id was_open)) in
    elim c.if-asked-eq1.branch [
      | then-asked-eq1+in_ok-ask_dispense w ↦ subst (λ n. Recalls new (goes_on h t (after_success n p))) (sym (asked ∙ w.if-asked-eq1.true))
          (subst (Recalls new) (goes_on-dispenses h t (nonce_of p) _ w.in_ok-ask_dispense.ensures.text)
          (after_ask (subst (λ w. Recalls w.desk (h ++ ask ∷ [])) (sym w.self-is) (w.in_ok-ask_dispense.ensures.grown h keeps))))
      | else-asked-eq1+then-asked-eq2+in_ok-ask_present w ↦ subst (λ n. Recalls new (goes_on h t (after_success n p))) (sym (asked ∙ w.if-asked-eq2.true))
          (after_ask (subst (λ w. Recalls w.desk (h ++ ask ∷ [])) (sym w.self-is) (w.in_ok-ask_present.ensures.grown h keeps)))
      | else-asked-eq1+else-asked-eq2 w ↦ subst (λ n. Recalls new (goes_on h t (after_success n p))) (sym asked)
          (subst (λ s. Recalls new (goes_on h t s)) (neither _ p w.if-asked-eq1.false w.if-asked-eq2.false)
          (ended h (subst (λ w. Recalls w.desk h) (sym w.self-is) keeps) was_open))
    ]
