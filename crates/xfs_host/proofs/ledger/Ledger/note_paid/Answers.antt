use Rattle.std.proofs.Common.{◌≡◌, ◌∷◌, ◌++◌, [], None, map, refl, ◌∙◌, ap, sym, subst}
use Rattle.xfs_host.specs.Book.{book_of, decided, first_ask_in, first_of, is_paid, noted, with_first}
use Rattle.xfs_host.specs.Kept.{IsKept, call_of}
use Rattle.xfs_host.specs.declared.decision.Decision.TheVariants.{Paid}
use Rattle.xfs_host.specs.declared.first.First.{First}
use Rattle.xfs_host.proofs.Paying.{paying}
use Rattle.xfs_host.proofs.Steps.{book_more, noted_new, paid_kept}
use Rattle.xfs_host.proofs.ledger.Ledger.note_paid.Goals as goal

pub invariant_of-self-2 : goal.invariant_of-self-2
invariant_of-self-2 c =
    let l = c.self.inside in
    let t = c.args.ask.now in
    let b = book_of (map (λ s. call_of s.value) l.calls.items) in
    let f : First = record { terms = t; decision = Paid } in
    let new : first_ask_in b t.tx ≡ None = ap (λ calls. first_ask_in (book_of calls) t.tx) c.self.view_is ∙ c.requires.new in
    let is : Paid ≡ decided b t = sym (ap (λ calls. decided (book_of calls) t) c.self.view_is ∙ c.requires.paid) in
    let updates = rw (c.tx-2.ensures, c.in_ok-copy.ensures) at c.in_default.ensures.updates in
    let used = rw (c.tx.ensures, c.in_ok-nonce.ensures.items, c.nonce.ensures.now) at c.in_ok-use_nonce.ensures.used in
    let charged = rw (c.account.ensures, c.amount.ensures.now) at c.charge.ensures.charged in
    let kept : IsKept (with_first b f) c.charge.new.accounts c.add.new.map c.use_nonce.new.nonces =
    paid_kept b l.accounts c.charge.new.accounts l.firsts c.add.new.map l.nonces c.use_nonce.new.nonces f c.self.invariant new refl (paying b t (sym (ap is_paid is))) charged c.charge.ensures.keys c.charge.ensures.len updates c.in_default.ensures.len used in
    let items : c.push_reserved.new.self.items ≡ l.calls.items ++ c.event_of.result ∷ [] = c.push_reserved.ensures.items ∙ ap (λ xs. xs ++ c.event_of.result ∷ []) c.in_ok-reserve.ensures.items in
    let grown : book_of (map (λ s. call_of s.value) c.push_reserved.new.self.items) ≡ with_first b (first_of b t) =
    ap (λ xs. book_of (map (λ s. call_of s.value) xs)) items ∙ book_more (λ s. call_of s.value) l.calls.items c.event_of.result
    ∙ ap (noted b) c.event_of.ensures ∙ noted_new b t new in
    subst (λ x. IsKept x c.charge.new.accounts c.add.new.map c.use_nonce.new.nonces) (ap (λ d. with_first b (record { terms = t; decision = d })) is ∙ sym grown) kept
