use Rattle.std.proofs.Common.{◌≡◌, ◌∷◌, ◌++◌, [], None, map, ◌∙◌, ap, sym, subst}
use Rattle.xfs_host.specs.Book.{Opening, book_of, noted, opening_in, with_opening}
use Rattle.xfs_host.specs.Kept.{IsKept, call_of}
use Rattle.xfs_host.proofs.Steps.{book_more, noted_opening, opened_kept}
use Rattle.xfs_host.proofs.ledger.Ledger.open.Goals as goal

pub invariant_of-self-2 : goal.invariant_of-self-2
invariant_of-self-2 c =
    let l = c.self.inside in
    let b = book_of (map (λ s. call_of s.value) l.calls.items) in
    let o : Opening = record { account = c.args.account; currency = c.args.currency; balance = c.args.balance } in
    let new : opening_in b c.args.account ≡ None = ap (λ calls. opening_in (book_of calls) c.args.account) c.self.view_is ∙ c.requires in
    let items : c.push_reserved.new.self.items ≡ l.calls.items ++ c.of.result ∷ [] = c.push_reserved.ensures.items ∙ ap (λ xs. xs ++ c.of.result ∷ []) c.in_ok-reserve.ensures.items in
    let grown : book_of (map (λ s. call_of s.value) c.push_reserved.new.self.items) ≡ with_opening b o =
    ap (λ xs. book_of (map (λ s. call_of s.value) xs)) items ∙ book_more (λ s. call_of s.value) l.calls.items c.of.result
    ∙ ap (λ event. noted b (call_of event)) c.of.ensures ∙ noted_opening b c.args.account c.args.currency c.args.balance new in
    subst (λ x. IsKept x c.add.new.map l.firsts l.nonces) (sym grown)
    (opened_kept b l.accounts c.add.new.map l.firsts l.nonces o c.self.invariant new c.in_ok-add.ensures.entries c.in_ok-add.ensures.updates c.in_ok-add.ensures.len)
