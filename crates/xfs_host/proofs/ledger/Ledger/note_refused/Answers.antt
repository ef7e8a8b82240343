use Rattle.std.proofs.Common.{◌≡◌, ◌∷◌, ◌++◌, [], None, map, ◌∙◌, ap, sym, subst}
use Rattle.xfs_host.specs.Book.{book_of, decided, first_ask_in, first_of, noted, with_first}
use Rattle.xfs_host.specs.Kept.{IsKept, call_of}
use Rattle.xfs_host.specs.declared.first.First.{First}
use Rattle.xfs_host.proofs.Steps.{book_more, noted_new, refused_kept}
use Rattle.xfs_host.proofs.ledger.Ledger.note_refused.Goals as goal

pub invariant_of-self-2 : goal.invariant_of-self-2
invariant_of-self-2 c =
    let l = c.self.inside in
    let t = c.args.ask.now in
    let b = book_of (map (λ s. call_of s.value) l.calls.items) in
    let f : First = record { terms = t; decision = c.args.decision } in
    let new : first_ask_in b t.tx ≡ None = ap (λ calls. first_ask_in (book_of calls) t.tx) c.self.view_is ∙ c.requires.new in
    let is : c.args.decision ≡ decided b t = c.requires.decided ∙ sym (ap (λ calls. decided (book_of calls) t) c.self.view_is) in
    let updates = rw (c.tx.ensures, c.in_ok-terms.ensures) at c.in_ok-add.ensures.updates in
    let kept : IsKept (with_first b f) l.accounts c.add.new.map l.nonces = refused_kept b l.accounts l.firsts c.add.new.map l.nonces f c.self.invariant new c.requires.refused updates c.in_ok-add.ensures.len in
    let items : c.push_reserved.new.self.items ≡ l.calls.items ++ c.event_of.result ∷ [] = c.push_reserved.ensures.items ∙ ap (λ xs. xs ++ c.event_of.result ∷ []) c.in_ok-reserve.ensures.items in
    let grown : book_of (map (λ s. call_of s.value) c.push_reserved.new.self.items) ≡ with_first b (first_of b t) =
    ap (λ xs. book_of (map (λ s. call_of s.value) xs)) items ∙ book_more (λ s. call_of s.value) l.calls.items c.event_of.result
    ∙ ap (noted b) c.event_of.ensures ∙ noted_new b t new in
    subst (λ x. IsKept x l.accounts c.add.new.map l.nonces) (ap (λ d. with_first b (record { terms = t; decision = d })) is ∙ sym grown) kept
