-- One text tells one thing, and has one refusal.
use Rattle.std.proofs.Common.{◌≡◌, ℕ, ◌+◌, List, [], ◌∷◌, Some, refl, sym, ◌∙◌, ap, subst, arith}
use Rattle.std.specs.Prelude.{codes, decimal}
use Rattle.std.specs.declared.option.Option.{Option}
use Rattle.std.proofs.lemmas.Fmt.{decimal_injective}
use Rattle.xfs_token.specs.Token.{Parts, Genuine}
use Rattle.xfs_token.proofs.Whole.{one_token}
use Rattle.xfs_evidence.specs.Told.{presented_pairs, presented_key, told_amounts, AreEvidencePairs}
use Rattle.xfs_evidence.specs.Evidence.{IsToldBy, unless_none}
use Rattle.xfs_evidence.specs.Laws.{AreOne, AreTaken, AreRefusedOnce}
use Rattle.xfs_evidence.specs.declared.faults.CheckFault.TheVariants.{NoToken, OtherNonce, WrongMac, NotEvidence, Memory}
use Rattle.xfs_evidence.specs.declared.shown.Shown.{Shown}

same-texts : (n : ℕ) (a b : List (List ℕ)) → presented_pairs n a ≡ presented_pairs n b → a ≡ b
same-texts n [] [] e = refl
same-texts n [] (t ∷ ts) e = cc
same-texts n (t ∷ ts) [] e = cc
same-texts n (t ∷ ts) (x ∷ xs) e =
    let first : ◌≡◌ {A = List ℕ × List ℕ} (presented_key n, t) (presented_key n, x) = cc in
    let rest : presented_pairs (n + 1) ts ≡ presented_pairs (n + 1) xs = cc in
    let ih = same-texts (n + 1) ts xs rest in
    let here : t ≡ x = ap (λ (p : List ℕ × List ℕ). p.1) first in
    cc

-- pairs tell one thing
one-told : (pairs : List (List ℕ × List ℕ)) (s t : Shown) → IsToldBy pairs s → IsToldBy pairs t → s ≡ t
one-told pairs s t a b =
    let both = sym a.tells.pairs_are ∙ b.tells.pairs_are in
    let first : ◌≡◌ {A = List ℕ × List ℕ} (codes "ISSUE", decimal s.issue) (codes "ISSUE", decimal t.issue) = cc in
    let rest : presented_pairs 1 a.tells.texts ≡ presented_pairs 1 b.tells.texts = cc in
    let issue : s.issue ≡ t.issue = decimal_injective s.issue t.issue (omega (arith, a.tells.high)) (omega (arith, b.tells.high)) (ap (λ (p : List ℕ × List ℕ). p.1) first) in
    let texts = same-texts 1 a.tells.texts b.tells.texts rest in
    let amounts : Some a.amounts ≡ Some b.amounts = sym a.tells.amounts_are ∙ ap told_amounts texts ∙ b.tells.amounts_are in
    let same : a.amounts ≡ b.amounts = cc in
    whole s.issue t.issue s.amounts t.amounts issue (a.amounts_are ∙ ap unless_none same ∙ sym b.amounts_are)
  where
    whole : (i j : ℕ) (x y : Option (List (List ℕ × ℕ))) → i ≡ j → x ≡ y → ◌≡◌ {A = Shown} (record { issue = i; amounts = x }) (record { issue = j; amounts = y })
    whole i j x y e f = cc

pub one : AreOne
one key nonce bytes s t a b = one-told a.token.pairs s t a.by (subst (λ (p : Parts). IsToldBy p.pairs t) (sym (one_token a.token b.token bytes a.genuine.spelled b.genuine.spelled)) b.by)

pub taken : AreTaken
taken key nonce bytes s NoToken told fault = absurd (fault told.token told.genuine.spelled)
taken key nonce bytes s OtherNonce told fault = absurd (fault.other (ap (λ (p : Parts). p.nonce) (one_token fault.token told.token bytes fault.spelled told.genuine.spelled) ∙ told.carried))
taken key nonce bytes s WrongMac told fault = absurd (fault.wrong (subst (λ p. Genuine key p bytes) (sym (one_token fault.token told.token bytes fault.spelled told.genuine.spelled)) told.genuine))
taken key nonce bytes s NotEvidence told fault =
    let same = one_token fault.token told.token bytes fault.genuine.spelled told.genuine.spelled in
    absurd (fault.other s.issue told.by.amounts (subst (λ (p : Parts). AreEvidencePairs p.pairs s.issue told.by.amounts) (sym same) told.by.tells))
taken key nonce bytes s Memory told fault = refl

pub once : AreRefusedOnce
once key nonce bytes NoToken NoToken e f a b = refl
once key nonce bytes NoToken OtherNonce e f a b = absurd (e f.token f.spelled)
once key nonce bytes NoToken WrongMac e f a b = absurd (e f.token f.spelled)
once key nonce bytes NoToken NotEvidence e f a b = absurd (e f.token f.genuine.spelled)
once key nonce bytes NoToken Memory e f a b = absurd (b refl)
once key nonce bytes OtherNonce NoToken e f a b = absurd (f e.token e.spelled)
once key nonce bytes OtherNonce OtherNonce e f a b = refl
once key nonce bytes OtherNonce WrongMac e f a b = absurd (e.other (ap (λ (p : Parts). p.nonce) (one_token e.token f.token bytes e.spelled f.spelled) ∙ f.carried))
once key nonce bytes OtherNonce NotEvidence e f a b = absurd (e.other (ap (λ (p : Parts). p.nonce) (one_token e.token f.token bytes e.spelled f.genuine.spelled) ∙ f.carried))
once key nonce bytes OtherNonce Memory e f a b = absurd (b refl)
once key nonce bytes WrongMac NoToken e f a b = absurd (f e.token e.spelled)
once key nonce bytes WrongMac OtherNonce e f a b = absurd (f.other (ap (λ (p : Parts). p.nonce) (one_token f.token e.token bytes f.spelled e.spelled) ∙ e.carried))
once key nonce bytes WrongMac WrongMac e f a b = refl
once key nonce bytes WrongMac NotEvidence e f a b = absurd (e.wrong (subst (λ p. Genuine key p bytes) (sym (one_token e.token f.token bytes e.spelled f.genuine.spelled)) f.genuine))
once key nonce bytes WrongMac Memory e f a b = absurd (b refl)
once key nonce bytes NotEvidence NoToken e f a b = absurd (f e.token e.genuine.spelled)
once key nonce bytes NotEvidence OtherNonce e f a b = absurd (f.other (ap (λ (p : Parts). p.nonce) (one_token f.token e.token bytes f.spelled e.genuine.spelled) ∙ e.carried))
once key nonce bytes NotEvidence WrongMac e f a b = absurd (f.wrong (subst (λ p. Genuine key p bytes) (sym (one_token f.token e.token bytes f.spelled e.genuine.spelled)) e.genuine))
once key nonce bytes NotEvidence NotEvidence e f a b = refl
once key nonce bytes NotEvidence Memory e f a b = absurd (b refl)
once key nonce bytes Memory fault e f a b = absurd (a refl)
