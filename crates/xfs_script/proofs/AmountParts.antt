-- Amounts between commas: each that is read is added to those before.
use Rattle.std.proofs.Common.{◌≡◌, ℕ, true, false, List, [], ◌∷◌, ◌++◌, None, Some, ap, sym, ◌∙◌, arith}
use Rattle.std.specs.Prelude.{MatchOption}
use Rattle.std.specs.Borrow.{Bor}
use Rattle.std.specs.declared.option.Option.{Option}
use Rattle.xfs_token.specs.Amounts.{read_amount, may_add, IsAmounts}
use Rattle.xfs_token.proofs.AmountsBehind.{read_onto, onto_some, onto_full, onto_none, onto_read, onto_all}
use Rattle.xfs_script.specs.Fields.{parts, SpellsAmounts}
use Rattle.xfs_script.proofs.Parts.{parts_left, cut_is}

-- one amount is added
pub one_added : (earlier : List (List ℕ × ℕ)) (text first : List ℕ) (behind : Option (Bor (List ℕ))) (currency : List ℕ) (n : ℕ) → MatchOption behind (parts text ≡ first ∷ []) (λ b. parts text ≡ first ∷ parts b.now) → read_amount first ≡ Some (currency, n) → may_add earlier currency n ≡ true
    → read_onto earlier (parts text) ≡ read_onto (earlier ++ (currency, n) ∷ []) (parts_left behind)
one_added earlier text first behind currency n cut read may =
    ap (read_onto earlier) (cut_is text first behind cut) ∙ onto_some earlier first (parts_left behind) (currency, n) read may

pub none_added : (earlier : List (List ℕ × ℕ)) (text first : List ℕ) (behind : Option (Bor (List ℕ))) (currency : List ℕ) (n : ℕ) → MatchOption behind (parts text ≡ first ∷ []) (λ b. parts text ≡ first ∷ parts b.now) → read_amount first ≡ Some (currency, n) → may_add earlier currency n ≡ false
    → read_onto earlier (parts text) ≡ None
none_added earlier text first behind currency n cut read full =
    ap (read_onto earlier) (cut_is text first behind cut) ∙ onto_full earlier first (parts_left behind) (currency, n) read full

pub none_there : (earlier : List (List ℕ × ℕ)) (text first : List ℕ) (behind : Option (Bor (List ℕ))) → MatchOption behind (parts text ≡ first ∷ []) (λ b. parts text ≡ first ∷ parts b.now) → read_amount first ≡ None → read_onto earlier (parts text) ≡ None
none_there earlier text first behind cut read =
    ap (read_onto earlier) (cut_is text first behind cut) ∙ onto_none earlier first (parts_left behind) read

-- no amounts are spelled where none are read
pub none_spelled : (text : List ℕ) → read_onto [] (parts text) ≡ None → (amounts : List (List ℕ × ℕ)) → SpellsAmounts text amounts → ⊥
none_spelled text none amounts s =
    let all = onto_all (parts text) [] amounts s.each (record { few = (let high = s.valid.high in omega arith); payable = s.valid.payable; different = s.valid.different }) in
    let bad : ⊥ = cc in bad

pub some_spelled : (text : List ℕ) (amounts : List (List ℕ × ℕ)) → read_onto [] (parts text) ≡ Some amounts → IsAmounts amounts → SpellsAmounts text amounts
some_spelled text amounts h valid =
    let r = onto_read (parts text) [] amounts h in
    record { each = r.each ∙ ap (λ l. Some l) (sym r.is); valid = valid }
