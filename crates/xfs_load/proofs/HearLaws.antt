-- Frames that are heard, and records that are summed up, one behind the other.
use Rattle.std.proofs.Common.{◌≡◌, ℕ, ◌+◌, ◌<◌, List, ◌∷◌, [], ◌++◌, take, length, get_or, fold, ap, sym, ◌∙◌}
use Rattle.std.proofs.lemmas.List.{take_more}
use Rattle.std.proofs.lemmas.List.Sums.{fold_push}

-- one element more of a fold
pub fold-more : {A B : Type 0} (step : B → A → B) (start : B) (list : List A) (i : ℕ) (x : A) (between new : B) → i < length list → x ≡ get_or list i x
    → between ≡ fold step start (take i list) → new ≡ step between x → new ≡ fold step start (take (i + 1) list)
fold-more step start list i x between new within is stood grown =
    let taken : take (i + 1) list ≡ take i list ++ x ∷ [] = take_more list i x within ∙ ap (λ y. take i list ++ y ∷ []) (sym is) in
    grown ∙ (ap (λ b. step b x) stood ∙ (sym (fold_push step start (take i list) x) ∙ ap (fold step start) (sym taken)))
