use Rattle.std.proofs.Common.{◌≡◌, ◌+◌, ◌<◌, true, false, ◌∷◌, [], ◌++◌, length, take, arith, ◌∙◌}
use Rattle.std.specs.Prelude.{slice_set}
use Rattle.std.proofs.lemmas.List.{take_more_set, length-take-le, length-set}
use Rattle.xfs_token.specs.Amounts.{is_currency, has_currency}
use Rattle.xfs_token.proofs.AmountsLemmas.{IsAmounts-push}
use Rattle.xfs_token.proofs.money.Amounts.add.Goals as goal

pub invariant_of-self : goal.invariant_of-self
invariant_of-self c =
    let list = c.self.inside.list in
    let n = c.self.inside.len in
    let small : n < length list = omega arith in
    let len : length (take n list) ≡ n = length-take-le n list (omega arith) in
    let letters : is_currency c.args.currency ≡ true = cc in
    let fresh : has_currency c.args.currency (take n list) ≡ false = cc in
    let pushed = IsAmounts-push (take n list) c.args.currency c.args.amount.0 c.self.invariant.2 (omega arith) letters (omega arith) fresh in
    let at : take (n + 1) (slice_set list n (c.args.currency, c.args.amount.0)) ≡ take n list ++ (c.args.currency, c.args.amount.0) ∷ [] = take_more_set list n (c.args.currency, c.args.amount.0) small in
    (length-set _ _ _ ∙ c.self.invariant.0, omega arith, rw at pushed)
