use Rattle.std.proofs.Common.{◌≡◌, rules, IsSome, Some, nat_cmp, slice_get, ◌∙◌, ap}
use Rattle.std.specs.BTreeMap.{get, keys}
use Rattle.xfs_host.specs.Book.{book_of, rising}
use Rattle.xfs_host.proofs.Maps.{at_key}
use Rattle.xfs_host.proofs.ledger.Ledger.entry.Goals as goal

pub unwrap-account-requires : goal.unwrap-account-requires
unwrap-account-requires c =
    let accounts = c.self.inside.accounts in
    let number = c.number_at-number.result in
    let at : slice_get (keys accounts) c.args.i ≡ Some number =
    ap (λ ks. slice_get ks c.args.i) c.self.invariant.numbers ∙ ap (λ calls. slice_get (rising (book_of calls)) c.args.i) c.self.view_is ∙ c.number_at-number.ensures in
    let there : IsSome (get nat_cmp accounts number) = at_key accounts c.args.i number at in
    search rules
