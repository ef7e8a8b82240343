use Rattle.std.proofs.Common.{◌≡◌, List, map, subst}
use Rattle.std.specs.Prelude.{IfOk}
use Rattle.xfs_host.specs.Book.{Call, book_of, listed}
use Rattle.xfs_host.specs.Kept.{call_of}
use Rattle.xfs_host.proofs.Entries.{found, listed_entries}
use Rattle.xfs_host.proofs.ledger.Ledger.list_accounts.Goals as goal

pub returns : goal.returns
returns c =
    let Lists : List Call → Type 0 = λ calls. IfOk c.pairs.result (λ list. map found list.items ≡ listed (book_of calls)) in
    subst Lists c.self.view_is
    (listed_entries (book_of (map (λ s. call_of s.value) c.self.inside.calls.items)) c.self.inside.accounts c.pairs.result c.self.invariant.accounts c.self.invariant.numbers c.pairs.ensures.entries c.pairs.ensures.ordered)
