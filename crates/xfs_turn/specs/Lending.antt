-- What a held value ends as, where a `&mut` to it is returned.
use Rattle.std.specs.Borrow.{Lends, Fml, RattleType, MutBor}
use Rattle.xfs_turn.specs.Seats.{Holding}
use Rattle.xfs_turn.specs.declared.chronicle.Chronicle.{Ghosts}
use Rattle.xfs_turn.specs.contracts.held.Held.{the_row}

-- once the loan r ends, the value is the last one written through r
abbrev pub LendsValue : (T E : RattleType) → Ghosts T.Denot E.Denot → MutBor (Holding T.Denot E.Denot) → MutBor T.Denot → Fml
LendsValue T E chronicle s r = Lends (the_row T E chronicle) T s r (λ w. record s.now { value = w })
