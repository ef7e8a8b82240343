use Rattle.std.proofs.Common.{◌≡◌, ◌++◌, map, drop, length, ap, ◌∙◌, arith, rules}
use Rattle.std.specs.Vec.Iter.{into_iter_items}
use Rattle.xfs_server.specs.Memories.{joined}
use Rattle.xfs_server.proofs.Frames.{next_fits, next_handed, next_left, next_latest}
use Rattle.xfs_server.proofs.mem_board.MemBoardBoard.frames.Goals as goal

pub invariant_of-self : goal.invariant_of-self
invariant_of-self c =
    let b = c.self.inside in
    let rest = joined (map (λ list. list.items) (into_iter_items c.next.new.self)) in
    let long : c.len.result ≡ length c.in-Some.list.items = c.len.ensures ∙ c.in-Some.list.ok.0 in
    let part : drop b.to b.copy.items ≡ c.in-Some.list.items ++ rest = c.self.invariant.2 ∙ ap (λ ls. joined (map (λ list. list.items) ls)) c.in-Some.ensures.items in
    rw long (omega arith, next_fits b.to b.copy.items c.in-Some.list.items rest c.self.invariant.1 part, next_left b.to b.copy.items c.in-Some.list.items rest part)

pub returns-in-Some-clause-log : goal.returns-in-Some-clause-log
returns-in-Some-clause-log c =
    let b = c.self.inside in
    let rest = joined (map (λ list. list.items) (into_iter_items c.next.new.self)) in
    let long : c.len.result ≡ length c.in-Some.list.items = c.len.ensures ∙ c.in-Some.list.ok.0 in
    let part : drop b.to b.copy.items ≡ c.in-Some.list.items ++ rest = c.self.invariant.2 ∙ ap (λ ls. joined (map (λ list. list.items) ls)) c.in-Some.ensures.items in
    rw (long, next_latest b.to b.copy.items c.in-Some.list.items rest c.self.invariant.1 part, next_handed b.to b.copy.items c.in-Some.list.items rest part, ← c.self.view_is) (search rules)
