use Rattle.std.proofs.Common.{◌≡◌, ◌+◌, ◌-◌, ℕ, List, length, take, drop, min, arith, ap, length-drop}
use Rattle.std.proofs.lemmas.List.{length-take-le}
use Rattle.xfs_script.proofs.Blocks.{line_off_is}
use Rattle.xfs_script.specs.Reading.{Reading}
use Rattle.xfs_script.proofs.feed.Feed.pass.Goals as goal

pub returns : goal.returns
returns c =
    let long : length (take (c.self.inside.end - c.self.inside.start) (drop c.self.inside.start c.self.inside.block.items)) ≡ c.self.inside.end - c.self.inside.start =
    length-take-le (c.self.inside.end - c.self.inside.start) (drop c.self.inside.start c.self.inside.block.items) (omega (arith, length-drop c.self.inside.start c.self.inside.block.items)) in
    let is = ap (λ r. length r.pending) c.self.view_is in
    let many : c.min.result ≡ min (c.args.end + 1) (c.self.inside.end - c.self.inside.start) = omega (arith, long, is, c.min.ensures, c.len.ensures, c.saturating_add.ensures) in
    let with_pending : List ℕ → Reading = λ xs. record { pending = xs; given = c.self.inside.given; handed = c.self.inside.handed + 1 } in
    rw (← c.self.view_is) (ap with_pending (line_off_is c.self.inside.block.items c.self.inside.start c.self.inside.end c.args.end c.min.result (omega arith) (omega arith) many))
