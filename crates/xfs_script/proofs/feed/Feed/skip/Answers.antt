use Rattle.std.proofs.Common.{◌≡◌, ◌+◌, ◌-◌, ◌≤◌, ℕ, List, length, take, drop, arith, ap, length-drop}
use Rattle.std.proofs.lemmas.List.{length-take-le}
use Rattle.xfs_script.proofs.Blocks.{skipped}
use Rattle.xfs_script.specs.Reading.{Reading}
use Rattle.xfs_script.proofs.feed.Feed.skip.Goals as goal

pub returns : goal.returns
returns c =
    let long : length (take (c.self.inside.end - c.self.inside.start) (drop c.self.inside.start c.self.inside.block.items)) ≡ c.self.inside.end - c.self.inside.start =
    length-take-le (c.self.inside.end - c.self.inside.start) (drop c.self.inside.start c.self.inside.block.items) (omega (arith, length-drop c.self.inside.start c.self.inside.block.items)) in
    let is = ap (λ r. length r.pending) c.self.view_is in
    let within : c.self.inside.start + c.args.count ≤ c.self.inside.end = omega (arith, long, is) in
    let with_pending : List ℕ → Reading = λ xs. record { pending = xs; given = c.self.inside.given; handed = c.self.inside.handed } in
    rw (← c.self.view_is) (ap with_pending (skipped c.self.inside.block.items c.self.inside.start c.self.inside.end c.args.count within))
