use Rattle.std.proofs.Common.{◌≡◌, ◌∷◌, ◌++◌, ◌∙◌, None, ap, sym}
use Rattle.std.specs.Vec.Iter.{into_iter_items}
use Rattle.std.specs.Option.{option_map}
use Rattle.xfs_simulated.specs.Setups.{setup_of}
use Rattle.xfs_start.specs.BenchFile.{setup_by, with_line}
use Rattle.xfs_start.proofs.SetupLaws.{stopped}
use Rattle.xfs_start.proofs.bench_file.set_up.Goals as goal

pub returns-in-None-2 : goal.returns-in-None-2
returns-in-None-2 c =
    let at = c.loop-line in
    let line = c.in-Some.line in
    let steps : into_iter_items at.line-iterator ≡ line ∷ into_iter_items c.next.new.self = c.in-Some.ensures.steps.0 in
    let all : at.yielded ++ line ∷ into_iter_items c.next.new.self ≡ c.args.lines.items = ap (λ l. at.yielded ++ l) (sym steps) ∙ at.invariant.split in
    let none : with_line (setup_of at.setup) line ≡ None = sym c.in_ok-more.ensures ∙ ap (option_map setup_of) c.in-None-2.is in
    sym (ap setup_by (sym all) ∙ stopped at.yielded _ line (setup_of at.setup) at.invariant.set none)
