use Rattle.std.proofs.Common.{◌≡◌, ◌<◌, ◌≤◌, [], ◌∷◌, length, length-set, set, ap, arith, ◌∙◌}
use Rattle.std.proofs.lemmas.List.{set-get_or}
use Rattle.std.proofs.lemmas.List.Edits.{map_over_more}
use Rattle.xfs_model.specs.Connections.{is_service, with_mail}
use Rattle.xfs_traffic.proofs.Announced.{undone}
use Rattle.xfs_traffic.proofs.connections.announce.Goals as goal

pub loop-i-preserved : goal.loop-i-preserved
loop-i-preserved c =
    let ks = c.args.connections.now.items in
    let within : c.loop-i.i < length ks = omega arith in
    record {
      size = length-set _ _ _ ∙ c.loop-i.invariant.size;
      written = rw (c.in-Ok.ensures.ok) (map_over_more (λ k. with_mail (is_service c.args.service k.service) (c.args.frame.now ∷ []) k) ks c.loop-i.connections.items c.loop-i.i c.index_mut.result.now within c.loop-i.invariant.written c.index_mut.ensures.value);
    }

pub returns-in-Err-clause-err : goal.returns-in-Err-clause-err
returns-in-Err-clause-err c =
    let ks = c.args.connections.now.items in
    let ys = c.loop-i.connections.items in
    let within : c.loop-i.i ≤ length ks = omega arith in
    let same : set ys c.loop-i.i c.give.new.connection ≡ ys = ap (λ x. set ys c.loop-i.i x) (c.in-Err.ensures.err ∙ c.index_mut.ensures.value) ∙ set-get_or ys c.loop-i.i c.index_mut.result.now in
    c.take_back.ensures ∙ undone c.args.service c.args.frame.now ks (set ys c.loop-i.i c.give.new.connection) c.loop-i.i within (same ∙ c.loop-i.invariant.written)
