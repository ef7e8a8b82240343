use Rattle.std.proofs.Common.{ap, length, refl, ◌∙◌, [], ◌∷◌, ◌++◌}
use Rattle.xfs_audit.specs.declared.way.Way.{Way}
use Rattle.xfs_audit.proofs.Resting.{end-rest}
use Rattle.xfs_audit.proofs.rest.Rest.end.Goals as goal

pub returns : goal.returns
returns c =
    let way : Way = record { stays = length c.args.ids.now; due = c.new.result } in
    end-rest c.args.ids.now c.args.texts.now way record { left = length c.args.texts.now; ways = c.push.new.self } refl (c.in_ok-push.ensures.items ∙ ap (λ l. l ++ way ∷ []) c.new-ways.ensures.items) refl c.new.ensures.items
