use Rattle.std.proofs.Common.{◌≡◌, ◌∙◌, ap, sym, rules}
use Rattle.xfs_envelope.specs.Short.{short_text}
use Rattle.xfs_envelope.proofs.ShortLaws.{short_back, with_members}
use Rattle.xfs_envelope.proofs.short.short_command.Goals as goal

pub returns : goal.returns
returns c =
    let name = c.in_ok-name-2.name in
    let id = c.in_ok-name.id in
    let told : c.in_ok-text.text.now ≡ c.args.text.now = search rules in
    short_back c.args.text.now name c.in_ok-name.end.now id c.as_str.ensures.name c.is_spelled.ensures.fits (c.is_short_end.ensures c.if-not-is_short_end.false)
    (search rules) c.requires (sym told ∙ c.is_spelled.ensures.text c.if-not-is_spelled.false ∙ ap (λ n. short_text n id c.in_ok-name.end.now) c.as_str.ensures.text)
    ∙ with_members name id (sym c.no_members.ensures)
