use Rattle.std.proofs.Common.{◌∙◌, ap, sym, add-one, append_assoc, [], ◌∷◌}
use Rattle.xfs_script.specs.Answered.{lines_text}
use Rattle.xfs_script.proofs.AnswerLaws.{lines_text-append}
use Rattle.xfs_lines.specs.Guard.Texts.{show_lines, unit_line}
use Rattle.xfs_lines.proofs.output.text.show_text.Goals as goal

pub loop-place-preserved : goal.loop-place-preserved
loop-place-preserved c =
    let places = c.args.places.now in
    let before = show_lines c.loop-place.place places in
    let line = unit_line places c.loop-place.place in
    let more = ap (λ n. lines_text (show_lines n places)) (sym (add-one c.loop-place.place)) in
    rw (c.in_ok-push_unit.ensures, c.loop-place.invariant) (append_assoc (lines_text before) line (10 ∷ []) ∙ (sym (lines_text-append before (line ∷ [])) ∙ more))
