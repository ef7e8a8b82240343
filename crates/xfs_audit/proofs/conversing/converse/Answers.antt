use Rattle.std.proofs.Common.{◌≡◌, ◌-◌, ◌+◌, ◌∷◌, ◌∙◌, drop, ap, arith, subst, sym}
use Rattle.std.proofs.lemmas.List.{drop_more}
use Rattle.xfs_envelope.specs.Replies.{reply_in}
use Rattle.xfs_audit.specs.Ways.{IsRest}
use Rattle.xfs_audit.proofs.Choosing.{converses-where-it-fits, fits-where-it-converses}
use Rattle.xfs_audit.proofs.Resting.{whole-rest}
use Rattle.xfs_audit.proofs.conversing.converse.Goals as goal

pub loop-i-preserved : goal.loop-i-preserved
loop-i-preserved c =
    let frames = c.args.frames.now in
    let i = c.loop-i.i in
    let frame = c.index-frames-i.result in
    let one : i - 1 + 1 ≡ i = omega arith in
    let begins : drop (i - 1) frames ≡ frame ∷ drop i frames =
    drop_more frames (i - 1) frame (omega arith) ∙ ap (λ f. f ∷ drop (i - 1 + 1) frames) (sym c.index-frames-i.is) ∙ ap (λ k. frame ∷ drop k frames) one in
    subst (λ l. IsRest c.args.pending.now c.args.texts.now l c.read.new.self) (sym begins) (c.in_ok-read.ensures frame (drop i frames) (ap reply_in (sym c.list.ensures)) c.loop-i.invariant)

pub returns : goal.returns
returns c =
    let zero : c.loop-i.i ≡ 0 = omega arith in
    let whole = whole-rest c.args.pending.now c.args.texts.now c.args.frames.now c.loop-i.rest (subst (λ k. IsRest c.args.pending.now c.args.texts.now (drop k c.args.frames.now) c.loop-i.rest) zero c.loop-i.invariant) in (
      λ yes. fits-where-it-converses c.args.pending.now c.args.texts.now c.args.frames.now (whole.0 (c.is_whole.ensures.0 yes)),
      λ fits. c.is_whole.ensures.1 (whole.1 (converses-where-it-fits c.args.pending.now c.args.texts.now c.args.frames.now fits)),
    )
