use Rattle.std.proofs.Common.{◌≡◌, ◌∙◌, sym, ap, drop, drop-drop}
use Rattle.xfs_journal.specs.Decode.{counts_in}
use Rattle.xfs_journal.proofs.read.places_at.Goals as goal

pub returns : goal.returns
returns c =
    let at = c.args.at in
    let bs = c.args.bytes.now in
    let a : c.counts_at.result ≡ counts_in (drop at bs) = c.counts_at.ensures in
    let b : c.counts_at-2.result ≡ counts_in (drop 32 (drop at bs)) = c.counts_at-2.ensures ∙ ap counts_in (sym (drop-drop 32 at bs)) in
    let d : c.counts_at-3.result ≡ counts_in (drop 64 (drop at bs)) = c.counts_at-3.ensures ∙ ap counts_in (sym (drop-drop 64 at bs)) in
    let e : c.counts_at-4.result ≡ counts_in (drop 96 (drop at bs)) = c.counts_at-4.ensures ∙ ap counts_in (sym (drop-drop 96 at bs)) in
    let f : c.counts_at-5.result ≡ counts_in (drop 128 (drop at bs)) = c.counts_at-5.ensures ∙ ap counts_in (sym (drop-drop 128 at bs)) in
    let g : c.counts_at-6.result ≡ counts_in (drop 160 (drop at bs)) = c.counts_at-6.ensures ∙ ap counts_in (sym (drop-drop 160 at bs)) in
    λ i. record { units = a i; transport = b i; outlet = d i; taken = e i; retracted = f i; rejected = g i }
