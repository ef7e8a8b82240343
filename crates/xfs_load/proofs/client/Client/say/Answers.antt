use Rattle.std.proofs.Common.{inl, inr, refl, ap, ◌∙◌}
use Rattle.std.proofs.lemmas.Result.{on_ok_weaker}
use Rattle.xfs_guard.proofs.KeepsLaws.{Proceeds-same, Proceeds-trans}
use Rattle.xfs_load.specs.Generator.{Client, asking, hears_all}
use Rattle.xfs_load.specs.Plays.{posting, resting, hearing}
use Rattle.xfs_load.proofs.RestLaws.{on-err}
use Rattle.xfs_load.proofs.PlayLaws.{proceeds-kept}
use Rattle.xfs_load.proofs.client.Client.say.Goals as goal

pub returns-in_err-text-clause-memory : goal.returns-in_err-text-clause-memory
returns-in_err-text-clause-memory g c = on-err _ _ (inl refl)

pub returns-in_err-text-clause-proceeds : goal.returns-in_err-text-clause-proceeds
returns-in_err-text-clause-proceeds g c = Proceeds-same g.D.Disk _ g.met.D.Disk.only_now

pub returns-in_err-post-clause-memory : goal.returns-in_err-post-clause-memory
returns-in_err-post-clause-memory g c =
    let pass = ap (λ (v : Client). v.pass) c.self.view_is in
    on-err _ _ (inr (record { text = c.in_ok-text.text.items; text_is = c.in_ok-text.ensures; says = posting (rw (c.in_err-post.was, c.deref.ensures.value, pass) at c.post.ensures.step) }))

pub returns-in_err-post-clause-proceeds : goal.returns-in_err-post-clause-proceeds
returns-in_err-post-clause-proceeds g c = proceeds-kept g.D.Disk _ _ g.met.D.Disk.only_now c.post.ensures.guard

pub returns-in_err-rest-clause-memory : goal.returns-in_err-rest-clause-memory
returns-in_err-rest-clause-memory g c =
    let pass = ap (λ (v : Client). v.pass) c.self.view_is in
    on-err _ _ (inr (record { text = c.in_ok-text.text.items; text_is = c.in_ok-text.ensures; says = resting (rw (c.in_ok-post.was, c.deref.ensures.value, pass) at c.post.ensures.step) c.in_err-rest.ensures.memory }))

pub returns-in_err-rest-clause-proceeds : goal.returns-in_err-rest-clause-proceeds
returns-in_err-rest-clause-proceeds g c =
    Proceeds-trans g.D.Disk _ _ _ g.met.D.Disk.counts_now (proceeds-kept g.D.Disk _ _ g.met.D.Disk.only_now c.post.ensures.guard) c.rest.ensures.proceeds

pub returns-clause-does : goal.returns-clause-does
returns-clause-does g c =
    let pass = ap (λ (v : Client). v.pass) c.self.view_is in
    on_ok_weaker c.hear_all.result (λ heard. record {
      text = c.in_ok-text.text.items;
      text_is = c.in_ok-text.ensures;
      frames = c.outbox-frames.result;
      says = record {
        posted = c.post.new.self.state;
        post = rw (c.in_ok-post.was, c.deref.ensures.value, pass) at c.post.ensures.step;
        many = c.in_ok-rest.field-0;
        rested = c.rest.new.machine.state;
        rests = c.in_ok-rest.ensures.rests;
        hands = rw pass at c.outbox-frames.ensures.step;
      };
      hears = heard ∙ ap (λ (client : Client). hears_all c.args.ask client c.outbox-frames.result) (c.begin.ensures ∙ ap (asking c.args.ask) c.self.view_is);
    }) c.hear_all.ensures.heard

pub returns-clause-memory : goal.returns-clause-memory
returns-clause-memory g c =
    let pass = ap (λ (v : Client). v.pass) c.self.view_is in
    on-err _ _ (inr (record {
      text = c.in_ok-text.text.items;
      text_is = c.in_ok-text.ensures;
      says = hearing {frames = c.outbox-frames.result} (record {
        posted = c.post.new.self.state;
        post = rw (c.in_ok-post.was, c.deref.ensures.value, pass) at c.post.ensures.step;
        many = c.in_ok-rest.field-0;
        rested = c.rest.new.machine.state;
        rests = c.in_ok-rest.ensures.rests;
        hands = rw pass at c.outbox-frames.ensures.step;
      });
    }))

pub returns-clause-proceeds : goal.returns-clause-proceeds
returns-clause-proceeds g c =
    let said = Proceeds-trans g.D.Disk _ _ _ g.met.D.Disk.counts_now (proceeds-kept g.D.Disk _ _ g.met.D.Disk.only_now c.post.ensures.guard) c.rest.ensures.proceeds in
    Proceeds-trans g.D.Disk _ _ _ g.met.D.Disk.counts_now said (proceeds-kept g.D.Disk _ _ g.met.D.Disk.only_now c.outbox-frames.ensures.guard)
