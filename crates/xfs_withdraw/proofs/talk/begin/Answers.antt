use Rattle.std.proofs.Common.{◌≡◌, Err, rules, subst}
use Rattle.xfs_server.specs.Links.{after_give}
use Rattle.xfs_withdraw.specs.Endings.{give_ending}
use Rattle.xfs_withdraw.specs.declared.ending.Ending.TheVariants.{Memory}
use Rattle.xfs_withdraw.proofs.TalkLaws.{begun, err-with, unbegun, unbegun-unsent}
use Rattle.xfs_withdraw.proofs.talk.begin.Goals as goal

pub returns-in_err-ask : goal.returns-in_err-ask
returns-in_err-ask g c = record {
  goes_on = search rules;
  ends = err-with c.from_residual.result _ Memory c.from_residual.ensures.1 (unbegun _ _ c.requires.link);
  terms = search rules;
}

pub returns-in_err-give : goal.returns-in_err-give
returns-in_err-give g c = record {
  goes_on = search rules;
  ends =
      err-with c.from_residual-in_err-give.result _ (give_ending c.in_err-give.field-0.0) c.from_residual-in_err-give.ensures.1
      (unbegun-unsent _ _ _ c.in_ok-ask.ask.items _ c.requires.link c.in_ok-ask.ensures.text
      (subst (λ text. g.L.Link.log c.give.new.self ≡ after_give (g.L.Link.log c.args.link.now) text (Err c.in_err-give.field-0.0)) c.deref.ensures.value c.in_err-give.ensures));
  terms = search rules;
}

pub returns : goal.returns
returns g c = record {
  goes_on = begun _ _ _ c.in_ok-ask.ask.items c.in_ok-give.field-0 c.in_ok-ask.ensures.heard c.requires.link c.in_ok-ask.ensures.text (rw c.deref.ensures.value at c.in_ok-give.ensures);
  ends = search rules;
  terms = search rules;
}
