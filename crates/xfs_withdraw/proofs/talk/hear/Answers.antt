use Rattle.std.proofs.Common.{◌≡◌, Err, rules, subst}
use Rattle.xfs_server.specs.Links.{after_give}
use Rattle.xfs_withdraw.specs.Endings.{give_ending, hear_ending}
use Rattle.xfs_withdraw.proofs.TalkLaws.{done_end, ended_end, err-with, heard_asks, heard_unsent, heard_waits, refused_end, unheard_end}
use Rattle.xfs_withdraw.proofs.talk.hear.Goals as goal

pub returns-in_err-ask : goal.returns-in_err-ask
returns-in_err-ask g c = record {
  goes_on = search rules;
  ends =
      err-with c.from_residual.result _ (hear_ending c.in_err-ask.field-0.0) c.from_residual.ensures.1
      (unheard_end _ _ _ _ c.requires _ (rw c.list.ensures at c.in_err-ask.ensures.refused));
  terms = search rules;
}

pub returns-in_err-give-in-Ask : goal.returns-in_err-give-in-Ask
returns-in_err-give-in-Ask g c = record {
  goes_on = search rules;
  ends =
      err-with c.from_residual-in_err-give-in-Ask.result _ (give_ending c.in_err-give-in-Ask.field-0.0) c.from_residual-in_err-give-in-Ask.ensures.1
      (heard_unsent _ _ _ _ c.requires _ c.in-Ask.ask _ (rw (c.list.ensures, c.in-Ask.is) at c.in_ok-ask.ensures.moved)
      (subst (λ text. g.L.Link.log c.give.new.self ≡ after_give (g.L.Link.log c.args.link.now) text (Err c.in_err-give-in-Ask.field-0.0)) c.list-in-Ask.ensures c.in_err-give-in-Ask.ensures));
  terms = search rules;
}

pub returns-in_ok-give-in-Ask : goal.returns-in_ok-give-in-Ask
returns-in_ok-give-in-Ask g c = record {
  goes_on =
      heard_asks _ _ _ _ c.requires _ _ c.in-Ask.ask c.in_ok-give-in-Ask.field-0 c.in_ok-ask.ensures.keeps.terms (rw c.list.ensures at c.in_ok-ask.ensures.heard)
      (rw (c.list.ensures, c.in-Ask.is) at c.in_ok-ask.ensures.moved) (rw c.list-in-Ask.ensures at c.in_ok-give-in-Ask.ensures);
  ends = search rules;
  terms = search rules;
}

pub returns-in-Wait : goal.returns-in-Wait
returns-in-Wait g c = record {
  goes_on = heard_waits _ _ _ _ c.requires _ c.in_ok-ask.ensures.keeps.terms (rw c.list.ensures at c.in_ok-ask.ensures.heard) (rw (c.list.ensures, c.in-Wait.is) at c.in_ok-ask.ensures.moved);
  ends = search rules;
  terms = search rules;
}

pub returns-in-Done : goal.returns-in-Done
returns-in-Done g c = record {
  goes_on = search rules;
  ends = done_end _ _ _ _ c.requires (rw (c.list.ensures, c.in-Done.is) at c.in_ok-ask.ensures.moved);
  terms = search rules;
}

pub returns-in-Ended : goal.returns-in-Ended
returns-in-Ended g c = record {
  goes_on = search rules;
  ends = ended_end _ _ _ _ c.requires c.in-Ended.code (rw (c.list.ensures, c.in-Ended.is) at c.in_ok-ask.ensures.moved);
  terms = search rules;
}

pub returns-in-Refused : goal.returns-in-Refused
returns-in-Refused g c = record {
  goes_on = search rules;
  ends = refused_end _ _ _ _ c.requires c.in-Refused.status (rw (c.list.ensures, c.in-Refused.is) at c.in_ok-ask.ensures.moved);
  terms = search rules;
}
