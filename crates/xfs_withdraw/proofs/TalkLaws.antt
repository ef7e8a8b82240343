-- Where a withdrawal stands after each call on its link.
use Rattle.std.proofs.Common.{◌≡◌, ◌≢◌, ◌<◌, ◌≤◌, ◌+◌, ℕ, List, [], ◌∷◌, ◌++◌, Option, None, Some, Result, Ok, Err, refl, ap, sym, ◌∙◌, subst, arith, rules, codes}
use Rattle.std.specs.Prelude.{IfErr, IsErrAnd}
use Rattle.xfs_base.specs.Causes.{IfTold, next_count}
use Rattle.xfs_envelope.specs.Fields.{empty}
use Rattle.xfs_envelope.specs.declared.code.Code.{Code}
use Rattle.xfs_envelope.specs.declared.code.Status.{Status}
use Rattle.xfs_client.specs.Commands.{command_text}
use Rattle.xfs_client.specs.Withdrawals as step
use Rattle.xfs_client.specs.Withdrawals.{Terms, Withdrawing, Step, HasHeard, IsMove, conversation, step_in}
use Rattle.xfs_client.specs.declared.heard.HearFault.{HearFault}
use Rattle.xfs_client.specs.declared.withdrawal.Move.TheVariants as move
use Rattle.xfs_server.specs.Counted.{grown}
use Rattle.xfs_server.specs.Links.{LinkLog, IsFresh, after_take, after_give}
use Rattle.xfs_server.specs.declared.link.GiveFault.{GiveFault}
use Rattle.xfs_server.specs.declared.link.Taking.{Taking}
use Rattle.xfs_withdraw.specs.Endings.{ending_of, give_ending, hear_ending}
use Rattle.xfs_withdraw.specs.Talks.{HasAsked, started, waited, asked, at_text, waiting, unheard, unsent, LinkTells, IsUnderWay, HasTaken, Withdraws}
use Rattle.xfs_withdraw.specs.declared.ending.Ending.TheVariants.{Done, Ended, Refused, BadAnswer, Closed, Quiet, Failed, Memory}
use Rattle.xfs_withdraw.specs.declared.talk.TheConstants.{MOST_QUIETS}

-- an error that is known
pub err-with : {T E : Type 0} (result : Result T E) (P : E → Type 0) (e : E) → IsErrAnd result (λ x. x ≡ e) → P e → IfErr result P
err-with (Ok x) P e err p = absurd err
err-with (Err x) P e err p = subst P (sym err) p

-- a list that is told grows
told-more : {T : Type 0} (told : Option (List T)) (xs ys : List T) → IfTold told (λ list. list ≡ xs) → IfTold (grown ys told) (λ list. list ≡ xs ++ ys)
told-more None xs ys e = tt
told-more (Some list) xs ys e = ap (λ l. l ++ ys) e

-- what the link tells at an ending that is no call of its own
module _ (l : LinkLog) (texts asks : List (List ℕ)) (t : LinkTells l None texts asks) where
  tells-done : LinkTells l (Some Done) texts asks
  tells-done = record { taken = t.taken; sent = t.sent; closed = t.closed; faults = t.faults; quiets = t.quiets }

  tells-ended : (code : Code) → LinkTells l (Some (Ended code)) texts asks
  tells-ended code = record { taken = t.taken; sent = t.sent; closed = t.closed; faults = t.faults; quiets = t.quiets }

  tells-refused : (status : Status) → LinkTells l (Some (Refused status)) texts asks
  tells-refused status = record { taken = t.taken; sent = t.sent; closed = t.closed; faults = t.faults; quiets = t.quiets }

  tells-bad : LinkTells l (Some BadAnswer) texts asks
  tells-bad = record { taken = t.taken; sent = t.sent; closed = t.closed; faults = t.faults; quiets = t.quiets }

  tells-memory : LinkTells l (Some Memory) texts asks
  tells-memory = record { taken = t.taken; sent = t.sent; closed = t.closed; faults = t.faults; quiets = t.quiets }

tells-fresh : (l : LinkLog) → IsFresh l → LinkTells l None [] []
tells-fresh l f = record { taken = f.taken; sent = f.sent; closed = f.closed; faults = f.faults; quiets = rw f.quiets (omega arith) }

-- one text was sent
tells-sent : (l m : LinkLog) (texts asks : List (List ℕ)) (ask : List ℕ) (x : Unit {0}) → LinkTells l None texts asks → m ≡ after_give l ask (Ok x) → LinkTells m None texts (asks ++ ask ∷ [])
tells-sent l m texts asks ask x t e = rw e record { taken = t.taken; sent = told-more l.sent asks (ask ∷ []) t.sent; closed = t.closed; faults = t.faults; quiets = t.quiets }

-- and one wasn't
tells-unsent : (l m : LinkLog) (texts asks : List (List ℕ)) (ask : List ℕ) (fault : GiveFault) → LinkTells l None texts asks → m ≡ after_give l ask (Err fault) → LinkTells m (Some (give_ending fault)) texts asks
tells-unsent l m texts asks ask GiveFault.Failed t e = rw e record { taken = t.taken; sent = t.sent; closed = t.closed; faults = rw t.faults refl; quiets = t.quiets }
tells-unsent l m texts asks ask GiveFault.Memory t e = rw e record { taken = t.taken; sent = t.sent; closed = t.closed; faults = t.faults; quiets = t.quiets }

-- the first ask was sent
pub begun : (w : Withdrawing) (l m : LinkLog) (ask : List ℕ) (x : Unit {0}) → HasHeard w [] → IsFresh l → ask ≡ command_text (codes "Common.GetCommandNonce") 1 empty
    → m ≡ after_give l ask (Ok x) → IsUnderWay w 0 m
begun w l m ask x heard fresh is e = record {
  texts = [];
  asks = ask ∷ [];
  heard = heard;
  has_asks = subst (λ text. HasAsked w.terms [] (text ∷ [])) (sym is) started;
  tells = tells-sent l m [] [] ask x (tells-fresh l fresh) e;
  count = ap (λ k. k.quiets) e ∙ fresh.quiets;
}

-- no memory was there to make it
pub unbegun : (terms : Terms) (l : LinkLog) → IsFresh l → Withdraws terms Memory l
unbegun terms l fresh = record {
  texts = [];
  asks = [];
  ends = unsent (command_text (codes "Common.GetCommandNonce") 1 empty) started GiveFault.Memory;
  tells = tells-memory l [] [] (tells-fresh l fresh);
}

-- it wasn't sent
pub unbegun-unsent : (terms : Terms) (l m : LinkLog) (ask : List ℕ) (fault : GiveFault) → IsFresh l → ask ≡ command_text (codes "Common.GetCommandNonce") 1 empty
    → m ≡ after_give l ask (Err fault) → Withdraws terms (give_ending fault) m
unbegun-unsent terms l m ask fault fresh is e = record {
  texts = [];
  asks = [];
  ends = unsent ask (subst (λ text. HasAsked terms [] (text ∷ [])) (sym is) started) fault;
  tells = tells-unsent l m [] [] ask fault (tells-fresh l fresh) e;
}

-- one text was taken
pub text_taken : (w : Withdrawing) (quiets : ℕ) (l m : LinkLog) (text : List ℕ) → IsUnderWay w quiets l → m ≡ after_take l (Taking.Text text) → HasTaken w quiets text m
text_taken w quiets l m text g e = rw e record {
  texts = g.texts;
  asks = g.asks;
  heard = g.heard;
  has_asks = g.has_asks;
  tells = record { taken = told-more l.taken g.texts (text ∷ []) g.tells.taken; sent = g.tells.sent; closed = g.tells.closed; faults = g.tells.faults; quiets = g.tells.quiets };
  count = g.count;
}

counts : (quiets now : ℕ) → quiets < MOST_QUIETS → now ≡ next_count quiets → now ≡ quiets + 1
counts quiets now few e = omega (arith, few, e)

fewer : (now : ℕ) → now ≤ MOST_QUIETS → now ≢ MOST_QUIETS → now < MOST_QUIETS
fewer now le ne = omega (arith, le, ne)

-- the link was quiet once more
module _ (w : Withdrawing) (quiets now : ℕ) (l m : LinkLog) (g : IsUnderWay w quiets l) (e : m ≡ after_take l Taking.Quiet) (one : now ≡ quiets + 1) where
  counted_one : m.quiets ≡ now
  counted_one = counts l.quiets m.quiets g.tells.quiets (ap (λ k. k.quiets) e) ∙ ap (λ n. n + 1) g.count ∙ sym one

  pub quiet_again : now ≢ MOST_QUIETS → IsUnderWay w now m
  quiet_again ne = record {
    texts = g.texts;
    asks = g.asks;
    heard = g.heard;
    has_asks = g.has_asks;
    tells = record {
      taken = subst (λ k. IfTold k.taken (λ list. list ≡ g.texts)) (sym e) g.tells.taken;
      sent = subst (λ k. IfTold k.sent (λ list. list ≡ g.asks)) (sym e) g.tells.sent;
      closed = ap (λ k. k.closed) e ∙ g.tells.closed;
      faults = ap (λ k. k.faults) e ∙ g.tells.faults;
      quiets = let few : l.quiets < MOST_QUIETS = g.tells.quiets in let count = g.count in let is = counted_one in fewer m.quiets (omega (arith, few, count, is, one)) (rw is ne);
    };
    count = counted_one;
  }

  pub quiet_end : now ≡ MOST_QUIETS → Withdraws w.terms Quiet m
  quiet_end all = record {
    texts = g.texts;
    asks = g.asks;
    ends = waiting g.has_asks Quiet refl;
    tells = record {
      taken = subst (λ k. IfTold k.taken (λ list. list ≡ g.texts)) (sym e) g.tells.taken;
      sent = subst (λ k. IfTold k.sent (λ list. list ≡ g.asks)) (sym e) g.tells.sent;
      closed = ap (λ k. k.closed) e ∙ g.tells.closed;
      faults = ap (λ k. k.faults) e ∙ g.tells.faults;
      quiets = counted_one ∙ all;
    };
  }

-- it is cut off while it waits
module _ (w : Withdrawing) (quiets : ℕ) (l m : LinkLog) (g : IsUnderWay w quiets l) where
  pub closed_end : m ≡ after_take l Taking.Closed → Withdraws w.terms Closed m
  closed_end e = rw e record {
    texts = g.texts;
    asks = g.asks;
    ends = waiting g.has_asks Closed refl;
    tells = record { taken = g.tells.taken; sent = g.tells.sent; closed = refl; faults = g.tells.faults; quiets = g.tells.quiets };
  }

  pub failed_end : m ≡ after_take l Taking.Failed → Withdraws w.terms Failed m
  failed_end e = rw e record {
    texts = g.texts;
    asks = g.asks;
    ends = waiting g.has_asks Failed refl;
    tells = record { taken = g.tells.taken; sent = g.tells.sent; closed = g.tells.closed; faults = rw g.tells.faults refl; quiets = g.tells.quiets };
  }

  pub memory_end : m ≡ after_take l Taking.Memory → Withdraws w.terms Memory m
  memory_end e = rw e record {
    texts = g.texts;
    asks = g.asks;
    ends = waiting g.has_asks Memory refl;
    tells = tells-memory l g.texts g.asks g.tells;
  }

-- the ending that a move is
move-done : (terms : Terms) (s : Result Step HearFault) → IsMove terms s move.Done → ending_of s ≡ Some Done
move-done terms (Err fault) m = absurd m
move-done terms (Ok step.waits) m = cc
move-done terms (Ok (step.dispenses nonce)) m = absurd m
move-done terms (Ok step.presents) m = absurd m
move-done terms (Ok step.ends) m = refl
move-done terms (Ok (step.fails code)) m = cc
move-done terms (Ok (step.gives_up status)) m = cc

move-ended : (terms : Terms) (s : Result Step HearFault) (code : Code) → IsMove terms s (move.Ended code) → ending_of s ≡ Some (Ended code)
move-ended terms (Err fault) code m = absurd m
move-ended terms (Ok step.waits) code m = cc
move-ended terms (Ok (step.dispenses nonce)) code m = absurd m
move-ended terms (Ok step.presents) code m = absurd m
move-ended terms (Ok step.ends) code m = cc
move-ended terms (Ok (step.fails other)) code m = cc
move-ended terms (Ok (step.gives_up status)) code m = cc

move-refused : (terms : Terms) (s : Result Step HearFault) (status : Status) → IsMove terms s (move.Refused status) → ending_of s ≡ Some (Refused status)
move-refused terms (Err fault) status m = absurd m
move-refused terms (Ok step.waits) status m = cc
move-refused terms (Ok (step.dispenses nonce)) status m = absurd m
move-refused terms (Ok step.presents) status m = absurd m
move-refused terms (Ok step.ends) status m = cc
move-refused terms (Ok (step.fails code)) status m = cc
move-refused terms (Ok (step.gives_up other)) status m = cc

-- the text that was taken is heard
module _ (w : Withdrawing) (quiets : ℕ) (l : LinkLog) (text : List ℕ) (t : HasTaken w quiets text l) where
  -- and the withdrawal waits
  pub heard_waits : (v : Withdrawing) → v.terms ≡ w.terms → ((texts : List (List ℕ)) → HasHeard w texts → HasHeard v (texts ++ text ∷ []))
      → ((texts : List (List ℕ)) → HasHeard w texts → IsMove w.terms (step_in (conversation texts) text) move.Wait) → IsUnderWay v quiets l
  heard_waits v same more moved = record {
    texts = t.texts ++ text ∷ [];
    asks = t.asks;
    heard = more t.texts t.heard;
    has_asks = subst (λ terms. HasAsked terms (t.texts ++ text ∷ []) t.asks) (sym same) (waited t.has_asks text (moved t.texts t.heard));
    tells = t.tells;
    count = t.count;
  }

  -- and the ask that follows is sent
  pub heard_asks : (v : Withdrawing) (m : LinkLog) (ask : List ℕ) (x : Unit {0}) → v.terms ≡ w.terms → ((texts : List (List ℕ)) → HasHeard w texts → HasHeard v (texts ++ text ∷ []))
      → ((texts : List (List ℕ)) → HasHeard w texts → IsMove w.terms (step_in (conversation texts) text) (move.Ask ask)) → m ≡ after_give l ask (Ok x) → IsUnderWay v quiets m
  heard_asks v m ask x same more moved e = record {
    texts = t.texts ++ text ∷ [];
    asks = t.asks ++ ask ∷ [];
    heard = more t.texts t.heard;
    has_asks = subst (λ terms. HasAsked terms (t.texts ++ text ∷ []) (t.asks ++ ask ∷ [])) (sym same) (asked t.has_asks text ask (moved t.texts t.heard));
    tells = tells-sent l m (t.texts ++ text ∷ []) t.asks ask x t.tells e;
    count = ap (λ k. k.quiets) e ∙ t.count;
  }

  -- or isn't sent
  pub heard_unsent : (m : LinkLog) (ask : List ℕ) (fault : GiveFault) → ((texts : List (List ℕ)) → HasHeard w texts → IsMove w.terms (step_in (conversation texts) text) (move.Ask ask))
      → m ≡ after_give l ask (Err fault) → Withdraws w.terms (give_ending fault) m
  heard_unsent m ask fault moved e = record {
    texts = t.texts ++ text ∷ [];
    asks = t.asks;
    ends = unsent ask (asked t.has_asks text ask (moved t.texts t.heard)) fault;
    tells = tells-unsent l m (t.texts ++ text ∷ []) t.asks ask fault t.tells e;
  }

  -- it can't be heard
  pub unheard_end : (fault : HearFault) → (fault ≢ HearFault.Memory → (texts : List (List ℕ)) → HasHeard w texts → step_in (conversation texts) text ≡ Err fault)
      → Withdraws w.terms (hear_ending fault) l
  unheard_end HearFault.Stranger refused = record {
    texts = t.texts ++ text ∷ [];
    asks = t.asks;
    ends = at_text t.has_asks text BadAnswer (ap ending_of (refused (search rules) t.texts t.heard));
    tells = tells-bad l (t.texts ++ text ∷ []) t.asks t.tells;
  }
  unheard_end HearFault.Shape refused = record {
    texts = t.texts ++ text ∷ [];
    asks = t.asks;
    ends = at_text t.has_asks text BadAnswer (ap ending_of (refused (search rules) t.texts t.heard));
    tells = tells-bad l (t.texts ++ text ∷ []) t.asks t.tells;
  }
  unheard_end HearFault.Memory refused = record {
    texts = t.texts ++ text ∷ [];
    asks = t.asks;
    ends = unheard t.has_asks text;
    tells = tells-memory l (t.texts ++ text ∷ []) t.asks t.tells;
  }

  -- and it ends the withdrawal
  pub done_end : ((texts : List (List ℕ)) → HasHeard w texts → IsMove w.terms (step_in (conversation texts) text) move.Done) → Withdraws w.terms Done l
  done_end moved = record {
    texts = t.texts ++ text ∷ [];
    asks = t.asks;
    ends = at_text t.has_asks text Done (move-done w.terms (step_in (conversation t.texts) text) (moved t.texts t.heard));
    tells = tells-done l (t.texts ++ text ∷ []) t.asks t.tells;
  }

  pub ended_end : (code : Code) → ((texts : List (List ℕ)) → HasHeard w texts → IsMove w.terms (step_in (conversation texts) text) (move.Ended code)) → Withdraws w.terms (Ended code) l
  ended_end code moved = record {
    texts = t.texts ++ text ∷ [];
    asks = t.asks;
    ends = at_text t.has_asks text (Ended code) (move-ended w.terms (step_in (conversation t.texts) text) code (moved t.texts t.heard));
    tells = tells-ended l (t.texts ++ text ∷ []) t.asks t.tells code;
  }

  pub refused_end : (status : Status) → ((texts : List (List ℕ)) → HasHeard w texts → IsMove w.terms (step_in (conversation texts) text) (move.Refused status)) → Withdraws w.terms (Refused status) l
  refused_end status moved = record {
    texts = t.texts ++ text ∷ [];
    asks = t.asks;
    ends = at_text t.has_asks text (Refused status) (move-refused w.terms (step_in (conversation t.texts) text) status (moved t.texts t.heard));
    tells = tells-refused l (t.texts ++ text ∷ []) t.asks t.tells status;
  }
