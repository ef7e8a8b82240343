-- What a history says of the commands of its conversation.
use Rattle.std.proofs.Common.{◌≡◌, ℕ, ◌+◌, ◌<◌, ◌≤◌, List, [], ◌∷◌, ◌++◌, Bool, true, false, cond, ◌&&◌, ◌||◌, ◌==◌, not, nat_le, nat_lt, Contains, Option, Some, None, Result, Ok, Err, refl, sym, ◌∙◌, ap, arith, inl, inr}
use Rattle.std.specs.Option.{IfSome}
use Rattle.std.specs.List.{range_with_len}
use Rattle.std.proofs.lemmas.Bool.{false≢true, cases_Bool, eq-eqb, eqb-true, leb-true, lt-leb, and_parts, and_left, and_right, or_from, or_parts, false_from_ne_true}
use Rattle.std.proofs.lemmas.List.Folds.{list_any-append, list_any_at}
use Rattle.xfs_envelope.specs.declared.code.Status.{Status}
use Rattle.xfs_envelope.specs.declared.code.Status.TheVariants.{InvalidMessage, InvalidRequestId, TooManyRequests}
use Rattle.xfs_envelope.specs.declared.command.Refuse.{Refuse}
use Rattle.xfs_envelope.specs.Commands.{Command}
use Rattle.xfs_envelope.specs.Replies as reply
use Rattle.xfs_envelope.specs.Replies.{Reply}
use Rattle.xfs_client.specs.History as history
use Rattle.xfs_client.specs.History.{Told, Entry, ask, heard, asks, acknowledges, ends, was_heard, is_asked, is_open, is_acknowledged, first_unacknowledged, open_ask, addressee, with_status, of_ask, told_of}
use Rattle.xfs_client.specs.declared.heard.HearFault.TheVariants.{Stranger}
use Rattle.xfs_client.proofs.Histories.{asks-heard, asks-ask, was_heard-heard, was_heard-ask, is_asked-heard, is_asked-ask, is_open-ask, is_acknowledged-ask, is_open-heard, is_acknowledged-heard}
use Rattle.xfs_client.proofs.Numbers.{find-none, find-least, waits_anew, runs_as_before}
use Rattle.xfs_conversation.specs.Answers.{heading_of}
use Rattle.xfs_conversation.specs.Conversation.{Acknowledges, misread, misnumbered, crowded, accepted, Says, completed, told, announced}
use Rattle.xfs_conversation.specs.Pending.{Pending, pending_of, has_id, is_pending, without_id}
use Rattle.xfs_client.proofs.Booleans.{waits_still, runs_still, waits_but, runs_but, waits_less, runs_more, none_out, waits_only, runs_only, next_less, one_longer, next_is, between, none_between}

-- A history whose acknowledged asks are the pending commands, where so many texts were acknowledged.
pub record Agrees (h : List Entry) (pending : List Pending) (n : ℕ) : Type 0 where
  pub running : (id : ℕ) → (is_open h id && is_acknowledged h id) ≡ is_pending pending id
  pub waiting : (id : ℕ) → (is_open h id && not (is_acknowledged h id)) ≡ (nat_lt n id && nat_le id (asks h))
  pub known : (id : ℕ) → is_asked h id ≡ false → (was_heard (ends id) h ≡ false) × (is_acknowledged h id ≡ false)
  pub made : n ≤ asks h

-- something is told by an answer, and the history with it agrees again
pub record Goes (h : List Entry) (r : Option Reply) (after : List Pending) (n : ℕ) : Type 0 where
  pub tells : Told
  pub is : told_of h r ≡ Ok tells
  pub agrees : Agrees (h ++ heard tells ∷ []) after n

none_asked : (q : ℕ) → is_asked [] q ≡ false
none_asked q = false_from_ne_true (is_asked [] q) (λ h. let parts = and_parts _ _ h in let low = leb-true 1 q parts.0 in let high = leb-true q 0 parts.1 in absurd (omega (arith, low, high)))

pub agrees_first : Agrees [] [] 0
agrees_first = record {
  running = λ q. and_left _ _ (and_left _ _ (none_asked q));
  waiting = λ q. and_left _ _ (and_left _ _ (none_asked q)) ∙ sym (none_between 0 q);
  known = λ q _. (refl, refl);
  made = omega arith;
}

module _ (h : List Entry) (pending : List Pending) (n : ℕ) (a : Agrees h pending n) where
  never_told : (q : ℕ) → (asks h + 1 == q) ≡ true → (is_asked h q ≡ false) × (was_heard (ends q) h ≡ false) × (is_acknowledged h q ≡ false)
  never_told q next =
      let is = eqb-true (asks h + 1) q next in
      let not_asked : is_asked h q ≡ false = and_right _ _ (lt-leb q (asks h) (omega (arith, is))) in
      let told = a.known q not_asked in
      (not_asked, told.0, told.1)

  -- one ask more
  pub agrees_asked : Agrees (h ++ ask ∷ []) pending n
  agrees_asked = record {
    running = λ q. rw (is_open-ask h q, is_acknowledged-ask h q) (sym (runs_as_before (asks h + 1 == q) (is_asked h q) (was_heard (ends q) h) (is_acknowledged h q) (never_told q)) ∙ a.running q);
    waiting = λ q. rw (is_open-ask h q, is_acknowledged-ask h q, asks-ask h) (sym (waits_anew (asks h + 1 == q) (is_asked h q) (was_heard (ends q) h) (is_acknowledged h q) (never_told q))
        ∙ ap (cond (asks h + 1 == q) true) (a.waiting q) ∙ one_longer n (asks h) q a.made);
    known = λ q not_now. let parts = or_parts _ _ (sym (is_asked-ask h q) ∙ not_now) in let before = a.known q parts.1 in (was_heard-ask h (ends q) ∙ before.0, is_acknowledged-ask h q ∙ before.1);
    made = rw (asks-ask h) (let m = a.made in omega (arith, m));
  }

  -- of an ask that was not made nothing is told now
  known_still : (t : Told) → ((q : ℕ) → is_asked h q ≡ false → ends q t ≡ false) → ((q : ℕ) → is_asked h q ≡ false → acknowledges q t ≡ false)
      → (q : ℕ) → is_asked (h ++ heard t ∷ []) q ≡ false → (was_heard (ends q) (h ++ heard t ∷ []) ≡ false) × (is_acknowledged (h ++ heard t ∷ []) q ≡ false)
  known_still t no_end no_acknowledge q not_now =
      let not_asked = sym (is_asked-heard h t q) ∙ not_now in
      let before = a.known q not_asked in
      (was_heard-heard h t (ends q) ∙ or_from _ _ before.0 (no_end q not_asked), is_acknowledged-heard h t q ∙ or_from _ _ before.1 (no_acknowledge q not_asked))

  other_than : (k q : ℕ) → is_open h k ≡ true → is_asked h q ≡ false → (k == q) ≡ false
  other_than k q was_open not_asked = false_from_ne_true (k == q) (λ same. false≢true (sym not_asked ∙ (and_parts _ _ (ap (is_open h) (sym (eqb-true k q same)) ∙ was_open)).0))

  made_still : (t : Told) (m : ℕ) → m ≤ asks h → m ≤ asks (h ++ heard t ∷ [])
  made_still t m le = rw (asks-heard h t) le

  -- what is told of no ask, or changes none
  agrees_told : (t : Told) → ((q : ℕ) → ends q t ≡ false) → ((q : ℕ) → acknowledges q t ≡ false) → Agrees (h ++ heard t ∷ []) pending n
  agrees_told t no_end no_acknowledge = record {
    running = λ q. rw (is_open-heard h t q, is_acknowledged-heard h t q, no_end q, no_acknowledge q) (runs_still (is_open h q) (is_acknowledged h q) ∙ a.running q);
    waiting = λ q. rw (is_open-heard h t q, is_acknowledged-heard h t q, no_end q, no_acknowledge q, asks-heard h t) (waits_still (is_open h q) (is_acknowledged h q) ∙ a.waiting q);
    known = known_still t (λ q _. no_end q) (λ q _. no_acknowledge q);
    made = made_still t n a.made;
  }

  runs_of : (id : ℕ) → is_pending pending id ≡ true → (is_open h id ≡ true) × (is_acknowledged h id ≡ true)
  runs_of id there = runs_only (is_open h id) (is_acknowledged h id) (a.running id ∙ there)

  -- a pending command is over
  without_one : (k : ℕ) (ps : List Pending) (q : ℕ) → is_pending (without_id k ps) q ≡ (is_pending ps q && not (k == q))
  without_one k [] q = refl
  without_one k (p ∷ ps) q = elim (cases_Bool (has_id k p)) [
    | inl y ↦ rw (y, without_one k ps q, eqb-true p.id k y) (taken (k == q) (is_pending ps q))
    | inr apart ↦ rw (apart, without_one k ps q) (kept (p.id == q) (is_pending ps q) (k == q) (λ here there. false≢true (sym apart ∙ rw (eqb-true p.id q here, eqb-true k q there) (eq-eqb q q refl))))
  ]
    where
      taken : (i r : Bool) → (r && not i) ≡ ((i || r) && not i)
      taken true true = refl
      taken true false = refl
      taken false r = refl

      kept : (b r i : Bool) → (b ≡ true → i ≡ true → ⊥) → (b || (r && not i)) ≡ ((b || r) && not i)
      kept true r true apart = absurd (apart refl refl)
      kept true r false apart = refl
      kept false r i apart = refl

  agrees_over : (k : ℕ) (t : Told) → is_pending pending k ≡ true → ((q : ℕ) → ends q t ≡ (k == q)) → ((q : ℕ) → acknowledges q t ≡ false)
      → Agrees (h ++ heard t ∷ []) (without_id k pending) n
  agrees_over k t there end no_acknowledge = record {
    running = λ q. rw (is_open-heard h t q, is_acknowledged-heard h t q, end q, no_acknowledge q, without_one k pending q) (runs_but (is_open h q) (is_acknowledged h q) (k == q) ∙ ap (λ b. b && not (k == q)) (a.running q));
    waiting = λ q. rw (is_open-heard h t q, is_acknowledged-heard h t q, end q, no_acknowledge q, asks-heard h t) (waits_but (is_open h q) (is_acknowledged h q) (k == q)
        ∙ none_out (is_open h q && not (is_acknowledged h q)) (k == q) (λ same. and_right _ _ (ap not (ap (is_acknowledged h) (sym (eqb-true k q same)) ∙ (runs_of k there).1))) ∙ a.waiting q);
    known = known_still t (λ q not_asked. end q ∙ other_than k q (runs_of k there).0 not_asked) (λ q _. no_acknowledge q);
    made = made_still t n a.made;
  }

  -- the next ask is the one that an acknowledge is for
  next_waits : n < asks h → (is_open h (n + 1) ≡ true) × (is_acknowledged h (n + 1) ≡ false)
  next_waits less = waits_only (is_open h (n + 1)) (is_acknowledged h (n + 1)) (a.waiting (n + 1) ∙ next_is n (asks h) less)

  next_not_pending : n < asks h → (q : ℕ) → (n + 1 == q) ≡ true → is_pending pending q ≡ false
  next_not_pending less q same = sym (a.running q) ∙ and_right _ _ (ap (is_acknowledged h) (sym (eqb-true (n + 1) q same)) ∙ (next_waits less).1)

  pub next_addressed : n < asks h → (id : Option ℕ) → IfSome id (λ i. i ≡ n + 1) → addressee h id ≡ Some (n + 1)
  next_addressed less None e =
      find-least (λ id. is_open h id && not (is_acknowledged h id)) (n + 1) (a.waiting (n + 1) ∙ next_is n (asks h) less)
      (λ q p. let b = between n (asks h) q (sym (a.waiting q) ∙ p) in let low = b.0 in omega (arith, low)) 1 (asks h) (omega arith) (omega (arith, less))
  next_addressed less (Some id) e = rw (e, (next_waits less).0) refl

  -- where every ask was acknowledged, there is none
  pub none_addressed : n ≡ asks h → (id : Option ℕ) → IfSome id (λ i. i ≡ n + 1) → addressee h id ≡ None
  none_addressed all None e = find-none (λ id. is_open h id && not (is_acknowledged h id)) (λ q. a.waiting q ∙ rw all (none_between (asks h) q)) (range_with_len 1 (asks h))
  none_addressed all (Some id) e = rw (e, closed) refl
    where
      closed : is_open h (n + 1) ≡ false
      closed = and_left _ _ (and_right _ _ (lt-leb (n + 1) (asks h) (omega (arith, all))))

  -- the next ask is refused
  agrees_refused : n < asks h → (status : Status) → Agrees (h ++ heard (history.refused (n + 1) status) ∷ []) pending (n + 1)
  agrees_refused less status = let t = history.refused (n + 1) status in record {
    running = λ q. rw (is_open-heard h t q, is_acknowledged-heard h t q) (runs_but (is_open h q) (is_acknowledged h q) (n + 1 == q)
        ∙ ap (λ b. b && not (n + 1 == q)) (a.running q) ∙ none_out (is_pending pending q) (n + 1 == q) (next_not_pending less q));
    waiting = λ q. rw (is_open-heard h t q, is_acknowledged-heard h t q, asks-heard h t) (waits_but (is_open h q) (is_acknowledged h q) (n + 1 == q)
        ∙ ap (λ b. b && not (n + 1 == q)) (a.waiting q) ∙ next_less n (asks h) q);
    known = known_still t (λ q not_asked. other_than (n + 1) q (next_waits less).0 not_asked) (λ q _. refl);
    made = made_still t (n + 1) (omega (arith, less));
  }

  -- the next ask is accepted
  agrees_accepted : n < asks h → (p : Pending) → p.id ≡ n + 1 → Agrees (h ++ heard (history.acknowledged (n + 1)) ∷ []) (pending ++ p ∷ []) (n + 1)
  agrees_accepted less p is = let t = history.acknowledged (n + 1) in record {
    running = λ q. rw (is_open-heard h t q, is_acknowledged-heard h t q, list_any-append (has_id q) pending (p ∷ []), is) (runs_more (is_open h q) (is_acknowledged h q) (n + 1 == q)
        (λ same. ap (is_open h) (sym (eqb-true (n + 1) q same)) ∙ (next_waits less).0) ∙ ap (λ b. b || ((n + 1 == q) || false)) (a.running q));
    waiting = λ q. rw (is_open-heard h t q, is_acknowledged-heard h t q, asks-heard h t) (waits_less (is_open h q) (is_acknowledged h q) (n + 1 == q)
        ∙ ap (λ b. b && not (n + 1 == q)) (a.waiting q) ∙ next_less n (asks h) q);
    known = known_still t (λ q _. refl) (λ q not_asked. other_than (n + 1) q (next_waits less).0 not_asked);
    made = made_still t (n + 1) (omega (arith, less));
  }

  goes_refused : n < asks h → (id : Option ℕ) (name : Option (List ℕ)) (status : Status) → IfSome id (λ i. i ≡ n + 1) → Goes h (Some (reply.acknowledge id name (Some status))) pending (n + 1)
  goes_refused less id name status e = record {
    tells = history.refused (n + 1) status;
    is = rw (next_addressed less id e) refl;
    agrees = agrees_refused less status;
  }

  -- the acknowledge of the next ask
  pub goes_posted : n < asks h → {t : Result Command Refuse} {r : Option Reply} {after : List Pending} → IfSome (heading_of t).id (λ i. i ≡ n + 1) → Acknowledges pending t r after → Goes h r after (n + 1)
  goes_posted less e (misread refuse) = goes_refused less refuse.id None InvalidMessage e
  goes_posted less e (misnumbered c wrong) = goes_refused less (Some c.id) (Some c.name) InvalidRequestId e
  goes_posted less e (crowded c right) = goes_refused less (Some c.id) (Some c.name) TooManyRequests e
  goes_posted less e (accepted c right) = record {
    tells = history.acknowledged (n + 1);
    is = rw (next_addressed less (Some c.id) e) refl;
    agrees = agrees_accepted less (pending_of c) e;
  }

  -- one for an ask that was not made is a stranger
  pub stranger_posted : n ≡ asks h → {t : Result Command Refuse} {r : Option Reply} {after : List Pending} → IfSome (heading_of t).id (λ i. i ≡ n + 1) → Acknowledges pending t r after → told_of h r ≡ Err Stranger
  stranger_posted all e (misread refuse) = rw (none_addressed all refuse.id e) refl
  stranger_posted all e (misnumbered c wrong) = rw (none_addressed all (Some c.id) e) refl
  stranger_posted all e (crowded c right) = rw (none_addressed all (Some c.id) e) refl
  stranger_posted all e (accepted c right) = rw (none_addressed all (Some c.id) e) refl

  there_pending : (p : Pending) → Contains pending p → is_pending pending p.id ≡ true
  there_pending p there = list_any_at (has_id p.id) pending there.0 p there.1 (rw there.2 (eq-eqb p.id p.id refl))

  -- any other frame
  pub goes_heard : {r : Option Reply} {after : List Pending} → Says pending r after → Goes h r after n
  goes_heard (completed p code payload there) = record {
    tells = history.completed p.id code payload;
    is = rw (runs_of p.id (there_pending p there)).0 refl;
    agrees = agrees_over p.id (history.completed p.id code payload) (there_pending p there) (λ q. refl) (λ q. refl);
  }
  goes_heard (told p name payload there) = record {
    tells = history.event p.id;
    is = rw (runs_of p.id (there_pending p there)).0 refl;
    agrees = agrees_told (history.event p.id) (λ q. refl) (λ q. refl);
  }
  goes_heard (announced name payload) = record {
    tells = history.unsolicited;
    is = refl;
    agrees = agrees_told history.unsolicited (λ q. refl) (λ q. refl);
  }
