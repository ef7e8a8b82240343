-- What a queue keeps: ids that differ, one command that runs, and the limits.
use Rattle.std.proofs.Common.{◌≡◌, ◌||◌, ℕ, suc, ◌≤◌, ◌<◌, ◌==◌, ◌&&◌, not, Bool, true, false, cond, List, [], ◌∷◌, ◌++◌, None, Some, length, get_or, map, filter, find, count_by, All, AllPairs, refl, ap, sym, ◌∙◌, inl, inr, arith}
use Rattle.std.specs.List.{list_any}
use Rattle.std.proofs.lemmas.Bool.{cases_Bool, or_parts, and_left, and_right, leb-false, eqb-true, ne_eqb, cases_eq}
use Rattle.std.proofs.lemmas.List.{length-map, get_or-map, length-append}
use Rattle.std.proofs.lemmas.List.Elements.{All-cons}
use Rattle.std.proofs.lemmas.List.Kept.{AllPairs-filter}
use Rattle.std.proofs.lemmas.List.Quantifiers.{all_pairs_push}
use Rattle.std.proofs.lemmas.List.Sums.{length-filter, count_by-le-length, sum_by_push}
use Rattle.xfs_base.specs.declared.moment.ClientId.{ClientId}
use Rattle.xfs_queue.specs.declared.command.Stage.{Stage}
use Rattle.xfs_queue.specs.declared.command.Stage.TheVariants.{Running}
use Rattle.xfs_queue.specs.declared.command.Ticket.{Ticket}
use Rattle.xfs_queue.specs.declared.command.Ids.{Ids}
use Rattle.xfs_queue.specs.declared.command.OfferFault.TheVariants.{Busy, TooMany}
use Rattle.xfs_queue.specs.declared.command.Command.{Command}
use Rattle.xfs_queue.specs.Commands.{ticket_of, is_ticket, is_at, is_of, is_running, is_ready}
use Rattle.xfs_queue.specs.Queue.{IsQueue, offer_fault, with_stage, with_job, is_named, canceled, without_client, mark}
use Rattle.xfs_queue.proofs.Places.{AreApart, same_ticket, none≢some}

pub AllPairs-map : {X : Type 0} (R S : X → X → Type 0) (f : X → X) → ((a b : X) → R a b → S (f a) (f b)) → (xs : List X) → AllPairs R xs → AllPairs S (map f xs)
AllPairs-map R S f step xs h = λ i j d lt within.
    let in_list : j < length xs = rw length-map at within in
    let first_in : i < length xs = omega arith in
    rw (get_or-map f xs i d d first_in, get_or-map f xs j d d in_list) (step _ _ (h i j d lt in_list))

eqb-comm : (a b : ℕ) → (a == b) ≡ (b == a)
eqb-comm a b = elim (cases_eq a b) [
  | inl e ↦ rw e refl
  | inr n ↦ ne_eqb a b n ∙ sym (ne_eqb b a (λ e. n (sym e)))
]

is_ticket-comm : (t u : Ticket) → is_ticket t u ≡ is_ticket u t
is_ticket-comm t u = rw (eqb-comm u.client.0 t.client.0, eqb-comm u.id t.id) refl

pub same_count : {X : Type 0} (p : X → Bool) (f : X → X) → ((a : X) → p (f a) ≡ p a) → (xs : List X) → length (filter p (map f xs)) ≡ length (filter p xs)
same_count p f same [] = refl
same_count p f same (a ∷ xs) = rw (same a) (elim (cases_Bool (p a)) [
  | inl y ↦ rw y (ap suc (same_count p f same xs))
  | inr n ↦ rw n (same_count p f same xs)
])

fewer : {X : Type 0} (p keep : X → Bool) (xs : List X) → length (filter p (filter keep xs)) ≤ length (filter p xs)
fewer p keep [] = omega arith
fewer p keep (a ∷ xs) = elim (cases_Bool (keep a)) [
  | inl y ↦ rw y (elim (cases_Bool (p a)) [
    | inl z ↦ rw z (omega (arith, fewer p keep xs))
    | inr m ↦ rw m (fewer p keep xs)
  ])
  | inr n ↦ rw n (elim (cases_Bool (p a)) [
    | inl z ↦ rw z (omega (arith, fewer p keep xs))
    | inr m ↦ rw m (fewer p keep xs)
  ])
]

none_from_list_any : {X : Type 0} (p : X → Bool) (xs : List X) → list_any p xs ≡ false → All (λ x. p x ≡ false) xs
none_from_list_any p [] h = λ k d w. absurd (omega (arith, w))
none_from_list_any p (x ∷ xs) h =
    let parts = or_parts (p x) (list_any p xs) h in
    All-cons (λ x. p x ≡ false) x xs parts.0 (none_from_list_any p xs parts.1)

pub none_from_find : {X : Type 0} (p : X → Bool) (xs : List X) → find p xs ≡ None → All (λ x. p x ≡ false) xs
none_from_find p [] h = λ k d w. absurd (omega (arith, w))
none_from_find p (x ∷ xs) h = elim (cases_Bool (p x)) [
  | inl y ↦ absurd (none≢some x (sym (rw y at h)))
  | inr n ↦ All-cons (λ x. p x ≡ false) x xs n (none_from_find p xs (rw n at h))
]

-- no refusal: the id isn't pending, and there is room
no_faults : (a b c : Bool) → cond a (Some Busy) (cond (b || c) (Some TooMany) None) ≡ None → (a ≡ false) × (b ≡ false) × (c ≡ false)
no_faults true b c e = absurd cc
no_faults false true c e = absurd cc
no_faults false false true e = absurd cc
no_faults false false false e = (refl, refl, refl)

module _ {J : Type 0} where
  abbrev NotBoth : Command J → Command J → Type 0
  NotBoth a b = (is_running a.stage && is_running b.stage) ≡ false

  queue_after_map : (f : Command J → Command J) → ((a : Command J) → ticket_of (f a) ≡ ticket_of a) → (q : List (Command J))
      → AllPairs NotBoth (map f q) → IsQueue q → IsQueue (map f q)
  queue_after_map f same q one is = record {
    ids = AllPairs-map AreApart AreApart f
        (λ a b h. ap (λ t. is_ticket t (ticket_of (f b))) (same a) ∙ ap (λ u. is_ticket (ticket_of a) u) (same b) ∙ h) q is.ids;
    running = one;
    service = rw length-map is.service;
    client = λ c.
        let count = same_count (is_of c) f (λ a. ap (λ (t : Ticket). t.client.0 == c.0) (same a)) q in
        omega (arith, is.client c, count, length-filter (is_of c) q, length-filter (is_of c) (map f q));
  }

  pub queue_after_filter : (keep : Command J → Bool) (q : List (Command J)) → IsQueue q → IsQueue (filter keep q)
  queue_after_filter keep q is = record {
    ids = AllPairs-filter AreApart keep q is.ids;
    running = AllPairs-filter NotBoth keep q is.running;
    service = omega (arith, is.service, length-filter keep q, count_by-le-length keep q);
    client = λ c. omega (arith, is.client c, fewer (is_of c) keep q, length-filter (is_of c) q, length-filter (is_of c) (filter keep q));
  }

  pub queue_after_push : (q : List (Command J)) (a : Command J) → offer_fault q a.client a.id ≡ None → is_running a.stage ≡ false → IsQueue q → IsQueue (q ++ a ∷ [])
  queue_after_push q a none waits is =
      let facts = no_faults _ _ _ none in
      let apart = none_from_list_any (is_at (ticket_of a)) q facts.0 in
      let room : count_by (is_of a.client) q < 32 = leb-false _ _ facts.1 in
      let space : length q < 256 = leb-false _ _ facts.2 in
      record {
        ids = all_pairs_push AreApart q a is.ids (λ k d within. is_ticket-comm (ticket_of (get_or q k d)) (ticket_of a) ∙ apart k d within);
        running = all_pairs_push NotBoth q a is.running (λ k d within. and_right _ _ waits);
        service = rw length-append (omega arith);
        client = λ c. elim (cases_Bool (is_of c a)) [
          | inl y ↦
              let same : count_by (is_of c) q ≡ count_by (is_of a.client) q = ap (λ n. count_by (λ (b : Command J). b.client.0 == n) q) (sym (eqb-true a.client.0 c.0 y)) in
              rw (sum_by_push (λ b. cond (is_of c b) 1 0) q a) (rw y (omega (arith, same, room)))
          | inr n ↦ rw (sum_by_push (λ b. cond (is_of c b) 1 0) q a) (rw n (omega (arith, is.client c)))
        ];
      }

  -- a change of stage
  ticket_at_stage : (b : Bool) (stage : Stage) (a : Command J) → ticket_of (cond b (record a { stage = stage }) a) ≡ ticket_of a
  ticket_at_stage true stage a = refl
  ticket_at_stage false stage a = refl

  pub queue_finished : (t : Ticket) (stage : Stage) → is_running stage ≡ false → (q : List (Command J)) → IsQueue q → IsQueue (with_stage q t stage)
  queue_finished t stage ends q is = queue_after_map _ (λ a. ticket_at_stage (is_at t a) stage a) q
      (AllPairs-map NotBoth NotBoth _ (λ a b h. elim (cases_Bool (is_at t a)) [
        | inl y ↦ rw y (and_left _ _ ends)
        | inr n ↦ rw n (elim (cases_Bool (is_at t b)) [ inl z ↦ rw z (and_right _ _ ends) | inr m ↦ rw m h ])
      ]) q is.running) is

  pub queue_started : (t : Ticket) (q : List (Command J)) → find (λ a. is_running a.stage) q ≡ None → IsQueue q → IsQueue (with_stage q t Running)
  queue_started t q idle is =
      let none = none_from_find (λ (a : Command J). is_running a.stage) q idle in
      queue_after_map _ (λ a. ticket_at_stage (is_at t a) Running a) q
      (AllPairs-map (λ a b. (is_at (ticket_of a) b ≡ false) × (is_running a.stage ≡ false) × (is_running b.stage ≡ false)) NotBoth _ (λ a b h. elim (cases_Bool (is_at t a)) [
        | inl y ↦
            let other : is_at t b ≡ false = same_ticket t (ticket_of a) (ticket_of b) y ∙ h.0 in
            rw other (and_right _ _ h.2)
        | inr n ↦ rw n (and_left _ _ h.1)
      ]) q (λ i j d lt within. (is.ids i j d lt within, none i d (omega arith), none j d within))) is

  -- a mark
  marked_queue : (m : Command J → Bool) (q : List (Command J)) → IsQueue q → IsQueue (map (λ a. mark (m a) a) q)
  marked_queue m q is = queue_after_map _ (λ a. refl) q (AllPairs-map NotBoth NotBoth _ (λ a b h. h) q is.running) is

  pub queue_canceled : (client : ClientId) (ids : Ids) (q : List (Command J)) → IsQueue q → IsQueue (canceled q client ids)
  queue_canceled client ids q is = marked_queue (λ a. is_named client ids a && not (is_ready a.stage)) q is

  pub queue_without_client : (client : ClientId) (q : List (Command J)) → IsQueue q → IsQueue (without_client q client)
  queue_without_client client q is = marked_queue (is_of client) _ (queue_after_filter _ q is)

  -- another job
  ticket_with_job : (b : Bool) (job : J) (a : Command J) → ticket_of (cond b (record a { job = job }) a) ≡ ticket_of a
  ticket_with_job true job a = refl
  ticket_with_job false job a = refl

  stage_with_job : (b : Bool) (job : J) (a : Command J) → (cond b (record a { job = job }) a).stage ≡ a.stage
  stage_with_job true job a = refl
  stage_with_job false job a = refl

  pub queue_with_job : (t : Ticket) (job : J) (q : List (Command J)) → IsQueue q → IsQueue (with_job q t job)
  queue_with_job t job q is = queue_after_map _ (λ a. ticket_with_job (is_at t a) job a) q
      (AllPairs-map NotBoth NotBoth _ (λ a b h. rw (stage_with_job (is_at t a) job a, stage_with_job (is_at t b) job b) h) q is.running) is
