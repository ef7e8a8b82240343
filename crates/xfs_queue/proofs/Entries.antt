-- The deadlines of a list of commands, after each change of it.
use Rattle.std.proofs.Common.{◌≡◌, suc, ◌≤◌, ◌<◌, ◌==◌, nat_le, ◌&&◌, ◌||◌, not, Bool, true, false, cond, List, [], ◌∷◌, Option, None, Some, get_or, map, filter, find, All, Contains, MatchOption, refl, ap, sym, ◌∙◌, inl, inr, arith}
use Rattle.std.specs.List.{cons_option}
use Rattle.std.proofs.lemmas.Bool.{cases_Bool, not_from_true, not_from_false, or_parts, and_right, lt-leb, true≢false}
use Rattle.std.proofs.lemmas.List.Elements.{All-contains, All-map}
use Rattle.std.proofs.lemmas.List.{length-map, get_or-map}
use Rattle.xfs_base.specs.declared.moment.ClientId.{ClientId}
use Rattle.xfs_base.specs.declared.moment.Moment.{Moment}
use Rattle.xfs_queue.specs.declared.command.Line.TheVariants.{Device}
use Rattle.xfs_queue.specs.declared.command.Stage.{Stage}
use Rattle.xfs_queue.specs.declared.command.Stage.TheVariants.{Waiting, Running, Ready}
use Rattle.xfs_queue.specs.declared.command.Ticket.{Ticket}
use Rattle.xfs_queue.specs.declared.command.Ids.{Ids}
use Rattle.xfs_queue.specs.declared.command.Command.{Command}
use Rattle.xfs_queue.specs.declared.deadlines.Entry.{Entry}
use Rattle.xfs_queue.specs.Commands.{ticket_of, is_ticket, is_at, is_of, is_waiting, is_running, waits_on, has_deadline, deadline, is_due}
use Rattle.xfs_queue.specs.Deadlines.{IsIndex, entry, entries}
use Rattle.xfs_queue.proofs.InOrder.{IsLeast}
use Rattle.xfs_queue.specs.Queue.{with_stage, with_job, without, canceled, without_client, deadlines}

-- the entries but for the ticket's, and but for the client's
abbrev pub is_other : Ticket → Entry → Bool
is_other t e = not (is_ticket t e.ticket)

abbrev pub is_others : ClientId → Entry → Bool
is_others client e = not (e.ticket.client.0 == client.0)

abbrev kept_if : (Entry → Bool) → Option Entry → Option Entry
kept_if keep None = None
kept_if keep (Some e) = cond (keep e) (Some e) None

kept : (keep : Entry → Bool) (h : Bool) (e : Entry) → keep e ≡ true → kept_if keep (cond h (Some e) None) ≡ cond h (Some e) None
kept keep true e k = rw k refl
kept keep false e k = refl

dropped : (keep : Entry → Bool) (h : Bool) (e : Entry) → keep e ≡ false → kept_if keep (cond h (Some e) None) ≡ None
dropped keep true e k = rw k refl
dropped keep false e k = refl

filter-cons_option : (keep : Entry → Bool) (o : Option Entry) (es : List Entry) → filter keep (cons_option o es) ≡ cons_option (kept_if keep o) (filter keep es)
filter-cons_option keep None es = refl
filter-cons_option keep (Some e) es = elim (cases_Bool (keep e)) [ inl y ↦ rw y refl | inr n ↦ rw n refl ]

-- a command of the client that stays is running, and so has no entry
waits_unless_running : (s : Stage) → is_running s ≡ true → is_waiting s ≡ false
waits_unless_running Waiting r = absurd (true≢false (sym r))
waits_unless_running Running r = refl
waits_unless_running Ready r = refl

not_due : (w n l : Bool) → (w && n) ≡ false → (w && (n && l)) ≡ false
not_due true true l h = absurd (true≢false h)
not_due true false l h = refl
not_due false n l h = refl

module _ {J : Type 0} where
  entries-map : (f : Command J → Command J) (keep : Entry → Bool) → ((a : Command J) → entry (f a) ≡ kept_if keep (entry a))
      → (q : List (Command J)) → entries (map f q) ≡ filter keep (entries q)
  entries-map f keep same [] = refl
  entries-map f keep same (a ∷ q) = rw (same a, entries-map f keep same q) (sym (filter-cons_option keep (entry a) (entries q)))

  entries-filter : (p : Command J → Bool) (keep : Entry → Bool) → ((a : Command J) → p a ≡ true → kept_if keep (entry a) ≡ entry a)
      → ((a : Command J) → p a ≡ false → kept_if keep (entry a) ≡ None)
      → (q : List (Command J)) → entries (filter p q) ≡ filter keep (entries q)
  entries-filter p keep is_kept is_gone [] = refl
  entries-filter p keep is_kept is_gone (a ∷ q) =
      let rest = entries-filter p keep is_kept is_gone q in
      elim (cases_Bool (p a)) [
        | inl y ↦ rw y (rw rest (sym (filter-cons_option keep (entry a) (entries q) ∙ ap (λ o. cons_option o (filter keep (entries q))) (is_kept a y))))
        | inr n ↦ rw n (rest ∙ sym (filter-cons_option keep (entry a) (entries q) ∙ ap (λ o. cons_option o (filter keep (entries q))) (is_gone a n)))
      ]

  -- a stage that isn't waiting has no deadline
  entry_at_stage : (t : Ticket) (stage : Stage) → is_waiting stage ≡ false → (a : Command J)
      → entry (cond (is_at t a) (record a { stage = stage }) a) ≡ kept_if (is_other t) (entry a)
  entry_at_stage t stage gone a = elim (cases_Bool (is_at t a)) [
    | inl y ↦ rw y (rw gone (sym (dropped (is_other t) (has_deadline a) record { deadline = deadline a; ticket = ticket_of a } (not_from_true _ y))))
    | inr n ↦ rw n (sym (kept (is_other t) (has_deadline a) record { deadline = deadline a; ticket = ticket_of a } (not_from_false _ n)))
  ]

  pub entries_with_stage : (t : Ticket) (stage : Stage) → is_waiting stage ≡ false → (q : List (Command J))
      → entries (with_stage q t stage) ≡ filter (is_other t) (entries q)
  entries_with_stage t stage gone q = entries-map _ (is_other t) (entry_at_stage t stage gone) q

  pub entries_without : (t : Ticket) (q : List (Command J)) → entries (without q t) ≡ filter (is_other t) (entries q)
  entries_without t q = entries-filter _ (is_other t)
      (λ a y. kept (is_other t) (has_deadline a) record { deadline = deadline a; ticket = ticket_of a } y)
      (λ a n. dropped (is_other t) (has_deadline a) record { deadline = deadline a; ticket = ticket_of a } n) q

  pub entries_same : (f : Command J → Command J) → ((a : Command J) → entry (f a) ≡ entry a) → (q : List (Command J)) → entries (map f q) ≡ entries q
  entries_same f same [] = refl
  entries_same f same (a ∷ q) = rw (same a, entries_same f same q) refl

  pub entries_canceled : (client : ClientId) (ids : Ids) (q : List (Command J)) → entries (canceled q client ids) ≡ entries q
  entries_canceled client ids q = entries_same _ (λ a. refl) q

  entry_with_job : (b : Bool) (job : J) (a : Command J) → entry (cond b (record a { job = job }) a) ≡ entry a
  entry_with_job true job a = refl
  entry_with_job false job a = refl

  pub entries_with_job : (t : Ticket) (job : J) (q : List (Command J)) → entries (with_job q t job) ≡ entries q
  entries_with_job t job q = entries_same _ (λ a. entry_with_job (is_at t a) job a) q

  entry_of_others : (client : ClientId) (a : Command J) → (not (is_of client a) || is_running a.stage) ≡ true → kept_if (is_others client) (entry a) ≡ entry a
  entry_of_others client a stays = elim (cases_Bool (is_of client a)) [
    | inl y ↦ rw (waits_unless_running a.stage (rw y at stays)) refl
    | inr n ↦ kept (is_others client) (has_deadline a) record { deadline = deadline a; ticket = ticket_of a } (not_from_false _ n)
  ]

  entry_of_client : (client : ClientId) (a : Command J) → (not (is_of client a) || is_running a.stage) ≡ false → kept_if (is_others client) (entry a) ≡ None
  entry_of_client client a goes =
      dropped (is_others client) (has_deadline a) record { deadline = deadline a; ticket = ticket_of a } ((or_parts _ _ goes).0)

  pub entries_without_client : (client : ClientId) (q : List (Command J)) → entries (without_client q client) ≡ filter (is_others client) (entries q)
  entries_without_client client q =
      entries_same _ (λ a. refl) (filter (λ a. not (is_of client a) || is_running a.stage) q)
      ∙ entries-filter _ (is_others client) (entry_of_others client) (entry_of_client client) q

  -- the deadlines are those of the entries
  deadlines_are : (q : List (Command J)) → deadlines q ≡ map (λ e. e.deadline) (entries q)
  deadlines_are [] = refl
  deadlines_are (a ∷ q) = elim (cases_Bool (has_deadline a)) [
    | inl y ↦ rw y (ap (λ l. deadline a ∷ l) (deadlines_are q))
    | inr n ↦ rw n (deadlines_are q)
  ]

  -- where no deadline has come no command is due
  pub none_due : (now : Moment) (q : List (Command J)) → All (λ e. now.0 < e.deadline) (entries q) → find (λ a. waits_on Device a && is_due now a) q ≡ None
  none_due now [] all = refl
  none_due now (a ∷ q) all = elim (cases_Bool (has_deadline a)) [
    | inl y ↦
        let these = rw y at all in
        let later : now.0 < deadline a = these 0 record { deadline = deadline a; ticket = ticket_of a } (omega arith) in
        rw (and_right (waits_on Device a) (is_due now a) (and_right (not (a.timeout == 0)) _ (lt-leb (deadline a) now.0 later)))
        (none_due now q (λ k d within. these (suc k) d (omega (arith, within))))
    | inr n ↦ rw (not_due (waits_on Device a) (not (a.timeout == 0)) (nat_le (deadline a) now.0) n) (none_due now q (rw n at all))
  ]

pub later_entries : (P : Entry → Type 0) (xs es : List Entry) → IsIndex xs es → All P xs → All P es
later_entries P xs es is all = λ k d within. All-contains P xs (get_or es k d) all (is.covered k d within)

nothing_covered : (es : List Entry) → All (Contains []) es → es ≡ []
nothing_covered [] all = refl
nothing_covered (e ∷ es) all = absurd (omega (arith, (all 0 e (omega arith)).1))

Contains-map : (xs : List Entry) (e : Entry) → Contains xs e → Contains (map (λ e. e.deadline) xs) e.deadline
Contains-map xs e h = (h.0, rw length-map h.1, get_or-map (λ e. e.deadline) xs h.0 e e.deadline h.1 ∙ ap (λ e. e.deadline) h.2)

-- the least entry of the index has the least deadline
abbrev pub HasEarliest : {J : Type 0} → List (Command J) → Option Entry → Type 0
HasEarliest q r = MatchOption r (deadlines q ≡ []) (λ e. Contains (deadlines q) e.deadline × All (λ d. e.deadline ≤ d) (deadlines q))

pub earliest_is : {J : Type 0} (q : List (Command J)) (xs : List Entry) (r : Option Entry) → IsIndex xs (entries q) → IsLeast xs r → HasEarliest q r
earliest_is q xs None is empty = deadlines_are q ∙ ap (map (λ e. e.deadline)) (nothing_covered (entries q) (rw empty at is.covered))
earliest_is q xs (Some e) is least = rw (deadlines_are q) (
  Contains-map (entries q) e (All-contains (Contains (entries q)) xs e is.backed least.0),
  All-map (λ d. e.deadline ≤ d) (λ (f : Entry). f.deadline) (entries q) (later_entries (λ f. e.deadline ≤ f.deadline) xs (entries q) is least.1),
)

-- where the least deadline hasn't come, none has
pub none_due_yet : {J : Type 0} (q : List (Command J)) (xs : List Entry) (e : Entry) (now : Moment) → IsIndex xs (entries q) → IsLeast xs (Some e) → now.0 < e.deadline
    → find (λ a. waits_on Device a && is_due now a) q ≡ None
none_due_yet q xs e now is least later =
    let all : All (λ f. now.0 < f.deadline) xs = λ k d within. omega (arith, least.1 k d within) in
    none_due now q (later_entries (λ f. now.0 < f.deadline) xs (entries q) is all)

pub none_due_at_all : {J : Type 0} (q : List (Command J)) (xs : List Entry) (now : Moment) → IsIndex xs (entries q) → IsLeast xs None
    → find (λ a. waits_on Device a && is_due now a) q ≡ None
none_due_at_all q xs now is empty = none_due now q (rw (nothing_covered (entries q) (rw empty at is.covered)) (λ k d within. absurd (omega (arith, within))))
