-- A queue and its index, after each change.
use Rattle.std.proofs.Common.{◌≡◌, ℕ, false, List, [], ◌∷◌, ◌++◌, Option, None, Some, filter, find, take, drop, length, arith, refl, ap, ◌∙◌}
use Rattle.std.specs.Option.{option_to_list}
use Rattle.std.specs.List.{cons_option}
use Rattle.std.proofs.lemmas.List.{drop_all, take_all, append-nil}
use Rattle.std.proofs.lemmas.List.Elements.{filter_map-append}
use Rattle.xfs_base.specs.declared.moment.ClientId.{ClientId}
use Rattle.xfs_queue.specs.declared.command.Stage.TheVariants.{Running, Ready}
use Rattle.xfs_queue.specs.declared.command.Ticket.{Ticket}
use Rattle.xfs_queue.specs.declared.command.Ids.{Ids}
use Rattle.xfs_queue.specs.declared.command.Command.{Command}
use Rattle.xfs_queue.specs.declared.deadlines.Entry.{Entry}
use Rattle.xfs_queue.specs.Commands.{is_running}
use Rattle.xfs_queue.specs.Deadlines.{IsIndex, entry, entries}
use Rattle.xfs_queue.specs.Queue.{IsQueue, offer_fault, with_stage, with_job, without, canceled, without_client}
use Rattle.xfs_queue.proofs.Entries.{is_other, is_others, entries_with_stage, entries_without, entries_canceled, entries_without_client, entries_with_job}
use Rattle.xfs_queue.proofs.Index.{index_after_filter}
use Rattle.xfs_queue.proofs.Kept.{queue_started, queue_finished, queue_after_filter, queue_canceled, queue_without_client, queue_after_push, queue_with_job}

-- a slice written in place is the whole of its `Vec`
pub whole_slice : {X : Type 0} (n : ℕ) (xs ys : List X) → length xs ≡ length ys → n ≡ length ys → take n (xs ++ drop (length xs) ys) ≡ xs
whole_slice n xs ys same is =
    let none = drop_all (length xs) ys (omega arith) in
    rw (none, append-nil) (take_all n xs (omega arith))

one_more : (o : Option Entry) → cons_option o [] ≡ option_to_list o
one_more None = refl
one_more (Some e) = refl

module _ {J : Type 0} where
  abbrev pub IsWhole : List (Command J) → List Entry → Type 0
  IsWhole q xs = IsQueue q × IsIndex xs (entries q)

  pub whole_started : (t : Ticket) (q : List (Command J)) (xs : List Entry) → find (λ a. is_running a.stage) q ≡ None → IsWhole q xs → IsWhole (with_stage q t Running) (filter (is_other t) xs)
  whole_started t q xs idle w = (queue_started t q idle w.0, rw (entries_with_stage t Running refl q) (index_after_filter (is_other t) xs (entries q) w.1))

  pub whole_finished : (t : Ticket) (q : List (Command J)) (xs : List Entry) → IsWhole q xs → IsWhole (with_stage q t Ready) (filter (is_other t) xs)
  whole_finished t q xs w = (queue_finished t Ready refl q w.0, rw (entries_with_stage t Ready refl q) (index_after_filter (is_other t) xs (entries q) w.1))

  pub whole_without : (t : Ticket) (q : List (Command J)) (xs : List Entry) → IsWhole q xs → IsWhole (without q t) (filter (is_other t) xs)
  whole_without t q xs w = (queue_after_filter _ q w.0, rw (entries_without t q) (index_after_filter (is_other t) xs (entries q) w.1))

  pub whole_canceled : (client : ClientId) (ids : Ids) (q : List (Command J)) (xs : List Entry) → IsWhole q xs → IsWhole (canceled q client ids) xs
  whole_canceled client ids q xs w = (queue_canceled client ids q w.0, rw (entries_canceled client ids q) w.1)

  pub whole_without_client : (client : ClientId) (q : List (Command J)) (xs : List Entry) → IsWhole q xs → IsWhole (without_client q client) (filter (is_others client) xs)
  whole_without_client client q xs w = (queue_without_client client q w.0, rw (entries_without_client client q) (index_after_filter (is_others client) xs (entries q) w.1))

  pub whole_with_job : (t : Ticket) (job : J) (q : List (Command J)) (xs : List Entry) → IsWhole q xs → IsWhole (with_job q t job) xs
  whole_with_job t job q xs w = (queue_with_job t job q w.0, rw (entries_with_job t job q) w.1)

  entries_push : (q : List (Command J)) (a : Command J) → entries (q ++ a ∷ []) ≡ entries q ++ option_to_list (entry a)
  entries_push q a = filter_map-append entry q (a ∷ []) ∙ ap (λ l. entries q ++ l) (one_more (entry a))

  pub whole_offered : (q : List (Command J)) (a : Command J) (xs ys : List Entry) → offer_fault q a.client a.id ≡ None → is_running a.stage ≡ false → IsWhole q xs
      → ((es : List Entry) → IsIndex xs es → IsIndex ys (es ++ option_to_list (entry a))) → IsWhole (q ++ a ∷ []) ys
  whole_offered q a xs ys none waits w adds = (queue_after_push q a none waits w.0, rw (entries_push q a) (adds (entries q) w.1))
