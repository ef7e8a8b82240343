-- A result at the one command of a ticket, and the commands that a Cancel stops.
use Rattle.std.proofs.Common.{◌≡◌, ℕ, ◌+◌, ◌<◌, ◌≤◌, ◌==◌, ◌&&◌, Bool, true, cond, List, [], ◌∷◌, map, find, Option, None, Some, All, AllPairs, subst, refl, ap, sym, ◌∙◌, inl, inr, arith}
use Rattle.std.specs.List.{list_any}
use Rattle.std.specs.Option.{option_map}
use Rattle.std.proofs.lemmas.Bool.{and_parts, cases_Bool, eqb-true, or_right}
use Rattle.std.proofs.lemmas.List.Elements.{All-head, All-tail}
use Rattle.std.proofs.lemmas.Option.{none-some, same_Some}
use Rattle.xfs_envelope.specs.declared.code.Code.TheVariants.{Canceled}
use Rattle.xfs_queue.specs.declared.command.Command.{Command}
use Rattle.xfs_queue.specs.declared.command.Stage.TheVariants.{Ready}
use Rattle.xfs_queue.specs.declared.command.Ticket.{Ticket}
use Rattle.xfs_queue.specs.Commands.{is_at, is_waiting, ticket_of}
use Rattle.xfs_queue.specs.Queue.{IsPending, command_at, with_job, with_stage}
use Rattle.xfs_queue.proofs.Places.{AreApart}
use Rattle.xfs_traffic.specs.Jobs.{changed_at}
use Rattle.xfs_model.specs.Immediate.{stop}
use Rattle.xfs_model.specs.Results.{closing, plain, with_result}
use Rattle.xfs_model.specs.State.{Job, Outcome}
use Rattle.xfs_model.proofs.Caused.{only_one}
use Rattle.xfs_model.proofs.Lists.{found_passes}
use Rattle.xfs_model.proofs.Changes.{at_itself}

some_of : {X Y : Type 0} (f : X → Y) (o : Option X) (y : Y) → option_map f o ≡ Some y → (x : X) × (o ≡ Some x) × (f x ≡ y)
some_of f None y e = absurd (none-some y e)
some_of f (Some x) y e = (x, refl, same_Some (f x) y e)

pub none_of : {X Y : Type 0} (f : X → Y) (o : Option X) → option_map f o ≡ None → o ≡ None
none_of f None e = refl
none_of f (Some x) e = absurd (none-some (f x) (sym e))

same_ticket : (t : Ticket) (a : Command Job) → is_at t a ≡ true → t ≡ ticket_of a
same_ticket t a at =
    let both = and_parts (a.client.0 == t.client.0) (a.id == t.id) at in
    let client : t.client.0 ≡ a.client.0 = sym (eqb-true a.client.0 t.client.0 both.0) in
    let id : t.id ≡ a.id = sym (eqb-true a.id t.id both.1) in
    ap (λ n. record { client = record { 0 = n }; id = t.id }) client ∙ ap (λ n. record { client = a.client; id = n }) id

result_of : (t : Ticket) (j : Job) (outcome : Outcome) (q : List (Command Job)) → All (λ b. is_at t b ≡ true → b.job ≡ j) q
    → with_stage (with_job q t (record j { outcome = Some (closing j outcome) })) t Ready ≡ changed_at (with_result outcome) t q
result_of t j outcome [] all = refl
result_of t j outcome (b ∷ q) all =
    let rest = result_of t j outcome q (All-tail (λ b. is_at t b ≡ true → b.job ≡ j) b q all) in
    elim (cases_Bool (is_at t b)) [
      | inl y ↦
          let its : b.job ≡ j = All-head (λ b. is_at t b ≡ true → b.job ≡ j) b q all y in
          rw y (rw y (rw its (ap (λ l. with_result outcome (record b { job = j }) ∷ l) rest)))
      | inr n ↦ rw n (rw n (ap (λ l. b ∷ l) rest))
    ]

-- the command of the ticket stands alone there
alone : (t : Ticket) (q : List (Command Job)) (a : Command Job) → command_at q t ≡ Some a → AllPairs AreApart q → All (λ b. is_at t b ≡ true → b ≡ a) q
alone t q a found apart =
    let same : t ≡ ticket_of a = same_ticket t a (found_passes (is_at t) q a found) in
    rw same (only_one (is_at t) q a found apart)

pub resulted : (t : Ticket) (j : Job) (outcome : Outcome) (q : List (Command Job)) → AllPairs AreApart q → option_map (λ a. a.job) (command_at q t) ≡ Some j
    → with_stage (with_job q t (record j { outcome = Some (closing j outcome) })) t Ready ≡ changed_at (with_result outcome) t q
resulted t j outcome q apart had =
    let it = some_of (λ (a : Command Job). a.job) (command_at q t) j had in
    let lone = alone t q it.0 it.1 apart in
    result_of t j outcome q (λ k d within at. ap (λ (a : Command Job). a.job) (lone k d within at) ∙ it.2)

-- a waiting command that is marked
abbrev pub is_stopping : Command Job → Bool
is_stopping a = is_waiting a.stage && a.marked

stop_one : (a : Command Job) → is_stopping a ≡ true → stop (with_result (plain Canceled) a) ≡ stop a
stop_one a y = rw y refl

stops_of : (t : Ticket) (a : Command Job) (q : List (Command Job)) → is_stopping a ≡ true → All (λ b. is_at t b ≡ true → b ≡ a) q
    → map stop (changed_at (with_result (plain Canceled)) t q) ≡ map stop q
stops_of t a [] y all = refl
stops_of t a (b ∷ q) y all =
    let rest = stops_of t a q y (All-tail (λ b. is_at t b ≡ true → b ≡ a) b q all) in
    elim (cases_Bool (is_at t b)) [
      | inl here ↦
          let its : b ≡ a = All-head (λ b. is_at t b ≡ true → b ≡ a) b q all here in
          let stopping : is_stopping b ≡ true = ap is_stopping its ∙ y in
          rw here (rw rest (ap (λ c. c ∷ map stop q) (stop_one b stopping)))
      | inr n ↦ rw n (ap (λ l. stop b ∷ l) rest)
    ]

-- what is found of the waiting ones that are marked
pub record Found (q : List (Command Job)) (t : Ticket) : Type 0 where
  pub command : Command Job
  pub stopping : is_stopping command ≡ true
  pub found : find is_stopping q ≡ Some command
  pub ticket : ticket_of command ≡ t

pub found_of : (q : List (Command Job)) (t : Ticket) → option_map ticket_of (find is_stopping q) ≡ Some t → Found q t
found_of q t e =
    let it = some_of ticket_of (find is_stopping q) t e in
    record { command = it.0; stopping = found_passes is_stopping q it.0 it.1; found = it.1; ticket = it.2 }

pub stops_on : (q new : List (Command Job)) (t : Ticket) → AllPairs AreApart q → option_map ticket_of (find is_stopping q) ≡ Some t
    → new ≡ changed_at (with_result (plain Canceled)) t q → map stop new ≡ map stop q
stops_on q new t apart e is =
    let it = found_of q t e in
    rw is (stops_of t it.command q it.stopping (subst (λ u. All (λ b. is_at u b ≡ true → b ≡ it.command) q) it.ticket (only_one is_stopping q it.command it.found apart)))

-- how many of them there are
abbrev pub stops_left : List (Command Job) → ℕ
stops_left [] = 0
stops_left (b ∷ q) = cond (is_stopping b) 1 0 + stops_left q

fewer_same : (t : Ticket) (r : Outcome) (q : List (Command Job)) → stops_left (changed_at (with_result r) t q) ≤ stops_left q
fewer_same t r [] = omega arith
fewer_same t r (b ∷ q) =
    let rest = fewer_same t r q in
    elim (cases_Bool (is_at t b)) [
      | inl here ↦ rw here (omega (arith, rest))
      | inr n ↦ rw n (omega (arith, rest))
    ]

fewer_if : (r : Outcome) (q : List (Command Job)) (a : Command Job) → find is_stopping q ≡ Some a → stops_left (changed_at (with_result r) (ticket_of a) q) < stops_left q
fewer_if r [] a e = absurd (none-some a e)
fewer_if r (b ∷ q) a e = elim (cases_Bool (is_stopping b)) [
  | inl y ↦
      let it : b ≡ a = same_Some b a (rw y at e) in
      let here : is_at (ticket_of a) b ≡ true = rw it (at_itself (ticket_of a)) in
      let rest = fewer_same (ticket_of a) r q in
      rw here (rw y (omega (arith, rest)))
  | inr n ↦
      let rest = fewer_if r q a (rw n at e) in
      elim (cases_Bool (is_at (ticket_of a) b)) [
        | inl here ↦ rw here (rw n (omega (arith, rest)))
        | inr m ↦ rw m (rw n (omega (arith, rest)))
      ]
]

pub fewer : (r : Outcome) (q new : List (Command Job)) (t : Ticket) → option_map ticket_of (find is_stopping q) ≡ Some t → new ≡ changed_at (with_result r) t q
    → stops_left new < stops_left q
fewer r q new t e is =
    let it = found_of q t e in
    rw is (subst (λ u. stops_left (changed_at (with_result r) u q) < stops_left q) it.ticket (fewer_if r q it.command it.found))

pub all_stopped : (q : List (Command Job)) → find is_stopping q ≡ None → map stop q ≡ q
all_stopped [] e = refl
all_stopped (b ∷ q) e = elim (cases_Bool (is_stopping b)) [
  | inl y ↦ absurd (none-some b (sym (rw y at e)))
  | inr n ↦ rw n (ap (λ l. b ∷ l) (all_stopped q (rw n at e)))
]

-- a command stays pending where jobs change
any_same : (t : Ticket) (j : Job) (q : List (Command Job)) → list_any (is_at t) (with_job q t j) ≡ list_any (is_at t) q
any_same t j [] = refl
any_same t j (b ∷ q) = elim (cases_Bool (is_at t b)) [
  | inl y ↦ rw y (rw y refl)
  | inr n ↦ rw n (rw n (any_same t j q))
]

pub pending_still : (t : Ticket) (j : Job) (q : List (Command Job)) → IsPending q t → IsPending (with_job q t j) t
pending_still t j q is = any_same t j q ∙ is

any_found : (q : List (Command Job)) (a : Command Job) → find is_stopping q ≡ Some a → list_any (is_at (ticket_of a)) q ≡ true
any_found [] a e = absurd (none-some a e)
any_found (b ∷ q) a e = elim (cases_Bool (is_stopping b)) [
  | inl y ↦
      let it : b ≡ a = same_Some b a (rw y at e) in
      let here : is_at (ticket_of a) b ≡ true = rw it (at_itself (ticket_of a)) in
      rw here refl
  | inr n ↦ or_right (is_at (ticket_of a) b) (list_any (is_at (ticket_of a)) q) (any_found q a (rw n at e))
]

pub pending_found : (q : List (Command Job)) (t : Ticket) → option_map ticket_of (find is_stopping q) ≡ Some t → IsPending q t
pending_found q t e =
    let it = found_of q t e in
    subst (λ u. IsPending q u) it.ticket (any_found q it.command it.found)
