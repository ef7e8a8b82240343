-- What a change of the one command leaves of its queue.
use Rattle.std.proofs.Common.{◌≡◌, ℕ, zero, suc, ◌<◌, ◌≤◌, ◌==◌, ◌&&◌, Bool, true, false, cond, List, [], ◌∷◌, None, Some, length, get_or, map, filter, find, All, AllPairs, refl, ap, sym, ◌∙◌, inl, inr, arith}
use Rattle.std.proofs.lemmas.Bool.{cases_Bool, and_left, and_right, eq-eqb, false≢true}
use Rattle.std.proofs.lemmas.List.{length-map, get_or-map}
use Rattle.std.proofs.lemmas.List.Elements.{All-cons, All-map, All-nil}
use Rattle.std.proofs.lemmas.List.Sums.{length-filter}
use Rattle.std.proofs.lemmas.Option.{same_Some}
use Rattle.xfs_queue.specs.declared.command.Command.{Command}
use Rattle.xfs_queue.specs.declared.command.Ticket.{Ticket}
use Rattle.xfs_queue.specs.Commands.{ticket_of, is_ticket, is_at, is_of, is_running}
use Rattle.xfs_queue.specs.Queue.{IsQueue}
use Rattle.xfs_queue.proofs.Kept.{AllPairs-map, none_from_find, same_count}
use Rattle.xfs_queue.proofs.Places.{AreApart, same_ticket}
use Rattle.xfs_model.specs.Results.{changed}
use Rattle.xfs_model.specs.State.{Job}
use Rattle.xfs_model.proofs.Lists.{found_all}

pub each : {X : Type 0} (P Q : X → Type 0) → ((x : X) → P x → Q x) → (xs : List X) → All P xs → All Q xs
each P Q step xs all = λ k d within. step (get_or xs k d) (all k d within)

abbrev pub NotBoth : Command Job → Command Job → Type 0
NotBoth a b = (is_running a.stage && is_running b.stage) ≡ false

pub queue_after_map : (f : Command Job → Command Job) → ((a : Command Job) → ticket_of (f a) ≡ ticket_of a) → (q : List (Command Job)) → AllPairs NotBoth (map f q) → IsQueue q → IsQueue (map f q)
queue_after_map f same q one is = record {
  ids = AllPairs-map AreApart AreApart f
      (λ a b h. ap (λ t. is_ticket t (ticket_of (f b))) (same a) ∙ ap (λ u. is_ticket (ticket_of a) u) (same b) ∙ h) q is.ids;
  running = one;
  service = rw length-map is.service;
  client = λ c.
      let count = same_count (is_of c) f (λ a. ap (λ (t : Ticket). t.client.0 == c.0) (same a)) q in
      omega (arith, is.client c, count, length-filter (is_of c) q, length-filter (is_of c) (map f q));
}

-- a change that keeps the ticket
abbrev pub KeepsTicket : (Command Job → Command Job) → Type 0
KeepsTicket f = (b : Command Job) → ticket_of (f b) ≡ ticket_of b

ticket_if : (b : Bool) (f : Command Job → Command Job) (a : Command Job) → ticket_of (f a) ≡ ticket_of a → ticket_of (cond b (f a) a) ≡ ticket_of a
ticket_if true f a same = same
ticket_if false f a same = refl

pub clients_changed : (given : ℕ) (f : Command Job → Command Job) → KeepsTicket f → (a : Command Job) (q : List (Command Job)) → All (λ b. b.client.0 ≤ given) q → All (λ b. b.client.0 ≤ given) (changed f a q)
clients_changed given f same a q all =
    All-map (λ b. b.client.0 ≤ given) _ q (each (λ b. b.client.0 ≤ given) (λ b. (cond (is_at (ticket_of a) b) (f b) b).client.0 ≤ given)
    (λ b h. let e : (cond (is_at (ticket_of a) b) (f b) b).client.0 ≡ b.client.0 = ap (λ (t : Ticket). t.client.0) (ticket_if (is_at (ticket_of a) b) f b (same b)) in omega (arith, e, h)) q all)

-- the command doesn't run then
pub changed_ends : (f : Command Job → Command Job) → KeepsTicket f → ((b : Command Job) → is_running (f b).stage ≡ false) → (a : Command Job) (q : List (Command Job)) → IsQueue q → IsQueue (changed f a q)
changed_ends f same ends a q is = queue_after_map _ (λ b. ticket_if (is_at (ticket_of a) b) f b (same b)) q
    (AllPairs-map NotBoth NotBoth _ (λ b c h. elim (cases_Bool (is_at (ticket_of a) b)) [
      | inl y ↦ rw y (and_left _ _ (ends b))
      | inr n ↦ rw n (elim (cases_Bool (is_at (ticket_of a) c)) [ inl z ↦ rw z (and_right _ _ (ends c)) | inr m ↦ rw m h ])
    ]) q is.running) is

-- none ran before
pub changed_begins : (f : Command Job → Command Job) → KeepsTicket f → (a : Command Job) (q : List (Command Job)) → find (λ b. is_running b.stage) q ≡ None → IsQueue q → IsQueue (changed f a q)
changed_begins f same a q idle is =
    let none = none_from_find (λ (b : Command Job). is_running b.stage) q idle in
    queue_after_map _ (λ b. ticket_if (is_at (ticket_of a) b) f b (same b)) q
    (AllPairs-map (λ b c. (is_at (ticket_of b) c ≡ false) × (is_running b.stage ≡ false) × (is_running c.stage ≡ false)) NotBoth _ (λ b c h. elim (cases_Bool (is_at (ticket_of a) b)) [
      | inl y ↦
          let other : is_at (ticket_of a) c ≡ false = same_ticket (ticket_of a) (ticket_of b) (ticket_of c) y ∙ h.0 in
          rw other (and_right _ _ h.2)
      | inr n ↦ rw n (and_left _ _ h.1)
    ]) q (λ i j d lt within. (is.ids i j d lt within, none i d (omega arith), none j d within))) is

pub head_pairs : {X : Type 0} (R : X → X → Type 0) (x : X) (xs : List X) → AllPairs R (x ∷ xs) → All (R x) xs
head_pairs R x xs all = λ k d within. all zero (suc k) d (omega arith) (omega (arith, within))

pub tail_pairs : {X : Type 0} (R : X → X → Type 0) (x : X) (xs : List X) → AllPairs R (x ∷ xs) → AllPairs R xs
tail_pairs R x xs all = λ i j d lt within. all (suc i) (suc j) d (omega arith) (omega (arith, within))

pub at_itself : (t : Ticket) → is_ticket t t ≡ true
at_itself t =
    let client : (t.client.0 == t.client.0) ≡ true = eq-eqb t.client.0 t.client.0 refl in
    let id : (t.id == t.id) ≡ true = eq-eqb t.id t.id refl in
    rw client id

pub turned : (b c : Command Job) → is_at (ticket_of c) b ≡ true → is_at (ticket_of b) c ≡ true
turned b c at = sym (same_ticket (ticket_of c) (ticket_of b) (ticket_of c) at) ∙ at_itself (ticket_of c)

-- what stands at the ticket of a running command runs
at_running : (q : List (Command Job)) (a : Command Job) → find (λ b. is_running b.stage) q ≡ Some a → AllPairs AreApart q → All (λ b. is_at (ticket_of a) b ≡ true → is_running b.stage ≡ true) q
at_running [] a found apart = All-nil (λ b. is_at (ticket_of a) b ≡ true → is_running b.stage ≡ true)
at_running (x ∷ q) a found apart = elim (cases_Bool (is_running x.stage)) [
  | inl y ↦
      let it : x ≡ a = same_Some x a (rw y at found) in
      All-cons (λ b. is_at (ticket_of a) b ≡ true → is_running b.stage ≡ true) x q (λ at. y)
      (each (AreApart x) (λ b. is_at (ticket_of a) b ≡ true → is_running b.stage ≡ true) (λ b other at. absurd (false≢true (sym other ∙ ap (λ (c : Command Job). is_at (ticket_of c) b) it ∙ at))) q (head_pairs AreApart x q apart))
  | inr n ↦
      let later : find (λ b. is_running b.stage) q ≡ Some a = rw n at found in
      let other : is_at (ticket_of x) a ≡ false = found_all (AreApart x) (λ b. is_running b.stage) q a later (head_pairs AreApart x q apart) in
      All-cons (λ b. is_at (ticket_of a) b ≡ true → is_running b.stage ≡ true) x q (λ at. absurd (false≢true (sym other ∙ turned x a at)))
      (at_running q a later (tail_pairs AreApart x q apart))
]

pub rest_of : (x y : Bool) → x ≡ true → (x && y) ≡ false → y ≡ false
rest_of true y here other = other
rest_of false y here other = absurd (false≢true here)

pub first_of : (x y : Bool) → y ≡ true → (x && y) ≡ false → x ≡ false
first_of false y here other = refl
first_of true true here other = absurd (false≢true (sym other))
first_of true false here other = absurd (false≢true here)

-- the running command goes on, or ends
pub changed_runs : (f : Command Job → Command Job) → KeepsTicket f → (a : Command Job) (q : List (Command Job)) → find (λ b. is_running b.stage) q ≡ Some a → IsQueue q → IsQueue (changed f a q)
changed_runs f same a q found is =
    let runs = at_running q a found is.ids in
    queue_after_map _ (λ b. ticket_if (is_at (ticket_of a) b) f b (same b)) q
    (AllPairs-map (λ b c. ((is_running b.stage && is_running c.stage) ≡ false) × (is_at (ticket_of a) b ≡ true → is_running b.stage ≡ true) × (is_at (ticket_of a) c ≡ true → is_running c.stage ≡ true) × (is_at (ticket_of b) c ≡ false))
    NotBoth _ (λ b c h. elim (cases_Bool (is_at (ticket_of a) b)) [
      | inl y ↦
          let quiet : is_running c.stage ≡ false = rest_of (is_running b.stage) (is_running c.stage) (h.1 y) h.0 in
          let other : is_at (ticket_of a) c ≡ false = same_ticket (ticket_of a) (ticket_of b) (ticket_of c) y ∙ h.3 in
          rw other (and_right _ _ quiet)
      | inr n ↦ rw n (elim (cases_Bool (is_at (ticket_of a) c)) [
        | inl z ↦
            let quiet : is_running b.stage ≡ false = first_of (is_running b.stage) (is_running c.stage) (h.2 z) h.0 in
            rw z (and_left _ _ quiet)
        | inr m ↦ rw m (h.0)
      ])
    ]) q (λ i j d lt within. (is.running i j d lt within, runs i d (omega arith), runs j d within, is.ids i j d lt within))) is
