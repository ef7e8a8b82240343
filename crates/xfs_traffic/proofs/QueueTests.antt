-- What the tests of a queue say of it.
use Rattle.std.proofs.Common.{◌≡◌, ◌&&◌, ◌||◌, Bool, true, false, List, [], ◌∷◌, Option, None, Some, find, All, AllPairs, refl, sym, ◌∙◌, ap, inl, inr}
use Rattle.std.specs.Prelude.{is_some}
use Rattle.std.specs.List.{list_any}
use Rattle.std.specs.Option.{option_map}
use Rattle.std.proofs.lemmas.Bool.{cases_Bool, false≢true}
use Rattle.std.proofs.lemmas.List.Elements.{All-head, All-tail}
use Rattle.std.proofs.lemmas.Option.{none-some, same_Some}
use Rattle.xfs_queue.specs.declared.command.Command.{Command}
use Rattle.xfs_queue.specs.declared.command.Ticket.{Ticket}
use Rattle.xfs_base.specs.declared.moment.Moment.{Moment}
use Rattle.xfs_queue.specs.Commands.{is_at, is_due, is_running, ticket_of}
use Rattle.xfs_queue.specs.Queue.{IsQueue}
use Rattle.xfs_model.specs.State.{Job}
use Rattle.xfs_model.proofs.Caused.{only_one}
use Rattle.xfs_model.proofs.Changes.{head_pairs, tail_pairs, at_itself}
use Rattle.xfs_traffic.proofs.ChangeLaws.{found}

pub any_found : {X Y : Type 0} (f : X → Y) (p : X → Bool) (xs : List X) → is_some (option_map f (find p xs)) ≡ list_any p xs
any_found f p [] = refl
any_found f p (x ∷ xs) = elim (cases_Bool (p x)) [ inl y ↦ rw y refl | inr n ↦ rw n (any_found f p xs) ]

-- a test of the one command that is at a ticket
pub any_at : (r p : Command Job → Bool) (q : List (Command Job)) (a : Command Job) → find r q ≡ Some a → IsQueue q → list_any (λ b. is_at (ticket_of a) b && p b) q ≡ p a
any_at r p q a there kept = at_one p q a (only_one r q a there kept.ids) (member r q a there)
  where
    member : (r : Command Job → Bool) (q : List (Command Job)) (a : Command Job) → find r q ≡ Some a → list_any (is_at (ticket_of a)) q ≡ true
    member r [] a there = absurd (none-some a there)
    member r (x ∷ q) a there = elim (cases_Bool (r x)) [
      | inl y ↦
          let it : x ≡ a = same_Some x a (rw y at there) in
          rw it (rw (at_itself (ticket_of a)) refl)
      | inr n ↦ elim (cases_Bool (is_at (ticket_of a) x)) [
        | inl z ↦ rw z refl
        | inr m ↦ rw m (member r q a (rw n at there))
      ]
    ]

    none_at : (p : Command Job → Bool) (q : List (Command Job)) (t : Ticket) → list_any (is_at t) q ≡ false → list_any (λ b. is_at t b && p b) q ≡ false
    none_at p [] t none = refl
    none_at p (x ∷ q) t none = elim (cases_Bool (is_at t x)) [
      | inl y ↦ absurd (false≢true (sym (rw y at none)))
      | inr n ↦ rw n (none_at p q t (rw n at none))
    ]

    at_one : (p : Command Job → Bool) (q : List (Command Job)) (a : Command Job) → All (λ b. is_at (ticket_of a) b ≡ true → b ≡ a) q → list_any (is_at (ticket_of a)) q ≡ true → list_any (λ b. is_at (ticket_of a) b && p b) q ≡ p a
    at_one p [] a all some = absurd (false≢true some)
    at_one p (x ∷ q) a all some = elim (cases_Bool (is_at (ticket_of a) x)) [
      | inl y ↦
          let it : x ≡ a = All-head (λ b. is_at (ticket_of a) b ≡ true → b ≡ a) x q all y in
          elim (cases_Bool (p a)) [
            | inl holds ↦ rw y (rw it (rw holds refl))
            | inr fails_ ↦ elim (cases_Bool (list_any (is_at (ticket_of a)) q)) [
              | inl more ↦ rw y (rw it (rw fails_ (at_one p q a (All-tail (λ b. is_at (ticket_of a) b ≡ true → b ≡ a) x q all) more ∙ fails_)))
              | inr none ↦ rw y (rw it (rw fails_ (none_at p q (ticket_of a) none)))
            ]
          ]
      | inr n ↦ rw n (at_one p q a (All-tail (λ b. is_at (ticket_of a) b ≡ true → b ≡ a) x q all) (rw n at some))
    ]

none_with : (r p : Command Job → Bool) (q : List (Command Job)) → list_any r q ≡ false → list_any (λ b. r b && p b) q ≡ false
none_with r p [] none = refl
none_with r p (x ∷ q) none = elim (cases_Bool (r x)) [
  | inl y ↦ absurd (false≢true (sym (rw y at none)))
  | inr n ↦ rw n (none_with r p q (rw n at none))
]

quiet : (x : Command Job) (q : List (Command Job)) → is_running x.stage ≡ true → All (λ b. (is_running x.stage && is_running b.stage) ≡ false) q → list_any (λ b. is_running b.stage) q ≡ false
quiet x [] runs all = refl
quiet x (b ∷ q) runs all =
    let here : is_running b.stage ≡ false = rw runs at (All-head (λ b. (is_running x.stage && is_running b.stage) ≡ false) b q all) in
    rw here (quiet x q runs (All-tail (λ b. (is_running x.stage && is_running b.stage) ≡ false) b q all))

running_one : (p : Command Job → Bool) (q : List (Command Job)) (a : Command Job) → find (λ b. is_running b.stage) q ≡ Some a → AllPairs (λ a b. (is_running a.stage && is_running b.stage) ≡ false) q
    → list_any (λ b. is_running b.stage && p b) q ≡ p a
running_one p [] a there kept = absurd (none-some a there)
running_one p (x ∷ q) a there kept = elim (cases_Bool (is_running x.stage)) [
  | inl y ↦
      let it : x ≡ a = same_Some x a (rw y at there) in
      let rest : list_any (λ b. is_running b.stage && p b) q ≡ false = none_with (λ b. is_running b.stage) p q (quiet x q y (head_pairs (λ a b. (is_running a.stage && is_running b.stage) ≡ false) x q kept)) in
      elim (cases_Bool (p x)) [
        | inl holds ↦ rw y (rw holds (sym (ap p (sym it) ∙ holds)))
        | inr fails_ ↦ rw y (rw fails_ (rest ∙ sym (ap p (sym it) ∙ fails_)))
      ]
  | inr n ↦ rw n (running_one p q a (rw n at there) (tail_pairs (λ a b. (is_running a.stage && is_running b.stage) ≡ false) x q kept))
]

-- a test of the one command that runs
pub any_running : (p : Command Job → Bool) (q : List (Command Job)) (a : Command Job) → find (λ b. is_running b.stage) q ≡ Some a → IsQueue q → list_any (λ b. is_running b.stage && p b) q ≡ p a
any_running p q a there kept = running_one p q a there kept.running

-- none runs
pub none_runs : (p : Command Job → Bool) (q : List (Command Job)) → find (λ b. is_running b.stage) q ≡ None → list_any (λ b. is_running b.stage && p b) q ≡ false
none_runs p q none = none_with (λ b. is_running b.stage) p q (sym (any_found (λ b. b) (λ b. is_running b.stage) q) ∙ ap (λ o. is_some (option_map (λ (b : Command Job). b) o)) none)

-- the running command is canceled, or its deadline has come
pub stopped_one : (q : List (Command Job)) (t : Ticket) (now : Moment) (marked due : Bool) → Some t ≡ option_map ticket_of (find (λ b. is_running b.stage) q) → IsQueue q
    → marked ≡ list_any (λ b. is_at t b && b.marked) q → due ≡ list_any (λ b. is_at t b && is_due now b) q
    → (marked || due) ≡ list_any (λ b. is_running b.stage && (b.marked || is_due now b)) q
stopped_one q t now marked due there kept is_marked is_late =
    let f = found (find (λ b. is_running b.stage) q) t there in
    let one : list_any (λ b. is_at t b && b.marked) q ≡ f.command.marked = ap (λ u. list_any (λ b. is_at u b && b.marked) q) f.at ∙ any_at (λ b. is_running b.stage) (λ b. b.marked) q f.command f.is kept in
    let two : list_any (λ b. is_at t b && is_due now b) q ≡ is_due now f.command = ap (λ u. list_any (λ b. is_at u b && is_due now b) q) f.at ∙ any_at (λ b. is_running b.stage) (λ b. is_due now b) q f.command f.is kept in
    rw (is_marked ∙ one, is_late ∙ two) (sym (any_running (λ b. b.marked || is_due now b) q f.command f.is kept))

-- whether one is found is whether there is any
pub any_there : (o : Option Ticket) (there : Bool) (p : Command Job → Bool) (q : List (Command Job)) → o ≡ option_map ticket_of (find p q) → there ≡ is_some o → there ≡ list_any p q
any_there o there p q is some = some ∙ ap is_some is ∙ any_found ticket_of p q

-- none is found where there is one
pub none_there : (o : Option Ticket) (p : Command Job → Bool) (q : List (Command Job)) → o ≡ None → o ≡ option_map ticket_of (find p q) → list_any p q ≡ true → ⊥
none_there o p q none is some = false≢true (ap is_some (sym none ∙ is) ∙ any_found ticket_of p q ∙ some)
