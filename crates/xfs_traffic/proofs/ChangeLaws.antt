-- Changes of the one command that a ticket names: two in a row are one, and one that changes nothing leaves the queue as it was.
use Rattle.std.proofs.Common.{◌≡◌, ◌&&◌, Bool, true, false, List, [], ◌∷◌, Option, None, Some, get_or, find, All, refl, sym, ◌∙◌, ap, inl, inr}
use Rattle.std.specs.List.{list_any}
use Rattle.std.specs.Option.{option_map}
use Rattle.std.proofs.lemmas.Bool.{cases_Bool}
use Rattle.std.proofs.lemmas.List.Elements.{All-head, All-tail}
use Rattle.xfs_queue.specs.declared.command.Command.{Command}
use Rattle.xfs_queue.specs.declared.command.Ticket.{Ticket}
use Rattle.xfs_queue.specs.Commands.{is_at, is_ticket, ticket_of}
use Rattle.xfs_queue.specs.declared.command.Stage.TheVariants.{Running}
use Rattle.xfs_queue.specs.Queue.{IsQueue, with_job, with_stage}
use Rattle.xfs_queue.proofs.Places.{same_ticket}
use Rattle.xfs_dispenser.specs.declared.plan.Plan.{Plan}
use Rattle.xfs_model.specs.Results.{with_plan}
use Rattle.xfs_model.specs.State.{Job}
use Rattle.xfs_model.proofs.Caused.{only_one}
use Rattle.xfs_model.proofs.Lists.{found_passes}
use Rattle.xfs_traffic.specs.Jobs.{changed_at}

-- the command whose ticket was found
pub record IsFound (o : Option (Command Job)) (t : Ticket) : Type 0 where
  pub command : Command Job
  pub is : o ≡ Some command
  pub at : t ≡ ticket_of command

one_ticket : (t u : Ticket) → Some t ≡ Some u → t ≡ u
one_ticket t u e = cc

pub found : (o : Option (Command Job)) (t : Ticket) → Some t ≡ option_map ticket_of o → IsFound o t
found None t e = absurd (let f : Some t ≡ None = e in cc)
found (Some a) t e = record { command = a; is = refl; at = one_ticket t (ticket_of a) e }

pub none_found : (o : Option (Command Job)) → None ≡ option_map ticket_of o → o ≡ None
none_found None e = refl
none_found (Some a) e = absurd (let f : None ≡ Some (ticket_of a) = e in cc)

same_all : (f : Command Job → Command Job) (t : Ticket) (q : List (Command Job)) → All (λ b. is_at t b ≡ true → f b ≡ b) q → changed_at f t q ≡ q
same_all f t [] all = refl
same_all f t (b ∷ q) all = elim (cases_Bool (is_at t b)) [
  | inl y ↦ rw y (rw (All-head (λ b. is_at t b ≡ true → f b ≡ b) b q all y) (ap (λ r. b ∷ r) (same_all f t q (All-tail (λ b. is_at t b ≡ true → f b ≡ b) b q all))))
  | inr n ↦ rw n (ap (λ r. b ∷ r) (same_all f t q (All-tail (λ b. is_at t b ≡ true → f b ≡ b) b q all)))
]

-- a change that changes nothing of the command that is found
pub still : (p : Command Job → Bool) (f : Command Job → Command Job) (a : Command Job) (q : List (Command Job)) → find p q ≡ Some a → IsQueue q → f a ≡ a → changed_at f (ticket_of a) q ≡ q
still p f a q is kept same =
    let one = only_one p q a is kept.ids in
    same_all f (ticket_of a) q (λ k d within at. let e = one k d within at in rw e same)

pub twice : (f g : Command Job → Command Job) → ((b : Command Job) → ticket_of (f b) ≡ ticket_of b) → (t : Ticket) (q : List (Command Job)) → changed_at g t (changed_at f t q) ≡ changed_at (λ b. g (f b)) t q
twice f g kept t [] = refl
twice f g kept t (b ∷ q) = elim (cases_Bool (is_at t b)) [
  | inl y ↦
      let there : is_at t (f b) ≡ true = ap (is_ticket t) (kept b) ∙ y in
      rw y (rw there (ap (λ r. g (f b) ∷ r) (twice f g kept t q)))
  | inr n ↦ rw n (rw n (ap (λ r. b ∷ r) (twice f g kept t q)))
]

alike_all : (f g : Command Job → Command Job) (t : Ticket) (q : List (Command Job)) → All (λ b. is_at t b ≡ true → f b ≡ g b) q → changed_at f t q ≡ changed_at g t q
alike_all f g t [] all = refl
alike_all f g t (b ∷ q) all = elim (cases_Bool (is_at t b)) [
  | inl y ↦ rw y (rw (All-head (λ b. is_at t b ≡ true → f b ≡ g b) b q all y) (ap (λ r. g b ∷ r) (alike_all f g t q (All-tail (λ b. is_at t b ≡ true → f b ≡ g b) b q all))))
  | inr n ↦ rw n (ap (λ r. b ∷ r) (alike_all f g t q (All-tail (λ b. is_at t b ≡ true → f b ≡ g b) b q all)))
]

-- two changes that do the same to the command that is found
pub alike : (p : Command Job → Bool) (f g : Command Job → Command Job) (a : Command Job) (q : List (Command Job)) → find p q ≡ Some a → IsQueue q → f a ≡ g a → changed_at f (ticket_of a) q ≡ changed_at g (ticket_of a) q
alike p f g a q is kept same =
    let one = only_one p q a is kept.ids in
    alike_all f g (ticket_of a) q (λ k d within at. let e = one k d within at in rw e same)

-- one that still is at its ticket
pub pending_changed : (f : Command Job → Command Job) → ((b : Command Job) → ticket_of (f b) ≡ ticket_of b) → (t : Ticket) (q : List (Command Job)) → list_any (is_at t) (changed_at f t q) ≡ list_any (is_at t) q
pending_changed f kept t [] = refl
pending_changed f kept t (b ∷ q) = elim (cases_Bool (is_at t b)) [
  | inl y ↦
      let there : is_at t (f b) ≡ true = ap (is_ticket t) (kept b) ∙ y in
      rw y (rw there refl)
  | inr n ↦ rw n (rw n (pending_changed f kept t q))
]

-- the command with another job
abbrev pub with_new_job : (Job → Job) → Command Job → Command Job
with_new_job g a = record a { job = g a.job }

same_job : (i j : Job) → Some i ≡ Some j → i ≡ j
same_job i j e = cc

has_job_at : (o : Option (Command Job)) (j : Job) → option_map (λ (a : Command Job). a.job) o ≡ Some j → (a : Command Job) × (o ≡ Some a) × (a.job ≡ j)
has_job_at None j e = absurd (let f : None ≡ Some j = e in cc)
has_job_at (Some a) j e = (a, refl, same_job a.job j e)

-- a job is changed in its place
pub rejobbed : (g : Job → Job) (t : Ticket) (q : List (Command Job)) (j : Job) → option_map (λ (a : Command Job). a.job) (find (is_at t) q) ≡ Some j → IsQueue q → with_job q t (g j) ≡ changed_at (with_new_job g) t q
rejobbed g t q j there kept =
    let w = has_job_at (find (is_at t) q) j there in
    let at : is_at t w.0 ≡ true = found_passes (is_at t) q w.0 w.1 in
    let one = only_one (is_at t) q w.0 w.1 kept.ids in
    alike_all (λ (a : Command Job). record a { job = g j }) (with_new_job g) t q
    (λ k d within here.
    let e = one k d within (sym (same_ticket t (ticket_of w.0) (ticket_of (get_or q k d)) at) ∙ here) in
    ap (λ (job : Job). record (get_or q k d) { job = g job }) (sym (ap (λ (b : Command Job). b.job) e ∙ w.2)))

pub had_plan : (o : Option (Command Job)) (j : Job) → option_map (λ (a : Command Job). a.job) o ≡ Some j → option_map (λ (a : Command Job). a.job.plan) o ≡ Some j.plan
had_plan None j e = absurd (let f : None ≡ Some j = e in cc)
had_plan (Some a) j e = ap (λ (i : Job). Some i.plan) (same_job a.job j e)

-- one that waits is pending
pub waits_there : (p : Command Job → Bool) (t : Ticket) (q : List (Command Job)) → list_any (λ b. is_at t b && p b) q ≡ true → list_any (is_at t) q ≡ true
waits_there p t [] e = e
waits_there p t (b ∷ q) e = elim (cases_Bool (is_at t b)) [
  | inl y ↦ rw y refl
  | inr n ↦ rw n (waits_there p t q (rw n at e))
]

-- a waiting command was begun with its plan
pub planned : (plan : Plan) (t : Ticket) (q : List (Command Job)) (j : Job) → option_map (λ (a : Command Job). a.job) (find (is_at t) (with_stage q t Running)) ≡ Some j → IsQueue (with_stage q t Running)
    → with_job (with_stage q t Running) t (record j { plan = Some plan; ended_nonce = false }) ≡ changed_at (with_plan plan false) t q
planned plan t q j there kept =
    rejobbed (λ i. record i { plan = Some plan; ended_nonce = false }) t (with_stage q t Running) j there kept
    ∙ twice (λ b. record b { stage = Running }) (with_new_job (λ i. record i { plan = Some plan; ended_nonce = false })) (λ b. refl) t q
