-- Whether a command of a list runs, behind a change.
use Rattle.std.proofs.Common.{◌≡◌, ◌||◌, Bool, true, false, cond, List, [], ◌∷◌, ◌++◌, None, Some, get_or, map, filter, find, All, AllPairs, refl, ap, sym, ◌∙◌, inl, inr}
use Rattle.std.specs.List.{list_any}
use Rattle.std.proofs.lemmas.Bool.{cases_Bool, false≢true}
use Rattle.std.proofs.lemmas.List.Elements.{All-cons, All-head, All-map, All-nil, All-tail}
use Rattle.std.proofs.lemmas.List.Folds.{list_any-append, list_any_none}
use Rattle.std.proofs.lemmas.Option.{none-some, same_Some}
use Rattle.xfs_queue.specs.declared.command.Command.{Command}
use Rattle.xfs_queue.specs.Commands.{is_at, is_running, ticket_of}
use Rattle.xfs_queue.proofs.Places.{AreApart}
use Rattle.xfs_model.specs.Results.{changed}
use Rattle.xfs_model.specs.State.{Job}
use Rattle.xfs_model.proofs.Caused.{only_one}
use Rattle.xfs_model.proofs.Changes.{NotBoth, at_itself, each, head_pairs, first_of, rest_of, tail_pairs, turned}
use Rattle.xfs_queue.proofs.Kept.{none_from_find}
use Rattle.xfs_model.proofs.Lists.{found_all}

abbrev pub runs : List (Command Job) → Bool
runs q = list_any (λ a. is_running a.stage) q

-- each command runs behind a change where it ran before
pub runs_map : (g : Command Job → Command Job) (q : List (Command Job)) → All (λ b. is_running (g b).stage ≡ is_running b.stage) q → runs (map g q) ≡ runs q
runs_map g [] same = refl
runs_map g (b ∷ q) same =
    let here = All-head (λ b. is_running (g b).stage ≡ is_running b.stage) b q same in
    rw here (ap (λ r. is_running b.stage || r) (runs_map g q (All-tail (λ b. is_running (g b).stage ≡ is_running b.stage) b q same)))

-- none that runs is left out
pub runs_filter : (keep : Command Job → Bool) (q : List (Command Job)) → All (λ b. is_running b.stage ≡ true → keep b ≡ true) q → runs (filter keep q) ≡ runs q
runs_filter keep [] kept = refl
runs_filter keep (b ∷ q) kept =
    let here = All-head (λ b. is_running b.stage ≡ true → keep b ≡ true) b q kept in
    let later = runs_filter keep q (All-tail (λ b. is_running b.stage ≡ true → keep b ≡ true) b q kept) in
    elim (cases_Bool (keep b)) [
      | inl y ↦ rw y (ap (λ r. is_running b.stage || r) later)
      | inr n ↦ rw n (later ∙ rests (is_running b.stage) (runs q) (λ y. false≢true (sym n ∙ here y)))
    ]
  where
    rests : (r x : Bool) → (r ≡ true → ⊥) → x ≡ (r || x)
    rests true x none = absurd (none refl)
    rests false x none = refl

pub runs_push : (q : List (Command Job)) (a : Command Job) → is_running a.stage ≡ false → runs (q ++ a ∷ []) ≡ runs q
runs_push q a rests = list_any-append (λ (b : Command Job). is_running b.stage) q (a ∷ []) ∙ rw rests (none_more (runs q))
  where
    none_more : (r : Bool) → (r || false) ≡ r
    none_more true = refl
    none_more false = refl

pub some_runs : (q : List (Command Job)) (a : Command Job) → find (λ b. is_running b.stage) q ≡ Some a → runs q ≡ true
some_runs [] a found = absurd (none-some a found)
some_runs (b ∷ q) a found = elim (cases_Bool (is_running b.stage)) [
  | inl y ↦ rw y refl
  | inr n ↦ rw n (some_runs q a (rw n at found))
]

pub none_runs : (q : List (Command Job)) → find (λ b. is_running b.stage) q ≡ None → runs q ≡ false
none_runs q none = list_any_none (λ (b : Command Job). is_running b.stage) q (none_from_find (λ (b : Command Job). is_running b.stage) q none)

-- all but this command rest
abbrev pub OthersRest : Command Job → List (Command Job) → Type 0
OthersRest a q = All (λ b. is_at (ticket_of a) b ≡ false → is_running b.stage ≡ false) q

pub others_rest : (p : Command Job → Bool) (q : List (Command Job)) (a : Command Job) → find p q ≡ Some a → is_running a.stage ≡ true → AllPairs NotBoth q → OthersRest a q
others_rest p [] a found runs_ one = All-nil (λ b. is_at (ticket_of a) b ≡ false → is_running b.stage ≡ false)
others_rest p (x ∷ q) a found runs_ one = elim (cases_Bool (p x)) [
  | inl y ↦
      let it : x ≡ a = same_Some x a (rw y at found) in
      let here : is_running x.stage ≡ true = rw it runs_ in
      All-cons (λ b. is_at (ticket_of a) b ≡ false → is_running b.stage ≡ false) x q (λ other. absurd (false≢true (sym other ∙ ap (λ (c : Command Job). is_at (ticket_of a) c) it ∙ at_itself (ticket_of a))))
      (each (NotBoth x) (λ b. is_at (ticket_of a) b ≡ false → is_running b.stage ≡ false) (λ b both other. rest_of (is_running x.stage) (is_running b.stage) here both) q (head_pairs NotBoth x q one))
  | inr n ↦
      let later : find p q ≡ Some a = rw n at found in
      let both : NotBoth x a = found_all (NotBoth x) p q a later (head_pairs NotBoth x q one) in
      All-cons (λ b. is_at (ticket_of a) b ≡ false → is_running b.stage ≡ false) x q (λ other. first_of (is_running x.stage) (is_running a.stage) runs_ both)
      (others_rest p q a later runs_ (tail_pairs NotBoth x q one))
]

pub all_rest : (q : List (Command Job)) (a : Command Job) → find (λ b. is_running b.stage) q ≡ None → OthersRest a q
all_rest q a none = each (λ b. is_running b.stage ≡ false) (λ b. is_at (ticket_of a) b ≡ false → is_running b.stage ≡ false) (λ b rests other. rests) q (none_from_find (λ (b : Command Job). is_running b.stage) q none)

none_at : (f : Command Job → Command Job) (a : Command Job) (q : List (Command Job)) → All (λ b. is_at (ticket_of a) b ≡ false) q → OthersRest a q → runs (changed f a q) ≡ false
none_at f a q apart rest = list_any_none (λ (b : Command Job). is_running b.stage) (changed f a q)
    (All-map (λ b. is_running b.stage ≡ false) (λ b. cond (is_at (ticket_of a) b) (f b) b) q (λ k d within. rw (apart k d within) (rest k d within (apart k d within))))

-- where all others rest, a command of the list runs exactly where the changed one does
pub runs_changed : (f : Command Job → Command Job) (p : Command Job → Bool) (a : Command Job) (q : List (Command Job)) → find p q ≡ Some a → AllPairs AreApart q → OthersRest a q → runs (changed f a q) ≡ is_running (f a).stage
runs_changed f p a [] found apart rest = absurd (none-some a found)
runs_changed f p a (x ∷ q) found apart rest = elim (cases_Bool (p x)) [
  | inl y ↦
      let it : x ≡ a = same_Some x a (rw y at found) in
      let later = All-tail (λ b. is_at (ticket_of a) b ≡ false → is_running b.stage ≡ false) x q rest in
      let others : All (λ b. is_at (ticket_of a) b ≡ false) q = rw it at (head_pairs AreApart x q apart) in
      rw (it, at_itself (ticket_of a), none_at f a q others later) (none_more (is_running (f a).stage))
  | inr n ↦
      let late : find p q ≡ Some a = rw n at found in
      let other : is_at (ticket_of x) a ≡ false = found_all (AreApart x) p q a late (head_pairs AreApart x q apart) in
      let elsewhere : is_at (ticket_of a) x ≡ false = unturned (is_at (ticket_of a) x) refl other in
      let quiet = All-head (λ b. is_at (ticket_of a) b ≡ false → is_running b.stage ≡ false) x q rest elsewhere in
      rw (elsewhere, quiet) (runs_changed f p a q late (tail_pairs AreApart x q apart) (All-tail (λ b. is_at (ticket_of a) b ≡ false → is_running b.stage ≡ false) x q rest))
]
  where
    none_more : (r : Bool) → (r || false) ≡ r
    none_more true = refl
    none_more false = refl

    unturned : (b : Bool) → is_at (ticket_of a) x ≡ b → is_at (ticket_of x) a ≡ false → is_at (ticket_of a) x ≡ false
    unturned false is other = is
    unturned true is other = absurd (false≢true (sym other ∙ turned x a is))

-- a command that neither begins nor ends
pub runs_beside : (f : Command Job → Command Job) (p : Command Job → Bool) (a : Command Job) (q : List (Command Job)) → find p q ≡ Some a → AllPairs AreApart q → is_running (f a).stage ≡ is_running a.stage → runs (changed f a q) ≡ runs q
runs_beside f p a q found apart same =
    let alone = only_one p q a found apart in
    runs_map (λ b. cond (is_at (ticket_of a) b) (f b) b) q (λ k d within. one (get_or q k d) (alone k d within))
  where
    one : (b : Command Job) → (is_at (ticket_of a) b ≡ true → b ≡ a) → is_running (cond (is_at (ticket_of a) b) (f b) b).stage ≡ is_running b.stage
    one b is = elim (cases_Bool (is_at (ticket_of a) b)) [
      | inl y ↦
          let it : b ≡ a = is y in
          rw (y, it) same
      | inr n ↦ rw n refl
    ]
