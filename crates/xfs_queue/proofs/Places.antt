-- A ticket names one place of the list: a write and a removal there.
use Rattle.std.proofs.Common.{◌≡◌, ℕ, zero, suc, ◌+◌, ◌<◌, ◌&&◌, not, Bool, true, false, cond, List, [], ◌∷◌, ◌++◌, take, drop, length, get_or, map, filter, remove, set, find, position, slice_get, ltb, None, Some, All, AllPairs, refl, ap, sym, ◌∙◌, inl, inr, arith}
use Rattle.std.proofs.lemmas.Bool.{cases_Bool, and_parts, eqb-true, false≢true, lt-ltb, le-ltb, cases_lt, or_cases, or_left, or_right}
use Rattle.std.specs.List.{list_any, position_or_len}
use Rattle.std.proofs.lemmas.List.Quantifiers.{position-Some}
use Rattle.std.proofs.lemmas.List.Folds.{find_at}
use Rattle.std.proofs.lemmas.Option.{slice_get_read}
use Rattle.std.proofs.lemmas.List.Edits.{map_over_more}
use Rattle.xfs_queue.specs.Queue.{mark}
use Rattle.xfs_queue.specs.declared.command.Ticket.{Ticket}
use Rattle.xfs_queue.specs.declared.command.Command.{Command}
use Rattle.xfs_queue.specs.Commands.{ticket_of, is_ticket, is_at, is_waiting}

-- equal tickets are equal to the same ones
pub same_ticket : (t u v : Ticket) → is_ticket t u ≡ true → is_ticket t v ≡ is_ticket u v
same_ticket t u v h =
    let parts = and_parts _ _ h in
    let client = eqb-true u.client.0 t.client.0 parts.0 in
    let id = eqb-true u.id t.id parts.1 in
    rw (client, id) refl

pub none≢some : {X : Type 0} (x : X) → None ≡ Some x → ⊥
none≢some x e = cc

ltb-suc : (n m : ℕ) → ltb n m ≡ ltb (1 + n) (suc m)
ltb-suc n m = elim (cases_lt n m) [
  | inl l ↦ lt-ltb n m l ∙ sym (lt-ltb (1 + n) (suc m) (omega arith))
  | inr g ↦ le-ltb n m g ∙ sym (le-ltb (1 + n) (suc m) (omega arith))
]

some-injective : {X : Type 0} (x y : X) → Some x ≡ Some y → x ≡ y
some-injective x y e = cc

module _ {J : Type 0} where
  abbrev pub AreApart : Command J → Command J → Type 0
  AreApart a b = is_at (ticket_of a) b ≡ false

  rest_apart : (a : Command J) (q : List (Command J)) → AllPairs AreApart (a ∷ q) → AllPairs AreApart q
  rest_apart a q h = λ i j d lt within. h (suc i) (suc j) d (omega arith) (omega arith)

  first_apart : (t : Ticket) (a : Command J) (q : List (Command J)) → is_at t a ≡ true → AllPairs AreApart (a ∷ q) → All (λ b. is_at t b ≡ false) q
  first_apart t a q y h = λ k d within. same_ticket t (ticket_of a) (ticket_of (get_or q k d)) y ∙ h 0 (suc k) d (omega arith) (omega arith)

  map_none : (t : Ticket) (g : Command J → Command J) (q : List (Command J)) → All (λ b. is_at t b ≡ false) q → map (λ a. cond (is_at t a) (g a) a) q ≡ q
  map_none t g [] none = refl
  map_none t g (a ∷ q) none = rw (none 0 a (omega arith)) (ap (λ l. a ∷ l) (map_none t g q (λ k d h. none (suc k) d (omega arith))))

  filter_none : (t : Ticket) (q : List (Command J)) → All (λ b. is_at t b ≡ false) q → filter (λ a. not (is_at t a)) q ≡ q
  filter_none t [] none = refl
  filter_none t (a ∷ q) none = rw (none 0 a (omega arith)) (ap (λ l. a ∷ l) (filter_none t q (λ k d h. none (suc k) d (omega arith))))

  -- the command at a later place that the ticket names isn't the first
  not_first : (t : Ticket) (a p : Command J) (q : List (Command J)) (at : ℕ) → AllPairs AreApart (a ∷ q) → at < length q → p ≡ get_or q at p → is_at t p ≡ true → is_at t a ≡ false
  not_first t a p q at h within is y = elim (cases_Bool (is_at t a)) [
    | inl here ↦ absurd (false≢true (sym (ap (is_at t) is ∙ first_apart t a q here h at p within) ∙ y))
    | inr n ↦ n
  ]

  pub set_here : (t : Ticket) (g : Command J → Command J) (q : List (Command J)) (at : ℕ) (p : Command J) → AllPairs AreApart q → at < length q → p ≡ get_or q at p → is_at t p ≡ true
      → set q at (g p) ≡ map (λ a. cond (is_at t a) (g a) a) q
  set_here t g [] at p h within is y = absurd (omega arith)
  set_here t g (a ∷ q) zero p h within is y =
      let here : is_at t a ≡ true = ap (is_at t) (sym is) ∙ y in
      rw here (rw (map_none t g q (first_apart t a q here h)) (ap (λ x. g x ∷ q) is))
  set_here t g (a ∷ q) (suc at) p h within is y =
      let in_rest : at < length q = omega arith in
      rw (not_first t a p q at h in_rest is y) (ap (λ l. a ∷ l) (set_here t g q at p (rest_apart a q h) in_rest is y))

  pub remove_here : (t : Ticket) (q : List (Command J)) (at : ℕ) (p : Command J) → AllPairs AreApart q → at < length q → p ≡ get_or q at p → is_at t p ≡ true
      → remove q at ≡ filter (λ a. not (is_at t a)) q
  remove_here t [] at p h within is y = absurd (omega arith)
  remove_here t (a ∷ q) zero p h within is y =
      let here : is_at t a ≡ true = ap (is_at t) (sym is) ∙ y in
      rw here (sym (filter_none t q (first_apart t a q here h)))
  remove_here t (a ∷ q) (suc at) p h within is y =
      let in_rest : at < length q = omega arith in
      rw (not_first t a p q at h in_rest is y) (ap (λ l. a ∷ l) (remove_here t q at p (rest_apart a q h) in_rest is y))

  -- what the place of a ticket says
  placed : (t : Ticket) (q : List (Command J)) (at : ℕ) (p : Command J) → position (is_at t) q ≡ Some at → p ≡ get_or q at p → is_at t p ≡ true
  placed t q at p e is = ap (is_at t) is ∙ (position-Some (is_at t) q at p e).1

  pub written : (t : Ticket) (g : Command J → Command J) (q : List (Command J)) (at : ℕ) (p : Command J) → AllPairs AreApart q → position (is_at t) q ≡ Some at → p ≡ get_or q at p
      → set q at (g p) ≡ map (λ a. cond (is_at t a) (g a) a) q
  written t g q at p h e is = set_here t g q at p h (position-Some (is_at t) q at p e).0 is (placed t q at p e is)

  pub removed : (t : Ticket) (q : List (Command J)) (at : ℕ) (p : Command J) → AllPairs AreApart q → position (is_at t) q ≡ Some at → p ≡ get_or q at p
      → remove q at ≡ filter (λ a. not (is_at t a)) q
  removed t q at p h e is = remove_here t q at p h (position-Some (is_at t) q at p e).0 is (placed t q at p e is)

  first_found : (p : Command J → Bool) (q : List (Command J)) (at : ℕ) → position p q ≡ Some at → position_or_len p q ≡ at
  first_found p q at e = elim (cases_Bool (ltb (position_or_len p q) (length q))) [
    | inl y ↦ some-injective _ _ (rw y at e)
    | inr n ↦ absurd (none≢some _ (rw n at e))
  ]

  pub taken : (t : Ticket) (q : List (Command J)) (at : ℕ) (p : Command J) → position (is_at t) q ≡ Some at → p ≡ get_or q at p → find (is_at t) q ≡ Some p
  taken t q at p e is =
      find_at (is_at t) q ∙ ap (slice_get q) (first_found (is_at t) q at e)
      ∙ slice_get_read q (length q) at p refl (position-Some (is_at t) q at p e).0 is

  -- a ticket that is pending has a place
  any_is_placed : (p : Command J → Bool) (q : List (Command J)) → list_any p q ≡ ltb (position_or_len p q) (length q)
  any_is_placed p [] = refl
  any_is_placed p (a ∷ q) = elim (cases_Bool (p a)) [
    | inl y ↦ rw y (sym (lt-ltb 0 (suc (length q)) (omega arith)))
    | inr n ↦ rw n (any_is_placed p q ∙ ltb-suc (position_or_len p q) (length q))
  ]

  pub not_placed : (p : Command J → Bool) (q : List (Command J)) → position p q ≡ None → list_any p q ≡ true → ⊥
  not_placed p q e any =
      let y : ltb (position_or_len p q) (length q) ≡ true = sym (any_is_placed p q) ∙ any in
      none≢some _ (sym (rw y at e))

  pub pending_from_waiting : (t : Ticket) (q : List (Command J)) → list_any (λ a. is_at t a && is_waiting a.stage) q ≡ true → list_any (is_at t) q ≡ true
  pending_from_waiting t [] h = h
  pending_from_waiting t (a ∷ q) h = elim (or_cases _ _ h) [
    | inl here ↦ or_left (is_at t a) (list_any (is_at t) q) ((and_parts (is_at t a) (is_waiting a.stage) here).0)
    | inr rest ↦ or_right (is_at t a) (list_any (is_at t) q) (pending_from_waiting t q rest)
  ]

  -- a loop that marks
  pub marked_more : (m : Command J → Bool) (xs ys : List (Command J)) (i : ℕ) (x : Command J) (b : Bool) → i < length xs → ys ≡ map (λ a. mark (m a) a) (take i xs) ++ drop i xs
      → x ≡ get_or ys i x → b ≡ m (get_or ys i x) → set ys i (mark b (get_or ys i x)) ≡ map (λ a. mark (m a) a) (take (i + 1) xs) ++ drop (i + 1) xs
  marked_more m xs ys i x b within done is e =
      ap (λ z. set ys i (mark b z)) (sym is) ∙ ap (λ d. set ys i (mark d x)) (e ∙ ap m (sym is)) ∙ map_over_more (λ a. mark (m a) a) xs ys i x within done is
