-- A place of a list whose element alone passes a test, and the connection there.
use Rattle.std.proofs.Common.{◌≡◌, ℕ, zero, suc, ◌<◌, ◌&&◌, Bool, true, false, cond, List, [], ◌∷◌, ◌++◌, length, filter, get_or, map, set, find, position, slice_get, ltb, None, Some, Result, Ok, Err, OnOk, OnErr, MatchOption, All, AllPairs, refl, ap, sym, ◌∙◌, inl, inr, arith}
use Rattle.std.specs.List.{position_or_len}
use Rattle.std.proofs.lemmas.Bool.{and_parts, cases_Bool, cases_lt, lt-ltb, eqb-true, ne_eqb, false≢true}
use Rattle.std.proofs.lemmas.List.Elements.{All-cons}
use Rattle.std.proofs.lemmas.List.Folds.{find_at}
use Rattle.std.proofs.lemmas.List.Kept.{AllPairs-filter}
use Rattle.std.proofs.lemmas.List.Quantifiers.{position-Some}
use Rattle.std.proofs.lemmas.Option.{slice_get_read, slice_get_past, none-some, same_Some}
use Rattle.xfs_base.specs.declared.moment.ClientId.{ClientId}
use Rattle.xfs_base.specs.declared.moment.Service.{Service}
use Rattle.xfs_model.specs.Connections.{is_at, is_client, is_service, with_mail, without_mail}
use Rattle.xfs_base.specs.declared.faults.Memory.{Memory}
use Rattle.xfs_traffic.specs.TakenBack.{all_but_last, taken_back}
use Rattle.xfs_model.specs.State.{Connection}
use Rattle.xfs_queue.proofs.Kept.{AllPairs-map}
use Rattle.xfs_model.proofs.Talks.{client_with_mail}

module _ {X : Type 0} (p : X → Bool) where
  abbrev pub NotBoth : X → X → Type 0
  NotBoth a b = p a ≡ true → p b ≡ false

  pub map_none : (g : X → X) (xs : List X) → All (λ b. p b ≡ false) xs → map (λ a. cond (p a) (g a) a) xs ≡ xs
  map_none g [] none = refl
  map_none g (a ∷ xs) none = rw (none 0 a (omega arith)) (ap (λ l. a ∷ l) (map_none g xs (λ k d h. none (suc k) d (omega arith))))

  set_here : (g : X → X) (xs : List X) (at : ℕ) (x : X) → AllPairs NotBoth xs → at < length xs → x ≡ get_or xs at x → p x ≡ true → set xs at (g x) ≡ map (λ a. cond (p a) (g a) a) xs
  set_here g [] at x h within is y = absurd (omega arith)
  set_here g (a ∷ xs) zero x h within is y =
      let here : p a ≡ true = ap p (sym is) ∙ y in
      rw here (rw (map_none g xs (λ k d inside. h zero (suc k) d (omega arith) (omega arith) here)) (ap (λ z. g z ∷ xs) is))
  set_here g (a ∷ xs) (suc at) x h within is y =
      let in_rest : at < length xs = omega arith in
      let first : p a ≡ false = elim (cases_Bool (p a)) [
        | inl here ↦ absurd (false≢true (sym (ap p is ∙ h zero (suc at) x (omega arith) (omega arith) here) ∙ y))
        | inr n ↦ n
      ] in
      rw first (ap (λ l. a ∷ l) (set_here g xs at x (λ i j d lt inside. h (suc i) (suc j) d (omega arith) (omega arith)) in_rest is y))

  -- a write at the place
  pub written : (g : X → X) (xs : List X) (at : ℕ) (x : X) → AllPairs NotBoth xs → position p xs ≡ Some at → x ≡ get_or xs at x → set xs at (g x) ≡ map (λ a. cond (p a) (g a) a) xs
  written g xs at x h e is = set_here g xs at x h (position-Some p xs at x e).0 is (ap p is ∙ (position-Some p xs at x e).1)

  first_found : (xs : List X) (at : ℕ) → position p xs ≡ Some at → position_or_len p xs ≡ at
  first_found xs at e = elim (cases_Bool (ltb (position_or_len p xs) (length xs))) [
    | inl y ↦ same_Some _ _ (rw y at e)
    | inr n ↦ absurd (none-some _ (rw n at e))
  ]

  -- what is found there
  pub taken : (xs : List X) (at : ℕ) (x : X) → position p xs ≡ Some at → x ≡ get_or xs at x → find p xs ≡ Some x
  taken xs at x e is = find_at p xs ∙ ap (slice_get xs) (first_found xs at e) ∙ slice_get_read xs (length xs) at x refl (position-Some p xs at x e).0 is

  pub none_from_find : (xs : List X) → find p xs ≡ None → All (λ x. p x ≡ false) xs
  none_from_find [] h = λ k d w. absurd (omega (arith, w))
  none_from_find (x ∷ xs) h = elim (cases_Bool (p x)) [
    | inl y ↦ absurd (none-some x (sym (rw y at h)))
    | inr n ↦ All-cons (λ x. p x ≡ false) x xs n (none_from_find xs (rw n at h))
  ]

  -- nothing is found
  pub not_there : (xs : List X) → position p xs ≡ None → find p xs ≡ None
  not_there xs e = elim (cases_lt (position_or_len p xs) (length xs)) [
    | inl l ↦ absurd (none-some _ (sym (rw (lt-ltb (position_or_len p xs) (length xs) l) at e)))
    | inr g ↦ find_at p xs ∙ slice_get_past xs (position_or_len p xs) g
  ]

-- only one connection has a number
apart_at : (client : ClientId) (ks : List Connection) → AllPairs (λ a b. a.client.0 < b.client.0) ks → AllPairs (NotBoth (is_client client)) ks
apart_at client ks h = λ i j d lt within y.
    let e : (get_or ks i d).client.0 ≡ client.0 = eqb-true (get_or ks i d).client.0 client.0 y in
    let less = h i j d lt within in
    ne_eqb (get_or ks j d).client.0 client.0 (λ f. absurd (omega (arith, e, f, less)))

-- the same at a service
pub apart_there : (service : Service) (client : ClientId) (ks : List Connection) → AllPairs (λ a b. a.client.0 < b.client.0) ks → AllPairs (NotBoth (is_at service client)) ks
apart_there service client ks h = λ i j d lt within y.
    let here = (and_parts (is_service service (get_or ks i d).service) (is_client client (get_or ks i d)) y).1 in
    rw (apart_at client ks h i j d lt within here) (no_more (is_service service (get_or ks j d).service))
  where
    no_more : (b : Bool) → (b && false) ≡ false
    no_more true = refl
    no_more false = refl

-- nothing is written where there is none
none_there : (p : Connection → Bool) (g : Connection → Connection) (ks : List Connection) → position p ks ≡ None → map (λ k. cond (p k) (g k) k) ks ≡ ks
none_there p g ks e = map_none p g ks (none_from_find p ks (not_there p ks e))

-- frames for the connection at the place
pub mailed_at : (service : Service) (client : ClientId) (frames : List (List ℕ)) (ks : List Connection) (at : ℕ) (k : Connection) → AllPairs (λ a b. a.client.0 < b.client.0) ks → position (is_at service client) ks ≡ Some at → k ≡ get_or ks at k
    → set ks at (record k { waiting = k.waiting ++ frames }) ≡ map (λ j. with_mail (is_at service client j) frames j) ks
mailed_at service client frames ks at k rising there here = written (is_at service client) (λ j. record j { waiting = j.waiting ++ frames }) ks at k (apart_there service client ks rising) there here

pub mailed_none : (service : Service) (client : ClientId) (frames : List (List ℕ)) (ks : List Connection) → position (is_at service client) ks ≡ None → ks ≡ map (λ j. with_mail (is_at service client j) frames j) ks
mailed_none service client frames ks none = sym (none_there (is_at service client) (λ j. record j { waiting = j.waiting ++ frames }) ks none)

-- and none that wait any more
pub fetched_at : (client : ClientId) (ks : List Connection) (at : ℕ) (k : Connection) → AllPairs (λ a b. a.client.0 < b.client.0) ks → position (is_client client) ks ≡ Some at → k ≡ get_or ks at k
    → set ks at (record k { waiting = [] }) ≡ map (without_mail client) ks
fetched_at client ks at k rising there here = written (is_client client) (λ j. record j { waiting = [] }) ks at k (apart_at client ks rising) there here

pub fetched_none : (client : ClientId) (ks : List Connection) → position (is_client client) ks ≡ None → ks ≡ map (without_mail client) ks
fetched_none client ks none = sym (none_there (is_client client) (λ j. record j { waiting = [] }) ks none)

pub handed_at : (client : ClientId) (ks : List Connection) (at : ℕ) (k : Connection) (frames : List (List ℕ)) → position (is_client client) ks ≡ Some at → k ≡ get_or ks at k → frames ≡ k.waiting
    → MatchOption (find (is_client client) ks) (frames ≡ []) (λ j. frames ≡ j.waiting)
handed_at client ks at k frames there here waits = rw (taken (is_client client) ks at k there here) waits

pub handed_none : (client : ClientId) (ks : List Connection) (frames : List (List ℕ)) → position (is_client client) ks ≡ None → frames ≡ []
    → MatchOption (find (is_client client) ks) (frames ≡ []) (λ j. frames ≡ j.waiting)
handed_none client ks frames none empty_ = rw (not_there (is_client client) ks none) empty_

-- the numbers rise where each connection keeps its own
pub rising_map : (f : Connection → Connection) → ((k : Connection) → (f k).client ≡ k.client) → (ks : List Connection) → AllPairs (λ a b. a.client.0 < b.client.0) ks → AllPairs (λ a b. a.client.0 < b.client.0) (map f ks)
rising_map f keeps ks = AllPairs-map (λ a b. a.client.0 < b.client.0) (λ a b. a.client.0 < b.client.0) f (λ a b less. rw (keeps a, keeps b) less) ks

pub rising_mailed : (service : Service) (client : ClientId) (frames : List (List ℕ)) (ks new : List Connection) → new ≡ map (λ j. with_mail (is_at service client j) frames j) ks → AllPairs (λ a b. a.client.0 < b.client.0) ks → AllPairs (λ a b. a.client.0 < b.client.0) new
rising_mailed service client frames ks new e rising = rw e (rising_map (λ j. with_mail (is_at service client j) frames j) (λ k. client_with_mail (is_at service client k) frames k) ks rising)

pub rising_fetched : (client : ClientId) (ks new : List Connection) → new ≡ map (without_mail client) ks → AllPairs (λ a b. a.client.0 < b.client.0) ks → AllPairs (λ a b. a.client.0 < b.client.0) new
rising_fetched client ks new e rising = rw e (rising_map (without_mail client) (λ k. kept (is_client client k) k) ks rising)
  where
    kept : (b : Bool) (k : Connection) → (cond b (record k { waiting = [] }) k).client ≡ k.client
    kept true k = refl
    kept false k = refl

pub rising_announced : (service : Service) (frame : List ℕ) (ks new : List Connection) → new ≡ map (λ j. with_mail (is_service service j.service) (frame ∷ []) j) ks → AllPairs (λ a b. a.client.0 < b.client.0) ks → AllPairs (λ a b. a.client.0 < b.client.0) new
rising_announced service frame ks new e rising = rw e (rising_map (λ j. with_mail (is_service service j.service) (frame ∷ []) j) (λ k. client_with_mail (is_service service k.service) (frame ∷ []) k) ks rising)

-- and where some leave
pub rising_kept : (keep : Connection → Bool) (ks : List Connection) → AllPairs (λ a b. a.client.0 < b.client.0) ks → AllPairs (λ a b. a.client.0 < b.client.0) (filter keep ks)
rising_kept keep ks = AllPairs-filter (λ a b. a.client.0 < b.client.0) keep ks

-- the numbers rise whether it was announced or not
pub rising_either : (service : Service) (frame : List ℕ) (ks new : List Connection) (r : Result (Unit {0}) Memory) → OnOk r (new ≡ map (λ j. with_mail (is_service service j.service) (frame ∷ []) j) ks) → OnErr r (new ≡ ks)
    → AllPairs (λ a b. a.client.0 < b.client.0) ks → AllPairs (λ a b. a.client.0 < b.client.0) new
rising_either service frame ks new (Ok done) ok err rising = rising_announced service frame ks new ok rising
rising_either service frame ks new (Err memory) ok err rising = rw err rising

pub rising_back : (service : Service) (ks : List Connection) → AllPairs (λ a b. a.client.0 < b.client.0) ks → AllPairs (λ a b. a.client.0 < b.client.0) (map (taken_back service) ks)
rising_back service ks rising = rising_map (taken_back service) (λ k. kept (is_service service k.service) k) ks rising
  where
    kept : (b : Bool) (k : Connection) → (cond b (record k { waiting = all_but_last k.waiting }) k).client ≡ k.client
    kept true k = refl
    kept false k = refl
