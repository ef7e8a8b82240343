-- Each step of the lock keeps its rule.
use Rattle.std.proofs.Common.{◌≡◌, ◌≢◌, ◌==◌, ℕ, true, false, List, [], ◌∷◌, length, slice_index, slice_set, refl, sym, subst, inl, inr, ⊎_elim, ap, ◌∙◌, arith, Bool, zero, suc, nat_le, if◌then◌else◌, true≢false}
use mathlib.Core.List.{IsPrefix}
use mathlib.Core.Logic.{dite}
use mathlib.Core.Option.{Option, some, none, some-injective, some-ne-none}
use native.Mathlib.Decide.{ℕ_discrete}
use prog.Atomic.{either}
use lib.ListN.{get_elem?}
use Rattle.std.proofs.lemmas.Bool.Decides.{nat_tests}
use Rattle.atomic_table.specs.Table.{State, Act, keeps, takes, gives, Allows, Splits, Joins, Valid, step, opening, carried_after, homes_after}
use Rattle.atomic_table.proofs.Lists.{at_set, at_snoc, at_longer, set_here, set_else, set_again}
use Rattle.xfs_turn.specs.declared.rule.Cell.{Cell}
use Rattle.xfs_turn.specs.declared.rule.Cell.TheVariants.{Home}
use Rattle.xfs_turn.specs.declared.rule.Knowledge.{Knowledge}
use Rattle.xfs_turn.specs.Turns.{knows, holder, joined, longer, Learned, Waits, IsOut, IsKept, Took, Counted, Gave}
use Rattle.xfs_turn.proofs.Prefixes.{begins_itself, nil_begins, begins_longer, shorter_begins, below_length}

module _ {E : Type 0} where
  -- a seat waits, where what it has seen begins the list
  pub knows_waits : (xs all : List E) → IsPrefix xs all → Waits all (knows xs)
  knows_waits xs all p = record { idle = refl; seen = p; first = nil_begins all; second = nil_begins all }

  -- what waits behind a list waits behind each longer one
  waits_longer : (xs ys : List E) (v : Knowledge E) → IsPrefix xs ys → Waits xs v → Waits ys v
  waits_longer xs ys v p w = record {
    idle = w.idle;
    seen = begins_longer v.seen xs ys w.seen p;
    first = begins_longer v.first xs ys w.first p;
    second = begins_longer v.second xs ys w.second p;
  }

  -- the others wait as before, once one view is set
  others_wait : (all : List E) (views : List (Knowledge E)) (id : ℕ) (w : Knowledge E)
      → ((i : ℕ) (v : Knowledge E) → get_elem? views i ≡ some v → i ≢ id → Waits all v)
      → (i : ℕ) (v : Knowledge E) → get_elem? (slice_set views id w) i ≡ some v → i ≢ id → Waits all v
  others_wait all views id w before i v e other =
      ⊎_elim (λ t. absurd (other t.0)) (λ t. before i v t.1 other) (at_set views id i w v e)

  -- of two seats that wait, one that knows both lists waits
  both_wait : (all xs ys : List E) → Waits all (knows xs) → Waits all (knows ys) → Waits all (joined (knows xs) (knows ys))
  both_wait all xs ys a b = record { idle = a.idle; seen = go (nat_le (length xs) (length ys)); first = a.seen; second = b.seen }
    where
      go : (t : Bool) → IsPrefix (if t then ys else xs) all
      go true = b.seen
      go false = a.seen

  -- of two beginnings of one list, each begins the longer one
  both_begin : (all xs ys : List E) → IsPrefix xs all → IsPrefix ys all → IsPrefix xs (longer xs ys) × IsPrefix ys (longer xs ys)
  both_begin all xs ys p q = go (nat_le (length xs) (length ys)) refl
    where
      go : (t : Bool) → nat_le (length xs) (length ys) ≡ t → IsPrefix xs (if t then ys else xs) × IsPrefix ys (if t then ys else xs)
      go true is = (shorter_begins xs ys all p q (grind (arith, nat_tests)), begins_itself ys)
      go false is = (begins_itself xs, shorter_begins ys xs all q p (grind (arith, nat_tests)))

module _ {T E : Type 0} (list : T → List E) where
  -- a seat that waits isn't the one that has the turn
  not_holder : (s : State (Cell T) (Knowledge E)) (i : ℕ) (v : Knowledge E) → v.holds ≡ false → get_elem? s.views i ≡ some v
      → (out : IsOut list s) → i ≢ out.seat
  not_holder s i v idle at out e = absurd (true≢false (sym out.holds ∙ (ap (λ (h : Knowledge E). h.holds) (some-injective _ _ (sym out.at ∙ (ap (get_elem? s.views) (sym e) ∙ at))) ∙ idle)))

  -- who holds the turn is the one that is out
  is_holder : (s : State (Cell T) (Knowledge E)) (id : ℕ) (base seen : List E) → get_elem? s.views id ≡ some (holder base seen)
      → (out : IsOut list s) → (out.seat ≡ id) × (out.held ≡ holder base seen)
  is_holder s id base seen at out =
      dite (ℕ_discrete out.seat id)
      (λ e. (e, some-injective _ _ (sym out.at ∙ (ap (get_elem? s.views) e ∙ at))))
      (λ ne. absurd (true≢false (out.waits id (holder base seen) at (λ e. ne (sym e))).idle))

  -- the turn is taken, or another seat has it
  pub takes_turn : (slots id : ℕ) (v : Knowledge E)
      → Allows (IsKept list) slots id (v, []) 0 (λ n. either (n == 0) 1 n) (Took list (step slots 0 0 1 none) (v, []))
  takes_turn slots id v s (inl free) size at small =
      let x = free.value in
      let all = list x in
      let P : List ℕ → List (Option (Cell T)) → Type 0 = λ ws hs.
      (w : Knowledge E) × (a : Act (Cell T)) × Valid hs [] a
      × IsKept list record { words = slice_set ws 0 (either (slice_index ws 0 == 0) 1 (slice_index ws 0)); homes = homes_after hs [] a; views = slice_set s.views id w }
      × Took list (step slots 0 0 1 none) (v, []) (slice_index ws 0) (w, carried_after [] a) in
      subst (λ ws. P ws s.homes) (sym free.words) (subst (λ hs. P (0 ∷ length all ∷ []) hs) (sym free.home) (
        holder all all,
        takes 0 (Home x),
        refl,
        inr record {
          seat = id;
          held = holder all all;
          words = refl;
          home = refl;
          at = set_here s.views id _ (below_length s.views id v at);
          holds = refl;
          grown = begins_itself all;
          waits = others_wait all s.views id _ (λ i u e ne. free.waits i u e);
        },
        (x, refl, (free.waits id v at).seen),
      ))
  takes_turn slots id v s (inr out) size at small =
      let n = length out.held.seen in
      let P : List ℕ → Type 0 = λ ws.
      (w : Knowledge E) × (a : Act (Cell T)) × Valid s.homes [] a
      × IsKept list record { words = slice_set ws 0 (either (slice_index ws 0 == 0) 1 (slice_index ws 0)); homes = homes_after s.homes [] a; views = slice_set s.views id w }
      × Took list (step slots 0 0 1 none) (v, []) (slice_index ws 0) (w, carried_after [] a) in
      let same : slice_set s.views id v ≡ s.views = set_again s.views id v at in
      subst P (sym out.words) (
        v,
        keeps,
        tt,
        inr (subst (λ vs. IsOut list record { words = 1 ∷ n ∷ []; homes = s.homes; views = vs }) (sym same) record {
          seat = out.seat;
          held = out.held;
          words = refl;
          home = out.home;
          at = out.at;
          holds = out.holds;
          grown = out.grown;
          waits = out.waits;
        }),
        refl,
      )

  -- the length of the list of the value in hand is stored
  pub stores_count : (slots id : ℕ) (base seen : List E) (x : T) → IsPrefix base (list x)
      → Allows (IsKept list) slots id (holder base seen, (0, Home x) ∷ []) 1 (λ _. length (list x))
      (λ _. Counted list (step slots 1 (length (list x)) 0 none) (holder base seen, (0, Home x) ∷ []) (length (list x)))
  stores_count slots id base seen x grown s (inl free) size at small = absurd (true≢false (free.waits id (holder base seen) at).idle)
  stores_count slots id base seen x grown s (inr out) size at small =
      let me = is_holder s id base seen at out in
      let w = holder base (list x) in (
        w,
        keeps,
        tt,
        inr record {
          seat = id;
          held = w;
          words = ap (λ ws. slice_set ws 1 (length (list x))) out.words;
          home = out.home;
          at = set_here s.views id w (below_length s.views id _ at);
          holds = refl;
          grown = grown;
          waits = others_wait base s.views id w (λ i u e ne. subst (λ (h : Knowledge E). Waits h.base u) me.1 (out.waits i u e (λ p. ne (p ∙ me.0))));
        },
        refl,
      )

  -- the value goes home, and the turn is free
  pub gives_turn : (slots id : ℕ) (base : List E) (x : T) → IsPrefix base (list x)
      → Allows (IsKept list) slots id (holder base (list x), (0, Home x) ∷ []) 0 (λ _. 0)
      (λ _. Gave list (step slots 0 0 0 none) (holder base (list x), (0, Home x) ∷ []) 0)
  gives_turn slots id base x grown s (inl free) size at small = absurd (true≢false (free.waits id _ at).idle)
  gives_turn slots id base x grown s (inr out) size at small =
      let me = is_holder s id base (list x) at out in
      let all = list x in (
        knows all,
        gives,
        tt,
        inl record {
          value = x;
          words = ap (λ ws. slice_set ws 0 0) out.words ∙ ap (λ (h : Knowledge E). 0 ∷ length h.seen ∷ []) me.1;
          home = ap (λ hs. slice_set hs 0 (some (Home x))) out.home;
          waits = λ i u e. ⊎_elim
              (λ t. subst (Waits all) t.1 (knows_waits all all (begins_itself all)))
              (λ t. waits_longer base all u grown (subst (λ (h : Knowledge E). Waits h.base u) me.1 (out.waits i u t.1 (λ p. t.0 (p ∙ me.0)))))
              (at_set s.views id i (knows all) u e);
        },
        refl,
      )

  -- a seat that waits is split into two that wait
  pub splits_seat : (id : ℕ) (seen : List E) → Splits (IsKept list) id (knows seen) (knows seen) (knows seen)
  splits_seat id seen s (inl free) at =
      let same : slice_set s.views id (knows seen) ≡ s.views = set_again s.views id (knows seen) at in
      inl record {
        value = free.value;
        words = free.words;
        home = free.home;
        waits = λ i u e. ⊎_elim
            (λ was. free.waits i u (subst (λ vs. get_elem? vs i ≡ some u) same was))
            (λ is. subst (Waits (list free.value)) is (free.waits id (knows seen) at))
            (at_snoc (slice_set s.views id (knows seen)) (knows seen) u i e);
      }
  splits_seat id seen s (inr out) at =
      let same : slice_set s.views id (knows seen) ≡ s.views = set_again s.views id (knows seen) at in
      inr record {
        seat = out.seat;
        held = out.held;
        words = out.words;
        home = out.home;
        at = at_longer (slice_set s.views id (knows seen)) (knows seen ∷ []) out.seat out.held (subst (λ vs. get_elem? vs out.seat ≡ some out.held) (sym same) out.at);
        holds = out.holds;
        grown = out.grown;
        waits = λ i u e ne. ⊎_elim
            (λ was. out.waits i u (subst (λ vs. get_elem? vs i ≡ some u) same was) ne)
            (λ is. subst (Waits out.held.base) is (out.waits id (knows seen) at (not_holder s id (knows seen) refl at out)))
            (at_snoc (slice_set s.views id (knows seen)) (knows seen) u i e);
      }

  -- the spent seat waits, and the kept one knows both lists
  pub joins_seats : (id other : ℕ) (xs ys : List E) → Joins (IsKept list) id (knows xs) other (knows ys) (joined (knows xs) (knows ys)) (knows [])
  joins_seats id other xs ys s kept at ne there = go kept
    where
      both : Knowledge E
      both = joined (knows xs) (knows ys)

      was_there : get_elem? s.views other ≡ some (knows ys)
      was_there = ⊎_elim (λ t. absurd (ne t.0)) (λ t. t.1) (at_set s.views id other both (knows ys) there)

      -- all seats that waited before wait afterwards
      waits_after : (all : List E) (i : ℕ) (u : Knowledge E) → Waits all (knows xs) → Waits all (knows ys)
          → (get_elem? s.views i ≡ some u → Waits all u)
          → get_elem? (slice_set (slice_set s.views id both) other (knows [])) i ≡ some u → Waits all u
      waits_after all i u mine theirs before e =
          ⊎_elim
          (λ t. subst (Waits all) t.1 (knows_waits [] all (nil_begins all)))
          (λ t. ⊎_elim
          (λ q. subst (Waits all) q.1 (both_wait all xs ys mine theirs))
          (λ q. before q.1)
          (at_set s.views id i both u t.1))
          (at_set (slice_set s.views id both) other i (knows []) u e)

      go : IsKept list s → IsKept list record { words = s.words; homes = s.homes; views = slice_set (slice_set s.views id both) other (knows []) }
      go (inl free) = inl record {
        value = free.value;
        words = free.words;
        home = free.home;
        waits = λ i u e. waits_after (list free.value) i u (free.waits id (knows xs) at) (free.waits other (knows ys) was_there) (free.waits i u) e;
      }
      go (inr out) =
          let not_id = not_holder s id (knows xs) refl at out in
          let not_other = not_holder s other (knows ys) refl was_there out in
          inr record {
            seat = out.seat;
            held = out.held;
            words = out.words;
            home = out.home;
            at = set_else (slice_set s.views id both) other out.seat (knows []) (λ e. not_other (sym e)) ∙ (set_else s.views id out.seat both (λ e. not_id (sym e)) ∙ out.at);
            holds = out.holds;
            grown = out.grown;
            waits = λ i u e na. waits_after out.held.base i u (out.waits id (knows xs) at not_id) (out.waits other (knows ys) was_there not_other) (λ b. out.waits i u b na) e;
          }

  -- a load tells what was joined
  pub learns_both : (slots id : ℕ) (xs ys : List E)
      → Allows (IsKept list) slots id (joined (knows xs) (knows ys), []) 0 (λ n. n) (Learned list (step slots 0 0 0 none) (joined (knows xs) (knows ys), []))
  learns_both slots id xs ys s (inl free) size at small =
      let both = joined (knows xs) (knows ys) in
      let all = list free.value in
      let mine = free.waits id both at in
      let told = both_begin all xs ys mine.first mine.second in (
        knows both.seen,
        keeps,
        tt,
        inl record {
          value = free.value;
          words = ap (λ ws. slice_set ws 0 (slice_index ws 0)) free.words;
          home = free.home;
          waits = λ i u e. ⊎_elim
              (λ t. subst (Waits all) t.1 (knows_waits both.seen all mine.seen))
              (λ t. free.waits i u t.1)
              (at_set s.views id i (knows both.seen) u e);
        },
        (refl, told.0, told.1),
      )
  learns_both slots id xs ys s (inr out) size at small =
      let both = joined (knows xs) (knows ys) in
      let all = out.held.base in
      let not_id = not_holder s id both refl at out in
      let mine = out.waits id both at not_id in
      let told = both_begin all xs ys mine.first mine.second in (
        knows both.seen,
        keeps,
        tt,
        inr record {
          seat = out.seat;
          held = out.held;
          words = ap (λ ws. slice_set ws 0 (slice_index ws 0)) out.words;
          home = out.home;
          at = set_else s.views id out.seat (knows both.seen) (λ e. not_id (sym e)) ∙ out.at;
          holds = out.holds;
          grown = out.grown;
          waits = λ i u e na. ⊎_elim
              (λ t. subst (Waits all) t.1 (knows_waits both.seen all mine.seen))
              (λ t. out.waits i u t.1 na)
              (at_set s.views id i (knows both.seen) u e);
        },
        (refl, told.0, told.1),
      )

  -- the lock at the start
  pub starts_free : (x : T) → IsKept list (opening (0 ∷ length (list x) ∷ []) (Home x ∷ []) (knows (list x)))
  starts_free x = inl record { value = x; words = refl; home = refl; waits = only }
    where
      only : (i : ℕ) (u : Knowledge E) → get_elem? (knows (list x) ∷ []) i ≡ some u → Waits (list x) u
      only zero u e = subst (Waits (list x)) (some-injective _ _ e) (knows_waits (list x) (list x) (begins_itself (list x)))
      only (suc i) u e = absurd (some-ne-none u (sym e))
