-- What a way asks of the commands that are pending before a step, by what it asks of those behind it.
use Rattle.std.proofs.Common.{◌≡◌, ◌<◌, ◌≤◌, ◌+◌, ◌-◌, ℕ, zero, suc, List, [], ◌∷◌, ◌++◌, length, get_or, map, take, Contains, Some, refl, ap, sym, ◌∙◌, ◌⊎◌, inl, inr, arith, subst}
use Rattle.std.specs.List.{slice_get, remove}
use Rattle.std.proofs.Math.Seq.{take-length}
use Rattle.std.proofs.lemmas.List.{take_more, same_from_push, map-append}
use Rattle.std.proofs.lemmas.Option.{slice_get_within, get_or_from_slice_get, slice_get-get_or}
use Rattle.std.proofs.lemmas.List.Elements.{Contains-append_right}
use Rattle.xfs_conversation.specs.Pending.{Pending}
use Rattle.xfs_audit.specs.Conversing.{IsWithout}
use Rattle.std.proofs.lemmas.Bool.{cases_Bool}
use Rattle.xfs_audit.specs.Ways.{is_same, times, Stay, none, Splits, HasId, HasIdOf, CanStay}
use Rattle.xfs_audit.proofs.Counting.{same-is, times-append, times-one, times-self, times-none, contains-times, times-contains, contains-split, removed, stay-push, stay-past, stay-last, stay-nothing, stay-all, stay-times, stay-contains, stay-with, stay-without, stay-whole}

abbrev id_of : Pending → ℕ
id_of p = p.id

take-one : (ids : List ℕ) (n id : ℕ) → slice_get ids n ≡ Some id → take (n + 1) ids ≡ take n ids ++ id ∷ []
take-one ids n id e = take_more ids n id (slice_get_within ids n id e) ∙ ap (λ i. take n ids ++ i ∷ []) (get_or_from_slice_get ids n id id e)

-- a command that is accepted is the last that stays
pub accepted-stays : (ids : List ℕ) (count : ℕ) (due pending : List Pending) (p : Pending) → CanStay ids count p.id → Splits ids (count - 1) due pending → Splits ids count due (pending ++ p ∷ [])
accepted-stays ids count due pending p can s =
    let within = slice_get_within ids can.last p.id can.its in
    let less : count - 1 ≡ can.last = let e = can.counted in omega arith in
    record {
      bound = let e = can.counted in omega arith;
      staying = s.staying ++ p ∷ [];
      order = stay-push p s.order;
      by_id = map-append id_of s.staying (p ∷ []) ∙ ap (λ l. l ++ p.id ∷ []) (s.by_id ∙ ap (λ n. take n ids) less) ∙ sym (take-one ids can.last p.id can.its) ∙ ap (λ n. take n ids) (sym can.counted);
      others = λ q. let a = times-append q pending (p ∷ []) in let b = times-append q s.staying (p ∷ []) in let c = s.others q in omega arith;
    }

-- or it is due
pub accepted-due : (ids : List ℕ) (count : ℕ) (due pending : List Pending) (p : Pending) (i : ℕ) → slice_get due i ≡ Some p → Splits ids count (remove due i) pending → Splits ids count due (pending ++ p ∷ [])
accepted-due ids count due pending p i there s =
    let r = removed due i p there in
    record {
      bound = s.bound;
      staying = s.staying;
      order = stay-past p s.order;
      by_id = s.by_id;
      others = λ q.
          let a = times-append q pending (p ∷ []) in
          let b : times q due ≡ times q (r.0 ++ r.1) + times q (p ∷ []) = ap (times q) r.2 ∙ times-one q p r.0 r.1 in
          let c : times q pending ≡ times q s.staying + times q (r.0 ++ r.1) = s.others q ∙ ap (λ l. times q s.staying + times q l) r.3 in
          omega arith;
    }

stays-last : (ids : List ℕ) (count : ℕ) (due pending front staying : List Pending) (p : Pending) → count ≤ length ids → map id_of staying ≡ take count ids
    → ((q : Pending) → times q (pending ++ p ∷ []) ≡ times q staying + times q due) → staying ≡ front ++ p ∷ [] → Stay front pending → CanStay ids count p.id × Splits ids (count - 1) due pending
stays-last ids zero due pending front staying p bound by_id others is order =
    let e : map id_of front ++ p.id ∷ [] ≡ [] = sym (map-append id_of front (p ∷ [])) ∙ ap (map id_of) (sym is) ∙ by_id in
    absurd (not_nil (map id_of front) e)
  where
    not_nil : (l : List ℕ) → l ++ p.id ∷ [] ≡ [] → ⊥
    not_nil [] e = cc
    not_nil (x ∷ l) e = cc
stays-last ids (suc n) due pending front staying p bound by_id others is order =
    let one : suc n ≡ n + 1 = omega arith in
    let less : n ≡ suc n - 1 = omega arith in
    let e : map id_of front ++ p.id ∷ [] ≡ take n ids ++ get_or ids n p.id ∷ [] =
    sym (map-append id_of front (p ∷ [])) ∙ ap (map id_of) (sym is) ∙ by_id ∙ ap (λ k. take k ids) one ∙ take_more ids n p.id (omega arith) in
    let both = same_from_push (map id_of front) (take n ids) p.id (get_or ids n p.id) e in (
      record { last = n; counted = omega arith; its = slice_get-get_or ids n p.id (omega arith) ∙ ap Some (sym both.1) },
      record {
        bound = omega arith;
        staying = front;
        order = order;
        by_id = both.0 ∙ ap (λ k. take k ids) less;
        others = λ q. let a = times-append q pending (p ∷ []) in let b : times q staying ≡ times q front + times q (p ∷ []) = ap (times q) is ∙ times-append q front (p ∷ []) in let c = others q in omega arith;
      },
    )

-- a command that is counted has a place, and one that has a place is counted
pub place-there : (p : Pending) (due : List Pending) → 0 < times p due → (i : ℕ) × (slice_get due i ≡ Some p)
place-there p [] h = absurd (omega arith)
place-there p (q ∷ due) h = elim (cases_Bool (is_same p q)) [
  | inl y ↦ (zero, ap Some (sym (same-is p q y)))
  | inr n ↦
      let more : 0 < times p due = let e = rw n at h in omega arith in
      let r = place-there p due more in
      (suc r.0, r.1)
]

pub place-counts : (p : Pending) (due : List Pending) (i : ℕ) → slice_get due i ≡ Some p → 0 < times p due
place-counts p due i there =
    let r = removed due i p there in
    let a : times p due ≡ times p (r.0 ++ r.1) + times p (p ∷ []) = ap (times p) r.2 ∙ times-one p p r.0 r.1 in
    let b = times-self p in
    omega arith

-- any two places of commands like this serve
pub place-any : (ids : List ℕ) (count : ℕ) (due pending : List Pending) (p : Pending) (i j : ℕ) → slice_get due i ≡ Some p → slice_get due j ≡ Some p
    → Splits ids count (remove due i) pending → Splits ids count (remove due j) pending
place-any ids count due pending p i j at_i at_j s =
    let r = removed due i p at_i in
    let t = removed due j p at_j in
    record {
      bound = s.bound;
      staying = s.staying;
      order = s.order;
      by_id = s.by_id;
      others = λ q.
          let a : times q due ≡ times q (r.0 ++ r.1) + times q (p ∷ []) = ap (times q) r.2 ∙ times-one q p r.0 r.1 in
          let b : times q due ≡ times q (t.0 ++ t.1) + times q (p ∷ []) = ap (times q) t.2 ∙ times-one q p t.0 t.1 in
          let c : times q (remove due i) ≡ times q (r.0 ++ r.1) = ap (times q) r.3 in
          let d : times q (remove due j) ≡ times q (t.0 ++ t.1) = ap (times q) t.3 in
          let e = s.others q in
          omega arith;
    }

-- the command that was accepted last stays, or it is due
pub accepted-back : (ids : List ℕ) (count : ℕ) (due pending : List Pending) (p : Pending) → Splits ids count due (pending ++ p ∷ [])
    → (CanStay ids count p.id × Splits ids (count - 1) due pending) ⊎ ((i : ℕ) × (slice_get due i ≡ Some p) × Splits ids count (remove due i) pending)
accepted-back ids count due pending p s = elim (stay-last s.order pending p refl) [
  | inl order ↦ let r = place-there p due (some_due order) in inr (r.0, r.1, goes order r.0 r.1)
  | inr r ↦ inl (stays-last ids count due pending r.0 s.staying p s.bound s.by_id s.others r.1 r.2)
]
  where
    some_due : Stay s.staying pending → 0 < times p due
    some_due order = let a = stay-times p order in let b = times-append p pending (p ∷ []) in let c = times-self p in let d = s.others p in omega arith

    goes : Stay s.staying pending → (i : ℕ) → slice_get due i ≡ Some p → Splits ids count (remove due i) pending
    goes order i there =
        let r = removed due i p there in
        record {
          bound = s.bound;
          staying = s.staying;
          order = order;
          by_id = s.by_id;
          others = λ q.
              let a = times-append q pending (p ∷ []) in
              let b : times q due ≡ times q (r.0 ++ r.1) + times q (p ∷ []) = ap (times q) r.2 ∙ times-one q p r.0 r.1 in
              let c = s.others q in
              let d : times q (remove due i) ≡ times q (r.0 ++ r.1) = ap (times q) r.3 in
              omega arith;
        }

-- a command that is completed was due
pub completed-there : (ids : List ℕ) (count : ℕ) (due pending after : List Pending) (p : Pending) → IsWithout p pending after → Splits ids count due after → Splits ids count (due ++ p ∷ []) pending
completed-there ids count due pending after p out s = record {
  bound = s.bound;
  staying = s.staying;
  order = rw out.was (stay-with s.order out.before out.later p out.is);
  by_id = s.by_id;
  others = λ q.
      let a : times q pending ≡ times q (out.before ++ out.later) + times q (p ∷ []) = ap (times q) out.was ∙ times-one q p out.before out.later in
      let b : times q after ≡ times q (out.before ++ out.later) = ap (times q) out.is in
      let c = times-append q due (p ∷ []) in
      let d = s.others q in
      omega arith;
}

pub completed-back : (ids : List ℕ) (count : ℕ) (due pending : List Pending) (p : Pending) → Splits ids count (due ++ p ∷ []) pending → (after : List Pending) × IsWithout p pending after × Splits ids count due after
completed-back ids count due pending p s =
    let more : times p s.staying < times p pending = let a = s.others p in let b = times-append p due (p ∷ []) in let c = times-self p in omega arith in
    let r = stay-without p s.order more in (
      r.0 ++ r.1,
      record { before = r.0; later = r.1; was = r.2; is = refl },
      record {
        bound = s.bound;
        staying = s.staying;
        order = r.3;
        by_id = s.by_id;
        others = λ q.
            let a : times q pending ≡ times q (r.0 ++ r.1) + times q (p ∷ []) = ap (times q) r.2 ∙ times-one q p r.0 r.1 in
            let b = times-append q due (p ∷ []) in
            let c = s.others q in
            omega arith;
      },
    )

-- behind the last frame
pub end-there : (ids : List ℕ) (pending : List Pending) → map id_of pending ≡ ids → Splits ids (length ids) [] pending
end-there ids pending is = record {
  bound = omega arith;
  staying = pending;
  order = stay-all pending;
  by_id = is ∙ sym (take-length ids);
  others = λ q. omega arith;
}

pub end-back : (ids : List ℕ) (pending : List Pending) → Splits ids (length ids) [] pending → map id_of pending ≡ ids
end-back ids pending s =
    let same = stay-whole s.order (λ q. let a = s.others q in omega arith) in
    ap (map id_of) (sym same) ∙ s.by_id ∙ take-length ids

-- where no command is pending
pub nothing-there : (ids : List ℕ) → Splits ids 0 [] []
nothing-there ids = record { bound = omega arith; staying = []; order = none; by_id = refl; others = λ q. refl }

pub nothing-back : (ids : List ℕ) (count : ℕ) (due : List Pending) → Splits ids count due [] → (count ≡ 0) × (due ≡ [])
nothing-back ids count due s =
    let empty = stay-nothing s.staying s.order in
    (no_count ids count s.bound (sym s.by_id ∙ ap (map id_of) empty), times-none due (λ q. let a = s.others q in omega arith))
  where
    no_count : (l : List ℕ) (n : ℕ) → n ≤ length l → take n l ≡ [] → n ≡ 0
    no_count l zero within e = refl
    no_count [] (suc n) within e = absurd (omega arith)
    no_count (x ∷ l) (suc n) within e = absurd cc

map-there : (id : ℕ) (xs : List Pending) (k : ℕ) → k < length (map id_of xs) → get_or (map id_of xs) k id ≡ id → (p : Pending) × Contains xs p × (p.id ≡ id)
map-there id [] k within is = absurd (omega arith)
map-there id (x ∷ xs) zero within is = (x, (zero, omega arith, refl), is)
map-there id (x ∷ xs) (suc k) within is =
    let r = map-there id xs k (omega arith) is in
    (r.0, Contains-append_right (x ∷ []) xs r.0 r.1, r.2)

map-contains : (xs : List Pending) (p : Pending) → Contains xs p → Contains (map id_of xs) p.id
map-contains xs p there =
    let r = contains-split xs p there in
    let is : map id_of xs ≡ map id_of r.0 ++ p.id ∷ map id_of r.1 = ap (map id_of) r.2 ∙ map-append id_of r.0 (p ∷ r.1) in
    rw is (Contains-append_right (map id_of r.0) (p.id ∷ map id_of r.1) p.id (zero, omega arith, refl))

-- the id of a pending command
pub told-there : (ids : List ℕ) (count : ℕ) (due pending : List Pending) (id : ℕ) → Splits ids count due pending → HasIdOf id due (take count ids) → HasId id pending
told-there ids count due pending id s (inl h) = record {
  command = h.command;
  there = let a = contains-times h.command due h.there in let b = s.others h.command in times-contains h.command pending (omega arith);
  its = h.its;
}
told-there ids count due pending id s (inr h) =
    let c : Contains (map id_of s.staying) id = subst (λ l. Contains l id) (sym s.by_id) h in
    let r = map-there id s.staying c.0 c.1 c.2 in
    record { command = r.0; there = stay-contains r.0 s.order r.1; its = r.2 }

pub told-back : (ids : List ℕ) (count : ℕ) (due pending : List Pending) (id : ℕ) → Splits ids count due pending → HasId id pending → HasIdOf id due (take count ids)
told-back ids count due pending id s h = by_count (times h.command due) refl
  where
    by_count : (n : ℕ) → times h.command due ≡ n → HasIdOf id due (take count ids)
    by_count zero e =
        let a = contains-times h.command pending h.there in
        let b = s.others h.command in
        let c = map-contains s.staying h.command (times-contains h.command s.staying (omega arith)) in
        inr (subst (λ l. Contains l id) s.by_id (subst (λ i. Contains (map id_of s.staying) i) h.its c))
    by_count (suc n) e = inl record { command = h.command; there = times-contains h.command due (omega arith); its = h.its }
