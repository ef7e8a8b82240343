-- Turns and rounds of a machine one behind the other, and the events that they are.
use Rattle.std.proofs.Common.{◌≡◌, ◌≢◌, ℕ, zero, suc, ◌+◌, ◌-◌, ◌<◌, ◌≤◌, ◌⊎◌, inl, inr, List, [], ◌∷◌, ◌++◌, map, refl, ap, sym, subst, ◌∙◌, append_assoc, arith, Result, Ok, Err, OnErr}
use Rattle.std.proofs.lemmas.List.{append-nil}
use Rattle.xfs_base.specs.declared.moment.Moment.{Moment}
use Rattle.xfs_base.specs.declared.moment.Service.{Service}
use Rattle.xfs_base.specs.declared.moment.Service.TheVariants.{Cash, Card, Keys}
use Rattle.xfs_model.specs.Events.{Event, Answer, work, did, idle}
use Rattle.xfs_model.specs.State.{State}
use Rattle.xfs_model.specs.Step.{Step}
use Rattle.xfs_load.specs.Rests.{Rests, ends, goes, Turns, over, enough, idled, worked, round}
use Rattle.xfs_load.specs.Steps.{HappensInPart, Steps, rounds}

-- what want of memory leaves
pub on-err : {T E : Type 0} (result : Result T E) (P : Type 0) → P → OnErr result P
on-err (Ok x) P p = tt
on-err (Err e) P p = p

pub events-append : (es fs : List (Event × Answer)) → map (λ e. e.0) (es ++ fs) ≡ map (λ e. e.0) es ++ map (λ e. e.0) fs
events-append [] fs = refl
events-append (e ∷ es) fs = ap (λ l. e.0 ∷ l) (events-append es fs)

-- where nothing more may be done, nothing is
turns-none : (now : Moment) (ys : List Service) (most m : ℕ) (s new : State) → most ≡ 0 → Turns now ys most s m new → (m ≡ 0) × (new ≡ s)
turns-none now ys most m s new none over = (refl, refl)
turns-none now ys most m s new none enough = (refl, refl)
turns-none now ys most m s new none (idled step rest) = absurd (let bad : ⊥ = omega (arith, none) in bad)
turns-none now ys most m s new none (worked step rest) = absurd (let bad : ⊥ = omega (arith, none) in bad)

-- no more is done than may be
pub turns-le : (now : Moment) (xs : List Service) (most n : ℕ) (s new : State) → Turns now xs most s n new → n ≤ most
turns-le now xs most n s new over = omega arith
turns-le now xs most n s new enough = omega arith
turns-le now xs most n s new (idled {most = most'} {n = n'} {between = between} step rest) = turns-le now _ (suc most') n' between new rest
turns-le now xs most n s new (worked {most = most'} {n = n'} {between = between} step rest) = let less = turns-le now _ most' n' between new rest in omega arith

turns-with : (now : Moment) (ys : List Service) (most other m : ℕ) (s new : State) → most ≡ other → Turns now ys most s m new → Turns now ys other s m new
turns-with now ys most other m s new same t = (let P : ℕ → Type 0 = λ k. Turns now ys k s m new in subst P same t)

-- services are turned, and then others
pub turns-then : (now : Moment) (xs ys : List Service) (most n m : ℕ) (s between new : State) → Turns now xs most s n between → Turns now ys (most - n) between m new → Turns now (xs ++ ys) most s (n + m) new
turns-then now xs ys most n m s between new over later =
    let P : ℕ → Type 0 = λ k. Turns now ys most s k new in
    let none : m ≡ 0 + m = omega arith in
    subst P none (turns-with now ys _ _ m s new (omega arith) later)
turns-then now xs ys most n m s between new (enough {services = services}) later =
    let none = turns-none now ys _ m s new (omega arith) later in
    let P : ℕ → Type 0 = λ k. Turns now (services ++ ys) 0 s k new in
    let Q : State → Type 0 = λ t. Turns now (services ++ ys) 0 s 0 t in
    subst P (omega (arith, none.0)) (subst Q (sym none.1) enough)
turns-then now xs ys most n m s between new (idled {services = services} {most = most'} {n = n'} {between = mid} step rest) later =
    idled step (turns-then now services ys (suc most') n' m mid between new rest later)
turns-then now xs ys most n m s between new (worked {at = at} {services = services} {most = most'} {n = n'} {between = mid} step rest) later =
    let P : ℕ → Type 0 = λ k. Turns now (at ∷ (services ++ ys)) (suc most') s k new in
    let more : suc (n' + m) ≡ suc n' + m = omega arith in
    subst P more (worked step (turns-then now services ys most' n' m mid between new rest (turns-with now ys _ _ m between new (omega arith) later)))

-- events happen, and then others
pub steps-then : (es fs : List (Event × Answer)) (s between new : State) → Steps s es between → Steps between fs new → Steps s (es ++ fs) new
steps-then [] fs s between new first later = (let P : State → Type 0 = λ t. Steps t fs new in subst P first later)
steps-then (e ∷ es) fs s between new first later = record {
  between = first.between;
  step = first.step;
  rest = steps-then es fs first.between between new first.rest later;
}

-- an event more behind those that happened
pub steps-one : (event : Event) (answer : Answer) (s new : State) → Step s event answer new → Steps s ((event, answer) ∷ []) new
steps-one event answer s new step = record { between = new; step = step; rest = refl }

-- an event that happened, behind which nothing is left
pub part-one : (event : Event) (answer : Answer) (s new : State) → Step s event answer new → HappensInPart (event ∷ []) s new
part-one event answer s new step = record { happened = (event, answer) ∷ []; left = []; are = refl; steps = steps-one event answer s new step }

-- none of them happened
pub part-none : (events : List Event) (s : State) → HappensInPart events s s
part-none events s = record { happened = []; left = events; are = refl; steps = refl }

-- more are left
pub part-more : (events more : List Event) (s new : State) → HappensInPart events s new → HappensInPart (events ++ more) s new
part-more events more s new p = record {
  happened = p.happened;
  left = p.left ++ more;
  are = ap (λ es. es ++ more) p.are ∙ append_assoc (map (λ e. e.0) p.happened) p.left more;
  steps = p.steps;
}

-- all of them happened, and then the first of others
pub part-then : (first events : List Event) (s between new : State) (p : HappensInPart first s between) → p.left ≡ [] → HappensInPart events between new → HappensInPart (first ++ events) s new
part-then first events s between new p whole q =
    let all : first ≡ map (λ e. e.0) p.happened = p.are ∙ (ap (λ l. map (λ e. e.0) p.happened ++ l) whole ∙ append-nil (map (λ e. e.0) p.happened)) in
    record {
      happened = p.happened ++ q.happened;
      left = q.left;
      are = ap (λ es. es ++ events) all
          ∙ (ap (λ es. map (λ e. e.0) p.happened ++ es) q.are
          ∙ (sym (append_assoc (map (λ e. e.0) p.happened) (map (λ e. e.0) q.happened) q.left)
          ∙ ap (λ es. es ++ q.left) (sym (events-append p.happened q.happened))));
      steps = steps-then p.happened q.happened s between new p.steps q.steps;
    }

-- services were turned: the first of their events happened, and all of them unless as many as may did something
record IsTurned (now : Moment) (services : List Service) (most n : ℕ) (s end : State) : Type 0 where
  part : HappensInPart (map (λ at. work at now) services) s end
  whole : (part.left ≡ []) ⊎ (n ≡ most)

is_turned : (now : Moment) (xs : List Service) (most n : ℕ) (s new : State) → Turns now xs most s n new → IsTurned now xs most n s new
is_turned now xs most n s new over = record { part = record { happened = []; left = []; are = refl; steps = refl }; whole = inl refl }
is_turned now xs most n s new (enough {services = services}) = record { part = part-none (map (λ at. work at now) services) s; whole = inr refl }
is_turned now xs most n s new (idled {at = at} {services = services} {most = most'} {n = n'} {between = mid} step rest) =
    let r = is_turned now services (suc most') n' mid new rest in
    record {
      part = record {
        happened = (work at now, idle) ∷ r.part.happened;
        left = r.part.left;
        are = ap (λ es. work at now ∷ es) r.part.are;
        steps = record { between = mid; step = step; rest = r.part.steps };
      };
      whole = r.whole;
    }
is_turned now xs most n s new (worked {at = at} {services = services} {most = most'} {n = n'} {between = mid} step rest) =
    let r = is_turned now services most' n' mid new rest in
    record {
      part = record {
        happened = (work at now, did) ∷ r.part.happened;
        left = r.part.left;
        are = ap (λ es. work at now ∷ es) r.part.are;
        steps = record { between = mid; step = step; rest = r.part.steps };
      };
      whole = elim r.whole [ inl all ↦ inl all | inr full ↦ inr (ap suc full) ];
    }

-- so the turns of services are the first of their events
pub turns-part : (now : Moment) (xs : List Service) (most n : ℕ) (s new : State) → Turns now xs most s n new → HappensInPart (map (λ at. work at now) xs) s new
turns-part now xs most n s new t = (is_turned now xs most n s new t).part

-- and where more may be done, all of them
pub turns-part-then : (now : Moment) (xs : List Service) (events : List Event) (most n : ℕ) (s between new : State) → Turns now xs most s n between → n < most → HappensInPart events between new
    → HappensInPart (map (λ at. work at now) xs ++ events) s new
turns-part-then now xs events most n s between new t less q =
    let r = is_turned now xs most n s between t in
    elim r.whole [
      | inl all ↦ part-then (map (λ at. work at now) xs) events s between new r.part all q
      | inr full ↦ absurd (let bad : ⊥ = omega (arith, full, less) in bad)
    ]

rests-none : (now : Moment) (most n : ℕ) (s new : State) → most ≡ 0 → Rests now most s n new → new ≡ s
rests-none now most n s new none (ends t) = (turns-none now round _ 0 s new none t).1
rests-none now most n s new none (goes {n = n'} {between = mid} t rest) = (let k = turns-none now round _ (suc n') s mid none t in absurd (let bad : ⊥ = omega (arith, k.0) in bad))

abbrev one-round : (now : Moment) (s new : State) → HappensInPart (map (λ at. work at now) round) s new → HappensInPart (rounds 1 now) s new
one-round now s new p = p

-- the events of a rest are the first of so many rounds
pub rests-part : (now : Moment) (most n : ℕ) (s new : State) → Rests now most s n new → (count : ℕ) × HappensInPart (rounds count now) s new
rests-part now most n s new (ends {most = most'} t) = (1, one-round now s new (turns-part now round most' 0 s new t))
rests-part now most n s new (goes {most = most'} {n = n'} {m = m} {between = mid} t rest) =
    let r = is_turned now round most' (suc n') s mid t in
    let q = rests-part now (most' - suc n') m mid new rest in
    elim r.whole [
      | inl all ↦ (suc q.0, part-then (map (λ at. work at now) round) (rounds q.0 now) s mid new r.part all q.1)
      | inr full ↦ (
        1,
        (let P : State → Type 0 = λ t. HappensInPart (rounds 1 now) s t in
            subst P (sym (rests-none now _ m mid new (omega (arith, full)) rest)) (one-round now s mid r.part)),
      )
    ]

rounds-more : (n : ℕ) (now : Moment) → rounds (suc n) now ≡ rounds n now ++ rounds 1 now
rounds-more zero now = refl
rounds-more (suc n) now = ap (λ es. map (λ at. work at now) round ++ es) (rounds-more n now) ∙ sym (append_assoc (map (λ at. work at now) round) (rounds n now) (rounds 1 now))

-- so many rounds happened
pub record IsRound (now : Moment) (s end : State) : Type 0 where
  pub count : ℕ
  pub happened : List (Event × Answer)
  pub are : rounds count now ≡ map (λ e. e.0) happened
  pub steps : Steps s happened end

-- and then the first events of one more
pub round-part : (now : Moment) (s between new : State) → IsRound now s between → HappensInPart (rounds 1 now) between new → (n : ℕ) × HappensInPart (rounds n now) s new
round-part now s between new r p =
    let first : HappensInPart (rounds r.count now) s between = record { happened = r.happened; left = []; are = r.are ∙ sym (append-nil (map (λ e. e.0) r.happened)); steps = r.steps } in
    let P : List Event → Type 0 = λ es. HappensInPart es s new in
    (suc r.count, subst P (sym (rounds-more r.count now)) (part-then (rounds r.count now) (rounds 1 now) s between new first refl p))

-- or all of them
round-whole : (now : Moment) (s between new : State) → IsRound now s between → (p : HappensInPart (rounds 1 now) between new) → p.left ≡ [] → IsRound now s new
round-whole now s between new r p whole = record {
  count = suc r.count;
  happened = r.happened ++ p.happened;
  are = rounds-more r.count now
      ∙ (ap (λ es. es ++ rounds 1 now) r.are
      ∙ (ap (λ es. map (λ e. e.0) r.happened ++ es) (p.are ∙ (ap (λ l. map (λ e. e.0) p.happened ++ l) whole ∙ append-nil (map (λ e. e.0) p.happened)))
      ∙ sym (events-append r.happened p.happened)));
  steps = steps-then r.happened p.happened s between new r.steps p.steps;
}

-- behind rounds in which so many did something come those of any rest
pub record IsUnderway (now : Moment) (most n : ℕ) (s end : State) : Type 0 where
  pub least : n ≤ most
  pub goes_on : (m : ℕ) (new : State) → Rests now (most - n) end m new → Rests now most s (n + m) new
  pub rounds_are : n < most → IsRound now s end

pub underway-none : (now : Moment) (most : ℕ) (s : State) → IsUnderway now most 0 s s
underway-none now most s = record {
  least = omega arith;
  goes_on = λ m new rest. (let P : ℕ → Type 0 = λ k. Rests now most s k new in
      let Q : ℕ → Type 0 = λ k. Rests now k s m new in
      let all : most - 0 ≡ most = omega arith in
      let none : m ≡ 0 + m = omega arith in
      subst P none (subst Q all rest));
  rounds_are = λ less. record { count = 0; happened = []; are = refl; steps = refl };
}

-- a round more
pub underway-more : (now : Moment) (most n k : ℕ) (s between new : State) → IsUnderway now most n s between → n < most → Turns now round (most - n) between k new → k ≢ 0 → IsUnderway now most (n + k) s new
underway-more now most n zero s between new u less t some = absurd (some refl)
underway-more now most n (suc k) s between new u less t some =
    let fits = turns-le now round (most - n) (suc k) between new t in
    let j = is_turned now round (most - n) (suc k) between new t in
    record {
      least = omega (arith, fits, less);
      goes_on = λ m end rest. (let P : ℕ → Type 0 = λ a. Rests now most s a end in
          let Q : ℕ → Type 0 = λ a. Rests now a new m end in
          let same : n + (suc k + m) ≡ n + suc k + m = omega arith in
          let left : most - (n + suc k) ≡ most - n - suc k = omega arith in
          subst P same (u.goes_on (suc k + m) end (goes t (subst Q left rest))));
      rounds_are = λ more. (let all : j.part.left ≡ [] = elim j.whole [ inl all ↦ all | inr full ↦ absurd (let bad : ⊥ = omega (arith, full, more) in bad) ] in
          round-whole now s between new (u.rounds_are less) (one-round now between new j.part) all);
    }

-- a round in which no service did anything ends it, and so does it when as many as may did something
pub underway-idle : (now : Moment) (most n : ℕ) (s between new : State) → IsUnderway now most n s between → Turns now round (most - n) between 0 new → Rests now most s n new
underway-idle now most n s between new u t = (let P : ℕ → Type 0 = λ a. Rests now most s a new in let same : n + 0 ≡ n = omega arith in subst P same (u.goes_on 0 new (ends t)))

pub underway-full : (now : Moment) (most n : ℕ) (s end : State) → IsUnderway now most n s end → most ≤ n → Rests now most s n end
underway-full now most n s end u full =
    let P : ℕ → Type 0 = λ a. Turns now round a end 0 end in
    let none : 0 ≡ most - n = omega (arith, full) in
    underway-idle now most n s end end u (subst P none enough)

-- one service is turned
pub turn-none : (now : Moment) (services : List Service) (most : ℕ) (s : State) → most ≡ 0 → Turns now services most s 0 s
turn-none now services most s none = (let P : ℕ → Type 0 = λ k. Turns now services k s 0 s in subst P (sym none) enough)

pub turn-did : (now : Moment) (at : Service) (most : ℕ) (s new : State) → most ≢ 0 → Step s (work at now) did new → Turns now (at ∷ []) most s 1 new
turn-did now at zero s new some step = absurd (some refl)
turn-did now at (suc most) s new some step = worked step over

pub turn-idle : (now : Moment) (at : Service) (most : ℕ) (s new : State) → most ≢ 0 → Step s (work at now) idle new → Turns now (at ∷ []) most s 0 new
turn-idle now at zero s new some step = absurd (some refl)
turn-idle now at (suc most) s new some step = idled step over

-- the three services of a round are turned
pub round-done : (now : Moment) (most a b k : ℕ) (s first second new : State) → Turns now (Cash ∷ []) most s a first → Turns now (Card ∷ []) (most - a) first b second → Turns now (Keys ∷ []) (most - a - b) second k new
    → Turns now round most s (a + b + k) new
round-done now most a b k s first second new cash card keys =
    let P : ℕ → Type 0 = λ n. Turns now round most s n new in
    let sum : a + (b + k) ≡ a + b + k = omega arith in
    subst P sum (turns-then now (Cash ∷ []) (Card ∷ Keys ∷ []) most a (b + k) s first new cash (turns-then now (Card ∷ []) (Keys ∷ []) (most - a) b k first second new card keys))

-- or memory ran out at one of them
pub round-cash : (now : Moment) (s new : State) → HappensInPart (work Cash now ∷ []) s new → HappensInPart (rounds 1 now) s new
round-cash now s new p = part-more (work Cash now ∷ []) (work Card now ∷ work Keys now ∷ []) s new p

pub round-card : (now : Moment) (most a : ℕ) (s first new : State) → Turns now (Cash ∷ []) most s a first → most - a ≢ 0 → HappensInPart (work Card now ∷ []) first new → HappensInPart (rounds 1 now) s new
round-card now most a s first new cash some p =
    part-more (work Cash now ∷ work Card now ∷ []) (work Keys now ∷ []) s new (turns-part-then now (Cash ∷ []) (work Card now ∷ []) most a s first new cash (omega (arith, some)) p)

pub round-keys : (now : Moment) (most a b : ℕ) (s first second new : State) → Turns now (Cash ∷ []) most s a first → Turns now (Card ∷ []) (most - a) first b second → most - a - b ≢ 0 → HappensInPart (work Keys now ∷ []) second new
    → HappensInPart (rounds 1 now) s new
round-keys now most a b s first second new cash card some p =
    let both = turns-then now (Cash ∷ []) (Card ∷ []) most a b s first second cash card in
    turns-part-then now (Cash ∷ Card ∷ []) (work Keys now ∷ []) most (a + b) s second new both (omega (arith, some)) p
