-- A plan that a command begins with can be worked on.
use Rattle.std.proofs.Common.{◌≡◌, ◌≢◌, ◌≤◌, ◌+◌, ◌-◌, ◌*◌, ◌==◌, ℕ, zero, suc, Bool, true, false, List, [], ◌∷◌, length, get_or, drop, None, Some, Ok, Err, inl, inr, refl, sym, ◌∙◌, ap, arith, true≢false, subst}
use Rattle.std.specs.Prelude.{◌&&◌, not, nat_lt, if◌then◌else◌}
use Rattle.std.specs.declared.option.Option.{Option}
use Rattle.std.specs.declared.result.Result.{Result}
use Rattle.std.proofs.lemmas.Bool.{ne_eqb}
use Rattle.std.proofs.lemmas.List.{get_or-drop}
use Rattle.std.proofs.lemmas.Option.{slice_get_past}
use Rattle.std.specs.Str.{bytes_eq}
use Rattle.xfs_base.specs.Money.{value_from}
use Rattle.xfs_base.specs.declared.counts.Counts.{Counts}
use Rattle.xfs_base.specs.declared.money.NoteKind.{NoteKind}
use Rattle.xfs_mix.specs.Asked.{count_fault, is_none}
use Rattle.xfs_mix.specs.Mix.{IsMix, usable}
use Rattle.xfs_mix.specs.declared.asked.CountFault.{CountFault}
use Rattle.xfs_mix.specs.declared.asked.CountFault.TheVariants.{Empty}
use Rattle.xfs_guard.specs.View.{View}
use Rattle.xfs_guard.specs.Refusals.{Binds, bound_token, over_budget}
use Rattle.xfs_guard.specs.declared.deny.Deny.{Deny as Denial}
use Rattle.xfs_guard.specs.declared.open.Open.TheVariants.{No}
use Rattle.xfs_dispenser.specs.Answers.{CashAnswer, told, planned}
use Rattle.xfs_dispenser.specs.Begins.{IsDispensed, IsStorageSet, StartsRefused, RoomChecks, StartsWith, StorageChecks, added_refusal, are_few, unit_refusal}
use Rattle.xfs_dispenser.specs.Checks.{Passed, Permits, TokenChecks, active_refusal, inactive_refusal, unfit_refusal, passed_unless, within_budget}
use Rattle.xfs_dispenser.specs.Denominations.{FirstOf, MixGiven, NotesGiven, count_refusal, currency_refusal, given_unless, members_refusal}
use Rattle.xfs_dispenser.specs.Plans.{AreEight, CanBeginAll, IsPlanned, dispense_plan, storage_plan}
use Rattle.xfs_dispenser.specs.Seen.{Seen}
use Rattle.xfs_dispenser.specs.declared.grant.Grant.{Grant}
use Rattle.xfs_dispenser.specs.declared.named.Named.{Named}
use Rattle.xfs_dispenser.specs.declared.named.Named.TheVariants.{These, OtherName}
use Rattle.xfs_dispenser.specs.declared.notes.Notes.{Notes}
use Rattle.xfs_dispenser.specs.declared.notes.Notes.TheVariants.{Least, Individual}
use Rattle.xfs_dispenser.specs.declared.part.Part.{Part}
use Rattle.xfs_dispenser.specs.declared.plan.Plan.{Plan}
use Rattle.xfs_dispenser.specs.declared.refusal.Refusal.{Refusal}
use Rattle.xfs_dispenser.specs.declared.refusal.Refusal.TheVariants.{InvalidData}
use Rattle.xfs_dispenser.proofs.PlanLaws.{loads-all, loads-begin, loads_from, stacks-all, stacks-begin, stacks_from}

-- checks of which none refused came to what the later ones came to
pub none-first : {T : Type 0} (refusal : Option Refusal) (Later : Result T Refusal → Type 0) (x : T) → FirstOf refusal Later (Ok x) → (refusal ≡ None) × Later (Ok x)
none-first (Some r) Later x first = absurd (no first)
  where
    no : Ok x ≡ Err r → ⊥
    no e = cc
none-first None Later x first = (refl, first)

-- a list of counts is 0 everywhere where it has none
pub none-at : (xs : List ℕ) (w : ℕ) → is_none xs ≡ true → get_or xs w 0 ≡ 0
none-at [] w none = refl
none-at (zero ∷ xs) zero none = refl
none-at (zero ∷ xs) (suc w) none = none-at xs w none
none-at (suc n ∷ xs) w none = absurd (never (suc n == 0) (is_none xs) (ne_eqb (suc n) 0 (λ e. omega (arith, e))) none)
  where
    never : (a b : Bool) → a ≡ false → (a && b) ≡ true → ⊥
    never a b e f = (let g = rw e at f in cc)

-- an amount has no notes of units past the table
usable-past : (units : List NoteKind) (have : Counts) (currency : List ℕ) (w : ℕ) → length units ≤ w → usable units have currency w ≡ 0
usable-past units have currency w high = rw (slice_get_past units w high) refl

pub mix-past : (units : List NoteKind) (have : Counts) (currency : List ℕ) (amount : ℕ) (n : Counts) (w : ℕ) → IsMix units have currency amount n → length units ≤ w → get_or n.0 w 0 ≡ 0
mix-past units have currency amount n w mix high = (let e = mix.within w in let f = usable-past units have currency w high in omega (arith, e, f))

-- counts that have no fault
no-fault : (counts : Counts) (fault : Option CountFault) (given : Counts) → Ok given ≡ given_unless counts fault → (fault ≡ None) × (given ≡ counts)
no-fault counts None given e = (refl, cc)
no-fault counts (Some f) given e = absurd (no e)
  where
    no : Ok given ≡ Err (count_refusal f) → ⊥
    no e = cc

unfaulted : (units : List NoteKind) (have counts : Counts) → count_fault units have counts ≡ None → (is_none counts.0 ≡ false) × (is_none (drop (length units) counts.0) ≡ true)
unfaulted units have counts none = go (is_none counts.0) (is_none (drop (length units) counts.0)) _ none
  where
    go : (a b : Bool) (rest : Option CountFault) → (if a then Some Empty else if not b then Some Empty else rest) ≡ None → (a ≡ false) × (b ≡ true)
    go true b rest e = absurd (let f : Some Empty ≡ None = e in cc)
    go false true rest e = (refl, refl)
    go false false rest e = absurd (let f : Some Empty ≡ None = e in cc)

-- the notes that are given are of units of the table
pub given-past : (units : List NoteKind) (have : Counts) (notes : Notes) (counts : Counts) → NotesGiven units have notes (Ok counts) → (w : ℕ) → length units ≤ w → get_or counts.0 w 0 ≡ 0
given-past units have (Least currency amount) counts given w high =
    let mix = none-first (currency_refusal units currency) (MixGiven units have currency amount) counts given in
    mix-past units have currency amount counts w mix.1.0 high
given-past units have (Individual OtherName) counts given w high = absurd (no given)
  where
    no : {e : Refusal} → Ok counts ≡ Err e → ⊥
    no e = cc
given-past units have (Individual (These asked)) counts given w high =
    let fault = no-fault asked (count_fault units have asked) counts given in
    let past = (unfaulted units have asked fault.0).1 in
    let at_w = none-at (drop (length units) asked.0) (w - length units) past in
    let e = get_or-drop (length units) asked.0 (w - length units) 0 in
    let f : length units + (w - length units) ≡ w = omega (arith, high) in
    rw fault.1 (rw f at (sym e) ∙ at_w)

-- nothing is worth nothing
pub worth-none : (units : List NoteKind) (i : ℕ) (xs currency : List ℕ) → is_none xs ≡ true → value_from units i xs currency ≡ 0
worth-none [] i xs currency none = refl
worth-none (k ∷ ks) i xs currency none = rw (none-at xs i none, worth-none ks (i + 1) xs currency none) (zero-worth (bytes_eq k.currency currency) k.value)
  where
    zero-worth : (b : Bool) (v : ℕ) → (if b then 1000 * v * 0 else 0) + 0 ≡ 0
    zero-worth true v = omega arith
    zero-worth false v = omega arith

in-range : (amount : ℕ) → (if nat_lt 0 amount && nat_lt amount 1000001 then None else Some InvalidData) ≡ None → 1 ≤ amount
in-range zero e = absurd (let f : Some InvalidData ≡ None = e in cc)
in-range (suc n) e = omega arith

-- a mix for an amount has some notes
pub some-mix : (units : List NoteKind) (have : Counts) (currency : List ℕ) (amount : ℕ) (n : Counts) → 1 ≤ amount → IsMix units have currency amount n → is_none n.0 ≡ false
some-mix units have currency amount n low mix = go (is_none n.0) refl
  where
    go : (b : Bool) → is_none n.0 ≡ b → is_none n.0 ≡ false
    go false e = e
    go true e = (let z = worth-none units 0 n.0 currency e in let worth = mix.worth in absurd (omega (arith, z, worth, low)))

-- and there are some
pub given-some : (units : List NoteKind) (have : Counts) (notes : Notes) (counts : Counts) → members_refusal notes ≡ None → NotesGiven units have notes (Ok counts) → is_none counts.0 ≡ false
given-some units have (Least currency amount) counts members given =
    let mix = none-first (currency_refusal units currency) (MixGiven units have currency amount) counts given in
    some-mix units have currency amount counts (in-range amount members) mix.1.0
given-some units have (Individual OtherName) counts members given = absurd (no given)
  where
    no : {e : Refusal} → Ok counts ≡ Err e → ⊥
    no e = cc
given-some units have (Individual (These asked)) counts members given =
    let fault = no-fault asked (count_fault units have asked) counts given in
    rw fault.1 (unfaulted units have asked fault.0).0

-- some notes make some parts
pub stacks-left : (issue u : ℕ) (xs : List ℕ) → is_none xs ≡ false → stacks_from issue u xs ≢ []
stacks-left issue u [] some e = absurd (true≢false some)
stacks-left issue u (zero ∷ xs) some e = stacks-left issue (u + 1) xs some e
stacks-left issue u (suc n ∷ xs) some e = cc

loads-left : (u : ℕ) (xs : List ℕ) → is_none xs ≡ false → loads_from u xs ≢ []
loads-left u [] some e = absurd (true≢false some)
loads-left u (zero ∷ xs) some e = loads-left (u + 1) xs some e
loads-left u (suc n ∷ xs) some e = cc

-- what a bind leaves of units, places and order
pub bound-same : (old new : View) (bytes : List ℕ) (amounts : List (List ℕ × ℕ)) → Binds old new bytes amounts → (new.units ≡ old.units) × (new.places ≡ old.places) × (new.open_order ≡ old.open_order)
bound-same old new bytes amounts b = go (bound_token old.records) refl
  where
    go : (t : Option (List ℕ)) → bound_token old.records ≡ t → (new.units ≡ old.units) × (new.places ≡ old.places) × (new.open_order ≡ old.open_order)
    go None e = (let same = b.first e in (ap (λ (v : View). v.units) same, ap (λ (v : View). v.places) same, ap (λ (v : View). v.open_order) same))
    go (Some t) e = (let same = b.again (λ f. let g : Some t ≡ None = sym e ∙ f in cc) in (ap (λ (v : View). v.units) same, ap (λ (v : View). v.places) same, ap (λ (v : View). v.open_order) same))

ok-same : {T : Type 0} (x y : T) (a : Result T Refusal) → a ≡ Ok x → a ≡ Ok y → x ≡ y
ok-same {T} x y a e f = (let g : ◌≡◌ {A = Result T Refusal} (Ok x) (Ok y) = sym e ∙ f in cc)

ok-err : {T : Type 0} (x : T) (r : Refusal) (a : Result T Refusal) → a ≡ Ok x → a ≡ Err r → ⊥
ok-err {T} x r a e f = (let g : ◌≡◌ {A = Result T Refusal} (Ok x) (Err r) = sym e ∙ f in cc)

-- a plan is no answer
told-plan : (refusal : Refusal) (plan : Plan) → StartsRefused refusal (planned plan) → ⊥
told-plan refusal plan t = (let e = t.is in cc)

pub answer-plan : (answer : CashAnswer) (plan : Plan) → planned plan ≡ told answer → ⊥
answer-plan answer plan e = cc

pub same-plan : (a b : Plan) → planned a ≡ planned b → a ≡ b
same-plan a b e = cc

granted-one : (g passed : Passed) (o : Option Denial) → ◌≡◌ {A = Result Passed Refusal} (Ok passed) (passed_unless g o) → passed ≡ g
granted-one g passed None e = ok-same passed g (Ok passed) refl e
granted-one g passed (Some d) e = absurd (ok-err passed _ (Ok passed) refl e)

-- what was granted is what was given
granted-given : (v : View) (token : List ℕ) (amounts : List (List ℕ × ℕ)) (given : Result Counts Refusal) (passed : Passed) → Ok passed ≡ within_budget v token amounts given → given ≡ Ok passed.counts
granted-given v token amounts (Err r) passed e = absurd (ok-err passed r (Ok passed) refl e)
granted-given v token amounts (Ok counts) passed e =
    let same : passed ≡ record { token = token; amounts = amounts; counts = counts } = granted-one (record { token = token; amounts = amounts; counts = counts }) passed (over_budget v amounts counts) e in
    ap (λ (g : Passed). Ok g.counts) (sym same)

-- the notes of a granted dispense are those of its denomination
pub granted-notes : (v : View) (exchange : Bool) (notes : Notes) (token : Option (List ℕ)) (passed : Passed)
    → FirstOf (members_refusal notes) (FirstOf (active_refusal exchange) (FirstOf (unfit_refusal v) (TokenChecks v notes token))) (Ok passed)
    → (members_refusal notes ≡ None) × NotesGiven v.units v.places.units notes (Ok passed.counts)
granted-notes v exchange notes token passed checks =
    let a = none-first (members_refusal notes) (FirstOf (active_refusal exchange) (FirstOf (unfit_refusal v) (TokenChecks v notes token))) passed checks in
    let b = none-first (active_refusal exchange) (FirstOf (unfit_refusal v) (TokenChecks v notes token)) passed a.1 in
    let c = none-first (unfit_refusal v) (TokenChecks v notes token) passed b.1 in
    (a.0, go token c.1)
  where
    go : (t : Option (List ℕ)) → TokenChecks v notes t (Ok passed) → NotesGiven v.units v.places.units notes (Ok passed.counts)
    go None e = absurd (ok-err passed _ (Ok passed) refl e)
    go (Some bytes) (inl r) = absurd (ok-err passed _ (Ok passed) refl r.is)
    go (Some bytes) (inr p) = rw (granted-given v bytes p.amounts p.given passed p.is) at p.gives

-- a plan with no order open, whose parts can be begun
planned-parts : (v : View) (plan : Plan) (parts : List Part) → v.open_order ≡ No → plan.failed ≡ false → plan.parts.items ≡ parts → parts ≢ [] → CanBeginAll v parts → AreEight plan.notes → IsPlanned v plan
planned-parts v plan parts none fine are some can eight = record { some_left = λ e. subst (λ ps. ps ≢ []) (sym are) some; outcome = rw none tt; parts = subst (CanBeginAll v) (sym are) can; eight = eight }

pub dispense-planned : (s : Seen) (exchange : Bool) (notes : Notes) (token : Option (List ℕ)) (next : Seen) (plan : Plan) → s.guard.open_order ≡ No
    → IsDispensed s exchange notes token next (planned plan) → IsPlanned next.guard plan
dispense-planned s exchange notes token next plan none d = grant d.grant refl d.starts
  where
    checked : (c : Result Passed Refusal) (l : Grant) → d.checked ≡ c → Permits s c (Ok l) next → length l.counts.0 ≡ 8 → IsPlanned next.guard (dispense_plan l.issue l.counts)
    checked (Err r) l e p eight = absurd (ok-err l r (Ok l) refl p.0)
    checked (Ok passed) l e (inr u) eight = absurd (ok-err l _ (Ok l) refl u.is)
    checked (Ok passed) l e (inl p) eight =
        let same = bound-same s.guard next.guard passed.token passed.amounts p.binds in
        let notes_of = granted-notes s.guard exchange notes token passed (rw e at d.checks) in
        let counts : l.counts ≡ passed.counts = ap (λ (x : Grant). x.counts) (ok-same l _ (Ok l) refl p.is) in
        planned-parts next.guard (dispense_plan l.issue l.counts) (stacks_from l.issue 1 l.counts.0) (same.2 ∙ none) refl (stacks-all l.issue l.counts.0)
        (rw counts (stacks-left l.issue 1 passed.counts.0 (given-some s.guard.units s.guard.places.units notes passed.counts notes_of.0 notes_of.1)))
        (rw counts (stacks-begin next.guard l.issue 0 passed.counts.0 (λ w high. let h = rw same.0 at high in given-past s.guard.units s.guard.places.units notes passed.counts notes_of.1 w (omega (arith, h))))) eight

    grant : (r : Result Grant Refusal) → d.grant ≡ r → StartsWith r (λ (l : Grant). planned (dispense_plan l.issue l.counts)) (planned plan) → IsPlanned next.guard plan
    grant (Err r) e t = absurd (told-plan r plan t)
    grant (Ok l) e t = rw (same-plan plan (dispense_plan l.issue l.counts) t) (checked d.checked l refl (rw e at d.permits) (rw e at d.eight))

pub storage-planned : (v : View) (exchange : Bool) (added : Named) (plan : Plan) → v.open_order ≡ No → IsStorageSet v exchange added (planned plan) → IsPlanned v plan
storage-planned v exchange added plan none d = go d.checked d.checks d.starts
  where
    some : (counts : Counts) → added_refusal (These counts) ≡ None → is_none counts.0 ≡ false
    some counts e = test (is_none counts.0) (are_few counts.0) e
      where
        test : (a b : Bool) → (if not a && b then None else Some InvalidData) ≡ None → a ≡ false
        test false b e = refl
        test true b e = absurd (let f : Some InvalidData ≡ None = e in cc)

    room : (a : Named) (counts : Counts) → added_refusal a ≡ None → RoomChecks v a (Ok counts) → IsPlanned v (storage_plan counts)
    room OtherName counts e r = absurd r
    room (These asked) counts e r =
        rw r.0 (planned-parts v (storage_plan asked) (loads_from 1 asked.0) none refl (loads-all asked.0) (loads-left 1 asked.0 (some asked e)) (loads-begin v 0 asked.0 (λ w more. rw (shift w) (r.1 w more))) tt)
      where
        shift : (w : ℕ) → 0 + w + 1 ≡ w + 1
        shift w = omega arith

    go : (c : Result Counts Refusal) → StorageChecks v exchange added c → StartsWith c (λ counts. planned (storage_plan counts)) (planned plan) → IsPlanned v plan
    go (Err r) checks t = absurd (told-plan r plan t)
    go (Ok counts) checks t =
        let a = none-first (added_refusal added) (FirstOf (inactive_refusal exchange) (FirstOf (unfit_refusal v) (FirstOf (unit_refusal v.units added) (RoomChecks v added)))) counts checks in
        let b = none-first (inactive_refusal exchange) (FirstOf (unfit_refusal v) (FirstOf (unit_refusal v.units added) (RoomChecks v added))) counts a.1 in
        let c = none-first (unfit_refusal v) (FirstOf (unit_refusal v.units added) (RoomChecks v added)) counts b.1 in
        let d = none-first (unit_refusal v.units added) (RoomChecks v added) counts c.1 in
        rw (same-plan plan (storage_plan counts) t) (room added counts a.0 d.1)
