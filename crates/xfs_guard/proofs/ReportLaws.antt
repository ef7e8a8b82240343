-- What a guard keeps when the mechanism reports a taking or a loading.
use Rattle.std.proofs.Common.{◌≡◌, ◌≢◌, ℕ, ◌≤◌, ◌<◌, Bool, true, false, List, [], ◌∷◌, ◌++◌, length, drop, None, Some, refl, arith}
use Rattle.std.specs.Prelude.{⊤}
use Rattle.std.specs.declared.option.Option.{Option}
use Rattle.std.proofs.lemmas.List.Elements.{Contains-append_left}
use Rattle.xfs_base.specs.Causes.{IfTold}
use Rattle.xfs_base.specs.Counts.{at, LiesIn}
use Rattle.xfs_base.specs.declared.counts.Counts.{Counts}
use Rattle.xfs_base.specs.declared.counts.Places.{Places}
use Rattle.xfs_base.specs.declared.counts.Kind.{Kind}
use Rattle.xfs_base.specs.declared.counts.Kind.TheVariants.{Stack, Present, Reject, Retract}
use Rattle.xfs_base.specs.declared.money.NoteKind.{NoteKind}
use Rattle.xfs_base.proofs.MoneyLaws.{value_from-le}
use Rattle.xfs_mech.specs.declared.motion.Motion.{Motion}
use Rattle.xfs_mech.specs.declared.motion.Motion.TheVariants.{Moved, Taken, Loaded}
use Rattle.xfs_mech.specs.Motions.{NumberIs, PlacesOf}
use Rattle.xfs_mech.specs.Mechanism.{AddsEntry, Reports, UsesRoom, source_of}
use Rattle.xfs_mech.proofs.MotionLaws.{all-append}
use Rattle.xfs_journal.specs.declared.record.Rec.{Rec}
use Rattle.xfs_guard.specs.declared.open.Open.{Open}
use Rattle.xfs_guard.specs.declared.open.Open.TheVariants.{No, Written, Acted}
use Rattle.xfs_guard.specs.View.{View}
use Rattle.xfs_guard.specs.Agrees.{RisesFrom, IsAsked, Agrees}
use Rattle.xfs_guard.specs.Within.{shown_by, IsWithin, Within}
use Rattle.xfs_guard.specs.Budget.{Budget}
use Rattle.xfs_guard.specs.Recorded.{IsRecorded}
use Rattle.xfs_guard.specs.Orders.{kind_unacted}
use Rattle.xfs_guard.specs.Kept.{HasRoom, HasLimits}
use Rattle.xfs_guard.specs.Sound.{OpenIsNewest, HasActed, Ties, where_told, IsSound}
use Rattle.xfs_guard.specs.Continues.{Continues}
use Rattle.xfs_mech.proofs.MoveLaws.{Moves-same, Moves-entry}
use Rattle.xfs_guard.proofs.ContinueLaws.{leads-same, leads-motion}
use Rattle.xfs_guard.proofs.SoundLaws.{grows-told}
use Rattle.xfs_guard.specs.Reach.{reached, AgreesBehind, IsRecordedBehind, StandsBehind, view_behind, WithinBehind}
use Rattle.xfs_guard.proofs.StandLaws.{reached-push}
use Rattle.xfs_guard.proofs.WithinLaws.{Within-quiet, shown-motion}
use Rattle.xfs_guard.proofs.LifeLaws.{begins-same}

-- the guard after a report
abbrev pub reported_view : View → Option (List Motion) → Places → ℕ → Counts → View
reported_view v motions places faults loaded = record v { motions = motions; places = places; loaded = loaded; faults = faults }

-- an entry that no order asked for
abbrev pub IsReport : Motion → Type 0
IsReport (Moved n k m d) = ⊥
IsReport (Taken c) = ⊤
IsReport (Loaded u n) = ⊤

-- where an order that is written takes its notes, there are no fewer
abbrev pub LeavesSource : Open → Places → Places → Type 0
LeavesSource o places places' = (k : Kind) → kind_unacted o ≡ Some k → LiesIn (source_of k places) (source_of k places')

stands-report : (o : Open) (records : List Rec) (places places' : Places) → LeavesSource o places places' → OpenIsNewest o records places → OpenIsNewest o records places'
stands-report No records places places' leaves s = s
stands-report (Written k c) records places places' leaves s = (s.0, λ u. omega (arith, s.1 u, leaves k refl u), s.2)
stands-report (Acted k m d failed) records places places' leaves s = s

rises-report : (low : ℕ) (motions : List Motion) (e : Motion) → IsReport e → RisesFrom low motions → RisesFrom low (motions ++ e ∷ [])
rises-report low [] (Moved n k m d) is r = absurd is
rises-report low [] (Taken c) is r = tt
rises-report low [] (Loaded u n) is r = tt
rises-report low (Moved i k m d ∷ ms) e is r = (r.0, rises-report i ms e is r.1)
rises-report low (Taken c ∷ ms) e is r = rises-report low ms e is r
rises-report low (Loaded u n ∷ ms) e is r = rises-report low ms e is r

pub asked-report : (records : List Rec) (e : Motion) → IsReport e → IsAsked records e
asked-report records (Moved n k m d) is = absurd is
asked-report records (Taken c) is = tt
asked-report records (Loaded u n) is = tt

pub Agrees-report : (records : List Rec) (motions : List Motion) (e : Motion) → IsReport e → Agrees records motions → Agrees records (motions ++ e ∷ [])
Agrees-report records motions e is a = record {
  rising = rises-report 0 motions e is a.rising;
  asked = all-append (IsAsked records) motions (e ∷ []) a.asked (asked-report records e is, tt);
  shape = a.shape;
  done = λ n k c m d o done. Contains-append_left motions (e ∷ []) (Moved n k m d) (a.done n k c m d o done);
}

-- a report puts nothing out
shown_by-report : (u : List NoteKind) (records : List Rec) (p : ℕ) (c : List ℕ) (e : Motion) → IsReport e → shown_by u records p c e ≡ 0
shown_by-report u records p c (Moved n k m d) is = absurd is
shown_by-report u records p c (Taken x) is = refl
shown_by-report u records p c (Loaded i n) is = refl

pub within-report : (key : List ℕ) (u : List NoteKind) (records : List Rec) (motions : List Motion) (e : Motion) → IsReport e → IsWithin key u records motions e
within-report key u records motions (Moved n k m d) is = absurd is
within-report key u records motions (Taken x) is = tt
within-report key u records motions (Loaded i n) is = tt

number-report : (Holds : ℕ → Type 0) (e : Motion) → IsReport e → NumberIs Holds e
number-report Holds (Moved n k m d) is = absurd is
number-report Holds (Taken x) is = tt
number-report Holds (Loaded i n) is = tt

acted-report : (o : Open) (records : List Rec) (motions : List Motion) (e : Motion) → IsReport e → HasActed o records motions → HasActed o records (motions ++ e ∷ [])
acted-report No records motions e is h = tt
acted-report (Written k c) records motions e is h = all-append (NumberIs (λ n. n < length records)) motions (e ∷ []) h (number-report (λ n. n < length records) e is, tt)
acted-report (Acted k m d failed) records motions e is h = Contains-append_left motions (e ∷ []) (Moved (length records) k m d) h

-- a report leaves the transport
transport-report : (was now : Places) (e : Motion) → IsReport e → PlacesOf was (e ∷ []) now → (u : ℕ) → at now.transport u ≡ at was.transport u
transport-report was now (Moved n k m d) is places u = absurd is
transport-report was now (Taken c) is places u = omega (arith, places.transport u)
transport-report was now (Loaded i n) is places u = omega (arith, places.transport u)

budget-report : (v : View) (now : Option (List Motion)) (places' : Places) (f : ℕ) (l : Counts) → ((u : ℕ) → at places'.transport u ≡ at v.places.transport u) → Budget v → Budget (reported_view v now places' f l)
budget-report v now places' f l same budget = record {
  funded = λ p b lives bound.
      let old = budget.funded p b lives bound in record {
        token = old.token;
        carries = old.carries;
        amounts = old.amounts;
        amounts_are = old.amounts_are;
        kept = old.kept;
        enough = λ cur.
            let fewer = value_from-le v.units 0 places'.transport.0 v.places.transport.0 cur (λ i. omega (arith, same i)) in
            omega (arith, fewer, old.enough cur);
      };
  unbound = budget.unbound;
  dead = budget.dead;
}

-- what the mechanism tells, once its list is this one
pub ties-same : (v : View) (now : Option (List Motion)) (places' : Places) (f : ℕ) (l : Counts) (motions : List Motion) → Ties v motions → Ties (reported_view v now places' f l) motions
ties-same v now places' f l motions t = record { agrees = t.agrees; within = t.within; counted = t.counted; acted = t.acted }

pub ties-report : (v : View) (now : Option (List Motion)) (places' : Places) (f : ℕ) (l : Counts) (motions : List Motion) (e : Motion) → IsReport e → Ties v motions → Ties (reported_view v now places' f l) (motions ++ e ∷ [])
ties-report v now places' f l motions e is t = record {
  agrees = Agrees-report v.records motions e is t.agrees;
  within = Within-quiet v.key v.units v.records motions e (λ p cur. shown_by-report v.units v.records p cur e is) (within-report v.key v.units v.records (motions ++ e ∷ []) e is) t.within;
  counted = λ p cur lives.
      let more = shown-motion v.units v.records p cur motions e in
      let none = shown_by-report v.units v.records p cur e is in
      omega (arith, more, none, t.counted p cur lives);
  acted = acted-report v.open_order v.records motions e is t.acted;
}

told-same : (v : View) (now : Option (List Motion)) (places' : Places) (f : ℕ) (l : Counts) (told : Option (List Motion)) → IfTold told (Ties v) → IfTold told (Ties (reported_view v now places' f l))
told-same v now places' f l None t = tt
told-same v now places' f l (Some motions) t = ties-same v now places' f l motions t

told-report : (v : View) (now was is : Option (List Motion)) (places' : Places) (f : ℕ) (l : Counts) (e : Motion) → IsReport e → IfTold was (Ties v) → AddsEntry was e is → IfTold is (Ties (reported_view v now places' f l))
told-report v now None is places' f l e of t grows = rw grows tt
told-report v now (Some motions) is places' f l e of t grows = rw grows (ties-report v now places' f l motions e of t)

sound-entry : (v : View) (e : Motion) (now : Option (List Motion)) (places' : Places) (f : ℕ) (l : Counts) → IsSound v → IsReport e → AddsEntry v.motions e now → PlacesOf v.places (e ∷ []) places' → LeavesSource v.open_order v.places places'
    → IsSound (reported_view v now places' f l)
sound-entry v e now places' f l s is grows places leaves = record {
  numbered = s.numbered;
  stands = stands-report v.open_order v.records v.places places' leaves s.stands;
  budget = budget-report v now places' f l (transport-report v.places places' e is places) s.budget;
  told = told-report v now (where_told v.disk_told v.motions) (where_told v.disk_told now) places' f l e is s.told (grows-told v.disk_told v.motions now e grows);
}

sound-failed : (v : View) (f : ℕ) (l : Counts) → IsSound v → IsSound (reported_view v v.motions v.places f l)
sound-failed v f l s = record {
  numbered = s.numbered;
  stands = s.stands;
  budget = budget-report v v.motions v.places f l (λ u. refl) s.budget;
  told = told-same v v.motions v.places f l (where_told v.disk_told v.motions) s.told;
}

-- a report keeps what the guard keeps
pub IsSound-report : (v : View) (e : Motion) (failed : Bool) (now : Option (List Motion)) (places' : Places) (f : ℕ) (l : Counts) → IsSound v → IsReport e
    → Reports e failed v.motions now v.places places' → (PlacesOf v.places (e ∷ []) places' → LeavesSource v.open_order v.places places') → IsSound (reported_view v now places' f l)
IsSound-report v e false now places' f l s is r leaves = sound-entry v e now places' f l s is (r.moves refl).grown (r.moves refl).reached (leaves (r.moves refl).reached)
IsSound-report v e true now places' f l s is r leaves = let none = r.nothing refl in rw (none.0, none.1) (sound-failed v f l s)

-- room is left for what an open order still adds
pub HasRoom-report : (o : Open) (failed : Bool) (before spare left room : ℕ) → HasRoom o before room → before < spare → UsesRoom failed spare left → HasRoom o left room
HasRoom-report o failed before spare left room h more uses = go o (enough failed uses) h
  where
    enough : (failed : Bool) → UsesRoom failed spare left → before ≤ left
    enough false uses = omega (arith, uses, more)
    enough true uses = omega (arith, uses, more)

    go : (o : Open) → before ≤ left → HasRoom o before room → HasRoom o left room
    go No le h = tt
    go (Written k c) le h = (omega (arith, h.0), h.1)
    go (Acted k m d failed) le h = h

-- an entry that has no number is in reach of every one
reached-report : (from : ℕ) (motions : List Motion) (e : Motion) → IsReport e → reached from (motions ++ e ∷ []) ≡ reached from motions ++ e ∷ []
reached-report from motions (Moved n k m d) is = absurd is
reached-report from motions (Taken c) is = reached-push from motions (Taken c) refl
reached-report from motions (Loaded u n) is = reached-push from motions (Loaded u n) refl

recorded-entry : (from : ℕ) (key : List ℕ) (u : List NoteKind) (records : List Rec) (e : Motion) (was now : Option (List Motion)) → IsReport e → AddsEntry was e now
    → IsRecordedBehind from key u records was → IsRecordedBehind from key u records now
recorded-entry from key u records e was now is g h = record { numbered = h.numbered; agrees = agrees was h.agrees g; within = within was h.within g }
  where
    agrees : (was : Option (List Motion)) → IfTold was (AgreesBehind from records) → AddsEntry was e now → IfTold now (AgreesBehind from records)
    agrees None a g = rw g tt
    agrees (Some motions) a g = rw (g, reached-report from motions e is) (Agrees-report (drop from records) (reached from motions) e is a)

    within : (was : Option (List Motion)) → IfTold was (WithinBehind from key u records) → AddsEntry was e now → IfTold now (WithinBehind from key u records)
    within None a g = rw g tt
    within (Some motions) a g = rw (g, reached-report from motions e is)
        (Within-quiet key u (drop from records) (reached from motions) e (λ p cur. shown_by-report u (drop from records) p cur e is) (within-report key u (drop from records) (reached from motions ++ e ∷ []) e is) a)

-- what stands behind a number stands beside a report
stands-entry : (v : View) (e : Motion) (now : Option (List Motion)) (places' : Places) (f : ℕ) (l : Counts) → IsReport e → AddsEntry v.motions e now → (compared : Bool) (from : ℕ)
    → StandsBehind compared from v → StandsBehind compared from (reported_view v now places' f l)
stands-entry v e now places' f l is g compared from s = record {
  booted = s.booted;
  recorded = λ records p. recorded-entry from v.key v.units records e (where_told compared v.motions) (where_told compared now) is (grows-told compared v.motions now e g) (s.recorded records p);
  tied = λ still booted. ties (where_told compared v.motions) (where_told compared now) (grows-told compared v.motions now e g) (s.tied still booted);
}
  where
    ties : (was now' : Option (List Motion)) → AddsEntry was e now' → IfTold was (λ motions. Ties (view_behind from v) (reached from motions))
        → IfTold now' (λ motions. Ties (view_behind from (reported_view v now places' f l)) (reached from motions))
    ties None now' g t = rw g tt
    ties (Some motions) now' g t = rw (g, reached-report from motions e is) (ties-report (view_behind from v) now places' f l (reached from motions) e is t)

stands-failed : (v : View) (f : ℕ) (l : Counts) (compared : Bool) (from : ℕ) → StandsBehind compared from v → StandsBehind compared from (reported_view v v.motions v.places f l)
stands-failed v f l compared from s = record { booted = s.booted; recorded = s.recorded; tied = λ still booted. ties (where_told compared v.motions) (s.tied still booted) }
  where
    ties : (told : Option (List Motion)) → IfTold told (λ motions. Ties (view_behind from v) (reached from motions))
        → IfTold told (λ motions. Ties (view_behind from (reported_view v v.motions v.places f l)) (reached from motions))
    ties None t = tt
    ties (Some motions) t = ties-same (view_behind from v) v.motions v.places f l (reached from motions) t

-- what follows after a report, also behind a record in doubt
pub Continues-report : (v : View) (e : Motion) (failed : Bool) (now : Option (List Motion)) (places' : Places) (f : ℕ) (l : Counts) → IsReport e
    → Reports e failed v.motions now v.places places' → Continues v (reported_view v now places' f l)
Continues-report v e true now places' f l is r = let none = r.nothing refl in rw (none.0, none.1) (record { leads = λ records possible. record { from = records; possible = possible; led = leads-same v.motions records v.places }; key = refl; seed = refl; units = refl; moves = Moves-same v.motions v.places; disk_told = refl; limits = refl; grew = begins-same v.records; left = λ records was. was; behind = stands-failed v f l })
Continues-report v e false now places' f l is r = record {
  leads = λ records possible. record {
    from = records;
    possible = possible;
    led = leads-motion v.motions now records e v.places places' (r.moves refl).grown (number-report (λ n. n ≤ length records) e is) (number-report (λ n. length records ≤ n) e is) (r.moves refl).reached;
  };
  key = refl;
  seed = refl;
  units = refl;
  moves = Moves-entry e v.motions now v.places places' (r.moves refl).grown (r.moves refl).reached;
  disk_told = refl;
  limits = refl;
  grew = begins-same v.records;
  left = λ records was. was;
  behind = stands-entry v e now places' f l is (r.moves refl).grown;
}

-- a taking leaves what an order takes, where that is no retract
pub taken-leaves : (o : Open) (c : Counts) (was now : Places) → kind_unacted o ≢ Some Retract → PlacesOf was (Taken c ∷ []) now → LeavesSource o was now
taken-leaves o c was now other places Stack is u = omega (arith, places.units u)
taken-leaves o c was now other places Present is u = omega (arith, places.transport u)
taken-leaves o c was now other places Reject is u = omega (arith, places.transport u)
taken-leaves o c was now other places Retract is u = absurd (other is)

-- a loading leaves what any order takes
pub loaded-leaves : (o : Open) (unit count : ℕ) (was now : Places) → PlacesOf was (Loaded unit count ∷ []) now → LeavesSource o was now
loaded-leaves o unit count was now places Stack is u = omega (arith, places.units u)
loaded-leaves o unit count was now places Present is u = omega (arith, places.transport u)
loaded-leaves o unit count was now places Reject is u = omega (arith, places.transport u)
loaded-leaves o unit count was now places Retract is u = omega (arith, places.outlet u)

-- a list of records agrees with what the mechanism did, also with an entry more that no order asked for
pub IsRecorded-entry : (key : List ℕ) (u : List NoteKind) (kept : List Rec) (e : Motion) (was now : Option (List Motion)) → IsReport e → AddsEntry was e now → IsRecorded key u was kept → IsRecorded key u now kept
IsRecorded-entry key u kept e was now is g h = record { numbered = h.numbered; agrees = agrees was h.agrees g; within = within was h.within g }
  where
    agrees : (was : Option (List Motion)) → IfTold was (Agrees kept) → AddsEntry was e now → IfTold now (Agrees kept)
    agrees None a g = rw g tt
    agrees (Some motions) a g = rw g (Agrees-report kept motions e is a)

    within : (was : Option (List Motion)) → IfTold was (Within key u kept) → AddsEntry was e now → IfTold now (Within key u kept)
    within None a g = rw g tt
    within (Some motions) a g = rw g (Within-quiet key u kept motions e (λ p cur. shown_by-report u kept p cur e is) (within-report key u kept (motions ++ e ∷ []) e is) a)

-- so it does after a report
pub IsRecorded-report : (key : List ℕ) (u : List NoteKind) (records : List Rec) (e : Motion) (failed : Bool) (was now : Option (List Motion)) (places places' : Places) → IsReport e
    → Reports e failed was now places places' → IsRecorded key u was records → IsRecorded key u now records
IsRecorded-report key u records e true was now places places' is r h = let none = r.nothing refl in rw none.0 h
IsRecorded-report key u records e false was now places places' is r h = IsRecorded-entry key u records e was now is (r.moves refl).grown h

-- what the limits leave an open order stays
pub HasLimits-report : (o : Open) (v : View) (now : Option (List Motion)) (places' : Places) (f : ℕ) (l : Counts) → HasLimits o v → HasLimits o (reported_view v now places' f l)
HasLimits-report No v now places' f l h = tt
HasLimits-report (Written k c) v now places' f l h = h
HasLimits-report (Acted k m d failed) v now places' f l h = h
