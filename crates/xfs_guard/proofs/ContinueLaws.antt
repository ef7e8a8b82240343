-- What happened from one state of a guard to a later one.
use Rattle.std.proofs.Common.{◌≡◌, ◌⊎◌, inl, inr, ℕ, ◌≤◌, Bool, true, false, List, [], ◌∷◌, ◌++◌, length, None, Some, refl, sym, ◌∙◌, ap, subst, arith, length-append}
use Rattle.std.proofs.lemmas.List.{append-nil}
use Rattle.std.specs.declared.option.Option.{Option}
use Rattle.xfs_base.specs.declared.counts.Counts.{Counts}
use Rattle.xfs_base.specs.declared.counts.Places.{Places}
use Rattle.xfs_base.specs.declared.counts.Kind.{Kind}
use Rattle.xfs_mech.specs.declared.motion.Motion.{Motion}
use Rattle.xfs_mech.specs.declared.motion.Motion.TheVariants.{Moved}
use Rattle.xfs_journal.specs.declared.record.Rec.{Rec}
use Rattle.xfs_journal.specs.Journal.{boot_places}
use Rattle.xfs_journal.specs.JournalView.{IsPossible}
use Rattle.xfs_guard.specs.declared.open.Open.{Open}
use Rattle.xfs_mech.specs.Motions.{NumberIs, PlacesOf}
use Rattle.xfs_mech.specs.Mechanism.{AddsEntry}
use Rattle.xfs_guard.specs.Crashed.{IsCrashOutcomeAt, is_closed}
use Rattle.xfs_guard.specs.Lives.{BeginsWith}
use Rattle.xfs_guard.proofs.CrashedLaws.{begins-push, left-push, left-doubt}
use Rattle.xfs_guard.specs.View.{View}
use Rattle.xfs_guard.specs.Continues.{Led, Comes, Leads, Continues}
use Rattle.xfs_journal.proofs.JournalLaws.{record_at-within}
use Rattle.xfs_guard.proofs.FollowsLaws.{Follows-same, Follows-record, Follows-trans}
use Rattle.xfs_mech.proofs.MotionLaws.{all-append, all-numbers}
use Rattle.xfs_mech.proofs.MoveLaws.{Moves-same, Moves-trans, Moves-entry}
use Rattle.xfs_guard.proofs.RecordLaws.{longer}
use Rattle.xfs_guard.proofs.SoundLaws.{acted_view}
pub use Rattle.xfs_guard.proofs.StandLaws.{only-possible, doubted-possible}
use Rattle.xfs_guard.proofs.StandLaws.{Grows, stands-doubted, stands-written}
use Rattle.xfs_guard.specs.Reach.{StandsBehind}
use Rattle.xfs_guard.proofs.LifeLaws.{begins-same, begins-trans}

-- nothing happened
pub Led-same : (records : List Rec) (motions : List Motion) (places : Places) → Led records motions places records motions places
unfolding Follows-same
Led-same records motions places = record { follows = Follows-same records motions places; known = tt }

-- one more record, which has the places where it is a boot record
pub Led-record : (records : List Rec) (r : Rec) (motions : List Motion) (was : Places) → ((p : Places) → boot_places r ≡ Some p → was ≡ p) → Led records motions was (records ++ r ∷ []) motions was
unfolding Follows-record
Led-record records r motions was boots = record { follows = Follows-record records r motions was boots; known = tt }

-- one more motion, which has a number of the journal's or none
Led-motion : (records : List Rec) (motions : List Motion) (m : Motion) (was now : Places) → NumberIs (λ n. n ≤ length records) m → NumberIs (λ n. length records ≤ n) m → PlacesOf was (m ∷ []) now
    → Led records motions was records (motions ++ m ∷ []) now
Led-motion records motions m was now small late places = record {
  follows = record {
    recs = [];
    moves = m ∷ [];
    grew = sym (append-nil records);
    moved = refl;
    reached = places;
    later = (late, tt);
    boots = λ n r p lt e told. let w = record_at-within records n r e in absurd (omega arith);
  };
  known = (small, tt);
}

Led-trans : (records records' records'' : List Rec) (motions motions' motions'' : List Motion) (places places' places'' : Places) → Led records motions places records' motions' places' → Led records' motions' places' records'' motions'' places'' → Led records motions places records'' motions'' places''
unfolding Follows-trans
Led-trans records records' records'' motions motions' motions'' places places' places'' one two = record {
  follows = Follows-trans records records' records'' motions motions' motions'' places places' places'' one.follows one.known two.follows;
  known = all-append (NumberIs (λ n. n ≤ length records'')) one.follows.moves two.follows.moves (all-numbers (λ n. n ≤ length records') (λ n. n ≤ length records'') one.follows.moves (λ n le. omega (arith, longer)) one.known) two.known;
}
  where
    longer : length records' ≤ length records''
    longer = omega (arith, ap length two.follows.grew, length-append records' two.follows.recs)

-- the same where the mechanism may tell no list
pub leads-same : (m : Option (List Motion)) (records : List Rec) (places : Places) → Leads records m places records m places
leads-same None records places = begins-same records
leads-same (Some motions) records places = Led-same records motions places

pub leads-record : (m : Option (List Motion)) (records : List Rec) (r : Rec) (places : Places) → ((p : Places) → boot_places r ≡ Some p → places ≡ p) → Leads records m places (records ++ r ∷ []) m places
leads-record None records r places boots = record { more = r ∷ []; is = refl }
leads-record (Some motions) records r places boots = Led-record records r motions places boots

pub leads-motion : (was now : Option (List Motion)) (records : List Rec) (m : Motion) (before after : Places) → AddsEntry was m now → NumberIs (λ n. n ≤ length records) m → NumberIs (λ n. length records ≤ n) m → PlacesOf before (m ∷ []) after
    → Leads records was before records now after
leads-motion None now records m before after g small late places = rw g (begins-same records)
leads-motion (Some motions) now records m before after g small late places = rw g (Led-motion records motions m before after small late places)

pub leads-trans : (x y z : Option (List Motion)) (records records' records'' : List Rec) (places places' places'' : Places) → Leads records x places records' y places' → Leads records' y places' records'' z places'' → Leads records x places records'' z places''
leads-trans None None None records records' records'' places places' places'' p q = begins-trans records records' records'' p q
leads-trans None None (Some z) records records' records'' places places' places'' p q = q
leads-trans None (Some y) z records records' records'' places places' places'' p q = absurd p
leads-trans (Some x) None z records records' records'' places places' places'' p q = absurd p
leads-trans (Some x) (Some y) None records records' records'' places places' places'' p q = absurd q
leads-trans (Some x) (Some y) (Some z) records records' records'' places places' places'' p q = Led-trans records records' records'' x y z places places' places'' p q

pub Continues-trans : (a b c : View) → Continues a b → Continues b c → Continues a c
Continues-trans a b c p q = record { leads = comes; key = q.key ∙ p.key; seed = q.seed ∙ p.seed; units = q.units ∙ p.units; moves = Moves-trans a.motions b.motions c.motions a.places b.places c.places p.moves q.moves; disk_told = q.disk_told ∙ p.disk_told; limits = q.limits ∙ p.limits; grew = begins-trans a.records b.records c.records p.grew q.grew; left = λ records was. q.left records (p.left records was); behind = λ compared from s. q.behind compared from (p.behind compared from s) }
  where
    comes : (records : List Rec) → IsPossible c.records c.in_doubt records → Comes a c records
    comes records possible = let late = q.leads records possible in let early = p.leads late.from late.possible in record {
      from = early.from;
      possible = early.possible;
      led = leads-trans a.motions b.motions c.motions early.from late.from records a.places b.places c.places early.led late.led;
    }

-- what led to each possible list of the earlier state leads to each of the later one
pub leads-on : (old new : View) (records : List Rec) (m : Option (List Motion)) (places : Places) → Continues old new
    → ((found : List Rec) → IsPossible old.records old.in_doubt found → Leads records m places found old.motions old.places)
    → (found : List Rec) → IsPossible new.records new.in_doubt found → Leads records m places found new.motions new.places
leads-on old new records m places continues each found possible =
    let c = continues.leads found possible in leads-trans m old.motions new.motions records c.from found places old.places new.places (each c.from c.possible) c.led

-- a list is a possible one, or a possible one with this record behind it
abbrev pub MayGrow : View → Rec → List Rec → Type 0
MayGrow v r records = IsPossible v.records v.in_doubt records ⊎ ((found : List Rec) × IsPossible v.records v.in_doubt found × (records ≡ found ++ r ∷ []))

-- at most this record came behind the possible lists; a boot record has the places
pub Continues-grown : (v w : View) (r : Rec) → ((p : Places) → boot_places r ≡ Some p → v.places ≡ p) → w.motions ≡ v.motions → w.places ≡ v.places → w.key ≡ v.key → w.seed ≡ v.seed → w.units ≡ v.units → w.disk_told ≡ v.disk_told → w.limits ≡ v.limits
    → ((records : List Rec) → IsPossible w.records w.in_doubt records → MayGrow v r records) → BeginsWith w.records v.records → ((records : List Rec) → IsCrashOutcomeAt v records → IsCrashOutcomeAt w records)
    → ((compared : Bool) (from : ℕ) → StandsBehind compared from v → StandsBehind compared from w) → Continues v w
Continues-grown v w r boots motions places key seed units disk limits grown begins left stands = record { leads = λ records possible. comes records (grown records possible); key = key; seed = seed; units = units; moves = rw (motions, places) (Moves-same v.motions v.places); disk_told = disk; limits = limits; grew = begins; left = left; behind = stands }
  where
    comes : (records : List Rec) → MayGrow v r records → Comes v w records
    comes records (inl old) = record { from = records; possible = old; led = rw (motions, places) (leads-same v.motions records v.places) }
    comes records (inr (list, old, is)) = record { from = list; possible = old; led = rw (is, motions, places) (leads-record v.motions list r v.places boots) }

pub Continues-same : (v : View) → Continues v v
Continues-same v = record { leads = λ records possible. record { from = records; possible = possible; led = leads-same v.motions records v.places }; key = refl; seed = refl; units = refl; moves = Moves-same v.motions v.places; disk_told = refl; limits = refl; grew = begins-same v.records; left = λ records was. was; behind = λ compared from s. s }

-- one more record was written
pub Continues-written : (v : View) (r : Rec) (w : Option (List (List ℕ × ℕ))) (o : Open) → v.in_doubt ≡ None → v.shut ≡ false → v.boot_missing ≡ false → ((p : Places) → boot_places r ≡ Some p → v.places ≡ p) → (o' : Open) → o ≡ o' → Grows v r w o' → Continues v (record (longer v r w o) { shut = false; in_doubt = None })
Continues-written v r w o none open_still booted boots o' is grows =
    Continues-grown v (record (longer v r w o) { shut = false; in_doubt = None }) r boots refl refl refl refl refl refl refl (λ records possible. inr (v.records, inl refl, only-possible (v.records ++ r ∷ []) records None refl possible))
    (begins-push v.records v.records r (begins-same v.records)) (λ records was. left-push v.records r v.in_doubt (is_closed v) (is_closed (record (longer v r w o) { shut = false; in_doubt = None })) records none (rw (open_still, booted) refl) was)
    (λ compared from s. stands-written v r w o (subst (λ (x : Open). Grows v r w x) (sym is) grows) compared from open_still booted s)

-- it is not known whether the record was written
pub Continues-doubted : (v : View) (r : Rec) (w : Option (List (List ℕ × ℕ))) (o o' : Open) → v.in_doubt ≡ None → v.shut ≡ false → v.boot_missing ≡ false → ((p : Places) → boot_places r ≡ Some p → v.places ≡ p) → Grows v r w o' → Continues v (record v { shut = true; in_doubt = Some r; open_order = o })
Continues-doubted v r w o o' none open_still booted boots grows =
    Continues-grown v (record v { shut = true; in_doubt = Some r; open_order = o }) r boots refl refl refl refl refl refl refl (λ records possible. elim (doubted-possible v.records records r possible) [
      | inl is ↦ inl (inl is)
      | inr is ↦ inr (v.records, inl refl, is)
    ]) (begins-same v.records) (λ records was. left-doubt v.records r v.in_doubt (is_closed v) records none (rw (open_still, booted) refl) was)
    (λ compared from s. stands-doubted v r w o' grows compared from open_still booted s o)

-- the order was carried out, while no record was in doubt
pub Continues-act : (v : View) (k : Kind) (m d : Counts) (failed : Bool) (now : Option (List Motion)) (places' : Places) (f : ℕ) → v.in_doubt ≡ None
    → AddsEntry v.motions (Moved (length v.records) k m d) now → PlacesOf v.places (Moved (length v.records) k m d ∷ []) places'
    → ((compared : Bool) (from : ℕ) → StandsBehind compared from v → StandsBehind compared from (acted_view v k m d failed now places' f)) → Continues v (acted_view v k m d failed now places' f)
Continues-act v k m d failed now places' f none grows places stands = record {
  leads = λ records possible. record {
    from = v.records;
    possible = inl refl;
    led = rw (only-possible v.records records v.in_doubt none possible) (leads-motion v.motions now v.records (Moved (length v.records) k m d) v.places places' grows (omega arith) (omega arith) places);
  };
  key = refl;
  seed = refl;
  units = refl;
  moves = Moves-entry _ v.motions now v.places places' grows places;
  disk_told = refl;
  limits = refl;
  grew = begins-same v.records;
  left = λ records was. was;
  behind = stands;
}
