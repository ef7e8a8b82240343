-- Lists that a crash left before, as the journal goes on.
use Rattle.std.proofs.Common.{◌≡◌, ◌≢◌, ◌⊎◌, inl, inr, ⊎_elim, ℕ, ◌+◌, ◌<◌, ◌≤◌, Bool, true, false, List, [], ◌∷◌, ◌++◌, length, None, Some, refl, sym, ◌∙◌, ap, arith, length-append, append_assoc, true≢false}
use Rattle.std.proofs.lemmas.Bool.{cases_lt}
use Rattle.std.specs.declared.option.Option.{Option}
use Rattle.std.specs.List.{AllByRecursion}
use Rattle.xfs_base.specs.declared.counts.Places.{Places}
use Rattle.xfs_base.specs.Causes.{IfTold}
use Rattle.xfs_base.specs.declared.counts.Counts.{Counts}
use Rattle.xfs_base.specs.declared.counts.Kind.{Kind}
use Rattle.xfs_mech.specs.declared.motion.Motion.{Motion}
use Rattle.xfs_mech.specs.declared.motion.Motion.TheVariants.{Moved, Taken, Loaded}
use Rattle.xfs_mech.specs.Motions.{NumberIs}
use Rattle.xfs_journal.specs.Journal.{boot_of, boot_places, record_at, with_boot}
use Rattle.xfs_journal.proofs.StartLaws.{boot_of-places}
use Rattle.xfs_journal.specs.JournalView.{IsPossible, longest}
use Rattle.xfs_journal.specs.declared.record.Rec.{Rec}
use Rattle.xfs_journal.specs.declared.record.Rec.TheVariants.{Order}
use Rattle.xfs_journal.proofs.JournalLaws.{record_at-push, record_at-append, record_at-within, record_at-cases, record_at-pushed}
use Rattle.xfs_guard.specs.Agrees.{Agrees, IsAsked, IsNoOrder}
use Rattle.xfs_guard.specs.Lives.{BeginsWith}
use Rattle.xfs_guard.specs.Crashed.{IsTorn, IsCrashOutcome, IsLost}
use Rattle.xfs_guard.proofs.AgreesLaws.{boot-no_order}
use Rattle.xfs_guard.proofs.RecordLaws.{last-pushed}
use Rattle.xfs_guard.proofs.LifeLaws.{begins-same, begins-trans, possible-begins}

pub begins-push : (A B : List Rec) (r : Rec) → BeginsWith B A → BeginsWith (B ++ r ∷ []) A
begins-push A B r begins = begins-trans A B (B ++ r ∷ []) begins (record { more = r ∷ []; is = refl })

length-left : (records : List Rec) (d : Option Rec) (c : Bool) (X : List Rec) (l : IsTorn records d c X) → length X ≡ length l.prefix + 1
length-left records d c X l = rw l.split (length-append l.prefix (l.last ∷ []))

length-front : (records : List Rec) (d : Option Rec) (c : Bool) (X : List Rec) (l : IsTorn records d c X) → length l.prefix ≤ length records
length-front records d c X l = let size = ap length l.kept.is ∙ length-append l.prefix l.kept.more in omega (arith, size)

-- an open journal has a record in the place of each last one
reaches : (records : List Rec) (X : List Rec) → (length records < length X → false ≡ true) → length X ≤ length records
reaches records X none = elim (cases_lt (length records) (length X)) [ inl above ↦ absurd (true≢false (sym (none above))) | inr below ↦ below ]

-- one more record in an open journal
pub IsTorn-push : (records : List Rec) (r : Rec) (c : Bool) (X : List Rec) → IsTorn records None false X → IsTorn (records ++ r ∷ []) None c X
IsTorn-push records r c X l =
    let few = reaches records X l.closed_there in record {
      prefix = l.prefix;
      last = l.last;
      split = l.split;
      kept = begins-push l.prefix records r l.kept;
      replaced = λ q there. l.replaced q (sym (record_at-push records r (length X) few) ∙ there);
      closed_there = λ short. let size = length-append records (r ∷ []) in absurd (omega (arith, size, short, few));
    }

-- a record is in doubt, and the journal shut
pub IsTorn-doubt : (records : List Rec) (r : Rec) (X : List Rec) → IsTorn records None false X → IsTorn records (Some r) true X
IsTorn-doubt records r X l =
    let few = reaches records X l.closed_there in record {
      prefix = l.prefix;
      last = l.last;
      split = l.split;
      kept = l.kept;
      replaced = λ q there. l.replaced q (sym (record_at-push records r (length X) few) ∙ there);
      closed_there = λ short. refl;
    }

-- the journal is closed
pub IsTorn-close : (records : List Rec) (d : Option Rec) (c : Bool) (X : List Rec) → IsTorn records d c X → IsTorn records d true X
IsTorn-close records d c X l = record { prefix = l.prefix; last = l.last; split = l.split; kept = l.kept; replaced = l.replaced; closed_there = λ short. refl }

-- a record of a possible list is one of the longest
in_longest : (records : List Rec) (d : Option Rec) (found : List Rec) (n : ℕ) (q : Rec) → IsPossible records d found → record_at found n ≡ Some q → record_at (longest records d) n ≡ Some q
in_longest records d found n q (inl is) there = within d (rw is at there)
  where
    within : (e : Option Rec) → record_at records n ≡ Some q → record_at (longest records e) n ≡ Some q
    within None there = there
    within (Some r) there = let w = record_at-within records n q there in record_at-push records r n w.1 ∙ there
in_longest records d found n q (inr (r, doubt, is)) there = rw doubt (rw is at there)

-- a possible list is kept now, and the journal takes no record but a boot record
pub IsTorn-mount : (records : List Rec) (d : Option Rec) (c : Bool) (found X : List Rec) → IsPossible records d found → IsTorn records d c X → IsTorn found None true X
IsTorn-mount records d c found X possible l = record {
  prefix = l.prefix;
  last = l.last;
  split = l.split;
  kept = begins-trans l.prefix records found l.kept (possible-begins records d found possible);
  replaced = λ q there. l.replaced q (in_longest records d found (length X) q possible there);
  closed_there = λ short. refl;
}

-- the boot record behind it is kept, or in doubt
boots : (list : List Rec) (p : Places) (X : List Rec) (l : IsTorn list None true X) (q : Rec) → record_at (with_boot list p) (length X) ≡ Some q → (l.last ≡ q) ⊎ IsNoOrder (Some q)
boots list p X l q there = ⊎_elim (λ h. l.replaced q h.1) (λ h. inr (boot-no_order q p (ap boot_places (sym h.1) ∙ boot_of-places list p))) (record_at-cases list (boot_of list p) (length X) q there)

pub IsTorn-boot : (list : List Rec) (p : Places) (c : Bool) (X : List Rec) → IsTorn list None true X → IsTorn (with_boot list p) None c X
IsTorn-boot list p c X l = record {
  prefix = l.prefix;
  last = l.last;
  split = l.split;
  kept = begins-push l.prefix list (boot_of list p) l.kept;
  replaced = boots list p X l;
  closed_there = λ short.
      let size = length-append list (boot_of list p ∷ []) in let many = length-left list None true X l in let few = length-front list None true X l in
      absurd (omega (arith, size, many, few, short));
}

pub IsTorn-boot_doubt : (list : List Rec) (p : Places) (X : List Rec) → IsTorn list None true X → IsTorn list (Some (boot_of list p)) true X
IsTorn-boot_doubt list p X l = record { prefix = l.prefix; last = l.last; split = l.split; kept = l.kept; replaced = boots list p X l; closed_there = λ short. refl }

-- the record in doubt behind the records
pub IsTorn-in_doubt : (list : List Rec) (r : Rec) → IsTorn list (Some r) true (list ++ r ∷ [])
IsTorn-in_doubt list r = record {
  prefix = list;
  last = r;
  split = refl;
  kept = begins-same list;
  replaced = λ q there. let same : Some r ≡ Some q = sym (last-pushed list r) ∙ there in inl cc;
  closed_there = λ short. refl;
}

-- a record that a journal without room never took
pub IsTorn-missing : (records : List Rec) (r : Rec) → IsTorn records None true (records ++ r ∷ [])
IsTorn-missing records r = record {
  prefix = records;
  last = r;
  split = refl;
  kept = begins-same records;
  replaced = λ q there. let w = record_at-within records (length (records ++ r ∷ [])) q there in let size = length-append records (r ∷ []) in absurd (omega (arith, size, w.1));
  closed_there = λ short. refl;
}

-- lists that were left, behind one more record of an open journal
pub left-push : (records : List Rec) (r : Rec) (d : Option Rec) (s c : Bool) (X : List Rec) → d ≡ None → s ≡ false → IsCrashOutcome records d s X → IsCrashOutcome (records ++ r ∷ []) None c X
left-push records r d s c X none open_still (inl begins) = inl (begins-push X records r begins)
left-push records r d s c X none open_still (inr loose) = inr (IsTorn-push records r c X (rw (none, open_still) at loose))

-- lists that were left, while this record is in doubt
pub left-doubt : (records : List Rec) (r : Rec) (d : Option Rec) (s : Bool) (X : List Rec) → d ≡ None → s ≡ false → IsCrashOutcome records d s X → IsCrashOutcome records (Some r) true X
left-doubt records r d s X none open_still (inl begins) = inl begins
left-doubt records r d s X none open_still (inr loose) = inr (IsTorn-doubt records r X (rw (none, open_still) at loose))

-- lists that were left, once the journal is closed
pub left-close : (records : List Rec) (d : Option Rec) (s : Bool) (X : List Rec) → IsCrashOutcome records d s X → IsCrashOutcome records d true X
left-close records d s X (inl begins) = inl begins
left-close records d s X (inr loose) = inr (IsTorn-close records d s X loose)

-- lists that were left, once a possible list was read again
pub left-mount : (records : List Rec) (d : Option Rec) (s : Bool) (found X : List Rec) → IsPossible records d found → IsCrashOutcome records d s X → IsCrashOutcome found None true X
left-mount records d s found X possible (inl begins) = inl (begins-trans X records found begins (possible-begins records d found possible))
left-mount records d s found X possible (inr loose) = inr (IsTorn-mount records d s found X possible loose)

-- the boot record is kept behind it
pub left-boot : (list : List Rec) (p : Places) (c : Bool) (X : List Rec) → IsCrashOutcome list None true X → IsCrashOutcome (with_boot list p) None c X
left-boot list p c X (inl begins) = inl (begins-push X list (boot_of list p) begins)
left-boot list p c X (inr loose) = inr (IsTorn-boot list p c X loose)

-- the boot record is in doubt behind it
pub left-boot_doubt : (list : List Rec) (p : Places) (X : List Rec) → IsCrashOutcome list None true X → IsCrashOutcome list (Some (boot_of list p)) true X
left-boot_doubt list p X (inl begins) = inl begins
left-boot_doubt list p X (inr loose) = inr (IsTorn-boot_doubt list p X loose)

-- one more record of the list is its next
begins-next : (F R : List Rec) (l : Rec) → BeginsWith R F → record_at R (length F + 1) ≡ Some l → BeginsWith R (F ++ l ∷ [])
begins-next F R l begins there = go begins.more begins.is
  where
    go : (more : List Rec) → R ≡ F ++ more → BeginsWith R (F ++ l ∷ [])
    go [] is = let w = record_at-within R (length F + 1) l there in let size = ap length is ∙ length-append F [] in absurd (omega (arith, size, w.1))
    go (x ∷ xs) is = record { more = xs; is = rw (← same) split }
      where
        split : R ≡ (F ++ x ∷ []) ++ xs
        split = is ∙ sym (append_assoc F (x ∷ []) xs)

        here : record_at R (length F + 1) ≡ Some x
        here = ap (λ (l : List Rec). record_at l (length F + 1)) split ∙ record_at-append (F ++ x ∷ []) xs (length F + 1) (let size = length-append F (x ∷ []) in omega (arith, size)) ∙ record_at-pushed F x

        same : x ≡ l
        same = let e : Some x ≡ Some l = sym here ∙ there in cc

-- a motion has the number of an order
not_numbered : (R : List Rec) (n : ℕ) (motions : List Motion) → ((k : Kind) (c : Counts) → record_at R n ≢ Some (Order k c)) → AllByRecursion (IsAsked R) motions → AllByRecursion (NumberIs (λ m. m ≢ n)) motions
not_numbered R n [] none asked = tt
not_numbered R n (Moved m k moved diverted ∷ motions) none (a, all) = ((λ same. none k a.counts (rw same at a.ordered)), not_numbered R n motions none all)
not_numbered R n (Taken moved ∷ motions) none (a, all) = (tt, not_numbered R n motions none all)
not_numbered R n (Loaded unit count ∷ motions) none (a, all) = (tt, not_numbered R n motions none all)

-- a list that was left is a prefix of what the disk has, or no motion has its last record's number
loose-front : (records : List Rec) (d : Option Rec) (c : Bool) (X R : List Rec) (motions : Option (List Motion)) → IsTorn records d c X → IsPossible records d R → IfTold motions (Agrees R) → BeginsWith R X ⊎ IsLost R motions X
loose-front records d c X R motions l possible agrees = by_record (record_at R (length X)) refl
  where
    prefix : BeginsWith R l.prefix
    prefix = begins-trans l.prefix records R l.kept (possible-begins records d R possible)

    lost : ((k : Kind) (n : Counts) → record_at R (length X) ≢ Some (Order k n)) → BeginsWith R X ⊎ IsLost R motions X
    lost none = inr (record { prefix = l.prefix; last = l.last; split = l.split; kept = prefix; unmoved = unmoved motions agrees })
      where
        unmoved : (m : Option (List Motion)) → IfTold m (Agrees R) → IfTold m (AllByRecursion (NumberIs (λ n. n ≢ length X)))
        unmoved None a = tt
        unmoved (Some m) a = not_numbered R (length X) m none a.asked

    some_same : (a b : Rec) → Some a ≡ Some b → a ≡ b
    some_same a b e = cc

    by_record : (r : Option Rec) → record_at R (length X) ≡ r → BeginsWith R X ⊎ IsLost R motions X
    by_record None is = lost (λ k n there. let e : None ≡ Some (Order k n) = sym is ∙ there in cc)
    by_record (Some q) is = ⊎_elim
        (λ same. inl (rw l.split (begins-next l.prefix R l.last prefix (ap (record_at R) (sym (length-left records d c X l)) ∙ is ∙ ap Some (sym same)))))
        (λ none. lost (λ k n there. let e : q ≡ Order k n = some_same q (Order k n) (sym is ∙ there) in rw e at none))
        (l.replaced q (in_longest records d R (length X) q possible is))

pub left-front : (records : List Rec) (d : Option Rec) (c : Bool) (X R : List Rec) (motions : Option (List Motion)) → IsCrashOutcome records d c X → IsPossible records d R → IfTold motions (Agrees R) → BeginsWith R X ⊎ IsLost R motions X
left-front records d c X R motions (inl begins) possible agrees = inl (begins-trans X records R begins (possible-begins records d R possible))
left-front records d c X R motions (inr loose) possible agrees = loose-front records d c X R motions loose possible agrees
