-- What a guard keeps when a record is appended.
use Rattle.std.proofs.Common.{◌≡◌, inl, inr, ℕ, suc, ◌+◌, ◌-◌, ◌<◌, ◌≤◌, Bool, false, List, [], ◌∷◌, ◌++◌, length, None, Some, refl, sym, ◌∙◌, ap, take, zero-add, add-zero, arith, length-append}
use Rattle.std.proofs.lemmas.List.{length-take}
use Rattle.std.specs.Prelude.{fold, ⊤}
use Rattle.std.specs.declared.option.Option.{Option}
use Rattle.std.specs.Option.{option_map}
use Rattle.std.specs.List.{Contains}
use Rattle.std.proofs.lemmas.List.Sums.{sum_by-cons}
use Rattle.xfs_base.specs.declared.counts.Counts.{Counts}
use Rattle.xfs_base.specs.declared.counts.Places.{Places}
use Rattle.xfs_base.specs.declared.money.NoteKind.{NoteKind}
use Rattle.xfs_base.specs.declared.counts.Kind.{Kind}
use Rattle.xfs_base.specs.declared.counts.Kind.TheVariants.{Stack, Present, Reject, Retract}
use Rattle.xfs_base.specs.Causes.{IfTold}
use Rattle.xfs_base.specs.Counts.{LiesIn}
use Rattle.xfs_base.specs.Money.{value}
use Rattle.xfs_token.specs.Token.{Parts}
use Rattle.xfs_token.specs.Amounts.{amount, amounts_of}
use Rattle.xfs_mech.specs.declared.motion.Motion.{Motion}
use Rattle.xfs_mech.specs.declared.motion.Motion.TheVariants.{Moved, Taken, Loaded}
use Rattle.xfs_mech.specs.Mechanism.{source_of}
use Rattle.xfs_mech.proofs.MotionLaws.{all-numbers}
use Rattle.xfs_journal.specs.Image.{HasUnit, body}
use Rattle.xfs_journal.specs.declared.record.Rec.{Rec}
use Rattle.xfs_journal.specs.declared.record.Rec.TheVariants.{Issue, Clear, Expire, Boot, Start, Bind, Order, Done, Load}
use Rattle.xfs_journal.specs.Journal.{boot_places, record_at, live_at, live_of, live_after, mark_after, Binding, binding_of, token_of, next_number, next_issue, CarriesNumber, Reading, reading_after, nothing_read, is_place}
use Rattle.xfs_journal.proofs.JournalLaws.{live_of-push, live_at-pushed, token_of-push, record_at-pushed, Walk-push, eqb-same, eqb-no}
use Rattle.xfs_guard.specs.declared.open.Open.{Open}
use Rattle.xfs_guard.specs.declared.open.Open.TheVariants.{No, Written, Acted}
use Rattle.xfs_guard.specs.Nonce.{EndsNonce, live_nonce}
use Rattle.xfs_guard.specs.View.{View}
use Rattle.xfs_guard.specs.Agrees.{MayFollow, IsNoOrder}
use Rattle.xfs_guard.specs.Within.{IsOfNonce, shown, shown_by}
use Rattle.xfs_guard.specs.Presented.{done_worth, presented_in, unsettled}
use Rattle.xfs_guard.specs.Budget.{IsFunded}
use Rattle.xfs_guard.specs.Sound.{IsReleased, IfPresent, OpenIsNewest, HasActed, Ties, where_told, IsSound}
use Rattle.xfs_guard.proofs.AgreesLaws.{Agrees-record, numbers_within}
use Rattle.xfs_guard.proofs.PresentedLaws.{presented_in-push}
use Rattle.xfs_guard.proofs.WithinLaws.{Within-record, shown-record, carries-record}

-- the guard after a record was appended
abbrev pub longer : View → Rec → Option (List (List ℕ × ℕ)) → Open → View
longer v r b o = record v { records = v.records ++ r ∷ []; bound = b; open_order = o }

pub length-pushed : (records : List Rec) (r : Rec) → length (records ++ r ∷ []) ≡ length records + 1
length-pushed records r = length-append records (r ∷ [])

pub last-pushed : (records : List Rec) (r : Rec) → record_at (records ++ r ∷ []) (length (records ++ r ∷ [])) ≡ Some r
last-pushed records r = rw length-pushed (record_at-pushed records r)

Ties-record : (v : View) (r : Rec) (w : Option (List (List ℕ × ℕ))) (o : Open) (motions : List Motion) → Ties v motions → MayFollow (record_at v.records (length v.records)) r
    → ((k : Kind) (c m d : Counts) → record_at v.records (length v.records) ≡ Some (Order k c) → r ≡ Done m d → Contains motions (Moved (length v.records) k m d))
    → ((p : ℕ) (c : List ℕ) → live_of (v.records ++ r ∷ []) ≡ Some p → shown v.units v.records motions p c ≡ presented_in v.units (v.records ++ r ∷ []) c + unsettled v.units o c)
    → HasActed o (v.records ++ r ∷ []) motions → Ties (longer v r w o) motions
Ties-record v r w o motions t may done counted acted =
    let known = numbers_within v.records motions t.agrees in record {
      agrees = Agrees-record v.records r motions t.agrees may done;
      within = Within-record v.key v.units v.records r motions known t.within;
      counted = λ p c lives. shown-record v.units v.records r p c motions known ∙ counted p c lives;
      acted = acted;
    }

-- an order is written behind a record that is none
pub Ties-order : (v : View) (k : Kind) (c : Counts) (motions : List Motion) → v.open_order ≡ No → IsNoOrder (record_at v.records (length v.records)) → Ties v motions → Ties (longer v (Order k c) v.bound (Written k c)) motions
Ties-order v k c motions none before t = Ties-record v (Order k c) v.bound (Written k c) motions t before (λ k' c' m' d o e. cc)
    (λ p cur lives.
    let was = rw none at (t.counted p cur (sym (live_of-push v.records (Order k c)) ∙ lives)) in
    was ∙ ap (λ n. n + 0) (sym (presented_in-push v.units v.records (Order k c) cur)))
    (rw length-pushed (all-numbers (λ n. n ≤ length v.records) (λ n. n < length v.records + 1) motions (λ n le. omega arith) (numbers_within v.records motions t.agrees)))

-- an order is written
pub IsSound-order : (v : View) (k : Kind) (c : Counts) → IsSound v → v.open_order ≡ No → LiesIn c (source_of k v.places)
    → IfPresent k (IsReleased (v.records ++ Order k c ∷ []))
    → ((p : ℕ) (b : List ℕ) → live_of v.records ≡ Some p → token_of v.records p ≡ Some b → IsFunded (record v { open_order = Written k c }) p b)
    → IsSound (longer v (Order k c) v.bound (Written k c))
IsSound-order v k c s none lies released funded = record {
  numbered = λ told. Walk-push next_number CarriesNumber 1 v.records (Order k c) (s.numbered told) tt;
  stands = (last-pushed v.records (Order k c), lies, released);
  budget = record {
    funded = λ p b lives bound.
        let f = funded p b (live p lives) (sym (token_of-push v.records (Order k c) p) ∙ bound) in record {
          token = f.token;
          carries = carries-record v.key v.records (Order k c) p b f.token f.carries;
          amounts = f.amounts;
          amounts_are = f.amounts_are;
          kept = f.kept;
          enough = λ cur. let e = presented_in-push v.units v.records (Order k c) cur in let w = f.enough cur in rw e w;
        };
    unbound = λ p lives free.
        let old = s.budget.unbound p (live p lives) (sym (token_of-push v.records (Order k c) p) ∙ free) in
        (old.0, λ cur. presented_in-push v.units v.records (Order k c) cur ∙ old.1 cur);
    dead = λ dead. s.budget.dead (sym (live_of-push v.records (Order k c)) ∙ dead);
  };
  told = ties (where_told v.disk_told v.motions) s.told;
}
  where
    live : (p : ℕ) → live_of (v.records ++ Order k c ∷ []) ≡ Some p → live_of v.records ≡ Some p
    live p lives = sym (live_of-push v.records (Order k c)) ∙ lives

    before : IsNoOrder (record_at v.records (length v.records))
    before = rw none at s.stands

    ties : (told : Option (List Motion)) → IfTold told (Ties v) → IfTold told (Ties (longer v (Order k c) v.bound (Written k c)))
    ties None t = tt
    ties (Some motions) t = Ties-order v k c motions none before t

-- the worth of a done record is that of the order's motion
done_worth-settles : (u : List NoteKind) (cur : List ℕ) (last : Option Rec) (k : Kind) (c m d : Counts) (failed : Bool) → last ≡ Some (Order k c)
    → done_worth u cur last m ≡ unsettled u (Acted k m d failed) cur
done_worth-settles u cur last Present c m d failed e = rw e refl
done_worth-settles u cur last Stack c m d failed e = rw e refl
done_worth-settles u cur last Reject c m d failed e = rw e refl
done_worth-settles u cur last Retract c m d failed e = rw e refl

-- where no token is bound, nothing that was acted counts
unsettled-unbound : (v : View) (k : Kind) (m d : Counts) (failed : Bool) (p : ℕ) (cur : List ℕ) → IfPresent k (IsReleased v.records) → live_of v.records ≡ Some p → token_of v.records p ≡ None
    → unsettled v.units (Acted k m d failed) cur ≡ 0
unsettled-unbound v Present m d failed p cur r lives free =
    let same : r.number ≡ p = (let e : Some r.number ≡ Some p = sym r.lives ∙ lives in cc) in
    let none : Some r.bytes ≡ None = sym r.bound ∙ rw same free in
    cc
unsettled-unbound v Stack m d failed p cur r lives free = refl
unsettled-unbound v Reject m d failed p cur r lives free = refl
unsettled-unbound v Retract m d failed p cur r lives free = refl

-- the order that stands last is settled
pub Ties-done : (v : View) (k : Kind) (c m d : Counts) (failed : Bool) (motions : List Motion) → v.open_order ≡ Acted k m d failed → record_at v.records (length v.records) ≡ Some (Order k c) → Ties v motions
    → Ties (longer v (Done m d) v.bound No) motions
Ties-done v k c m d failed motions acted last t = Ties-record v (Done m d) v.bound No motions t (rw last tt) moved
    (λ p cur lives. let was = rw acted at (t.counted p cur (sym (live_of-push v.records (Done m d)) ∙ lives)) in let e = worth cur in omega (arith, was, e))
    tt
  where
    worth : (cur : List ℕ) → presented_in v.units (v.records ++ Done m d ∷ []) cur ≡ presented_in v.units v.records cur + unsettled v.units (Acted k m d failed) cur
    worth cur = presented_in-push v.units v.records (Done m d) cur
        ∙ ap (λ n. presented_in v.units v.records cur + n) (done_worth-settles v.units cur (record_at v.records (length v.records)) k c m d failed last)

    moved : (k' : Kind) (c' m' d' : Counts) → record_at v.records (length v.records) ≡ Some (Order k' c') → Done m d ≡ Done m' d' → Contains motions (Moved (length v.records) k' m' d')
    moved k' c' m' d' o e =
        let mine : Contains motions (Moved (length v.records) k m d) = rw acted at t.acted in
        let same : Some (Order k c) ≡ Some (Order k' c') = sym last ∙ o in
        let kinds : k ≡ k' = cc in
        let ms : m ≡ m' = cc in
        let ds : d ≡ d' = cc in
        rw (← kinds, ← ms, ← ds) mine

-- the order is settled
pub IsSound-done : (v : View) (k : Kind) (m d : Counts) (failed : Bool) → IsSound v → v.open_order ≡ Acted k m d failed → IsSound (longer v (Done m d) v.bound No)
IsSound-done v k m d failed s acted = record {
  numbered = λ told. Walk-push next_number CarriesNumber 1 v.records (Done m d) (s.numbered told) tt;
  stands = rw last-pushed tt;
  budget = record {
    funded = λ p b lives bound.
        let f = s.budget.funded p b (live p lives) (sym (token_of-push v.records (Done m d) p) ∙ bound) in record {
          token = f.token;
          carries = carries-record v.key v.records (Done m d) p b f.token f.carries;
          amounts = f.amounts;
          amounts_are = f.amounts_are;
          kept = f.kept;
          enough = λ cur. let e = worth cur in let w = rw acted at (f.enough cur) in omega (arith, e, w);
        };
    unbound = λ p lives free.
        let free' = sym (token_of-push v.records (Done m d) p) ∙ free in
        let old = s.budget.unbound p (live p lives) free' in
        (old.0, λ cur. let e = worth cur in let z = old.1 cur in let u = unsettled-unbound v k m d failed p cur stands.2 (live p lives) free' in omega (arith, e, z, u));
    dead = λ dead. s.budget.dead (sym (live_of-push v.records (Done m d)) ∙ dead);
  };
  told = ties (where_told v.disk_told v.motions) s.told;
}
  where
    live : (p : ℕ) → live_of (v.records ++ Done m d ∷ []) ≡ Some p → live_of v.records ≡ Some p
    live p lives = sym (live_of-push v.records (Done m d)) ∙ lives

    stands : OpenIsNewest (Acted k m d failed) v.records v.places
    stands = rw acted at s.stands

    worth : (cur : List ℕ) → presented_in v.units (v.records ++ Done m d ∷ []) cur ≡ presented_in v.units v.records cur + unsettled v.units (Acted k m d failed) cur
    worth cur = presented_in-push v.units v.records (Done m d) cur
        ∙ ap (λ n. presented_in v.units v.records cur + n) (done_worth-settles v.units cur (record_at v.records (length v.records)) k stands.0 m d failed stands.1)

    ties : (told : Option (List Motion)) → IfTold told (Ties v) → IfTold told (Ties (longer v (Done m d) v.bound No))
    ties None t = tt
    ties (Some motions) t = Ties-done v k stands.0 m d failed motions acted stands.1 t

-- the live issue is one of the records
abbrev pub LivesWithin : ℕ → Option ℕ → Type 0
LivesWithin count None = ⊤
LivesWithin count (Some p) = p ≤ count

lives-later : (count : ℕ) (l : Option ℕ) → LivesWithin count l → LivesWithin (count + 1) l
lives-later count None h = tt
lives-later count (Some p) h = omega arith

pub lives-step : (count : ℕ) (l : Option ℕ) (r : Rec) → LivesWithin count l → LivesWithin (count + 1) (live_after count l r)
lives-step count l (Issue n w) h = omega arith
lives-step count l Clear h = tt
lives-step count l Expire h = tt
lives-step count l (Boot p) h = tt
lives-step count l (Start issues p) h = tt
lives-step count l (Bind t) h = lives-later count l h
lives-step count l (Order k c) h = lives-later count l h
lives-step count l (Done m d) h = lives-later count l h
lives-step count l (Load u n) h = lives-later count l h

lives-from : (s : Reading) (records : List Rec) → LivesWithin s.count s.live → LivesWithin (s.count + length records) (fold reading_after s records).live
lives-from s [] h = rw add-zero h
lives-from s (r ∷ rs) h = let e : s.count + suc (length rs) ≡ s.count + 1 + length rs = omega arith in rw e (lives-from (reading_after s r) rs (lives-step s.count s.live r h))

pub lives-within : (records : List Rec) → LivesWithin (length records) (live_of records)
lives-within records = rw zero-add at (lives-from nothing_read records tt)

pub is_place-no : (l : Option ℕ) (count p : ℕ) → LivesWithin count l → count < p → is_place p l ≡ false
is_place-no None count p h lt = refl
is_place-no (Some q) count p h lt = eqb-no q p (omega arith)

-- nothing was put out for an issue that is yet to come
pub shown-before : (u : List NoteKind) (records : List Rec) (p : ℕ) (cur : List ℕ) (motions : List Motion) → length records < p → shown u records motions p cur ≡ 0
shown-before u records p cur [] lt = refl
shown-before u records p cur (m ∷ ms) lt = rw (sum_by-cons, none m, shown-before u records p cur ms lt) refl
  where
    none : (m : Motion) → shown_by u records p cur m ≡ 0
    none (Moved n Present moved d) =
        let few : length (take (n - 1) records) ≤ length records = omega (arith, length-take (n - 1) records) in
        rw (is_place-no (live_at records n) (length (take (n - 1) records)) p (lives-within (take (n - 1) records)) (omega arith)) refl
    none (Moved n Stack moved d) = refl
    none (Moved n Reject moved d) = refl
    none (Moved n Retract moved d) = refl
    none (Taken c) = refl
    none (Loaded i n) = refl

-- a nonce is issued behind a record that is no order
pub Ties-issue : (v : View) (number word : ℕ) (motions : List Motion) → IsNoOrder (record_at v.records (length v.records)) → Ties v motions → Ties (longer v (Issue number word) None No) motions
Ties-issue v number word motions before t = Ties-record v (Issue number word) None No motions t before (λ k' c' m' d' o e. cc)
    (λ p cur lives.
    let e = issued p lives in
    let z = shown-before v.units v.records p cur motions (omega arith) in
    let w = presented_in-push v.units v.records (Issue number word) cur in omega (arith, z, w))
    tt
  where
    issued : (p : ℕ) → live_of (v.records ++ Issue number word ∷ []) ≡ Some p → length v.records + 1 ≡ p
    issued p lives = let e : Some (length v.records + 1) ≡ Some p = sym (live_of-push v.records (Issue number word)) ∙ lives in cc

-- a nonce is issued
pub IsSound-issue : (v : View) (number word : ℕ) → IsSound v → v.open_order ≡ No → number ≡ next_issue v.records → IsSound (longer v (Issue number word) None No)
IsSound-issue v number word s none is = record {
  numbered = λ told. Walk-push next_number CarriesNumber 1 v.records (Issue number word) (s.numbered told) is;
  stands = rw last-pushed tt;
  budget = record {
    funded = λ p b lives bound. absurd (free p b (issued p lives) bound);
    unbound = λ p lives free. (refl, λ cur. presented_in-push v.units v.records (Issue number word) cur);
    dead = λ dead. refl;
  };
  told = ties (where_told v.disk_told v.motions) s.told;
}
  where
    issued : (p : ℕ) → live_of (v.records ++ Issue number word ∷ []) ≡ Some p → length v.records + 1 ≡ p
    issued p lives = let e : Some (length v.records + 1) ≡ Some p = sym (live_of-push v.records (Issue number word)) ∙ lives in cc

    free : (p : ℕ) (b : List ℕ) → length v.records + 1 ≡ p → token_of (v.records ++ Issue number word ∷ []) p ≡ Some b → ⊥
    free p b e bound =
        let t : token_of (v.records ++ Issue number word ∷ []) p ≡ None = token_of-push v.records (Issue number word) p ∙ rw (e, eqb-same p) refl in
        cc

    before : IsNoOrder (record_at v.records (length v.records))
    before = rw none at s.stands

    ties : (told : Option (List Motion)) → IfTold told (Ties v) → IfTold told (Ties (longer v (Issue number word) None No))
    ties None t = tt
    ties (Some motions) t = Ties-issue v number word motions before t

-- a record is written behind which no nonce lives
pub Ties-mark : (v : View) (r : Rec) (w : Option (List (List ℕ × ℕ))) (motions : List Motion) → ((n : ℕ) (l : Option ℕ) → live_after n l r ≡ None) → MayFollow (record_at v.records (length v.records)) r
    → ((m d : Counts) → r ≡ Done m d → ⊥) → Ties v motions → Ties (longer v r w No) motions
Ties-mark v r w motions dies may other t = Ties-record v r w No motions t may (λ k' c' m' d' o e. absurd (other m' d' e)) (λ p cur lives. absurd (gone p lives)) tt
  where
    gone : (p : ℕ) → live_of (v.records ++ r ∷ []) ≡ Some p → ⊥
    gone p lives = let e : None ≡ Some p = sym (live_of-push v.records r ∙ dies (length v.records) (live_of v.records)) ∙ lives in cc

-- a mark is written behind which no nonce lives
sound-end : (v : View) (r : Rec) → IsSound v → v.open_order ≡ No → ((n : ℕ) → CarriesNumber n r) → ((n : ℕ) (l : Option ℕ) → live_after n l r ≡ None) → IsNoOrder (Some r)
    → ((last : Option Rec) → IsNoOrder last → MayFollow last r) → ((m d : Counts) → r ≡ Done m d → ⊥) → IsSound (longer v r None No)
sound-end v r s none numbers dies plain may other = record {
  numbered = λ told. Walk-push next_number CarriesNumber 1 v.records r (s.numbered told) (numbers _);
  stands = rw last-pushed plain;
  budget = record {
    funded = λ p b lives bound. absurd (gone p lives);
    unbound = λ p lives free. absurd (gone p lives);
    dead = λ dead. refl;
  };
  told = ties (where_told v.disk_told v.motions) s.told;
}
  where
    gone : (p : ℕ) → live_of (v.records ++ r ∷ []) ≡ Some p → ⊥
    gone p lives = let e : None ≡ Some p = sym (live_of-push v.records r ∙ dies (length v.records) (live_of v.records)) ∙ lives in cc

    before : IsNoOrder (record_at v.records (length v.records))
    before = rw none at s.stands

    ties : (told : Option (List Motion)) → IfTold told (Ties v) → IfTold told (Ties (longer v r None No))
    ties None t = tt
    ties (Some motions) t = Ties-mark v r None motions dies (may _ before) other t

-- the live nonce is cleared, or its life is over
pub IsSound-end : (v : View) (r : Rec) → EndsNonce r → IsSound v → v.open_order ≡ No → IsSound (longer v r None No)
IsSound-end v r (inl is) s none = rw is (sound-end v Clear s none (λ n. tt) (λ n l. refl) tt (λ last h. h) (λ m d e. cc))
IsSound-end v r (inr is) s none = rw is (sound-end v Expire s none (λ n. tt) (λ n l. refl) tt (λ last h. h) (λ m d e. cc))

-- what ends a nonce is short, has no unit and is no boot record, and no nonce lives behind it
pub ends-short : (r : Rec) → EndsNonce r → length (body r) ≤ 1025
ends-short r (inl is) = rw is (omega arith)
ends-short r (inr is) = rw is (omega arith)

pub ends-unit : (r : Rec) → EndsNonce r → HasUnit r
ends-unit r (inl is) = rw is tt
ends-unit r (inr is) = rw is tt

pub ends-plain : (r : Rec) (p : Places) → EndsNonce r → boot_places r ≡ Some p → ⊥
ends-plain r p (inl is) e = let no : None ≡ Some p = sym (ap boot_places is) ∙ e in cc
ends-plain r p (inr is) e = let no : None ≡ Some p = sym (ap boot_places is) ∙ e in cc

pub ends-live : (r : Rec) → EndsNonce r → (k : ℕ) (x : Option ℕ) → live_after k x r ≡ None
ends-live r (inl is) k x = rw is refl
ends-live r (inr is) k x = rw is refl

pub ends-mark : (r : Rec) → EndsNonce r → (k x : ℕ) → mark_after k x r ≡ k + 1
ends-mark r (inl is) k x = rw is refl
ends-mark r (inr is) k x = rw is refl

pub ends-number : (r : Rec) → EndsNonce r → (k : ℕ) → next_number k r ≡ k
ends-number r (inl is) k = rw is refl
ends-number r (inr is) k = rw is refl

pub ends-dead : (records : List Rec) (r : Rec) → EndsNonce r → live_nonce (records ++ r ∷ []) ≡ None
ends-dead records r ends = rw (live_of-push, ends-live r ends (length records) (live_of records)) refl

-- where no token is bound there is no Bind
no-binding : (records : List Rec) (p : ℕ) → token_of records p ≡ None → binding_of records p ≡ None
no-binding records p e = of (binding_of records p) e
  where
    of : (o : Option Binding) → option_map (λ (b : Binding). b.token) o ≡ None → o ≡ None
    of None h = refl
    of (Some b) h = cc

-- a token is bound behind a record that is no order
pub Ties-bind : (v : View) (b : List ℕ) (w : Option (List (List ℕ × ℕ))) (motions : List Motion) → v.open_order ≡ No → IsNoOrder (record_at v.records (length v.records)) → Ties v motions → Ties (longer v (Bind b) w No) motions
Ties-bind v b w motions none before t = Ties-record v (Bind b) w No motions t before (λ k' c' m' d' o e. cc)
    (λ q cur l.
    let was = rw none at (t.counted q cur (sym (live_of-push v.records (Bind b)) ∙ l)) in
    let more = presented_in-push v.units v.records (Bind b) cur in omega (arith, was, more))
    tt

-- a token is bound to the live nonce, which had none
pub IsSound-bind : (v : View) (p : ℕ) (b : List ℕ) (t : Parts) (amounts : List (List ℕ × ℕ)) → IsSound v → v.open_order ≡ No → live_of v.records ≡ Some p → token_of v.records p ≡ None
    → IsOfNonce v.key v.records p b t → amounts_of t ≡ Some amounts → ((c : List ℕ) → value v.units v.places.transport c ≤ amount t c)
    → IsSound (longer v (Bind b) (Some amounts) No)
IsSound-bind v p b t amounts s none lives unbound carries are enough = record {
  numbered = λ told. Walk-push next_number CarriesNumber 1 v.records (Bind b) (s.numbered told) tt;
  stands = rw last-pushed tt;
  budget = record {
    funded = λ q x l bound. funded q x (live q l) bound;
    unbound = λ q l free. absurd (taken q (live q l) free);
    dead = λ dead. (let e : Some p ≡ None = sym lives ∙ (sym (live_of-push v.records (Bind b)) ∙ dead) in cc);
  };
  told = ties (where_told v.disk_told v.motions) s.told;
}
  where
    live : (q : ℕ) → live_of (v.records ++ Bind b ∷ []) ≡ Some q → live_of v.records ≡ Some q
    live q l = sym (live_of-push v.records (Bind b)) ∙ l

    token : token_of (v.records ++ Bind b ∷ []) p ≡ Some b
    token = token_of-push v.records (Bind b) p ∙ rw (lives, no-binding v.records p unbound, eqb-same p) refl

    taken : (q : ℕ) → live_of v.records ≡ Some q → token_of (v.records ++ Bind b ∷ []) q ≡ None → ⊥
    taken q l free =
        let same : p ≡ q = cc in
        let none : Some b ≡ None = sym token ∙ rw (← same) at free in
        cc

    before : IsNoOrder (record_at v.records (length v.records))
    before = rw none at s.stands

    funded : (q : ℕ) (x : List ℕ) → live_of v.records ≡ Some q → token_of (v.records ++ Bind b ∷ []) q ≡ Some x → IsFunded (longer v (Bind b) (Some amounts) No) q x
    funded q x l bound =
        let same : p ≡ q = cc in
        let both : Some b ≡ Some x = sym token ∙ rw (← same) at bound in
        let is : b ≡ x = cc in
        rw (← same, ← is) (record {
          token = t;
          carries = carries-record v.key v.records (Bind b) p b t carries;
          amounts = amounts;
          amounts_are = are;
          kept = refl;
          enough = λ cur. let w = presented_in-push v.units v.records (Bind b) cur in let z = (s.budget.unbound p lives unbound).1 cur in let n = enough cur in omega (arith, w, z, n);
        })

    ties : (told : Option (List Motion)) → IfTold told (Ties v) → IfTold told (Ties (longer v (Bind b) (Some amounts) No))
    ties None u = tt
    ties (Some motions) u = Ties-bind v b (Some amounts) motions none before u

-- a loading is written behind a record that is no order
pub Ties-load : (v : View) (unit count : ℕ) (motions : List Motion) → v.open_order ≡ No → IsNoOrder (record_at v.records (length v.records)) → Ties v motions → Ties (longer v (Load unit count) v.bound No) motions
Ties-load v unit count motions none before t = Ties-record v (Load unit count) v.bound No motions t before (λ k' c' m' d' o e. cc)
    (λ p cur lives.
    let was = rw none at (t.counted p cur (sym (live_of-push v.records (Load unit count)) ∙ lives)) in
    let e = presented_in-push v.units v.records (Load unit count) cur in omega (arith, was, e))
    tt

-- a loading is written
pub IsSound-load : (v : View) (unit count : ℕ) → IsSound v → v.open_order ≡ No → IsSound (longer v (Load unit count) v.bound No)
IsSound-load v unit count s none = record {
  numbered = λ told. Walk-push next_number CarriesNumber 1 v.records (Load unit count) (s.numbered told) tt;
  stands = rw last-pushed tt;
  budget = record {
    funded = λ p b lives bound.
        let f = s.budget.funded p b (live p lives) (sym (token_of-push v.records (Load unit count) p) ∙ bound) in record {
          token = f.token;
          carries = carries-record v.key v.records (Load unit count) p b f.token f.carries;
          amounts = f.amounts;
          amounts_are = f.amounts_are;
          kept = f.kept;
          enough = λ cur. let e = presented_in-push v.units v.records (Load unit count) cur in let w = rw none at (f.enough cur) in omega (arith, e, w);
        };
    unbound = λ p lives free.
        let old = s.budget.unbound p (live p lives) (sym (token_of-push v.records (Load unit count) p) ∙ free) in
        (old.0, λ cur. presented_in-push v.units v.records (Load unit count) cur ∙ old.1 cur);
    dead = λ dead. s.budget.dead (sym (live_of-push v.records (Load unit count)) ∙ dead);
  };
  told = ties (where_told v.disk_told v.motions) s.told;
}
  where
    live : (p : ℕ) → live_of (v.records ++ Load unit count ∷ []) ≡ Some p → live_of v.records ≡ Some p
    live p lives = sym (live_of-push v.records (Load unit count)) ∙ lives

    before : IsNoOrder (record_at v.records (length v.records))
    before = rw none at s.stands

    ties : (told : Option (List Motion)) → IfTold told (Ties v) → IfTold told (Ties (longer v (Load unit count) v.bound No))
    ties None t = tt
    ties (Some motions) t = Ties-load v unit count motions none before t

-- what an order to present wants of the journal before it
pub released-order : (records : List Rec) (c : Counts) (p : ℕ) (b : List ℕ) → live_of records ≡ Some p → token_of records p ≡ Some b → IsReleased (records ++ Order Present c ∷ [])
released-order records c p b lives bound = record {
  number = p;
  bytes = b;
  before = rw length-pushed (live_at-pushed records (Order Present c) ∙ lives);
  lives = live_of-push records (Order Present c) ∙ lives;
  bound = token_of-push records (Order Present c) p ∙ bound;
}
