-- What stands behind a number goes on standing with each record that a guard writes and with each order that it carries out.
use Rattle.std.proofs.Common.{◌≡◌, ◌⊎◌, inl, inr, ℕ, zero, suc, ◌+◌, ◌-◌, ◌<◌, Bool, true, false, true≢false, List, [], ◌∷◌, ◌++◌, length, None, Some, refl, sym, ◌∙◌, ap, subst, take, drop, filter, map, arith, length-append}
use Rattle.std.specs.declared.option.Option.{Option}
use Rattle.std.proofs.lemmas.Bool.{lt-ltb}
use Rattle.std.proofs.lemmas.List.{drop-append-le, map-append}
use Rattle.std.proofs.lemmas.List.Elements.{filter-append}
use Rattle.std.proofs.Math.Seq.{take-append-add}
use Rattle.xfs_base.specs.Causes.{IfTold}
use Rattle.xfs_base.specs.declared.counts.Counts.{Counts}
use Rattle.xfs_base.specs.declared.counts.Places.{Places}
use Rattle.xfs_base.specs.declared.counts.Kind.{Kind}
use Rattle.xfs_base.specs.declared.counts.Kind.TheVariants.{Stack, Present, Reject, Retract}
use Rattle.xfs_mech.specs.Mechanism.{AddsEntry, MayCarry}
use Rattle.xfs_mech.specs.declared.motion.Motion.{Motion}
use Rattle.xfs_mech.specs.declared.motion.Motion.TheVariants.{Moved}
use Rattle.xfs_journal.specs.declared.record.Rec.{Rec}
use Rattle.xfs_journal.specs.declared.record.Rec.TheVariants.{Issue, Bind, Order, Done, Load}
use Rattle.xfs_journal.specs.Journal.{boot_of, boot_places, record_at, live_of, live_at, token_of, next_issue, CarriesNumber}
use Rattle.xfs_journal.specs.JournalView.{IsPossible}
use Rattle.xfs_journal.proofs.JournalLaws.{eqb-no}
use Rattle.xfs_journal.proofs.StartLaws.{boot-ends, boot_of-numbered, boot_of-places}
use Rattle.xfs_guard.specs.declared.open.Open.{Open}
use Rattle.xfs_guard.specs.declared.open.Open.TheVariants.{No, Written, Acted}
use Rattle.xfs_guard.specs.Agrees.{IsNoOrder}
use Rattle.xfs_guard.specs.Budget.{Budget}
use Rattle.xfs_guard.specs.Nonce.{EndsNonce}
use Rattle.xfs_guard.specs.Reach.{is_in_reach, is_reached, number_from, reached, IsRecordedBehind, NumberedBehind, StandsBehind, view_behind}
use Rattle.xfs_guard.specs.Sound.{IfPresent, IsReleased, IsSound, OpenIsNewest, Ties, where_told}
use Rattle.xfs_guard.specs.View.{View}
use Rattle.xfs_guard.specs.Within.{HasNonce}
use Rattle.xfs_guard.proofs.AgreesLaws.{boot-follows, boot-no_done, boot-no_order}
use Rattle.xfs_guard.proofs.ReachLaws.{placed, placed-some, Split, split, live-split, live-behind, token-behind, presented-behind, record_at-behind, long-behind, last-behind, from-within, live-some, some-behind, numbered-push, booted-push}
use Rattle.xfs_guard.proofs.RecordLaws.{longer, Ties-order, Ties-done, Ties-issue, Ties-mark, Ties-bind, Ties-load}
use Rattle.xfs_guard.proofs.SoundLaws.{acted_view, Ties-act, grows-told}

-- where no record is in doubt, the journal's list is the one possible list
pub only-possible : (records found : List Rec) (d : Option Rec) → d ≡ None → IsPossible records d found → found ≡ records
only-possible records found d none (inl is) = is
only-possible records found d none (inr (r, doubt, is)) = absurd (never (sym none ∙ doubt))
  where
    never : None ≡ Some r → ⊥
    never e = cc

-- a record in doubt stands behind the journal's list
pub doubted-possible : (records found : List Rec) (r : Rec) → IsPossible records (Some r) found → (found ≡ records) ⊎ (found ≡ records ++ r ∷ [])
doubted-possible records found r (inl is) = inl is
doubted-possible records found r (inr (x, doubt, is)) = inr (rw (same doubt) is)
  where
    same : Some r ≡ Some x → r ≡ x
    same e = cc

-- one more record is written: it carries its number, and beside what stands behind a boot record it stands
pub record Grows (v : View) (r : Rec) (w : Option (List (List ℕ × ℕ))) (o : Open) : Type 0 where
  pub numbered : CarriesNumber (next_issue v.records) r
  pub tied : (from : ℕ) (motions : List Motion) → Split v.records from → Ties (view_behind from v) motions → Ties (longer (view_behind from v) r w o) motions

-- no order is the newest record behind a boot record either
no_order-behind : (v : View) (from : ℕ) → IsSound v → v.open_order ≡ No → Split v.records from → IsNoOrder (record_at (drop from v.records) (length (drop from v.records)))
no_order-behind v from s none sp = subst IsNoOrder (last-behind v.records from sp) (rw none at s.stands)

pub grows-order : (v : View) (k : Kind) (c : Counts) → IsSound v → v.open_order ≡ No → Grows v (Order k c) v.bound (Written k c)
grows-order v k c s none = record { numbered = tt; tied = λ from motions sp t. Ties-order (view_behind from v) k c motions none (no_order-behind v from s none sp) t }

pub grows-done : (v : View) (k : Kind) (m d : Counts) (failed : Bool) → IsSound v → v.open_order ≡ Acted k m d failed → Grows v (Done m d) v.bound No
grows-done v k m d failed s acted =
    let stands : OpenIsNewest (Acted k m d failed) v.records v.places = rw acted at s.stands in record {
      numbered = tt;
      tied = λ from motions sp t. Ties-done (view_behind from v) k stands.0 m d failed motions acted (sym (last-behind v.records from sp) ∙ stands.1) t;
    }

pub grows-issue : (v : View) (number word : ℕ) → IsSound v → v.open_order ≡ No → number ≡ next_issue v.records → Grows v (Issue number word) None No
grows-issue v number word s none is = record { numbered = is; tied = λ from motions sp t. Ties-issue (view_behind from v) number word motions (no_order-behind v from s none sp) t }

pub grows-bind : (v : View) (b : List ℕ) (w : Option (List (List ℕ × ℕ))) → IsSound v → v.open_order ≡ No → Grows v (Bind b) w No
grows-bind v b w s none = record { numbered = tt; tied = λ from motions sp t. Ties-bind (view_behind from v) b w motions none (no_order-behind v from s none sp) t }

pub grows-load : (v : View) (unit count : ℕ) → IsSound v → v.open_order ≡ No → Grows v (Load unit count) v.bound No
grows-load v unit count s none = record { numbered = tt; tied = λ from motions sp t. Ties-load (view_behind from v) unit count motions none (no_order-behind v from s none sp) t }

pub grows-end : (v : View) (r : Rec) → EndsNonce r → IsSound v → v.open_order ≡ No → Grows v r None No
grows-end v r (inl is) s none = rw is (record { numbered = tt; tied = λ from motions sp t. Ties-mark (view_behind from v) _ None motions (λ n l. refl) (no_order-behind v from s none sp) (λ m d e. cc) t })
grows-end v r (inr is) s none = rw is (record { numbered = tt; tied = λ from motions sp t. Ties-mark (view_behind from v) _ None motions (λ n l. refl) (no_order-behind v from s none sp) (λ m d e. cc) t })

pub grows-boot : (v : View) (p : Places) (w : Option (List (List ℕ × ℕ))) → Grows v (boot_of v.records p) w No
grows-boot v p w = record {
  numbered = boot_of-numbered v.records p;
  tied = λ from motions sp t.
      let tells = boot_of-places v.records p in
      Ties-mark (view_behind from v) (boot_of v.records p) w motions (boot-ends _ p tells) (boot-follows _ _ p tells) (λ m d e. boot-no_done _ p m d tells e) t;
}

-- whether the journal is shut or has its boot record, and which record is in doubt, changes nothing of what stands beside it
ties-stored : (v : View) (s missing : Bool) (d : Option Rec) (motions : List Motion) → Ties v motions → Ties (record v { shut = s; boot_missing = missing; in_doubt = d }) motions
ties-stored v s missing d motions t = record { agrees = t.agrees; within = t.within; counted = t.counted; acted = t.acted }

-- what is tied behind a boot record is recorded there
pub recorded-behind : (from : ℕ) (v : View) (m : Option (List Motion)) → NumberedBehind from v.records → IfTold m (λ motions. Ties (view_behind from v) (reached from motions)) → IsRecordedBehind from v.key v.units v.records m
recorded-behind from v None numbered told = record { numbered = numbered; agrees = tt; within = tt }
recorded-behind from v (Some motions) numbered t = record { numbered = numbered; agrees = t.agrees; within = t.within }

module _ (v : View) (r : Rec) (w : Option (List (List ℕ × ℕ))) (o : Open) (g : Grows v r w o) (compared : Bool) (from : ℕ) (open_still : v.shut ≡ false) (has_boot : v.boot_missing ≡ false) (s : StandsBehind compared from v) where
  grown-ties : (m : Option (List Motion)) → IfTold m (λ motions. Ties (view_behind from v) (reached from motions)) → IfTold m (λ motions. Ties (view_behind from (longer v r w o)) (reached from motions))
  grown-ties None t = tt
  grown-ties (Some motions) t =
      let sp = split v.records from s.booted in
      rw (drop-append-le from v.records (r ∷ []) (from-within v.records from sp)) (g.tied from (reached from motions) sp t)

  grown-tied : IfTold (where_told compared v.motions) (λ motions. Ties (view_behind from (longer v r w o)) (reached from motions))
  grown-tied = grown-ties (where_told compared v.motions) (s.tied open_still has_boot)

  grown-recorded : IsRecordedBehind from v.key v.units (v.records ++ r ∷ []) (where_told compared v.motions)
  grown-recorded =
      let sp = split v.records from s.booted in
      recorded-behind from (longer v r w o) (where_told compared v.motions) (numbered-push from v.records r (from-within v.records from sp) g.numbered (s.recorded v.records (inl refl)).numbered) grown-tied

  grown-stored : (m : Option (List Motion)) → IfTold m (λ motions. Ties (view_behind from (longer v r w o)) (reached from motions))
      → IfTold m (λ motions. Ties (view_behind from (record (longer v r w o) { shut = false; in_doubt = None })) (reached from motions))
  grown-stored None t = tt
  grown-stored (Some motions) t = record { agrees = t.agrees; within = t.within; counted = t.counted; acted = t.acted }

  -- the record was written
  pub stands-written : StandsBehind compared from (record (longer v r w o) { shut = false; in_doubt = None })
  stands-written = record {
    booted = booted-push v.records r (from + 1) s.booted;
    recorded = λ records p. rw (only-possible (v.records ++ r ∷ []) records None refl p) grown-recorded;
    tied = λ still booted. grown-stored (where_told compared v.motions) grown-tied;
  }

  -- it is not known whether it was
  pub stands-doubted : (x : Open) → StandsBehind compared from (record v { shut = true; in_doubt = Some r; open_order = x })
  stands-doubted x = record {
    booted = s.booted;
    recorded = λ records p. elim (doubted-possible v.records records r p) [
      | inl same ↦ rw same (s.recorded v.records (inl refl))
      | inr more ↦ rw more grown-recorded
    ];
    tied = λ still booted. absurd (true≢false still);
  }

-- what a released order needs is there behind a boot record
at-split : (front : List Rec) (b : Rec) (p : Places) (x : Rec) (rest : List Rec) → boot_places b ≡ Some p
    → live_at (front ++ b ∷ x ∷ rest) (length (front ++ b ∷ x ∷ rest)) ≡ placed (length front) (live_at (b ∷ x ∷ rest) (length (b ∷ x ∷ rest)))
at-split front b p x rest tells =
    let n : length (front ++ b ∷ x ∷ rest) - 1 ≡ length front + suc (length rest) = omega (arith, length-append front (b ∷ x ∷ rest)) in
    let m : suc (suc (length rest)) - 1 ≡ suc (length rest) = omega arith in
    rw (n, m, take-append-add front (b ∷ x ∷ rest) (suc (length rest))) (live-split front b p tells (take (length rest) (x ∷ rest)))

at-behind : (records : List Rec) (from : ℕ) (s : Split records from) (k : Kind) (c : Counts) → record_at records (length records) ≡ Some (Order k c)
    → live_at records (length records) ≡ placed from (live_at (drop from records) (length (drop from records)))
at-behind records from s k c last = of s.rest refl
  where
    of : (rest : List Rec) → s.rest ≡ rest → live_at records (length records) ≡ placed from (live_at (drop from records) (length (drop from records)))
    of [] is =
        let alone : drop from records ≡ s.boot ∷ [] = s.behind ∙ ap (λ l. s.boot ∷ l) is in
        let order : Some s.boot ≡ Some (Order k c) = rw alone at (sym (last-behind records from s) ∙ last) in
        absurd (subst IsNoOrder order (boot-no_order s.boot s.places s.tells))
    of (x ∷ rest) is =
        let whole : records ≡ s.front ++ s.boot ∷ x ∷ rest = s.is ∙ ap (λ l. s.front ++ s.boot ∷ l) is in
        let alone : drop from records ≡ s.boot ∷ x ∷ rest = s.behind ∙ ap (λ l. s.boot ∷ l) is in
        rw alone (ap (λ (l : List Rec). live_at l (length l)) whole ∙ at-split s.front s.boot s.places x rest s.tells ∙ ap (λ n. placed n (live_at (s.boot ∷ x ∷ rest) (length (s.boot ∷ x ∷ rest)))) s.long)

released-behind : (records : List Rec) (from : ℕ) (s : Split records from) (k : Kind) (c : Counts) → record_at records (length records) ≡ Some (Order k c) → IsReleased records → IsReleased (drop from records)
released-behind records from s k c last r =
    let lives = placed-some from (live_of (drop from records)) r.number (sym (live-behind records from s) ∙ r.lives) in
    let before = placed-some from (live_at (drop from records) (length (drop from records))) r.number (sym (at-behind records from s k c last) ∙ r.before) in
    let same : before.0 ≡ lives.0 = omega (arith, lives.2, before.2) in record {
      number = lives.0;
      bytes = r.bytes;
      before = before.1 ∙ ap Some same;
      lives = lives.1;
      bound = sym (token-behind records from s lives.0 (live-some (drop from records) lives.0 lives.1)) ∙ (ap (λ n. token_of records n) lives.2 ∙ r.bound);
    }

present-behind : (k : Kind) (c : Counts) (records : List Rec) (from : ℕ) (s : Split records from) → record_at records (length records) ≡ Some (Order k c) → IfPresent k (IsReleased records) → IfPresent k (IsReleased (drop from records))
present-behind Stack c records from s last r = tt
present-behind Present c records from s last r = released-behind records from s Present c last r
present-behind Reject c records from s last r = tt
present-behind Retract c records from s last r = tt

-- the budget behind a boot record is the budget
budget-behind : (v : View) (from : ℕ) → Split v.records from → Budget v → Budget (view_behind from v)
budget-behind v from s budget = record {
  funded = λ q b lives bound.
      let some = live-some (drop from v.records) q lives in
      let f = budget.funded (from + q) b (lived q lives) (token-behind v.records from s q some ∙ bound) in record {
        token = f.token;
        carries = record { genuine = f.carries.genuine; nonce = subst (λ (x : Option Rec). HasNonce x f.token.nonce) (record_at-behind v.records from s q some) f.carries.nonce };
        amounts = f.amounts;
        amounts_are = f.amounts_are;
        kept = f.kept;
        enough = λ cur. let e = presented-behind v.records from s v.units cur in let n = f.enough cur in omega (arith, e, n);
      };
  unbound = λ q lives free.
      let u = budget.unbound (from + q) (lived q lives) (token-behind v.records from s q (live-some (drop from v.records) q lives) ∙ free) in
      (u.0, λ cur. sym (presented-behind v.records from s v.units cur) ∙ u.1 cur);
  dead = λ dead. budget.dead (live-behind v.records from s ∙ ap (placed from) dead);
}
  where
    lived : (q : ℕ) → live_of (drop from v.records) ≡ Some q → live_of v.records ≡ Some (from + q)
    lived q lives = live-behind v.records from s ∙ ap (placed from) lives

-- an entry behind the others
pub reached-push : (from : ℕ) (motions : List Motion) (m : Motion) → is_reached from m ≡ true → reached from (motions ++ m ∷ []) ≡ reached from motions ++ number_from from m ∷ []
reached-push from motions m is =
    ap (map (number_from from)) (filter-append (is_reached from) motions (m ∷ []) ∙ ap (λ l. filter (is_reached from) motions ++ l) (kept is))
    ∙ map-append (number_from from) (filter (is_reached from) motions) (m ∷ [])
  where
    kept : is_reached from m ≡ true → filter (is_reached from) (m ∷ []) ≡ m ∷ []
    kept is = rw is refl

-- the number of a record behind it is in reach
in_reach : (from n : ℕ) → from < n → is_in_reach from n ≡ true
in_reach zero n lt = refl
in_reach (suc i) n lt = rw (eqb-no (suc i) 0 (λ e. absurd (omega (arith, e))), lt-ltb (suc i) n lt) refl

-- the order was carried out
pub stands-act : (v : View) (k : Kind) (c m d : Counts) (failed : Bool) (now : Option (List Motion)) (Q : Places) (f : ℕ) → IsSound v → v.shut ≡ false → v.boot_missing ≡ false → v.in_doubt ≡ None → v.open_order ≡ Written k c
    → MayCarry k c m d failed → AddsEntry v.motions (Moved (length v.records) k m d) now → (compared : Bool) (from : ℕ) → StandsBehind compared from v → StandsBehind compared from (acted_view v k m d failed now Q f)
stands-act v k c m d failed now Q f sound still booted none written may grows compared from s = record {
  booted = s.booted;
  recorded = λ records p. rw (only-possible v.records records v.in_doubt none p)
      (recorded-behind from (acted_view v k m d failed now Q f) (where_told compared now) (s.recorded v.records (inl refl)).numbered tied);
  tied = λ e b. tied;
}
  where
    sp : Split v.records from
    sp = split v.records from s.booted

    stands : OpenIsNewest (Written k c) v.records v.places
    stands = rw written at sound.stands

    entry : (motions : List Motion) → reached from (motions ++ Moved (length v.records) k m d ∷ []) ≡ reached from motions ++ Moved (length (drop from v.records)) k m d ∷ []
    entry motions =
        let long = long-behind v.records from sp in
        let some = some-behind v.records from sp in
        let number : length v.records - from ≡ length (drop from v.records) = omega (arith, long) in
        reached-push from motions (Moved (length v.records) k m d) (in_reach from (length v.records) (omega (arith, long, some)))
        ∙ ap (λ n. reached from motions ++ Moved n k m d ∷ []) number

    ties : (was is : Option (List Motion)) → AddsEntry was (Moved (length v.records) k m d) is → IfTold was (λ motions. Ties (view_behind from v) (reached from motions))
        → IfTold is (λ motions. Ties (view_behind from (acted_view v k m d failed now Q f)) (reached from motions))
    ties None is g t = rw g tt
    ties (Some motions) is g t = rw (g, entry motions) (Ties-act (view_behind from v) k c m d failed (reached from motions) now Q f (budget-behind v from sp sound.budget) written
        (sym (last-behind v.records from sp) ∙ stands.0) stands.1 (present-behind k c v.records from sp stands.0 stands.2) may t)

    tied : IfTold (where_told compared now) (λ motions. Ties (view_behind from (acted_view v k m d failed now Q f)) (reached from motions))
    tied = ties (where_told compared v.motions) (where_told compared now) (grows-told compared v.motions now _ grows) (s.tied still booted)
