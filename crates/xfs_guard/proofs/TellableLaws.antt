-- What was presented for the last nonce stays tellable, over each record that is written.
use Rattle.std.proofs.Common.{◌≡◌, ◌⊎◌, ⊎_elim, inl, inr, ℕ, ◌+◌, ◌-◌, ◌<◌, ◌≤◌, Bool, true, false, List, [], ◌∷◌, ◌++◌, length, take, drop, None, Some, refl, sym, ◌∙◌, ap, subst, arith, length-append, append_assoc, true≢false}
use Rattle.std.specs.Prelude.{⊤}
use Rattle.std.specs.declared.option.Option.{Option}
use Rattle.std.specs.List.{before_first, list_any}
use Rattle.std.proofs.Math.Seq.{drop-append_seam}
use Rattle.std.proofs.lemmas.Bool.{cases_Bool, cases_lt}
use Rattle.std.proofs.lemmas.List.{append-nil, take-append-drop, drop-append-le, drop-drop, drop_all}
use Rattle.xfs_base.specs.declared.counts.Counts.{Counts}
use Rattle.xfs_base.specs.declared.counts.Kind.{Kind}
use Rattle.xfs_base.specs.declared.counts.Kind.TheVariants.{Stack, Present, Reject, Retract}
use Rattle.xfs_base.specs.declared.counts.Places.{Places}
use Rattle.xfs_base.specs.declared.money.NoteKind.{NoteKind}
use Rattle.xfs_journal.specs.declared.record.Rec.{Rec}
use Rattle.xfs_journal.specs.declared.record.Rec.TheVariants.{Issue, Clear, Expire, Boot, Start, Bind, Order, Done, Load}
use Rattle.xfs_journal.specs.Journal.{is_issue, is_mark, record_at, base_of, boot_of, boot_places, with_boot}
use Rattle.xfs_journal.specs.JournalView.{IsPossible}
use Rattle.xfs_journal.proofs.BaseLaws.{base_of-grows}
use Rattle.xfs_journal.proofs.StartLaws.{boot_of-places}
use Rattle.xfs_guard.specs.Booting.{base_then}
use Rattle.xfs_guard.specs.declared.deny.Deny.{Deny}
use Rattle.xfs_guard.specs.declared.deny.Deny.TheVariants.{Disk, Memory}
use Rattle.xfs_guard.specs.LedgerBooting.{StaysSmall}
use Rattle.xfs_guard.specs.LedgerView.{IsWriteFault}
use Rattle.xfs_guard.specs.Ledger.{IsDoubted}
use Rattle.xfs_guard.specs.Nonce.{EndsNonce, nonce_of}
use Rattle.xfs_guard.specs.declared.nonce.Nonce.{Nonce}
use Rattle.xfs_guard.specs.Presented.{done_worth, presented_in}
use Rattle.xfs_guard.specs.Segment.{has_issue, issue_of, segment, IsTellable, AreTellable}
use Rattle.xfs_guard.proofs.BootLaws.{base_of-boot}
use Rattle.xfs_guard.proofs.PresentedLaws.{presented_in-push}
use Rattle.xfs_guard.proofs.SegmentLaws.{IsCut, cut, has_issue-append, behind_issue-cut, behind_issue-none, behind_issue-append, issue_of-cut, issue_of-none, issue_of-append, before-cons, before-marked, before-unmarked, before-all, presented-behind}

-- a list without an Issue tells of nothing
pub tellable-none : (u : List NoteKind) (records : List Rec) → has_issue records ≡ false → IsTellable u records
tellable-none u records none = record {
  issued = λ n is. (let e : None ≡ Some n = sym (issue_of-none records none) ∙ is in cc);
  small = λ c. rw (behind_issue-none records none) (omega arith);
}

-- nor does it matter what stands in front
pub tellable-drop : (u : List NoteKind) (n : ℕ) (records : List Rec) → IsTellable u records → IsTellable u (drop n records)
tellable-drop u n records t = ⊎_elim some (tellable-none u (drop n records)) (cases_Bool (has_issue (drop n records)))
  where
    whole : records ≡ take n records ++ drop n records
    whole = sym (take-append-drop n records)

    some : has_issue (drop n records) ≡ true → IsTellable u (drop n records)
    some has = record {
      issued = λ i is. t.issued i (ap issue_of whole ∙ issue_of-append (take n records) (drop n records) has ∙ is);
      small = λ c. (let same : segment records ≡ segment (drop n records) = ap segment whole ∙ ap (before_first is_mark) (behind_issue-append (take n records) (drop n records) has) in subst (λ (s : List Rec). presented_in u s c ≤ 999999999999) same (t.small c));
    }

-- a record that moves no sum: it is no Done
abbrev IsPlain : Rec → Type 0
IsPlain (Done m d) = ⊥
IsPlain r = ⊤

plain-worth : (u : List NoteKind) (records : List Rec) (r : Rec) (c : List ℕ) → IsPlain r → is_mark r ≡ false → presented_in u (records ++ r ∷ []) c ≡ presented_in u records c
plain-worth u records (Issue n w) c p e = absurd (true≢false e)
plain-worth u records Clear c p e = absurd (true≢false e)
plain-worth u records Expire c p e = absurd (true≢false e)
plain-worth u records (Boot q) c p e = absurd (true≢false e)
plain-worth u records (Start i q) c p e = absurd (true≢false e)
plain-worth u records (Bind t) c p e = presented_in-push u records (Bind t) c
plain-worth u records (Order k x) c p e = presented_in-push u records (Order k x) c
plain-worth u records (Done m d) c p e = absurd p
plain-worth u records (Load i x) c p e = presented_in-push u records (Load i x) c

before-mark : (x : Rec) → is_mark x ≡ true → before_first is_mark (x ∷ []) ≡ []
before-mark x mark = before-cons x [] ∙ rw mark refl

before-other : (x : Rec) → is_mark x ≡ false → before_first is_mark (x ∷ []) ≡ x ∷ []
before-other x mark = before-cons x [] ∙ rw mark refl

-- a segment that goes on with this record stays small
abbrev GoesOn : List NoteKind → List Rec → Rec → Type 0
GoesOn u records r = (k : IsCut records) → list_any is_mark k.behind ≡ false → is_mark r ≡ false → (c : List ℕ) → presented_in u (k.behind ++ r ∷ []) c ≤ 999999999999

module _ (u : List NoteKind) (records : List Rec) (x : Rec) (other : is_issue x ≡ false) (t : IsTellable u records) where
  with_cut : GoesOn u records x → IsCut records → IsTellable u (records ++ x ∷ [])
  with_cut goes k = ⊎_elim marked (λ none. ⊎_elim (ends none) (goes_on none) (cases_Bool (is_mark x))) (cases_Bool (list_any is_mark k.behind))
    where
      list : records ++ x ∷ [] ≡ k.front ++ Issue k.number k.word ∷ (k.behind ++ x ∷ [])
      list = ap (λ (l : List Rec). l ++ x ∷ []) k.is ∙ append_assoc k.front (Issue k.number k.word ∷ k.behind) (x ∷ [])

      last : has_issue (k.behind ++ x ∷ []) ≡ false
      last = has_issue-append k.behind (x ∷ []) ∙ rw (k.last, other) refl

      issued : (i : ℕ) → issue_of (records ++ x ∷ []) ≡ Some i → 1 ≤ i
      issued i e = t.issued i (ap issue_of k.is ∙ issue_of-cut k.front k.number k.word k.behind k.last ∙ sym (issue_of-cut k.front k.number k.word (k.behind ++ x ∷ []) last) ∙ sym (ap issue_of list) ∙ e)

      old : segment records ≡ before_first is_mark k.behind
      old = ap segment k.is ∙ ap (before_first is_mark) (behind_issue-cut k.front k.number k.word k.behind k.last)

      new : segment (records ++ x ∷ []) ≡ before_first is_mark (k.behind ++ x ∷ [])
      new = ap segment list ∙ ap (before_first is_mark) (behind_issue-cut k.front k.number k.word (k.behind ++ x ∷ []) last)

      as_before : segment (records ++ x ∷ []) ≡ segment records → IsTellable u (records ++ x ∷ [])
      as_before is = record { issued = issued; small = λ c. subst (λ (s : List Rec). presented_in u s c ≤ 999999999999) (sym is) (t.small c) }

      marked : list_any is_mark k.behind ≡ true → IsTellable u (records ++ x ∷ [])
      marked some = as_before (new ∙ before-marked k.behind (x ∷ []) some ∙ sym old)

      ends_all : list_any is_mark k.behind ≡ false → is_mark x ≡ true → before_first is_mark (k.behind ++ x ∷ []) ≡ k.behind
      ends_all none mark = before-unmarked k.behind (x ∷ []) none ∙ ap (λ (l : List Rec). k.behind ++ l) (before-mark x mark) ∙ append-nil k.behind

      goes_all : list_any is_mark k.behind ≡ false → is_mark x ≡ false → before_first is_mark (k.behind ++ x ∷ []) ≡ k.behind ++ x ∷ []
      goes_all none mark = before-unmarked k.behind (x ∷ []) none ∙ ap (λ (l : List Rec). k.behind ++ l) (before-other x mark)

      ends : list_any is_mark k.behind ≡ false → is_mark x ≡ true → IsTellable u (records ++ x ∷ [])
      ends none mark = as_before (new ∙ ends_all none mark ∙ sym (before-all k.behind none) ∙ sym old)

      goes_on : list_any is_mark k.behind ≡ false → is_mark x ≡ false → IsTellable u (records ++ x ∷ [])
      goes_on none mark = record {
        issued = issued;
        small = λ c. (let all : segment (records ++ x ∷ []) ≡ k.behind ++ x ∷ [] = new ∙ goes_all none mark in subst (λ (s : List Rec). presented_in u s c ≤ 999999999999) (sym all) (goes k none mark c));
      }

  without : has_issue records ≡ false → has_issue (records ++ x ∷ []) ≡ false
  without none = has_issue-append records (x ∷ []) ∙ rw (none, other) refl

  tellable-more : GoesOn u records x → IsTellable u (records ++ x ∷ [])
  tellable-more goes = ⊎_elim (λ has. with_cut goes (cut records has)) (λ none. tellable-none u (records ++ x ∷ []) (without none)) (cases_Bool (has_issue records))

  plain-goes : IsPlain x → GoesOn u records x
  plain-goes p k none mark c =
      let is : segment records ≡ k.behind = ap segment k.is ∙ ap (before_first is_mark) (behind_issue-cut k.front k.number k.word k.behind k.last) ∙ before-all k.behind none in
      let old = subst (λ (s : List Rec). presented_in u s c ≤ 999999999999) is (t.small c) in
      let same = plain-worth u k.behind x c p mark in
      omega (arith, old, same)

-- an Issue carries at least 1
abbrev pub CarriesOne : Rec → Type 0
CarriesOne (Issue number word) = 1 ≤ number
CarriesOne r = IsPlain r

tellable-issue : (u : List NoteKind) (records : List Rec) (n w : ℕ) → 1 ≤ n → IsTellable u (records ++ Issue n w ∷ [])
tellable-issue u records n w one = record {
  issued = λ i e. (let same : Some n ≡ Some i = sym (issue_of-cut records n w [] refl) ∙ e in let is : n ≡ i = cc in rw (← is) one);
  small = λ c. rw (behind_issue-cut records n w [] refl) (omega arith);
}

tellable-plain : (u : List NoteKind) (records : List Rec) (r : Rec) → CarriesOne r → IsTellable u records → IsTellable u (records ++ r ∷ [])
tellable-plain u records (Issue n w) p t = tellable-issue u records n w p
tellable-plain u records Clear p t = tellable-more u records Clear refl t (plain-goes u records Clear refl t tt)
tellable-plain u records Expire p t = tellable-more u records Expire refl t (plain-goes u records Expire refl t tt)
tellable-plain u records (Boot q) p t = tellable-more u records (Boot q) refl t (plain-goes u records (Boot q) refl t tt)
tellable-plain u records (Start i q) p t = tellable-more u records (Start i q) refl t (plain-goes u records (Start i q) refl t tt)
tellable-plain u records (Bind b) p t = tellable-more u records (Bind b) refl t (plain-goes u records (Bind b) refl t tt)
tellable-plain u records (Order k x) p t = tellable-more u records (Order k x) refl t (plain-goes u records (Order k x) refl t tt)
tellable-plain u records (Done m d) p t = absurd p
tellable-plain u records (Load i x) p t = tellable-more u records (Load i x) refl t (plain-goes u records (Load i x) refl t tt)

-- a Done whose sums stay small
tellable-done : (u : List NoteKind) (front records : List Rec) (m d : Counts) → ((c : List ℕ) → presented_in u (front ++ records) c ≤ 999999999999 → presented_in u ((front ++ records) ++ Done m d ∷ []) c ≤ 999999999999)
    → IsTellable u records → IsTellable u (records ++ Done m d ∷ [])
tellable-done u front records m d low t = tellable-more u records (Done m d) refl t goes
  where
    goes : GoesOn u records (Done m d)
    goes k none mark c =
        let here : front ++ records ≡ (front ++ k.front) ++ Issue k.number k.word ∷ k.behind = ap (λ (l : List Rec). front ++ l) k.is ∙ sym (append_assoc front k.front (Issue k.number k.word ∷ k.behind)) in
        let before : presented_in u (front ++ records) c ≡ presented_in u k.behind c = ap (λ (l : List Rec). presented_in u l c) here ∙ presented-behind u c (front ++ k.front) k.number k.word k.behind in
        let old : presented_in u k.behind c ≤ 999999999999 = subst (λ (s : List Rec). presented_in u s c ≤ 999999999999) (ap segment k.is ∙ ap (before_first is_mark) (behind_issue-cut k.front k.number k.word k.behind k.last) ∙ before-all k.behind none) (t.small c) in
        let whole : (front ++ records) ++ Done m d ∷ [] ≡ (front ++ k.front) ++ Issue k.number k.word ∷ (k.behind ++ Done m d ∷ []) = ap (λ (l : List Rec). l ++ Done m d ∷ []) here ∙ append_assoc (front ++ k.front) (Issue k.number k.word ∷ k.behind) (Done m d ∷ []) in
        let sum : presented_in u ((front ++ records) ++ Done m d ∷ []) c ≡ presented_in u (k.behind ++ Done m d ∷ []) c = ap (λ (l : List Rec). presented_in u l c) whole ∙ presented-behind u c (front ++ k.front) k.number k.word (k.behind ++ Done m d ∷ []) in
        subst (λ (n : ℕ). n ≤ 999999999999) sum (low c (omega (arith, before, old)))

-- what an order's Done adds
done-adds : (u : List NoteKind) (records : List Rec) (o : Rec) (m d : Counts) (c : List ℕ) → record_at records (length records) ≡ Some o → presented_in u (records ++ Done m d ∷ []) c ≡ presented_in u records c + done_worth u c (Some o) m
done-adds u records o m d c ordered = presented_in-push u records (Done m d) c ∙ ap (λ (r : Option Rec). presented_in u records c + done_worth u c r m) ordered

pub paid-small : (u : List NoteKind) (records : List Rec) (k : Kind) (counts m d : Counts) → record_at records (length records) ≡ Some (Order k counts) → StaysSmall u records k m
    → (c : List ℕ) → presented_in u records c ≤ 999999999999 → presented_in u (records ++ Done m d ∷ []) c ≤ 999999999999
paid-small u records Present counts m d ordered small c le = let e = done-adds u records (Order Present counts) m d c ordered in let s = small refl c in omega (arith, e, s)
paid-small u records Stack counts m d ordered small c le = let e = done-adds u records (Order Stack counts) m d c ordered in omega (arith, e, le)
paid-small u records Reject counts m d ordered small c le = let e = done-adds u records (Order Reject counts) m d c ordered in omega (arith, e, le)
paid-small u records Retract counts m d ordered small c le = let e = done-adds u records (Order Retract counts) m d c ordered in omega (arith, e, le)

-- behind a base
push-drop : (base : ℕ) (records : List Rec) (r : Rec) → (length records < base) ⊎ (base ≤ length records) → (drop base (records ++ r ∷ []) ≡ []) ⊎ (drop base (records ++ r ∷ []) ≡ drop base records ++ r ∷ [])
push-drop base records r (inr within) = inr (drop-append-le base records (r ∷ []) within)
push-drop base records r (inl past) = inl (drop_all base (records ++ r ∷ []) (let l = length-append records (r ∷ []) in omega (arith, l)))

pub tellable-push : (u : List NoteKind) (base : ℕ) (records : List Rec) (r : Rec) → CarriesOne r → IsTellable u (drop base records) → IsTellable u (drop base (records ++ r ∷ []))
tellable-push u base records r p t = ⊎_elim
    (λ none. rw none (tellable-none u [] refl))
    (λ is. rw is (tellable-plain u (drop base records) r p t))
    (push-drop base records r (cases_lt (length records) base))

pub tellable-paid : (u : List NoteKind) (base : ℕ) (records : List Rec) (m d : Counts) → ((c : List ℕ) → presented_in u records c ≤ 999999999999 → presented_in u (records ++ Done m d ∷ []) c ≤ 999999999999)
    → IsTellable u (drop base records) → IsTellable u (drop base (records ++ Done m d ∷ []))
tellable-paid u base records m d low t = ⊎_elim
    (λ none. rw none (tellable-none u [] refl))
    (λ is. rw is (tellable-done u (take base records) (drop base records) m d (subst (λ (l : List Rec). (c : List ℕ) → presented_in u l c ≤ 999999999999 → presented_in u (l ++ Done m d ∷ []) c ≤ 999999999999) (sym (take-append-drop base records)) low) t))
    (push-drop base records (Done m d) (cases_lt (length records) base))

pub tells-now : (u : List NoteKind) (base : ℕ) (records : List Rec) (d : Option Rec) → AreTellable u base records d → IsTellable u (drop base records)
tells-now u base records d all = all.each records (inl refl)

-- a list alone
pub tells-alone : (u : List NoteKind) (base : ℕ) (records : List Rec) (d : Option Rec) → d ≡ None → IsTellable u (drop base records) → AreTellable u base records d
tells-alone u base records d none t = record { each = each }
  where
    each : (list : List Rec) → IsPossible records d list → IsTellable u (drop base list)
    each list (inl is) = rw is t
    each list (inr (r, doubt, is)) = let never : None ≡ Some r = sym none ∙ doubt in cc

-- a record that is in doubt
tells-either : (u : List NoteKind) (base : ℕ) (records : List Rec) (r : Rec) → IsTellable u (drop base records) → IsTellable u (drop base (records ++ r ∷ [])) → AreTellable u base records (Some r)
tells-either u base records r t more = record { each = each }
  where
    some : (y : Rec) → Some r ≡ Some y → r ≡ y
    some y e = cc

    each : (list : List Rec) → IsPossible records (Some r) list → IsTellable u (drop base list)
    each list (inl is) = rw is t
    each list (inr (x, doubt, is)) = let same : r ≡ x = some x doubt in rw (is, ← same) more

-- one more record is written
pub tells-written : (u : List NoteKind) (base : ℕ) (records : List Rec) (r : Rec) (d d' : Option Rec) → AreTellable u base records d → CarriesOne r → d' ≡ None → AreTellable u base (records ++ r ∷ []) d'
tells-written u base records r d d' all p none = tells-alone u base (records ++ r ∷ []) d' none (tellable-push u base records r p (tells-now u base records d all))

-- it was not written, or it is not known whether it was
pub tells-refused : (e : Deny) (u : List NoteKind) (base : ℕ) (records : List Rec) (r : Rec) (d d' : Option Rec) → AreTellable u base records d → CarriesOne r → IsWriteFault e → (e ≡ Memory → d' ≡ d) → (e ≡ Disk → d' ≡ Some r)
    → AreTellable u base records d'
tells-refused e u base records r d d' all p (inl is) memory disk = rw (memory is) all
tells-refused e u base records r d d' all p (inr is) memory disk = rw (disk is) (tells-either u base records r (tells-now u base records d all) (tellable-push u base records r p (tells-now u base records d all)))

-- so it is with a Done
pub tells-paid : (u : List NoteKind) (base : ℕ) (records : List Rec) (k : Kind) (counts moved diverted : Counts) (d d' : Option Rec) → AreTellable u base records d → record_at records (length records) ≡ Some (Order k counts) → StaysSmall u records k moved
    → d' ≡ None → AreTellable u base (records ++ Done moved diverted ∷ []) d'
tells-paid u base records k counts moved diverted d d' all ordered small none =
    tells-alone u base (records ++ Done moved diverted ∷ []) d' none (tellable-paid u base records moved diverted (paid-small u records k counts moved diverted ordered small) (tells-now u base records d all))

pub tells-unpaid : (e : Deny) (u : List NoteKind) (base : ℕ) (records : List Rec) (k : Kind) (counts moved diverted : Counts) (d d' : Option Rec) → AreTellable u base records d → record_at records (length records) ≡ Some (Order k counts) → StaysSmall u records k moved
    → IsWriteFault e → (e ≡ Memory → d' ≡ d) → (e ≡ Disk → d' ≡ Some (Done moved diverted)) → AreTellable u base records d'
tells-unpaid e u base records k counts moved diverted d d' all ordered small (inl is) memory disk = rw (memory is) all
tells-unpaid e u base records k counts moved diverted d d' all ordered small (inr is) memory disk =
    rw (disk is) (tells-either u base records (Done moved diverted) (tells-now u base records d all) (tellable-paid u base records moved diverted (paid-small u records k counts moved diverted ordered small) (tells-now u base records d all)))

-- the journal was read again, and lets go of more
pub tells-further : (u : List NoteKind) (base further : ℕ) (records : List Rec) → base ≤ further → IsTellable u (drop base records) → IsTellable u (drop further records)
tells-further u base further records le t =
    let is : drop further records ≡ drop (further - base) (drop base records) = ap (λ (n : ℕ). drop n records) (omega arith) ∙ sym (drop-drop (further - base) base records) in
    rw is (tellable-drop u (further - base) (drop base records) t)

led-possible : (base : ℕ) (records found : List Rec) (d : Option Rec) → base ≤ base_of records → IsPossible records d found → base ≤ base_of found
led-possible base records found d led (inl is) = rw is led
led-possible base records found d led (inr (r, doubt, is)) = rw is (let grows = base_of-grows records r in omega (arith, grows, led))

start-unissued : (records : List Rec) (p : Places) → has_issue (boot_of records p ∷ []) ≡ false
start-unissued records p = of (boot_of records p) (boot_of-places records p)
  where
    of : (r : Rec) → boot_places r ≡ Some p → has_issue (r ∷ []) ≡ false
    of (Boot q) is = refl
    of (Start i q) is = refl
    of (Issue n w) is = cc
    of Clear is = refl
    of Expire is = refl
    of (Bind t) is = refl
    of (Order k c) is = refl
    of (Done m d) is = refl
    of (Load i c) is = refl

pub start-plain : (records : List Rec) (p : Places) → CarriesOne (boot_of records p)
start-plain records p = of (boot_of records p) (boot_of-places records p)
  where
    of : (r : Rec) → boot_places r ≡ Some p → CarriesOne r
    of (Boot q) is = tt
    of (Start i q) is = tt
    of (Issue n w) is = cc
    of Clear is = tt
    of Expire is = tt
    of (Bind t) is = tt
    of (Order k c) is = tt
    of (Done m d) is = cc
    of (Load i c) is = tt

-- what ends a nonce is plain
pub ends-plain : (r : Rec) → EndsNonce r → CarriesOne r
ends-plain r (inl is) = rw is tt
ends-plain r (inr is) = rw is tt

-- and its record is none of a nonce's
pub ends-doubts : (r : Rec) (x : Option Nonce) → EndsNonce r → IsDoubted (Some r) x
ends-doubts r x (inl is) n e = let none : None ≡ Some n = sym (ap (λ (y : Rec). nonce_of (Some y)) is) ∙ e in cc
ends-doubts r x (inr is) n e = let none : None ≡ Some n = sym (ap (λ (y : Rec). nonce_of (Some y)) is) ∙ e in cc

-- memory has the record of a start alone
pub tells-booted : (u : List NoteKind) (base : ℕ) (records : List Rec) (p : Places) (d : Option Rec) → base ≡ base_of (with_boot records p) → d ≡ None → AreTellable u base (with_boot records p) d
tells-booted u base records p d based none =
    let alone : drop base (with_boot records p) ≡ boot_of records p ∷ [] = ap (λ (n : ℕ). drop n (with_boot records p)) (based ∙ base_of-boot records p) ∙ drop-append_seam records (boot_of records p ∷ []) in
    tells-alone u base (with_boot records p) d none (rw alone (tellable-none u (boot_of records p ∷ []) (start-unissued records p)))

-- a list that was read again
pub tells-found : (u : List NoteKind) (b : Bool) (base : ℕ) (records found : List Rec) (d : Option Rec) → base ≤ base_of records → IsPossible records d found → AreTellable u base records d → IsTellable u (drop (base_then b base found) found)
tells-found u true base records found d led possible all = tells-further u base (base_of found) found (led-possible base records found d led possible) (all.each found possible)
tells-found u false base records found d led possible all = all.each found possible

-- and has its boot record
pub tells-restored : (u : List NoteKind) (b : Bool) (base : ℕ) (records found : List Rec) (p : Places) (d d' : Option Rec) → IsPossible records d found → AreTellable u base records d → d' ≡ None
    → AreTellable u (base_then b base (with_boot found p)) (with_boot found p) d'
tells-restored u true base records found p d d' possible all none = tells-booted u (base_of (with_boot found p)) found p d' refl none
tells-restored u false base records found p d d' possible all none = tells-alone u base (with_boot found p) d' none (tellable-push u base found (boot_of found p) (start-plain found p) (all.each found possible))

-- or it is missing, or in doubt
pub tells-missing : (u : List NoteKind) (b : Bool) (base : ℕ) (records found : List Rec) (d d' : Option Rec) → base ≤ base_of records → IsPossible records d found → AreTellable u base records d → d' ≡ None → AreTellable u (base_then b base found) found d'
tells-missing u b base records found d d' led possible all none = tells-alone u (base_then b base found) found d' none (tells-found u b base records found d led possible all)

pub tells-doubted : (u : List NoteKind) (b : Bool) (base : ℕ) (records found : List Rec) (p : Places) (d d' : Option Rec) → base ≤ base_of records → IsPossible records d found → AreTellable u base records d → d' ≡ Some (boot_of found p)
    → AreTellable u (base_then b base found) found d'
tells-doubted u b base records found p d d' led possible all doubt =
    let t = tells-found u b base records found d led possible all in
    rw doubt (tells-either u (base_then b base found) found (boot_of found p) t (tellable-push u (base_then b base found) found (boot_of found p) (start-plain found p) t))
