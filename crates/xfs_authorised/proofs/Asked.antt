-- What was put out since an issue is worth no more than the ask to which its token was replied.
use Rattle.std.proofs.Common.{◌≡◌, ◌⊎◌, inl, inr, ℕ, ◌≤◌, Bool, true, false, List, [], ◌∷◌, Some, refl, sym, ◌∙◌, subst, arith}
use Rattle.std.specs.Prelude.{if◌then◌else◌}
use Rattle.std.specs.List.{sum_by, AllByRecursion}
use Rattle.std.specs.Str.{bytes_eq}
use Rattle.std.proofs.lemmas.Bool.{eqb-true}
use Rattle.std.proofs.lemmas.List.Sums.{sum_by-cons}
use Rattle.xfs_base.specs.declared.counts.Counts.{Counts}
use Rattle.xfs_base.specs.declared.counts.Kind.TheVariants.{Stack, Present, Reject, Retract}
use Rattle.xfs_base.specs.declared.money.NoteKind.{NoteKind}
use Rattle.xfs_mech.specs.declared.motion.Motion.{Motion}
use Rattle.xfs_mech.specs.declared.motion.Motion.TheVariants.{Moved, Taken, Loaded}
use Rattle.xfs_journal.specs.Journal.{is_place, live_at, token_of}
use Rattle.xfs_journal.specs.declared.record.Rec.{Rec}
use Rattle.xfs_guard.specs.Within.{IsPaidFor, IsWithin, Within, shown, shown_by}
use Rattle.xfs_token.specs.Token.{Parts}
use Rattle.xfs_token.specs.Amounts.{IsMade, amount, amount_in, amounts_of}
use Rattle.xfs_token.proofs.Whole.{one_token}
use Rattle.xfs_host.specs.Ask.{Terms}
use Rattle.xfs_host.specs.Laws.{AreMade}
use Rattle.xfs_authorised.specs.Authorised.{IsAuthorised, IsWithinAsk, asked_in}

-- one amount has itself in its own currency, and nothing in another
one_amount : (own currency : List ℕ) (n : ℕ) → amount_in ((own, n) ∷ []) currency ≡ (if bytes_eq own currency then n else 0)
unfolding amount_in
one_amount own currency n = go (bytes_eq own currency) refl
  where
    go : (b : Bool) → bytes_eq own currency ≡ b → amount_in ((own, n) ∷ []) currency ≡ (if bytes_eq own currency then n else 0)
    go true is = rw is refl
    go false is = rw is refl

amount-one : (t : Parts) (own currency : List ℕ) (n : ℕ) → amounts_of t ≡ Some ((own, n) ∷ []) → amount t currency ≡ (if bytes_eq own currency then n else 0)
unfolding amount
amount-one t own currency n is = rw is (one_amount own currency n)

module _ (key : List ℕ) (units : List NoteKind) (records : List Rec) (motions : List Motion) (p : ℕ) (currency : List ℕ) where
  -- none of these put out notes of the issue; or one did, which is paid for
  abbrev Found : List Motion → Type 0
  Found some = (sum_by (shown_by units records p currency) some ≡ 0) ⊎ ((number : ℕ) × IsPaidFor key units records motions number × (is_place p (live_at records number) ≡ true))

  later : (m : Motion) (some : List Motion) → shown_by units records p currency m ≡ 0 → Found some → Found (m ∷ some)
  later m some none (inl rest) =
      let both = sum_by-cons (shown_by units records p currency) m some in
      inl (omega (arith, both, none, rest))
  later m some none (inr found) = inr found

  presented : (number : ℕ) (moved diverted : Counts) (some : List Motion) (b : Bool) → is_place p (live_at records number) ≡ b → IsPaidFor key units records motions number → Found some
      → Found (Moved number Present moved diverted ∷ some)
  presented number moved diverted some true is paid rest = inr (number, paid, is)
  presented number moved diverted some false is paid rest = later (Moved number Present moved diverted) some (rw is refl) rest

  find-paid : (some : List Motion) → AllByRecursion (IsWithin key units records motions) some → Found some
  find-paid [] all = inl refl
  find-paid (Moved number Present moved diverted ∷ some) (paid, all) = presented number moved diverted some (is_place p (live_at records number)) refl paid (find-paid some all)
  find-paid (Moved number Stack moved diverted ∷ some) (within, all) = later (Moved number Stack moved diverted) some refl (find-paid some all)
  find-paid (Moved number Reject moved diverted ∷ some) (within, all) = later (Moved number Reject moved diverted) some refl (find-paid some all)
  find-paid (Moved number Retract moved diverted ∷ some) (within, all) = later (Moved number Retract moved diverted) some refl (find-paid some all)
  find-paid (Taken counts ∷ some) (within, all) = later (Taken counts) some refl (find-paid some all)
  find-paid (Loaded unit count ∷ some) (within, all) = later (Loaded unit count) some refl (find-paid some all)

  -- a motion that is paid for in the segment of an issue whose token was made for one amount
  paid-one : (own : List ℕ) (n number : ℕ) (nonce text : List ℕ) → IsPaidFor key units records motions number → is_place p (live_at records number) ≡ true
      → token_of records p ≡ Some text → IsMade key nonce ((own, n) ∷ []) text → shown units records motions p currency ≤ (if bytes_eq own currency then n else 0)
  paid-one own n number nonce text paid place bound made =
      let issue : paid.issue ≡ p = eqb-true _ _ (rw paid.lives at place) in
      let same : paid.bytes ≡ text = (let both : Some paid.bytes ≡ Some text = sym (rw issue at paid.bound) ∙ bound in cc) in
      let token : paid.covered.token ≡ made.token = one_token paid.covered.token made.token text (rw same at paid.covered.carries.genuine.spelled) made.genuine.spelled in
      let enough : shown units records motions p currency ≤ amount paid.covered.token currency = rw issue at (paid.covered.enough currency) in
      subst (λ a. shown units records motions p currency ≤ a) (amount-one made.token own currency n made.amounts_kept) (rw token at enough)

  within-ask : AreMade → Within key units records motions → (t : Terms) → IsAuthorised key records p t → shown units records motions p currency ≤ asked_in currency t
  within-ask are all t a = go (find-paid motions all)
    where
      go : Found motions → shown units records motions p currency ≤ asked_in currency t
      go (inl none) = omega (arith, none)
      go (inr (number, paid, place)) = paid-one t.currency t.amount number t.nonce a.text paid place a.bound (are key a.text t a.decision a.replied)

pub within-asks : AreMade → (key : List ℕ) (units : List NoteKind) (records : List Rec) (motions : List Motion) → Within key units records motions
    → (p : ℕ) (t : Terms) → IsAuthorised key records p t → IsWithinAsk units records motions p t
within-asks are key units records motions all p t a currency = within-ask key units records motions p currency are all t a
