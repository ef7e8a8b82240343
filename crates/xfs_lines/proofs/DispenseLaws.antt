-- What the grant to stack notes says of a dispense.
use Rattle.std.proofs.Common.{◌≡◌, ◌≤◌, ℕ, List, None, Some, Ok, Err, inl, inr, refl, sym, ◌∙◌, ap}
use Rattle.std.specs.Prelude.{IsTrue, drop, length}
use Rattle.std.specs.Option.{option_map}
use Rattle.std.specs.declared.option.Option.{Option}
use Rattle.std.specs.declared.result.Result.{Result}
use Rattle.xfs_base.specs.declared.counts.Counts.{Counts as CountsOf}
use Rattle.xfs_mix.specs.Asked.{count_fault, is_none}
use Rattle.xfs_mix.specs.declared.asked.CountFault.{CountFault}
use Rattle.xfs_guard.specs.Fits.{unfit}
use Rattle.xfs_guard.specs.Nonce.{live_nonce}
use Rattle.xfs_guard.specs.Refusals.{Binds, Passes, over_budget}
use Rattle.xfs_guard.specs.View.{View}
use Rattle.xfs_guard.specs.declared.deny.Deny.{Deny}
use Rattle.xfs_guard.specs.declared.deny.Deny.TheVariants.{Disk}
use Rattle.xfs_guard.specs.declared.nonce.Nonce.{Nonce}
use Rattle.xfs_dispenser.specs.Checks.{Passed, GrantChecks, Permits, TokenChecks, passed_unless, within_budget}
use Rattle.xfs_dispenser.specs.Denominations.{FirstOf, given_unless}
use Rattle.xfs_dispenser.specs.declared.grant.Grant.{Grant}
use Rattle.xfs_dispenser.specs.declared.named.Named.TheVariants.{These}
use Rattle.xfs_dispenser.specs.declared.notes.Notes.TheVariants.{Individual}
use Rattle.xfs_dispenser.specs.declared.refusal.Refusal.{Refusal}
use Rattle.xfs_dispenser.specs.declared.refusal.Refusal.TheVariants.{Deny as Denied}
use Rattle.xfs_lines.specs.Guard.States.{GuardState, guard_of}
use Rattle.xfs_lines.specs.Guard.Dispenses.{IsAllowed}
use Rattle.xfs_lines.proofs.GuardStateLaws.{none-past}

-- counts that are given are those that were asked, and no fault
given-all : (counts n : CountsOf) (fault : Option CountFault) → ◌≡◌ {A = Result CountsOf Refusal} (Ok n) (given_unless counts fault) → (fault ≡ None) × (n ≡ counts)
given-all counts n None e = (refl, cc)
given-all counts n (Some f) e = cc

granted-all : (passed all : Passed) (over : Option Deny) → Ok passed ≡ passed_unless all over → passed ≡ all
granted-all passed all None e = cc
granted-all passed all (Some d) e = cc

-- counts within the budget were given
within-given : (v : View) (bytes : List ℕ) (amounts : List (List ℕ × ℕ)) (given : Result CountsOf Refusal) (passed : Passed) → Ok passed ≡ within_budget v bytes amounts given
    → (n : CountsOf) × (given ≡ Ok n) × (passed ≡ record { token = bytes; amounts = amounts; counts = n })
within-given v bytes amounts (Err r) passed e = cc
within-given v bytes amounts (Ok n) passed e = (n, refl, granted-all passed (record { token = bytes; amounts = amounts; counts = n }) (over_budget v amounts n) e)

-- a named token passed, and the counts are no fault
record IsChecked (v : View) (token : Option (List ℕ)) (counts : CountsOf) (passed : Passed) : Type 0 where
  is_named : token ≡ Some passed.token
  passes : Passes v passed.token passed.amounts
  fine : count_fault v.units v.places.units counts ≡ None
  counts_are : passed.counts ≡ counts

checked-all : (v : View) (token : Option (List ℕ)) (counts : CountsOf) (passed : Passed) → GrantChecks v (Individual (These counts)) token (Ok passed) → IsChecked v token counts passed
checked-all v token counts passed checks = fit (unfit v) checks
  where
    by-token : (t : Option (List ℕ)) → TokenChecks v (Individual (These counts)) t (Ok passed) → IsChecked v t counts passed
    by-token None e = cc
    by-token (Some bytes) (inl r) = (let e : Ok passed ≡ Err (Denied r.deny) = r.is in cc)
    by-token (Some bytes) (inr p) =
        let w = within-given v bytes p.amounts p.given passed p.is in
        let all = given-all counts w.0 (count_fault v.units v.places.units counts) (sym w.1 ∙ p.gives) in
        rw w.2 (record { is_named = refl; passes = p.passes; fine = all.0; counts_are = all.1 })

    fit : (o : Option Deny) → FirstOf (option_map (λ d. Denied d) o) (TokenChecks v (Individual (These counts)) token) (Ok passed) → IsChecked v token counts passed
    fit None c = by-token token c
    fit (Some d) e = cc

-- a dispense that is allowed: its token passed and is bound, its counts are no fault, and it is for the nonce that lives
pub record IsLet (s : GuardState) (token : Option (List ℕ)) (counts : CountsOf) (grant : Grant) (next : GuardState) : Type 0 where
  pub bytes : List ℕ
  pub amounts : List (List ℕ × ℕ)
  pub is_named : token ≡ Some bytes
  pub passes : Passes s.guard bytes amounts
  pub fine : count_fault s.guard.units s.guard.places.units counts ≡ None
  pub counts_are : grant.counts ≡ counts
  pub lives : option_map (λ (n : Nonce). n.number) (live_nonce s.guard.records) ≡ Some grant.issue
  pub binds : Binds s.guard next.guard bytes amounts
  pub later : s.disk_faults ≤ next.disk_faults

ok-grant : {a b : Grant} → ◌≡◌ {A = Result Grant Refusal} (Ok a) (Ok b) → a ≡ b
ok-grant e = cc

pub is-let : (s : GuardState) (token : Option (List ℕ)) (counts : CountsOf) (grant : Grant) (next : GuardState) → IsAllowed s token counts (Ok grant) next → IsLet s token counts grant next
is-let s token counts grant next a = go a.grant.checked a.grant.checks a.grant.permits
  where
    go : (c : Result Passed Refusal) → GrantChecks s.guard (Individual (These counts)) token c → Permits (guard_of s) c (Ok grant) (guard_of next) → IsLet s token counts grant next
    go (Err r) checks p = (let e : Ok grant ≡ Err r = p.0 in cc)
    go (Ok passed) checks (inr u) = (let e : Ok grant ≡ Err (Denied Disk) = u.is in cc)
    go (Ok passed) checks (inl p) =
        let c = checked-all s.guard token counts passed checks in
        let same = ok-grant p.is in
        record {
          bytes = passed.token;
          amounts = passed.amounts;
          is_named = c.is_named;
          passes = c.passes;
          fine = c.fine;
          counts_are = ap (λ (l : Grant). l.counts) same ∙ c.counts_are;
          lives = p.lives ∙ ap (λ (l : Grant). Some l.issue) (sym same);
          binds = p.binds;
          later = p.later;
        }

-- its counts are 0 past the table
pub few-allowed : (s : GuardState) (token : Option (List ℕ)) (counts : CountsOf) (grant : Grant) (next : GuardState) → IsAllowed s token counts (Ok grant) next → IsTrue (is_none (drop (length s.guard.units) grant.counts.0))
few-allowed s token counts grant next a =
    let l = is-let s token counts grant next a in rw l.counts_are (none-past s.guard.units s.guard.places.units counts l.fine)
