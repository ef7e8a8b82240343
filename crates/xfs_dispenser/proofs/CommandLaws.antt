-- How the parts of a command's beginning are put together.
use Rattle.std.proofs.Common.{◌≡◌, ◌≢◌, Bool, List, ℕ, Some, None, Ok, Err, refl, sym, subst, ◌∙◌, ap}
use Rattle.std.specs.Prelude.{IfOk}
use Rattle.std.specs.declared.option.Option.{Option}
use Rattle.std.specs.declared.result.Result.{Result}
use Rattle.xfs_base.specs.declared.faults.Memory.{Memory}
use Rattle.xfs_dispenser.specs.Answers.{Start, answer_of, planned, start_of}
use Rattle.xfs_dispenser.specs.Begins.{IsDispensed, StartsRefused}
use Rattle.xfs_dispenser.specs.Checks.{Passed, IsGrant, GrantChecks, active_refusal}
use Rattle.xfs_dispenser.specs.Denominations.{FirstOf, members_refusal}
use Rattle.xfs_dispenser.specs.Seen.{Seen}
use Rattle.xfs_dispenser.specs.declared.begun.Begun.{Begun}
use Rattle.xfs_dispenser.specs.declared.grant.Grant.{Grant}
use Rattle.xfs_dispenser.specs.declared.notes.Notes.{Notes}
use Rattle.xfs_dispenser.specs.declared.plan.Plan.{Plan}
use Rattle.xfs_dispenser.specs.declared.refusal.Refusal.{Refusal}

-- the amount of a dispense is out of its range
pub dispense-invalid : (s : Seen) (exchange : Bool) (notes : Notes) (token : Option (List ℕ)) (refusal : Refusal) (start : Start) → members_refusal notes ≡ Some refusal → StartsRefused refusal start → IsDispensed s exchange notes token s start
dispense-invalid s exchange notes token refusal start e t = record {
  checked = Err refusal;
  checks = subst (λ o. FirstOf {T = Passed} o (FirstOf (active_refusal exchange) (GrantChecks s.guard notes token)) (Err refusal)) (sym e) refl;
  grant = Err refusal;
  permits = (refl, refl);
  eight = tt;
  starts = t;
}

-- an exchange is active
pub dispense-active : (s : Seen) (exchange : Bool) (notes : Notes) (token : Option (List ℕ)) (refusal : Refusal) (start : Start) → members_refusal notes ≡ None → active_refusal exchange ≡ Some refusal → StartsRefused refusal start
    → IsDispensed s exchange notes token s start
dispense-active s exchange notes token refusal start e f t = record {
  checked = Err refusal;
  checks = subst (λ o. FirstOf {T = Passed} o (FirstOf (active_refusal exchange) (GrantChecks s.guard notes token)) (Err refusal)) (sym e)
      (subst (λ o. FirstOf {T = Passed} o (GrantChecks s.guard notes token) (Err refusal)) (sym f) refl);
  grant = Err refusal;
  permits = (refl, refl);
  eight = tt;
  starts = t;
}

told-some : (refusal : Refusal) (start : Start) → StartsRefused refusal start → refusal ≢ Refusal.Memory
told-some refusal start t e = (let f : None ≡ Some t.answer = sym (ap answer_of e) ∙ t.due in cc)

-- there is no grant
pub dispense-refused : (s : Seen) (exchange : Bool) (notes : Notes) (token text : Option (List ℕ)) (next : Seen) (refusal : Refusal) (start : Start) → members_refusal notes ≡ None → active_refusal exchange ≡ None → text ≡ token
    → (◌≢◌ {A = Result Grant Refusal} (Err refusal) (Err Refusal.Memory) → IsGrant s notes text (Err refusal) next) → StartsRefused refusal start → IsDispensed s exchange notes token next start
dispense-refused s exchange notes token text next refusal start e f same grant t =
    let l = subst (λ x. IsGrant s notes x (Err refusal) next) same (grant (λ g. told-some refusal start t (let h : refusal ≡ Refusal.Memory = cc in h))) in
    record {
      checked = l.checked;
      checks = subst (λ o. FirstOf {T = Passed} o (FirstOf (active_refusal exchange) (GrantChecks s.guard notes token)) l.checked) (sym e)
          (subst (λ o. FirstOf {T = Passed} o (GrantChecks s.guard notes token) l.checked) (sym f) l.checks);
      grant = Err refusal;
      permits = l.permits;
      eight = tt;
      starts = t;
    }

-- what begins with a plan
pub at-plan : (P : Start → Type 0) (r : Result Begun Memory) (plan : Plan) → IfOk r (λ b. P (start_of b)) → r ≡ Ok (Begun.Plan plan) → P (planned plan)
at-plan P r plan h e = subst (λ x. IfOk x (λ b. P (start_of b))) e h
