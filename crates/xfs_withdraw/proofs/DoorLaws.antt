-- The causes of closed, quiet and failed.
use Rattle.std.proofs.Common.{◌≡◌, ◌<◌, ◌↔◌, ℕ, Bool, true, false, Option, None, Some, Err, IfSome, refl, ap, sym, ◌∙◌, arith, rules}
use Rattle.std.specs.Prelude.{option_map}
use Rattle.xfs_base.specs.Causes.{Rose}
use Rattle.xfs_base.specs.declared.moment.Service.TheVariants.{Cash}
use Rattle.xfs_client.specs.Withdrawals.{Terms}
use Rattle.xfs_server.specs.Doors.{DoorLog, after_dial}
use Rattle.xfs_server.specs.Links.{LinkLog}
use Rattle.xfs_server.specs.declared.doors.DialFault.{DialFault}
use Rattle.xfs_withdraw.specs.Doors.{HasDialled, HasFailed, tells_closed, quiets_of}
use Rattle.xfs_withdraw.specs.Endings.{dial_ending, withdrawal_status}
use Rattle.xfs_withdraw.specs.Talks.{Withdraws, IsQuietFor, was_closed, fault_count}
use Rattle.xfs_withdraw.specs.declared.ending.Ending.{Ending}
use Rattle.xfs_withdraw.specs.declared.ending.Ending.TheVariants.{Done, Ended, Refused, BadAnswer, Closed, Quiet, Failed, Memory}
use Rattle.xfs_withdraw.specs.declared.ending.TheConstants.{LINK_FAILED, STAYED_QUIET}
use Rattle.xfs_withdraw.specs.declared.talk.TheConstants.{MOST_QUIETS}

only-closed : (ending : Ending) (told : Bool) → told ≡ was_closed (Some ending) → (ending ≡ Closed) ↔ (told ≡ true)
only-closed ending told e = ((λ is. e ∙ ap (λ x. was_closed (Some x)) is), (λ is. found ending (sym e ∙ is)))
  where
    found : (x : Ending) → was_closed (Some x) ≡ true → x ≡ Closed
    found Done h = cc
    found (Ended code) h = cc
    found (Refused status) h = cc
    found BadAnswer h = cc
    found Closed h = refl
    found Quiet h = cc
    found Failed h = cc
    found Memory h = cc

less : (n : ℕ) → n < MOST_QUIETS → n ≡ MOST_QUIETS → ⊥
less n few all = omega (arith, few, all)

only-quiet : (ending : Ending) (quiets : ℕ) → IsQuietFor (Some ending) quiets → (withdrawal_status ending ≡ STAYED_QUIET) ↔ (quiets ≡ MOST_QUIETS)
only-quiet Done quiets q = ((λ e. absurd (none e)), (λ all. absurd (less quiets q all)))
  where
    none : withdrawal_status Done ≡ STAYED_QUIET → ⊥
    none e = omega (arith, e)
only-quiet (Ended code) quiets q = ((λ e. absurd (none e)), (λ all. absurd (less quiets q all)))
  where
    none : withdrawal_status (Ended code) ≡ STAYED_QUIET → ⊥
    none e = omega (arith, e)
only-quiet (Refused status) quiets q = ((λ e. absurd (none e)), (λ all. absurd (less quiets q all)))
  where
    none : withdrawal_status (Refused status) ≡ STAYED_QUIET → ⊥
    none e = omega (arith, e)
only-quiet BadAnswer quiets q = ((λ e. absurd (none e)), (λ all. absurd (less quiets q all)))
  where
    none : withdrawal_status BadAnswer ≡ STAYED_QUIET → ⊥
    none e = omega (arith, e)
only-quiet Closed quiets q = ((λ e. absurd (none e)), (λ all. absurd (less quiets q all)))
  where
    none : withdrawal_status Closed ≡ STAYED_QUIET → ⊥
    none e = omega (arith, e)
only-quiet Quiet quiets q = ((λ e. q), (λ all. refl))
only-quiet Failed quiets q = ((λ e. absurd (none e)), (λ all. absurd (less quiets q all)))
  where
    none : withdrawal_status Failed ≡ STAYED_QUIET → ⊥
    none e = omega (arith, e)
only-quiet Memory quiets q = ((λ e. absurd (none e)), (λ all. absurd (less quiets q all)))
  where
    none : withdrawal_status Memory ≡ STAYED_QUIET → ⊥
    none e = omega (arith, e)

only-failed : (ending : Ending) → withdrawal_status ending ≡ LINK_FAILED → ending ≡ Failed
only-failed Done e = absurd (omega (arith, e))
only-failed (Ended code) e = absurd (omega (arith, e))
only-failed (Refused status) e = absurd (omega (arith, e))
only-failed BadAnswer e = absurd (omega (arith, e))
only-failed Closed e = absurd (omega (arith, e))
only-failed Quiet e = absurd (omega (arith, e))
only-failed Failed e = refl
only-failed Memory e = absurd (omega (arith, e))

-- the doors failed in the one dial
rose : (fault : DialFault) (before now : DoorLog) → dial_ending fault ≡ Failed → now ≡ after_dial {L = Unit {0}} before Cash (Err fault) → Rose before.faults now.faults
rose DialFault.Failed before now e once = let raised = ap (λ d. d.faults) once in omega (arith, raised)
rose DialFault.Memory before now e once = absurd (failed_not e)
  where
    failed_not : Memory ≡ Failed → ⊥
    failed_not e = search rules

module _ {L : Type 0} (log : L → LinkLog) (terms : Terms) where
  pub closed_cause : (link : Option L) (ending : Ending) (before now : DoorLog) → IfSome link (λ l. Withdraws terms ending (log l)) → HasDialled link ending before now
      → (ending ≡ Closed) ↔ (tells_closed (option_map log link) ≡ true)
  closed_cause (Some l) ending before now w d = only-closed ending (log l).closed w.tells.closed
  closed_cause None ending before now w d = ((λ e. absurd (open_still d.fault (sym d.is ∙ e))), (λ e. absurd (false_is_true e)))
    where
      open_still : (fault : DialFault) → dial_ending fault ≡ Closed → ⊥
      open_still DialFault.Failed e = search rules
      open_still DialFault.Memory e = search rules

      false_is_true : false ≡ true → ⊥
      false_is_true e = search rules

  pub quiet_cause : (link : Option L) (ending : Ending) (before now : DoorLog) → IfSome link (λ l. Withdraws terms ending (log l)) → HasDialled link ending before now
      → (withdrawal_status ending ≡ STAYED_QUIET) ↔ (quiets_of (option_map log link) ≡ MOST_QUIETS)
  quiet_cause (Some l) ending before now w d = only-quiet ending (log l).quiets w.tells.quiets
  quiet_cause None ending before now w d = ((λ e. absurd (not_quiet d.fault (ap withdrawal_status (sym d.is) ∙ e))), (λ e. absurd (none e)))
    where
      not_quiet : (fault : DialFault) → withdrawal_status (dial_ending fault) ≡ STAYED_QUIET → ⊥
      not_quiet DialFault.Failed e = omega (arith, e)
      not_quiet DialFault.Memory e = omega (arith, e)

      none : 0 ≡ MOST_QUIETS → ⊥
      none e = omega (arith, e)

  pub failed_cause : (link : Option L) (ending : Ending) (before now : DoorLog) → IfSome link (λ l. Withdraws terms ending (log l)) → HasDialled link ending before now
      → withdrawal_status ending ≡ LINK_FAILED → HasFailed (option_map log link) before now
  failed_cause (Some l) ending before now w d e = w.tells.faults ∙ ap (λ x. fault_count (Some x)) (only-failed ending e)
  failed_cause None ending before now w d e = rose d.fault before now (sym d.is ∙ only-failed ending e) d.once
