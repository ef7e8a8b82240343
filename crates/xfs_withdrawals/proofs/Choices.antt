-- Which case of the dispenser's work comes first, while one command is pending in time.
use Rattle.std.proofs.Common.{◌≡◌, ◌||◌, Bool, true, false, [], ◌∷◌, refl, ap, ◌∙◌}
use Rattle.std.specs.Prelude.{if◌then◌else◌}
use Rattle.std.specs.List.{list_any}
use Rattle.xfs_base.specs.declared.moment.Service.TheVariants.{Cash}
use Rattle.xfs_guard.specs.declared.open.Open.TheVariants.{No}
use Rattle.xfs_model.specs.Cases.{AnswersFirst, BeginsFirst, Does, WorksOnPlan}
use Rattle.xfs_model.specs.State.{Job, State, queue_at}
use Rattle.xfs_model.specs.Work.{Case, answer, begin, can_begin, case_of, expire, go_on, has_nonce, has_order, has_overdue, has_ready, has_running, has_stopped, is_life_over, is_overdue, is_stopped, nonce, order, overdue, rest, stop, is_ordered}
use Rattle.xfs_queue.specs.Commands.{is_due, is_ready, is_running, waits_on}
use Rattle.xfs_queue.specs.declared.command.Command.{Command}
use Rattle.xfs_queue.specs.declared.command.Line.TheVariants.{Device, Nonce}
use Rattle.xfs_queue.specs.declared.command.Stage.TheVariants.{Running, Ready, Waiting}

-- the first of the tests that holds
abbrev first_case : Bool → Bool → Bool → Bool → Bool → Bool → Bool → Bool → Case
first_case ordered over ready nonces late stopped runs begins =
    if ordered then order
    else if over then expire
    else if ready then answer
    else if nonces then nonce
    else if late then overdue
    else if stopped then stop
    else if runs then go_on
    else if begins then begin
    else rest

no_order : (s : State) → s.seen.guard.open_order ≡ No → has_order s Cash ≡ false
no_order s none = ap (λ o. is_ordered o) none

does_case : (s new : State) (ordered over ready nonces late stopped runs begins : Bool) → has_order s Cash ≡ ordered → is_life_over s ≡ over → has_ready s Cash ≡ ready → has_nonce s Cash ≡ nonces → has_overdue s Cash ≡ late
    → has_stopped s Cash ≡ stopped → has_running s Cash ≡ runs → can_begin s Cash ≡ begins → Does (case_of s Cash) s Cash new → Does (first_case ordered over ready nonces late stopped runs begins) s Cash new
does_case s new ordered over ready nonces late stopped runs begins o l r n d t g b is = rw (b, o, l, r, n, d, t, g) at is

-- a test of a queue of one command
one : (test : Command Job → Bool) (s : State) (b : Command Job) (holds : Bool) → queue_at s Cash ≡ b ∷ [] → test b ≡ holds → list_any test (queue_at s Cash) ≡ (holds || false)
one test s b holds queue is = ap (λ q. list_any test q) queue ∙ ap (λ t. t || false) is

module _ (s new : State) (b : Command Job) (queue : queue_at s Cash ≡ b ∷ []) (young : is_life_over s ≡ false) where
  -- a running command is worked on
  pub plan_step : b.stage ≡ Running → b.marked ≡ false → is_due s.now b ≡ false → Does (case_of s Cash) s Cash new → WorksOnPlan s new
  plan_step stage unmarked undue is = go (has_order s Cash) refl
    where
      go : (o : Bool) → has_order s Cash ≡ o → WorksOnPlan s new
      go true o = does_case s new true (is_life_over s) (has_ready s Cash) (has_nonce s Cash) (has_overdue s Cash) (has_stopped s Cash) (has_running s Cash) (can_begin s Cash) o refl refl refl refl refl refl refl is
      go false o = does_case s new false false false false false false true (can_begin s Cash) o young
          (one (λ a. is_ready a.stage) s b false queue (rw stage refl))
          (one (waits_on Nonce) s b false queue (rw stage refl))
          (one (is_overdue s) s b false queue (rw stage refl))
          (one (is_stopped s) s b false queue (rw (stage, unmarked, undue) refl))
          (one (λ a. is_running a.stage) s b true queue (rw stage refl)) refl is

  -- one that has its result is answered
  pub answer_step : s.seen.guard.open_order ≡ No → b.stage ≡ Ready → Does (case_of s Cash) s Cash new → AnswersFirst s Cash new
  answer_step none stage is = does_case s new false false true (has_nonce s Cash) (has_overdue s Cash) (has_stopped s Cash) (has_running s Cash) (can_begin s Cash) (no_order s none) young
      (one (λ a. is_ready a.stage) s b true queue (rw stage refl)) refl refl refl refl refl is

  -- one that waits is begun
  pub begin_step : s.seen.guard.open_order ≡ No → b.stage ≡ Waiting → b.line ≡ Device → is_due s.now b ≡ false → Does (case_of s Cash) s Cash new → BeginsFirst s Cash new
  begin_step none stage line undue is = does_case s new false false false false false false false true (no_order s none) young
      (one (λ a. is_ready a.stage) s b false queue (rw stage refl))
      (one (waits_on Nonce) s b false queue (rw (stage, line) refl))
      (one (is_overdue s) s b false queue (rw (stage, line, undue) refl))
      (one (is_stopped s) s b false queue (rw stage refl)) runs
      (rw (one (waits_on Device) s b true queue (rw (stage, line) refl), runs) refl) is
    where
      runs : has_running s Cash ≡ false
      runs = one (λ a. is_running a.stage) s b false queue (rw stage refl)

-- where none is pending nothing is done
pub rest_step : (s new : State) → queue_at s Cash ≡ [] → is_life_over s ≡ false → s.seen.guard.open_order ≡ No → Does (case_of s Cash) s Cash new → new ≡ s
rest_step s new queue young none is = does_case s new false false false false false false false false (no_order s none) young
    (nothing (λ a. is_ready a.stage)) (nothing (waits_on Nonce)) (nothing (is_overdue s)) (nothing (is_stopped s)) (nothing (λ a. is_running a.stage)) (rw (nothing (waits_on Device)) refl) is
  where
    nothing : (test : Command Job → Bool) → list_any test (queue_at s Cash) ≡ false
    nothing test = ap (λ q. list_any test q) queue
