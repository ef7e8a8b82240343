-- Looks at the doors, one behind the other.
use Rattle.std.proofs.Common.{◌≡◌, ◌≢◌, ℕ, ◌+◌, ◌≤◌, ◌<◌, Bool, true, false, refl, ap, ◌∙◌, arith, rules}
use Rattle.xfs_server.proofs.Counts.{counted-counted}
use Rattle.xfs_server.specs.Doors.{DoorLog}
use Rattle.xfs_serving.specs.Takings.{EndsTaking, Takes, faults_in, looked, passed}
use Rattle.xfs_serving.specs.declared.ending.Ending.{Ending}
use Rattle.xfs_serving.specs.declared.ending.Ending.TheVariants.{Served, Failed, Memory}

pub passed_passed : (a b c e f h : ℕ) (d : DoorLog) → passed a b c (passed e f h d) ≡ passed (e + a) (f + b) (h + c) d
passed_passed a b c e f h d = rw (← counted-counted a e d.came, ← counted-counted b f d.quiets, ← counted-counted c h d.faults) refl

memory_early : Memory ≢ Served
memory_early e = search rules

failed_early : Failed ≢ Served
failed_early e = search rules

-- memory ran out, when a connection had come or none
pub starved : (came : ℕ) (old new : DoorLog) → came ≤ 1 → new ≡ passed came 0 0 old → EndsTaking Memory old new
starved came old new few is = record { early = memory_early; takes = record { came = came; quiets = 0; few = few; all = λ e. absurd (memory_early e); is = is } }

pub failed : (old new : DoorLog) → new ≡ passed 0 0 1 old → EndsTaking Failed old new
failed old new is = record { early = failed_early; takes = record { came = 0; quiets = 0; few = omega arith; all = λ e. absurd (failed_early e); is = is } }

pub served : (count quiets : ℕ) (old new : DoorLog) → new ≡ passed count quiets 0 old → Takes count Served old new
served count quiets old new is = record { came = count; quiets = quiets; few = omega arith; all = λ _. refl; is = is }

-- one more came, or nobody did
pub one_more : (taken quiets : ℕ) (came : Bool) (old between new : DoorLog) → came ≡ true → between ≡ passed taken quiets 0 old → new ≡ looked came between
    → new ≡ passed (taken + 1) quiets 0 old
one_more taken quiets came old between new here before is = is ∙ ap (λ c. looked c between) here ∙ ap (looked true) before ∙ passed_passed 1 0 0 taken quiets 0 old
    ∙ ap (λ q. passed (taken + 1) q 0 old) (let e : quiets + 0 ≡ quiets = omega arith in e)

pub quiet_more : (taken quiets : ℕ) (came : Bool) (old between new : DoorLog) → came ≡ false → between ≡ passed taken quiets 0 old → new ≡ looked came between
    → new ≡ passed taken (quiets + 1) 0 old
quiet_more taken quiets came old between new nobody before is = is ∙ ap (λ c. looked c between) nobody ∙ ap (looked false) before ∙ passed_passed 0 1 0 taken quiets 0 old
    ∙ ap (λ t. passed t (quiets + 1) 0 old) (let e : taken + 0 ≡ taken = omega arith in e)

-- the look that ends the taking, behind those before it
pub stopped : (count taken quiets : ℕ) (ending : Ending) (old between new : DoorLog) → taken < count → between ≡ passed taken quiets 0 old → EndsTaking ending between new
    → Takes count ending old new
stopped count taken quiets ending old between new less before stops = record {
  came = taken + stops.takes.came;
  quiets = quiets + stops.takes.quiets;
  few = let few = stops.takes.few in omega (arith, few, less);
  all = λ all. absurd (stops.early all);
  is = stops.takes.is ∙ ap (passed stops.takes.came stops.takes.quiets (faults_in ending)) before ∙ passed_passed _ _ _ taken quiets 0 old
      ∙ ap (λ f. passed (taken + stops.takes.came) (quiets + stops.takes.quiets) f old) (let none : 0 + faults_in ending ≡ faults_in ending = omega arith in none);
}
