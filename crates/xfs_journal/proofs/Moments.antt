-- How a run of disk calls goes on, moment by moment.
use Rattle.std.proofs.Common.{inl, inr, ⊎_elim, ℕ, ◌⊎◌, List, arith}
use Rattle.std.proofs.Common.{◌∙◌}
use Rattle.xfs_disk.specs.Disk.{Elapses}
use Rattle.xfs_disk.specs.Moments.{LeavesOnly}
use Rattle.xfs_disk.specs.declared.disk.Disk.{Ghosts}
use Rattle.xfs_journal.specs.Paging.{IsQuiet}

module _ {D : Type 0} (g : Ghosts D) where
  -- before the first call
  pub started : (old : D) (P : List ℕ → Type 0) → ((c : List ℕ) → g.images_since old (g.moment old) c → P c) → LeavesOnly g old old P
  started old P here = record { later = omega arith; each = here; before = λ t c le left. inl left }

  -- one call more, after which a crash leaves what has P
  pub goes_on : (old mid new : D) (P images : List ℕ → Type 0) → LeavesOnly g old mid P → Elapses (g.moment mid) (g.moment new) (g.images_since mid) (g.images_since new) images
      → ((c : List ℕ) → images c → P c) → LeavesOnly g old new P
  goes_on old mid new P images so_far time here = record {
    later = omega (arith, so_far.later, time.later);
    each = λ c left. ⊎_elim (so_far.each c) (here c) (time.nothing_else (g.moment old) c so_far.later left);
    before = λ t c le left. ⊎_elim (so_far.before t c le) (λ now. inr (here c now)) (time.nothing_else t c (omega (arith, le, so_far.later)) left);
  }

  -- a weaker fact
  pub weaken : (old new : D) (P Q : List ℕ → Type 0) → ((c : List ℕ) → P c → Q c) → LeavesOnly g old new P → LeavesOnly g old new Q
  weaken old new P Q implies run = record {
    later = run.later;
    each = λ c left. implies c (run.each c left);
    before = λ t c le left. ⊎_elim (λ past. inl past) (λ p. inr (implies c p)) (run.before t c le left);
  }

  -- one run after another
  pub joins : (old mid new : D) (P Q : List ℕ → Type 0) → LeavesOnly g old mid P → LeavesOnly g mid new Q → LeavesOnly g old new (λ c. P c ⊎ Q c)
  joins old mid new P Q first second = record {
    later = omega (arith, first.later, second.later);
    each = λ c left. ⊎_elim (λ past. inl (first.each c past)) (λ q. inr q) (second.before (g.moment old) c first.later left);
    before = λ t c le left. ⊎_elim (λ past. ⊎_elim (λ was. inl was) (λ p. inr (inl p)) (first.before t c le past)) (λ q. inr (inr q)) (second.before t c (omega (arith, le, first.later)) left);
  }

-- readings one after another
pub quiet_then : {D : Type 0} (g : Ghosts D) (a b c : D) → IsQuiet g a b → IsQuiet g b c → IsQuiet g a c
quiet_then g a b c first then = record {
  same = then.same ∙ first.same;
  adds_none = λ f left. first.adds_none f (then.adds_none f left);
  moments = weaken g a c (λ f. g.images a f ⊎ g.images b f) (g.images a) (λ f e. ⊎_elim (λ x. x) (first.adds_none f) e) (joins g a b c (g.images a) (g.images b) first.moments then.moments);
  later = omega (arith, first.later, then.later);
}
