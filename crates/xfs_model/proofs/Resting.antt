-- What a step leaves of the places where no command moves notes: the customer may take what lies in the outlet.
use Rattle.std.proofs.Common.{◌≡◌, ◌+◌, ℕ, ◌∷◌, [], refl, arith}
use Rattle.xfs_base.specs.Counts.{at}
use Rattle.xfs_base.specs.declared.counts.Counts.{Counts}
use Rattle.xfs_base.specs.declared.counts.Places.{Places}
use Rattle.xfs_mech.specs.Motions.{PlacesOf}
use Rattle.xfs_mech.specs.declared.motion.Motion.TheVariants.{Taken}
use Rattle.xfs_model.specs.Moved.{put_out}

pub record Rests (before now : Places) : Type 0 where
  pub units : (u : ℕ) → at now.units u ≡ at before.units u
  pub transport : (u : ℕ) → at now.transport u ≡ at before.transport u
  pub out : (u : ℕ) → put_out now u ≡ put_out before u
  pub back : (u : ℕ) → at now.retracted u ≡ at before.retracted u
  pub bin : (u : ℕ) → at now.rejected u ≡ at before.rejected u

pub rests_same : (before now : Places) → now ≡ before → Rests before now
rests_same before now same = rw same (record { units = λ u. refl; transport = λ u. refl; out = λ u. refl; back = λ u. refl; bin = λ u. refl })

pub rests_taken : (before now : Places) (counts : Counts) → PlacesOf before (Taken counts ∷ []) now → Rests before now
rests_taken before now counts p = record {
  units = λ u. let a : at now.units u + ((0 + 0) + (0 + 0)) ≡ at before.units u + (0 + 0) = p.units u in omega (arith, a);
  transport = λ u. let a : at now.transport u + ((0 + 0) + (0 + 0)) ≡ at before.transport u + (0 + 0) = p.transport u in omega (arith, a);
  out = λ u.
      let a : at now.outlet u + ((0 + 0) + (0 + at counts u)) ≡ at before.outlet u + (0 + 0) = p.outlet u in
      let b : at now.taken u ≡ at before.taken u + (0 + at counts u) = p.taken_out u in
      omega (arith, a, b);
  back = λ u. let a : at now.retracted u ≡ at before.retracted u + (0 + 0) = p.back u in omega (arith, a);
  bin = λ u. let a : at now.rejected u ≡ at before.rejected u + ((0 + 0) + (0 + 0)) = p.bin u in omega (arith, a);
}
