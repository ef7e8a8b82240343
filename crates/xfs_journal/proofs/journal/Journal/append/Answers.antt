use Rattle.std.proofs.Common.{◌≡◌, ◌≤◌, ◌<◌, ◌+◌, ◌^◌, ◌∙◌, ℕ, [], ◌∷◌, ◌++◌, length, true, false, None, Some, sym, ap, subst, arith, rules}
use Rattle.std.specs.declared.option.Option.{Option}
use Rattle.xfs_journal.specs.Image.{end_of, framed}
use Rattle.xfs_journal.specs.Journal.{base_of}
use Rattle.xfs_journal.proofs.BaseLaws.{base_of-grows}
use Rattle.xfs_journal.proofs.Listing.{records-few}
use Rattle.xfs_journal.proofs.Migrating.{unknown}
use Rattle.xfs_journal.specs.JournalView.{JournalView, HasVersion, IsInDoubt, IsKept, IsMeasured}
use Rattle.xfs_journal.specs.Outcomes.{WritesAtMost}
use Rattle.xfs_journal.proofs.Appended.{still, kept_failed, front-longer}
use Rattle.xfs_journal.proofs.journal.Journal.append.Goals as goal

pub returns-in_err-prepare-clause-crashes : goal.returns-in_err-prepare-clause-crashes
returns-in_err-prepare-clause-crashes g c =
    let j = c.self.inside in
    subst (λ (v : JournalView g.row.D.Denot). v.shut ≡ false → WritesAtMost g.D.Disk v.disk j.disk v.records c.args.rec) c.self.view_is
    (still g.D.Disk j.disk j.recent.all c.args.rec j.shut j.gate (g.met.D.Disk.only_now j.disk) c.self.invariant.0)

pub invariant_of-self-then-is_err : goal.invariant_of-self-then-is_err
invariant_of-self-then-is_err g c =
    let j = c.self.inside in
    let d = c.write_record.new.disk in
    let J = j.recent.all in
    let all : c.prepare.new.recent.all ≡ J = c.prepare.ensures.same.0 in
    let base : c.prepare.new.recent.base ≡ j.recent.base = c.prepare.ensures.same.1 in
    let m = c.self.invariant.3 in
    let items : c.len.result ≡ length c.prepare.new.buffer = search rules in
    let size : c.len.result ≡ length (framed c.args.rec ++ 0 ∷ []) = items ∙ ap length c.in_ok-prepare.ensures.bytes in
    let kept : IsKept (g.D.Disk.held d) (g.D.Disk.images d) c.prepare.new.recent.all true j.gate = rw all (kept_failed _ _ (g.D.Disk.images j.disk) _ J j.shut j.gate c.write_record.ensures.tries.goes_on.told c.self.invariant.0) in
    let far : j.end + c.len.result ≡ end_of (J ++ c.args.rec ∷ []) = ap (λ n. j.end + n) size ∙ front-longer J c.args.rec j.end m.end_is in
    let measured : IsMeasured c.prepare.new.recent.all c.prepare.new.recent.base (Some c.args.rec) j.end (j.end + c.len.result) =
    rw (all, base) (record { end_is = m.end_is; far_is = far; led = m.led }) in
    (kept, c.write_record.ensures.in_doubt, unknown _, measured)

pub push-requires : goal.push-requires
push-requires g c =
    let j = c.self.inside in
    let all : c.prepare.new.recent.all ≡ j.recent.all = c.prepare.ensures.same.0 in
    let small : j.end < 2 ^ 64 = search rules in
    let few : length c.prepare.new.recent.all + 1 < 2 ^ 64 = omega (arith, ap length all, records-few j.recent.all, c.self.invariant.3.end_is, small) in
    record { fits = record { room = search rules; few = few } }

pub invariant_of-self-2 : goal.invariant_of-self-2
invariant_of-self-2 g c =
    let j = c.self.inside in
    let d = c.write_record.new.disk in
    let J = c.prepare.new.recent.all in
    let all : J ≡ j.recent.all = c.prepare.ensures.same.0 in
    let base : c.push.new.self.base ≡ j.recent.base = c.push.ensures.base ∙ c.prepare.ensures.same.1 in
    let m = c.self.invariant.3 in
    let is_open : j.shut ≡ false = c.in_ok-prepare.ensures.open in
    let none : j.in_doubt ≡ None = c.self.invariant.1.none is_open in
    let items : c.len.result ≡ length c.prepare.new.buffer = search rules in
    let size : c.len.result ≡ length (framed c.args.rec ++ 0 ∷ []) = items ∙ ap length c.in_ok-prepare.ensures.bytes in
    let kept : IsKept (g.D.Disk.held d) (g.D.Disk.images d) (J ++ c.args.rec ∷ []) false c.next_gate-gate.result = search rules in
    let doubt : IsInDoubt (g.D.Disk.held d) (g.D.Disk.images d) (J ++ c.args.rec ∷ []) false None = search rules in
    let keeps : (v : Option ℕ) → HasVersion (g.D.Disk.held j.disk) v → HasVersion (g.D.Disk.held d) v = search rules in
    let end : j.end + c.len.result ≡ end_of (J ++ c.args.rec ∷ []) = ap (λ n. j.end + n) size ∙ front-longer J c.args.rec j.end (m.end_is ∙ ap end_of (sym all)) in
    let led : j.recent.base ≤ base_of (J ++ c.args.rec ∷ []) = omega (arith, m.led, ap base_of all, base_of-grows J c.args.rec) in
    let measured : IsMeasured (J ++ c.args.rec ∷ []) j.recent.base None (j.end + c.len.result) j.far = record { end_is = end; far_is = tt; led = led } in (
      rw (c.push.ensures.all, is_open) kept,
      rw (c.push.ensures.all, is_open, none) doubt,
      keeps j.version c.self.invariant.2,
      rw (c.push.ensures.all, base, none) measured,
    )
