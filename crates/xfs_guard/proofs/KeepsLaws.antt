-- What every call keeps, by what the call did.
use Rattle.std.proofs.Common.{◌≡◌, ℕ, ◌≤◌, Bool, true, is_some, List, Result, refl, arith}
use Rattle.xfs_base.specs.Causes.{IfTold}
use Rattle.xfs_disk.specs.Moments.{LeavesOnly, EachImage}
use Rattle.xfs_disk.specs.declared.disk.Disk.{Ghosts}
use Rattle.xfs_journal.specs.JournalView.{IsPossible}
use Rattle.xfs_journal.specs.declared.record.Rec.{Rec}
use Rattle.xfs_journal.proofs.Moments.{weaken}
use Rattle.xfs_journal.proofs.Told.{on_told, from_told}
use Rattle.xfs_mech.specs.declared.motion.Motion.{Motion}
use Rattle.xfs_guard.specs.Calls.{UsesMechanism, WritesRecord}
use Rattle.xfs_guard.specs.Continues.{Continues}
use Rattle.xfs_guard.specs.Crashed.{LeavesBehind}
use Rattle.xfs_guard.specs.Keeps.{Proceeds, Keeps, NoEntry}
use Rattle.xfs_guard.specs.CrashOutcomes.{StandsThrough}
use Rattle.xfs_guard.specs.Recorded.{IsRecorded}
use Rattle.xfs_guard.specs.Upheld.{IsUpheld}
use Rattle.xfs_guard.specs.View.{View, GuardView}
use Rattle.xfs_guard.specs.declared.deny.Deny.{Deny}
use Rattle.xfs_guard.proofs.BehindLaws.{behind-still, behind-trans}
use Rattle.xfs_guard.proofs.ContinueLaws.{Continues-same, Continues-trans}
use Rattle.xfs_guard.proofs.LeftLaws.{left-same, left-unwritten}
use Rattle.xfs_journal.specs.Held.{StandsForSome}

-- bytes that stand for a recorded list do so beside a call that adds no entry
through-recorded : (v : View) (bytes : List ℕ) → StandsForSome (IsRecorded v.key v.units v.motions) bytes → StandsThrough v NoEntry bytes
through-recorded v bytes s = record { records = s.records; stands = s.stands; before = s.such; after = λ entry now may grows. absurd may }

pub stays-through : {D : Type 0} (g : Ghosts D) (old new : D) (v : View)
    → IfTold (g.held old) (λ _. LeavesOnly g old new (StandsForSome (IsRecorded v.key v.units v.motions)))
    → IfTold (g.held old) (λ _. LeavesOnly g old new (StandsThrough v NoEntry))
stays-through g old new v stays = on_told (g.held old) (λ _. LeavesOnly g old new (StandsThrough v NoEntry)) (λ all told.
    weaken g old new (StandsForSome (IsRecorded v.key v.units v.motions)) (StandsThrough v NoEntry) (through-recorded v)
    (from_told (g.held old) (λ _. LeavesOnly g old new (StandsForSome (IsRecorded v.key v.units v.motions))) stays all told))

-- nothing happened
pub Proceeds-same : {D : Type 0} (g : Ghosts D) (x : GuardView D) → ((d : D) (c : List ℕ) → g.images_since d (g.moment d) c → g.images d c) → Proceeds g x x
Proceeds-same g x only_now = record { continues = Continues-same x.state; disk_faults = omega arith; mech_faults = omega arith; crashes = behind-still g x x only_now refl }

-- one thing, and then another
pub Proceeds-trans : {D : Type 0} (g : Ghosts D) (a b c : GuardView D) → ((d : D) (t : ℕ) (bytes : List ℕ) → t ≤ g.moment d → g.images d bytes → g.images_since d t bytes)
    → Proceeds g a b → Proceeds g b c → Proceeds g a c
Proceeds-trans g a b c counts_now one two = record {
  continues = Continues-trans a.state b.state c.state one.continues two.continues;
  disk_faults = let x = one.disk_faults in let y = two.disk_faults in omega (arith, x, y);
  mech_faults = let x = one.mech_faults in let y = two.mech_faults in omega (arith, x, y);
  crashes = behind-trans g a b c counts_now one.continues two.continues one.crashes two.crashes;
}

-- a call that did nothing
pub Keeps-same : {D : Type 0} (g : Ghosts D) (x : GuardView D) → ((d : D) (c : List ℕ) → g.images_since d (g.moment d) c → g.images d c) → IsUpheld g x → Keeps g NoEntry x x
Keeps-same g x only_now upheld = record {
  proceeds = Proceeds-same g x only_now;
  recorded = stays-through g x.disk x.disk x.state (left-same g x.disk (StandsForSome (IsRecorded x.state.key x.state.units x.state.motions)) (only_now x.disk) upheld.recorded);
}

-- a call that did nothing, whose disk leaves one of the possible lists, each of which is recorded
pub Keeps-still : {D : Type 0} (g : Ghosts D) (x : GuardView D) → ((d : D) (c : List ℕ) → g.images_since d (g.moment d) c → g.images d c) → EachImage g x.disk (StandsForSome (IsPossible x.state.records x.state.in_doubt))
    → (is_some (g.held x.disk) ≡ true → (records : List Rec) → IsPossible x.state.records x.state.in_doubt records → IsRecorded x.state.key x.state.units x.state.motions records) → Keeps g NoEntry x x
Keeps-still g x only_now leaves recorded = record {
  proceeds = Proceeds-same g x only_now;
  recorded = stays-through g x.disk x.disk x.state (left-unwritten g x.disk x.state (only_now x.disk) leaves recorded);
}

-- a call that may have written
pub Keeps-wrote : {D : Type 0} (g : Ghosts D) (old new : GuardView D) → Continues old.state new.state → g.faults old.disk ≤ g.faults new.disk → old.state.faults ≤ new.state.faults → LeavesBehind g old new
    → IfTold (g.held old.disk) (λ _. LeavesOnly g old.disk new.disk (StandsForSome (IsRecorded old.state.key old.state.units old.state.motions))) → Keeps g NoEntry old new
Keeps-wrote g old new continues disk mech crashes stays = record {
  proceeds = record { continues = continues; disk_faults = disk; mech_faults = mech; crashes = crashes };
  recorded = stays-through g old.disk new.disk old.state stays;
}

-- a call of the mechanism
pub Keeps-moved : {D : Type 0} (g : Ghosts D) (MayAdd : Motion → Type 0) (old new : GuardView D) → ((d : D) (c : List ℕ) → g.images_since d (g.moment d) c → g.images d c) → new.disk ≡ old.disk
    → Continues old.state new.state → old.state.faults ≤ new.state.faults
    → IfTold (g.held old.disk) (λ _. LeavesOnly g old.disk old.disk (StandsThrough old.state MayAdd)) → Keeps g MayAdd old new
Keeps-moved g MayAdd old new only_now same continues mech through = record {
  proceeds = record { continues = continues; disk_faults = rw same (omega arith); mech_faults = mech; crashes = behind-still g old new only_now same };
  recorded = rw same through;
}

-- what a call keeps that writes, beside what every call keeps
pub writes-keeping : {T D : Type 0} {g : Ghosts D} {rec : Rec} {result : Result T Deny} {old new : GuardView D} → Keeps g NoEntry old new
    → (Keeps g NoEntry old new → WritesRecord g rec result old new) → WritesRecord g rec result old new
writes-keeping keeps rest = rest keeps

-- what a call of the mechanism keeps, beside what every call keeps
pub uses-keeping : {D : Type 0} {g : Ghosts D} {MayAdd : Motion → Type 0} {is_failed : Bool} {old new : GuardView D} → Keeps g MayAdd old new
    → (Keeps g MayAdd old new → UsesMechanism g MayAdd is_failed old new) → UsesMechanism g MayAdd is_failed old new
uses-keeping keeps rest = rest keeps
