-- What a client was handed in a run tells what stands in the journal now.
use Rattle.std.proofs.Common.{◌<◌, zero, suc, arith, ◌≡◌, ◌++◌, ℕ, Bool, true, false, cond, List, [], All, refl, subst}
use Rattle.std.proofs.lemmas.Option.{none-some}
use Rattle.std.proofs.lemmas.List.Elements.{All-append, All-nil}
use Rattle.xfs_base.specs.declared.moment.ClientId.{ClientId}
use Rattle.xfs_dispenser.specs.Seen.{Seen}
use Rattle.xfs_guard.specs.Lives.{BeginsWith}
use Rattle.xfs_guard.specs.Upheld.{IsMarkAt}
use Rattle.xfs_guard.proofs.MarkLaws.{mark-there, marked-begun}
use Rattle.xfs_guard.specs.declared.open.Open.TheVariants.{No}
use Rattle.xfs_journal.specs.Journal.{last_mark}
use Rattle.xfs_journal.specs.declared.record.Rec.{Rec}
use Rattle.xfs_model.specs.Conversations.{frames_after, is_pass_of}
use Rattle.xfs_mech.specs.declared.touch.Touch.{Touch}
use Rattle.xfs_mech.specs.declared.touch.Touch.TheVariants.{CardIn, CardTaken, CardFault, Key, KeyFault, NotesTaken}
use Rattle.xfs_model.specs.Cases.{told_by}
use Rattle.xfs_model.specs.Events.{Answer, Event, handed, join, joined, memory, outbox, touch, touched, work}
use Rattle.xfs_model.specs.Runs.{Run, begun, next}
use Rattle.xfs_model.specs.Sound.{IsSound}
use Rattle.xfs_model.specs.State.{State, bare}
use Rattle.xfs_model.specs.Step.{Happens, Step, at_moment, happens, wanting}
use Rattle.xfs_model.specs.Touches.{TakesNotes, Touches, failed, shut, took}
use Rattle.xfs_model.specs.Work.{Case, order, expire, answer, nonce, overdue, stop, go_on, begin, rest, case_of}
use Rattle.xfs_model.specs.Told.{HasMark, IsTold, TellsRecords}
use Rattle.xfs_model.proofs.Advancing.{advances}
use Rattle.xfs_model.proofs.Changes.{each}
use Rattle.xfs_model.proofs.Sounds.{sound_bare, sound_kept}
use Rattle.xfs_model.proofs.Telling.{bare_told, handed_tell, longer_tells, told_kept}

-- a list that has a mark has one behind more records
some_place : (records : List Rec) (n : ℕ) → IsMarkAt records n → 0 < n
some_place records zero h = absurd (none-some h.0 h.1)
some_place records (suc n) h = omega arith

pub mark_kept : (old new : Seen) → BeginsWith new.guard.records old.guard.records → HasMark old → HasMark new
mark_kept old new grown h = mark-there new.guard.records (marked-begun new.guard.records old.guard.records grown (some_place old.guard.records (last_mark old.guard.records) h))

-- what a client has heard behind a step
module _ (records : List Rec) (old : State) (mine : ClientId) where
  heard_by : (event : Event) (told_ : Answer) (frames : List (List ℕ)) → All (TellsRecords records) frames → ((pass_frames : List (List ℕ)) → told_ ≡ handed pass_frames → All (TellsRecords records) pass_frames) → All (TellsRecords records) (frames_after old frames event told_ mine)
  heard_by (join service) (joined pass) frames kept more = go (is_pass_of old mine pass)
    where
      go : (b : Bool) → All (TellsRecords records) (cond b [] frames)
      go true = All-nil (TellsRecords records)
      go false = kept
  heard_by (outbox pass) (handed given) frames kept more = go (is_pass_of old mine pass)
    where
      go : (b : Bool) → All (TellsRecords records) (cond b (frames ++ given) frames)
      go true = All-append (TellsRecords records) frames given kept (more given refl)
      go false = kept
  heard_by event told_ frames kept more = kept

-- what a run keeps
record IsHeard (s : State) (frames : List (List ℕ)) : Type 0 where
  sound : IsSound s
  mark : HasMark s.seen
  told : IsTold s
  heard : All (TellsRecords s.seen.guard.records) frames

-- only an outbox hands frames over
no_frames : (given : List (List ℕ)) (case : Case) → handed given ≡ told_by case → ⊥
no_frames given order e = cc
no_frames given expire e = cc
no_frames given answer e = cc
no_frames given nonce e = cc
no_frames given overdue e = cc
no_frames given stop e = cc
no_frames given go_on e = cc
no_frames given begin e = cc
no_frames given rest e = cc

no_touch : (given : List (List ℕ)) → handed given ≡ touched → ⊥
no_touch given e = cc

no_memory : (given : List (List ℕ)) → handed given ≡ memory → ⊥
no_memory given e = cc

no_notes : (s : State) (given : List (List ℕ)) (answer_ : Answer) (new : State) → answer_ ≡ handed given → TakesNotes s answer_ new → ⊥
no_notes s given answer_ new e (shut closed_) = cc
no_notes s given answer_ new e (took moved next_ open_ takes) = cc
no_notes s given answer_ new e (failed moved next_ open_ takes) = cc

handed_only : (old new : State) (event : Event) (given : List (List ℕ)) → Step old event (handed given) new → IsTold old → All (TellsRecords old.seen.guard.records) given
handed_only old new event given (wanting is_memory wants) told = absurd (no_memory given is_memory)
handed_only old new event given (happens up is) told = by_event event is
  where
    by_touch : (it : Touch) → Touches old it (handed given) new → ⊥
    by_touch (CardIn tracks) is = no_touch given is.0
    by_touch CardTaken is = no_touch given is.0
    by_touch CardFault is = no_touch given is.0
    by_touch (Key key) is = no_touch given is.0
    by_touch KeyFault is = no_touch given is.0
    by_touch NotesTaken is = no_notes old given (handed given) new refl is

    by_event : (event_ : Event) → Happens old event_ (handed given) new → All (TellsRecords old.seen.guard.records) given
    by_event (outbox pass) is = handed_tell old new pass given (happens up is) told
    by_event (touch it) is = absurd (by_touch it is)
    by_event (work service now) is = absurd (no_frames given (case_of (at_moment old now) service) is.0)
    by_event other is = absurd is

handed_now : (old new : State) (event : Event) (told_ : Answer) → Step old event told_ new → IsTold old → (given : List (List ℕ)) → told_ ≡ handed given → All (TellsRecords old.seen.guard.records) given
handed_now old new event told_ is told given e = handed_only old new event given (subst (λ (a : Answer). Step old event a new) e is) told

heard_runs : (seen : Seen) (life boot : ℕ) (mine : ClientId) → seen.guard.open_order ≡ No → HasMark seen → {s : State} {texts frames : List (List ℕ)} → Run (bare seen life boot) mine s texts frames → IsHeard s frames
heard_runs seen life boot mine none mark begun = record { sound = sound_bare seen life boot (λ up. none); mark = mark; told = bare_told seen life boot; heard = All-nil (TellsRecords seen.guard.records) }
heard_runs seen life boot mine none mark (next {s = s} {frames = frames} before event told_ new is) =
    let h = heard_runs seen life boot mine none mark before in
    let grown = (advances s new event told_ is).records in
    let longer = λ (fs : List (List ℕ)) (tells : All (TellsRecords s.seen.guard.records) fs). each (TellsRecords s.seen.guard.records) (TellsRecords new.seen.guard.records) (longer_tells s.seen.guard.records new.seen.guard.records grown) fs tells in
    record {
      sound = sound_kept s new event told_ h.sound is;
      mark = mark_kept s.seen new.seen grown h.mark;
      told = told_kept s new event told_ h.sound.machine h.sound.asks h.mark is h.told;
      heard = heard_by new.seen.guard.records s mine event told_ frames (longer frames h.heard) (λ given e. longer given (handed_now s new event told_ is h.told given e));
    }

pub told_in_runs : (seen : Seen) (life boot : ℕ) (mine : ClientId) → seen.guard.open_order ≡ No → HasMark seen → {s : State} {texts frames : List (List ℕ)} → Run (bare seen life boot) mine s texts frames → IsTold s × All (TellsRecords s.seen.guard.records) frames
told_in_runs seen life boot mine none mark run = let h = heard_runs seen life boot mine none mark run in (h.told, h.heard)
