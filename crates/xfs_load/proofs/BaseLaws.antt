-- A load leaves the base of the journal, which lies in front of the boot record.
use Rattle.std.proofs.Common.{◌≡◌, ◌≢◌, ◌≤◌, ◌-◌, ℕ, Bool, true, false, List, [], ◌∷◌, length, refl, ap, ◌∙◌, arith}
use Rattle.xfs_base.specs.declared.moment.Moment.{Moment}
use Rattle.xfs_base.specs.declared.moment.Service.{Service}
use Rattle.xfs_journal.specs.Journal.{base_of, has_boot}
use Rattle.xfs_journal.specs.declared.record.Rec.{Rec}
use Rattle.xfs_journal.proofs.BaseLaws.{base_of-unmarked, base_of-within}
use Rattle.xfs_model.specs.Events.{Answer, Event, restart}
use Rattle.xfs_model.specs.State.{State}
use Rattle.xfs_model.specs.Step.{Step}
use Rattle.xfs_model.proofs.Advancing.{advances}
use Rattle.xfs_load.specs.Generator.{Client, Deed, count, say, take}
use Rattle.xfs_load.specs.Plays.{DoesDeed, Plays}
use Rattle.xfs_load.specs.Rests.{Rests, ends, goes, Turns, over, enough, idled, worked}

-- the base of a machine's journal
abbrev pub base : State → ℕ
base s = s.seen.guard.base

-- so does each step but a restart
pub step-base : (s : State) (event : Event) (answer : Answer) (new : State) → Step s event answer new → event ≢ restart → base new ≡ base s
step-base s event answer new step other = (advances s new event answer step).base other

turns-base : (now : Moment) (services : List Service) (most n : ℕ) (s new : State) → Turns now services most s n new → base new ≡ base s
turns-base now services most n s new over = refl
turns-base now services most n s new enough = refl
turns-base now services most n s new (idled {between = between} step rest) = turns-base now _ _ _ between new rest ∙ step-base s _ _ between step (λ e. cc)
turns-base now services most n s new (worked {between = between} step rest) = turns-base now _ _ _ between new rest ∙ step-base s _ _ between step (λ e. cc)

rests-base : (now : Moment) (most n : ℕ) (s new : State) → Rests now most s n new → base new ≡ base s
rests-base now most n s new (ends turns) = turns-base now _ _ _ s new turns
rests-base now most n s new (goes {between = between} turns rest) = rests-base now _ _ between new rest ∙ turns-base now _ _ _ s between turns

does-base : (deed : Deed) (c : Client) (s : State) (after : Client) (new : State) → DoesDeed deed c s after new → base new ≡ base s
does-base (say ask) c s after new does =
    let says = does.says in
    step-base says.rested _ _ new says.hands (λ e. cc) ∙ (rests-base _ _ says.many says.posted says.rested says.rests ∙ step-base s _ _ says.posted says.post (λ e. cc))
does-base take c s after new does = step-base s _ does.answer new does.step (λ e. cc)
does-base count c s after new does = ap base does.1

pub plays-base : (deeds : List Deed) (c : Client) (s : State) (after : Client) (new : State) → Plays deeds c s after new → base new ≡ base s
plays-base [] c s after new plays = ap base plays.1
plays-base (deed ∷ deeds) c s after new plays = plays-base deeds plays.client plays.between after new plays.rest ∙ does-base deed c s plays.client plays.between plays.does

-- no base lies behind all records but the last
pub in-front : (records : List Rec) (at : ℕ) → at ≤ base_of records → at ≤ length records - 1
in-front records at le = go (has_boot records) refl
  where
    go : (b : Bool) → has_boot records ≡ b → at ≤ length records - 1
    go true is = let less = base_of-within records is in omega (arith, le, less)
    go false is = let none = base_of-unmarked records is in omega (arith, le, none)
