-- No event of the machine lowers the count of its disk's failures.
use Rattle.std.proofs.Common.{◌≡◌, ◌≤◌, ℕ, List, [], ◌∷◌, sym, subst, arith}
use Rattle.xfs_load.specs.Steps.{HappensInPart, Steps}
use Rattle.xfs_model.specs.Events.{Event, Answer, outbox, handed}
use Rattle.xfs_model.specs.State.{State}
use Rattle.xfs_model.specs.Step.{Step}
use Rattle.xfs_model.proofs.Advancing.{advances}
use Rattle.xfs_script.specs.declared.replay_line.ReplayLine.{ReplayLine}
use Rattle.xfs_script.specs.declared.replay_line.ReplayLine.TheVariants.{Skip, Join, Leave, Say, At, Work, Rest, CardIn, CardTaken, CardFault, Key, KeyFault, Take, Mint, Restart, Show}
use Rattle.xfs_cli.specs.Replay.Command.{IsPartDone}
use Rattle.xfs_cli.specs.Replay.Events.{HandsAll, HasMail}
use Rattle.xfs_cli.specs.Replay.States.{Played}
use Rattle.xfs_cli.specs.declared.commands.replay.clients.Client.{Client}

-- the count has not fallen
abbrev pub IsNoLess : State → State → Type 0
IsNoLess s new = s.seen.disk_faults ≤ new.seen.disk_faults

no-less : (s between new : State) → IsNoLess s between → IsNoLess between new → IsNoLess s new
no-less s between new low high = omega (arith, low, high)

same-count : (s new : State) → new ≡ s → IsNoLess s new
same-count s new is = subst (λ (t : State). IsNoLess s t) (sym is) (omega arith)

step-later : (s new : State) (event : Event) (answer : Answer) → Step s event answer new → IsNoLess s new
step-later s new event answer step = (advances s new event answer step).disk_faults

steps-later : (es : List (Event × Answer)) (s new : State) → Steps s es new → IsNoLess s new
steps-later [] s new is = same-count s new is
steps-later (e ∷ es) s new then = no-less s then.between new (step-later s then.between e.0 e.1 then.step) (steps-later es then.between new then.rest)

pub part-later : (events : List Event) (s end : State) → HappensInPart events s end → IsNoLess s end
part-later events s end part = steps-later part.happened s end part.steps

-- the first of a verb's events
pub done-later : (s end : Played) (verb : ReplayLine) → IsPartDone s verb end → IsNoLess s.machine end.machine
done-later s end Rest part = part-later _ s.machine end.machine part.1
done-later s end Skip part = part-later _ s.machine end.machine part
done-later s end (Join client service) part = part-later _ s.machine end.machine part
done-later s end (Leave client) part = part-later _ s.machine end.machine part
done-later s end (Say client text) part = part-later _ s.machine end.machine part
done-later s end (At moment) part = part-later _ s.machine end.machine part
done-later s end (Work service) part = part-later _ s.machine end.machine part
done-later s end (CardIn tracks) part = part-later _ s.machine end.machine part
done-later s end CardTaken part = part-later _ s.machine end.machine part
done-later s end CardFault part = part-later _ s.machine end.machine part
done-later s end (Key key) part = part-later _ s.machine end.machine part
done-later s end KeyFault part = part-later _ s.machine end.machine part
done-later s end Take part = part-later _ s.machine end.machine part
done-later s end (Mint amounts) part = part-later _ s.machine end.machine part
done-later s end Restart part = part-later _ s.machine end.machine part
done-later s end Show part = part-later _ s.machine end.machine part

hands-later : (clients : List Client) (s : State) (said : List (List ℕ)) (new : State) → HandsAll clients s said new → IsNoLess s new
hands-later [] s said new none = same-count s new none.1
hands-later (client ∷ clients) s said new then =
    no-less s then.between new (step-later s then.between (outbox client.pass) (handed then.frames) then.step) (hands-later clients then.between then.later new then.rest)

-- the frames behind a line are handed over
pub mailed-later : (clients : List Client) (before : State) (text all : List ℕ) (after : State) → HasMail clients before text all after → IsNoLess before after
mailed-later clients before text all after mail = hands-later clients before mail.mail after mail.hands
