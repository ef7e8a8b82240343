-- Each step keeps every conversation, and each run.
use Rattle.xfs_dispenser.specs.Seen.{Seen}
use Rattle.xfs_model.specs.Conversations.{Keeps}
use Rattle.xfs_model.specs.Events.{Event, join, post, touch, work, outbox, leave, restart, end_, finish, Answer, joined, full, done, handed, restarted, unrestarted, ended, unsettled, memory}
use Rattle.xfs_model.specs.Kept.{IsMachine}
use Rattle.xfs_model.specs.State.{State}
use Rattle.xfs_model.specs.Step.{Happens, Step, at_moment, happens, wanting}
use Rattle.xfs_model.specs.Work.{case_of}
use Rattle.xfs_model.proofs.Keeping.{keeps_join, keeps_leave, keeps_outbox, keeps_post}
use Rattle.xfs_model.proofs.Wanting.{unmoved}
use Rattle.xfs_model.proofs.Working.{does, touches}

keeps_event : (old : State) (event : Event) (answer : Answer) (new : State) → IsMachine old → Happens old event answer new → Keeps old event answer new
keeps_event old (join service) (joined pass) new numbers is = keeps_join old service pass new numbers is
keeps_event old (join service) full new numbers is = λ mine ts fs h. rw (is.1) h
keeps_event old (post pass text now) done new numbers is = keeps_post old pass text now new is
keeps_event old (touch it) answer new numbers is = λ mine ts fs h. touches old it answer new is mine ts fs h
keeps_event old (work service now) answer new numbers is =
    λ mine ts fs h. does (at_moment old now) new mine ts fs h (case_of (at_moment old now) service) service is.1
keeps_event old (outbox pass) (handed frames) new numbers is = keeps_outbox old pass frames new is
keeps_event old (leave pass) done new numbers is = λ mine ts fs h. keeps_leave old pass new is mine ts fs h
keeps_event old restart restarted new numbers is = λ mine ts fs h. rw (is.is) tt
keeps_event old restart unrestarted new numbers is = λ mine ts fs h. rw (is.is) tt
keeps_event old end_ ended new numbers is = λ mine ts fs h. rw is tt
keeps_event old finish ended new numbers is = λ mine ts fs h. rw (is.is) tt
keeps_event old finish unsettled new numbers is = λ mine ts fs h. rw (is.is) tt
keeps_event old event answer new numbers is = absurd is

keeps_memory : (old : State) (event : Event) (next : Seen) → Keeps old event memory (record old { seen = next })
keeps_memory old (join service) next = λ mine ts fs h. h
keeps_memory old (post pass text now) next = λ mine ts fs h. h
keeps_memory old (touch it) next = λ mine ts fs h. h
keeps_memory old (work service now) next = λ mine ts fs h. h
keeps_memory old (outbox pass) next = λ mine ts fs h. h
keeps_memory old (leave pass) next = λ mine ts fs h. h
keeps_memory old restart next = λ mine ts fs h. h
keeps_memory old end_ next = λ mine ts fs h. h
keeps_memory old finish next = λ mine ts fs h. h

pub keeps : (old new : State) (event : Event) (answer : Answer) → IsMachine old → Step old event answer new → Keeps old event answer new
keeps old new event answer numbers (happens up is) = keeps_event old event answer new numbers is
keeps old new event answer numbers (wanting is_memory wants) = let u = unmoved old new event wants in rw (is_memory, u.is) (keeps_memory old event u.next)
