-- What a client asked and heard, the oldest first. An ask's id is its place among the asks, from 1; it is open until it is refused or completed.
use Rattle.std.specs.Prelude.{ℕ, List, Bool, true, false, ◌&&◌, ◌==◌, not, nat_le, count_by, find, Option, None, Some, Result, Ok, Err, if◌then◌else◌}
use Rattle.std.specs.List.{list_any, range_with_len}
use Rattle.serde_json.specs.Data.{Data}
use Rattle.serde_json.specs.View.{view}
use Rattle.xfs_envelope.specs.declared.answer.AnswerFault.{AnswerFault}
use Rattle.xfs_envelope.specs.declared.answer.AnswerFault.TheVariants as answer
use Rattle.xfs_envelope.specs.declared.code.Code.{Code}
use Rattle.xfs_envelope.specs.declared.code.Status.{Status}
use Rattle.xfs_envelope.specs.Replies as reply
use Rattle.xfs_envelope.specs.Replies.{Reply, reply_in}
use Rattle.xfs_client.specs.declared.heard.Heard.{Heard}
use Rattle.xfs_client.specs.declared.heard.Heard.TheVariants as hears
use Rattle.xfs_client.specs.declared.heard.HearFault.{HearFault}
use Rattle.xfs_client.specs.declared.heard.HearFault.TheVariants.{Stranger, Shape, Memory}

-- what a message tells, with the id of the ask that it is for
pub data Told : Type 0 where
  acknowledged : ℕ → Told
  refused : ℕ → Status → Told
  event : ℕ → Told
  completed : ℕ → Code → Data → Told
  unsolicited : Told

pub data Entry : Type 0 where
  ask : Entry
  heard : Told → Entry

abbrev pub is_ask : Entry → Bool
is_ask ask = true
is_ask (heard t) = false

-- how many asks there are
abbrev pub asks : List Entry → ℕ
asks h = count_by is_ask h

abbrev pub acknowledges : ℕ → Told → Bool
acknowledges id (acknowledged n) = n == id
acknowledges id (refused n status) = false
acknowledges id (event n) = false
acknowledges id (completed n code payload) = false
acknowledges id unsolicited = false

-- whether this ends the ask with the id: it was refused, or is completed
abbrev pub ends : ℕ → Told → Bool
ends id (acknowledged n) = false
ends id (refused n status) = n == id
ends id (event n) = false
ends id (completed n code payload) = n == id
ends id unsolicited = false

abbrev pub tells : (Told → Bool) → Entry → Bool
tells p ask = false
tells p (heard t) = p t

-- whether something was heard of which this holds
abbrev pub was_heard : (Told → Bool) → List Entry → Bool
was_heard p h = list_any (tells p) h

abbrev pub is_asked : List Entry → ℕ → Bool
is_asked h id = nat_le 1 id && nat_le id (asks h)

abbrev pub is_open : List Entry → ℕ → Bool
is_open h id = is_asked h id && not (was_heard (ends id) h)

abbrev pub is_acknowledged : List Entry → ℕ → Bool
is_acknowledged h id = was_heard (acknowledges id) h

-- the first open ask that is not acknowledged
abbrev pub first_unacknowledged : List Entry → Option ℕ
first_unacknowledged h = find (λ id. is_open h id && not (is_acknowledged h id)) (range_with_len 1 (asks h))

-- the ask with this id, while it is open
abbrev pub open_ask : List Entry → ℕ → Option ℕ
open_ask h id = if is_open h id then Some id else None

-- the ask that an acknowledge is for
abbrev pub addressee : List Entry → Option ℕ → Option ℕ
addressee h None = first_unacknowledged h
addressee h (Some id) = open_ask h id

-- an acknowledge with a status refuses the ask
abbrev pub with_status : Option Status → ℕ → Told
with_status None id = acknowledged id
with_status (Some status) id = refused id status

-- what is told of an ask; where there is none, a stranger is told of
abbrev pub of_ask : Option ℕ → (ℕ → Told) → Result Told HearFault
of_ask None of = Err Stranger
of_ask (Some id) of = Ok (of id)

-- what a completion tells
abbrev pub completion_in : List Entry → ℕ → Code → Data → Result Told HearFault
completion_in h id code payload = of_ask (open_ask h id) (λ n. completed n code payload)

-- what an answer tells
abbrev pub told_by : List Entry → Reply → Result Told HearFault
told_by h (reply.acknowledge id name status) = of_ask (addressee h id) (with_status status)
told_by h (reply.event id name payload) = of_ask (open_ask h id) event
told_by h (reply.completion id name code payload) = completion_in h id code payload
told_by h (reply.unsolicited name payload) = Ok unsolicited

abbrev pub told_of : List Entry → Option Reply → Result Told HearFault
told_of h None = Err Shape
told_of h (Some r) = told_by h r

-- what a text tells after this history, or why it is not heard
abbrev pub told_in : List Entry → List ℕ → Result Told HearFault
told_in h text = told_of h (reply_in text)

-- what was heard, as it is told
abbrev pub told : Heard → Told
told (hears.Acknowledged id) = acknowledged id
told (hears.Refused id status) = refused id status
told (hears.Event id) = event id
told (hears.Completed id code payload) = completed id code (view payload)
told hears.Unsolicited = unsolicited

abbrev pub hear_fault : AnswerFault → HearFault
hear_fault answer.Shape = Shape
hear_fault answer.Memory = Memory
