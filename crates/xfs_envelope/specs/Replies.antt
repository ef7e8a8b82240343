-- What a service answers, by its text: the header's type says which fields are looked at, each of them by its rule.
use Rattle.std.specs.Prelude.{ℕ, List, codes, Option, None, option_map, option_and_then, if◌then◌else◌}
use Rattle.serde_json.specs.Data.{Data}
use Rattle.serde_json.specs.View.{view}
use Rattle.xfs_json.specs.Reading.{reading}
use Rattle.xfs_envelope.specs.declared.code.Code.{Code}
use Rattle.xfs_envelope.specs.declared.code.Status.{Status}
use Rattle.xfs_envelope.specs.declared.answer.Answer.{Answer}
use Rattle.xfs_envelope.specs.declared.answer.Answer.TheVariants as answer
use Rattle.xfs_envelope.specs.Fields.{header_of, is_of_type, name_at, id_at, status_at, code_at, payload_at, needed, optional, or_else, empty}

pub data Reply : Type 0 where
  acknowledge : Option ℕ → Option (List ℕ) → Option Status → Reply
  event : ℕ → List ℕ → Data → Reply
  completion : ℕ → List ℕ → Code → Data → Reply
  unsolicited : List ℕ → Data → Reply

-- the payload says nothing here, and still is absent, null or an object
abbrev pub acknowledge_of : Data → Data → Option Reply
acknowledge_of h d =
    option_and_then (λ id.
    option_and_then (λ name.
    option_and_then (λ status.
    option_map (λ _. acknowledge id name status) (optional (payload_at d)))
    (optional (status_at h))) (optional (name_at h))) (optional (id_at h))

abbrev pub event_of : Data → Data → Option Reply
event_of h d =
    option_and_then (λ id.
    option_and_then (λ name.
    option_map (λ payload. event id name payload) (or_else empty (payload_at d)))
    (needed (name_at h))) (needed (id_at h))

abbrev pub completion_of : Data → Data → Option Reply
completion_of h d =
    option_and_then (λ id.
    option_and_then (λ name.
    option_and_then (λ code.
    option_map (λ payload. completion id name code payload) (or_else empty (payload_at d)))
    (needed (code_at h))) (needed (name_at h))) (needed (id_at h))

abbrev pub unsolicited_of : Data → Data → Option Reply
unsolicited_of h d =
    option_and_then (λ name.
    option_map (λ payload. unsolicited name payload) (or_else empty (payload_at d)))
    (needed (name_at h))

-- the answer of a header and the value that it stands in
abbrev pub reply_of : Data → Data → Option Reply
reply_of d h =
    if is_of_type (codes "acknowledge") h then acknowledge_of h d
    else (if is_of_type (codes "event") h then event_of h d
    else (if is_of_type (codes "completion") h then completion_of h d
    else (if is_of_type (codes "unsolicited") h then unsolicited_of h d
    else None)))

abbrev pub reply_of_value : Data → Option Reply
reply_of_value d = option_and_then (reply_of d) (header_of d)

-- the answer of a text, where it is one
abbrev pub reply_in : List ℕ → Option Reply
reply_in text = option_and_then reply_of_value (reading text)

-- what an answer that was read says
abbrev pub told : Answer → Reply
told (answer.Acknowledge id name status) = acknowledge id name status
told (answer.Event id name payload) = event id name (view payload)
told (answer.Completion id name code payload) = completion id name code (view payload)
told (answer.Unsolicited name payload) = unsolicited name (view payload)
