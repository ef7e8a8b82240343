-- An acknowledge that was written is read back.
use Rattle.std.proofs.Common.{◌≡◌, ℕ, ◌<◌, ◌^◌, ◌-◌, List, true, Option, Some, None, refl, arith}
use Rattle.std.specs.Option.{IfSome}
use Rattle.xfs_json.specs.Members.{whole_in}
use Rattle.serde_json.specs.Data.{Data}
use Rattle.xfs_envelope.specs.declared.code.Code.{Code}
use Rattle.xfs_envelope.specs.declared.code.Status.{Status}
use Rattle.xfs_envelope.specs.declared.code.Status.TheVariants.{InvalidMessage, InvalidRequestId, TooManyRequests}
use Rattle.xfs_envelope.specs.Codes.{status_text, status_of}
use Rattle.xfs_envelope.specs.Fields.{passing}
use Rattle.xfs_envelope.specs.Messages.{acknowledge_header, completion_header, framed, headed, numbered, IsPayload}
use Rattle.xfs_envelope.specs.Names.{is_name}
use Rattle.xfs_envelope.specs.Replies.{acknowledge, completion, reply_of_value}

pub named : (n : List ℕ) → is_name n ≡ true → passing is_name n ≡ Some n
named n h = rw h

status_back : (s : Status) → status_of (status_text s) ≡ Some s
status_back InvalidMessage = refl
status_back InvalidRequestId = refl
status_back TooManyRequests = refl

pub id_back : (n : ℕ) → n < 2 ^ 64 → whole_in 0 (2 ^ 64 - 1) (numbered n) ≡ Some n
id_back n h = grind arith

pub acknowledge_back : (id : Option ℕ) (name : Option (List ℕ)) (status : Option Status) → IfSome id (λ n. n < 2 ^ 64) → IfSome name (λ n. is_name n ≡ true)
    → reply_of_value (headed (acknowledge_header name id status)) ≡ Some (acknowledge id name status)
acknowledge_back None None None i n = refl
acknowledge_back None None (Some s) i n = rw (status_back s)
acknowledge_back None (Some x) None i n = rw (named x n)
acknowledge_back None (Some x) (Some s) i n = rw (named x n, status_back s)
acknowledge_back (Some y) None None i n = rw (id_back y i)
acknowledge_back (Some y) None (Some s) i n = rw (id_back y i, status_back s)
acknowledge_back (Some y) (Some x) None i n = rw (id_back y i, named x n)
acknowledge_back (Some y) (Some x) (Some s) i n = rw (id_back y i, named x n, status_back s)

pub completion_back : (name : List ℕ) (id : ℕ) (code : Code) (d : Data) → is_name name ≡ true → id < 2 ^ 64 → IsPayload d → reply_of_value (framed (completion_header name id code) d) ≡ Some (completion id name code d)
completion_back name id code d n i fits = grind arith
