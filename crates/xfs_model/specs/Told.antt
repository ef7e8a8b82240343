-- What was told of the journal: each `commandNonce` is the text of an Issue of its list, and each `journalRecord` the number of a mark of it.
use Rattle.std.specs.Prelude.{◌≡◌, ℕ, List, All, codes, Option, None, Some, IfSome, option_and_then}
use Rattle.serde_json.specs.Data.{Data, number, string, unsigned}
use Rattle.serde_json.specs.Find.{get}
use Rattle.xfs_base.specs.declared.moment.Service.{Service}
use Rattle.xfs_dispenser.specs.Seen.{Seen}
use Rattle.xfs_envelope.specs.Replies.{Reply, reply_in, acknowledge, event, completion, unsolicited}
use Rattle.xfs_guard.specs.Upheld.{IsMarkAt}
use Rattle.xfs_journal.specs.Journal.{last_mark, nonce_text, record_at}
use Rattle.xfs_journal.specs.declared.record.Rec.{Rec}
use Rattle.xfs_journal.specs.declared.record.Rec.TheVariants.{Issue}
use Rattle.xfs_queue.specs.declared.command.Command.{Command}
use Rattle.xfs_model.specs.State.{Job, Outcome, State, queue_at}

-- the text of an Issue of the list
pub record IsIssueText (records : List Rec) (d : Data) : Type 0 where
  pub place : ℕ
  pub issue : ℕ
  pub word : ℕ
  pub stands : record_at records place ≡ Some (Issue issue word)
  pub is : d ≡ string (nonce_text issue word)

-- the number of a mark of the list
pub record IsMarkNumber (records : List Rec) (d : Data) : Type 0 where
  pub place : ℕ
  pub stands : IsMarkAt records place
  pub is : d ≡ number (unsigned place)

-- what a payload tells of the journal stands in its list
pub record Stands (records : List Rec) (payload : Data) : Type 0 where
  pub nonce : IfSome (get (codes "commandNonce") payload) (IsIssueText records)
  pub mark : IfSome (get (codes "journalRecord") payload) (IsMarkNumber records)

-- the payload that a client reads in an answer; an acknowledge has none
abbrev pub payload_in : Reply → Option Data
payload_in (acknowledge id name status) = None
payload_in (event id name payload) = Some payload
payload_in (completion id name code payload) = Some payload
payload_in (unsolicited name payload) = Some payload

-- what a client reads in a frame stands in the list
abbrev pub TellsRecords : List Rec → List ℕ → Type 0
TellsRecords records frame = IfSome (option_and_then payload_in (reply_in frame)) (Stands records)

-- what a client reads in these frames stands in the journal's list
abbrev pub AllTell : State → List (List ℕ) → Type 0
AllTell s frames = All (TellsRecords s.seen.guard.records) frames

-- the result of a command, where it is there, tells what stands
abbrev pub ResultStands : List Rec → Command Job → Type 0
ResultStands records a = IfSome a.job.outcome (λ (result : Outcome). Stands records result.payload)

-- each frame that waits, and each result, tells what stands in the journal
pub record IsTold (s : State) : Type 0 where
  pub frames : All (λ k. AllTell s k.waiting) s.connections
  pub results : (service : Service) → All (ResultStands s.seen.guard.records) (queue_at s service)

-- the journal's list has a mark
abbrev pub HasMark : Seen → Type 0
HasMark seen = IsMarkAt seen.guard.records (last_mark seen.guard.records)

-- where the list has a mark, what was told still stands
abbrev pub KeepsTold : State → State → Type 0
KeepsTold old new = HasMark old.seen → IsTold old → IsTold new

-- what waits for clients, all results and these frames tell what stands
abbrev pub HasToldTruly : State → List (List ℕ) → Type 0
HasToldTruly s frames = IsTold s × AllTell s frames
