-- What `load` does, deed by deed: its rounds with their amounts, the refill after every eighth of them, and what its client keeps of what comes back.
use Rattle.std.specs.Prelude.{◌≡◌, ◌+◌, ◌*◌, ◌%◌, ◌==◌, ◌&&◌, ◌++◌, ◌∷◌, [], ℕ, zero, suc, List, Bool, true, false, fold, codes, if◌then◌else◌, None, Some}
use Rattle.std.specs.declared.option.Option.{Option}
use Rattle.serde_json.specs.Data.{Data}
use Rattle.serde_json.specs.Find.{as_str}
use Rattle.xfs_client.specs.Withdrawals.{is_success}
use Rattle.xfs_json.specs.Members.{member_of, member_as}
use Rattle.xfs_envelope.specs.Fields.{needed}
use Rattle.xfs_envelope.specs.Replies.{Reply, reply_in, completion}
use Rattle.xfs_envelope.specs.declared.code.Code.{Code}
use Rattle.xfs_model.specs.State.{Pass}
use Rattle.xfs_load.specs.declared.ask.Ask.{Ask}
use Rattle.xfs_load.specs.declared.ask.Ask.TheVariants.{Nonce, Dispense, Present, StartExchange, Refill, EndExchange}

-- one thing that is done: the client asks something, and then the machine rests; the customer takes the notes; or the round is after_round
pub data Deed : Type 0 where
  say : Ask → Deed
  take : Deed
  count : Deed

-- the amount of a round, which counts from 0, in whole EUR: 10 to 80
abbrev pub amount_of : ℕ → ℕ
amount_of i = 10 * (1 + 7 * i % 8)

-- the deeds of a withdrawal of so many whole EUR
abbrev pub withdrawal_of : ℕ → List Deed
withdrawal_of amount = say Nonce ∷ say (Dispense amount) ∷ say Present ∷ take ∷ count ∷ []

-- the deeds of a round
abbrev pub round_of : ℕ → List Deed
round_of i = withdrawal_of (amount_of i)

-- the units get the notes back that eight rounds pay out
abbrev pub refill : List Deed
refill = say StartExchange ∷ say Refill ∷ say EndExchange ∷ []

-- the deeds behind a round: behind every eighth the units get back what was paid out
abbrev pub refill_behind : ℕ → List Deed
refill_behind i = if (i + 1) % 8 == 0 then refill else []

-- the deeds of so many rounds
abbrev pub plan : ℕ → List Deed
plan zero = []
plan (suc n) = plan n ++ (round_of n ++ refill_behind n)

-- the client: the key of its tokens, its pass, how often it asked, the nonce that its last GetCommandNonce gave, whether a completion of this round was no success, and how many rounds had such a one
pub record Client : Type 0 where
  pub key : List ℕ
  pub pass : Pass
  pub asked : ℕ
  pub nonce : Option (List ℕ)
  pub failed : Bool
  pub refused : ℕ

-- what a client hears changes neither how often it asked nor how many rounds failed
pub record KeepsCounts (old new : Client) : Type 0 where
  pub asked : new.asked ≡ old.asked
  pub refused : new.refused ≡ old.refused

abbrev pub newcomer : List ℕ → Pass → Client
newcomer key pass = record { key = key; pass = pass; asked = 0; nonce = None; failed = false; refused = 0 }

-- the nonce that the payload of GetCommandNonce's completion tells
abbrev pub nonce_told : Data → Option (List ℕ)
nonce_told payload = needed (member_as as_str (member_of (codes "commandNonce") payload))

abbrev pub is_for_nonce : Ask → Bool
is_for_nonce Nonce = true
is_for_nonce ask = false

-- the client asks once more; with the ask for a nonce a round begins: the nonce of before is none any more, and nothing failed yet
abbrev pub asking : Ask → Client → Client
asking ask c = if is_for_nonce ask then record c { asked = c.asked + 1; nonce = None; failed = false } else record c { asked = c.asked + 1 }

-- a completion with success of its GetCommandNonce gives it a nonce; one that is no success fails the round
abbrev pub completed : Ask → ℕ → Code → Data → Client → Client
completed ask id code payload c =
    if is_success code then (if is_for_nonce ask && id == c.asked then record c { nonce = nonce_told payload } else c)
    else record c { failed = true }

abbrev pub hears_reply : Ask → Client → Option Reply → Client
hears_reply ask c (Some (completion id name code payload)) = completed ask id code payload c
hears_reply ask c reply = c

-- the client hears a frame
abbrev pub hears : Ask → Client → List ℕ → Client
hears ask c frame = hears_reply ask c (reply_in frame)

-- the client hears frames, one after another
abbrev pub hears_all : Ask → Client → List (List ℕ) → Client
hears_all ask c frames = fold (hears ask) c frames

-- the round is over: it is refused where one of its completions was no success
abbrev pub after_round : Client → Client
after_round c = if c.failed then record c { refused = c.refused + 1 } else c
