-- What a withdrawal asked, by the frames that it heard.
use Rattle.xfs_conversation.specs.Conversation.{Conversation}
use Rattle.xfs_conversation.specs.Pending.{Pending}
use Rattle.std.specs.Prelude.{◌≡◌, ℕ, List, [], ◌∷◌, ◌++◌, codes, None, Ok, Err}
use Rattle.serde_json.specs.Data.{Data}
use Rattle.xfs_client.specs.Commands.{ReadsAs, command_text}
use Rattle.xfs_client.specs.History.{Entry, asks, completed, told_in}
use Rattle.xfs_client.specs.Withdrawals.{Terms, Withdrawing, IsMove, OfHeard, conversation, nonce_of, step_in}
use Rattle.xfs_client.specs.declared.heard.HearFault.{HearFault}
use Rattle.xfs_client.specs.declared.withdrawal.Move.{Move}
use Rattle.xfs_client.specs.declared.withdrawal.Move.TheVariants.{Ask, Wait, Done, Ended, Refused}
use Rattle.xfs_envelope.specs.Fields.{empty}
use Rattle.xfs_envelope.specs.declared.code.Code.TheVariants.{Success}

-- the text that a move asks, where it asks one
abbrev pub asked_by : Move → List (List ℕ)
asked_by (Ask text) = text ∷ []
asked_by Wait = []
asked_by Done = []
asked_by (Ended code) = []
asked_by (Refused status) = []

-- a withdrawal by these terms asked these texts and heard these frames
pub data Withdraws (terms : Terms) : List (List ℕ) → List (List ℕ) → Type 0 where
  -- it begins by asking for a nonce, and a service reads the text so
  started : (text : List ℕ) → text ≡ command_text (codes "Common.GetCommandNonce") 1 empty → ReadsAs text (codes "Common.GetCommandNonce") 1 empty
      → Withdraws terms (text ∷ []) []
  -- a frame is heard, and the move asks or doesn't
  moved : {texts frames : List (List ℕ)} → Withdraws terms texts frames
      → (frame : List ℕ) (m : Move) → IsMove terms (step_in (conversation frames) frame) m
      → Withdraws terms (texts ++ asked_by m) (frames ++ frame ∷ [])

-- a frame is heard by a withdrawal that asked and heard this, and the move asks or doesn't
abbrev pub WithdrawsOn : Terms → Terms → Move → List (List ℕ) → List ℕ → Type 0
WithdrawsOn old new m frames frame = (texts : List (List ℕ)) → Withdraws old texts frames → Withdraws new (texts ++ asked_by m) (frames ++ frame ∷ [])

-- the frame comes next in a lawful conversation, whose texts are the first of those that the withdrawal asked
pub record ComesTo (terms : Terms) (before : List (List ℕ)) (frame : List ℕ) : Type 0 where
  pub texts : List (List ℕ)
  pub unread : List (List ℕ)
  pub later : List (List ℕ)
  pub pending : List Pending
  pub withdraws : Withdraws terms (texts ++ unread) before
  pub talk : Conversation texts (before ++ frame ∷ later) pending

-- behind this history the frame says that GetCommandNonce succeeded, and gives no nonce of a token's grammar
pub record LacksNonce (h : List Entry) (frame : List ℕ) : Type 0 where
  pub payload : Data
  pub alone : asks h ≡ 1
  pub succeeded : told_in h frame ≡ Ok (completed 1 Success payload)
  pub none : nonce_of payload ≡ None

-- the withdrawal refuses the frame behind these
pub record IsUnheard (before : List (List ℕ)) (frame : List ℕ) : Type 0 where
  pub why : HearFault
  pub refuses : step_in (conversation before) frame ≡ Err why

-- of a frame that comes next in a lawful conversation nothing is missing but the nonce
abbrev pub LacksNonceAlone : Terms → List (List ℕ) → List ℕ → Type 0
LacksNonceAlone terms before frame = ComesTo terms before frame → LacksNonce (conversation before) frame

-- of a frame that comes next nothing is missing but the nonce, whatever the withdrawal heard since its start
abbrev pub LacksOnlyNonce : Withdrawing → List ℕ → Type 0
LacksOnlyNonce w frame = OfHeard w (λ before. LacksNonceAlone w.terms before frame)

-- the withdrawal goes on with a frame and a move, whatever it heard since its start
abbrev pub WithdrawsBy : Withdrawing → Withdrawing → List ℕ → Move → Type 0
WithdrawsBy old new frame m = OfHeard old (λ before. WithdrawsOn old.terms new.terms m before frame)
