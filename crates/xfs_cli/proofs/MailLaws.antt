-- Clients that are handed their frames, one behind the other.
use Rattle.std.proofs.Common.{◌≡◌, ℕ, ◌<◌, ◌+◌, List, [], ◌∷◌, ◌++◌, map, take, drop, length, get_or, refl, ap, sym, subst, ◌∙◌, append_assoc}
use Rattle.std.proofs.lemmas.List.{append-nil, map-append, take_more, take-append-drop}
use Rattle.xfs_model.specs.Events.{outbox, handed}
use Rattle.xfs_model.specs.State.{State}
use Rattle.xfs_model.specs.Step.{Step}
use Rattle.xfs_script.specs.Answered.{lines_text}
use Rattle.xfs_script.proofs.AnswerLaws.{lines_text-append}
use Rattle.xfs_cli.specs.Replay.Events.{HandsAll, HasMail, frame_line}
use Rattle.xfs_cli.specs.Replay.Command.{IsPartMailed}
use Rattle.xfs_cli.specs.declared.commands.replay.clients.Client.{Client}
use Rattle.xfs_load.proofs.RestLaws.{part-none}

-- one client more
hands-push : (clients : List Client) (client : Client) (s between new : State) (said frames : List (List ℕ)) → HandsAll clients s said between → Step between (outbox client.pass) (handed frames) new
    → HandsAll (clients ++ client ∷ []) s (said ++ map (frame_line client.number) frames) new
hands-push [] client s between new said frames hands step =
    let P : State → Type 0 = λ t. Step t (outbox client.pass) (handed frames) new in
    record {
      frames = frames;
      between = new;
      step = subst P hands.1 step;
      later = [];
      rest = (refl, refl);
      text = ap (λ l. l ++ map (frame_line client.number) frames) hands.0 ∙ sym (append-nil (map (frame_line client.number) frames));
    }
hands-push (first ∷ clients) client s between new said frames hands step = record {
  frames = hands.frames;
  between = hands.between;
  step = hands.step;
  later = hands.later ++ map (frame_line client.number) frames;
  rest = hands-push clients client hands.between between new hands.later frames hands.rest step;
  text = ap (λ l. l ++ map (frame_line client.number) frames) hands.text ∙ append_assoc (map (frame_line first.number) hands.frames) hands.later (map (frame_line client.number) frames);
}

-- they are the first of all clients
hands-part : (clients more : List Client) (s new : State) (said : List (List ℕ)) → HandsAll clients s said new → IsPartMailed (clients ++ more) s new
hands-part [] more s new said hands = (let P : State → Type 0 = λ t. IsPartMailed more s t in subst P (sym hands.1) (part-none (map (λ c. outbox c.pass) more) s))
hands-part (first ∷ clients) more s new said hands =
    let p = hands-part clients more hands.between new hands.later hands.rest in
    record {
      happened = (outbox first.pass, handed hands.frames) ∷ p.happened;
      left = p.left;
      are = ap (λ es. outbox first.pass ∷ es) p.are;
      steps = record { between = hands.between; step = hands.step; rest = p.steps };
    }

pub mail-none : (s : State) (text : List ℕ) → HasMail [] s text text s
mail-none s text = record { mail = []; hands = (refl, refl); written = sym (append-nil text) }

pub mail-part : (clients : List Client) (i : ℕ) (s new : State) (text all : List ℕ) → HasMail (take i clients) s text all new → IsPartMailed clients s new
mail-part clients i s new text all m =
    let P : List Client → Type 0 = λ cs. IsPartMailed cs s new in
    subst P (take-append-drop i clients) (hands-part (take i clients) (drop i clients) s new m.mail m.hands)

-- one client more, and its frames behind those that stand there
pub mail-more : (clients : List Client) (i : ℕ) (client : Client) (s between new : State) (text all bytes : List ℕ) (frames : List (List ℕ)) → i < length clients → client ≡ get_or clients i client
    → HasMail (take i clients) s text all between → Step between (outbox client.pass) (handed frames) new → bytes ≡ all ++ lines_text (map (frame_line client.number) frames) → HasMail (take (i + 1) clients) s text bytes new
mail-more clients i client s between new text all bytes frames within is m step grown =
    let P : List Client → Type 0 = λ cs. HasMail cs s text bytes new in
    let same : take i clients ++ client ∷ [] ≡ take (i + 1) clients = ap (λ c. take i clients ++ c ∷ []) is ∙ sym (take_more clients i client within) in
    subst P same (record {
      mail = m.mail ++ map (frame_line client.number) frames;
      hands = hands-push (take i clients) client s between new m.mail frames m.hands step;
      written = grown
          ∙ (ap (λ b. b ++ lines_text (map (frame_line client.number) frames)) m.written
          ∙ (append_assoc text (lines_text m.mail) (lines_text (map (frame_line client.number) frames))
          ∙ ap (λ b. text ++ b) (sym (lines_text-append m.mail (map (frame_line client.number) frames)))));
    })

pub mail-frame : (clients : List Client) (i : ℕ) (client : Client) (s between new : State) (text all : List ℕ) (frames : List (List ℕ)) → i < length clients → client ≡ get_or clients i client
    → HasMail (take i clients) s text all between → Step between (outbox client.pass) (handed frames) new → IsPartMailed clients s new
mail-frame clients i client s between new text all frames within is m step =
    mail-part clients (i + 1) s new text _ (mail-more clients i client s between new text all (all ++ lines_text (map (frame_line client.number) frames)) frames within is m step refl)

-- one frame more
pub frames-more : (number : ℕ) (frames : List (List ℕ)) (i : ℕ) (frame start all bytes : List ℕ) → i < length frames → frame ≡ get_or frames i frame
    → all ≡ start ++ lines_text (map (frame_line number) (take i frames)) → bytes ≡ all ++ lines_text (frame_line number frame ∷ []) → bytes ≡ start ++ lines_text (map (frame_line number) (take (i + 1) frames))
frames-more number frames i frame start all bytes within is stood grown =
    let taken : take (i + 1) frames ≡ take i frames ++ frame ∷ [] = take_more frames i frame within ∙ ap (λ f. take i frames ++ f ∷ []) (sym is) in
    let lines : lines_text (map (frame_line number) (take (i + 1) frames)) ≡ lines_text (map (frame_line number) (take i frames)) ++ lines_text (frame_line number frame ∷ [])
    = ap (λ l. lines_text (map (frame_line number) l)) taken
    ∙ (ap lines_text (map-append (frame_line number) (take i frames) (frame ∷ []))
    ∙ lines_text-append (map (frame_line number) (take i frames)) (frame_line number frame ∷ [])) in
    grown
    ∙ (ap (λ a. a ++ lines_text (frame_line number frame ∷ [])) stood
    ∙ (append_assoc start (lines_text (map (frame_line number) (take i frames))) (lines_text (frame_line number frame ∷ []))
    ∙ ap (λ l. start ++ l) (sym lines)))
