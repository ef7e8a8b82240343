-- What fits converses: from some frame on, where so many commands were accepted and some of them ended.
use Rattle.std.proofs.Common.{◌≡◌, ◌<◌, ◌≤◌, ◌+◌, ℕ, suc, Bool, true, false, List, [], ◌∷◌, ◌++◌, length, map, take, Contains, Option, None, Some, IfSome, IsSome, refl, ap, sym, ◌∙◌, arith, subst}
use Rattle.std.specs.Prelude.{is_err}
use Rattle.std.specs.List.{cons_option, slice_get}
use Rattle.std.specs.declared.result.Result.{Result}
use Rattle.std.specs.declared.result.Result.TheVariants.{Ok, Err}
use Rattle.std.proofs.lemmas.List.{append-nil, append_assoc, length_push, nil_from_length}
use Rattle.std.proofs.lemmas.Option.{slice_get_within}
use Rattle.xfs_envelope.specs.declared.code.Status.{Status}
use Rattle.xfs_envelope.specs.declared.code.Status.TheVariants.{InvalidMessage, InvalidRequestId, TooManyRequests}
use Rattle.xfs_envelope.specs.declared.command.Refuse.{Refuse}
use Rattle.xfs_envelope.specs.Commands.{Command, command_in}
use Rattle.xfs_envelope.specs.Replies.{Reply, reply_in, acknowledge, event, completion, unsolicited}
use Rattle.xfs_conversation.specs.Answers.{is_invalid_message}
use Rattle.xfs_conversation.specs.Parts.{EachFrame}
use Rattle.xfs_conversation.specs.Pending.{Pending, pending_of}
use Rattle.xfs_audit.specs.Conversing.{Acknowledges, misread, refused, accepted, Says, completed, told, announced, Converses, ended, posted, heard, pending_ids, IsWithout}
use Rattle.xfs_audit.specs.Fitting.{status_in, ended_in, event_id_in, statuses, completions, asked, accepted_by, is_among, unended, EndsChosen, HasOpenId, Fits}
use Rattle.xfs_audit.proofs.Counting.{split-contains, contains-split}
use Rattle.xfs_audit.proofs.Unended.{unended-push, unended-without, unended-found, among-other}

abbrev texts_are : List (List ℕ) → List Bool
texts_are texts = map (λ text. is_err (command_in text)) texts

-- of all commands that were accepted, and those numbers that are ended: the one that was picked is open
abbrev EndsAt : List Pending → List ℕ → Option ℕ → Pending → Type 0
EndsAt all over pick p = (k : ℕ) × (pick ≡ Some k) × (slice_get all k ≡ Some p) × (is_among over k ≡ false)

abbrev TellsAt : List Pending → List ℕ → ℕ → Type 0
TellsAt all over id = (k : ℕ) × (p : Pending) × (slice_get all k ≡ Some p) × (is_among over k ≡ false) × (p.id ≡ id)

-- what was accepted and ended before a frame, where some was before the first
abbrev all_by : List Pending → List (List ℕ) → List (List ℕ) → List Pending
all_by acc texts before = acc ++ accepted_by (statuses before) texts

abbrev ended_by : List ℕ → List ℕ → List (List ℕ) → List ℕ
ended_by done choice before = done ++ take (length (completions before)) choice

abbrev pick_at : List ℕ → List (List ℕ) → Option ℕ
pick_at choice before = slice_get choice (length (completions before))

-- the parts of what is left from some frame on
record FitsFrom (acc : List Pending) (done : List ℕ) (ids : List ℕ) (texts frames : List (List ℕ)) : Type 0 where
  choice : List ℕ
  each : length choice ≡ length (completions frames)
  acknowledges : map is_invalid_message (statuses frames) ≡ texts_are texts
  ends : EachFrame frames (λ before frame. IfSome (ended_in (reply_in frame)) (EndsAt (all_by acc texts before) (ended_by done choice before) (pick_at choice before)))
  tells : EachFrame frames (λ before frame. IfSome (event_id_in (reply_in frame)) (TellsAt (all_by acc texts before) (ended_by done choice before)))
  left : pending_ids (unended 0 (done ++ choice) (all_by acc texts frames)) ≡ ids
  answers : EachFrame frames (λ before frame. IsSome (reply_in frame))

-- behind one frame what was accepted and ended is the same, told from there
record Moves (frame : List ℕ) (acc next : List Pending) (done gone : List ℕ) (texts later : List (List ℕ)) (choice rest : List ℕ) : Type 0 where
  all : (b : List (List ℕ)) → all_by acc texts (frame ∷ b) ≡ all_by next later b
  ended : (b : List (List ℕ)) → ended_by done choice (frame ∷ b) ≡ ended_by gone rest b
  pick : (b : List (List ℕ)) → pick_at choice (frame ∷ b) ≡ pick_at rest b
  whole : done ++ choice ≡ gone ++ rest

-- no number is ended that isn't given yet
abbrev Bounded : List Pending → List ℕ → Type 0
Bounded acc done = (m : ℕ) → length acc ≤ m → is_among done m ≡ false

statuses-none : (frame : List ℕ) (b : List (List ℕ)) → status_in (reply_in frame) ≡ None → statuses (frame ∷ b) ≡ statuses b
statuses-none frame b e = rw e refl

statuses-some : (frame : List ℕ) (b : List (List ℕ)) (s : Option Status) → status_in (reply_in frame) ≡ Some s → statuses (frame ∷ b) ≡ s ∷ statuses b
statuses-some frame b s e = rw e refl

completions-none : (frame : List ℕ) (b : List (List ℕ)) → ended_in (reply_in frame) ≡ None → completions (frame ∷ b) ≡ completions b
completions-none frame b e = rw e refl

completions-some : (frame : List ℕ) (b : List (List ℕ)) (p : Pending) → ended_in (reply_in frame) ≡ Some p → completions (frame ∷ b) ≡ p ∷ completions b
completions-some frame b p e = rw e refl

quiet-moves : (frame : List ℕ) (acc : List Pending) (done : List ℕ) (texts : List (List ℕ)) (choice : List ℕ) → status_in (reply_in frame) ≡ None → ended_in (reply_in frame) ≡ None → Moves frame acc acc done done texts texts choice choice
quiet-moves frame acc done texts choice s e = record {
  all = λ b. ap (λ ss. acc ++ accepted_by ss texts) (statuses-none frame b s);
  ended = λ b. ap (λ cs. done ++ take (length cs) choice) (completions-none frame b e);
  pick = λ b. ap (λ (cs : List Pending). slice_get choice (length cs)) (completions-none frame b e);
  whole = refl;
}

skipped-moves : (frame : List ℕ) (acc : List Pending) (done : List ℕ) (text : List ℕ) (texts : List (List ℕ)) (choice : List ℕ) (st : Option Status) → status_in (reply_in frame) ≡ Some st → ended_in (reply_in frame) ≡ None
    → ((ss : List (Option Status)) → accepted_by (st ∷ ss) (text ∷ texts) ≡ accepted_by ss texts) → Moves frame acc acc done done (text ∷ texts) texts choice choice
skipped-moves frame acc done text texts choice st s e skips = record {
  all = λ b. ap (λ ss. acc ++ accepted_by ss (text ∷ texts)) (statuses-some frame b st s) ∙ ap (λ ps. acc ++ ps) (skips (statuses b));
  ended = λ b. ap (λ cs. done ++ take (length cs) choice) (completions-none frame b e);
  pick = λ b. ap (λ (cs : List Pending). slice_get choice (length cs)) (completions-none frame b e);
  whole = refl;
}

accepted-moves : (frame : List ℕ) (acc : List Pending) (done : List ℕ) (text : List ℕ) (texts : List (List ℕ)) (choice : List ℕ) (c : Command) → status_in (reply_in frame) ≡ Some None → ended_in (reply_in frame) ≡ None
    → command_in text ≡ Ok c → Moves frame acc (acc ++ pending_of c ∷ []) done done (text ∷ texts) texts choice choice
accepted-moves frame acc done text texts choice c s e reads = record {
  all = λ b. ap (λ ss. acc ++ accepted_by ss (text ∷ texts)) (statuses-some frame b None s) ∙ ap (λ o. acc ++ cons_option (asked o) (accepted_by (statuses b) texts)) reads ∙ sym (append_assoc acc (pending_of c ∷ []) (accepted_by (statuses b) texts));
  ended = λ b. ap (λ cs. done ++ take (length cs) choice) (completions-none frame b e);
  pick = λ b. ap (λ (cs : List Pending). slice_get choice (length cs)) (completions-none frame b e);
  whole = refl;
}

completed-moves : (frame : List ℕ) (acc : List Pending) (done : List ℕ) (texts : List (List ℕ)) (k : ℕ) (choice : List ℕ) (p : Pending) → status_in (reply_in frame) ≡ None → ended_in (reply_in frame) ≡ Some p
    → Moves frame acc acc done (done ++ k ∷ []) texts texts (k ∷ choice) choice
completed-moves frame acc done texts k choice p s e = record {
  all = λ b. ap (λ ss. acc ++ accepted_by ss texts) (statuses-none frame b s);
  ended = λ b. ap (λ cs. done ++ take (length cs) (k ∷ choice)) (completions-some frame b p e) ∙ sym (append_assoc done (k ∷ []) (take (length (completions b)) choice));
  pick = λ b. ap (λ (cs : List Pending). slice_get (k ∷ choice) (length cs)) (completions-some frame b p e);
  whole = sym (append_assoc done (k ∷ []) choice);
}

move-ends : (o : Option Pending) {all other : List Pending} {over gone : List ℕ} {pick chosen : Option ℕ} → all ≡ other → over ≡ gone → pick ≡ chosen → IfSome o (EndsAt all over pick) → IfSome o (EndsAt other gone chosen)
move-ends o {other = other} {over = over} {gone = gone} {pick = pick} a e p h =
    subst (λ c. IfSome o (EndsAt other gone c)) p (subst (λ l. IfSome o (EndsAt other l pick)) e (subst (λ l. IfSome o (EndsAt l over pick)) a h))

move-tells : (o : Option ℕ) {all other : List Pending} {over gone : List ℕ} → all ≡ other → over ≡ gone → IfSome o (TellsAt all over) → IfSome o (TellsAt other gone)
move-tells o {other = other} {over = over} a e h = subst (λ l. IfSome o (TellsAt other l)) e (subst (λ l. IfSome o (TellsAt l over)) a h)

-- a text and its acknowledge
acknowledged : {pending : List Pending} (c : Command) (id : Option ℕ) (name : Option (List ℕ)) (s : Status) → is_invalid_message (Some s) ≡ false → Acknowledges pending (Ok c) (Some (acknowledge id name (Some s))) pending
acknowledged c id name s not = refused c id name s not

unread : {pending : List Pending} (refuse : Refuse) (id : Option ℕ) (name : Option (List ℕ)) (s : Option Status) → is_invalid_message s ≡ true → (Acknowledges pending (Err refuse) (Some (acknowledge id name s)) pending) × ((ss : List (Option Status)) (text : List ℕ) (texts : List (List ℕ)) → accepted_by (s ∷ ss) (text ∷ texts) ≡ accepted_by ss texts)
unread refuse id name None is = absurd cc
unread refuse id name (Some InvalidMessage) is = (misread refuse id name, λ ss text texts. refl)
unread refuse id name (Some InvalidRequestId) is = absurd cc
unread refuse id name (Some TooManyRequests) is = absurd cc

-- the parts behind the first frame
tail-of : {acc next : List Pending} {done gone ids : List ℕ} {texts later frames : List (List ℕ)} {frame : List ℕ} (f : FitsFrom acc done ids texts (frame ∷ frames)) (rest : List ℕ) → Moves frame acc next done gone texts later f.choice rest
    → length rest ≡ length (completions frames) → map is_invalid_message (statuses frames) ≡ texts_are later → FitsFrom next gone ids later frames
tail-of {acc = acc} {next = next} {done = done} {gone = gone} {ids = ids} {texts = texts} {later = later} {frames = frames} {frame = frame} f rest moves each acknowledges = record {
  choice = rest;
  each = each;
  acknowledges = acknowledges;
  ends = λ before after g is. move-ends _ (moves.all before) (moves.ended before) (moves.pick before) (f.ends (frame ∷ before) after g (ap (λ l. frame ∷ l) is));
  tells = λ before after g is. move-tells _ (moves.all before) (moves.ended before) (f.tells (frame ∷ before) after g (ap (λ l. frame ∷ l) is));
  left = subst (λ ps. pending_ids (unended 0 (gone ++ rest) ps) ≡ ids) (moves.all frames) (subst (λ l. pending_ids (unended 0 l (all_by acc texts (frame ∷ frames))) ≡ ids) moves.whole f.left);
  answers = λ before after g is. f.answers (frame ∷ before) after g (ap (λ l. frame ∷ l) is);
}

each-cons : (P : List (List ℕ) → List ℕ → Type 0) (frame : List ℕ) (frames : List (List ℕ)) → P [] frame → EachFrame frames (λ before f. P (frame ∷ before) f) → EachFrame (frame ∷ frames) P
each-cons P frame frames first all [] later f is = let same : frame ≡ f = cc in subst (λ g. P [] g) same first
each-cons P frame frames first all (b ∷ before) later f is =
    let same : frame ≡ b = cc in
    subst (λ g. P (g ∷ before) f) same (all before later f (cc))

-- and with it
head-of : {acc next : List Pending} {done gone ids : List ℕ} {texts later frames : List (List ℕ)} (frame : List ℕ) (f : FitsFrom next gone ids later frames) (choice : List ℕ) → Moves frame acc next done gone texts later choice f.choice
    → length choice ≡ length (completions (frame ∷ frames)) → map is_invalid_message (statuses (frame ∷ frames)) ≡ texts_are texts
    → IfSome (ended_in (reply_in frame)) (EndsAt (all_by acc texts []) (ended_by done choice []) (pick_at choice [])) → IfSome (event_id_in (reply_in frame)) (TellsAt (all_by acc texts []) (ended_by done choice [])) → IsSome (reply_in frame)
    → FitsFrom acc done ids texts (frame ∷ frames)
head-of {acc = acc} {next = next} {done = done} {gone = gone} {ids = ids} {texts = texts} {later = later} {frames = frames} frame f choice moves each acknowledges ends tells some = record {
  choice = choice;
  each = each;
  acknowledges = acknowledges;
  ends = each-cons (λ before g. IfSome (ended_in (reply_in g)) (EndsAt (all_by acc texts before) (ended_by done choice before) (pick_at choice before))) frame frames ends
      (λ before after g is. move-ends _ (sym (moves.all before)) (sym (moves.ended before)) (sym (moves.pick before)) (f.ends before after g is));
  tells = each-cons (λ before g. IfSome (event_id_in (reply_in g)) (TellsAt (all_by acc texts before) (ended_by done choice before))) frame frames tells
      (λ before after g is. move-tells _ (sym (moves.all before)) (sym (moves.ended before)) (f.tells before after g is));
  left = subst (λ ps. pending_ids (unended 0 (done ++ choice) ps) ≡ ids) (sym (moves.all frames)) (subst (λ l. pending_ids (unended 0 l (all_by next later frames)) ≡ ids) (sym moves.whole) f.left);
  answers = each-cons (λ before g. IsSome (reply_in g)) frame frames some f.answers;
}

first-of : (choice : List ℕ) (k : ℕ) → slice_get choice 0 ≡ Some k → (rest : List ℕ) × (choice ≡ k ∷ rest)
first-of [] k e = absurd cc
first-of (c ∷ rest) k e = (rest, cc)

-- what was accepted and ended before the first frame
here-is : (acc : List Pending) (k : ℕ) (p : Pending) → slice_get (acc ++ []) k ≡ Some p → slice_get acc k ≡ Some p
here-is acc k p e = subst (λ l. slice_get l k ≡ Some p) (append-nil acc) e

here-not : (done : List ℕ) (k : ℕ) → is_among (done ++ []) k ≡ false → is_among done k ≡ false
here-not done k e = subst (λ l. is_among l k ≡ false) (append-nil done) e

taken-out : (acc : List Pending) (done : List ℕ) (k : ℕ) (p : Pending) → slice_get acc k ≡ Some p → is_among done k ≡ false → IsWithout p (unended 0 done acc) (unended 0 (done ++ k ∷ []) acc)
taken-out acc done k p there not =
    let zero_more : 0 + k ≡ k = omega arith in
    subst (λ n. IsWithout p (unended 0 done acc) (unended 0 (done ++ n ∷ []) acc)) zero_more
    (unended-without 0 done acc k p there (subst (λ n. is_among done n ≡ false) (sym zero_more) not))

bounded-more : (acc : List Pending) (done : List ℕ) (k : ℕ) → Bounded acc done → k < length acc → Bounded acc (done ++ k ∷ [])
bounded-more acc done k bound within m le = among-other done k m (λ e. absurd (omega arith)) (bound m le)

bounded-push : (acc : List Pending) (done : List ℕ) (p : Pending) → Bounded acc done → Bounded (acc ++ p ∷ []) done
bounded-push acc done p bound m le = bound m (let e = length_push acc p in omega arith)

accepted-push : (acc : List Pending) (done : List ℕ) (p : Pending) → Bounded acc done → unended 0 done (acc ++ p ∷ []) ≡ unended 0 done acc ++ p ∷ []
accepted-push acc done p bound = unended-push 0 done acc p (bound (0 + length acc) (omega arith))

-- what fits converses
abbrev Speaks : List (List ℕ) → Type 0
Speaks frames = (acc : List Pending) (done ids : List ℕ) (texts : List (List ℕ)) → Bounded acc done → FitsFrom acc done ids texts frames → Converses ids (unended 0 done acc) texts frames

quiet-tail : {acc : List Pending} {done ids : List ℕ} {texts frames : List (List ℕ)} {frame : List ℕ} → status_in (reply_in frame) ≡ None → ended_in (reply_in frame) ≡ None → FitsFrom acc done ids texts (frame ∷ frames) → FitsFrom acc done ids texts frames
quiet-tail {acc = acc} {done = done} {texts = texts} {frames = frames} {frame = frame} s e f =
    tail-of f f.choice (quiet-moves frame acc done texts f.choice s e) (f.each ∙ ap (λ (cs : List Pending). length cs) (completions-none frame frames e))
    (ap (map is_invalid_message) (sym (statuses-none frame frames s)) ∙ f.acknowledges)

posted-one : (frame : List ℕ) (frames : List (List ℕ)) → Speaks frames → (id : Option ℕ) (name : Option (List ℕ)) (status : Option Status) → reply_in frame ≡ Some (acknowledge id name status)
    → (text : List ℕ) (t : Result Command Refuse) → command_in text ≡ t → (acc : List Pending) (done ids : List ℕ) (texts : List (List ℕ)) → Bounded acc done → is_invalid_message status ≡ is_err t
    → map is_invalid_message (statuses frames) ≡ texts_are texts → FitsFrom acc done ids (text ∷ texts) (frame ∷ frames) → Converses ids (unended 0 done acc) (text ∷ texts) (frame ∷ frames)
posted-one frame frames ih id name status says text (Err refuse) reads acc done ids texts bound is rest f =
    let un = unread {pending = unended 0 done acc} refuse id name status is in
    let none : ended_in (reply_in frame) ≡ None = ap ended_in says in
    let tail = tail-of f f.choice (skipped-moves frame acc done text texts f.choice status (ap status_in says) none (λ ss. un.1 ss text texts)) (f.each ∙ ap (λ (cs : List Pending). length cs) (completions-none frame frames none)) rest in
    posted {after = unended 0 done acc} text frame (rw (reads, says) un.0) (ih acc done ids texts bound tail)
posted-one frame frames ih id name None says text (Ok c) reads acc done ids texts bound is rest f =
    let none : ended_in (reply_in frame) ≡ None = ap ended_in says in
    let tail = tail-of f f.choice (accepted-moves frame acc done text texts f.choice c (ap status_in says) none reads) (f.each ∙ ap (λ (cs : List Pending). length cs) (completions-none frame frames none)) rest in
    let talk = ih (acc ++ pending_of c ∷ []) done ids texts (bounded-push acc done (pending_of c) bound) tail in
    posted {after = unended 0 done acc ++ pending_of c ∷ []} text frame (rw (reads, says) (accepted c id name)) (subst (λ l. Converses ids l texts frames) (accepted-push acc done (pending_of c) bound) talk)
posted-one frame frames ih id name (Some s) says text (Ok c) reads acc done ids texts bound is rest f =
    let none : ended_in (reply_in frame) ≡ None = ap ended_in says in
    let tail = tail-of f f.choice (skipped-moves frame acc done text texts f.choice (Some s) (ap status_in says) none (λ ss. refl)) (f.each ∙ ap (λ (cs : List Pending). length cs) (completions-none frame frames none)) rest in
    posted {after = unended 0 done acc} text frame (rw (reads, says) (refused c id name s is)) (ih acc done ids texts bound tail)

one-more : (frame : List ℕ) (frames : List (List ℕ)) → Speaks frames → (r : Option Reply) → reply_in frame ≡ r → Speaks (frame ∷ frames)
one-more frame frames ih None says acc done ids texts bound f = let answer : false ≡ true = rw says at (f.answers [] frames frame refl) in absurd cc
one-more frame frames ih (Some (acknowledge id name status)) says acc done ids [] bound f =
    let e : is_invalid_message status ∷ map is_invalid_message (statuses frames) ≡ [] = ap (map is_invalid_message) (sym (statuses-some frame frames status (ap status_in says))) ∙ f.acknowledges in
    absurd cc
one-more frame frames ih (Some (acknowledge id name status)) says acc done ids (text ∷ texts) bound f =
    let e : is_invalid_message status ∷ map is_invalid_message (statuses frames) ≡ is_err (command_in text) ∷ texts_are texts = ap (map is_invalid_message) (sym (statuses-some frame frames status (ap status_in says))) ∙ f.acknowledges in
    posted-one frame frames ih id name status says text (command_in text) refl acc done ids texts bound (cc) (cc) f
one-more frame frames ih (Some (event id name payload)) says acc done ids texts bound f =
    let fact : TellsAt (all_by acc texts []) (ended_by done f.choice []) id = rw says at (f.tells [] frames frame refl) in
    let out = taken-out acc done fact.0 fact.1 (here-is acc fact.0 fact.1 fact.2) (here-not done fact.0 fact.3) in
    let there : Contains (unended 0 done acc) fact.1 = rw out.was (split-contains fact.1 out.before out.later) in
    let tells : Says (unended 0 done acc) (Some (event id name payload)) (unended 0 done acc) = subst (λ i. Says (unended 0 done acc) (Some (event i name payload)) (unended 0 done acc)) fact.4 (told fact.1 name payload there) in
    heard {after = unended 0 done acc} frame (rw says tells) (ih acc done ids texts bound (quiet-tail (ap status_in says) (ap ended_in says) f))
one-more frame frames ih (Some (completion id name code payload)) says acc done ids texts bound f =
    let p : Pending = record { id = id; name = name } in
    let fact : EndsAt (all_by acc texts []) (ended_by done f.choice []) (pick_at f.choice []) p = rw says at (f.ends [] frames frame refl) in
    let k : ℕ = fact.0 in
    let first = first-of f.choice k fact.1 in
    let there = here-is acc k p fact.2 in
    let out = taken-out acc done k p there (here-not done k fact.3) in
    let ends : ended_in (reply_in frame) ≡ Some p = ap ended_in says in
    let none : status_in (reply_in frame) ≡ None = ap status_in says in
    let moves : Moves frame acc acc done (done ++ k ∷ []) texts texts f.choice first.0 = subst (λ l. Moves frame acc acc done (done ++ k ∷ []) texts texts l first.0) (sym first.1) (completed-moves frame acc done texts k first.0 p none ends) in
    let lengths : length first.0 ≡ length (completions frames) =
    let a : length f.choice ≡ suc (length first.0) = ap (λ (l : List ℕ). length l) first.1 in
    let b : length (completions (frame ∷ frames)) ≡ suc (length (completions frames)) = ap (λ (l : List Pending). length l) (completions-some frame frames p ends) in
    let c = f.each in
    omega arith in
    let tail = tail-of f first.0 moves lengths (ap (map is_invalid_message) (sym (statuses-none frame frames none)) ∙ f.acknowledges) in
    heard {after = unended 0 (done ++ k ∷ []) acc} frame (rw says (completed p code payload out)) (ih acc (done ++ k ∷ []) ids texts (bounded-more acc done k bound (slice_get_within acc k p there)) tail)
one-more frame frames ih (Some (unsolicited name payload)) says acc done ids texts bound f =
    heard {after = unended 0 done acc} frame (rw says (announced name payload)) (ih acc done ids texts bound (quiet-tail (ap status_in says) (ap ended_in says) f))

none-more : Speaks []
none-more acc done ids (text ∷ texts) bound f = let e = f.acknowledges in absurd cc
none-more acc done ids [] bound f =
    let nothing : f.choice ≡ [] = nil_from_length f.choice f.each in
    let over : done ++ f.choice ≡ done = ap (λ l. done ++ l) nothing ∙ append-nil done in
    ended (subst (λ l. pending_ids (unended 0 l acc) ≡ ids) over (subst (λ l. pending_ids (unended 0 (done ++ f.choice) l) ≡ ids) (append-nil acc) f.left))

speaks : (frames : List (List ℕ)) → Speaks frames
speaks [] = none-more
speaks (frame ∷ frames) = one-more frame frames (speaks frames) (reply_in frame) refl

pub converses-where-it-fits : (ids : List ℕ) (texts frames : List (List ℕ)) → Fits ids texts frames → Converses ids [] texts frames
converses-where-it-fits ids texts frames f = speaks frames [] [] ids texts (λ m le. refl) record {
  choice = f.choice;
  each = f.each;
  acknowledges = f.acknowledges;
  ends = λ before later frame is. ends_at (ended_in (reply_in frame)) before (f.ends before later frame is);
  tells = λ before later frame is. tells_at (event_id_in (reply_in frame)) before (f.tells before later frame is);
  left = f.left;
  answers = f.answers;
}
  where
    ends_at : (o : Option Pending) (before : List (List ℕ)) → IfSome o (EndsChosen f.choice texts before) → IfSome o (EndsAt (all_by [] texts before) (ended_by [] f.choice before) (pick_at f.choice before))
    ends_at None before h = h
    ends_at (Some p) before h = (h.number, h.chosen, h.is_open.accepted, h.is_open.not_ended)

    tells_at : (o : Option ℕ) (before : List (List ℕ)) → IfSome o (HasOpenId f.choice texts before) → IfSome o (TellsAt (all_by [] texts before) (ended_by [] f.choice before))
    tells_at None before h = h
    tells_at (Some id) before h = (h.number, h.command, h.is_open.accepted, h.is_open.not_ended, h.its)

-- what converses fits
abbrev FitsWhere : List ℕ → List Pending → List (List ℕ) → List (List ℕ) → Type 0
FitsWhere ids pending texts frames = (acc : List Pending) (done : List ℕ) → Bounded acc done → pending ≡ unended 0 done acc → FitsFrom acc done ids texts frames

nothing-said : (P : List (List ℕ) → List ℕ → Type 0) → EachFrame [] P
nothing-said P [] later f is = absurd cc
nothing-said P (b ∷ before) later f is = absurd cc

fits-end : (ids : List ℕ) (pending : List Pending) → pending_ids pending ≡ ids → FitsWhere ids pending [] []
fits-end ids pending same acc done bound is = record {
  choice = [];
  each = refl;
  acknowledges = refl;
  ends = nothing-said _;
  tells = nothing-said _;
  left = subst (λ l. pending_ids (unended 0 l (acc ++ [])) ≡ ids) (sym (append-nil done)) (subst (λ l. pending_ids (unended 0 done l) ≡ ids) (sym (append-nil acc)) (ap pending_ids (sym is) ∙ same));
  answers = nothing-said _;
}

acknowledges-cons : (frame : List ℕ) (frames : List (List ℕ)) (text : List ℕ) (texts : List (List ℕ)) (status : Option Status) → status_in (reply_in frame) ≡ Some status → is_invalid_message status ≡ is_err (command_in text)
    → map is_invalid_message (statuses frames) ≡ texts_are texts → map is_invalid_message (statuses (frame ∷ frames)) ≡ texts_are (text ∷ texts)
acknowledges-cons frame frames text texts status says is rest = ap (map is_invalid_message) (statuses-some frame frames status says) ∙ ap (λ b. b ∷ map is_invalid_message (statuses frames)) is ∙ ap (λ l. is_err (command_in text) ∷ l) rest

fits-posted : {ids : List ℕ} {before after : List Pending} (text frame : List ℕ) (texts frames : List (List ℕ)) (t : Result Command Refuse) (r : Option Reply) → command_in text ≡ t → reply_in frame ≡ r → Acknowledges before t r after
    → FitsWhere ids after texts frames → FitsWhere ids before (text ∷ texts) (frame ∷ frames)
fits-posted text frame texts frames _ _ reads says (misread refuse id name) ih acc done bound is =
    let f = ih acc done bound is in
    let none : ended_in (reply_in frame) ≡ None = ap ended_in says in
    head-of frame f f.choice (skipped-moves frame acc done text texts f.choice (Some InvalidMessage) (ap status_in says) none (λ ss. refl)) (f.each ∙ ap (λ (cs : List Pending). length cs) (sym (completions-none frame frames none)))
    (acknowledges-cons frame frames text texts (Some InvalidMessage) (ap status_in says) (rw reads refl) f.acknowledges) (rw says tt) (rw says tt) (rw says refl)
fits-posted text frame texts frames _ _ reads says (refused c id name s not) ih acc done bound is =
    let f = ih acc done bound is in
    let none : ended_in (reply_in frame) ≡ None = ap ended_in says in
    head-of frame f f.choice (skipped-moves frame acc done text texts f.choice (Some s) (ap status_in says) none (λ ss. refl)) (f.each ∙ ap (λ (cs : List Pending). length cs) (sym (completions-none frame frames none)))
    (acknowledges-cons frame frames text texts (Some s) (ap status_in says) (rw reads not) f.acknowledges) (rw says tt) (rw says tt) (rw says refl)
fits-posted text frame texts frames _ _ reads says (accepted c id name) ih acc done bound is =
    let f = ih (acc ++ pending_of c ∷ []) done (bounded-push acc done (pending_of c) bound) (ap (λ l. l ++ pending_of c ∷ []) is ∙ sym (accepted-push acc done (pending_of c) bound)) in
    let none : ended_in (reply_in frame) ≡ None = ap ended_in says in
    head-of frame f f.choice (accepted-moves frame acc done text texts f.choice c (ap status_in says) none reads) (f.each ∙ ap (λ (cs : List Pending). length cs) (sym (completions-none frame frames none)))
    (acknowledges-cons frame frames text texts None (ap status_in says) (rw reads refl) f.acknowledges) (rw says tt) (rw says tt) (rw says refl)

-- the number of a pending command
found-open : (acc : List Pending) (done : List ℕ) (p : Pending) (before later : List Pending) → unended 0 done acc ≡ before ++ p ∷ later → (k : ℕ) × (slice_get acc k ≡ Some p) × (is_among done k ≡ false) × (unended 0 (done ++ k ∷ []) acc ≡ before ++ later)
found-open acc done p before later e =
    let r = unended-found 0 done acc p before later e in
    let zero_more : 0 + r.number ≡ r.number = omega arith in
    (r.number, r.there, subst (λ n. is_among done n ≡ false) zero_more r.not_ended, subst (λ n. unended 0 (done ++ n ∷ []) acc ≡ before ++ later) zero_more r.rest_is)

quiet-head : {acc : List Pending} {done ids : List ℕ} {texts frames : List (List ℕ)} (frame : List ℕ) (f : FitsFrom acc done ids texts frames) → status_in (reply_in frame) ≡ None → ended_in (reply_in frame) ≡ None
    → IfSome (event_id_in (reply_in frame)) (TellsAt (all_by acc texts []) (ended_by done f.choice [])) → IsSome (reply_in frame) → FitsFrom acc done ids texts (frame ∷ frames)
quiet-head {acc = acc} {done = done} {texts = texts} {frames = frames} frame f s e tells some =
    head-of frame f f.choice (quiet-moves frame acc done texts f.choice s e) (f.each ∙ ap (λ (cs : List Pending). length cs) (sym (completions-none frame frames e)))
    (ap (map is_invalid_message) (statuses-none frame frames s) ∙ f.acknowledges) (rw e tt) tells some

fits-heard : {ids : List ℕ} {before after : List Pending} (frame : List ℕ) (texts frames : List (List ℕ)) (r : Option Reply) → reply_in frame ≡ r → Says before r after → FitsWhere ids after texts frames → FitsWhere ids before texts (frame ∷ frames)
fits-heard frame texts frames _ says (completed p code payload out) ih acc done bound is =
    let found = found-open acc done p out.before out.later (sym is ∙ out.was) in
    let k : ℕ = found.0 in
    let f = ih acc (done ++ k ∷ []) (bounded-more acc done k bound (slice_get_within acc k p found.1)) (out.is ∙ sym found.3) in
    let ends : ended_in (reply_in frame) ≡ Some p = ap ended_in says in
    let none : status_in (reply_in frame) ≡ None = ap status_in says in
    let fact : EndsAt (all_by acc texts []) (ended_by done (k ∷ f.choice) []) (pick_at (k ∷ f.choice) []) p =
    (k, refl, subst (λ l. slice_get l k ≡ Some p) (sym (append-nil acc)) found.1, subst (λ l. is_among l k ≡ false) (sym (append-nil done)) found.2) in
    head-of frame f (k ∷ f.choice) (completed-moves frame acc done texts k f.choice p none ends)
    (ap (λ n. suc n) f.each ∙ ap (λ (cs : List Pending). length cs) (sym (completions-some frame frames p ends)))
    (ap (map is_invalid_message) (statuses-none frame frames none) ∙ f.acknowledges) (rw ends fact) (rw says tt) (rw says refl)
fits-heard frame texts frames _ says (told p name payload there) ih acc done bound is =
    let split = contains-split (unended 0 done acc) p (subst (λ l. Contains l p) is there) in
    let found = found-open acc done p split.0 split.1 split.2 in
    let f = ih acc done bound is in
    let fact : TellsAt (all_by acc texts []) (ended_by done f.choice []) p.id =
    (found.0, p, subst (λ l. slice_get l found.0 ≡ Some p) (sym (append-nil acc)) found.1, subst (λ l. is_among l found.0 ≡ false) (sym (append-nil done)) found.2, refl) in
    quiet-head frame f (ap status_in says) (ap ended_in says) (rw says fact) (rw says refl)
fits-heard frame texts frames _ says (announced name payload) ih acc done bound is =
    quiet-head frame (ih acc done bound is) (ap status_in says) (ap ended_in says) (rw says tt) (rw says refl)

fits : {ids : List ℕ} {pending : List Pending} {texts frames : List (List ℕ)} → Converses ids pending texts frames → FitsWhere ids pending texts frames
fits {ids = ids} (ended {pending = pending} same) = fits-end ids pending same
fits (posted {texts = texts} {frames = frames} text frame says h) = fits-posted text frame texts frames (command_in text) (reply_in frame) refl refl says (fits h)
fits (heard {texts = texts} {frames = frames} frame says h) = fits-heard frame texts frames (reply_in frame) refl says (fits h)

pub fits-where-it-converses : (ids : List ℕ) (texts frames : List (List ℕ)) → Converses ids [] texts frames → Fits ids texts frames
fits-where-it-converses ids texts frames talk =
    let f = fits talk [] [] (λ m le. refl) refl in
    record {
      choice = f.choice;
      each = f.each;
      acknowledges = f.acknowledges;
      ends = λ before later frame is. ends_at f.choice (ended_in (reply_in frame)) before (f.ends before later frame is);
      tells = λ before later frame is. tells_at f.choice (event_id_in (reply_in frame)) before (f.tells before later frame is);
      left = f.left;
      answers = f.answers;
    }
  where
    ends_at : (choice : List ℕ) (o : Option Pending) (before : List (List ℕ)) → IfSome o (EndsAt (all_by [] texts before) (ended_by [] choice before) (pick_at choice before)) → IfSome o (EndsChosen choice texts before)
    ends_at choice None before h = h
    ends_at choice (Some p) before h = record { number = h.0; chosen = h.1; is_open = record { accepted = h.2; not_ended = h.3 } }

    tells_at : (choice : List ℕ) (o : Option ℕ) (before : List (List ℕ)) → IfSome o (TellsAt (all_by [] texts before) (ended_by [] choice before)) → IfSome o (HasOpenId choice texts before)
    tells_at choice None before h = h
    tells_at choice (Some id) before h = record { number = h.0; command = h.1; is_open = record { accepted = h.2; not_ended = h.3 }; its = h.4 }
