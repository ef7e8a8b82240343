-- What a verb of `replay` is answered, by the event that it stands for.
use Rattle.std.proofs.Common.{◌≡◌, ◌≤◌, ℕ, List, [], ◌∷◌, ◌++◌, Bool, true, false, None, Some, refl, ap, sym, subst, ◌∙◌}
use Rattle.std.specs.Prelude.{codes, is_some, length}
use Rattle.std.specs.Option.{option_map, option_to_list}
use Rattle.std.specs.declared.option.Option.{Option}
use Rattle.xfs_guard.specs.Nonce.{live_in}
use Rattle.xfs_guard.specs.declared.nonce.Nonce.{Nonce}
use Rattle.xfs_base.specs.declared.moment.Service.{Service}
use Rattle.xfs_mech.specs.declared.touch.Touch.{Touch}
use Rattle.xfs_model.specs.Events.{Event, join, touch, Answer}
use Rattle.xfs_model.specs.State.{State}
use Rattle.xfs_model.specs.Step.{Step}
use Rattle.xfs_token.specs.Amounts.{IsMade}
use Rattle.xfs_base.specs.declared.moment.Moment.{Moment}
use Rattle.xfs_script.specs.Answered.{IsAnswerText, lines_text}
use Rattle.xfs_script.proofs.AnswerLaws.{lines_text-append}
use Rattle.xfs_script.specs.ReplayLines.{IsReplayLine}
use Rattle.xfs_script.specs.declared.replay_line.ReplayLine.{ReplayLine}
use Rattle.xfs_script.specs.declared.replay_line.ReplayLine.TheVariants.{Skip, Join, Leave, Say, At, Work, Rest, CardIn, CardTaken, CardFault, Key, KeyFault, Take, Mint, Restart, Show}
use Rattle.xfs_cli.specs.Replay.Events.{AnswersEvent, AnswersReplay, AnswersVerb, HasMail, IsTouched, Mints, clients_after, event_of, lines_of, lines_to}
use Rattle.xfs_load.specs.Steps.{HappensInPart, rounds}
use Rattle.xfs_cli.specs.Replay.Command.{IsPartDone}
use Rattle.xfs_cli.specs.Replay.States.{Played, is_joined}
use Rattle.xfs_load.proofs.RestLaws.{part-none, part-one, rests-part}

machine-same : (events : List Event) (s next : Played) → next.machine ≡ s.machine → HappensInPart events s.machine next.machine
machine-same events s next same = (let P : State → Type 0 = λ t. HappensInPart events s.machine t in subst P (sym same) (part-none events s.machine))

event-done : (s next : Played) (verb : ReplayLine) (event : Option Event) (said : List (List ℕ)) → AnswersEvent s verb event said next → HappensInPart (option_to_list event) s.machine next.machine
event-done s next verb None said answer = machine-same [] s next (ap (λ (p : Played). p.machine) answer.1)
event-done s next verb (Some event) said answer =
    let P : State → Type 0 = λ t. HappensInPart (event ∷ []) s.machine t in
    let is : next.machine ≡ answer.machine = ap (λ (p : Played). p.machine) answer.is in
    subst P (sym is) (part-one event answer.answer s.machine answer.machine answer.step)

mints-same : (s next : Played) (live : Option Nonce) (amounts : List (List ℕ × ℕ)) (said : List (List ℕ)) → Mints live s amounts said next → next.machine ≡ s.machine
mints-same s next None amounts said answer = ap (λ (p : Played). p.machine) answer.1
mints-same s next (Some nonce) amounts said answer = ap (λ (p : Played). p.machine) answer.is

-- a verb that is answered is done
pub verb-done : (s next : Played) (verb : ReplayLine) (said : List (List ℕ)) → AnswersVerb s verb said next → IsPartDone s verb next
verb-done s next Skip said answer = machine-same [] s next (ap (λ (p : Played). p.machine) answer.1)
verb-done s next (At moment) said answer = machine-same [] s next (ap (λ (p : Played). p.machine) answer.1)
verb-done s next Rest said answer =
    let r = rests-part s.now 100000 answer.count s.machine answer.machine answer.rests in
    let P : State → Type 0 = λ t. HappensInPart (rounds r.0 s.now) s.machine t in
    let is : next.machine ≡ answer.machine = ap (λ (p : Played). p.machine) answer.is in
    (r.0, subst P (sym is) r.1)
verb-done s next (Mint amounts) said answer = machine-same [] s next (mints-same s next (live_in s.machine.seen.guard.boot_missing s.machine.seen.guard.records) amounts said answer)
verb-done s next Show said answer = machine-same [] s next (ap (λ (p : Played). p.machine) answer.1)
verb-done s next (Join client service) said answer = event-done s next (Join client service) (event_of s (Join client service)) said answer
verb-done s next (Leave client) said answer = event-done s next (Leave client) (event_of s (Leave client)) said answer
verb-done s next (Say client text) said answer = event-done s next (Say client text) (event_of s (Say client text)) said answer
verb-done s next (Work service) said answer = event-done s next (Work service) (event_of s (Work service)) said answer
verb-done s next (CardIn tracks) said answer = event-done s next (CardIn tracks) (event_of s (CardIn tracks)) said answer
verb-done s next CardTaken said answer = event-done s next CardTaken (event_of s CardTaken) said answer
verb-done s next CardFault said answer = event-done s next CardFault (event_of s CardFault) said answer
verb-done s next (Key key) said answer = event-done s next (Key key) (event_of s (Key key)) said answer
verb-done s next KeyFault said answer = event-done s next KeyFault (event_of s KeyFault) said answer
verb-done s next Take said answer = event-done s next Take (event_of s Take) said answer
verb-done s next Restart said answer = event-done s next Restart (event_of s Restart) said answer

-- a number that isn't joined
pub tells-none : (s : Played) (verb : ReplayLine) (event : Option Event) (bytes : List ℕ) → event ≡ None → bytes ≡ lines_text (codes "no client" ∷ []) → IsAnswerText (AnswersEvent s verb event) bytes s
tells-none s verb None bytes is text = record { output = codes "no client" ∷ []; answer = (refl, refl); text = text }
tells-none s verb (Some event) bytes is text = cc

event-same : (a b : Event) → Some a ≡ Some b → a ≡ b
event-same a b e = cc

-- an event that happened
pub tells-event : (s next : Played) (verb : ReplayLine) (event : Option Event) (it : Event) (answer : Answer) (machine : State) (said : List (List ℕ)) (bytes : List ℕ) → event ≡ Some it → Step s.machine it answer machine
    → lines_to verb answer ≡ Some said → next ≡ record s { machine = machine; clients = clients_after s.clients verb answer } → bytes ≡ lines_text said → IsAnswerText (AnswersEvent s verb event) bytes next
tells-event s next verb None it answer machine said bytes event step told is text = cc
tells-event s next verb (Some e) it answer machine said bytes event step told is text =
    let P : Event → Type 0 = λ x. Step s.machine x answer machine in
    record { output = said; answer = record { answer = answer; machine = machine; step = subst P (sym (event-same e it event)) step; text = told; is = is }; text = text }

pub part-event : (event : Option Event) (it : Event) (answer : Answer) (s new : State) → event ≡ Some it → Step s it answer new → HappensInPart (option_to_list event) s new
part-event None it answer s new event step = cc
part-event (Some e) it answer s new event step =
    let P : Event → Type 0 = λ x. Step s x answer new in
    part-one e answer s new (subst P (sym (event-same e it event)) step)

-- whether a number is joined
pub joined-as : {A B : Type 0} (f : A → B) (found : Option A) (pass : Option B) (b : Bool) → option_map f found ≡ pass → is_some found ≡ b → is_some pass ≡ b
joined-as f None pass b is found = rw (← is) found
joined-as f (Some x) pass b is found = rw (← is) found

pub join-none : (s : Played) (number : ℕ) (service : Service) → is_joined s.clients number ≡ true → event_of s (Join number service) ≡ None
join-none s number service is = rw is refl

pub join-some : (s : Played) (number : ℕ) (service : Service) → is_joined s.clients number ≡ false → event_of s (Join number service) ≡ Some (join service)
join-some s number service is = rw is refl

-- a touch that happened
pub tells-touch : (s : Played) (it : Touch) (answer : Answer) (machine : State) (said : List (List ℕ)) (bytes : List ℕ) → Step s.machine (touch it) answer machine → lines_of answer ≡ Some said → bytes ≡ lines_text said
    → IsAnswerText (IsTouched s it) bytes (record s { machine = machine })
tells-touch s it answer machine said bytes step text written = record { output = said; answer = record { answer = answer; machine = machine; step = step; text = text; is = refl }; text = written }

-- a mint for no nonce
pub tells-no_token : (s : Played) (live : Option Nonce) (amounts : List (List ℕ × ℕ)) (bytes : List ℕ) → live ≡ None → bytes ≡ lines_text (codes "token none" ∷ []) → IsAnswerText (Mints live s amounts) bytes (record s { last = None })
tells-no_token s None amounts bytes none text = record { output = codes "token none" ∷ []; answer = (refl, refl); text = text }
tells-no_token s (Some nonce) amounts bytes none text = cc

nonce-same : (a b : Nonce) → Some a ≡ Some b → a ≡ b
nonce-same a b e = cc

-- a mint for this nonce
pub tells-token : (s : Played) (live : Option Nonce) (nonce : Nonce) (amounts : List (List ℕ × ℕ)) (key token last bytes : List ℕ) → live ≡ Some nonce → key ≡ s.machine.seen.guard.key → IsMade key nonce.text amounts token → last ≡ token
    → bytes ≡ lines_text ((codes "token " ++ token) ∷ []) → IsAnswerText (Mints live s amounts) bytes (record s { last = Some last })
tells-token s None nonce amounts key token last bytes is same made kept text = cc
tells-token s (Some n) nonce amounts key token last bytes is same made kept text =
    let P : Nonce → Type 0 = λ x. IsMade s.machine.seen.guard.key x.text amounts token in
    let Q : List ℕ → Type 0 = λ k. IsMade k nonce.text amounts token in
    record {
      output = (codes "token " ++ token) ∷ [];
      answer = record { token = token; made = subst P (sym (nonce-same n nonce is)) (subst Q same made); text = refl; is = ap (λ t. record s { last = Some t }) kept };
      text = text;
    }

pub pass-none : {A B : Type 0} (f : A → B) (found : Option A) (pass : Option B) → option_map f found ≡ pass → found ≡ None → pass ≡ None
pass-none f None pass is none = sym is
pass-none f (Some x) pass is none = cc

pub pass-some : {A B : Type 0} (f : A → B) (found : Option A) (pass : Option B) (x : A) → option_map f found ≡ pass → found ≡ Some x → pass ≡ Some (f x)
pass-some f found pass x is some = sym is ∙ ap (option_map f) some

-- what a verb is answered, the given verb is
pub verb-tells : (s next : Played) (verb given : ReplayLine) (bytes : List ℕ) → given ≡ verb → IsAnswerText (AnswersVerb s verb) bytes next → IsAnswerText (AnswersVerb s given) bytes next
verb-tells s next verb given bytes is tells = (let P : ReplayLine → Type 0 = λ v. IsAnswerText (AnswersVerb s v) bytes next in subst P (sym is) tells)

pub verb-part : (s next : Played) (verb given : ReplayLine) → given ≡ verb → IsPartDone s verb next → IsPartDone s given next
verb-part s next verb given is part = (let P : ReplayLine → Type 0 = λ v. IsPartDone s v next in subst P (sym is) part)

-- what a touch is answered, a line that stands for it is
pub touch-tells : (s next : Played) (verb : ReplayLine) (it : Touch) (bytes : List ℕ) → ((answer : Answer) → lines_to verb answer ≡ lines_of answer) → ((answer : Answer) → clients_after s.clients verb answer ≡ s.clients)
    → IsAnswerText (IsTouched s it) bytes next → IsAnswerText (AnswersEvent s verb (Some (touch it))) bytes next
touch-tells s next verb it bytes same kept t =
    let a = t.answer in
    record {
      output = t.output;
      answer = record {
        answer = a.answer;
        machine = a.machine;
        step = a.step;
        text = same a.answer ∙ a.text;
        is = a.is ∙ ap (λ clients. record s { machine = a.machine; clients = clients }) (sym (kept a.answer));
      };
      text = t.text;
    }

-- the moment of a line is one
pub at-moment : (text : List ℕ) (verb : ReplayLine) → IsReplayLine text verb → (m : Moment) → verb ≡ At m → m.0 ≤ 9223372036854775807
at-moment text verb reads m is = (let P : ReplayLine → Type 0 = λ v. IsReplayLine text v in (subst P is reads).high)

pub restart-text : (text : List ℕ) (verb : ReplayLine) → IsReplayLine text verb → verb ≡ Restart → text ≡ codes "restart"
restart-text text verb reads is = (let P : ReplayLine → Type 0 = λ v. IsReplayLine text v in subst P is reads)

-- a line is answered by its verb, and the frames behind that
pub line-told : (s next between : Played) (text : List ℕ) (verb : ReplayLine) (bytes all : List ℕ) → IsReplayLine text verb → length text ≤ 70000 → IsAnswerText (AnswersVerb s verb) bytes between
    → HasMail between.clients between.machine bytes all next.machine → next ≡ record between { machine = next.machine } → IsAnswerText (AnswersReplay s text) all next
line-told s next between text verb bytes all reads short t m is = record {
  output = t.output ++ m.mail;
  answer = record {
    verb = verb;
    reads = reads;
    short = short;
    said = t.output;
    between = between;
    answer = t.answer;
    mail = m.mail;
    machine = next.machine;
    hands = m.hands;
    joined_text = refl;
    is = is;
  };
  text = m.written ∙ (ap (λ b. b ++ lines_text m.mail) t.text ∙ sym (lines_text-append t.output m.mail));
}
