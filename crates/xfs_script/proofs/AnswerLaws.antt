-- One more line that is read, answered and written; and what was written where the lines end.
use Rattle.std.proofs.Common.{◌≡◌, ℕ, zero, suc, ◌+◌, ◌≤◌, List, [], ◌∷◌, ◌++◌, length, None, Some, Ok, Err, refl, sym, subst, ◌∙◌, ap, arith, append_assoc, add-one, inl, inr}
use Rattle.std.specs.declared.option.Option.{Option}
use Rattle.std.specs.Io.KnownBytes.{Appends}
use Rattle.std.proofs.lemmas.List.{append-nil}
use Rattle.std.proofs.lemmas.Bool.{cases_lt}
use Rattle.xfs_base.specs.Causes.{IfTold}
use Rattle.xfs_script.specs.Lines.{behind, first_line, first_lines, AllLines, AreLines, StopsAtLine}
use Rattle.xfs_script.specs.Reading.{Reading, nothing_read}
use Rattle.xfs_script.specs.Answer.{bytes_ahead, ReadsLine}
use Rattle.xfs_script.specs.Answered.{lines_text, AnswersEach}
use Rattle.xfs_script.specs.Commands.{Command}
use Rattle.xfs_script.specs.Endings.{AnswersInput, BreaksAtLine, EndsAtLine, EndsBehind, WritesAnswer}
use Rattle.xfs_script.specs.declared.answerer.Ending.{Ending}
use Rattle.xfs_script.specs.declared.answerer.Ending.TheVariants as End
use Rattle.xfs_script.specs.declared.line.Line.{Line}
use Rattle.xfs_script.specs.declared.line.LineFault.TheVariants.{Read, Quota, TooLong}
use Rattle.xfs_script.proofs.LineLaws.{ahead-some, told, answer-line, answer-long, answer-none, read-limit}
use Rattle.std.proofs.KnownBytes.{Appends-nil, Appends-trans}

-- how so many lines of a text were read, answered and written
pub record HasAnswered {S E : Type 0} (c : Command S E) (start state : S) (r : Reading) (now old new : Option (List ℕ)) (text : List ℕ) : Type 0 where
  pub output : List (List ℕ)
  pub each : AnswersEach c.Answers start (first_lines r.handed text) output state
  pub ahead : bytes_ahead r now ≡ Some (behind r.handed text)
  pub written : Appends old new (lines_text output)

pub lines_text-append : (xs ys : List (List ℕ)) → lines_text (xs ++ ys) ≡ lines_text xs ++ lines_text ys
lines_text-append [] ys = refl
lines_text-append (x ∷ xs) ys = ap (λ t. x ++ 10 ∷ t) (lines_text-append xs ys) ∙ sym (append_assoc x (10 ∷ lines_text xs) (lines_text ys))

-- one more line is answered behind the others
pub AnswersEach-push : {S : Type 0} (A : S → List ℕ → List (List ℕ) → S → Type 0) (s t u : S) (lines output answer : List (List ℕ)) (line : List ℕ)
    → AnswersEach A s lines output t → A t line answer u → AnswersEach A s (lines ++ line ∷ []) (output ++ answer) u
AnswersEach-push A s t u [] output answer line e a = record {
  answer = answer;
  next = u;
  later = [];
  answered = subst (λ v. A v line answer u) e.1 a;
  follows = (refl, refl);
  joined = ap (λ o. o ++ answer) e.0 ∙ sym (append-nil answer);
}
AnswersEach-push A s t u (l ∷ lines) output answer line e a = record {
  answer = e.answer;
  next = e.next;
  later = e.later ++ answer;
  answered = e.answered;
  follows = AnswersEach-push A e.next t u lines e.later answer line e.follows a;
  joined = ap (λ o. o ++ answer) e.joined ∙ append_assoc e.answer e.later answer;
}

-- lines are answered, and then one more
record IsSplit {S : Type 0} (A : S → List ℕ → List (List ℕ) → S → Type 0) (s t : S) (lines : List (List ℕ)) (line : List ℕ) : Type 0 where
  pub middle : S
  pub output : List (List ℕ)
  pub each : AnswersEach A s lines output middle
  pub answer : List (List ℕ)
  pub answered : A middle line answer t

split : {S : Type 0} (A : S → List ℕ → List (List ℕ) → S → Type 0) (s t : S) (lines output : List (List ℕ)) (line : List ℕ) → AnswersEach A s (lines ++ line ∷ []) output t → IsSplit A s t lines line
split A s t [] output line e = record { middle = s; output = []; each = (refl, refl); answer = e.answer; answered = subst (λ v. A s line e.answer v) (sym e.follows.1) e.answered }
split A s t (l ∷ lines) output line e =
    let more = split A e.next t lines e.later line e.follows in
    record {
      middle = more.middle;
      output = e.answer ++ more.output;
      each = record { answer = e.answer; next = e.next; later = more.output; answered = e.answered; follows = more.each; joined = refl };
      answer = more.answer;
      answered = more.answered;
    }

-- where only lines of a command are answered, those that were are its lines
pub lines-answered : {S : Type 0} (A : S → List ℕ → List (List ℕ) → S → Type 0) (L : List ℕ → Type 0) (is_line : (s t : S) (line : List ℕ) (output : List (List ℕ)) → A s line output t → L line) (s t : S) (many : ℕ) (text : List ℕ) (output : List (List ℕ))
    → AnswersEach A s (first_lines many text) output t → AreLines L many text
lines-answered A L is_line s t zero text output e = λ i lt. absurd (omega (arith, lt))
lines-answered A L is_line s t (suc n) text output e =
    let last = split A s t (first_lines n text) output (first_line (behind n text)) e in
    λ i lt. elim (cases_lt i n) [
      | inl before ↦ lines-answered A L is_line s last.middle n text last.output last.each i before
      | inr past ↦ (let same : i ≡ n = omega (arith, lt, past) in rw same (is_line last.middle t (first_line (behind n text)) last.answer last.answered))
    ]

-- nothing is written at first
pub answered-start : {S E : Type 0} (c : Command S E) (s : S) (r : Reading) (x w : Option (List ℕ)) → r ≡ nothing_read → IfTold x (HasAnswered c s s r x w w)
answered-start c s r None w is = tt
answered-start c s r (Some text) w is = rw is (record { output = []; each = (refl, refl); ahead = refl; written = Appends-nil w })

-- one more line
pub answered-line : {S E : Type 0} {faults now : ℕ} (c : Command S E) (start state next : S) (r s : Reading) (x y z old new newer : Option (List ℕ)) (line : Line)
    → IfTold x (HasAnswered c start state r y old new) → ReadsLine r s y z (Ok (Some line)) → WritesAnswer (c.Answers state line.text) next (record { faults = faults; faults_now = now; held = new; held_now = newer })
    → IfTold x (HasAnswered c start next s z old newer)
answered-line c start state next r s None y z old new newer line h reads says = tt
answered-line c start state next r s (Some text) y z old new newer line h reads says =
    let a = ahead-some r y (behind r.handed text) h.ahead in
    let first = answer-line r a.0 line (told _ y a.0 a.1 reads.answer) in
    let rest-is = told _ y a.0 a.1 reads.rest in
    let here : c.Answers state (first_line (behind r.handed text)) says.output next = rw (← a.2, ← first) says.answer in
    let pushed = AnswersEach-push c.Answers start state next (first_lines r.handed text) h.output says.output (first_line (behind r.handed text)) h.each here in
    record {
      output = h.output ++ says.output;
      each = rw (reads.handed, add-one) pushed;
      ahead = rw (reads.handed, add-one, ← a.2) rest-is;
      written = rw (lines_text-append h.output says.output) (Appends-trans old new newer (lines_text h.output) (lines_text says.output) h.written says.written);
    }

-- the lines that were answered, and how the run ends behind them
ends-behind : {S E : Type 0} (c : Command S E) (ending : Ending E) (start state end : S) (r : Reading) (y z old new newer : Option (List ℕ)) (text taken : List ℕ) → HasAnswered c start state r y old new text → Appends new newer taken
    → EndsBehind c ending r.handed text z state end taken → AnswersInput c ending start end z old newer text
ends-behind c ending start state end r y z old new newer text taken h more ends = record {
  many = r.handed;
  output = h.output;
  last = state;
  each = h.each;
  taken = taken;
  written = Appends-trans old new newer (lines_text h.output) taken h.written more;
  ends = ends;
}

-- the lines are all answered
pub answered-end : {S E : Type 0} (c : Command S E) (start state : S) (r s : Reading) (x y z old new : Option (List ℕ))
    → IfTold x (HasAnswered c start state r y old new) → ReadsLine r s y z (Ok None) → IfTold x (AnswersInput c End.AtEnd start state z old new)
answered-end c start state r s None y z old new h reads = tt
answered-end c start state r s (Some text) y z old new h reads =
    let a = ahead-some r y (behind r.handed text) h.ahead in
    let whole = sym a.2 ∙ answer-none r a.0 (told _ y a.0 a.1 reads.answer) in
    ends-behind c End.AtEnd start state state r y z old new new text [] h (Appends-nil new) (whole, record { same = refl; none = refl })

-- what ends a run at a line ends it behind the lines before that
at-line : {S E : Type 0} (c : Command S E) (ending : Ending E) (many : ℕ) (text : List ℕ) (left : Option (List ℕ)) (last end : S) (taken : List ℕ)
    → EndsAtLine c ending (many + 1) (first_line (behind many text)) last end taken → EndsBehind c ending many text left last end taken
at-line c End.AtEnd many text left last end taken e = absurd e
at-line c End.Read many text left last end taken e = absurd e
at-line c End.Quota many text left last end taken e = absurd e
at-line c (End.NotALine n) many text left last end taken e = e
at-line c End.Write many text left last end taken e = e
at-line c End.Memory many text left last end taken e = e
at-line c (End.Ended why) many text left last end taken e = e

-- the run ends at a line
pub answered-stop : {S E : Type 0} {faults now : ℕ} (c : Command S E) (ending : Ending E) (start state next : S) (r s : Reading) (x y z old new newer : Option (List ℕ)) (line : Line)
    → IfTold x (HasAnswered c start state r y old new) → ReadsLine r s y z (Ok (Some line)) → BreaksAtLine c line.number line.text state next (record { faults = faults; faults_now = now; held = new; held_now = newer }) ending
    → IfTold x (AnswersInput c ending start next z old newer)
answered-stop c ending start state next r s None y z old new newer line h reads breaks = tt
answered-stop c ending start state next r s (Some text) y z old new newer line h reads breaks =
    let a = ahead-some r y (behind r.handed text) h.ahead in
    let first = answer-line r a.0 line (told _ y a.0 a.1 reads.answer) in
    let here : EndsAtLine c ending (r.handed + 1) (first_line (behind r.handed text)) state next breaks.taken = rw (← reads.number.0, ← a.2, ← first) breaks.ends in
    ends-behind c ending start state next r y z old new newer text breaks.taken h breaks.written (at-line c ending r.handed text z state next breaks.taken here)

-- the source failed
pub answered-read : {S E : Type 0} (c : Command S E) (start state : S) (r s : Reading) (x y z old new : Option (List ℕ))
    → IfTold x (HasAnswered c start state r y old new) → ReadsLine r s y z (Err Read) → IfTold x (AnswersInput c End.Read start state z old new)
answered-read c start state r s None y z old new h reads = tt
answered-read c start state r s (Some text) y z old new h reads =
    ends-behind c End.Read start state state r y z old new new text [] h (Appends-nil new) (read-limit r s y z r.handed text Read h.ahead reads (inl refl), record { same = refl; none = refl })

-- the source gave as many bytes as may be read
pub answered-quota : {S E : Type 0} (c : Command S E) (start state : S) (r s : Reading) (x y z old new : Option (List ℕ))
    → IfTold x (HasAnswered c start state r y old new) → ReadsLine r s y z (Err Quota) → IfTold x (AnswersInput c End.Quota start state z old new)
answered-quota c start state r s None y z old new h reads = tt
answered-quota c start state r s (Some text) y z old new h reads =
    ends-behind c End.Quota start state state r y z old new new text [] h (Appends-nil new) (read-limit r s y z r.handed text Quota h.ahead reads (inr refl), record { same = refl; none = refl })

-- a line is too long
pub answered-long : {S E : Type 0} (c : Command S E) (start state : S) (r s : Reading) (x y z old new : Option (List ℕ)) (n : ℕ) → ((line : List ℕ) → c.IsLine line → length line ≤ 70000)
    → IfTold x (HasAnswered c start state r y old new) → ReadsLine r s y z (Err (TooLong n)) → IfTold x (AnswersInput c (End.NotALine n) start state z old new)
answered-long c start state r s None y z old new n short h reads = tt
answered-long c start state r s (Some text) y z old new n short h reads =
    let a = ahead-some r y (behind r.handed text) h.ahead in
    let long = answer-long r a.0 n (told _ y a.0 a.1 reads.answer) in
    let none : ¬ (c.IsLine (first_line (behind r.handed text))) = λ line. (let l = rw a.2 at long in let e = short _ line in omega (arith, l, e)) in
    ends-behind c (End.NotALine n) start state state r y z old new new text [] h (Appends-nil new) (reads.number, none, record { same = refl; none = refl })

-- memory ran out, and nothing is left of the next line
pub answered-memory : {S E : Type 0} (c : Command S E) (start state : S) (r : Reading) (x y z old new : Option (List ℕ)) → ((s : S) (line : List ℕ) → c.Leaves s line s)
    → IfTold x (HasAnswered c start state r y old new) → IfTold x (AnswersInput c End.Memory start state z old new)
answered-memory c start state r None y z old new same h = tt
answered-memory c start state r (Some text) y z old new same h =
    ends-behind c End.Memory start state state r y z old new new text [] h (Appends-nil new) (same state (first_line (behind r.handed text)), refl)

-- a text that was answered to its end is of lines alone
pub all-lines : {S E : Type 0} (c : Command S E) (is_line : (s next : S) (line : List ℕ) (output : List (List ℕ)) → c.Answers s line output next → c.IsLine line) (ending : Ending E) (start end : S) (x left before after : Option (List ℕ))
    → ending ≡ End.AtEnd → IfTold x (AnswersInput c ending start end left before after) → IfTold x (AllLines c.IsLine)
all-lines c is_line ending start end None left before after is h = tt
all-lines c is_line ending start end (Some text) left before after is h =
    let a : AnswersInput c End.AtEnd start end left before after text = rw is at h in
    record { many = a.many; lines = lines-answered c.Answers c.IsLine is_line start a.last a.many text a.output a.each; whole = a.ends.0 }

-- a text whose answers end at a line that is none has lines alone before it
pub stops-at_line : {S E : Type 0} (c : Command S E) (is_line : (s next : S) (line : List ℕ) (output : List (List ℕ)) → c.Answers s line output next → c.IsLine line) (ending : Ending E) (number : ℕ) (start end : S) (x left before after : Option (List ℕ))
    → ending ≡ End.NotALine number → IfTold x (AnswersInput c ending start end left before after) → IfTold x (StopsAtLine c.IsLine)
stops-at_line c is_line ending number start end None left before after is h = tt
stops-at_line c is_line ending number start end (Some text) left before after is h =
    let a : AnswersInput c (End.NotALine number) start end left before after text = rw is at h in
    record { many = a.many; lines = lines-answered c.Answers c.IsLine is_line start a.last a.many text a.output a.each; none = a.ends.1 }
