-- Turns of the dispenser while one command is pending: it is begun, its plan is worked on, and it is answered.
use Rattle.std.proofs.Common.{◌≡◌, ◌≤◌, ℕ, zero, suc, ◌&&◌, not, Bool, true, false, List, [], ◌∷◌, ◌++◌, refl, ap, sym, subst, ◌∙◌, arith, append_assoc}
use Rattle.xfs_base.specs.declared.moment.ClientId.{ClientId}
use Rattle.xfs_base.specs.declared.moment.Service.TheVariants.{Cash}
use Rattle.xfs_dispenser.specs.Answers.{CashAnswer, Went, done, more}
use Rattle.xfs_dispenser.specs.Complete.{WorksTurns}
use Rattle.xfs_dispenser.specs.Begins.{Begins}
use Rattle.xfs_dispenser.specs.Seen.{Seen}
use Rattle.xfs_dispenser.specs.Steps.{Works}
use Rattle.xfs_dispenser.specs.declared.ask.CashAsk.{CashAsk}
use Rattle.xfs_dispenser.specs.declared.plan.Plan.{Plan}
use Rattle.xfs_dispenser.proofs.TurnLaws.{IsLater, later-same, later-trans}
use Rattle.xfs_dispenser.proofs.WorkLaws.{work-over}
use Rattle.xfs_guard.specs.declared.open.Open.TheVariants.{No}
use Rattle.xfs_model.specs.Cases.{with_went}
use Rattle.xfs_model.specs.Conversations.{frames_after}
use Rattle.xfs_model.specs.Events.{handed, outbox}
use Rattle.xfs_model.specs.Frames.{IsCompletion}
use Rattle.xfs_model.specs.Guards.{is_live}
use Rattle.xfs_model.specs.Results.{outcome, with_plan}
use Rattle.xfs_model.specs.State.{Job, State, cash, queue_at}
use Rattle.xfs_model.specs.Step.{at_moment}
use Rattle.xfs_queue.specs.declared.command.Command.{Command}
use Rattle.xfs_queue.specs.declared.command.Line.TheVariants.{Device}
use Rattle.xfs_queue.specs.declared.command.Stage.TheVariants.{Waiting}
use Rattle.xfs_withdrawals.specs.Turning.{IsConnected}
use Rattle.xfs_withdrawals.specs.Withdrawals.{IsBeside}
use Rattle.xfs_withdrawals.proofs.Choices.{answer_step, begin_step, plan_step, rest_step}
use Rattle.xfs_withdrawals.proofs.Lives.{AreOrders, orders_keep_life}
use Rattle.xfs_withdrawals.proofs.Steady.{Steady, ended, hears, later_by, steady_later, works}
use Rattle.xfs_withdrawals.proofs.Steps.{HasBegun, Stands, answers_on, begins_on, does_work, hears_on, stands_later, works_on}

module _ (base : State) where
  -- no command is pending in the end; what the client was handed, and then what waits, is all that came; and this is seen of the guard
  pub record IsOver (last : State) (client : ClientId) (frames all : List (List ℕ)) (seen : Seen) : Type 0 where
    pub queue : queue_at last Cash ≡ []
    pub inactive : last.exchange ≡ false
    pub left : List (List ℕ)
    pub connected : IsConnected last client left
    pub came : frames ++ left ≡ all
    pub seen_is : last.seen ≡ seen
    pub beside : IsBeside base last

  -- what the client was handed before
  over_heard : (last : State) (client : ClientId) (before frames later all : List (List ℕ)) (seen next : Seen) → before ++ later ≡ all → next ≡ seen → IsOver last client frames later next → IsOver last client (before ++ frames) all seen
  over_heard last client before frames later all seen next joined same o = record {
    queue = o.queue;
    inactive = o.inactive;
    left = o.left;
    connected = o.connected;
    came = rw append_assoc (ap (λ l. before ++ l) o.came ∙ joined);
    seen_is = o.seen_is ∙ same;
    beside = o.beside;
  }

  -- while none is pending, nothing is done
  rests : (a : Command Job) (last : State) (waiting : List (List ℕ)) {turns : ℕ} {s : State} {frames : List (List ℕ)} → Steady a last turns s frames → Stands base s [] a.client waiting → s.seen.guard.open_order ≡ No
      → IsOver last a.client frames waiting s.seen
  rests a last waiting ended h none = record { queue = h.queue; inactive = h.inactive; left = waiting; connected = h.connected; came = refl; seen_is = refl; beside = h.beside }
  rests a last waiting (hears {s = s} {middle = middle} {frames = frames} pass given step run) h none =
      let on = hears_on base s pass given middle [] a.client waiting step h in
      let o = rests a last on.left run on.stands (ap (λ (x : Seen). x.guard.open_order) on.seen ∙ none) in
      over_heard last a.client (frames_after s [] (outbox pass) (handed given) a.client) frames on.left waiting s.seen middle.seen on.all on.seen o
  rests a last waiting (works {s = s} {middle = middle} now told_ some time step run) h none =
      let there = stands_later base s now [] a.client waiting h in
      let same : middle ≡ at_moment s now = rest_step (at_moment s now) middle there.queue time.life none (does_work base s now told_ middle some step) in
      let o = rests a last waiting run (subst (λ n. Stands base n [] a.client waiting) (sym same) there) (ap (λ (n : State). n.seen.guard.open_order) same ∙ none) in
      record { queue = o.queue; inactive = o.inactive; left = o.left; connected = o.connected; came = o.came; seen_is = o.seen_is ∙ ap (λ (n : State). n.seen) same; beside = o.beside }

  -- the command is answered with this, and no longer pending in the end
  pub record IsAnswered (a : Command Job) (answer : CashAnswer) (last : State) (waiting frames : List (List ℕ)) (seen : Seen) : Type 0 where
    pub completion : List ℕ
    pub completes : IsCompletion a.id a.job.name answer.code answer.payload completion
    pub over : IsOver last a.client frames (waiting ++ completion ∷ []) seen
    pub settled : seen.guard.open_order ≡ No

  answered_heard : (a : Command Job) (answer : CashAnswer) (last : State) (before frames later waiting : List (List ℕ)) (seen next : Seen) → before ++ later ≡ waiting → next ≡ seen → IsAnswered a answer last later frames next
      → IsAnswered a answer last waiting (before ++ frames) seen
  answered_heard a answer last before frames later waiting seen next joined same o = record {
    completion = o.completion;
    completes = o.completes;
    over = over_heard last a.client before frames (later ++ o.completion ∷ []) (waiting ++ o.completion ∷ []) seen next (sym (append_assoc before later (o.completion ∷ [])) ∙ ap (λ l. l ++ o.completion ∷ []) joined) same o.over;
    settled = ap (λ (x : Seen). x.guard.open_order) (sym same) ∙ o.settled;
  }

  -- a command that has its result is answered by the next turn
  answered : (a : Command Job) (plan left : Plan) (answer : CashAnswer) (last : State) (waiting : List (List ℕ)) {turns : ℕ} {s : State} {frames : List (List ℕ)} → Steady a last turns s frames → 1 ≤ turns
      → Stands base s (with_went left false (done answer) (with_plan plan false a) ∷ []) a.client waiting → s.seen.guard.open_order ≡ No → IsAnswered a answer last waiting frames s.seen
  answered a plan left answer last waiting ended some h none = absurd (omega (arith, some))
  answered a plan left answer last waiting (hears {s = s} {middle = middle} {frames = frames} pass given step run) some h none =
      let on = hears_on base s pass given middle (with_went left false (done answer) (with_plan plan false a) ∷ []) a.client waiting step h in
      let o = answered a plan left answer last on.left run some on.stands (ap (λ (x : Seen). x.guard.open_order) on.seen ∙ none) in
      answered_heard a answer last (frames_after s [] (outbox pass) (handed given) a.client) frames on.left waiting s.seen middle.seen on.all on.seen o
  answered a plan left answer last waiting (works {s = s} {middle = middle} {frames = frames} now told_ more_ time step run) some h none =
      let b = with_went left false (done answer) (with_plan plan false a) in
      let there = stands_later base s now (b ∷ []) a.client waiting h in
      let does = answer_step (at_moment s now) middle b there.queue time.life none refl (does_work base s now told_ middle more_ step) in
      let by = answers_on base (at_moment s now) middle b (outcome answer.code answer.payload) waiting refl refl refl there does in
      let o = rests a last (waiting ++ by.completion ∷ []) run by.stands (ap (λ (x : Seen). x.guard.open_order) by.seen ∙ none) in
      record {
        completion = by.completion;
        completes = by.completes;
        over = record { queue = o.queue; inactive = o.inactive; left = o.left; connected = o.connected; came = o.came; seen_is = o.seen_is ∙ by.seen; beside = o.beside };
        settled = none;
      }

  -- so many steps of its plan were done, and where they gave its answer, the command is answered in the end
  pub record IsWorkedOn (m : ℕ) (s : Seen) (plan : Plan) (a : Command Job) (last : State) (waiting frames : List (List ℕ)) : Type 0 where
    pub next : Seen
    pub went : Went
    pub turns : WorksTurns m s plan next went
    pub later : IsLater next last.seen
    pub answers : (answer : CashAnswer) → went ≡ done answer → IsAnswered a answer last waiting frames next

  not_done : (answer : CashAnswer) → more ≡ done answer → ⊥
  not_done answer e = cc

  same_answer : (a b : CashAnswer) → done a ≡ done b → b ≡ a
  same_answer a b e = cc

  unworked : (s : Seen) (plan : Plan) (a : Command Job) (last : State) (waiting frames : List (List ℕ)) → IsLater s last.seen → IsWorkedOn zero s plan a last waiting frames
  unworked s plan a last waiting frames later = record { next = s; went = more; turns = (refl, refl); later = later; answers = λ answer is. absurd (not_done answer is) }

  heard_on : (m : ℕ) (s next : Seen) (plan : Plan) (a : Command Job) (last : State) (before frames later waiting : List (List ℕ)) → before ++ later ≡ waiting → next ≡ s → IsWorkedOn m next plan a last later frames
      → IsWorkedOn m s plan a last waiting (before ++ frames)
  heard_on m s next plan a last before frames later waiting joined same o = record {
    next = o.next;
    went = o.went;
    turns = subst (λ x. WorksTurns m x plan o.next o.went) same o.turns;
    later = o.later;
    answers = λ answer is. answered_heard a answer last before frames later waiting o.next o.next joined refl (o.answers answer is);
  }

  -- a turn of the plan, and those that follow
  follow : (m : ℕ) (s middle : Seen) (plan left : Plan) (a : Command Job) (last : State) (waiting frames : List (List ℕ)) → Works s plan middle left more → IsWorkedOn m middle left a last waiting frames → IsWorkedOn (suc m) s plan a last waiting frames
  follow m s middle plan left a last waiting frames does o = record {
    next = o.next;
    went = o.went;
    turns = record { middle = middle; after = left; first = more; works = does; later = o.turns };
    later = o.later;
    answers = o.answers;
  }

  -- the turn that gives the answer
  answers_now : (m : ℕ) (s middle : Seen) (plan left : Plan) (a : Command Job) (answer : CashAnswer) (last : State) (waiting frames : List (List ℕ)) → Works s plan middle left (done answer) → IsLater middle last.seen
      → IsAnswered a answer last waiting frames middle → IsWorkedOn (suc m) s plan a last waiting frames
  answers_now m s middle plan left a answer last waiting frames does later o = record {
    next = middle;
    went = done answer;
    turns = record { middle = middle; after = left; first = done answer; works = does; later = (refl, refl) };
    later = later;
    answers = λ other is. rw (same_answer answer other is) o;
  }

  -- the plan of a running command, all of orders, is worked on
  pub worked_on : (a : Command Job) (last : State) → a.marked ≡ false → (m : ℕ) (plan : Plan) (waiting : List (List ℕ)) {turns : ℕ} {s : State} {frames : List (List ℕ)} → Steady a last turns s frames → suc m ≤ turns → AreOrders plan.parts.items
      → Stands base s (with_plan plan false a ∷ []) a.client waiting → IsWorkedOn m s.seen plan a last waiting frames
  worked_on a last unmarked zero plan waiting {s = s} {frames = frames} run enough orders h = unworked s.seen plan a last waiting frames (steady_later a last run)
  worked_on a last unmarked (suc m) plan waiting ended enough orders h = absurd (omega (arith, enough))
  worked_on a last unmarked (suc m) plan waiting (hears {s = s} {middle = middle} {frames = frames} pass given step run) enough orders h =
      let on = hears_on base s pass given middle (with_plan plan false a ∷ []) a.client waiting step h in
      heard_on (suc m) s.seen middle.seen plan a last (frames_after s [] (outbox pass) (handed given) a.client) frames on.left waiting on.all on.seen (worked_on a last unmarked (suc m) plan on.left run enough orders on.stands)
  worked_on a last unmarked (suc m) plan waiting (works {turns = turns} {s = s} {middle = middle} {frames = frames} now told_ some time step run) enough orders h =
      let there = stands_later base s now (with_plan plan false a ∷ []) a.client waiting h in
      let by = works_on base (at_moment s now) middle a plan a.client waiting there (plan_step (at_moment s now) middle (with_plan plan false a) there.queue time.life refl unmarked time.deadline (does_work base s now told_ middle some step)) in
      let keeps = orders_keep_life s.seen plan by.next by.left by.went orders by.works in
      go by.left by.went keeps.orders (subst (λ x. Works s.seen plan x by.left by.went) (sym by.seen) by.works)
      (subst (λ e. Stands base middle (with_went by.left e by.went (with_plan plan false a) ∷ []) a.client waiting) (unended (is_live s.seen) (is_live by.next) keeps.life) by.stands)
      (λ left all stands. worked_on a last unmarked m left waiting run (omega (arith, enough)) all stands)
    where
      unended : (b c : Bool) → c ≡ b → (b && not c) ≡ false
      unended true c same = rw same refl
      unended false c same = refl

      go : (left : Plan) (went : Went) → AreOrders left.parts.items → Works s.seen plan middle.seen left went → Stands base middle (with_went left false went (with_plan plan false a) ∷ []) a.client waiting
          → ((next : Plan) → AreOrders next.parts.items → Stands base middle (with_plan next false a ∷ []) a.client waiting → IsWorkedOn m middle.seen next a last waiting frames) → IsWorkedOn (suc m) s.seen plan a last waiting frames
      go left more all does stands on = follow m s.seen middle.seen plan left a last waiting frames does (on left all stands)
      go left (done answer) all does stands on =
          answers_now m s.seen middle.seen plan left a answer last waiting frames does (steady_later a last run)
          (answered a plan left answer last waiting run (omega (arith, enough)) stands (work-over s.seen plan middle.seen left answer does))

  -- a command that waits is begun by the first turn, and so many follow
  pub record IsBegun (a : Command Job) (ask : CashAsk) (last : State) (turns : ℕ) (waiting frames : List (List ℕ)) (s : State) : Type 0 where
    pub middle : State
    pub rest : ℕ
    pub before : List (List ℕ)
    pub frames_then : List (List ℕ)
    pub waiting_then : List (List ℕ)
    pub begun : HasBegun base s a ask middle a.client waiting_then
    pub run : Steady a last rest middle frames_then
    pub later : IsLater s.seen middle.seen
    pub turns_are : turns ≡ suc rest
    pub frames_are : frames ≡ before ++ frames_then
    pub waited : before ++ waiting_then ≡ waiting

  pub begins_first : (a : Command Job) (ask : CashAsk) (last : State) → a.stage ≡ Waiting → a.line ≡ Device → a.job.ask ≡ cash ask → (waiting : List (List ℕ)) {turns : ℕ} {s : State} {frames : List (List ℕ)} → Steady a last turns s frames → 1 ≤ turns
      → Stands base s (a ∷ []) a.client waiting → s.seen.guard.open_order ≡ No → IsBegun a ask last turns waiting frames s
  begins_first a ask last stage line asks waiting ended some h none = absurd (omega (arith, some))
  begins_first a ask last stage line asks waiting (hears {s = s} {middle = middle} {frames = frames} pass given step run) some h none =
      let on = hears_on base s pass given middle (a ∷ []) a.client waiting step h in
      let heard = frames_after s [] (outbox pass) (handed given) a.client in
      let o = begins_first a ask last stage line asks on.left run some on.stands (ap (λ (x : Seen). x.guard.open_order) on.seen ∙ none) in
      let b = o.begun in
      record {
        middle = o.middle;
        rest = o.rest;
        before = heard ++ o.before;
        frames_then = o.frames_then;
        waiting_then = o.waiting_then;
        begun = record { bound = b.bound; seen = b.seen; after = b.after; start = b.start; begins = subst (λ x. Begins x false ask b.bound b.after b.start) on.seen b.begins; queue = b.queue; exchange = b.exchange; connected = b.connected; beside = b.beside };
        run = o.run;
        later = later-trans s.seen middle.seen o.middle.seen (later-same s.seen middle.seen on.seen) o.later;
        turns_are = o.turns_are;
        frames_are = ap (λ l. heard ++ l) o.frames_are ∙ sym (append_assoc heard o.before o.frames_then);
        waited = append_assoc heard o.before o.waiting_then ∙ (ap (λ l. heard ++ l) o.waited ∙ on.all);
      }
  begins_first a ask last stage line asks waiting (works {turns = turns} {s = s} {middle = middle} {frames = frames} now told_ more_ time step run) some h none =
      let there = stands_later base s now (a ∷ []) a.client waiting h in
      let b = begins_on base (at_moment s now) middle a ask a.client waiting (rw (stage, line) refl) asks there (begin_step (at_moment s now) middle a there.queue time.life none stage line time.deadline (does_work base s now told_ middle more_ step)) in
      record {
        middle = middle;
        rest = turns;
        before = [];
        frames_then = frames;
        waiting_then = waiting;
        begun = record { bound = b.bound; seen = b.seen; after = b.after; start = b.start; begins = b.begins; queue = b.queue; exchange = b.exchange; connected = b.connected; beside = b.beside };
        run = run;
        later = later_by s middle _ _ step;
        turns_are = refl;
        frames_are = refl;
        waited = refl;
      }
