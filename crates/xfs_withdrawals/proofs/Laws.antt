-- A Dispense that its token covers is completed, and a Present.
use Rattle.std.proofs.Common.{◌≡◌, ◌≤◌, ◌+◌, ◌*◌, ℕ, false, List, [], ◌∷◌, ◌++◌, length, Some, ap, sym, subst, ◌∙◌, arith, append_assoc}
use Rattle.xfs_dispenser.specs.Answers.{CashAnswer, done, plain_answer, planned}
use Rattle.xfs_dispenser.specs.Complete.{IsBegunInFull, IsComplete, IsGiven, IsPresented, WorksTurns}
use Rattle.xfs_dispenser.specs.Denominations.{denomination_answer}
use Rattle.xfs_dispenser.specs.Plans.{dispense_plan, order_plan}
use Rattle.xfs_dispenser.specs.Seen.{Seen}
use Rattle.xfs_dispenser.specs.declared.ask.CashAsk.{CashAsk}
use Rattle.xfs_dispenser.specs.declared.ask.CashAsk.TheVariants.{Dispense, Present}
use Rattle.xfs_dispenser.specs.declared.notes.Notes.{Notes}
use Rattle.xfs_dispenser.specs.declared.plan.Plan.{Plan}
use Rattle.xfs_dispenser.proofs.BeginLaws.{none-at}
use Rattle.xfs_dispenser.proofs.TurnLaws.{IsLater, calm-first, calm-rest}
use Rattle.xfs_envelope.specs.declared.code.Code.TheVariants.{Success}
use Rattle.xfs_guard.specs.Covered.{CanPresent}
use Rattle.xfs_guard.specs.declared.ask.Ask.TheVariants as Ask
use Rattle.xfs_model.specs.Cases.{with_start}
use Rattle.xfs_model.specs.State.{Job, cash}
use Rattle.xfs_queue.specs.declared.command.Command.{Command}
use Rattle.xfs_withdrawals.specs.Posted.{IsAccepted}
use Rattle.xfs_withdrawals.specs.Turning.{IsNext, Turning}
use Rattle.xfs_withdrawals.specs.Withdrawals.{IsCompleted, IsDispensable, IsDispensedInFull, IsPaidOut, IsPresentable, IsPutOut, IsShown, IsWholeWithdrawal, IsWithdrawn, Withdrawal}
use Rattle.xfs_dispenser.specs.Units.{units_with}
use Rattle.xfs_withdrawals.proofs.Lives.{AreOrders, stacks_are_orders, stacks_length}
use Rattle.xfs_withdrawals.proofs.Posting.{taken}
use Rattle.xfs_withdrawals.proofs.Steady.{steady, steady_later}
use Rattle.xfs_withdrawals.proofs.Runs.{IsAnswered, IsBegun, IsWorkedOn, begins_first, worked_on}
use Rattle.xfs_base.specs.Counts.{at}
use Rattle.xfs_base.specs.declared.counts.Counts.{Counts}
use Rattle.std.specs.Prelude.{◌==◌, sum}
use Rattle.std.proofs.lemmas.List.Folds.{sum_by-zero}
use Rattle.xfs_model.specs.Posts.{job_of}
use Rattle.xfs_queue.specs.Queue.{offered}
use Rattle.xfs_queue.specs.declared.command.Line.TheVariants.{Device}
use Rattle.xfs_withdrawals.proofs.Entries.{shown}
use Rattle.xfs_guard.proofs.CoveredLaws.{present-free}
use Rattle.xfs_withdrawals.proofs.Steps.{itself}

module _ (complete : IsComplete) (t : Turning) where
  abbrev a : Command Job
  a = t.command

  -- the first turn begins a command that is next
  begun_first : (ask : CashAsk) → IsNext t.start a ask t.waiting → 1 ≤ t.turns → IsBegun t.start a ask t.last t.turns t.waiting t.frames t.start
  begun_first ask n some =
      begins_first t.start a ask t.last (ap (λ (c : Command Job). c.stage) n.accepted) (ap (λ (c : Command Job). c.line) n.accepted) (ap (λ (c : Command Job). c.job.ask) n.accepted) t.waiting (steady a t.last t.calm t.turned) some
      (record { queue = n.alone; inactive = n.at_rest.inactive; connected = n.connected; beside = itself t.start }) n.at_rest.settled

  -- its plan, all of orders, is worked on
  worked_through : (ask : CashAsk) (n : IsNext t.start a ask t.waiting) (b : IsBegun t.start a ask t.last t.turns t.waiting t.frames t.start) (plan : Plan) (m : ℕ) → b.begun.start ≡ planned plan → b.begun.after ≡ false → AreOrders plan.parts.items → 2 + m ≤ t.turns
      → IsWorkedOn t.start m b.begun.bound plan a t.last b.waiting_then b.frames_then
  worked_through ask n b plan m starts after orders enough =
      let turns = b.turns_are in
      subst (λ x. IsWorkedOn t.start m x plan a t.last b.waiting_then b.frames_then) b.begun.seen
      (worked_on t.start a t.last (ap (λ (c : Command Job). c.marked) n.accepted) m plan b.waiting_then b.run (omega (arith, turns, enough)) orders
      (record { queue = b.begun.queue ∙ ap (λ s. with_start s a ∷ []) starts; inactive = b.begun.exchange ∙ after; connected = b.begun.connected; beside = b.begun.beside }))

  -- all is later than the first turn, and calm
  bound_later : (ask : CashAsk) (b : IsBegun t.start a ask t.last t.turns t.waiting t.frames t.start) → IsLater b.begun.bound t.last.seen
  bound_later ask b = subst (λ x. IsLater x t.last.seen) b.begun.seen (steady_later a t.last b.run)

  start_later : (ask : CashAsk) (b : IsBegun t.start a ask t.last t.turns t.waiting t.frames t.start) → IsLater t.start.seen b.begun.bound
  start_later ask b = subst (λ x. IsLater t.start.seen x) b.begun.seen b.later

  -- the command is completed where it was answered
  completed_by : (ask : CashAsk) (b : IsBegun t.start a ask t.last t.turns t.waiting t.frames t.start) (answer : CashAnswer) (next : Seen) → IsAnswered t.start a answer t.last b.waiting_then b.frames_then next → IsCompleted t answer
  completed_by ask b answer next o = record {
    over = record { empty = o.over.queue; at_rest = record { settled = ap (λ (x : Seen). x.guard.open_order) o.over.seen_is ∙ o.settled; inactive = o.over.inactive } };
    beside = o.over.beside;
    completion = o.completion;
    completes = o.completes;
    left = o.over.left;
    connected = o.over.connected;
    all = ap (λ l. l ++ o.over.left) b.frames_are ∙ (append_assoc b.before b.frames_then o.over.left ∙ (ap (λ l. b.before ++ l) o.over.came
        ∙ (sym (append_assoc b.before b.waiting_then (o.completion ∷ [])) ∙ ap (λ l. l ++ o.completion ∷ []) b.waited)));
  }

  pub paid_out : (notes : Notes) (token : List ℕ) → IsDispensable t notes token → IsPaidOut t notes
  paid_out notes token d =
      let ask = Dispense notes (Some token) in
      let b = begun_first ask d.next d.turned in
      let h = b.begun in
      let full = complete.dispense t.start.seen h.bound notes token h.after h.start d.next.at_rest.settled d.covered (calm-first t.start.seen h.bound t.last.seen (bound_later ask b) t.calm) h.begins in
      record { counts = full.counts; given = full.given; in_full = λ enough. whole b full enough }
    where
      whole : (b : IsBegun t.start a (Dispense notes (Some token)) t.last t.turns t.waiting t.frames t.start) (full : IsBegunInFull t.start.seen notes b.begun.bound b.begun.start) → 2 + 3 * length (units_with full.counts.0) ≤ t.turns
          → IsDispensedInFull t full.counts
      whole b full enough =
          let ask = Dispense notes (Some token) in
          let h = b.begun in
          let plan = dispense_plan full.issue full.counts in
          let many : length plan.parts.items ≡ length (units_with full.counts.0) = stacks_length full.issue full.counts.0 in
          let o = worked_through ask d.next b plan (3 * length plan.parts.items) full.plan h.begins.0 (stacks_are_orders full.issue full.counts.0) (omega (arith, many, enough)) in
          let calm = calm-first h.bound o.next t.last.seen o.later (calm-rest t.start.seen h.bound t.last.seen (start_later ask b) t.calm) in
          let given = full.done o.next o.went calm o.turns in
          let answered = o.answers (denomination_answer t.start.seen.guard.units full.counts) given.is in
          record {
            completed = completed_by ask b (denomination_answer t.start.seen.guard.units full.counts) o.next answered;
            moved = subst (λ x. IsGiven t.start.seen full.counts x (done (denomination_answer t.start.seen.guard.units full.counts))) (sym answered.over.seen_is) (subst (λ w. IsGiven t.start.seen full.counts o.next w) given.is given);
          }

  pub put_out : IsPresentable t → 5 ≤ t.turns → IsPutOut t
  put_out d enough =
      let b = begun_first Present d.next (omega (arith, enough)) in
      let h = b.begun in
      let o = worked_through Present d.next b (order_plan Ask.Present) 3 h.begins.2 h.begins.1 tt enough in
      let calm = calm-first t.start.seen o.next t.last.seen o.later t.calm in
      let turns : WorksTurns 3 t.start.seen (order_plan Ask.Present) o.next o.went = subst (λ x. WorksTurns 3 x (order_plan Ask.Present) o.next o.went) h.begins.0 o.turns in
      let full = complete.present t.start.seen h.bound o.next h.after h.start o.went d.next.at_rest.settled d.ready calm h.begins o.turns in
      let moved = full.2 in
      let answered = o.answers (plain_answer Success) moved.is in
      record {
        completed = completed_by Present b (plain_answer Success) o.next answered;
        shown = subst (λ x. IsShown t.start.seen x) (sym answered.over.seen_is) (shown t.start.seen o.next o.went d.next.at_rest.settled (present-free t.start.seen.guard d.ready) calm turns);
        moved = subst (λ x. IsPresented t.start.seen x (done (plain_answer Success))) (sym answered.over.seen_is) (subst (λ w. IsPresented t.start.seen o.next w) moved.is moved);
      }

same_head : (a b : Command Job) → a ∷ [] ≡ b ∷ [] → a ≡ b
same_head a b e = cc

-- no notes lie where their sum is 0
none_there : (counts : Counts) → sum counts.0 ≡ 0 → (u : ℕ) → at counts u ≡ 0
none_there counts empty u = none-at counts.0 u (sym (sum_by-zero (λ x. x) counts.0) ∙ ap (λ n. n == 0) empty)

module _ (complete : IsComplete) (w : Withdrawal) where
  -- the posted Present is the one that is turned, and nothing stands against it
  presentable : (counts : Counts) → IsDispensedInFull w.dispense counts → (taken_ : IsAccepted Present w.dispense.last w.present.start w.posted) → taken_.command ≡ w.present.command → IsPresentable w.present
  presentable counts d taken_ it = record {
    next = record {
      alone = w.pending;
      accepted = subst (λ (c : Command Job). c ≡ offered c.client c.id Device c.timeout c.accepted (job_of c.job.name (cash Present))) it taken_.next.accepted;
      at_rest = taken_.next.at_rest;
      connected = w.connected;
    };
    ready = subst (λ (x : Seen). CanPresent x.guard) (sym taken_.same) (d.moved.ready (subst (λ (x : Seen). sum x.guard.places.outlet.0 ≡ 0) taken_.same w.empty));
  }

  withdrawn : (counts : Counts) → IsDispensedInFull w.dispense counts → IsWithdrawn w counts
  withdrawn counts d =
      let taken_ = taken Present w.dispense.last w.present.start d.completed.over w.posted in
      let it : taken_.command ≡ w.present.command = same_head taken_.command w.present.command (sym taken_.next.alone ∙ w.pending) in
      let out = put_out complete w.present (presentable counts d taken_ it) w.enough in
      record {
        dispensed = d;
        put_out = out;
        id = sym (ap (λ (c : Command Job). c.id) it) ∙ taken_.id;
        name = sym (ap (λ (c : Command Job). c.job.name) it) ∙ taken_.name;
        out = λ u.
            let none = none_there w.present.start.seen.guard.places.outlet w.empty u in
            let on : at w.present.start.seen.guard.places.transport u ≡ at w.dispense.last.seen.guard.places.transport u = ap (λ (x : Seen). at x.guard.places.transport u) taken_.same in
            let gained = out.moved.gained u in
            let given = d.moved.gained u in
            omega (arith, none, on, gained, given);
      }

  pub whole_withdrawal : (notes : Notes) (token : List ℕ) → IsDispensable w.dispense notes token → IsWholeWithdrawal w notes
  whole_withdrawal notes token d =
      let paid = paid_out complete w.dispense notes token d in
      record { paid = paid; in_full = λ enough. withdrawn paid.counts (paid.in_full enough) }
