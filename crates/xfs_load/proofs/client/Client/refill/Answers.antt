use Rattle.std.proofs.Common.{[], ◌∷◌, refl}
use Rattle.std.proofs.lemmas.Result.{on_err_weaker, on_ok_weaker}
use Rattle.xfs_guard.proofs.KeepsLaws.{Proceeds-trans}
use Rattle.xfs_load.specs.Generator.{refill, say}
use Rattle.xfs_load.specs.Plays.{DoesDeed, DoesInPart, Plays, PlaysInPart}
use Rattle.xfs_load.specs.declared.ask.Ask.TheVariants.{StartExchange, Refill, EndExchange}
use Rattle.xfs_load.proofs.RestLaws.{on-err}
use Rattle.xfs_load.proofs.PlayLaws.{part-first, part-next}
use Rattle.xfs_load.proofs.client.Client.refill.Goals as goal

pub returns-in_err-say-clause-memory : goal.returns-in_err-say-clause-memory
returns-in_err-say-clause-memory g c = on-err _ _ (part-first _ _ _ _ _ c.in_err-say.ensures.memory)

pub returns-in_err-say-2-clause-memory : goal.returns-in_err-say-2-clause-memory
returns-in_err-say-2-clause-memory g c = on-err _ _ (part-next _ _ _ _ _ _ _ c.in_ok-say.ensures.does (part-first _ _ _ _ _ c.in_err-say-2.ensures.memory))

pub returns-in_err-say-2-clause-proceeds : goal.returns-in_err-say-2-clause-proceeds
returns-in_err-say-2-clause-proceeds g c = Proceeds-trans g.D.Disk _ _ _ g.met.D.Disk.counts_now c.say.ensures.proceeds c.say-2.ensures.proceeds

pub returns-clause-plays : goal.returns-clause-plays
returns-clause-plays g c =
    let plays : DoesDeed (say EndExchange) c.say-2.new.self c.say-2.new.machine.state c.say-3.new.self c.say-3.new.machine.state → Plays refill c.args.self.now c.args.machine.now.state c.say-3.new.self c.say-3.new.machine.state
    = λ does. record {
      client = c.say.new.self;
      between = c.say.new.machine.state;
      does = c.in_ok-say.ensures.does;
      rest = record {
        client = c.say-2.new.self;
        between = c.say-2.new.machine.state;
        does = c.in_ok-say-2.ensures.does;
        rest = record { client = c.say-3.new.self; between = c.say-3.new.machine.state; does = does; rest = (refl, refl) };
      };
    } in
    on_ok_weaker c.say-3.result plays c.say-3.ensures.does

pub returns-clause-memory : goal.returns-clause-memory
returns-clause-memory g c =
    let part : DoesInPart (say EndExchange) c.say-2.new.self c.say-2.new.machine.state c.say-3.new.machine.state → PlaysInPart refill c.args.self.now c.args.machine.now.state c.say-3.new.machine.state
    = λ begins. part-next (say StartExchange) (say Refill ∷ say EndExchange ∷ []) c.args.self.now c.args.machine.now.state c.say.new.self c.say.new.machine.state c.say-3.new.machine.state c.in_ok-say.ensures.does
    (part-next (say Refill) (say EndExchange ∷ []) c.say.new.self c.say.new.machine.state c.say-2.new.self c.say-2.new.machine.state c.say-3.new.machine.state c.in_ok-say-2.ensures.does
    (part-first (say EndExchange) [] c.say-2.new.self c.say-2.new.machine.state c.say-3.new.machine.state begins)) in
    on_err_weaker c.say-3.result part c.say-3.ensures.memory

pub returns-clause-proceeds : goal.returns-clause-proceeds
returns-clause-proceeds g c =
    Proceeds-trans g.D.Disk _ _ _ g.met.D.Disk.counts_now (Proceeds-trans g.D.Disk _ _ _ g.met.D.Disk.counts_now c.say.ensures.proceeds c.say-2.ensures.proceeds) c.say-3.ensures.proceeds
