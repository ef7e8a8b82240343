use Rattle.std.proofs.Common.{refl}
use Rattle.xfs_guard.proofs.KeepsLaws.{Proceeds-trans}
use Rattle.xfs_load.proofs.RestLaws.{on-err}
use Rattle.xfs_load.proofs.PlayLaws.{part-first, part-next}
use Rattle.xfs_load.proofs.client.Client.withdraw.Goals as goal

pub returns-in_err-say-clause-memory : goal.returns-in_err-say-clause-memory
returns-in_err-say-clause-memory g c = on-err _ _ (part-first _ _ _ _ _ c.in_err-say.ensures.memory)

pub returns-in_err-say-2-clause-memory : goal.returns-in_err-say-2-clause-memory
returns-in_err-say-2-clause-memory g c = on-err _ _ (part-next _ _ _ _ _ _ _ c.in_ok-say.ensures.does (part-first _ _ _ _ _ c.in_err-say-2.ensures.memory))

pub returns-in_err-say-3-clause-memory : goal.returns-in_err-say-3-clause-memory
returns-in_err-say-3-clause-memory g c =
    on-err _ _ (part-next _ _ _ _ _ _ _ c.in_ok-say.ensures.does (part-next _ _ _ _ _ _ _ c.in_ok-say-2.ensures.does (part-first _ _ _ _ _ c.in_err-say-3.ensures.memory)))

pub returns-in_err-take-clause-memory : goal.returns-in_err-take-clause-memory
returns-in_err-take-clause-memory g c =
    on-err _ _ (part-next _ _ _ _ _ _ _ c.in_ok-say.ensures.does (part-next _ _ _ _ _ _ _ c.in_ok-say-2.ensures.does (part-next _ _ _ _ _ _ _ c.in_ok-say-3.ensures.does (part-first _ _ _ _ _ c.in_err-take.ensures.memory))))

pub returns-clause-plays : goal.returns-clause-plays
returns-clause-plays g c = record {
  client = c.say.new.self;
  between = c.say.new.machine.state;
  does = c.in_ok-say.ensures.does;
  rest = record {
    client = c.say-2.new.self;
    between = c.say-2.new.machine.state;
    does = c.in_ok-say-2.ensures.does;
    rest = record {
      client = c.say-3.new.self;
      between = c.say-3.new.machine.state;
      does = c.in_ok-say-3.ensures.does;
      rest = record {
        client = c.take.new.self;
        between = c.take.new.machine.state;
        does = c.in_ok-take.ensures.does;
        rest = record { client = c.count.new.self; between = c.take.new.machine.state; does = (c.count.ensures, refl); rest = (refl, refl) };
      };
    };
  };
}

pub returns-in_err-say-2-clause-proceeds : goal.returns-in_err-say-2-clause-proceeds
returns-in_err-say-2-clause-proceeds g c = Proceeds-trans g.D.Disk _ _ _ g.met.D.Disk.counts_now c.say.ensures.proceeds c.say-2.ensures.proceeds

pub returns-in_err-say-3-clause-proceeds : goal.returns-in_err-say-3-clause-proceeds
returns-in_err-say-3-clause-proceeds g c =
    Proceeds-trans g.D.Disk _ _ _ g.met.D.Disk.counts_now (Proceeds-trans g.D.Disk _ _ _ g.met.D.Disk.counts_now c.say.ensures.proceeds c.say-2.ensures.proceeds) c.say-3.ensures.proceeds

pub returns-in_err-take-clause-proceeds : goal.returns-in_err-take-clause-proceeds
returns-in_err-take-clause-proceeds g c =
    let said = Proceeds-trans g.D.Disk _ _ _ g.met.D.Disk.counts_now (Proceeds-trans g.D.Disk _ _ _ g.met.D.Disk.counts_now c.say.ensures.proceeds c.say-2.ensures.proceeds) c.say-3.ensures.proceeds in
    Proceeds-trans g.D.Disk _ _ _ g.met.D.Disk.counts_now said c.take.ensures.proceeds

pub returns-clause-proceeds : goal.returns-clause-proceeds
returns-clause-proceeds g c =
    let said = Proceeds-trans g.D.Disk _ _ _ g.met.D.Disk.counts_now (Proceeds-trans g.D.Disk _ _ _ g.met.D.Disk.counts_now c.say.ensures.proceeds c.say-2.ensures.proceeds) c.say-3.ensures.proceeds in
    Proceeds-trans g.D.Disk _ _ _ g.met.D.Disk.counts_now said c.take.ensures.proceeds
