use Rattle.std.proofs.Common.{Err, ap, inr, ◌∙◌, arith}
use Rattle.xfs_guard.proofs.KeepsLaws.{Proceeds-trans}
use Rattle.xfs_cli.specs.Replay.Command.{leaves-none, progress-same}
use Rattle.xfs_cli.specs.Replay.States.{played}
use Rattle.xfs_load.proofs.RestLaws.{part-none}
use Rattle.xfs_cli.proofs.LaterLaws.{done-later, mailed-later, part-later}
use Rattle.xfs_cli.proofs.VerbLaws.{at-moment, line-told, restart-text, verb-done}
use Rattle.xfs_cli.proofs.commands.replay.answer.PlayerAnswerer.answer.Goals as goal
use Rattle.xfs_load.proofs.PlayLaws.{proceeds-kept}

pub answer_verb-requires : goal.answer_verb-requires
answer_verb-requires g c = λ m is. at-moment c.args.line.now c.in-Ok.verb c.in-Ok.ensures.ok m is

pub returns-in-Ok-mail-clause-answer : goal.returns-in-Ok-mail-clause-answer
returns-in-Ok-mail-clause-answer g c =
    line-told (played c.args.self.now) (played c.mail.new.self) (played c.answer_verb.new.self) c.args.line.now c.in-Ok.verb _ _ c.in-Ok.ensures.ok c.requires.short c.in-Ok-answer_verb.ensures.answer c.in-Ok-mail.ensures.ok c.mail.ensures.same

pub returns-in-Ok-mail-clause-keeps : goal.returns-in-Ok-mail-clause-keeps
returns-in-Ok-mail-clause-keeps g c =
    let told = c.in-Ok-answer_verb.ensures.answer in
    let low = done-later (played c.args.self.now) (played c.answer_verb.new.self) c.in-Ok.verb (verb-done (played c.args.self.now) (played c.answer_verb.new.self) c.in-Ok.verb told.output told.answer) in
    let high = mailed-later _ _ _ _ _ c.in-Ok-mail.ensures.ok in
    record {
      proceeds = Proceeds-trans g.D.Disk _ _ _ g.met.D.Disk.counts_now c.answer_verb.ensures.proceeds (proceeds-kept g.D.Disk _ _ g.met.D.Disk.only_now c.mail.ensures.guard);
      later = omega (arith, low, high);
    }

pub returns-in-Err-NotALine-clause-keeps : goal.returns-in-Err-NotALine-clause-keeps
returns-in-Err-NotALine-clause-keeps g c = progress-same g.D.Disk _ g.met.D.Disk.only_now

pub returns-in-Err-Memory-clause-keeps : goal.returns-in-Err-Memory-clause-keeps
returns-in-Err-Memory-clause-keeps g c = progress-same g.D.Disk _ g.met.D.Disk.only_now

pub returns-in-Err-Memory-clause-unanswered : goal.returns-in-Err-Memory-clause-unanswered
returns-in-Err-Memory-clause-unanswered g c = leaves-none _ _

pub returns-in-Err-Unbooted-clause-keeps : goal.returns-in-Err-Unbooted-clause-keeps
returns-in-Err-Unbooted-clause-keeps g c =
    record { proceeds = c.answer_verb.ensures.proceeds; later = (c.answer_verb.ensures.unbooted c.in-Err-Unbooted.fault (c.in-Err-Unbooted.is ∙ ap (λ e. Err e) c.in-Err-Unbooted.field-0-is)).still.later }

pub returns-in-Err-Unbooted-clause-unanswered : goal.returns-in-Err-Unbooted-clause-unanswered
returns-in-Err-Unbooted-clause-unanswered g c =
    let proceeds = c.answer_verb.ensures.proceeds in
    let is = c.in-Err-Unbooted.is ∙ ap (λ e. Err e) c.in-Err-Unbooted.field-0-is in
    let fails = c.answer_verb.ensures.unbooted c.in-Err-Unbooted.fault is in
    record {
      restart = restart-text c.args.line.now c.in-Ok.verb c.in-Ok.ensures.ok (c.answer_verb.ensures.restart c.in-Err-Unbooted.fault is);
      fails = fails;
      continues = proceeds.continues;
      later = record { mech = proceeds.mech_faults; disk = fails.still.later };
    }

pub returns-in-Err-Memory-answer_verb-clause-keeps : goal.returns-in-Err-Memory-answer_verb-clause-keeps
returns-in-Err-Memory-answer_verb-clause-keeps g c = record {
  proceeds = c.answer_verb.ensures.proceeds;
  later = done-later (played c.args.self.now) (played c.answer_verb.new.self) c.in-Ok.verb (c.answer_verb.ensures.memory (c.in-Err-Memory-answer_verb.is ∙ ap (λ e. Err e) c.in-Err-Memory-answer_verb.field-0-is));
}

pub returns-in-Err-Memory-answer_verb-clause-unanswered : goal.returns-in-Err-Memory-answer_verb-clause-unanswered
returns-in-Err-Memory-answer_verb-clause-unanswered g c =
    let proceeds = c.answer_verb.ensures.proceeds in
    let part = c.answer_verb.ensures.memory (c.in-Err-Memory-answer_verb.is ∙ ap (λ e. Err e) c.in-Err-Memory-answer_verb.field-0-is) in
    record {
      begun = inr (record {
        verb = c.in-Ok.verb;
        reads = c.in-Ok.ensures.ok;
        short = c.requires.short;
        between = played c.answer_verb.new.self;
        done = part;
        mailed = part-none _ _;
      });
      continues = proceeds.continues;
      later = record { mech = proceeds.mech_faults; disk = done-later (played c.args.self.now) (played c.answer_verb.new.self) c.in-Ok.verb part };
    }

pub returns-in-Err-clause-keeps : goal.returns-in-Err-clause-keeps
returns-in-Err-clause-keeps g c =
    let told = c.in-Ok-answer_verb.ensures.answer in
    let low = done-later (played c.args.self.now) (played c.answer_verb.new.self) c.in-Ok.verb (verb-done (played c.args.self.now) (played c.answer_verb.new.self) c.in-Ok.verb told.output told.answer) in
    let high = part-later _ _ _ c.in-Err.ensures.memory in
    record {
      proceeds = Proceeds-trans g.D.Disk _ _ _ g.met.D.Disk.counts_now c.answer_verb.ensures.proceeds (proceeds-kept g.D.Disk _ _ g.met.D.Disk.only_now c.mail.ensures.guard);
      later = omega (arith, low, high);
    }

pub returns-in-Err-clause-unanswered : goal.returns-in-Err-clause-unanswered
returns-in-Err-clause-unanswered g c =
    let proceeds = Proceeds-trans g.D.Disk _ _ _ g.met.D.Disk.counts_now c.answer_verb.ensures.proceeds (proceeds-kept g.D.Disk _ _ g.met.D.Disk.only_now c.mail.ensures.guard) in
    let told = c.in-Ok-answer_verb.ensures.answer in
    let done = verb-done (played c.args.self.now) (played c.answer_verb.new.self) c.in-Ok.verb told.output told.answer in
    let low = done-later (played c.args.self.now) (played c.answer_verb.new.self) c.in-Ok.verb done in
    let high = part-later _ _ _ c.in-Err.ensures.memory in
    record {
      begun = inr (record {
        verb = c.in-Ok.verb;
        reads = c.in-Ok.ensures.ok;
        short = c.requires.short;
        between = played c.answer_verb.new.self;
        done = done;
        mailed = c.in-Err.ensures.memory;
      });
      continues = proceeds.continues;
      later = record { mech = proceeds.mech_faults; disk = omega (arith, low, high) };
    }
