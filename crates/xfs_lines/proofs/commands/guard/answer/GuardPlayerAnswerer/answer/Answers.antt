use Rattle.std.proofs.Common.{◌∙◌, Err, ap, refl}
use Rattle.xfs_guard.proofs.KeepsLaws.{Proceeds-same}
use Rattle.xfs_lines.specs.Guard.Command.{leaves-nothing}
use Rattle.xfs_lines.specs.Guard.States.{guard_state}
use Rattle.xfs_lines.proofs.BegunLaws.{begun-line}
use Rattle.xfs_lines.proofs.CompleteLaws.{in-full}
use Rattle.xfs_lines.proofs.GuardStateLaws.{later-seen, restart-line}
use Rattle.xfs_lines.proofs.commands.guard.answer.GuardPlayerAnswerer.answer.Goals as goal

pub returns-in-Ok-answer_verb-clause-answer : goal.returns-in-Ok-answer_verb-clause-answer
returns-in-Ok-answer_verb-clause-answer g c =
    let told = c.in-Ok-answer_verb.ensures.answer in
    record {
      output = told.output;
      answer = in-full _ _ _ _ (record { verb = c.in-Ok.verb; reads = c.in-Ok.ensures.ok; short = c.requires.short; answer = told.answer });
      text = told.text;
    }

pub returns-in-Err-NotALine-clause-keeps : goal.returns-in-Err-NotALine-clause-keeps
returns-in-Err-NotALine-clause-keeps g c = Proceeds-same g.D.Disk _ g.met.D.Disk.only_now

pub returns-in-Err-Memory-clause-keeps : goal.returns-in-Err-Memory-clause-keeps
returns-in-Err-Memory-clause-keeps g c = Proceeds-same g.D.Disk _ g.met.D.Disk.only_now

pub returns-in-Err-Memory-clause-unanswered : goal.returns-in-Err-Memory-clause-unanswered
returns-in-Err-Memory-clause-unanswered g c = leaves-nothing _ _

pub returns-in-Err-Unbooted-clause-unanswered : goal.returns-in-Err-Unbooted-clause-unanswered
returns-in-Err-Unbooted-clause-unanswered g c =
    let proceeds = c.answer_verb.ensures.proceeds in
    let fails = c.answer_verb.ensures.unbooted c.in-Err-Unbooted.fault (c.in-Err-Unbooted.is ∙ ap (λ e. Err e) c.in-Err-Unbooted.field-0-is) in
    let line = restart-line g.D.Disk.faults c.args.self.now.guard c.answer_verb.new.self.guard c.args.self.now.last c.answer_verb.new.self.last _ c.args.line.now c.in-Err-Unbooted.fault c.in-Err-Unbooted.fault fails.0 c.in-Ok.ensures.ok fails.1 refl in
    record { restart = line.0; fails = line.1; continues = proceeds.continues; later = later-seen g.D.Disk _ _ _ _ proceeds }

pub returns-clause-unanswered : goal.returns-clause-unanswered
returns-clause-unanswered g c =
    let proceeds = c.answer_verb.ensures.proceeds in
    let leaves = c.answer_verb.ensures.memory (c.in-Err-Memory-answer_verb.is ∙ ap (λ e. Err e) c.in-Err-Memory-answer_verb.field-0-is) in
    let old = guard_state g.D.Disk.faults c.args.self.now.guard c.args.self.now.last in
    let new = guard_state g.D.Disk.faults c.answer_verb.new.self.guard c.answer_verb.new.self.last in
    record { begun = begun-line old new c.args.line.now c.in-Ok.verb c.in-Ok.ensures.ok c.requires.short leaves; continues = proceeds.continues; later = later-seen g.D.Disk _ _ _ _ proceeds }
