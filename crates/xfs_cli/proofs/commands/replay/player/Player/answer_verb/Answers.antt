use Rattle.std.proofs.Common.{refl}
use Rattle.xfs_guard.proofs.KeepsLaws.{Proceeds-same}
use Rattle.xfs_cli.specs.Replay.States.{played}
use Rattle.xfs_cli.proofs.VerbLaws.{touch-tells, verb-part, verb-tells}
use Rattle.xfs_cli.proofs.commands.replay.player.Player.answer_verb.Goals as goal

pub returns-in_ok-join-in-Join-clause-answer : goal.returns-in_ok-join-in-Join-clause-answer
returns-in_ok-join-in-Join-clause-answer g c = verb-tells _ _ _ _ _ c.in-Join.is c.in_ok-join-in-Join.ensures.answer

pub returns-in_err-join-in-Join-clause-memory : goal.returns-in_err-join-in-Join-clause-memory
returns-in_err-join-in-Join-clause-memory g c = λ is. verb-part (played c.args.self.now) (played c.join.new.self) _ _ c.in-Join.is c.in_err-join-in-Join.ensures.memory

pub returns-in_ok-leave-in-Leave-clause-answer : goal.returns-in_ok-leave-in-Leave-clause-answer
returns-in_ok-leave-in-Leave-clause-answer g c = verb-tells _ _ _ _ _ c.in-Leave.is c.in_ok-leave-in-Leave.ensures.answer

pub returns-in_err-leave-in-Leave-clause-memory : goal.returns-in_err-leave-in-Leave-clause-memory
returns-in_err-leave-in-Leave-clause-memory g c = λ is. verb-part (played c.args.self.now) (played c.leave.new.self) _ _ c.in-Leave.is c.in_err-leave-in-Leave.ensures.memory

pub returns-in_ok-work-in-Work-clause-answer : goal.returns-in_ok-work-in-Work-clause-answer
returns-in_ok-work-in-Work-clause-answer g c = verb-tells _ _ _ _ _ c.in-Work.is c.in_ok-work-in-Work.ensures.answer

pub returns-in_err-work-in-Work-clause-memory : goal.returns-in_err-work-in-Work-clause-memory
returns-in_err-work-in-Work-clause-memory g c = λ is. verb-part (played c.args.self.now) (played c.work.new.self) _ _ c.in-Work.is c.in_err-work-in-Work.ensures.memory

pub returns-in_ok-rest-in-Rest-clause-answer : goal.returns-in_ok-rest-in-Rest-clause-answer
returns-in_ok-rest-in-Rest-clause-answer g c = verb-tells _ _ _ _ _ c.in-Rest.is c.in_ok-rest-in-Rest.ensures.answer

pub returns-in_err-rest-in-Rest-clause-memory : goal.returns-in_err-rest-in-Rest-clause-memory
returns-in_err-rest-in-Rest-clause-memory g c = λ is. verb-part (played c.args.self.now) (played c.rest.new.self) _ _ c.in-Rest.is c.in_err-rest-in-Rest.ensures.memory

pub returns-in_ok-touch-in-CardIn-clause-answer : goal.returns-in_ok-touch-in-CardIn-clause-answer
returns-in_ok-touch-in-CardIn-clause-answer g c = verb-tells _ _ _ _ _ c.in-CardIn.is (touch-tells _ _ _ _ _ (λ answer. refl) (λ answer. refl) c.in_ok-touch-in-CardIn.ensures.answer)

pub returns-in_err-touch-in-CardIn-clause-memory : goal.returns-in_err-touch-in-CardIn-clause-memory
returns-in_err-touch-in-CardIn-clause-memory g c = λ is. verb-part (played c.args.self.now) (played c.touch.new.self) _ _ c.in-CardIn.is c.in_err-touch-in-CardIn.ensures.memory

pub returns-in_ok-touch-in-CardTaken-clause-answer : goal.returns-in_ok-touch-in-CardTaken-clause-answer
returns-in_ok-touch-in-CardTaken-clause-answer g c = verb-tells _ _ _ _ _ c.in-CardTaken.is (touch-tells _ _ _ _ _ (λ answer. refl) (λ answer. refl) c.in_ok-touch-in-CardTaken.ensures.answer)

pub returns-in_err-touch-in-CardTaken-clause-memory : goal.returns-in_err-touch-in-CardTaken-clause-memory
returns-in_err-touch-in-CardTaken-clause-memory g c = λ is. verb-part (played c.args.self.now) (played c.touch-in-CardTaken.new.self) _ _ c.in-CardTaken.is c.in_err-touch-in-CardTaken.ensures.memory

pub returns-in_ok-touch-in-CardFault-clause-answer : goal.returns-in_ok-touch-in-CardFault-clause-answer
returns-in_ok-touch-in-CardFault-clause-answer g c = verb-tells _ _ _ _ _ c.in-CardFault.is (touch-tells _ _ _ _ _ (λ answer. refl) (λ answer. refl) c.in_ok-touch-in-CardFault.ensures.answer)

pub returns-in_err-touch-in-CardFault-clause-memory : goal.returns-in_err-touch-in-CardFault-clause-memory
returns-in_err-touch-in-CardFault-clause-memory g c = λ is. verb-part (played c.args.self.now) (played c.touch-in-CardFault.new.self) _ _ c.in-CardFault.is c.in_err-touch-in-CardFault.ensures.memory

pub returns-in_ok-touch-in-Key-clause-answer : goal.returns-in_ok-touch-in-Key-clause-answer
returns-in_ok-touch-in-Key-clause-answer g c = verb-tells _ _ _ _ _ c.in-Key.is (touch-tells _ _ _ _ _ (λ answer. refl) (λ answer. refl) c.in_ok-touch-in-Key.ensures.answer)

pub returns-in_err-touch-in-Key-clause-memory : goal.returns-in_err-touch-in-Key-clause-memory
returns-in_err-touch-in-Key-clause-memory g c = λ is. verb-part (played c.args.self.now) (played c.touch-in-Key.new.self) _ _ c.in-Key.is c.in_err-touch-in-Key.ensures.memory

pub returns-in_ok-touch-in-KeyFault-clause-answer : goal.returns-in_ok-touch-in-KeyFault-clause-answer
returns-in_ok-touch-in-KeyFault-clause-answer g c = verb-tells _ _ _ _ _ c.in-KeyFault.is (touch-tells _ _ _ _ _ (λ answer. refl) (λ answer. refl) c.in_ok-touch-in-KeyFault.ensures.answer)

pub returns-in_err-touch-in-KeyFault-clause-memory : goal.returns-in_err-touch-in-KeyFault-clause-memory
returns-in_err-touch-in-KeyFault-clause-memory g c = λ is. verb-part (played c.args.self.now) (played c.touch-in-KeyFault.new.self) _ _ c.in-KeyFault.is c.in_err-touch-in-KeyFault.ensures.memory

pub returns-in_ok-touch-in-Take-clause-answer : goal.returns-in_ok-touch-in-Take-clause-answer
returns-in_ok-touch-in-Take-clause-answer g c = verb-tells _ _ _ _ _ c.in-Take.is (touch-tells _ _ _ _ _ (λ answer. refl) (λ answer. refl) c.in_ok-touch-in-Take.ensures.answer)

pub returns-in_err-touch-in-Take-clause-memory : goal.returns-in_err-touch-in-Take-clause-memory
returns-in_err-touch-in-Take-clause-memory g c = λ is. verb-part (played c.args.self.now) (played c.touch-in-Take.new.self) _ _ c.in-Take.is c.in_err-touch-in-Take.ensures.memory

pub returns-in_err-mint-in-Mint-clause-proceeds : goal.returns-in_err-mint-in-Mint-clause-proceeds
returns-in_err-mint-in-Mint-clause-proceeds g c = rw c.mint.ensures.same (Proceeds-same g.D.Disk _ g.met.D.Disk.only_now)

pub returns-in_ok-mint-in-Mint-clause-proceeds : goal.returns-in_ok-mint-in-Mint-clause-proceeds
returns-in_ok-mint-in-Mint-clause-proceeds g c = rw c.mint.ensures.same (Proceeds-same g.D.Disk _ g.met.D.Disk.only_now)

pub returns-in_err-show-in-Show-clause-proceeds : goal.returns-in_err-show-in-Show-clause-proceeds
returns-in_err-show-in-Show-clause-proceeds g c = rw c.show.ensures.same (Proceeds-same g.D.Disk _ g.met.D.Disk.only_now)

pub returns-in_ok-show-in-Show-clause-proceeds : goal.returns-in_ok-show-in-Show-clause-proceeds
returns-in_ok-show-in-Show-clause-proceeds g c = rw c.show.ensures.same (Proceeds-same g.D.Disk _ g.met.D.Disk.only_now)

pub returns-in-Skip-clause-proceeds : goal.returns-in-Skip-clause-proceeds
returns-in-Skip-clause-proceeds g c = Proceeds-same g.D.Disk _ g.met.D.Disk.only_now

pub returns-in-At-clause-proceeds : goal.returns-in-At-clause-proceeds
returns-in-At-clause-proceeds g c = Proceeds-same g.D.Disk _ g.met.D.Disk.only_now
