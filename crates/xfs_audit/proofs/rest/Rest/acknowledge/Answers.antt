use Rattle.std.proofs.Common.{refl}
use Rattle.std.proofs.lemmas.Result.{on_ok_weaker}
use Rattle.xfs_audit.proofs.Resting.{posted-more, posted-none}
use Rattle.xfs_audit.proofs.rest.Rest.acknowledge.Goals as goal

pub returns-in_default : goal.returns-in_default
returns-in_default c = λ id name. posted-none c.args.ids.now c.args.texts.now id name c.args.status c.args.self.now record { left = c.args.self.now.left; ways = c.clear.new.self } c.in_default.ensures refl c.clear.ensures.items

pub returns : goal.returns
returns c = on_ok_weaker c.answer.result (λ answers id name. posted-more c.args.ids.now c.args.texts.now id name c.args.status c.in-Some.text c.args.self.now c.answer.new.self c.in-Some.ensures c.answer.ensures.left answers) c.answer.ensures.ways
