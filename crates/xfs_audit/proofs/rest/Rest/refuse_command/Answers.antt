use Rattle.std.proofs.Common.{refl, inl, inr}
use Rattle.xfs_audit.proofs.Stepping.{command-refused}
use Rattle.xfs_audit.proofs.rest.Rest.refuse_command.Goals as goal

pub returns-in-InvalidRequestId : goal.returns-in-InvalidRequestId
returns-in-InvalidRequestId c = record {
  left = refl;
  ways = λ ids command. command-refused ids command c.args.status c.args.self.now.ways.items (elim c.in-InvalidRequestId.is [ inl e ↦ rw e refl | inr e ↦ rw e refl ]);
}
