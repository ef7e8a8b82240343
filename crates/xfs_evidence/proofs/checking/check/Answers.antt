use Rattle.std.proofs.Common.{◌≡◌, refl, rules}
use Rattle.xfs_evidence.specs.Evidence.{unless_none}
use Rattle.xfs_evidence.proofs.checking.check.Goals as goal

pub returns-clause-refused : goal.returns-clause-refused
returns-clause-refused c =
    let carried : c.in-Ok.token.nonce ≡ c.args.nonce.now = search rules in record {
      token = c.in-Ok.token;
      genuine = c.genuine.ensures.0 c.if-not-genuine.false;
      carried = carried;
      other = λ issue amounts tells. c.in-None.ensures.none (record { issue = issue; amounts = unless_none amounts }) (record { amounts = amounts; tells = tells; amounts_are = refl });
    }
