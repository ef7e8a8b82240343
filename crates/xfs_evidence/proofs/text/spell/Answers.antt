use Rattle.std.proofs.Common.{[], ◌∙◌, refl}
use Rattle.std.specs.Prelude.{unwrap_or}
use Rattle.xfs_token.specs.Token.{Parts}
use Rattle.xfs_evidence.specs.Told.{told_pairs}
use Rattle.xfs_evidence.proofs.Spelling.{told}
use Rattle.xfs_evidence.proofs.text.spell.Goals as goal

pub returns : goal.returns
returns c =
    let amounts = unwrap_or c.args.shown.now.amounts [] in
    let pairs = c.in_ok-pairs.ensures in
    let t : Parts = record { nonce = c.args.nonce.now; pairs = told_pairs c.args.shown.now.issue amounts; mac = [] } in
    let s = c.in_ok-text.ensures t (record { nonce_is = refl; follow = pairs.follow; text = c.deref.ensures.value ∙ pairs.text }) in record {
      token = s.token;
      genuine = s.genuine;
      carried = s.carried;
      by = record { amounts = amounts; tells = told c.args.shown.now.issue amounts s.token.pairs c.requires.issue pairs.small c.requires.amounts s.pairs; amounts_are = pairs.listed };
    }
