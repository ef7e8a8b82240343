use Rattle.std.proofs.Common.{◌≡◌, length, codes, Err, ap, rules}
use Rattle.serde_json.specs.View.{view}
use Rattle.xfs_json.specs.Members.{member_of}
use Rattle.xfs_dispenser.proofs.StorageLaws.{adds-these, adds-other, adds-none}
use Rattle.xfs_dispenser.proofs.named.read_storage.Goals as goal

pub returns-in-Ok : goal.returns-in-Ok
returns-in-Ok c =
    let long : length c.in-Ok.added.0 ≡ 8 = search rules in
    adds-these (member_of (codes "storage") (view c.args.payload.now)) c.in-Ok.added long c.in-Ok.ensures.shaped c.in-Ok.ensures.named c.in-Ok.ensures.counts

pub returns-in-Err-Unit : goal.returns-in-Err-Unit
returns-in-Err-Unit c = adds-other (member_of (codes "storage") (view c.args.payload.now)) (c.in-Err-Unit.ensures.unit (ap Err c.in-Err-Unit.field-0-is)).0 (c.in-Err-Unit.ensures.unit (ap Err c.in-Err-Unit.field-0-is)).1

pub returns-in-Err-Shape : goal.returns-in-Err-Shape
returns-in-Err-Shape c = adds-none (member_of (codes "storage") (view c.args.payload.now)) (c.in-Err-Shape.ensures.shape (ap Err c.in-Err-Shape.field-0-is))
