use Rattle.std.proofs.Common.{◌≡◌, ap, subst, sym}
use Rattle.std.proofs.lemmas.Result.{on_ok_weaker}
use Rattle.xfs_conversation.specs.Pending.{Pending}
use Rattle.xfs_audit.specs.Ways.{CanStay}
use Rattle.xfs_audit.proofs.Adding.{AddsStaying, staying-one, staying-none, adds-accepted}
use Rattle.xfs_audit.proofs.way.Way.before_accepted.Goals as goal
use Rattle.xfs_audit.proofs.way.Way.before_accepted.Goals.{then-can_stay+in_ok-with_one_less+in_ok-add, else-can_stay}

pub returns : goal.returns
returns c = on_ok_weaker c.add_without.result (λ without. adds-accepted c.args.ids.now c.args.asked.now c.args.self c.args.ways.now.items c.if-can_stay.ways.items c.add_without.new.ways.items staying without) c.add_without.ensures
  where
    its : c.asked.inside.id ≡ c.args.asked.now.id
    its = ap (λ (p : Pending). p.id) c.asked.view_is

    staying : AddsStaying c.args.ids.now c.args.asked.now c.args.self c.args.ways.now.items c.if-can_stay.ways.items
    staying = elim c.if-can_stay.branch [
      | then-can_stay+in_ok-with_one_less+in_ok-add w ↦
          rw w.ways-is (staying-one c.args.ids.now c.args.asked.now c.args.self w.in_ok-with_one_less.field-0 c.args.ways.now.items w.add.new.ways.items (subst (λ n. CanStay c.args.ids.now c.args.self.stays n) its (c.can_stay.ensures.0 w.if-can_stay.true)) w.in_ok-with_one_less.ensures.stays w.in_ok-with_one_less.ensures.due w.in_ok-add.ensures)
      | else-can_stay w ↦
          rw w.ways-is (staying-none c.args.ids.now c.args.asked.now c.args.self c.args.ways.now.items (λ can. let yes = c.can_stay.ensures.1 (subst (λ n. CanStay c.args.ids.now c.args.self.stays n) (sym its) can) in let no = w.if-can_stay.false in cc))
    ]
