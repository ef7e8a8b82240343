use Rattle.std.proofs.Common.{◌≡◌, ℕ, length, arith, sym, subst}
use Rattle.std.proofs.lemmas.List.{nil_from_length}
use Rattle.xfs_script.proofs.Due.{Due, due_feed, due_end}
use Rattle.xfs_script.proofs.Cases.{found_kept, found_line, none_read, quota_read, fault_read, refused_read}
use Rattle.xfs_script.proofs.feed.Feed.find_line.Goals as goal

pub returns-in-Ok-Feed-clause-reads : goal.returns-in-Ok-Feed-clause-reads
returns-in-Ok-Feed-clause-reads g c =
    let x = g.S.Source.left c.args.source.now in
    let y = g.S.Source.left c.seek.new.source in
    let found = rw c.in-Ok-Feed.field-0-is at c.in-Ok-Feed.ensures.ok in
    let due = due_feed c.args.self.now c.seek.new.self c.in-Ok-Feed.place x y c.in-Ok-Feed.ensures.grown c.in-Ok-Feed.ensures.bound found.0 found.1 in
    found_line c.args.self.now c.seek.new.self x y c.in-Ok-Feed.place c.measure.result c.in-Ok-Feed.ensures.grown due
    c.measure.ensures.is c.measure.ensures.only c.measure.ensures.end

pub returns-in-Ok-Feed-clause-kept : goal.returns-in-Ok-Feed-clause-kept
returns-in-Ok-Feed-clause-kept g c =
    let x = g.S.Source.left c.args.source.now in
    let y = g.S.Source.left c.seek.new.source in
    let found = rw c.in-Ok-Feed.field-0-is at c.in-Ok-Feed.ensures.ok in
    let due = due_feed c.args.self.now c.seek.new.self c.in-Ok-Feed.place x y c.in-Ok-Feed.ensures.grown c.in-Ok-Feed.ensures.bound found.0 found.1 in
    found_kept c.args.self.now c.seek.new.self x y c.in-Ok-Feed.place c.measure.result due (omega (arith, found.1)) (omega (arith, found.1)) c.measure.ensures.end

pub returns-in-Ok-End-clause-reads : goal.returns-in-Ok-End-clause-reads
returns-in-Ok-End-clause-reads g c =
    let found = rw c.in-Ok-End.field-0-is at c.in-Ok-End.ensures.ok in
    let size : length c.seek.new.self.pending ≡ 0 = omega arith in
    none_read c.args.self.now c.seek.new.self (g.S.Source.left c.args.source.now) (g.S.Source.left c.seek.new.source) c.in-Ok-End.ensures.grown
    found.2 found.0 found.1 (nil_from_length c.seek.new.self.pending size)

pub returns-in-Ok-End-2-clause-reads : goal.returns-in-Ok-End-2-clause-reads
returns-in-Ok-End-2-clause-reads g c =
    let x = g.S.Source.left c.args.source.now in
    let y = g.S.Source.left c.seek.new.source in
    let found = rw c.in-Ok-End.field-0-is at c.in-Ok-End.ensures.ok in
    let size = c.len-in-Ok-End-2.ensures in
    let P : ℕ → Type 0 = λ n. Due c.args.self.now c.seek.new.self n x y in
    let due = subst P (sym size) (due_end c.args.self.now c.seek.new.self x y c.in-Ok-End.ensures.grown found.2 found.0 found.1 (omega arith)) in
    found_line c.args.self.now c.seek.new.self x y c.len-in-Ok-End-2.result c.measure-in-Ok-End-2.result c.in-Ok-End.ensures.grown due
    c.measure-in-Ok-End-2.ensures.is c.measure-in-Ok-End-2.ensures.only c.measure-in-Ok-End-2.ensures.end

pub returns-in-Ok-End-2-clause-kept : goal.returns-in-Ok-End-2-clause-kept
returns-in-Ok-End-2-clause-kept g c =
    let x = g.S.Source.left c.args.source.now in
    let y = g.S.Source.left c.seek.new.source in
    let found = rw c.in-Ok-End.field-0-is at c.in-Ok-End.ensures.ok in
    let size = c.len-in-Ok-End-2.ensures in
    let P : ℕ → Type 0 = λ n. Due c.args.self.now c.seek.new.self n x y in
    let due = subst P (sym size) (due_end c.args.self.now c.seek.new.self x y c.in-Ok-End.ensures.grown found.2 found.0 found.1 (omega arith)) in
    found_kept c.args.self.now c.seek.new.self x y c.len-in-Ok-End-2.result c.measure-in-Ok-End-2.result due (omega (arith, size)) (omega arith) c.measure-in-Ok-End-2.ensures.end

pub returns-in-Ok-Quota-clause-reads : goal.returns-in-Ok-Quota-clause-reads
returns-in-Ok-Quota-clause-reads g c =
    let found = rw c.in-Ok-Quota.field-0-is at c.in-Ok-Quota.ensures.ok in
    quota_read c.args.self.now c.seek.new.self (g.S.Source.left c.args.source.now) (g.S.Source.left c.seek.new.source) c.in-Ok-Quota.ensures.grown found.0 found.1

pub returns-in-Ok-Long-clause-reads : goal.returns-in-Ok-Long-clause-reads
returns-in-Ok-Long-clause-reads g c =
    let left = g.S.Source.left in
    let found = rw c.in-Ok-Long.field-0-is at c.in-Ok-Long.ensures.ok in
    refused_read c.args.self.now c.seek.new.self c.refuse_line.new.self (left c.args.source.now) (left c.seek.new.source) (left c.refuse_line.new.source) c.in-Ok-Long.ensures.grown
    c.refuse_line.ensures.drops c.in-Ok-Long.ensures.bound c.refuse_line.ensures.bound found.1 c.refuse_line.result c.refuse_line.ensures.is

pub returns-in-Err-clause-reads : goal.returns-in-Err-clause-reads
returns-in-Err-clause-reads g c =
    fault_read c.args.self.now c.seek.new.self (g.S.Source.left c.args.source.now) (g.S.Source.left c.seek.new.source) c.in-Err.ensures.grown c.in-Err.ensures.err
