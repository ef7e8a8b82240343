use Rattle.std.proofs.Common.{◌++◌, ◌∷◌, []}
use Rattle.xfs_script.proofs.LastLaws.{err-more, on-err, prefix-before, prefix-behind}
use Rattle.std.proofs.KnownBytes.{Appends-trans}
use Rattle.xfs_script.proofs.last_line.write_parts.Goals as goal

pub returns-in_err-write_all-clause-err : goal.returns-in_err-write_all-clause-err
returns-in_err-write_all-clause-err g c =
    let first = c.args.first.now in
    let second = c.args.second.now in
    let third = c.args.third.now in
    on-err _ _ (prefix-before _ _ (first ++ second ++ third) (10 ∷ []) (prefix-before _ _ (first ++ second) third (prefix-before _ _ first second c.in_err-write_all.ensures.err)))

pub returns-in_err-write_all-2-clause-err : goal.returns-in_err-write_all-2-clause-err
returns-in_err-write_all-2-clause-err g c =
    let first = c.args.first.now in
    let second = c.args.second.now in
    let third = c.args.third.now in
    let both = prefix-behind _ _ _ first second c.in_ok-write_all.ensures.ok c.in_err-write_all-2.ensures.err in
    on-err _ _ (prefix-before _ _ (first ++ second ++ third) (10 ∷ []) (prefix-before _ _ (first ++ second) third both))

pub returns-in_err-write_all-3-clause-err : goal.returns-in_err-write_all-3-clause-err
returns-in_err-write_all-3-clause-err g c =
    let first = c.args.first.now in
    let second = c.args.second.now in
    let third = c.args.third.now in
    let both = Appends-trans _ _ _ first second c.in_ok-write_all.ensures.ok c.in_ok-write_all-2.ensures.ok in
    on-err _ _ (prefix-before _ _ (first ++ second ++ third) (10 ∷ []) (prefix-behind _ _ _ (first ++ second) third both c.in_err-write_all-3.ensures.err))

pub returns-clause-err : goal.returns-clause-err
returns-clause-err g c =
    let first = c.args.first.now in
    let second = c.args.second.now in
    let third = c.args.third.now in
    let both = Appends-trans _ _ _ first second c.in_ok-write_all.ensures.ok c.in_ok-write_all-2.ensures.ok in
    let all = Appends-trans _ _ _ (first ++ second) third both c.in_ok-write_all-3.ensures.ok in
    err-more _ (λ prefix. prefix-behind _ _ _ (first ++ second ++ third) (10 ∷ []) all prefix) c.write_all-4.ensures.err
