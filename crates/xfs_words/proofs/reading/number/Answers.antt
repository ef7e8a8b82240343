use Rattle.std.proofs.Common.{◌∙◌, codes}
use Rattle.std.specs.Str.Parse.{ExplainsUnsignedError, HasUnsignedDigitsIfOk, ParsesUnsigned}
use Rattle.clap.specs.Words.{found_of}
use Rattle.clap.proofs.WalkLemmas.{one_text-rows}
use Rattle.xfs_words.proofs.NumberLaws.{number_read}
use Rattle.xfs_words.proofs.reading.number.Goals as goal

pub returns : goal.returns
returns c = λ most n fits has.
    let text = one_text-rows (found_of c.args.found.now) (codes "number") ∙ has.found in
    let read = c.get_one.ensures.value has.text text in
    let is = number_read _ (λ bs r. ParsesUnsigned 64 10 bs r × ExplainsUnsignedError 10 bs r × HasUnsignedDigitsIfOk bs r)
    most has.text n c.get_one.result read (λ u x g. g.0) fits has.number in
    rw is at c.ok_or.ensures.value
