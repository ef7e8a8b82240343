use Rattle.std.proofs.Common.{rules}
use Rattle.clap.specs.Words.{found_of, rows_of}
use Rattle.xfs_words.proofs.MadeLaws.{load_made, serve_made}
use Rattle.xfs_words.proofs.reading.command.Goals as goal

pub returns-in_ok-number-in-load : goal.returns-in_ok-number-in-load
returns-in_ok-number-in-load c =
    load_made c.args.name.now (rows_of (found_of c.args.found.now)) c.number.result c.in_ok-number-in-load.field-0 (search rules) c.number.ensures (search rules)

pub returns-in_ok-number-in-serve : goal.returns-in_ok-number-in-serve
returns-in_ok-number-in-serve c =
    serve_made c.args.name.now (rows_of (found_of c.args.found.now)) c.number-in-serve.result c.in_ok-number-in-serve.field-0 (search rules) c.number-in-serve.ensures (search rules)
