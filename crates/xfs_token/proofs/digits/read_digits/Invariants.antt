use Rattle.std.proofs.Common.{◌≡◌, ◌^◌, ◌<◌, take, true}
use Rattle.std.specs.List.{list_all}
use Rattle.xfs_token.specs.Token.{is_digit}
use Rattle.xfs_token.specs.Amounts.{number_of}
use Rattle.xfs_token.proofs.digits.read_digits.Given as goal

abbrev pub invariant-loop-digit : goal.invariant-loop-digit
invariant-loop-digit l = record {
  value : l.number ≡ number_of (take l.digit-index l.digits);
  digits : list_all is_digit (take l.digit-index l.digits) ≡ true;
  bound : l.number < 10 ^ l.digit-index;
}
