-- How a file tells a key or a seed.
use Rattle.std.specs.Prelude.{ℕ, List, ◌==◌, ◌&&◌, if◌then◌else◌, length, slice_index, take}
use Rattle.std.specs.declared.option.Option.{Option}
use Rattle.std.specs.Result.{result_ok}
use Rattle.hex.specs.Hex.{decode_sized}

-- of 65 bytes with a line feed as the last, the first 64; else the whole text
abbrev pub digits_of : List ℕ → List ℕ
digits_of text = if length text == 65 && slice_index text 64 == 10 then take 64 text else text

-- the 32 bytes that two hexadecimal digits each write, of either case
abbrev pub secret_in : List ℕ → Option (List ℕ)
secret_in text = result_ok (decode_sized (digits_of text) 32)
