use Rattle.std.proofs.Common.{◌≡◌, ◌<◌, ◌^◌, take, drop}
use Rattle.std.specs.Str.{all_ascii_digits}
use Rattle.be_value.specs.Number.{decimal_value}
use Rattle.be_value.proofs.numbers.word_of.Given as goal

abbrev pub invariant-loop-c : goal.invariant-loop-c
invariant-loop-c l = record {
  value : l.value ≡ decimal_value (take l.c-index l.text);
  fits : l.value < 2 ^ 64;
  digits : all_ascii_digits l.text ≡ all_ascii_digits (drop l.c-index l.text);
}
