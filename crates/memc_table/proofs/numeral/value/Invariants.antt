use Rattle.std.proofs.Common.{◌≡◌, ◌<◌, ◌^◌, drop}
use Rattle.memc_table.specs.Numeral.{numeral_value}
use Rattle.memc_table.proofs.Numerals.{value_after}
use Rattle.memc_table.proofs.numeral.value.Given as goal

abbrev pub invariant-digits : goal.invariant-digits
invariant-digits l = record {
  reads : value_after l.value (drop l.digit-index l.digits) ≡ numeral_value l.digits;
  fits : l.value < 2 ^ 64;
}
