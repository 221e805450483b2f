use Rattle.std.proofs.Common.{◌≡◌, ◌^◌, false, nat_lt, vec_len}
use Rattle.std.specs.List.{list_any}
use Rattle.be_script_runner.proofs.files.read_files.Given as goal

abbrev pub invariant-loop-place : goal.invariant-loop-place
invariant-loop-place g l = record {
  count : vec_len l.scripts ≡ l.place;
  short : list_any (λ s. nat_lt (2 ^ 20) (vec_len s)) l.scripts.items ≡ false;
}
