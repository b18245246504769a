use Rattle.std.proofs.Common.{◌≡◌, ℕ, ◌<◌, length}
use Rattle.std.specs.Prelude.{slice_get, Some}
use Rattle.endpoint_script.specs.Device.{place_named}
use Rattle.endpoint_script.proofs.places.index_of.Given as goal

abbrev pub invariant-loop-num : goal.invariant-loop-num
invariant-loop-num l = record {
  whole : length l.index ≡ 16;
  made : (k : ℕ) → k < l.num → slice_get l.index k ≡ Some (place_named l.endpoints k l.way);
}
