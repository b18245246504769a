-- Plans for worked rows: a camera and keyboards below hub 9.
use Rattle.std.specs.Prelude.{List, [], ◌∷◌}
use Rattle.hub_keys.specs.declared.key.Key.{Key}
use Rattle.bandwidth.specs.declared.placements.Placed.{Placed}
use Rattle.bandwidth.specs.declared.placements.Want.{Want}
use Rattle.bandwidth.specs.Worked.{keyboard, camera, placed}

-- each endpoint has the number of its want, on one device
abbrev pub key_in : Want → Key
key_in w = record { addr = 1; ep = w.id; dir = w.dir; kind = w.kind }

abbrev pub sample_key : Placed → Key
sample_key y = key_in y.want

-- 188 byte-times from microframe 1 on
abbrev pub camera_in_1 : Placed
camera_in_1 = record { want = camera 179; placement = placed 8 0 2 24 }

-- 77 byte-times in microframe 0 or 1
abbrev pub keyboard_in_0 : Placed
keyboard_in_0 = record { want = keyboard; placement = placed 8 0 1 28 }

abbrev pub keyboard_in_1 : Placed
keyboard_in_1 = record { want = keyboard; placement = placed 8 0 2 56 }

-- it fits, and .. so it doesn't
abbrev pub a_plan : List Placed
a_plan = camera_in_1 ∷ keyboard_in_0 ∷ []

abbrev pub too_much : List Placed
too_much = camera_in_1 ∷ keyboard_in_1 ∷ []
