-- The keys of what is placed below one translator (USB 2.0, 11.14 and 11.18.4).
--     AreKeysApart key P           no two have one key
use Rattle.std.specs.Prelude.{◌≡◌, false, List, [], ◌∷◌}
use Rattle.std.specs.List.{AllByRecursion}
use Rattle.hub_keys.specs.Keys.{is_same_key}
use Rattle.hub_keys.specs.declared.key.Key.{Key}
use Rattle.bandwidth.specs.declared.placements.Placed.{Placed}

abbrev pub AreKeysApart : (Placed → Key) → List Placed → Type 0
AreKeysApart key [] = Unit {0}
AreKeysApart key (y ∷ ys) = AllByRecursion (λ z. is_same_key (key y) (key z) ≡ false) ys × AreKeysApart key ys
