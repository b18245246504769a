-- Lemmas that several files need.
use Rattle.std.proofs.Common.{ℕ, List, map, ◌≡◌, refl, ◌∷◌, []}
use Rattle.std.specs.List.{position_or_len}
use Rattle.std.proofs.lemmas.List.{length-map}
use Rattle.usb_base.specs.declared.packets.Way.{Way}
use Rattle.endpoint_script.specs.declared.endpoint.Endpoint.{Endpoint}
use Rattle.endpoint_script.specs.Device.{is_named, endpoint_begun, place_named}

pub first_begun : (num : ℕ) (way : Way) (es : List Endpoint)
    → position_or_len (is_named num way) (map endpoint_begun es) ≡ position_or_len (is_named num way) es
first_begun num way [] = refl
first_begun num way (e ∷ es) = rw (first_begun num way es) refl

pub named_begun : (num : ℕ) (way : Way) (es : List Endpoint) → place_named (map endpoint_begun es) num way ≡ place_named es num way
named_begun num way es = rw (first_begun num way es, length-map es endpoint_begun) refl
