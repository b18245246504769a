-- Where the endpoints of a device stand.
use Rattle.std.proofs.Common.{◌≡◌, ℕ, ◌<◌, Bool, true, false, cond, List, [], ◌∷◌, length, map, Option, Some, None, refl, sym, ap, ◌∙◌, arith}
use Rattle.std.proofs.lemmas.List.{length-map}
use Rattle.std.specs.Prelude.{IfSome, nat_lt, position}
use Rattle.std.specs.List.{position_or_len}
use Rattle.usb_base.specs.declared.packets.Way.{Way}
use Rattle.usb_base.specs.declared.packets.Way.TheVariants as Ways
use Rattle.dev_control.specs.declared.rows.StageToken.{StageToken}
use Rattle.dev_control.specs.declared.rows.StageToken.TheVariants as Tokens
use Rattle.endpoint_script.specs.declared.endpoint.Endpoint.{Endpoint}
use Rattle.endpoint_script.specs.Device.{is_named, place_named, or_else, place_for, endpoint_begun}
use Rattle.endpoint_script.specs.declared.places.Places.{Places}
use Rattle.endpoint_script.specs.Places.{IsIndex, ArePlaces}

within_if : (b : Bool) (a n : ℕ) → (b ≡ true → a < n) → IfSome (cond b (Some a) None) (λ place. place < n)
within_if true a n h = h refl
within_if false a n h = tt

below : (a n : ℕ) → nat_lt a n ≡ true → a < n
below a n h = grind arith

within_position : {A : Type 0} (p : A → Bool) (xs : List A) → IfSome (position p xs) (λ place. place < length xs)
within_position p xs = within_if (nat_lt (position_or_len p xs) (length xs)) (position_or_len p xs) (length xs) (below (position_or_len p xs) (length xs))

-- a place is one of the endpoints
pub within_named : (es : List Endpoint) (num : ℕ) (way : Way) → IfSome (place_named es num way) (λ place. place < length es)
within_named es num way = within_position (is_named num way) es

within_else : (n : ℕ) (o other : Option ℕ) → IfSome o (λ place. place < n) → IfSome other (λ place. place < n) → IfSome (or_else o other) (λ place. place < n)
within_else n None other h k = k
within_else n (Some place) other h k = h

pub within_for : (token : StageToken) (es : List Endpoint) (num : ℕ) → IfSome (place_for token es num) (λ place. place < length es)
within_for Tokens.Setup es num = within_named es num Ways.Ctl
within_for Tokens.In es num = within_else (length es) (place_named es num Ways.In) (place_named es num Ways.Ctl) (within_named es num Ways.In) (within_named es num Ways.Ctl)
within_for Tokens.Other es num = tt
within_for _ es num = within_else (length es) (place_named es num Ways.Out) (place_named es num Ways.Ctl) (within_named es num Ways.Out) (within_named es num Ways.Ctl)

-- ---- endpoints stay where they are as a microframe begins

position_or_len-begun : (num : ℕ) (way : Way) (es : List Endpoint) → position_or_len (is_named num way) (map endpoint_begun es) ≡ position_or_len (is_named num way) es
position_or_len-begun num way [] = refl
position_or_len-begun num way (e ∷ es) = rw (position_or_len-begun num way es) refl

place_named-begun : (num : ℕ) (way : Way) (es : List Endpoint) → place_named (map endpoint_begun es) num way ≡ place_named es num way
place_named-begun num way es = rw (position_or_len-begun num way es, length-map es endpoint_begun) refl

index_stays : (way : Way) (es : List Endpoint) (index : List (Option ℕ)) → IsIndex es way index → IsIndex (map endpoint_begun es) way index
index_stays way es index h num inside = h num inside ∙ ap Some (sym (place_named-begun num way es))

pub places_stay : (es : List Endpoint) (places : Places) → ArePlaces es places → ArePlaces (map endpoint_begun es) places
places_stay es places h = record {
  ins = index_stays Ways.In es places.ins h.ins;
  outs = index_stays Ways.Out es places.outs h.outs;
  controls = index_stays Ways.Ctl es places.controls h.controls;
}
