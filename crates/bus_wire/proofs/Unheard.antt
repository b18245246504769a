-- What the lists of numbers tell of an endpoint's packets is what the fates say.
use Rattle.std.proofs.Common.{◌≡◌, ℕ, ◌==◌, Bool, List, Some, None, slice_get, sym, ap, ◌∙◌}
use Rattle.std.specs.List.{list_any}
use Rattle.std.proofs.lemmas.Option.{none-some, same_Some}
use Rattle.std.proofs.lemmas.List.Sorted.{list_any-IsPermutation}
use Rattle.script_types.specs.declared.scripts.FateText.{FateText}
use Rattle.bus_wire.specs.declared.asked.Asked.{Asked}
use Rattle.bus_wire.specs.declared.seats.Seat.{Seat}
use Rattle.bus_wire.specs.Fates.{bad_numbers, is_unheard}
use Rattle.bus_wire.specs.Fixed.{AreNumbers, IsSeated}

pub numbers_tell : (fates : List FateText) (below : Bool) (seats : List Seat) (e : Asked) (unheard : List (List ℕ)) (ns : List ℕ) (k : ℕ) → AreNumbers fates below seats unheard → IsSeated seats e → slice_get unheard e.place ≡ Some ns → list_any (λ n. n == k) ns ≡ is_unheard fates e.name below k
numbers_tell fates below seats e unheard ns k are s at =
    let f = are.each e.place s.seat s.there in
    ap (list_any (λ n. n == k)) (same_Some ns f.0 (sym at ∙ f.1))
    ∙ sym (list_any-IsPermutation (λ n. n == k) (bad_numbers fates s.seat.name below) f.0 f.2)
    ∙ ap (λ name. is_unheard fates name below k) s.named

pub numbers_there : (fates : List FateText) (below : Bool) (seats : List Seat) (e : Asked) (unheard : List (List ℕ)) → AreNumbers fates below seats unheard → IsSeated seats e → slice_get unheard e.place ≡ None → ⊥
numbers_there fates below seats e unheard are s at =
    let f = are.each e.place s.seat s.there in
    none-some f.0 (sym at ∙ f.1)
