-- Whether a driver has an endpoint of a name.
use Rattle.std.proofs.Common.{◌≡◌, ℕ, Bool, true, false, cond, List, [], ◌∷◌, length, get_or, position, slice_get, Option, Some, None, ap, refl, sym, ◌∙◌, inl, inr}
use Rattle.std.specs.Prelude.{◌⊎◌, is_some}
use Rattle.std.specs.List.{position_or_len}
use Rattle.std.proofs.lemmas.Option.{slice_get-get_or}
use Rattle.std.proofs.lemmas.List.Quantifiers.{position-Some}
use Rattle.law_common.proofs.Numbers.{is_less}
use Rattle.law_queues.proofs.Common.{has_place}
use Rattle.usb_base.specs.declared.endpoints.EpName.{EpName}
use Rattle.bus_wire.specs.Fates.{is_same_name}
use Rattle.drv_table.specs.declared.content.Endpoint.{Endpoint}
use Rattle.drv_table.specs.DriverContent.{DriverContent, is_same_name as is_driver_name, endpoint_of, opened}
use Rattle.law_queues.proofs.lemmas.told_endpoints.Names.{same_name_is, name_is_same, driver_name}
use Rattle.law_world.proofs.lemmas.streams.lemmas.right_reports.Named.{HasNamed}

-- ---- the first that passes

found_there : (test : Endpoint → Bool) (xs : List Endpoint) (e : ℕ) → position test xs ≡ Some e → (y : Endpoint) × (slice_get xs e ≡ Some y) × (test y ≡ true)
found_there test [] e f = absurd (cc)
found_there test (x ∷ xs) e f = let at = position-Some test (x ∷ xs) e x f in (get_or (x ∷ xs) e x, slice_get-get_or (x ∷ xs) e x at.0, at.1)

-- ---- the driver's answer

abbrev has_name : EpName → Endpoint → Bool
has_name name y = is_driver_name y.desc.name name

pub named_opened : (d : DriverContent) (name : EpName) → HasNamed d.endpoints name → opened d name ≡ true
named_opened d name k =
    ap (λ (b : Bool). is_some (cond b (Some (position_or_len (has_name name) d.endpoints)) None))
    (is_less (position_or_len (has_name name) d.endpoints) (length d.endpoints)
    (has_place (has_name name) d.endpoints k.number k.endpoint k.here (driver_name k.endpoint.desc.name name ∙ ap (λ (n : EpName). is_same_name n name) k.same ∙ name_is_same name)))

named_by : (d : DriverContent) (name : EpName) (o : Option ℕ) → endpoint_of d name ≡ o → HasNamed d.endpoints name ⊎ (opened d name ≡ false)
named_by d name None is = inr (ap is_some is)
named_by d name (Some e) is =
    let at = found_there (has_name name) d.endpoints e is in
    inl (record { number = e; endpoint = at.0; here = at.1; same = same_name_is at.0.desc.name name (sym (driver_name at.0.desc.name name) ∙ at.2) })

pub named_or_not : (d : DriverContent) (name : EpName) → HasNamed d.endpoints name ⊎ (opened d name ≡ false)
named_or_not d name = named_by d name (endpoint_of d name) refl
