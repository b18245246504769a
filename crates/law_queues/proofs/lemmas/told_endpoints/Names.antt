-- Names that are the same.
use Rattle.std.proofs.Common.{◌≡◌, ◌==◌, ◌&&◌, Bool, true, false, ap, refl, ◌∙◌}
use Rattle.std.proofs.lemmas.Bool.{false≢true, eqb-true, eq-eqb}
use Rattle.law_common.proofs.Booleans.{and_both}
use Rattle.law_queues.proofs.Common.{name_is}
use Rattle.usb_base.specs.declared.endpoints.EpName.{EpName}
use Rattle.usb_base.specs.declared.packets.Way.{Way}
use Rattle.usb_base.specs.declared.packets.Way.TheVariants as Ways
use Rattle.bus_wire.specs.Fates.{is_same_way, is_same_name}
use Rattle.drv_table.specs.DriverContent.{is_same_way as is_driver_way, is_same_name as is_driver_name}

same_way_is : (a b : Way) → is_same_way a b ≡ true → a ≡ b
same_way_is Ways.In Ways.In e = refl
same_way_is Ways.Out Ways.Out e = refl
same_way_is Ways.Ctl Ways.Ctl e = refl
same_way_is Ways.In Ways.Out e = absurd (false≢true e)
same_way_is Ways.In Ways.Ctl e = absurd (false≢true e)
same_way_is Ways.Out Ways.In e = absurd (false≢true e)
same_way_is Ways.Out Ways.Ctl e = absurd (false≢true e)
same_way_is Ways.Ctl Ways.In e = absurd (false≢true e)
same_way_is Ways.Ctl Ways.Out e = absurd (false≢true e)

way_is_same : (a : Way) → is_same_way a a ≡ true
way_is_same Ways.In = refl
way_is_same _ = refl

pub same_name_is : (a b : EpName) → is_same_name a b ≡ true → a ≡ b
same_name_is a b e =
    let first = and_both (a.addr == b.addr) (a.num == b.num && is_same_way a.way b.way) e in
    let second = and_both (a.num == b.num) (is_same_way a.way b.way) first.1 in
    name_is a b (eqb-true a.addr b.addr first.0) (eqb-true a.num b.num second.0) (same_way_is a.way b.way second.1)

pub name_is_same : (a : EpName) → is_same_name a a ≡ true
name_is_same a =
    ap (λ (x : Bool). x && (a.num == a.num && is_same_way a.way a.way)) (eq-eqb a.addr a.addr refl) ∙ ap (λ (x : Bool). x && is_same_way a.way a.way) (eq-eqb a.num a.num refl) ∙ way_is_same a.way

-- a driver's test is the same
driver_way : (a b : Way) → is_driver_way a b ≡ is_same_way a b
driver_way Ways.In Ways.In = refl
driver_way Ways.Out Ways.Out = refl
driver_way Ways.Ctl Ways.Ctl = refl
driver_way Ways.In Ways.Out = refl
driver_way Ways.In Ways.Ctl = refl
driver_way Ways.Out Ways.In = refl
driver_way Ways.Out Ways.Ctl = refl
driver_way Ways.Ctl Ways.In = refl
driver_way Ways.Ctl Ways.Out = refl

and_again : (x y z : Bool) → (x && y && z) ≡ (x && (y && z))
and_again true y z = refl
and_again false y z = refl

pub driver_name : (a b : EpName) → is_driver_name a b ≡ is_same_name a b
driver_name a b = and_again (a.addr == b.addr) (a.num == b.num) (is_driver_way a.way b.way) ∙ ap (λ (x : Bool). a.addr == b.addr && (a.num == b.num && x)) (driver_way a.way b.way)
