-- Lemmas that several files need.
use Rattle.std.proofs.Common.{◌≡◌, true, refl, ◌==◌}
use Rattle.std.proofs.lemmas.Bool.{eq-eqb}
use Rattle.usb_base.specs.declared.packets.Dir.{Dir}
use Rattle.usb_base.specs.declared.packets.Dir.TheVariants.{In, Out}
use Rattle.usb_base.specs.declared.packets.EpKind.{EpKind}
use Rattle.usb_base.specs.declared.packets.EpKind.TheVariants.{Control}
use Rattle.hub_keys.specs.Keys.{is_same_direction, is_same_kind, is_same_key}
use Rattle.hub_keys.specs.declared.key.Key.{Key}
use Rattle.usb_base.specs.declared.packets.Dir.TheVariants as dirs

pub same_direction : (d : Dir) → is_same_direction d d ≡ true
same_direction In = refl
same_direction Out = refl

pub same_kind : (a : EpKind) → is_same_kind a a ≡ true
same_kind Control = refl
same_kind _ = refl

pub same_key : (a : Key) → is_same_key a a ≡ true
same_key a =
    let e1 : (a.addr == a.addr) ≡ true = eq-eqb _ _ refl in
    let e2 : (a.ep == a.ep) ≡ true = eq-eqb _ _ refl in
    rw (e1, e2, same_direction a.dir, same_kind a.kind) refl

pub same_dir : (a b : Dir) → is_same_direction a b ≡ true → a ≡ b
same_dir dirs.In dirs.In e = refl
same_dir dirs.Out dirs.Out e = refl
same_dir dirs.In dirs.Out e = absurd (cc)
same_dir dirs.Out dirs.In e = absurd (cc)
