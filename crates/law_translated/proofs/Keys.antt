-- The test of two keys is equality.
use Rattle.std.proofs.Common.{◌≡◌, ℕ, ◌==◌, ◌&&◌, Bool, true, false, refl, sym, subst, ◌∙◌}
use Rattle.std.proofs.lemmas.Bool.{eq-eqb, eqb-true}
use Rattle.law_common.proofs.Booleans.{and_both}
use Rattle.usb_base.specs.declared.packets.Dir.{Dir}
use Rattle.usb_base.specs.declared.packets.Dir.TheVariants as Directions
use Rattle.usb_base.specs.declared.packets.EpKind.{EpKind}
use Rattle.usb_base.specs.declared.packets.EpKind.TheVariants.{Control, Iso, Bulk, Interrupt}
use Rattle.hub_keys.specs.declared.key.Key.{Key}
use Rattle.hub_keys.specs.Keys.{is_same_key, is_same_direction, is_same_kind}

same_direction : (a b : Dir) → is_same_direction a b ≡ true → a ≡ b
same_direction Directions.In Directions.In h = refl
same_direction Directions.Out Directions.Out h = refl
same_direction Directions.In Directions.Out h = absurd cc
same_direction Directions.Out Directions.In h = absurd cc

same_kind : (a b : EpKind) → is_same_kind a b ≡ true → a ≡ b
same_kind Control Control h = refl
same_kind Iso Iso h = refl
same_kind Bulk Bulk h = refl
same_kind Interrupt Interrupt h = refl
same_kind _ _ h = absurd cc

make : ℕ → ℕ → Dir → EpKind → Key
make addr ep dir kind = record { addr = addr; ep = ep; dir = dir; kind = kind }

made : (a : Key) → make a.addr a.ep a.dir a.kind ≡ a
unfolding make
made a = refl

pub same_key : (a b : Key) → is_same_key a b ≡ true → a ≡ b
same_key a b h =
    let h1 = and_both _ (is_same_kind a.kind b.kind) h in
    let h2 = and_both _ (is_same_direction a.dir b.dir) h1.0 in
    let h3 = and_both _ (a.ep == b.ep) h2.0 in
    let e1 : a.addr ≡ b.addr = eqb-true _ _ h3.0 in
    let e2 : a.ep ≡ b.ep = eqb-true _ _ h3.1 in
    let e3 : a.dir ≡ b.dir = same_direction _ _ h2.1 in
    let e4 : a.kind ≡ b.kind = same_kind _ _ h1.1 in
    let m1 = made a in let m2 = made b in cc

itself_direction : (a : Dir) → is_same_direction a a ≡ true
itself_direction Directions.In = refl
itself_direction Directions.Out = refl

itself_kind : (a : EpKind) → is_same_kind a a ≡ true
itself_kind Control = refl
itself_kind Iso = refl
itself_kind Bulk = refl
itself_kind Interrupt = refl

pub same_as_itself : (a : Key) → is_same_key a a ≡ true
same_as_itself a =
    let e1 : (a.addr == a.addr) ≡ true = eq-eqb _ _ refl in
    let e2 : (a.ep == a.ep) ≡ true = eq-eqb _ _ refl in
    rw (e1, e2, itself_direction a.dir, itself_kind a.kind) refl

-- a key that is one of two different ones isn't the other
pub not_both : {P : Type 0} (k a c : Key) → is_same_key a k ≡ false → is_same_key c k ≡ true → is_same_key c a ≡ true → P
not_both k a c apart on at =
    let e1 : c ≡ k = same_key c k on in
    let e2 : c ≡ a = same_key c a at in
    let one : is_same_key a k ≡ true = subst (λ (z : Key). is_same_key z k ≡ true) e2 on in
    absurd (let z : true ≡ false = sym one ∙ apart in cc)

-- keys of different kinds are different
pub other_kind : (a b : Key) → is_same_kind a.kind b.kind ≡ false → is_same_key a b ≡ false
other_kind a b h = rw h (both_false (a.addr == b.addr && a.ep == b.ep && is_same_direction a.dir b.dir))
  where
    both_false : (b : Bool) → (b && false) ≡ false
    both_false true = refl
    both_false false = refl
