-- What each event keeps of a port: it is connected where something is plugged in, it has power and no other owner, and enabled or in reset only where it is connected.
use Rattle.std.proofs.Common.{◌≡◌, ◌∙◌, ℕ, Bool, true, false, not, ◌&&◌, ◌||◌, if◌then◌else◌, refl, arith}
use Rattle.root_ports.specs.declared.port.Port.{Port}
use Rattle.root_ports.specs.Ports.{is_high, bit, after_plug, after_unplug, after_bit_1, after_bit_2, after_bit_12, after_owner, after_bit_8, after_port_write, powered, unpowered, given, taken_back, reset_begun, reset_ended}
use Rattle.root_ports.specs.Ready.{can_serve}

pub record IsSound (p : Port) : Type 0 where
  pub connected : p.connection ≡ (p.plugged && (p.power && not p.owner))
  pub enabled : p.enable ≡ true → (p.connection && (is_high p.thing && not p.reset)) ≡ true
  pub reset : p.reset ≡ true → p.connection ≡ true

pub plug_sound : (p : Port) → IsSound p → IsSound (after_plug p)
plug_sound p h = grind (arith, h)

pub unplug_sound : (p : Port) → IsSound p → IsSound (after_unplug p)
unplug_sound p h = grind (arith, h)

pub bit_1_sound : (word : ℕ) (p : Port) → IsSound p → IsSound (after_bit_1 word p)
bit_1_sound word p h = grind (arith, h)

pub bit_2_sound : (word : ℕ) (p : Port) → IsSound p → IsSound (after_bit_2 word p)
bit_2_sound word p h = grind (arith, h)

pub bit_12_sound : (word : ℕ) (p : Port) → IsSound p → IsSound (after_bit_12 word p)
bit_12_sound word p h = grind (arith, h)

pub owner_sound : (owner : Bool) (p : Port) → IsSound p → IsSound (after_owner owner p)
owner_sound owner p h = grind (arith, h)

pub bit_8_sound : (word : ℕ) (run : Bool) (p : Port) → IsSound p → IsSound (after_bit_8 word run p)
bit_8_sound word run p h = grind (arith, h)

pub write_sound : (word : ℕ) (run : Bool) (p : Port) → IsSound p → IsSound (after_port_write word run p)
write_sound word run p h = bit_8_sound word run _ (owner_sound (bit word 13) _ (bit_12_sound word _ (bit_2_sound word _ (bit_1_sound word p h))))

-- ---- what each event makes of the enable bit

pub plug_enable : (p : Port) → (after_plug p).enable ≡ (if not p.plugged && (after_plug p).plugged then false else p.enable)
plug_enable p = grind (arith)

pub unplug_enable : (p : Port) → (after_unplug p).enable ≡ (if p.plugged && not (after_unplug p).plugged then false else p.enable)
unplug_enable p = grind (arith)

pub route_enable : (on : Bool) (p : Port) → IsSound p → (after_owner (not on) p).enable ≡ (if not on then false else p.enable)
route_enable on p h = grind (arith, h)

-- the rows before the last
abbrev before_reset : ℕ → Port → Port
before_reset word p = after_owner (bit word 13) (after_bit_12 word (after_bit_2 word (after_bit_1 word p)))

before_reset_stops : (word : ℕ) (p : Port) → IsSound p → let q = before_reset word p in
    ((p.reset && (not q.reset && (not q.owner && q.power))) ≡ false)
    × ((q.reset && not p.reset) ≡ false)
    × (q.enable ≡ (if not (bit word 2) || (q.owner || not q.power) then false else p.enable))
before_reset_stops word p h = grind (arith, h)

same_owner : (word : ℕ) (run : Bool) (p : Port) → (after_bit_8 word run p).owner ≡ p.owner
same_owner word run p = grind (arith)

same_power : (word : ℕ) (run : Bool) (p : Port) → (after_bit_8 word run p).power ≡ p.power
same_power word run p = grind (arith)

-- of bits alone: reset at first, before the last row and at the end; enable at first, before the last row and at the end
joined : (r0 r1 r2 high owner power kept e0 e1 e2 : Bool)
    → (r0 && (not r1 && (not owner && power))) ≡ false
    → (r1 && not r0) ≡ false
    → e1 ≡ (if not kept || (owner || not power) then false else e0)
    → e2 ≡ (if r1 && (not r2 && (high && (power && not owner))) then true else if owner || (not power || r2) then false else e1)
    → e2 ≡ (if r0 && (not r2 && (high && (power && not owner))) then true else if not kept || (owner || (not power || r2)) then false else e0)
joined r0 r1 r2 high owner power kept e0 e1 e2 a b c d = grind (arith, a, b, c, d)

write_sound_before : (word : ℕ) (p : Port) → IsSound p → IsSound (before_reset word p)
write_sound_before word p h = owner_sound (bit word 13) _ (bit_12_sound word _ (bit_2_sound word _ (bit_1_sound word p h)))

-- the last row of a write
enable_of_reset : (word : ℕ) (run : Bool) (p : Port) → IsSound p
    → let q = after_bit_8 word run p in
    q.enable ≡ (if p.reset && (not q.reset && ((q.plugged && is_high q.thing) && (p.power && not p.owner))) then true else if p.owner || (not p.power || q.reset) then false else p.enable)
enable_of_reset word run p h = grind (arith, h)

pub write_enable : (word : ℕ) (run : Bool) (p : Port) → IsSound p
    → let q = after_port_write word run p in
    q.enable ≡ (if p.reset && (not q.reset && can_serve q) then true else if not (bit word 2) || (q.owner || (not q.power || q.reset)) then false else p.enable)
write_enable word run p h =
    let m = before_reset word p in
    let q = after_port_write word run p in
    let s = before_reset_stops word p h in
    rw (same_owner word run m, same_power word run m)
    (joined p.reset m.reset q.reset (q.plugged && is_high q.thing) m.owner m.power (bit word 2) p.enable m.enable q.enable s.0 s.1 s.2 (enable_of_reset word run m (write_sound_before word p h)))
