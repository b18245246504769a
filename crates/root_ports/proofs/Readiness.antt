-- A port is enabled exactly where it was made ready and not unmade since.
use Rattle.std.proofs.Common.{◌≡◌, ◌∙◌, ◌+◌, ◌-◌, ◌<◌, ◌++◌, ℕ, zero, suc, Bool, true, false, not, ◌&&◌, ◌||◌, if◌then◌else◌, List, [], ◌∷◌, length, map, take, refl, ap, sym, subst, arith}
use Rattle.std.specs.Prelude.{◌==◌, fold, reverse, slice_get, slice_set, Option, Some, None, option_map, is_some}
use Rattle.std.proofs.lemmas.Bool.Decides.{nat_tests}
use Rattle.std.proofs.lemmas.Option.{slice_get-map}
use Rattle.root_ports.specs.declared.port.Plugged.{Plugged}
use Rattle.root_ports.specs.declared.port.Port.{Port}
use Rattle.root_ports.specs.declared.port_event.PortEvent.{PortEvent}
use Rattle.root_ports.specs.declared.port_event.PortEvent.TheVariants.{Plug, Unplug, Write, Route}
use Rattle.root_ports.specs.Ports.{opened_port, after_plug, after_unplug, after_owner, after_port_write, port_at, changed_at, ports_after, opened, played, enable_of, is_enabled}
use Rattle.root_ports.specs.Ready.{played_back, concerns, ready_after, is_ready}
use Rattle.root_ports.proofs.Soundness.{IsSound, plug_sound, unplug_sound, owner_sound, write_sound, plug_enable, unplug_enable, route_enable, write_enable}

-- ---- one port of a list

both_same : {X : Type 0} (x : X) (b : Bool) → x ≡ (if b then x else x)
both_same x true = refl
both_same x false = refl

suc_test : (i k : ℕ) → (suc i == suc k) ≡ (i == k)
suc_test i k = grind (arith, nat_tests)

zero_suc : (k : ℕ) → (zero == suc k) ≡ false
zero_suc k = grind (arith, nat_tests)

suc_zero : (k : ℕ) → (suc k == zero) ≡ false
suc_zero k = grind (arith, nat_tests)

set_get : {X : Type 0} (xs : List X) (i k : ℕ) (y : X) → slice_get (slice_set xs i y) k ≡ (if i == k then option_map (λ x. y) (slice_get xs k) else slice_get xs k)
set_get [] i k y = both_same None (i == k)
set_get (x ∷ xs) zero zero y = refl
set_get (x ∷ xs) zero (suc k) y = rw (zero_suc k) refl
set_get (x ∷ xs) (suc i) zero y = rw (suc_zero i) refl
set_get (x ∷ xs) (suc i) (suc k) y = rw (suc_test i k) (set_get xs i k y)

-- what an event makes of the port with this number
abbrev pub one_after : ℕ → PortEvent → Port → Port
one_after port (Plug at) p = if at == port then after_plug p else p
one_after port (Unplug at) p = if at == port then after_unplug p else p
one_after port (Write at word run) p = if at == port then after_port_write word run p else p
one_after port (Route on) p = after_owner (not on) p

set_at : (ports : List Port) (at port : ℕ) (p q : Port) → port_at at ports ≡ Some p → port_at port (slice_set ports (at - 1) q) ≡ (if at == port then Some q else port_at port ports)
set_at ports at port p q h = grind (arith, nat_tests, set_get ports (at - 1) (port - 1) q, h)

changed_none : (ports : List Port) (at port : ℕ) (f : Port → Port) → port_at at ports ≡ None → port_at port ports ≡ option_map (λ p. if at == port then f p else p) (port_at port ports)
changed_none ports at port f h = grind (arith, nat_tests, h)

changed_some : (ports : List Port) (at port : ℕ) (f : Port → Port) (p : Port) → port_at at ports ≡ Some p
    → port_at port (slice_set ports (at - 1) (f p)) ≡ option_map (λ p. if at == port then f p else p) (port_at port ports)
changed_some ports at port f p h = grind (arith, nat_tests, set_at ports at port p (f p) h, h)

changed_by : (ports : List Port) (at port : ℕ) (f : Port → Port) (o : Option Port) → port_at at ports ≡ o
    → port_at port (changed_at at f ports) ≡ option_map (λ p. if at == port then f p else p) (port_at port ports)
changed_by ports at port f None e = rw (e) (changed_none ports at port f e)
changed_by ports at port f (Some p) e = rw (e) (changed_some ports at port f p e)

changed : (ports : List Port) (at port : ℕ) (f : Port → Port) → port_at port (changed_at at f ports) ≡ option_map (λ p. if at == port then f p else p) (port_at port ports)
changed ports at port f = changed_by ports at port f (port_at at ports) refl

mapped : (ports : List Port) (port : ℕ) (f : Port → Port) → port_at port (map f ports) ≡ option_map f (port_at port ports)
mapped ports port f = grind (arith, nat_tests, slice_get-map f ports (port - 1))

pub port_of : (port : ℕ) (e : PortEvent) (ports : List Port) → port_at port (ports_after e ports) ≡ option_map (one_after port e) (port_at port ports)
port_of port (Plug at) ports = changed ports at port after_plug
port_of port (Unplug at) ports = changed ports at port after_unplug
port_of port (Write at word run) ports = changed ports at port (after_port_write word run)
port_of port (Route on) ports = mapped ports port (after_owner (not on))

-- ---- soundness after events

sound_if : (b : Bool) (p q : Port) → IsSound p → IsSound q → IsSound (if b then p else q)
sound_if true p q h k = h
sound_if false p q h k = k

one_sound : (port : ℕ) (e : PortEvent) (p : Port) → IsSound p → IsSound (one_after port e p)
one_sound port (Plug at) p h = sound_if (at == port) _ _ (plug_sound p h) h
one_sound port (Unplug at) p h = sound_if (at == port) _ _ (unplug_sound p h) h
one_sound port (Write at word run) p h = sound_if (at == port) _ _ (write_sound word run p h) h
one_sound port (Route on) p h = owner_sound (not on) p h

abbrev pub IsSoundAt : Option Port → Type 0
IsSoundAt o = (p : Port) → o ≡ Some p → IsSound p

-- ---- readiness after one event

one_if_ready : (b : Bool) (e : PortEvent) (p q : Port) → q.enable ≡ ready_after e (Some p) (Some q) p.enable
    → (if b then q else p).enable ≡ (if b then ready_after e (Some p) (Some (if b then q else p)) p.enable else p.enable)
one_if_ready true e p q h = h
one_if_ready false e p q h = refl

one_ready : (port : ℕ) (e : PortEvent) (p : Port) → IsSound p
    → (one_after port e p).enable ≡ (if concerns port e then ready_after e (Some p) (Some (one_after port e p)) p.enable else p.enable)
one_ready port (Plug at) p h = one_if_ready (at == port) (Plug at) p (after_plug p) (plug_enable p)
one_ready port (Unplug at) p h = one_if_ready (at == port) (Unplug at) p (after_unplug p) (unplug_enable p)
one_ready port (Write at word run) p h = one_if_ready (at == port) (Write at word run) p (after_port_write word run p) (write_enable word run p h)
one_ready port (Route on) p h = route_enable on p h

-- ---- after a list of events

map_some : (o : Option Port) (f : Port → Port) (q : Port) → option_map f o ≡ Some q → (p : Port) × ((o ≡ Some p) × (f p ≡ q))
map_some None f q h = grind (arith, h)
map_some (Some p) f q h = (p, (refl, grind (arith, h)))

step_sound : (port : ℕ) (e : PortEvent) (o : Option Port) → IsSoundAt o → IsSoundAt (option_map (one_after port e) o)
step_sound port e o h q made =
    let from = map_some o (one_after port e) q made in
    subst IsSound from.1.1 (one_sound port e from.0 (h from.0 from.1.0))

pub back_sound : (opening : List Port) (port : ℕ) → IsSoundAt (port_at port opening) → (past : List PortEvent) → IsSoundAt (port_at port (played_back opening past))
back_sound opening port h [] = h
back_sound opening port h (e ∷ older) =
    subst IsSoundAt (sym (port_of port e (played_back opening older))) (step_sound port e (port_at port (played_back opening older)) (back_sound opening port h older))

option_ready : (port : ℕ) (e : PortEvent) (o : Option Port) (was : Bool) → IsSoundAt o → enable_of o ≡ was
    → enable_of (option_map (one_after port e) o) ≡ (if concerns port e then ready_after e o (option_map (one_after port e) o) was else was)
option_ready port e None was h is = is ∙ both_same was (concerns port e)
option_ready port e (Some p) was h is = one_ready port e p (h p refl) ∙ ap (λ x. if concerns port e then ready_after e (Some p) (Some (one_after port e p)) x else x) is

-- the port may not be enabled at the opening
pub back_ready : (opening : List Port) (port : ℕ) → IsSoundAt (port_at port opening) → is_enabled port opening ≡ false
    → (past : List PortEvent) → is_enabled port (played_back opening past) ≡ is_ready opening port past
back_ready opening port h off [] = off
back_ready opening port h off (e ∷ older) =
    let before = played_back opening older in
    let made = port_of port e before in
    rw (made) (option_ready port e (port_at port before) (is_ready opening port older) (back_sound opening port h older) (back_ready opening port h off older))

-- ---- from the opening

-- the newest first
turned : (opening : List Port) (older events : List PortEvent) → played (played_back opening older) events ≡ played_back opening (fold (λ r e. e ∷ r) older events)
turned opening older [] = refl
turned opening older (e ∷ rest) = turned opening (e ∷ older) rest

pub played_is_back : (opening : List Port) (events : List PortEvent) → played opening events ≡ played_back opening (reverse events)
played_is_back opening events = turned opening [] events

opened_sound : (thing : Option Plugged) → IsSound (opened_port thing (is_some thing))
opened_sound None = record { connected = refl; enabled = λ h. grind (arith, h); reset = λ h. grind (arith, h) }
opened_sound (Some x) = record { connected = refl; enabled = λ h. grind (arith, h); reset = λ h. grind (arith, h) }

opening_sound : (o : Option (Option Plugged)) → IsSoundAt (option_map (λ thing. opened_port thing (is_some thing)) o)
opening_sound None p h = grind (arith, h)
opening_sound (Some thing) p h = let same : opened_port thing (is_some thing) ≡ p = grind (arith, h) in subst IsSound same (opened_sound thing)

opening_off : (o : Option (Option Plugged)) → enable_of (option_map (λ thing. opened_port thing (is_some thing)) o) ≡ false
opening_off None = refl
opening_off (Some thing) = refl

-- a port of the opening
opening_at : List (Option Plugged) → ℕ → Option (Option Plugged)
opening_at things port = if port == 0 then None else slice_get things (port - 1)

opened_at : (things : List (Option Plugged)) (n port : ℕ) → port_at port (opened things n) ≡ option_map (λ thing. opened_port thing (is_some thing)) (opening_at (take n things) port)
unfolding opening_at
opened_at things n port = grind (arith, nat_tests, slice_get-map (λ thing. opened_port thing (is_some thing)) (take n things) (port - 1))

pub always_sound : (things : List (Option Plugged)) (n : ℕ) (events : List PortEvent) (port : ℕ) → IsSoundAt (port_at port (played (opened things n) events))
always_sound things n events port =
    let at_first : IsSoundAt (port_at port (opened things n)) = subst IsSoundAt (sym (opened_at things n port)) (opening_sound (opening_at (take n things) port)) in
    subst (λ ports. IsSoundAt (port_at port ports)) (sym (played_is_back (opened things n) events)) (back_sound (opened things n) port at_first (reverse events))

pub enabled_where_ready : (things : List (Option Plugged)) (n : ℕ) (events : List PortEvent) (port : ℕ)
    → is_enabled port (played (opened things n) events) ≡ is_ready (opened things n) port (reverse events)
enabled_where_ready things n events port =
    let at_first : IsSoundAt (port_at port (opened things n)) = subst IsSoundAt (sym (opened_at things n port)) (opening_sound (opening_at (take n things) port)) in
    let off : is_enabled port (opened things n) ≡ false = ap enable_of (opened_at things n port) ∙ opening_off (opening_at (take n things) port) in
    ap (is_enabled port) (played_is_back (opened things n) events) ∙ back_ready (opened things n) port at_first off (reverse events)
