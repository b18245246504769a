-- Names of control endpoints in a world: each is that of one endpoint alone, and its device is on the bus.
use Rattle.std.proofs.Common.{◌≡◌, ℕ, ◌≤◌, Bool, true, false, not, slice_get, Option, Some, ap, refl, sym, subst, ◌∙◌, ⊎_elim, arith}
use Rattle.std.proofs.lemmas.Bool.{and_parts}
use Rattle.std.proofs.lemmas.Option.{same_Some}
use Rattle.law_common.proofs.Booleans.{not_on}
use Rattle.law_reports.proofs.Common.{one_head}
use Rattle.bus_wire.specs.Bus.{Fixed}
use Rattle.qh_qtd.specs.declared.queue_head.Qh.{Qh}
use Rattle.qh_qtd.specs.Blank.{blank_head}
use Rattle.drv_table.specs.declared.content.Endpoint.{Endpoint as DriverEndpoint}
use Rattle.drv_table.specs.DriverContent.{DriverContent}
use Rattle.law_driver.specs.endpoint_lives.Lives.{may_meet}
use Rattle.law_driver_ring.specs.fed_queues.Places.{IsMet}
use Rattle.law_structures.specs.lent_structures.Structures.{Structure, QueueHead, StructureSets}
use Rattle.claims_report.specs.Requests.{Request}
use Rattle.claims_report.specs.ControlSides.{Device}
use Rattle.law_ring.specs.Told.{HasEndpoint, Endpoint as Characteristics, endpoint_of}
use Rattle.law_devices.specs.Controls.{control_of}
use Rattle.bus_world.specs.World.{World}
use Rattle.law_world.specs.steps.Streaming.{Streams, Standing}
use Rattle.claims_world.specs.Requests.{wired, Windows, is_opening}
use Rattle.law_reports.specs.requests.Asking.{Sides, IsGiven, Asking, has_left, left_with, IsControlOf, IsAskingWorld}
use Rattle.law_reports.specs.requests.Footing.{IsHeadNamed, IsFooting}

-- ---- an unfinished open

-- ---- the endpoint of a queue head

qh_in : Option Structure → Qh
qh_in (Some (QueueHead q)) = q
qh_in _ = blank_head

pub one_endpoint : (parts : StructureSets) (n : ℕ) (x y : Characteristics) → HasEndpoint parts n x → HasEndpoint parts n y → x ≡ y
one_endpoint parts n x y h k = h.is ∙ ap endpoint_of (one_head h.queue k.queue (sym h.head ∙ k.head)) ∙ sym k.is

-- ---- control endpoints

pub left_is : (g : Sides) (d : DriverContent) (e : ℕ) (z : DriverEndpoint) → slice_get d.endpoints e ≡ Some z → has_left g d e ≡ true
    → (g.asks z.desc ≡ true) × (may_meet d e z ≡ false)
left_is g d e z here on =
    let both = and_parts (g.asks z.desc) (not (may_meet d e z)) (sym (ap (λ (o : Option DriverEndpoint). left_with g d e o) here) ∙ on) in
    (both.0, not_on (may_meet d e z) both.1)

module _ (member : ℕ → Bool) (x : Streams) (s : Standing) (w : World) (k : IsFooting member x s w) where
  -- no endpoint of this name may be met
  pub not_met : (addr num : ℕ) → 1 ≤ addr
      → ((e : ℕ) (z : DriverEndpoint) → slice_get w.driver.endpoints e ≡ Some z → IsMet w.driver e z → z.desc.name.addr ≡ addr → z.desc.name.num ≡ num → ⊥)
      → (n : ℕ) (own : Characteristics) → member n ≡ true → HasEndpoint s.parts n own → addr ≡ own.addr → num ≡ own.ep → ⊥
  not_met addr num least none n own met has address number =
      ⊎_elim (λ (head : own.addr ≡ 0). absurd (omega (arith, least, address, head)))
      (λ (h : IsHeadNamed w.driver own). none h.number h.endpoint h.here h.met (sym (address ∙ h.address)) (sym (number ∙ h.ep))) (k.named n own met has)

  module _ (g : Sides) (fixed : Fixed) (a : Asking) (v : Windows) (asks : ℕ → Request) (q : IsAskingWorld g fixed member s a v asks w) where
    -- ---- the device of a control endpoint

    pub has_device : (e : ℕ) (z : DriverEndpoint) → IsControlOf g w.driver e z
        → (c : Device) × (control_of (wired fixed w) z.desc.name.addr z.desc.name.num ≡ Some c)
    has_device e z is = by (is_opening w.driver z) refl
      where
        given : IsGiven g z.desc
        given = q.given e z is

        by : (b : Bool) → is_opening w.driver z ≡ b → (c : Device) × (control_of (wired fixed w) z.desc.name.addr z.desc.name.num ≡ Some c)
        by false off = let f = q.counts e z is off in (f.device, f.is)
        by true on = (
          _,
          q.unopened z.desc.name.addr z.desc.name.num _ given.addressed
              (λ f y there address number.
              let same : z ≡ y = same_Some z y (sym is.here ∙ ap (λ (i : ℕ). slice_get w.driver.endpoints i) (k.apart e f z y is.here (g.controls z.desc is.control) there address number) ∙ there) in
              subst (λ (u : DriverEndpoint). is_opening w.driver u ≡ true) same on)
              given.first,
        )
