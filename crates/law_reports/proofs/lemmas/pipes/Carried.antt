-- What is known of names and ways is carried to a later content of the driver, where its endpoints come of those before, and no other queue
-- heads are met.
use Rattle.std.proofs.Common.{◌≡◌, ℕ, ◌*◌, ◌&&◌, Bool, true, false, slice_get, Some, ap, sym, subst, ◌∙◌, ⊎_elim, inl, inr}
use Rattle.std.proofs.lemmas.Option.{same_Some}
use Rattle.law_common.proofs.Booleans.{and_on}
use Rattle.law_common.proofs.Numbers.{same_blocks}
use Rattle.usb_base.specs.declared.endpoints.EpDesc.{EpDesc}
use Rattle.usb_base.specs.declared.packets.Way.{Way}
use Rattle.usb_base.specs.declared.packets.Way.TheVariants as ways
use Rattle.claims_driver.specs.Leaving.{HasOwners}
use Rattle.drv_table.specs.declared.content.Command.TheVariants as unfinished
use Rattle.drv_table.specs.declared.content.Endpoint.{Endpoint}
use Rattle.drv_table.specs.DriverContent.{DriverContent}
use Rattle.drv_table.specs.Kinds.{is_iso}
use Rattle.drv_table.specs.Words.{head_block}
use Rattle.law_driver.specs.queued_drivers.Queued.{queued_endpoint, queued}
use Rattle.law_driver.proofs.lemmas.ring_members.Placed.{has_queue, queue_off_head}
use Rattle.law_ring.specs.Told.{Endpoint as Told}
use Rattle.law_driver_ring.specs.fed_queues.Places.{IsMet, AreMet}
use Rattle.law_world.specs.memory.pipe_steps.Pipes.{AsksTheWay, AreByWay, AreStillMet}
use Rattle.law_reports.specs.pipes.Declared.{Sides, IsDeclared, AreDeclared}
use Rattle.law_reports.specs.pipes.Piped.{asked_as, AreEndsNamed, IsOpening, AreFresh}
use Rattle.law_reports.proofs.lemmas.pipes.Across.{WasIn, IsNowIn}
use Rattle.law_reports.proofs.lemmas.pipes.Names.{kept_as, same_number, IsMetHead, met_head, met_near, by_real, by_queued}

-- ---- names that weren't opened yet

pub fresh_carried : (d f : DriverContent) → ((e : ℕ) (y : Endpoint) → slice_get d.endpoints e ≡ Some y → IsNowIn f.endpoints e y)
    → ((q : ℕ) → (queued f).command ≡ Some (unfinished.Open q) → (queued d).command ≡ Some (unfinished.Open q))
    → (way : Way) (has : ℕ → ℕ → Bool) (P : ℕ → ℕ → Type 0) → AreFresh d way has P → AreFresh f way has P
fresh_carried d f now opening way has P fresh addr ep on unused =
    fresh addr ep on
    (λ e y here its same also.
    let z : IsNowIn f.endpoints e y = now e y here in
    let o : IsOpening f z.endpoint = unused e z.endpoint z.here (ap (λ (c : EpDesc). c.name.way) z.comes.desc ∙ its)
    (ap (λ (c : EpDesc). c.name.addr) z.comes.desc ∙ same) (ap (λ (c : EpDesc). c.name.num) z.comes.desc ∙ also) in
    record {
      kept = z.comes.alive o.kept;
      queue = ap (λ (c : EpDesc). is_iso c.kind) (sym z.comes.desc) ∙ o.queue;
      command = opening y.queue (o.command ∙ ap (λ (q : ℕ). Some (unfinished.Open q)) z.comes.queue);
    })

pub declared_carried : (x : Sides) (d f : DriverContent)
    → ((e : ℕ) (z : Endpoint) → slice_get f.endpoints e ≡ Some z → WasIn d.endpoints e z)
    → AreDeclared x d → AreDeclared x f
declared_carried x d f was declared e z here =
    let v : WasIn d.endpoints e z = was e z here in subst (IsDeclared x) (sym v.comes.desc) (declared e v.endpoint v.here)

-- ---- fewer queue heads

pub still_on : (narrow those left : ℕ → Bool) → AreStillMet narrow those left → (n : ℕ) → narrow n ≡ true → left n ≡ those n
still_on narrow those left still n on = still n ∙ and_on (those n) (narrow n) on

asks_still : (sends takes : ℕ → ℕ → Bool) (ins outs left gone : ℕ → Bool) (ends : ℕ → Told) (n : ℕ) (way : Way) → left n ≡ ins n
    → gone n ≡ outs n → AsksTheWay sends takes ins outs ends n way → AsksTheWay sends takes left gone ends n way
asks_still sends takes ins outs left gone ends n ways.In i o asks = (
  o ∙ asks.0,
  ⊎_elim (λ (on : ins n ≡ true). inl (i ∙ on)) (λ (off : sends (ends n).addr (ends n).ep ≡ false). inr off) asks.1,
)
asks_still sends takes ins outs left gone ends n ways.Out i o asks = (
  i ∙ asks.0,
  ⊎_elim (λ (on : outs n ≡ true). inl (o ∙ on)) (λ (off : takes (ends n).addr (ends n).ep ≡ false). inr off) asks.1,
)
asks_still sends takes ins outs left gone ends n ways.Ctl i o asks = (i ∙ asks.0, o ∙ asks.1, asks.2, asks.3)

module _ (d f : DriverContent) (near narrow : ℕ → Bool) (owners : HasOwners d) (near_are : AreMet (queued d) near)
    (narrow_are : AreMet (queued f) narrow)
    (was : (e : ℕ) (z : Endpoint) → slice_get f.endpoints e ≡ Some z → IsMet (queued f) e (queued_endpoint z) → WasIn d.endpoints e z) where
  -- one that is met then was met before, where its queue head was
  pub record WasMet (e : ℕ) (z : Endpoint) : Type 0 where
    pub before : WasIn d.endpoints e z
    pub met : IsMet (queued d) e (queued_endpoint before.endpoint)

  pub was_met : (e : ℕ) (z : Endpoint) → slice_get f.endpoints e ≡ Some z → IsMet (queued f) e (queued_endpoint z)
      → near (32 * z.queue) ≡ true → WasMet e z
  was_met e z here met before =
      let v : WasIn d.endpoints e z = was e z here met in
      let y : Endpoint = v.endpoint in
      let kept = kept_as z met.there.kept in
      let alive : (y.gone ≡ false) × (is_iso y.desc.kind ≡ false) =
      (v.comes.alive kept.0, ap (λ (c : EpDesc). is_iso c.kind) (sym v.comes.desc) ∙ kept.1) in
      let on : near (32 * y.queue) ≡ true = ap (λ (q : ℕ). near (32 * q)) (sym v.comes.queue) ∙ before in
      record {
        before = v;
        met = ⊎_elim
            (λ (head : 32 * y.queue ≡ 32 * head_block).
            absurd (queue_off_head d e y owners v.here (has_queue y alive.1 alive.0) (same_blocks y.queue head_block head)))
            (λ (h : IsMetHead d (32 * y.queue)).
            let one : h.number ≡ e =
            same_number d owners h.number e h.endpoint y h.here v.here (kept_as h.endpoint h.met.there.kept) alive (sym h.at) in
            let is : h.endpoint ≡ y = same_Some h.endpoint y (sym h.here ∙ ap (slice_get d.endpoints) one ∙ v.here) in
            subst (λ (i : ℕ). IsMet (queued d) i (queued_endpoint y)) one
            (subst (λ (u : Endpoint). IsMet (queued d) h.number (queued_endpoint u)) is h.met))
            (met_head d near near_are (32 * y.queue) on);
      }

  -- no other queue heads are met then
  module _ (fewer : (n : ℕ) → narrow n ≡ true → near n ≡ true) where
    pub named_carried : (ends : ℕ → Told) → AreEndsNamed d ends → AreEndsNamed f ends
    named_carried ends named e z here met =
        let v : WasMet e z = was_met e z here met (fewer (32 * z.queue) (met_near f narrow narrow_are e z here met)) in
        ap (λ (q : ℕ). ends (32 * q)) v.before.comes.queue ∙ named e v.before.endpoint v.before.here v.met
        ∙ ap asked_as (sym v.before.comes.desc)

    pub by_way_carried : (sends takes : ℕ → ℕ → Bool) (ins outs left gone : ℕ → Bool) (ends : ℕ → Told) → AreStillMet narrow ins left
        → AreStillMet narrow outs gone → AreByWay (queued d) sends takes ins outs ends → AreByWay (queued f) sends takes left gone ends
    by_way_carried sends takes ins outs left gone ends ins_are outs_are k = record {
      each = by_queued f sends takes left gone ends real;
      head = (head_off ins left ins_are k.head.0, head_off outs gone outs_are k.head.1);
    }
      where
        head_off : (those rest : ℕ → Bool) → AreStillMet narrow those rest → those (32 * head_block) ≡ false
            → rest (32 * head_block) ≡ false
        head_off those rest are off = are (32 * head_block) ∙ ap (λ (b : Bool). b && narrow (32 * head_block)) off

        real : (e : ℕ) (z : Endpoint) → slice_get f.endpoints e ≡ Some z → IsMet (queued f) e (queued_endpoint z)
            → AsksTheWay sends takes left gone ends (32 * z.queue) z.desc.name.way
        real e z here met =
            let v : WasMet e z = was_met e z here met (fewer (32 * z.queue) (met_near f narrow narrow_are e z here met)) in
            let on : narrow (32 * z.queue) ≡ true = met_near f narrow narrow_are e z here met in
            asks_still sends takes ins outs left gone ends (32 * z.queue) z.desc.name.way
            (still_on narrow ins left ins_are (32 * z.queue) on) (still_on narrow outs gone outs_are (32 * z.queue) on)
            (subst (λ (c : EpDesc). AsksTheWay sends takes ins outs ends (32 * z.queue) c.name.way) (sym v.before.comes.desc)
            (subst (λ (q : ℕ). AsksTheWay sends takes ins outs ends (32 * q) v.before.endpoint.desc.name.way) (sym v.before.comes.queue)
            (by_real d sends takes ins outs ends k e v.before.endpoint v.before.here v.met)))
