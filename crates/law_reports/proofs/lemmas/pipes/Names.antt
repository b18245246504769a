-- Which endpoints are met, by their own descriptions: what the queues tell of them is told otherwise.
use Rattle.std.proofs.Common.{◌≡◌, ◌≢◌, ℕ, ◌*◌, Bool, true, false, cond, List, map, slice_get, Option, Some, None, option_map, ap, refl}
use Rattle.std.proofs.Common.{sym, subst, ◌∙◌, ⊎_elim, inl, inr}
use Rattle.std.specs.Prelude.{◌⊎◌}
use Rattle.std.proofs.lemmas.Bool.{cases_eq, true≢false, false≢true}
use Rattle.std.proofs.lemmas.Option.{slice_get-map, same_Some}
use Rattle.law_common.proofs.Booleans.{off_by}
use Rattle.law_driver.proofs.Common.{of_queue, of_none, get_queued}
use Rattle.law_common.proofs.Numbers.{same_blocks}
use Rattle.usb_base.specs.declared.endpoints.EpName.{EpName}
use Rattle.usb_base.specs.declared.packets.Way.{Way}
use Rattle.usb_base.specs.declared.packets.Way.TheVariants as ways
use Rattle.bus_wire.specs.Fates.{is_same_name}
use Rattle.claims_driver.specs.Leaving.{HasOwners}
use Rattle.drv_table.specs.declared.content.Endpoint.{Endpoint}
use Rattle.drv_table.specs.DriverContent.{DriverContent}
use Rattle.drv_table.specs.Kinds.{is_iso}
use Rattle.drv_table.specs.Words.{head_block}
use Rattle.law_driver.specs.queued_drivers.Queued.{without_queue, with_queue, queued_endpoint, queued}
use Rattle.law_driver.proofs.lemmas.queued_drivers.CommandFields.{name_same}
use Rattle.law_driver.proofs.lemmas.ring_members.Placed.{has_queue, queues_apart, queue_off_head}
use Rattle.law_ring.specs.Told.{Endpoint as Told}
use Rattle.law_controller.specs.controlled_streams.Unopened.{IsUnopened}
use Rattle.law_driver_ring.specs.fed_queues.Places.{IsMet, HasHead, AreMet}
use Rattle.law_queues.proofs.lemmas.told_endpoints.Names.{name_is_same}
use Rattle.law_world.specs.memory.pipe_steps.Pipes.{AsksTheWay, AreByWay}
use Rattle.law_reports.specs.pipes.Piped.{AreEndsNamed}

-- ---- as the queues tell it

pub queue_same : (x : Endpoint) → (queued_endpoint x).queue ≡ x.queue
queue_same x = by (is_iso x.desc.kind)
  where
    by : (b : Bool) → (cond b (without_queue x) (with_queue x)).queue ≡ x.queue
    by true = refl
    by false = refl

pub kept_as : (x : Endpoint) → (queued_endpoint x).gone ≡ false → (x.gone ≡ false) × (is_iso x.desc.kind ≡ false)
kept_as x kept = by (is_iso x.desc.kind) refl
  where
    by : (b : Bool) → is_iso x.desc.kind ≡ b → (x.gone ≡ false) × (is_iso x.desc.kind ≡ false)
    by true is = absurd (true≢false (sym (ap (λ (y : Endpoint). y.gone) (of_none x is)) ∙ kept))
    by false is = (sym (ap (λ (y : Endpoint). y.gone) (of_queue x is)) ∙ kept, is)

pub record WasQueued (xs : List Endpoint) (e : ℕ) (y : Endpoint) : Type 0 where
  pub endpoint : Endpoint
  pub here : slice_get xs e ≡ Some endpoint
  pub is : y ≡ queued_endpoint endpoint

none_some : {X : Type 0} (x : X) → ◌≡◌ {A = Option X} None (Some x) → ⊥
none_some x is = cc

pub was_queued : (xs : List Endpoint) (e : ℕ) (y : Endpoint) → slice_get (map queued_endpoint xs) e ≡ Some y → WasQueued xs e y
was_queued xs e y there = by (slice_get xs e) refl
  where
    by : (o : Option Endpoint) → slice_get xs e ≡ o → WasQueued xs e y
    by None at = absurd (none_some y (sym (slice_get-map queued_endpoint xs e ∙ ap (option_map queued_endpoint) at) ∙ there))
    by (Some x) at = record { endpoint = x; here = at; is = same_Some y (queued_endpoint x) (sym there ∙ get_queued xs e x at) }

-- ---- one queue head is that of one endpoint

pub same_number : (d : DriverContent) → HasOwners d → (e f : ℕ) (y v : Endpoint) → slice_get d.endpoints e ≡ Some y
    → slice_get d.endpoints f ≡ Some v → (y.gone ≡ false) × (is_iso y.desc.kind ≡ false) → (v.gone ≡ false) × (is_iso v.desc.kind ≡ false)
    → 32 * y.queue ≡ 32 * v.queue → e ≡ f
same_number d owners e f y v here there kept also same =
    ⊎_elim (λ (is : e ≡ f). is)
    (λ (differs : e ≢ f).
    absurd (queues_apart d e f y v owners here (has_queue y kept.1 kept.0) there (has_queue v also.1 also.0) differs
    (same_blocks y.queue v.queue same))) (cases_eq e f)

-- ---- those that are met

pub record IsMetHead (d : DriverContent) (n : ℕ) : Type 0 where
  pub number : ℕ
  pub endpoint : Endpoint
  pub here : slice_get d.endpoints number ≡ Some endpoint
  pub met : IsMet (queued d) number (queued_endpoint endpoint)
  pub at : n ≡ 32 * endpoint.queue

pub met_head : (d : DriverContent) (near : ℕ → Bool) → AreMet (queued d) near → (n : ℕ) → near n ≡ true
    → (n ≡ 32 * head_block) ⊎ IsMetHead d n
met_head d near k n on = ⊎_elim (λ (is : n ≡ 32 * head_block). inl is) (λ (h : HasHead (queued d) n). inr (of h)) (k.only n on)
  where
    of : HasHead (queued d) n → IsMetHead d n
    of h =
        let v : WasQueued d.endpoints h.number h.endpoint = was_queued d.endpoints h.number h.endpoint h.here in
        record {
          number = h.number;
          endpoint = v.endpoint;
          here = v.here;
          met = subst (IsMet (queued d) h.number) v.is h.met;
          at = h.at ∙ ap (λ (y : Endpoint). 32 * y.queue) v.is ∙ ap (λ (q : ℕ). 32 * q) (queue_same v.endpoint);
        }

pub met_near : (d : DriverContent) (near : ℕ → Bool) → AreMet (queued d) near → (e : ℕ) (y : Endpoint) → slice_get d.endpoints e ≡ Some y
    → IsMet (queued d) e (queued_endpoint y) → near (32 * y.queue) ≡ true
met_near d near k e y here met =
    ap (λ (q : ℕ). near (32 * q)) (sym (queue_same y)) ∙ k.each e (queued_endpoint y) (get_queued d.endpoints e y here) met

-- it is none of these
pub unmet_off : (d : DriverContent) (near : ℕ → Bool) → HasOwners d → AreMet (queued d) near → (e : ℕ) (y : Endpoint)
    → slice_get d.endpoints e ≡ Some y → (queued_endpoint y).gone ≡ false → (IsMet (queued d) e (queued_endpoint y) → ⊥)
    → near (32 * y.queue) ≡ false
unmet_off d near owners k e y here kept unmet =
    off_by (near (32 * y.queue)) (λ on.
    ⊎_elim
    (λ (head : 32 * y.queue ≡ 32 * head_block).
    queue_off_head d e y owners here (has_queue y (kept_as y kept).1 (kept_as y kept).0) (same_blocks y.queue head_block head))
    (λ (h : IsMetHead d (32 * y.queue)).
    let same : h.number ≡ e =
    same_number d owners h.number e h.endpoint y h.here here (kept_as h.endpoint h.met.there.kept) (kept_as y kept) (sym h.at) in
    let one : h.endpoint ≡ y = same_Some h.endpoint y (sym h.here ∙ ap (slice_get d.endpoints) same ∙ here) in
    unmet (subst (λ (i : ℕ). IsMet (queued d) i (queued_endpoint y)) same
    (subst (λ (v : Endpoint). IsMet (queued d) h.number (queued_endpoint v)) one h.met)))
    (met_head d near k (32 * y.queue) on))

-- ---- the way of each

pub by_real : (d : DriverContent) (sends takes : ℕ → ℕ → Bool) (ins outs : ℕ → Bool) (ends : ℕ → Told)
    → AreByWay (queued d) sends takes ins outs ends → (e : ℕ) (y : Endpoint) → slice_get d.endpoints e ≡ Some y
    → IsMet (queued d) e (queued_endpoint y) → AsksTheWay sends takes ins outs ends (32 * y.queue) y.desc.name.way
by_real d sends takes ins outs ends k e y here met =
    subst (λ (name : EpName). AsksTheWay sends takes ins outs ends (32 * y.queue) name.way) (name_same y)
    (subst (λ (q : ℕ). AsksTheWay sends takes ins outs ends (32 * q) (queued_endpoint y).desc.name.way) (queue_same y)
    (k.each e (queued_endpoint y) (get_queued d.endpoints e y here) met))

pub by_queued : (d : DriverContent) (sends takes : ℕ → ℕ → Bool) (ins outs : ℕ → Bool) (ends : ℕ → Told)
    → ((e : ℕ) (z : Endpoint) → slice_get d.endpoints e ≡ Some z → IsMet (queued d) e (queued_endpoint z)
    → AsksTheWay sends takes ins outs ends (32 * z.queue) z.desc.name.way)
    → (e : ℕ) (u : Endpoint) → slice_get (queued d).endpoints e ≡ Some u → IsMet (queued d) e u
    → AsksTheWay sends takes ins outs ends (32 * u.queue) u.desc.name.way
by_queued d sends takes ins outs ends real e u here met =
    let z : WasQueued d.endpoints e u = was_queued d.endpoints e u here in
    subst (λ (v : Endpoint). AsksTheWay sends takes ins outs ends (32 * v.queue) v.desc.name.way) (sym z.is)
    (subst (λ (q : ℕ). AsksTheWay sends takes ins outs ends (32 * q) (queued_endpoint z.endpoint).desc.name.way)
    (sym (queue_same z.endpoint))
    (subst (λ (name : EpName). AsksTheWay sends takes ins outs ends (32 * z.endpoint.queue) name.way) (sym (name_same z.endpoint))
    (real e z.endpoint z.here (subst (IsMet (queued d) e) z.is met))))

-- the queue heads of a way with a stream
abbrev pub those_of : Way → (ℕ → Bool) → (ℕ → Bool) → ℕ → Bool
those_of ways.In ins outs n = ins n
those_of ways.Out ins outs n = outs n
those_of ways.Ctl ins outs n = false

its_way : (sends takes : ℕ → ℕ → Bool) (ins outs : ℕ → Bool) (ends : ℕ → Told) (n : ℕ) (way its : Way)
    → those_of way ins outs n ≡ true → AsksTheWay sends takes ins outs ends n its → its ≡ way
its_way sends takes ins outs ends n ways.In ways.In on asks = refl
its_way sends takes ins outs ends n ways.In ways.Out on asks = absurd (false≢true (sym asks.0 ∙ on))
its_way sends takes ins outs ends n ways.In ways.Ctl on asks = absurd (false≢true (sym asks.0 ∙ on))
its_way sends takes ins outs ends n ways.Out ways.Out on asks = refl
its_way sends takes ins outs ends n ways.Out ways.In on asks = absurd (false≢true (sym asks.0 ∙ on))
its_way sends takes ins outs ends n ways.Out ways.Ctl on asks = absurd (false≢true (sym asks.1 ∙ on))
its_way sends takes ins outs ends n ways.Ctl its on asks = absurd (false≢true on)

pub record IsHeadOf (d : DriverContent) (way : Way) (n : ℕ) : Type 0 where
  pub head : IsMetHead d n
  pub way_is : head.endpoint.desc.name.way ≡ way

pub head_of : (d : DriverContent) (near : ℕ → Bool) (sends takes : ℕ → ℕ → Bool) (ins outs : ℕ → Bool) (ends : ℕ → Told)
    → AreMet (queued d) near → AreByWay (queued d) sends takes ins outs ends → (way : Way) (n : ℕ) → those_of way ins outs n ≡ true
    → near n ≡ true → IsHeadOf d way n
head_of d near sends takes ins outs ends k by_way way n on met =
    ⊎_elim (λ (head : n ≡ 32 * head_block). absurd (no_head way head on)) of (met_head d near k n met)
  where
    no_head : (its : Way) → n ≡ 32 * head_block → those_of its ins outs n ≡ true → ⊥
    no_head ways.In head some = false≢true (sym by_way.head.0 ∙ sym (ap ins head) ∙ some)
    no_head ways.Out head some = false≢true (sym by_way.head.1 ∙ sym (ap outs head) ∙ some)
    no_head ways.Ctl head some = false≢true some

    of : IsMetHead d n → IsHeadOf d way n
    of h = record {
      head = h;
      way_is = its_way sends takes ins outs ends n way h.endpoint.desc.name.way on
          (subst (λ (i : ℕ). AsksTheWay sends takes ins outs ends i h.endpoint.desc.name.way) (sym h.at)
          (by_real d sends takes ins outs ends by_way h.number h.endpoint h.here h.met));
    }

-- ---- names

pub name_is : (a b : EpName) → a.addr ≡ b.addr → a.num ≡ b.num → a.way ≡ b.way → is_same_name a b ≡ true
name_is a b addr num way =
    ap (λ (i : ℕ). is_same_name (record { addr = i; num = a.num; way = a.way }) b) addr
    ∙ ap (λ (i : ℕ). is_same_name (record { addr = b.addr; num = i; way = a.way }) b) num
    ∙ ap (λ (i : Way). is_same_name (record { addr = b.addr; num = b.num; way = i }) b) way ∙ name_is_same b

-- no queue head with a stream of this way asks an endpoint of a name whose endpoints aren't met
pub unasked : (d : DriverContent) (near : ℕ → Bool) (sends takes : ℕ → ℕ → Bool) (ins outs : ℕ → Bool) (ends : ℕ → Told)
    → AreMet (queued d) near → AreByWay (queued d) sends takes ins outs ends → AreEndsNamed d ends → (way : Way) (addr ep : ℕ)
    → ((n : ℕ) → those_of way ins outs n ≡ true → near n ≡ true)
    → ((e : ℕ) (y : Endpoint) → slice_get d.endpoints e ≡ Some y → y.desc.name.way ≡ way → y.desc.name.addr ≡ addr
    → y.desc.name.num ≡ ep → IsMet (queued d) e (queued_endpoint y) → ⊥)
    → IsUnopened (λ n. those_of way ins outs n) ends addr ep
unasked d near sends takes ins outs ends k by_way named way addr ep members unmet n on same also =
    let h : IsHeadOf d way n = head_of d near sends takes ins outs ends k by_way way n on (members n on) in
    let v : IsMetHead d n = h.head in
    let is : ends n ≡ ends (32 * v.endpoint.queue) = ap ends v.at in
    let its = is ∙ named v.number v.endpoint v.here v.met in
    unmet v.number v.endpoint v.here h.way_is (sym (ap (λ (t : Told). t.addr) its) ∙ same) (sym (ap (λ (t : Told). t.ep) its) ∙ also) v.met
