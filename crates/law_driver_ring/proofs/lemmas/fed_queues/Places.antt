-- Which queue heads are met stays, where the ring is as it was.
use Rattle.std.proofs.Common.{◌≡◌, ◌≢◌, ℕ, ◌*◌, Bool, List, slice_get, Some, None, ap, sym, ◌∙◌, ⊎_elim, inl, inr, refl}
use Rattle.usb_base.specs.declared.endpoints.EpDesc.{EpDesc}
use Rattle.drv_table.specs.declared.content.Endpoint.{Endpoint}
use Rattle.drv_table.specs.declared.content.Command.TheVariants as unfinished
use Rattle.drv_table.specs.DriverContent.{DriverContent}
use Rattle.drv_table.specs.Words.{head_block, queue_head}
use Rattle.law_driver.proofs.lemmas.endpoint_lives.Lives.{linked_met, met_alike}
use Rattle.law_ring.specs.Told.{Endpoint as Told, endpoint_of}
use Rattle.claims_driver.specs.Scripts.{comes_in}
use Rattle.law_driver.specs.chained_transfers.Bulk.{IsStanding}
use Rattle.law_driver.specs.chained_transfers.Asynchronous.{StandsAsynchronous}
use Rattle.law_driver.proofs.lemmas.chained_transfers.BulkAndControl.{standing}
use Rattle.law_driver.proofs.lemmas.chained_transfers.Staying.{stands_alive, stands_linked}
use Rattle.law_driver_ring.specs.fed_queues.Places.{IsThere, IsMet, HasHead, HasThere, AreMet, HaveStreams}

-- ---- one endpoint

-- the same have left, and no other endpoint is being opened
pub record SameRing (d f : DriverContent) : Type 0 where
  pub waiting : f.waiting ≡ d.waiting
  pub rung : f.rung ≡ d.rung
  pub opens : (c : ℕ) → f.command ≡ Some (unfinished.Open c) → d.command ≡ Some (unfinished.Open c)

pub record SameLife (x z : Endpoint) : Type 0 where
  pub desc : z.desc ≡ x.desc
  pub queue : z.queue ≡ x.queue
  pub linked : z.linked ≡ x.linked
  pub gone : z.gone ≡ x.gone

pub same_life : (x : Endpoint) → SameLife x x
same_life x = record { desc = refl; queue = refl; linked = refl; gone = refl }

pub life_back : (x z : Endpoint) → SameLife x z → SameLife z x
life_back x z l = record { desc = sym l.desc; queue = sym l.queue; linked = sym l.linked; gone = sym l.gone }

pub there_as : (d f : DriverContent) (x z : Endpoint) → SameRing d f → SameLife x z → IsThere d x → IsThere f z
there_as d f x z s l t = record { linked = λ is. t.linked (s.opens z.queue is ∙ ap (λ (q : ℕ). Some (unfinished.Open q)) l.queue); kept = l.gone ∙ t.kept }

pub met_as : (d f : DriverContent) (e : ℕ) (x z : Endpoint) → SameRing d f → SameLife x z → IsMet d e x → IsMet f e z
met_as d f e x z s l m = record { there = there_as d f x z s l m.there; near = met_alike d f e x z l.linked s.waiting s.rung ∙ m.near }

-- one that goes on is met
pub stands_met : (d : DriverContent) (e : ℕ) (x : Endpoint) → StandsAsynchronous x → x.ended ≡ None → d.command ≢ Some (unfinished.Open x.queue) → IsMet d e x
stands_met d e x s goes linked = record { there = record { linked = linked; kept = stands_alive x s goes }; near = linked_met d e x (stands_linked x s goes) }

pub going_met : (d : DriverContent) (e : ℕ) (x : Endpoint) → IsStanding x → x.ended ≡ None → d.command ≢ Some (unfinished.Open x.queue) → IsMet d e x
going_met d e x s = stands_met d e x (standing x s)

-- ---- all of them

pub record WasLike (d : DriverContent) (e : ℕ) (z : Endpoint) : Type 0 where
  pub endpoint : Endpoint
  pub here : slice_get d.endpoints e ≡ Some endpoint
  pub life : SameLife endpoint z

pub record SameQueues (d f : DriverContent) : Type 0 where
  pub ring : SameRing d f
  pub back : SameRing f d
  pub was : (e : ℕ) (z : Endpoint) → slice_get f.endpoints e ≡ Some z → WasLike d e z
  pub is : (e : ℕ) (x : Endpoint) → slice_get d.endpoints e ≡ Some x → WasLike f e x

pub same_ends : (d f : DriverContent) → SameRing d f → SameRing f d → f.endpoints ≡ d.endpoints → SameQueues d f
same_ends d f ring back same = record {
  ring = ring;
  back = back;
  was = λ e z here. record { endpoint = z; here = ap (λ (xs : List Endpoint). slice_get xs e) (sym same) ∙ here; life = same_life z };
  is = λ e x here. record { endpoint = x; here = ap (λ (xs : List Endpoint). slice_get xs e) same ∙ here; life = same_life x };
}

pub head_as : (d f : DriverContent) (n : ℕ) → SameQueues d f → HasHead d n → HasHead f n
head_as d f n s h =
    let w = s.is h.number h.endpoint h.here in
    record {
      number = h.number;
      endpoint = w.endpoint;
      here = w.here;
      met = met_as d f h.number h.endpoint w.endpoint s.ring (life_back w.endpoint h.endpoint w.life) h.met;
      at = h.at ∙ ap (λ (q : ℕ). 32 * q) w.life.queue;
    }

pub there_at : (d f : DriverContent) (n : ℕ) → SameQueues d f → HasThere d n → HasThere f n
there_at d f n s h =
    let w = s.is h.number h.endpoint h.here in
    record {
      number = h.number;
      endpoint = w.endpoint;
      here = w.here;
      there = there_as d f h.endpoint w.endpoint s.ring (life_back w.endpoint h.endpoint w.life) h.there;
      at = h.at ∙ ap (λ (q : ℕ). 32 * q) w.life.queue;
    }

pub met_stays : (d f : DriverContent) (member : ℕ → Bool) → SameQueues d f → AreMet d member → AreMet f member
met_stays d f member s old = record {
  head = old.head;
  each = λ e z here met.
      let w = s.was e z here in
      ap (λ (q : ℕ). member (32 * q)) w.life.queue ∙ old.each e w.endpoint w.here (met_as f d e z w.endpoint s.back (life_back w.endpoint z w.life) met);
  only = λ n on. ⊎_elim (λ (head : n ≡ 32 * head_block). inl head) (λ (h : HasHead d n). inr (head_as d f n s h)) (old.only n on);
}

pub streams_stay : (d f : DriverContent) (streams : ℕ → Bool) (ends : ℕ → Told) → SameQueues d f → HaveStreams d streams ends → HaveStreams f streams ends
streams_stay d f streams ends s old = record {
  each = λ e z here met.
      let w = s.was e z here in
      let one = old.each e w.endpoint w.here (met_as f d e z w.endpoint s.back (life_back w.endpoint z w.life) met) in (
        ap (λ (q : ℕ). streams (32 * q)) w.life.queue ∙ one.0 ∙ ap (λ (desc : EpDesc). comes_in desc.name.way) (sym w.life.desc),
        ap (λ (q : ℕ). ends (32 * q)) w.life.queue ∙ one.1 ∙ ap (λ (desc : EpDesc). endpoint_of (queue_head desc 0 z.dummy)) (sym w.life.desc),
      );
  only = λ n on. head_as d f n s (old.only n on);
}
