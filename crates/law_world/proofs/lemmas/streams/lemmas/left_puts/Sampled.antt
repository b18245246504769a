-- The drivers of the worked rows.
use Rattle.std.proofs.Common.{◌≡◌, ℕ, zero, suc, [], ◌∷◌, slice_get, Some, ap, refl, sym, ◌∙◌}
use Rattle.std.proofs.lemmas.Option.{same_Some}
use Rattle.drv_table.specs.declared.content.Endpoint.{Endpoint}
use Rattle.drv_table.specs.DriverContent.{DriverContent}
use Rattle.drv_table.specs.Harvests.{buffer_bytes}
use Rattle.drv_table.specs.Rows.{after_driver_row}
use Rattle.drv_table.specs.Releases.{free_qtds, free_transfers}
use Rattle.law_driver.specs.endpoint_lives.Lives.{told_end, may_meet}
use Rattle.law_world.specs.steps.endpoint_releases.Released.{endpoint_row}
use Rattle.law_queues.specs.leaving_drivers.Before.{WasSame, IsAsBefore, NearSame}
use Rattle.law_world.specs.streams.put_laws.Held.{held_bytes}
use Rattle.law_world.specs.streams.put_laws.Owed.{rest_of}
use Rattle.law_world.specs.streams.put_laws.OwedSamples.{receiver, buffers, at_half}
use Rattle.law_world.specs.streams.left_puts.Samples.{cancelled_half, two_parts}

none_behind : {X : Type 0} (x z : X) (i : ℕ) → slice_get (x ∷ []) (suc i) ≡ Some z → ⊥
none_behind x z i here = cc

-- drivers of one endpoint
one_same : (d : DriverContent) (x y z : Endpoint) (i : ℕ) → slice_get d.endpoints 0 ≡ Some x → y.queue ≡ x.queue → y.dummy ≡ x.dummy → y.desc ≡ x.desc → y.next ≡ x.next → y.gone ≡ x.gone → told_end y ≡ told_end x
    → slice_get (y ∷ []) i ≡ Some z → WasSame d i z
one_same d x y z zero there queue dummy desc next gone ends here =
    let is : z ≡ y = sym (same_Some y z here) in
    record {
      endpoint = x;
      here = there;
      queue = ap (λ (r : Endpoint). r.queue) is ∙ queue;
      dummy = ap (λ (r : Endpoint). r.dummy) is ∙ dummy;
      desc = ap (λ (r : Endpoint). r.desc) is ∙ desc;
      next = ap (λ (r : Endpoint). r.next) is ∙ next;
      gone = ap (λ (r : Endpoint). r.gone) is ∙ gone;
      ends = ap (λ (r : Endpoint). told_end r) is ∙ ends;
    }
one_same d x y z (suc i) there queue dummy desc next gone ends here = absurd (none_behind y z i here)

pub cancel_before : IsAsBefore at_half cancelled_half
cancel_before = record {
  book = refl;
  notes = refl;
  transfers = refl;
  harvested = refl;
  reports = refl;
  store = refl;
  idle = tt;
  idle_now = tt;
  ends = λ i z here. one_same at_half receiver _ z i refl refl refl refl refl refl refl here;
  ends_now = λ i x here. one_same cancelled_half _ receiver x i refl refl refl refl refl refl refl here;
}

pub cancel_near : NearSame at_half cancelled_half
cancel_near zero x z was now = ap (λ (r : Endpoint). may_meet cancelled_half 0 r) (sym (same_Some _ z now)) ∙ ap (λ (r : Endpoint). may_meet at_half 0 r) (same_Some receiver x was)
cancel_near (suc e) x z was now = absurd (none_behind receiver x e was)

pub cancel_rest : rest_of cancelled_half buffers 0 ≡ 3 ∷ 4 ∷ 5 ∷ []
unfolding held_bytes buffer_bytes
cancel_rest = refl

pub release_rest : rest_of (after_driver_row (endpoint_row 1) two_parts).driver (after_driver_row (endpoint_row 1) two_parts).memory 0 ≡ 3 ∷ 4 ∷ 5 ∷ []
unfolding held_bytes buffer_bytes free_qtds free_transfers
release_rest = refl
