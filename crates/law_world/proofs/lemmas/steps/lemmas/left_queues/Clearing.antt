-- Once Async Advance was cleared, those that had left when the doorbell was rung aren't met any more.
use Rattle.std.proofs.Common.{◌≡◌, ◌⊎◌, ℕ, ◌*◌, ◌==◌, ◌&&◌, Bool, true, slice_get, Some, None, ap, sym, ◌∙◌, ⊎_elim, inl, inr, refl}
use Rattle.std.proofs.lemmas.Bool.{eqb-true, eq-eqb, and_parts, and_from, or_cases, or_left, or_right}
use Rattle.law_common.proofs.Booleans.{and_true}
use Rattle.drv_table.specs.declared.content.Endpoint.{Endpoint}
use Rattle.drv_table.specs.declared.rows.DriverRow.TheVariants as rows
use Rattle.drv_table.specs.DriverContent.{DriverContent}
use Rattle.drv_table.specs.Parts.{Parts}
use Rattle.drv_table.specs.Rows.{after_driver_row}
use Rattle.drv_table.specs.Words.{head_block}
use Rattle.law_driver.specs.endpoint_lives.Lives.{any_at}
use Rattle.law_driver.proofs.lemmas.endpoint_lives.Lives.{any_there, there_any}
use Rattle.claims_driver.specs.Leaving.{HasOwners}
use Rattle.law_ring.specs.Told.{Endpoint as Told}
use Rattle.law_driver.specs.chained_transfers.AsynchronousTurns.{AsynchronousTakesTurns}
use Rattle.law_driver_ring.specs.fed_queues.Places.{IsMet, HasHead, AreMet, HaveStreams}
use Rattle.law_queues.specs.reached_rings.Reaching.{may_reach, is_reached}
use Rattle.law_queues.specs.leaving_drivers.Before.{IsAsBefore, NearFewer}
use Rattle.law_queues.proofs.lemmas.leaving_drivers.Alike.{there_by}
use Rattle.law_queues.proofs.lemmas.leaving_drivers.Leaving.{clear_is_as_before}
use Rattle.law_world.specs.steps.left_queues.Standing.{met_streams, ClearStands}
use Rattle.law_world.proofs.lemmas.steps.lemmas.left_queues.Unmet.{near_kept, off_head_by}
use Rattle.law_world.proofs.lemmas.steps.lemmas.left_queues.Same.{fed_now, last_now, still_out_now, fronts_now, tails_now}

module _ (p : Parts) (rings : Bool) (idle : p.driver.command ≡ None) (owners : HasOwners p.driver) (turns : AsynchronousTakesTurns p.driver) (narrow : ℕ → Bool) (are : (n : ℕ) → narrow n ≡ is_reached (after_driver_row rows.ClearAdvance p).driver rings n) where
  abbrev d : DriverContent
  d = p.driver

  abbrev f : DriverContent
  f = (after_driver_row rows.ClearAdvance p).driver

  before : IsAsBefore d f
  before = (clear_is_as_before p idle).0

  near : NearFewer d f
  near = (clear_is_as_before p idle).1

  abbrev is_there : ℕ → ℕ → Endpoint → Bool
  is_there n e x = (n == 32 * x.queue) && may_reach f rings e x

  was_met : (e : ℕ) (x : Endpoint) → slice_get d.endpoints e ≡ Some x → IsMet f e x → IsMet d e x
  was_met e x here m = record { there = there_by d x before.idle m.there.kept; near = near e x x here here m.near }

  narrow_each : (e : ℕ) (x : Endpoint) → slice_get f.endpoints e ≡ Some x → IsMet f e x → narrow (32 * x.queue) ≡ true
  narrow_each e x here m =
      let n = 32 * x.queue in
      are n ∙ or_right (n == 32 * head_block) (any_at (is_there n) f.endpoints) (there_any (is_there n) f.endpoints e x here (and_from (n == n) (may_reach f rings e x) (eq-eqb n n refl) m.near))

  narrow_only : (n : ℕ) → narrow n ≡ true → (n ≡ 32 * head_block) ⊎ HasHead f n
  narrow_only n on =
      ⊎_elim (λ (head : (n == 32 * head_block) ≡ true). inl (eqb-true n (32 * head_block) head))
      (λ (any : any_at (is_there n) f.endpoints ≡ true).
      let r = any_there (is_there n) f.endpoints any in
      let b = and_parts (n == 32 * r.endpoint.queue) (may_reach f rings r.number r.endpoint) r.is in
      inr (record {
        number = r.number;
        endpoint = r.endpoint;
        here = r.here;
        met = record { there = there_by f r.endpoint before.idle_now (near_kept d r.number r.endpoint owners turns r.here (near r.number r.endpoint r.endpoint r.here r.here b.1)); near = b.1 };
        at = eqb-true n (32 * r.endpoint.queue) b.0;
      }))
      (or_cases (n == 32 * head_block) (any_at (is_there n) f.endpoints) (sym (are n) ∙ on))

  narrow_met : AreMet f narrow
  narrow_met = record {
    head = are (32 * head_block) ∙ or_left (32 * head_block == 32 * head_block) (any_at (is_there (32 * head_block)) f.endpoints) (eq-eqb (32 * head_block) (32 * head_block) refl);
    each = narrow_each;
    only = narrow_only;
  }

  narrow_streams : (streams : ℕ → Bool) (ends : ℕ → Told) → HaveStreams d streams ends → HaveStreams f (met_streams streams narrow) ends
  narrow_streams streams ends old = record {
    each = λ e x here m.
        let one = old.each e x here (was_met e x here m) in
        (ap (λ (b : Bool). streams (32 * x.queue) && b) (narrow_each e x here m) ∙ and_true (streams (32 * x.queue)) ∙ one.0, one.1);
    only = λ n on.
        let b = and_parts (streams n) (narrow n) on in
        let h = old.only n b.0 in
        ⊎_elim (λ (head : n ≡ 32 * head_block). absurd (off_head_by d h.number h.endpoint owners turns h.here h.met.there.kept (sym h.at ∙ head))) (λ (k : HasHead f n). k) (narrow_only n b.1);
  }

pub clear_stands : ClearStands
clear_stands p member narrow streams ends parts order out rings idle owners turns are old =
    let d = p.driver in
    let f = (after_driver_row rows.ClearAdvance p).driver in
    let b = clear_is_as_before p idle in
    record {
      queues = record {
        met = narrow_met p rings idle owners turns narrow are;
        streams_are = narrow_streams p rings idle owners turns narrow are streams ends old.queues.streams_are;
        fed = fed_now d f b.0 parts old.queues.fed;
        last = last_now d f b.0 parts order old.queues.last;
        out_are = still_out_now d f b.0 out old.queues.out_are;
      };
      fronts = fronts_now d f b.0 b.1 parts order out old.fronts;
      tails = tails_now d f b.0 b.1 parts order out old.tails;
    }
