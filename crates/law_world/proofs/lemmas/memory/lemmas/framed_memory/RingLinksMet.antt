-- The walk of the ring meets the queue heads of the driver once a link of the ring was stored.
use Rattle.std.proofs.Common.{◌≡◌, ◌≢◌, ℕ, suc, ◌*◌, Bool, true, nat_lt, if◌then◌else◌, slice_get, Option, Some, None, inl, inr, ap, sym, subst, ◌∙◌, ⊎_elim}
use Rattle.std.proofs.lemmas.Bool.{cases_eq}
use Rattle.std.proofs.lemmas.Option.{same_Some}
use Rattle.law_queues.proofs.Common.{none_open}
use Rattle.law_world.proofs.Common.{near_alive, not_opened}
use Rattle.drv_table.specs.declared.content.Endpoint.{Endpoint}
use Rattle.drv_table.specs.declared.content.Command.{Command}
use Rattle.drv_table.specs.declared.content.Command.TheVariants as unfinished
use Rattle.drv_table.specs.declared.rows.DriverRow.{DriverRow}
use Rattle.drv_table.specs.DriverContent.{DriverContent}
use Rattle.drv_table.specs.Parts.{Parts}
use Rattle.drv_table.specs.Rows.{row_for, driver_row, after_driver_row}
use Rattle.drv_table.specs.Commands.{command_row, advanced_by}
use Rattle.drv_table.specs.Words.{head_block, queue_head_link}
use Rattle.law_driver.specs.endpoint_lives.Lives.{may_meet}
use Rattle.law_driver.proofs.lemmas.endpoint_lives.Lives.{linked_met}
use Rattle.claims_driver.specs.Leaving.{HasOwners}
use Rattle.law_driver.proofs.lemmas.ring_members.Placed.{in_ring_alive, linked_alive, queues_apart}
use Rattle.hc_core.specs.Controller.{Content}
use Rattle.law_structures.specs.lent_structures.Structures.{StructureSets}
use Rattle.law_structures.specs.lent_structures.Sound.{IsMember}
use Rattle.law_ring.specs.Hand.{Hand}
use Rattle.claims_base.specs.Controller.{Base}
use Rattle.law_driver_ring.specs.Linked.{with_member, head_at, link_row}
use Rattle.law_driver_ring.specs.fed_queues.Places.{IsMet, HasHead, AreMet}
use Rattle.law_queues.specs.leaving_drivers.Before.{WasSame, IsAsBefore, NearSame}
use Rattle.law_queues.proofs.lemmas.leaving_drivers.Leaving.{unlink_is_as_before}
use Rattle.law_queues.specs.open_laws.Opens.{IsOpenLent}
use Rattle.law_queues.proofs.lemmas.open_laws.Standing.{member_here, member_old, member_beside}
use Rattle.law_world.proofs.lemmas.steps.lemmas.unlinked_streams.Passing.{row_is, unlink_row}
use Rattle.law_queues.specs.shared_memory.Shared.{parts_of, next_parts}
use Rattle.law_frames.specs.Met.{Kind}
use Rattle.law_frames.specs.FrameHand.{FrameHand}
use Rattle.law_world.specs.memory.framed_memory.Now.{IsFramedNow}
use Rattle.law_world.specs.memory.framed_memory.Ring.{HeadIsMet, OpenLinkMeets, UnlinkMeets}
use Rattle.law_world.proofs.lemmas.memory.lemmas.framed_memory.RingLinks.{ring_now}

-- ---- the head

pub head_is_met : HeadIsMet
head_is_met base member recent descs parts hand frame c d i met =
    let m : IsMember member head_at (parts head_at) = (ring_now base member recent descs parts hand frame c d i).ring.members head_at met.head in
    record { queue = m.queue; here = m.here; on = met.head }

-- ---- an open is linked

module _ (base : Base) (member : ℕ → Bool) (recent : ℕ → Option Kind) (descs parts : StructureSets) (hand : Hand) (frame : FrameHand) (c : Content) (d : DriverContent) (i : IsFramedNow base member recent descs parts hand frame c d) (k : IsOpenLent d member parts) (old : AreMet d member) where
  abbrev p : Parts
  p = parts_of c d

  abbrev x : Endpoint
  x = k.endpoint

  abbrev n : ℕ
  n = 32 * x.queue

  abbrev f : DriverContent
  f = record d { command = None; made = 0 }

  owners : HasOwners d
  owners = i.framed.place.sound.owners

  row_open : driver_row p ≡ link_row x.queue
  row_open = ap (row_for p) k.command ∙ ap (command_row (unfinished.Open x.queue)) k.made

  abbrev finished_by : ℕ → DriverContent
  finished_by j = if nat_lt (suc j) 2 then record d { made = suc j } else f

  then_is : (next_parts c d).driver ≡ f
  then_is = ap (λ (row : DriverRow). (after_driver_row row p).driver) row_open ∙ ap (advanced_by d) k.command ∙ ap finished_by k.made

  queue_of : Option Command → ℕ
  queue_of (Some (unfinished.Open b)) = b
  queue_of o = 0

  same_number : (e : ℕ) (y : Endpoint) → slice_get d.endpoints e ≡ Some y → may_meet d e y ≡ true → y.queue ≡ x.queue → e ≡ k.number
  same_number e y there near same =
      ⊎_elim (λ (one : e ≡ k.number). one)
      (λ (differs : e ≢ k.number).
      absurd (queues_apart d e k.number y x owners there (near_alive d e y owners there near) k.here (in_ring_alive d k.number x owners.orderly k.here k.fresh) differs same)) (cases_eq e k.number)

  met_before : (e : ℕ) (y : Endpoint) → slice_get d.endpoints e ≡ Some y → e ≢ k.number → IsMet f e y → IsMet d e y
  unfolding queue_of
  met_before e y there differs met =
      record { there = record { linked = λ same. differs (same_number e y there met.near (ap queue_of (sym same ∙ k.command))); kept = met.there.kept }; near = met.near }

  is_new : (e : ℕ) (y : Endpoint) → slice_get d.endpoints e ≡ Some y → e ≡ k.number → y ≡ x
  is_new e y there same = same_Some y x (sym there ∙ ap (slice_get d.endpoints) same ∙ k.here)

  head_new : (m : ℕ) → m ≡ n → HasHead f m
  head_new m same = record {
    number = k.number;
    endpoint = x;
    here = k.here;
    met = record { there = record { linked = none_open x.queue; kept = (linked_alive d k.number x owners.orderly k.here k.fresh).1 }; near = linked_met f k.number x k.fresh };
    at = same;
  }

  head_old : (m : ℕ) → HasHead d m → HasHead f m
  head_old m h = record { number = h.number; endpoint = h.endpoint; here = h.here; met = record { there = record { linked = none_open h.endpoint.queue; kept = h.met.there.kept }; near = h.met.near }; at = h.at }

  met_then : AreMet f (with_member member n)
  met_then = record {
    head = member_old member n head_at old.head;
    each = λ e y there met.
        ⊎_elim (λ (same : e ≡ k.number). ap (λ (z : Endpoint). with_member member n (32 * z.queue)) (is_new e y there same) ∙ member_here member n)
        (λ (differs : e ≢ k.number). member_old member n (32 * y.queue) (old.each e y there (met_before e y there differs met))) (cases_eq e k.number);
    only = λ m on.
        ⊎_elim (λ (same : m ≡ n). inr (head_new m same))
        (λ (differs : m ≢ n). ⊎_elim (λ (head : m ≡ 32 * head_block). inl head) (λ (h : HasHead d m). inr (head_old m h)) (old.only m (member_beside member n m differs on))) (cases_eq m n);
  }

  meets : AreMet (next_parts c d).driver (with_member member n)
  meets = subst (λ (g : DriverContent). AreMet g (with_member member n)) (sym then_is) met_then

pub open_link_meets : OpenLinkMeets
open_link_meets base member recent descs parts hand frame c d i k old = meets base member recent descs parts hand frame c d i k old

-- ---- an endpoint leaves the ring

-- where endpoints are as before, and may be met as before
met_as_before : (d f : DriverContent) (member : ℕ → Bool) → ((q : ℕ) → d.command ≢ Some (unfinished.Open q)) → ((q : ℕ) → f.command ≢ Some (unfinished.Open q)) → IsAsBefore d f → NearSame d f → AreMet d member → AreMet f member
met_as_before d f member no_open no_open_now same near old = record {
  head = old.head;
  each = λ e z there met.
      let w : WasSame d e z = same.ends e z there in
      ap (λ (b : ℕ). member (32 * b)) w.queue
      ∙ old.each e w.endpoint w.here (record { there = record { linked = no_open w.endpoint.queue; kept = sym w.gone ∙ met.there.kept }; near = sym (near e w.endpoint z w.here there) ∙ met.near });
  only = λ n on.
      ⊎_elim (λ (head : n ≡ 32 * head_block). inl head)
      (λ (h : HasHead d n).
      let w : WasSame f h.number h.endpoint = same.ends_now h.number h.endpoint h.here in
      inr
      (record {
        number = h.number;
        endpoint = w.endpoint;
        here = w.here;
        met = record { there = record { linked = no_open_now w.endpoint.queue; kept = sym w.gone ∙ h.met.there.kept }; near = near h.number h.endpoint w.endpoint h.here w.here ∙ h.met.near };
        at = h.at ∙ ap (λ (b : ℕ). 32 * b) w.queue;
      })) (old.only n on);
}

pub unlink_meets : UnlinkMeets
unlink_meets c d member parts k old =
    let p : Parts = parts_of c d in
    let f : DriverContent = (next_parts c d).driver in
    let done : f.command ≡ None = (unlink_row p member parts k).done in
    let before : IsAsBefore d f × NearSame d f
    = subst (λ (r : DriverRow). IsAsBefore d (after_driver_row r p).driver × NearSame d (after_driver_row r p).driver) (sym (row_is p member parts k))
    (unlink_is_as_before p k.number k.before (queue_head_link k.after) k.before (32 * k.before) (queue_head_link k.after) k.command) in
    met_as_before d f member (λ q opens. not_opened d.command k.number k.before (queue_head_link k.after) q k.command opens) (λ q opens. none_open q (sym done ∙ opens)) before.0 before.1 old
