-- Of an endpoint and a frame at most one lent descriptor has something active: the others were harvested, or are in other frames.
use Rattle.std.proofs.Common.{◌≡◌, ℕ, zero, suc, ◌+◌, ◌-◌, ◌*◌, ◌/◌, ◌<◌, ◌≤◌, ◌&&◌, not, Bool, true, false, cond, drop, length, slice_get, Option, Some, None, refl, ap, sym, subst, ◌∙◌, ⊎_elim, arith}
use Rattle.std.specs.Prelude.{option_and_then}
use Rattle.std.proofs.lemmas.Bool.{true≢false, cases_lt}
use Rattle.std.proofs.lemmas.Option.{same_Some, slice_get_within}
use Rattle.word_mem.specs.Memory.{Mem}
use Rattle.mem_runs.specs.declared.slots.Slot.{Slot}
use Rattle.mem_runs.specs.Book.{slot_of}
use Rattle.drv_chains.specs.declared.members.Descriptor.{Descriptor}
use Rattle.drv_periodic_table.specs.Periodic.{note_at, descriptor_name}
use Rattle.drv_table.specs.declared.content.Transfer.{Transfer}
use Rattle.drv_table.specs.declared.content.Command.{Command}
use Rattle.drv_table.specs.DriverContent.{DriverContent}
use Rattle.claims_driver.specs.Leaving.{HasOwners}
use Rattle.claims_driver.specs.LentRuns.{IsLent}
use Rattle.claims_driver.specs.FrameListMembers.{Placed, placed_of, framed_in, is_chained}
use Rattle.law_driver.specs.listed_members.Members.{IsListed}
use Rattle.law_driver.proofs.lemmas.listed_members.Standing.{descriptor_block}
use Rattle.claims_driver.specs.DueMembers.{framed_to, IsWaitingFor}
use Rattle.law_driver.specs.iso_frames.Frames.{AreInFrames}
use Rattle.law_driver.proofs.lemmas.iso_frames.Due.{an_endpoint_has_one_descriptor_a_frame}
use Rattle.law_driver.proofs.lemmas.iso_frames.Harvested.{get_dropped}
use Rattle.law_world.specs.memory.framed_memory.Isochronous.{AwaitsLend, AreAwaiting}
use Rattle.law_microframes.specs.visits.OneDescriptor.{HasOneActive, IsActiveDescriptor, OneDescriptorEach}
use Rattle.drv_periodic_table.specs.Descriptors.{is_served}
use Rattle.claims_driver.specs.Owners.{is_descriptor}
use Rattle.bus_world.specs.World.{World}
use Rattle.law_world.specs.memory.Mixed.{Standing, IsMixedAt}
use Rattle.drv_table.specs.declared.content.Command.TheVariants as unfinished

-- ---- what is lent has its frame

pub lent_framed : (d : DriverContent) (m : Mem) (number : ℕ) (y : Transfer) → AreAwaiting d m → slice_get d.transfers number ≡ Some y → IsLent (slot_of d.book.slots y.first)
    → number < framed_to d.command d.made (length d.transfers)
lent_framed d m number y await here lent = by d.command d.made refl refl
  where
    low : number < length d.transfers
    low = slice_get_within d.transfers number y here

    by : (c : Option Command) (made : ℕ) → d.command ≡ c → d.made ≡ made → number < framed_to c made (length d.transfers)
    by None made is at = low
    by (Some (unfinished.Open queue)) made is at = low
    by (Some (unfinished.Publish b words)) made is at = low
    by (Some (unfinished.Unlink e b link)) made is at = low
    by (Some unfinished.Chain) made is at = low
    by (Some (unfinished.Iso e t count)) zero is at =
        ⊎_elim (λ (less : number < t). less)
        (λ (more : t ≤ number).
        let a : AwaitsLend d m e t = await e t count is (omega (arith, at)) in
        let sum : t + (number - t) ≡ number = omega (arith, more) in
        let there : slice_get (drop t d.transfers) (number - t) ≡ Some y = get_dropped t d.transfers (number - t) ∙ ap (slice_get d.transfers) sum ∙ here in
        let l = a.await.each (number - t) y there in
        absurd (subst (λ (s : Slot). IsLent s) l.written.run.is lent)) (cases_lt number t)
    by (Some (unfinished.Iso e t count)) (suc made) is at = low
    by (Some (unfinished.Unchain e)) made is at = low

-- ---- one that is active waits for its harvest

-- one that has its frame, also where it isn't lent
pub record IsActiveFramed (d : DriverContent) (m : Mem) (e f n : ℕ) : Type 0 where
  pub number : ℕ
  pub transfer : Transfer
  pub here : slice_get d.transfers number ≡ Some transfer
  pub descriptor : is_descriptor transfer.sort ≡ true
  pub held : transfer.released ≡ false
  pub framed : number < framed_to d.command d.made (length d.transfers)
  pub endpoint : transfer.endpoint ≡ e
  pub frame : (note_at d.periodic.notes transfer.first).frame ≡ f
  pub at : n ≡ 32 * transfer.first
  pub active : is_served (note_at d.periodic.notes transfer.first) m transfer.first ≡ false

abbrev pub active_framed : (d : DriverContent) (m : Mem) (e f n : ℕ) → AreAwaiting d m → IsActiveDescriptor d m e f n → IsActiveFramed d m e f n
active_framed d m e f n await a = record {
  number = a.number;
  transfer = a.transfer;
  here = a.here;
  descriptor = a.descriptor;
  held = a.held;
  framed = lent_framed d m a.number a.transfer await a.here a.lent;
  endpoint = a.endpoint;
  frame = a.frame;
  at = a.at;
  active = a.active;
}

pub unreported : (d : DriverContent) (m : Mem) (e f n : ℕ) → HasOneActive d m → (a : IsActiveFramed d m e f n) → a.transfer.reported ≡ false
unreported d m e f n k a = by a.transfer.reported refl
  where
    by : (b : Bool) → a.transfer.reported ≡ b → a.transfer.reported ≡ false
    by true is = absurd (true≢false (sym (k.served a.number a.transfer a.here a.descriptor is a.held) ∙ a.active))
    by false is = is

abbrev its_member : {d : DriverContent} {m : Mem} {e f n : ℕ} → IsActiveFramed d m e f n → Descriptor
its_member {d} a = record { id = descriptor_name (note_at d.periodic.notes a.transfer.first) a.transfer.first; frame = (note_at d.periodic.notes a.transfer.first).frame }

in_frames : (d : DriverContent) (m : Mem) (e f n : ℕ) → HasOneActive d m → is_chained (framed_in d.endpoints e) ≡ true → (a : IsActiveFramed d m e f n) → IsWaitingFor d (its_member a) e
in_frames d m e f n k chained a = record {
  number = a.number;
  placed = placed;
  here = ap (λ (o : Option Transfer). option_and_then (placed_of d.endpoints) o) a.here ∙ ap (λ (b : Bool). cond b (Some placed) None) a.descriptor;
  framed = a.framed;
  endpoint = a.endpoint;
  waits =
      ap (λ (b : Bool). not b && is_chained (framed_in d.endpoints a.transfer.endpoint)) (unreported d m e f n k a)
      ∙ ap (λ (i : ℕ). is_chained (framed_in d.endpoints i)) a.endpoint ∙ chained;
  is = refl;
}
  where
    placed : Placed
    placed = record { endpoint = a.transfer.endpoint; block = a.transfer.first; waits = not a.transfer.reported && is_chained (framed_in d.endpoints a.transfer.endpoint) }

-- ---- two of one endpoint and one frame

same_first : (d : DriverContent) (m : Mem) (e f n l : ℕ) → HasOwners d → IsListed d → AreInFrames d → HasOneActive d m → (a : IsActiveFramed d m e f n) → (b : IsActiveFramed d m e f l)
    → a.transfer.first ≡ b.transfer.first
same_first d m e f n l owners listed frames k a b = by (is_chained (framed_in d.endpoints e)) refl
  where
    by : (c : Bool) → is_chained (framed_in d.endpoints e) ≡ c → a.transfer.first ≡ b.transfer.first
    by true on =
        let same : its_member a ≡ its_member b =
        an_endpoint_has_one_descriptor_a_frame d owners listed frames e (its_member a) (its_member b) (in_frames d m e f n k on a) (in_frames d m e f l k on b) (a.frame ∙ sym b.frame) in
        sym (descriptor_block d.periodic a.transfer.first) ∙ ap (λ (x : Descriptor). x.id / 32) same ∙ descriptor_block d.periodic b.transfer.first
    by false off =
        let same : a.number ≡ b.number =
        k.apart e a.number b.number a.transfer b.transfer off a.here b.here a.descriptor b.descriptor a.endpoint b.endpoint (unreported d m e f n k a) (unreported d m e f l k b) a.held b.held (a.frame ∙ sym b.frame) in
        ap (λ (y : Transfer). y.first) (same_Some a.transfer b.transfer (sym a.here ∙ ap (slice_get d.transfers) same ∙ b.here))

pub one_framed_each : (s : Standing) (w : World) (e f n l : ℕ) → IsMixedAt s w → HasOneActive w.driver w.memory
    → IsActiveFramed w.driver w.memory e f n → IsActiveFramed w.driver w.memory e f l → n ≡ l
one_framed_each s w e f n l mixed k a b =
    let sound = mixed.now.framed.place.sound in
    a.at ∙ ap (λ (i : ℕ). 32 * i) (same_first w.driver w.memory e f n l sound.owners sound.listed mixed.now.in_frames k a b) ∙ sym b.at

pub one_descriptor_each : OneDescriptorEach
one_descriptor_each s w e f n l mixed k a b =
    one_framed_each s w e f n l mixed k (active_framed w.driver w.memory e f n mixed.awaiting a)
    (active_framed w.driver w.memory e f l mixed.awaiting b)
