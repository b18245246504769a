-- At each moment of a script the descriptors of an endpoint that left its frames have frames of its placement, and each periodic endpoint
-- has a transaction (EHCI 1.0, 3.3, 3.4, 4.6 and 4.7).
use Rattle.std.proofs.Common.{◌≡◌, ℕ, ◌≤◌, ◌⊎◌, Bool, true, false, List, [], ◌∷◌, ◌++◌, length, slice_get, Option, Some, None, Result, Ok, Err, option_map, ap, refl, sym, subst, ◌∙◌, ⊎_elim, inl, inr, arith}
use Rattle.std.proofs.lemmas.Bool.{true≢false}
use Rattle.std.proofs.lemmas.Option.{same_Some, slice_get_within}
use Rattle.law_common.proofs.Lists.{push_which}
use Rattle.law_world.proofs.Common.{lines_can}
use Rattle.usb_base.specs.declared.commands.Cmd.{Cmd}
use Rattle.usb_base.specs.declared.commands.Cmd.TheVariants as commands
use Rattle.usb_base.specs.declared.endpoints.EpDesc.{EpDesc}
use Rattle.usb_base.specs.declared.endpoints.EpName.{EpName}
use Rattle.usb_base.specs.declared.reports.OfferError.{OfferError}
use Rattle.script_types.specs.declared.scripts.Script.{Script}
use Rattle.script_fits.specs.Fits.{IsFit}
use Rattle.law_scripts.specs.byte_answers.Bytes.{IsByteScript}
use Rattle.bandwidth.specs.Sums.{is_active}
use Rattle.bandwidth.specs.declared.placements.Placement.{Placement}
use Rattle.drv_periodic_table.specs.declared.content.DescriptorNote.{DescriptorNote}
use Rattle.drv_periodic_table.specs.Periodic.{is_periodic, note_at}
use Rattle.drv_table.specs.declared.content.Endpoint.{Endpoint}
use Rattle.drv_table.specs.declared.content.Transfer.{Transfer}
use Rattle.drv_table.specs.declared.content.Command.{Command}
use Rattle.drv_table.specs.declared.content.Command.TheVariants as unfinished
use Rattle.drv_table.specs.DriverContent.{DriverContent}
use Rattle.drv_table.specs.Accepting.{Offered}
use Rattle.drv_table.specs.Offers.{Asked, offered, IsOffered, new_transfer}
use Rattle.drv_table.specs.CancelOffers.{with_cancel, endpoint_members}
use Rattle.drv_table.specs.Rows.{driver_row}
use Rattle.claims_driver.specs.Owners.{is_descriptor}
use Rattle.claims_driver.specs.Leaving.{HasOwners}
use Rattle.law_driver.proofs.lemmas.run_owners.Reasons.{each_event_is_due}
use Rattle.law_driver.proofs.lemmas.run_owners.Stays.{begun_notes}
use Rattle.claims_driver.specs.FrameListMembers.{framed_of, is_chained}
use Rattle.claims_driver.specs.DueMembers.{framed_to}
use Rattle.law_driver.proofs.lemmas.queued_drivers.CommandReasons.{IsNew, in_ring, in_frames, bare, IsTakenOn, IsLeft, from_ring, from_frames, reason_of}
use Rattle.law_world.specs.steps.receiving_runs.Runs.{IsKeptBy}
use Rattle.law_world.proofs.lemmas.steps.lemmas.receiving_runs.Runs.{holds_throughout}
use Rattle.law_world.specs.memory.Mixed.{IsMixedWorld}
use Rattle.law_world.specs.memory.Laws.{OpensMixed}
use Rattle.law_world.specs.memory.PlacedLaws.{FitsMixed}
use Rattle.law_world.proofs.lemmas.memory.Opening.{new_world_is_mixed}
use Rattle.law_world.proofs.lemmas.memory.Controller.{controller_keeps_mixed}
use Rattle.law_world.proofs.lemmas.memory.Driving.{driver_keeps_mixed}
use Rattle.law_world.proofs.lemmas.memory.CommandKeeping.{command_keeps_mixed}
use Rattle.law_world.proofs.lemmas.memory.lemmas.framed_memory.EndpointFacts.{after_row, IsOfOpened, after_command}
use Rattle.bus_wire.specs.Bus.{fixed_of}
use Rattle.bus_world.specs.World.{World, driver_parts, driver_next, name_in, commanded, commanded_by}
use Rattle.bus_world.specs.Budgets.{moment}
use Rattle.law_microframes.proofs.lemmas.visits.BelongSeen.{Seen, seen_in, IsSeenIn, seen_there, row_seen}
use Rattle.law_microframes.proofs.lemmas.visits.BelongIso.{IsIsoAccepted, is_iso_accepted}
use Rattle.law_microframes.proofs.lemmas.visits.BelongCommands.{taken_same, left_same}
use Rattle.law_microframes.proofs.lemmas.visits.OneDescriptorRows.{From, or_notes}
use Rattle.law_microframes.proofs.lemmas.visits.OneDescriptorDriven.{Follows, row_follows}
use Rattle.law_microframes.proofs.lemmas.visits.BelongTold.{or_left}
use Rattle.law_microframes.specs.time.PaymentLaws.{HasPeriodics}
use Rattle.law_microframes.proofs.lemmas.time.PaymentFrames.{chained_active}
use Rattle.law_microframes.proofs.lemmas.time.PaymentIsoCommands.{IsTaken, IsOld, seen_same, each_taken}

abbrev IsSome : EpDesc → Option Placement → Type 0
IsSome x o = is_periodic x.kind ≡ true → 1 ≤ x.multi

abbrev AreActiveOutside : DriverContent → Type 0
AreActiveOutside d = (t : ℕ) (y : Transfer) (x : Endpoint) (p : Placement) → slice_get d.transfers t ≡ Some y → is_descriptor y.sort ≡ true → y.released ≡ false → y.reported ≡ false
    → slice_get d.endpoints y.endpoint ≡ Some x → x.placement ≡ Some p → x.chained ≡ false → is_active p (note_at d.periodic.notes y.first).frame ≡ true

-- ---- one that was there before

module _ (w : World) (k : IsMixedWorld w) (h : HasPeriodics w.driver) where
  abbrev d : DriverContent
  d = w.driver

  has : HasOwners w.driver
  has = k.mixed.now.framed.place.sound.owners

  -- whether its endpoint is in its frames or not
  was_active : (t : ℕ) (y : Transfer) (v : Endpoint) (p : Placement) → slice_get w.driver.transfers t ≡ Some y → is_descriptor y.sort ≡ true → y.released ≡ false → y.reported ≡ false
      → slice_get w.driver.endpoints y.endpoint ≡ Some v → v.placement ≡ Some p
      → (v.chained ≡ false) ⊎ (framed_to w.driver.command w.driver.made (length w.driver.transfers) ≡ length w.driver.transfers)
      → is_active p (note_at w.driver.periodic.notes y.first).frame ≡ true
  was_active t y v p there sort held untold here placed out = by v.chained refl
    where
      inside : v.chained ≡ true → framed_to w.driver.command w.driver.made (length w.driver.transfers) ≡ length w.driver.transfers → is_active p (note_at w.driver.periodic.notes y.first).frame ≡ true
      inside on all =
          let low = slice_get_within d.transfers t y there in
          chained_active d t y v p k.mixed.now.in_frames there sort untold here (sym (has.orderly.sorts t y v there here) ∙ sort) placed on (omega (arith, low, all))

      by : (c : Bool) → v.chained ≡ c → is_active p (note_at w.driver.periodic.notes y.first).frame ≡ true
      by false off = h.outside t y v p there sort held untold here placed off
      by true on =
          ⊎_elim {C = is_active p (note_at w.driver.periodic.notes y.first).frame ≡ true} (λ (off : v.chained ≡ false). absurd (true≢false (sym on ∙ off)))
          (λ (all : framed_to w.driver.command w.driver.made (length w.driver.transfers) ≡ length w.driver.transfers). inside on all) out

  -- ---- an event of the driver

  module _ (new : DriverContent) (follows : Follows w.driver w.memory new) (same : (e : ℕ) → seen_in new.endpoints e ≡ seen_in w.driver.endpoints e) where
    outside_then : AreActiveOutside new
    outside_then t z x p there sort held untold here placed off =
        let f : From w.driver w.memory t z = follows.back t z there sort held in
        let out : is_chained (option_map framed_of (slice_get new.endpoints z.endpoint)) ≡ false = ap (λ (o : Option Endpoint). is_chained (option_map framed_of o)) here ∙ off in
        let frame = follows.frames t z there sort held untold out in
        let of : IsSeenIn d.endpoints z.endpoint x = seen_there new.endpoints d.endpoints z.endpoint x (sym (same z.endpoint)) here in
        let here_then : slice_get d.endpoints f.transfer.endpoint ≡ Some of.endpoint = ap (slice_get d.endpoints) f.endpoint ∙ of.here in
        let was : (of.endpoint.chained ≡ false) ⊎ (framed_to d.command d.made (length d.transfers) ≡ length d.transfers)
        = ⊎_elim {C = (of.endpoint.chained ≡ false) ⊎ (framed_to d.command d.made (length d.transfers) ≡ length d.transfers)}
        (λ (off_old : is_chained (option_map framed_of (slice_get d.endpoints z.endpoint)) ≡ false).
        inl (ap (λ (o : Option Endpoint). is_chained (option_map framed_of o)) (sym of.here) ∙ off_old))
        (λ (all : framed_to d.command d.made (length d.transfers) ≡ length d.transfers). inr all) (follows.out z.endpoint out) in
        ap (is_active p) (frame ∙ ap (λ (i : ℕ). (note_at d.periodic.notes i).frame) (sym f.first))
        ∙ was_active t f.transfer of.endpoint p f.here f.descriptor f.held (f.untold untold) here_then (ap (λ (s : Seen). s.placement) of.same ∙ placed) was

  driver_periodics : HasPeriodics (driver_next w).driver
  driver_periodics =
      let parts = driver_parts w in
      let row = driver_row parts in
      let follows : Follows w.driver w.memory (driver_next w).driver = row_follows row parts (each_event_is_due parts) k.mixed.now.framed.place.sound in
      record {
        some = after_row IsSome row parts h.some;
        outside = outside_then (driver_next w).driver follows (λ e. row_seen e row parts);
      }

  -- ---- a command

  -- its descriptors were there, or are iTDs of an endpoint that is in its frames; and its endpoints were, or have no placement, or are in their frames
  record Carries (o : Offered) : Type 0 where
    idle : w.driver.command ≡ None
    each : (t : ℕ) (z : Transfer) → slice_get o.driver.transfers t ≡ Some z → is_descriptor z.sort ≡ true → z.released ≡ false
        → IsOld w.driver o t z ⊎ IsTaken o z
    ends : (e : ℕ) (x : Endpoint) (p : Placement) → slice_get o.driver.endpoints e ≡ Some x → x.placement ≡ Some p → IsSeenIn w.driver.endpoints e x ⊎ (x.chained ≡ true)

  module _ (o : Offered) (c : Carries o) where
    outside_by : AreActiveOutside o.driver
    outside_by t z x p there sort held untold here placed off =
        ⊎_elim {C = is_active p (note_at o.driver.periodic.notes z.first).frame ≡ true}
        (λ (old : IsOld w.driver o t z).
        ⊎_elim {C = is_active p (note_at o.driver.periodic.notes z.first).frame ≡ true}
        (λ (of : IsSeenIn w.driver.endpoints z.endpoint x).
        ap (λ (n : DescriptorNote). is_active p n.frame) old.1
        ∙ was_active t z of.endpoint p old.0 sort held untold of.here (ap (λ (s : Seen). s.placement) of.same ∙ placed) (inr (ap (λ (q : Option Command). framed_to q d.made (length d.transfers)) c.idle)))
        (λ (on : x.chained ≡ true). absurd (true≢false (sym on ∙ off))) (c.ends z.endpoint x p here placed))
        (λ (new : IsTaken o z).
        absurd (true≢false (sym new.chained ∙ ap (λ (y : Endpoint). y.chained) (same_Some new.endpoint x (sym new.here ∙ here)) ∙ off))) (c.each t z there sort held)

  same_ends : (o : Offered) → ((e : ℕ) → seen_in o.driver.endpoints e ≡ seen_in w.driver.endpoints e) → (e : ℕ) (x : Endpoint) (p : Placement) → slice_get o.driver.endpoints e ≡ Some x
      → x.placement ≡ Some p → IsSeenIn w.driver.endpoints e x ⊎ (x.chained ≡ true)
  same_ends o same e x p here placed = inl (seen_there o.driver.endpoints d.endpoints e x (sym (same e)) here)

  pushed_ends : (o : Offered) (y : Endpoint) → o.driver.endpoints ≡ w.driver.endpoints ++ y ∷ [] → ((p : Placement) → y.placement ≡ Some p → y.chained ≡ true)
      → (e : ℕ) (x : Endpoint) (p : Placement) → slice_get o.driver.endpoints e ≡ Some x → x.placement ≡ Some p → IsSeenIn w.driver.endpoints e x ⊎ (x.chained ≡ true)
  pushed_ends o y are chained e x p here placed =
      ⊎_elim {C = IsSeenIn w.driver.endpoints e x ⊎ (x.chained ≡ true)} (λ (was : slice_get d.endpoints e ≡ Some x). inl (record { endpoint = x; here = was; same = refl }))
      (λ (is : (e ≡ length d.endpoints) × (x ≡ y)). inr (ap (λ (v : Endpoint). v.chained) is.1 ∙ chained p (ap (λ (v : Endpoint). v.placement) (sym is.1) ∙ placed)))
      (push_which d.endpoints y e x (ap (λ (xs : List Endpoint). slice_get xs e) (sym are) ∙ here))

  none_placed : (p : Placement) → ◌≡◌ {A = Option Placement} None (Some p) → ⊥
  none_placed p is = cc

  ok_is : {p q : Offered} → ◌≡◌ {A = Result Offered OfferError} (Ok p) (Ok q) → q ≡ p
  ok_is e = cc

  same_old : (o : Offered) → o.driver.transfers ≡ w.driver.transfers → o.driver.periodic.notes ≡ w.driver.periodic.notes → (t : ℕ) (z : Transfer) → slice_get o.driver.transfers t ≡ Some z
      → is_descriptor z.sort ≡ true → z.released ≡ false → IsOld w.driver o t z ⊎ IsTaken o z
  same_old o moves notes t z there sort held = inl (ap (λ (ts : List Transfer). slice_get ts t) (sym moves) ∙ there, ap (λ ns. note_at ns z.first) notes)

  opened_carries : (o : Offered) (x : EpDesc) → IsNew w.driver w.memory o x → Carries o
  opened_carries o x (in_ring why same) = record {
    idle = why.idle;
    each = same_old o (ap (λ (g : Offered). g.driver.transfers) why.is) (ap (λ (g : Offered). g.driver.periodic.notes) why.is);
    ends = pushed_ends o _ (ap (λ (g : Offered). g.driver.endpoints) why.is) (λ p placed. absurd (none_placed p placed));
  }
  opened_carries o x (in_frames why same) = record {
    idle = why.idle;
    each = same_old o (ap (λ (g : Offered). g.driver.transfers) why.is) (ap (λ (g : Offered). g.driver.periodic.notes) why.is);
    ends = pushed_ends o _ (ap (λ (g : Offered). g.driver.endpoints) why.is) (λ p placed. refl);
  }
  opened_carries o x (bare why same) = record {
    idle = why.idle;
    each = same_old o (ap (λ (g : Offered). g.driver.transfers) why.is) (ap (λ (g : Offered). g.driver.periodic.notes) why.is);
    ends = pushed_ends o _ (ap (λ (g : Offered). g.driver.endpoints) why.is) (λ p placed. refl);
  }

  taken_carries : (o : Offered) (name : EpName) (takes : Endpoint → Bool) (a : Asked) → is_descriptor a.sort ≡ false → IsTakenOn w.driver w.memory o name takes a → Carries o
  taken_carries o name takes a queued why =
      let is = ok_is why.is in
      record {
        idle = why.idle;
        each = λ t z there sort held.
            ⊎_elim {C = IsOld w.driver o t z ⊎ IsTaken o z}
            (λ (was : slice_get d.transfers t ≡ Some z). inl (was, ap (λ (g : Offered). note_at g.driver.periodic.notes z.first) is))
            (λ (new : (t ≡ length d.transfers) × (z ≡ new_transfer why.number a why.endpoint.dummy)).
            absurd (true≢false (sym sort ∙ ap (λ (c : Transfer). is_descriptor c.sort) new.1 ∙ queued)))
            (push_which d.transfers (new_transfer why.number a why.endpoint.dummy) t z
            (ap (λ (g : Offered). slice_get g.driver.transfers t) (sym is) ∙ there));
        ends = same_ends o (taken_same d w.memory o name takes a why);
      }

  left_carries : (o : Offered) (name : EpName) → IsLeft w.driver w.memory o name → Carries o
  left_carries o name (from_ring why named) = record {
    idle = why.idle;
    each = same_old o (ap (λ (g : Offered). g.driver.transfers) why.is) (ap (λ (g : Offered). g.driver.periodic.notes) why.is);
    ends = same_ends o (left_same d w.memory o name (from_ring why named));
  }
  left_carries o name (from_frames why named) =
      let members = endpoint_members d why.number why.endpoint why.placement in
      let f : DriverContent = with_cancel d why.number why.endpoint members in
      record {
        idle = why.idle;
        each = same_old o (ap (λ (g : Offered). g.driver.transfers) why.is ∙ or_left f (unfinished.Unchain why.number))
            (ap (λ (g : Offered). g.driver.periodic.notes) why.is ∙ or_notes f (unfinished.Unchain why.number) ∙ begun_notes true (record d.periodic { queued = members }));
        ends = same_ends o (left_same d w.memory o name (from_frames why named));
      }

  iso_carries : (o : Offered) → IsIsoAccepted w.driver w.memory o → Carries o
  iso_carries o i = record {
    idle = i.idle;
    each = each_taken d w.memory o k.mixed.now.framed.place i;
    ends = same_ends o (seen_same d w.memory o k.mixed.now.framed.place i);
  }

  carries : (cmd : Cmd) (o : Offered) → offered w.driver w.memory cmd ≡ Ok o → Carries o
  carries (commands.OpenEp x) o is = opened_carries o x (reason_of d w.memory (commands.OpenEp x) o is)
  carries (commands.Get name len by) o is = taken_carries o name _ _ refl (reason_of d w.memory (commands.Get name len by) o is)
  carries (commands.Put name bytes by) o is = taken_carries o name _ _ refl (reason_of d w.memory (commands.Put name bytes by) o is)
  carries (commands.Control name setup bytes) o is = taken_carries o name _ _ refl (reason_of d w.memory (commands.Control name setup bytes) o is)
  carries (commands.Iso name count len seed) o is = iso_carries o (is_iso_accepted d w.memory name count len seed o is)
  carries (commands.Cancel name) o is = left_carries o name (reason_of d w.memory (commands.Cancel name) o is)
  carries (commands.Clear name) o is = absurd (reason_of d w.memory (commands.Clear name) o is)
  carries (commands.Reset port) o is = absurd (reason_of d w.memory (commands.Reset port) o is)
  carries (commands.Give port) o is = absurd (reason_of d w.memory (commands.Give port) o is)
  carries (commands.DiskRead addr lba count) o is = absurd (reason_of d w.memory (commands.DiskRead addr lba count) o is)
  carries (commands.DiskWrite addr lba bytes) o is = absurd (reason_of d w.memory (commands.DiskWrite addr lba bytes) o is)
  carries (commands.Revive addr) o is = absurd (reason_of d w.memory (commands.Revive addr) o is)

  opened : (cmd : Cmd) → IsOffered w.driver.room cmd → IsOfOpened IsSome cmd
  opened (commands.OpenEp x) room = λ o on. (room.3 on).some_multi
  opened _ room = tt

  command_periodics : (n : ℕ) (cmd : Cmd) → IsOffered w.driver.room cmd → HasPeriodics (commanded w n cmd).driver
  command_periodics n cmd room = by (offered w.driver w.memory cmd) refl
    where
      by : (r : Result Offered OfferError) → offered w.driver w.memory cmd ≡ r
          → HasPeriodics (commanded_by w n (name_in cmd) r).driver
      by (Err why) is = record { some = h.some; outside = h.outside }
      by (Ok o) is =
          let c : Carries o = carries cmd o is in
          record { some = after_command IsSome w.driver w.memory cmd o (opened cmd room) h.some is; outside = outside_by o c }

-- ---- along a run

record IsMixedWithPeriodics (w : World) : Type 0 where
  mixed : IsMixedWorld w
  periodics : HasPeriodics w.driver

is_kept : (s : Script) → IsKeptBy (fixed_of s) OpensMixed IsMixedWithPeriodics
is_kept s = record {
  driver = λ w k. record { mixed = driver_keeps_mixed w k.mixed; periodics = driver_periodics w k.mixed k.periodics };
  controller = λ w k. record { mixed = controller_keeps_mixed (fixed_of s) w k.mixed; periodics = k.periodics };
  command = λ w line cmd can room k. record {
    mixed = command_keeps_mixed w line cmd can room k.mixed;
    periodics =
        command_periodics w k.mixed k.periodics line cmd room;
  };
}

pub scripts_have_periodics : (s : Script) → IsFit s → IsByteScript s → FitsMixed s → (k : ℕ) → HasPeriodics (moment s k).world.driver
scripts_have_periodics s fit bytes opens k =
    (holds_throughout OpensMixed IsMixedWithPeriodics s fit (lines_can s.lines opens)
    (record {
      mixed = new_world_is_mixed s fit bytes;
      periodics =
          record { some = λ e x there. absurd (cc); outside = λ t y x p there. absurd (cc) };
    }) (is_kept s) k).periodics
