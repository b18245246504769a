-- Each command, accepted or refused, leaves what is known of the endpoints that left.
use Rattle.std.proofs.Common.{◌≡◌, ℕ, ◌*◌, Bool, true, List, length, slice_get, Some, None, Result, Ok, Err, ap, refl, sym}
use Rattle.std.proofs.Common.{subst, ◌∙◌, ◌⊎◌, ⊎_elim, inl, inr}
use Rattle.std.specs.List.{concat}
use Rattle.std.proofs.lemmas.Bool.{true≢false}
use Rattle.law_common.proofs.Lists.{push_which}
use Rattle.law_world.proofs.Common.{none_some}
use Rattle.law_microframes.proofs.Common.{idle_by}
use Rattle.usb_base.specs.declared.commands.Cmd.{Cmd}
use Rattle.usb_base.specs.declared.endpoints.EpDesc.{EpDesc}
use Rattle.usb_base.specs.declared.endpoints.EpName.{EpName}
use Rattle.usb_base.specs.declared.packets.Way.{Way}
use Rattle.usb_base.specs.declared.packets.Way.TheVariants as ways
use Rattle.usb_base.specs.declared.reports.OfferError.{OfferError}
use Rattle.bus_wire.specs.Bus.{Fixed}
use Rattle.drv_table.specs.declared.content.Command.TheVariants as unfinished
use Rattle.drv_table.specs.declared.content.Endpoint.{Endpoint}
use Rattle.drv_table.specs.Accepting.{Offered}
use Rattle.drv_table.specs.DriverContent.{DriverContent}
use Rattle.drv_table.specs.Offers.{offered, IsOffered}
use Rattle.law_driver.specs.queued_drivers.Queued.{queued_endpoint, queued}
use Rattle.law_driver.proofs.lemmas.queued_drivers.CommandReasons.{reason_of}
use Rattle.law_driver.proofs.lemmas.queued_drivers.RowEvents.{idle_told}
use Rattle.law_driver.proofs.lemmas.run_owners.Commands.{each_command_has_its_reason}
use Rattle.law_driver_ring.specs.fed_queues.Places.{IsThere}
use Rattle.law_queues.specs.leaving_drivers.Told.{told_to}
use Rattle.law_queues.proofs.lemmas.leaving_drivers.Telling.{refusals_tell_nothing}
use Rattle.law_queues.specs.told_endpoints.Telling.{lines_in}
use Rattle.claims_report.specs.Streams.{told_in}
use Rattle.usb_base.specs.declared.reports.Report.{Report}
use Rattle.law_world.specs.steps.Streaming.{wired}
use Rattle.law_world.specs.memory.Mixed.{Standing}
use Rattle.law_world.specs.memory.Opens.{OpensMixed}
use Rattle.law_reports.specs.lines.Lined.{Lines}
use Rattle.bus_world.specs.World.{World, name_in, commanded_by, commanded, refused_line}
use Rattle.law_reports.specs.pipes.Declared.{Sides}
use Rattle.law_reports.specs.pipes.Piped.{Heads, HasBegun, AreLeft, IsPiped, IsFollowed}
use Rattle.law_reports.specs.pipes.PipedLaws.{OpensDeclared}
use Rattle.law_reports.proofs.lemmas.pipes.Accepted.{IsNewest, is_opening, is_bare, EndsThen, one_more, one_anew, ends_then, was_anew}
use Rattle.law_reports.proofs.lemmas.pipes.Across.{ComesOf, WasIn}
use Rattle.law_reports.proofs.lemmas.pipes.Begun.{ins_begun, outs_begun}
use Rattle.law_reports.proofs.lemmas.pipes.Commanded.{commanded_piped}
use Rattle.law_reports.proofs.lemmas.pipes.Followed.{there_by}
use Rattle.law_reports.proofs.lemmas.pipes.KeepsGone.{KeepsGone, same}
use Rattle.law_reports.proofs.lemmas.pipes.Leaving.{accepted_keeps}
use Rattle.law_reports.proofs.lemmas.pipes.Names.{queue_same, kept_as}

itself : (y : Endpoint) → ComesOf y y
itself y = record { desc = refl; queue = refl; alive = λ kept. kept }

module _ (fixed : Fixed) (x : Sides) (s : Standing) (m : Lines) (h : Heads) (w : World) (k : IsPiped fixed x s m h w) where
  module _ (f : DriverContent)
      (still : (q : ℕ) → (queued w.driver).command ≡ Some (unfinished.Open q) → (queued f).command ≡ Some (unfinished.Open q))
      (was : (e : ℕ) (z : Endpoint) → slice_get f.endpoints e ≡ Some z
      → (IsThere (queued f) (queued_endpoint z)) ⊎ (z.gone ≡ true) → WasIn w.driver.endpoints e z)
      (keeps : KeepsGone w.driver.endpoints f.endpoints) (tells : (name : EpName) → told_to f name ≡ told_to w.driver name) (way : Way)
      (has : ℕ → ℕ → Bool) (P : ℕ → ℕ → List ℕ → Type 0)
      (begun : (e : ℕ) (y : Endpoint) → slice_get w.driver.endpoints e ≡ Some y → y.desc.name.way ≡ way
      → has y.desc.name.addr y.desc.name.num ≡ true → IsThere (queued w.driver) (queued_endpoint y)
      → P y.desc.name.addr y.desc.name.num (concat (m.acc (32 * y.queue)))) (left : AreLeft w.driver m.acc way has P) where
    left_then : AreLeft f m.acc way has P
    left_then = record {
      unmet = λ e z here is on there off.
          let v = was e z here (inl there) in
          let was_there : IsThere (queued w.driver) (queued_endpoint v.endpoint) =
          there_by fixed x s m h w k e z v there.kept (λ opening.
          there.linked (still v.endpoint.queue opening
          ∙ ap (λ (q : ℕ). Some (unfinished.Open q)) (sym v.comes.queue ∙ sym (queue_same z)))) in
          subst (λ (c : EpDesc). P c.name.addr c.name.num (concat (m.acc (32 * z.queue)))) (sym v.comes.desc)
          (subst (λ (q : ℕ). P v.endpoint.desc.name.addr v.endpoint.desc.name.num (concat (m.acc (32 * q)))) (sym v.comes.queue)
          (begun e v.endpoint v.here (ap (λ (c : EpDesc). c.name.way) (sym v.comes.desc) ∙ is)
          (ap (λ (c : EpDesc). has c.name.addr c.name.num) (sym v.comes.desc) ∙ on) was_there));
      gone = λ e z here is on gone.
          let v = was e z here (inr gone) in
          subst (λ (c : EpDesc). P c.name.addr c.name.num (told_to f c.name)) (sym v.comes.desc)
          (subst (P v.endpoint.desc.name.addr v.endpoint.desc.name.num) (sym (tells v.endpoint.desc.name))
          (left.gone e v.endpoint v.here (ap (λ (c : EpDesc). c.name.way) (sym v.comes.desc) ∙ is)
          (ap (λ (c : EpDesc). has c.name.addr c.name.num) (sym v.comes.desc) ∙ on) (keeps e v.endpoint z v.here here gone)));
    }

  -- ---- refused

  module _ (line : ℕ) (cmd : Cmd) (why : OfferError) where
    abbrev refused : DriverContent
    refused = refused_line w.driver line (name_in cmd) why

    refused_tells : (name : EpName) → told_to (refused_line w.driver line (name_in cmd) why) name ≡ told_to w.driver name
    refused_tells = refusals_tell_nothing w.driver refused _ refl refl refl

    pub refused_left : (way : Way) (has : ℕ → ℕ → Bool) (P : ℕ → ℕ → List ℕ → Type 0)
        → ((e : ℕ) (y : Endpoint) → slice_get w.driver.endpoints e ≡ Some y → y.desc.name.way ≡ way
        → has y.desc.name.addr y.desc.name.num ≡ true → IsThere (queued w.driver) (queued_endpoint y)
        → P y.desc.name.addr y.desc.name.num (concat (m.acc (32 * y.queue)))) → AreLeft w.driver m.acc way has P
        → AreLeft (refused_line w.driver line (name_in cmd) why) m.acc way has P
    refused_left way has P begun left =
        left_then refused (λ q is. is) (λ e z here which. record { endpoint = z; here = here; comes = itself z })
        (same w.driver.endpoints refused.endpoints refl) refused_tells way has P begun left

  -- ---- accepted

  no_newest : (f : DriverContent) (y : Endpoint) → IsNewest f y → IsThere (queued f) (queued_endpoint y) → ⊥
  no_newest f y (is_opening queue opens made) there =
      there.linked (opens ∙ ap (λ (q : ℕ). Some (unfinished.Open q)) (sym (queue_same y)))
  no_newest f y (is_bare iso none) there = true≢false (sym iso ∙ (kept_as y there.kept).1)

  pub was_by : (f : DriverContent) (cmd : Cmd) → EndsThen w.driver f cmd → (e : ℕ) (z : Endpoint) → slice_get f.endpoints e ≡ Some z
      → (IsThere (queued f) (queued_endpoint z)) ⊎ (z.gone ≡ true) → WasIn w.driver.endpoints e z
  was_by f cmd (one_more y asked ends kept newest tells) e z here which =
      ⊎_elim (λ (at : slice_get w.driver.endpoints e ≡ Some z). record { endpoint = z; here = at; comes = itself z })
      (λ (own : (e ≡ length w.driver.endpoints) × (z ≡ y)).
      ⊎_elim
      (λ (there : IsThere (queued f) (queued_endpoint z)).
      absurd (no_newest f y newest (subst (λ (v : Endpoint). IsThere (queued f) (queued_endpoint v)) own.1 there)))
      (λ (gone : z.gone ≡ true). absurd (true≢false (sym gone ∙ ap (λ (v : Endpoint). v.gone) own.1 ∙ kept))) which)
      (push_which w.driver.endpoints y e z (ap (λ (xs : List Endpoint). slice_get xs e) (sym ends) ∙ here))
  was_by f cmd (one_anew e y z at ends comes kept never tells) i v here which =
      was_anew w.driver.endpoints e y z at comes i v (ap (λ (xs : List Endpoint). slice_get xs i) (sym ends) ∙ here)

  tells_by : (f : DriverContent) (cmd : Cmd) → EndsThen w.driver f cmd → (name : EpName) → told_to f name ≡ told_to w.driver name
  tells_by f cmd (one_more y asked ends kept newest tells) name =
      ap (λ (rs : List Report). told_in f.store (lines_in name rs)) tells.reports
      ∙ ap (λ (bytes : List ℕ). told_in bytes (lines_in name w.driver.reports)) tells.store
  tells_by f cmd (one_anew e y z at ends comes kept never tells) name =
      ap (λ (rs : List Report). told_in f.store (lines_in name rs)) tells.reports
      ∙ ap (λ (bytes : List ℕ). told_in bytes (lines_in name w.driver.reports)) tells.store

  pub accepted_left : (f : DriverContent) (cmd : Cmd) → (queued w.driver).command ≡ None → EndsThen w.driver f cmd → (way : Way)
      (has : ℕ → ℕ → Bool) (P : ℕ → ℕ → List ℕ → Type 0)
      → ((e : ℕ) (y : Endpoint) → slice_get w.driver.endpoints e ≡ Some y → y.desc.name.way ≡ way
      → has y.desc.name.addr y.desc.name.num ≡ true → IsThere (queued w.driver) (queued_endpoint y)
      → P y.desc.name.addr y.desc.name.num (concat (m.acc (32 * y.queue)))) → AreLeft w.driver m.acc way has P
      → AreLeft f m.acc way has P
  accepted_left f cmd idle ends way has P begun left =
      left_then f (λ q is. absurd (none_some (unfinished.Open q) (sym idle ∙ is))) (was_by f cmd ends)
      (accepted_keeps w.driver f cmd ends) (tells_by f cmd ends) way has P begun left

module _ (fixed : Fixed) (x : Sides) (s : Standing) (m : Lines) (h : Heads) (w : World) (f : IsFollowed fixed x s m h w) (line : ℕ)
    (cmd : Cmd) where
  by_offer : (r : Result Offered OfferError) → offered w.driver w.memory cmd ≡ r
      → IsPiped fixed x s m h (commanded_by w line (name_in cmd) r) → IsFollowed fixed x s m h (commanded_by w line (name_in cmd) r)
  by_offer (Err why) is piped = record {
    piped = piped;
    left_ins = refused_left fixed x s m h w f.piped line cmd why ways.In x.sends (HasBegun x (wired fixed w) ways.In)
        (ins_begun fixed x s m h w f.piped f.left_ins) f.left_ins;
    left_outs = refused_left fixed x s m h w f.piped line cmd why ways.Out x.takes (HasBegun x (wired fixed w) ways.Out)
        (outs_begun fixed x s m h w f.piped f.left_outs) f.left_outs;
  }
  by_offer (Ok o) is piped =
      let idle : (queued w.driver).command ≡ None =
      idle_told w.driver (idle_by w.driver w.memory o (each_command_has_its_reason w.driver w.memory cmd o is)) in
      let ends : EndsThen w.driver o.driver cmd = ends_then w.driver w.memory o cmd (reason_of w.driver w.memory cmd o is) in
      record {
        piped = piped;
        left_ins = accepted_left fixed x s m h w f.piped o.driver cmd idle ends ways.In x.sends (HasBegun x (wired fixed w) ways.In)
            (ins_begun fixed x s m h w f.piped f.left_ins) f.left_ins;
        left_outs = accepted_left fixed x s m h w f.piped o.driver cmd idle ends ways.Out x.takes (HasBegun x (wired fixed w) ways.Out)
            (outs_begun fixed x s m h w f.piped f.left_outs) f.left_outs;
      }

  pub commanded_followed : OpensMixed cmd → OpensDeclared x cmd → IsOffered w.driver.room cmd
      → IsFollowed fixed x s m h (commanded w line cmd)
  commanded_followed fits declares room =
      by_offer (offered w.driver w.memory cmd) refl (commanded_piped fixed x s m h w f.piped line cmd fits declares room)
