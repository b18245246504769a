-- What each step of a queue but the end of an open leaves of an endpoint that is being opened, of the packets that moved, and of the queue
-- heads that are met.
use Rattle.std.proofs.Common.{◌≡◌, ℕ, ◌*◌, ◌==◌, not, Bool, true, slice_get, Some, None, Result, Ok, Err, ap, refl}
use Rattle.std.proofs.Common.{sym, subst, ◌∙◌}
use Rattle.std.proofs.lemmas.Bool.{and_parts}
use Rattle.law_world.proofs.Common.{unlink_open, none_some}
use Rattle.law_reports.proofs.Common.{publish_open}
use Rattle.law_microframes.proofs.Common.{idle_by}
use Rattle.usb_base.specs.declared.commands.Cmd.{Cmd}
use Rattle.usb_base.specs.declared.endpoints.EpDesc.{EpDesc}
use Rattle.usb_base.specs.declared.reports.OfferError.{OfferError}
use Rattle.drv_periodic_table.specs.declared.content.Removed.TheVariants as removed
use Rattle.drv_table.specs.declared.content.Command.TheVariants as unfinished
use Rattle.drv_table.specs.declared.content.Endpoint.{Endpoint}
use Rattle.drv_table.specs.declared.rows.DriverRow.{DriverRow}
use Rattle.drv_table.specs.declared.rows.DriverRow.TheVariants as rows
use Rattle.drv_table.specs.Accepting.{Offered}
use Rattle.drv_table.specs.DriverContent.{DriverContent}
use Rattle.drv_table.specs.Kinds.{is_iso}
use Rattle.drv_table.specs.Offers.{offered}
use Rattle.drv_table.specs.Rows.{driver_row}
use Rattle.law_driver.proofs.lemmas.run_owners.Commands.{each_command_has_its_reason}
use Rattle.law_driver.specs.queued_drivers.Queued.{queued}
use Rattle.law_driver.proofs.lemmas.queued_drivers.RowEvents.{idle_told}
use Rattle.law_ring.specs.Told.{Endpoint as Told}
use Rattle.law_world.specs.memory.Mixed.{Standing, IsMixedAt}
use Rattle.law_world.specs.memory.Steps.{AreStill, LeftBy, left_the_ring, left_its_frames, HasNoStep}
use Rattle.law_world.specs.memory.Steps.{left_alike, left_by_frames, left_by_bell, left_by_status, left_by_command}
use Rattle.law_world.specs.memory.Steps.{QueueStep, stays, harvests, returns, lends, stores, mends, begins, opens, unlinks, narrows, goes}
use Rattle.law_world.specs.memory.pipe_steps.Laws.{IsNoOpening}
use Rattle.law_world.proofs.lemmas.memory.RingBasis.{due_is}
use Rattle.law_reports.specs.lines.Lined.{Lines}
use Rattle.law_reports.specs.lines.TellingLaws.{LinesAfter}
use Rattle.bus_world.specs.World.{World, driver_parts, driver_next, name_in, commanded_by}
use Rattle.law_reports.specs.pipes.Piped.{asked_as, IsOpening, IsNewHead, HaveNewHeads}
use Rattle.law_reports.proofs.lemmas.pipes.Across.{WasIn, was_in, opened_before, row_command, row_ends}
use Rattle.law_reports.proofs.lemmas.pipes.NewHeads.{lent_head}
use Rattle.law_reports.proofs.lemmas.pipes.StartingHeads.{told_new_head}

-- ---- the packets that moved

pub none_more : (s : Standing) (w new : World) (t : Standing) (step : QueueStep s w new t) → IsNoOpening step → (m l : Lines)
    → LinesAfter step m l → l.acc ≡ m.acc
none_more s w new _ (stays t none still) other m l after = ap (λ (a : Lines). a.acc) after
none_more s w new _ (harvests e t found due later row out) other m l after = after.more.moved
none_more s w new _ (returns t y x row r) other m l after = ap (λ (a : Lines). a.acc) after
none_more s w new _ (lends b words get order out row behind) other m l after = ap (λ (a : Lines). a.acc) after
none_more s w new _ (stores b words g next) other m l after = ap (λ (a : Lines). a.acc) after
none_more s w new _ (mends k row) other m l after = ap (λ (a : Lines). a.acc) after
none_more s w new _ (begins k row alike) other m l after = ap (λ (a : Lines). a.acc) after
none_more s w new _ (opens k t alike opened) other m l after = absurd other
none_more s w new _ (unlinks k row) other m l after = ap (λ (a : Lines). a.acc) after
none_more s w new _ (narrows member near row are fewer) other m l after = ap (λ (a : Lines). a.acc) after
none_more s w new _ (goes e x d t back is) other m l after = ap (λ (a : Lines). a.acc) after

-- ---- the queue heads that are met

pub none_nearer : (s : Standing) (w new : World) (t : Standing) (step : QueueStep s w new t) → IsNoOpening step → (n : ℕ) → t.near n ≡ true
    → s.near n ≡ true
none_nearer s w new _ (stays t none still) other n on = sym (ap (λ (near : ℕ → Bool). near n) still.near) ∙ on
none_nearer s w new _ (harvests e t found due later row out) other n on = on
none_nearer s w new _ (returns t y x row r) other n on = on
none_nearer s w new _ (lends b words get order out row behind) other n on = on
none_nearer s w new _ (stores b words g next) other n on = on
none_nearer s w new _ (mends k row) other n on = on
none_nearer s w new _ (begins k row alike) other n on = on
none_nearer s w new _ (opens k t alike opened) other n on = absurd other
none_nearer s w new _ (unlinks k row) other n on = on
none_nearer s w new _ (narrows member near row are fewer) other n on = fewer n on
none_nearer s w new _ (goes e x d t back is) other n on = (and_parts (s.near n) (not (n == 32 * x.queue)) (sym (is.near n) ∙ on)).0

-- ---- an endpoint that is being opened

module _ (s : Standing) (w : World) (mixed : IsMixedAt s w) (heads : HaveNewHeads w.driver s) where
  abbrev new : World
  new = driver_next w

  abbrev row : DriverRow
  row = driver_row (driver_parts w)

  opening_then : (q : ℕ) → (queued (driver_next w).driver).command ≡ Some (unfinished.Open q)
      → (queued w.driver).command ≡ Some (unfinished.Open q)
  opening_then = opened_before w.driver (driver_next w).driver (row_ends (driver_row (driver_parts w)) (driver_parts w))
      (row_command (driver_row (driver_parts w)) (driver_parts w))

  -- so it was before
  record WasOpening (e : ℕ) (z : Endpoint) : Type 0 where
    before : WasIn w.driver.endpoints e z
    opening : IsOpening w.driver before.endpoint

  was_opening : (e : ℕ) (z : Endpoint) → slice_get (driver_next w).driver.endpoints e ≡ Some z → IsOpening (driver_next w).driver z
      → WasOpening e z
  was_opening e z here o =
      let v : WasIn w.driver.endpoints e z = was_in w.driver.endpoints (driver_next w).driver.endpoints
      (row_ends (driver_row (driver_parts w)) (driver_parts w)) e z here in
      record {
        before = v;
        opening = record {
          kept = v.comes.alive o.kept;
          queue = ap (λ (c : EpDesc). is_iso c.kind) (sym v.comes.desc) ∙ o.queue;
          command = opening_then v.endpoint.queue (o.command ∙ ap (λ (q : ℕ). Some (unfinished.Open q)) v.comes.queue);
        };
      }

  -- none is being opened
  none_opens : (t : Standing) → ((q : ℕ) → (queued w.driver).command ≡ Some (unfinished.Open q) → ⊥) → HaveNewHeads (driver_next w).driver t
  none_opens t never e z here o made = absurd (never z.queue (opening_then z.queue o.command))

  idle_opens : (t : Standing) → (queued w.driver).command ≡ None → HaveNewHeads (driver_next w).driver t
  idle_opens t idle = none_opens t (λ q is. none_some (unfinished.Open q) (sym idle ∙ is))

  -- its queue head is told as before
  carry : (t : Standing) → ((n : ℕ) (u : Told) → IsNewHead s n u → IsNewHead t n u)
      → (queued (driver_next w).driver).made ≡ (queued w.driver).made → HaveNewHeads (driver_next w).driver t
  carry t tells same e z here o made =
      let v : WasOpening e z = was_opening e z here o in
      let y : Endpoint = v.before.endpoint in
      let q : IsNewHead s (32 * y.queue) (asked_as y.desc) = heads e y v.before.here v.opening (sym same ∙ made) in
      subst (λ (b : ℕ). IsNewHead t (32 * b) (asked_as z.desc)) (sym v.before.comes.queue)
      (subst (λ (c : EpDesc). IsNewHead t (32 * y.queue) (asked_as c)) (sym v.before.comes.desc) (tells (32 * y.queue) (asked_as y.desc) q))

  tells_same : (t : Standing) → AreStill s t → (n : ℕ) (u : Told) → IsNewHead s n u → IsNewHead t n u
  tells_same t still n u q = told_new_head s t still.told n u q

  by_offer : (t : Standing) → AreStill s t → (line : ℕ) (cmd : Cmd) (r : Result Offered OfferError) → offered w.driver w.memory cmd ≡ r
      → driver_next w ≡ commanded_by w line (name_in cmd) r → HaveNewHeads (driver_next w).driver t
  by_offer t still line cmd (Ok o) is next =
      idle_opens t (idle_told w.driver (idle_by w.driver w.memory o (each_command_has_its_reason w.driver w.memory cmd o is)))
  by_offer t still line cmd (Err why) is next =
      carry t (tells_same t still) (ap (λ (v : World). (queued v.driver).made) next)

  quiet : (t : Standing) → HasNoStep w (driver_next w) → AreStill s t → HaveNewHeads (driver_next w).driver t
  quiet t (left_alike alike tells) still = carry t (tells_same t still) alike.made
  quiet t (left_by_frames alike of is) still = carry t (tells_same t still) alike.made
  quiet t (left_by_bell is) still = idle_opens t (idle_told w.driver (due_is s w mixed rows.RingBell is.next).0)
  quiet t (left_by_status heard is) still = idle_opens t (idle_told w.driver (due_is s w mixed (rows.ReadStatus heard) is.next).0)
  quiet t (left_by_command line cmd fits room is) still = by_offer t still line cmd (offered w.driver w.memory cmd) refl is

  given : (t : Standing) (e : ℕ) (d : DriverContent) → LeftBy w e d → HaveNewHeads (driver_next w).driver t
  given t e _ (left_the_ring is) = idle_opens t (idle_told w.driver (due_is s w mixed (rows.ReleaseEndpoint e) is).idle)
  given t e _ (left_its_frames is) =
      idle_opens t (idle_told w.driver (due_is s w mixed (rows.ReleaseRemoved (removed.Endpoint e)) is).idle)

  pub heads_then : (t : Standing) (step : QueueStep s w (driver_next w) t) → IsNoOpening step → HaveNewHeads (driver_next w).driver t
  heads_then _ (stays t none still) other = quiet t none still
  heads_then _ (harvests e t found due later is out) other = idle_opens _ due.idle
  heads_then _ (returns t y x is r) other = idle_opens _ r.free
  heads_then _ (lends b words get order out is behind) other = none_opens _ (λ q opens. publish_open b words q (sym get.command ∙ opens))
  heads_then _ (stores b words g next) other = none_opens _ (λ q opens. publish_open b words q (sym next.command ∙ opens))
  heads_then _ (mends k is) other = idle_opens _ (idle_told w.driver k.idle)
  heads_then u (begins k is alike) other = λ e z here o made.
      let v : WasOpening e z = was_opening e z here o in
      let y : Endpoint = v.before.endpoint in
      let q : IsNewHead u (32 * y.queue) (asked_as y.desc) = lent_head s w mixed k e y v.before.here v.opening in
      subst (λ (b : ℕ). IsNewHead u (32 * b) (asked_as z.desc)) (sym v.before.comes.queue)
      (subst (λ (c : EpDesc). IsNewHead u (32 * y.queue) (asked_as c)) (sym v.before.comes.desc) q)
  heads_then _ (opens k t alike opened) other = absurd other
  heads_then _ (unlinks k is) other = none_opens _ (λ q opens. unlink_open _ _ _ q (sym k.command ∙ opens))
  heads_then _ (narrows member near is are fewer) other = idle_opens _ (idle_told w.driver (due_is s w mixed rows.ClearAdvance is.next).0)
  heads_then _ (goes e x d t back is) other = given t e d back.left
