-- Where no queue has a step, the requests of control endpoints stand as they did.
use Rattle.std.proofs.Common.{◌≡◌, ℕ, zero, suc, ◌≤◌, Bool, true, false, List, map, ◌++◌, length, slice_get, Option, Some, None}
use Rattle.std.proofs.Common.{if◌then◌else◌, ap, refl, sym, subst, ◌∙◌, arith}
use Rattle.std.specs.Prelude.{nat_lt}
use Rattle.std.proofs.lemmas.Bool.{false≢true}
use Rattle.law_common.proofs.Booleans.{refused_by}
use Rattle.law_driver.proofs.Common.{get_queued, of_none}
use Rattle.usb_base.specs.declared.endpoints.EpName.{EpName}
use Rattle.usb_base.specs.declared.packets.EpKind.{EpKind}
use Rattle.usb_base.specs.declared.packets.EpKind.TheVariants as kinds
use Rattle.usb_base.specs.declared.packets.Way.{Way}
use Rattle.usb_base.specs.declared.packets.Way.TheVariants as ways
use Rattle.word_mem.specs.Memory.{Mem}
use Rattle.op_registers.specs.RegisterFile.{RegisterFile}
use Rattle.bus_wire.specs.Bus.{Fixed}
use Rattle.bus_wire.specs.Fates.{is_same_name}
use Rattle.drv_table.specs.declared.content.Command.{Command}
use Rattle.drv_table.specs.declared.content.Command.TheVariants as unfinished
use Rattle.drv_table.specs.declared.content.Endpoint.{Endpoint}
use Rattle.drv_table.specs.declared.rows.DriverRow.{DriverRow}
use Rattle.drv_table.specs.declared.rows.DriverRow.TheVariants as rows
use Rattle.drv_table.specs.Commands.{events_of, command_row, advanced_by}
use Rattle.drv_table.specs.DriverContent.{DriverContent}
use Rattle.drv_table.specs.Kinds.{is_iso}
use Rattle.drv_table.specs.Parts.{Parts}
use Rattle.drv_table.specs.Rows.{row_for, driver_row, after_driver_row}
use Rattle.drv_table.specs.Words.{is_control}
use Rattle.law_driver.proofs.lemmas.run_owners.Reasons.{each_event_is_due}
use Rattle.law_driver.specs.queued_drivers.Queued.{without_queue, queued_kind, queued_command, queued_made}
use Rattle.law_driver.specs.queued_drivers.Queued.{queued, IsOfWay}
use Rattle.law_driver.specs.queued_drivers.Rows.{QueuesAlike, TellsAlike, IsOfFrames}
use Rattle.law_driver.proofs.lemmas.queued_drivers.CommandFields.{name_same}
use Rattle.law_driver.proofs.lemmas.queued_drivers.RowEvents.{idle_told}
use Rattle.law_queues.specs.told_endpoints.Telling.{lines_in}
use Rattle.law_queues.proofs.lemmas.told_endpoints.Names.{same_name_is}
use Rattle.claims_report.specs.Requests.{Request}
use Rattle.claims_world.specs.Requests.{wired, Windows, opens, window_at}
use Rattle.law_reports.specs.requests.told_requests.Told.{AreToldTo}
use Rattle.bus_world.specs.World.{World, driver_parts, driver_next}
use Rattle.law_world.specs.memory.Mixed.{Standing, IsMixedAt}
use Rattle.law_world.specs.memory.Steps.{AreStill}
use Rattle.law_reports.specs.lines.Lined.{Lines}
use Rattle.law_reports.proofs.lemmas.pipes.Names.{WasQueued, was_queued}
use Rattle.law_reports.specs.requests.Asking.{Sides, Asking, has_left, IsMetControl, IsUnheard, AsksIn}
use Rattle.law_reports.specs.requests.HighAsking.{told_world, told_standing, AsksAt}
use Rattle.law_reports.specs.requests.driver_requests.Rows.{KeepsRequests}
use Rattle.law_reports.proofs.lemmas.requests.HighAlike.{alike_in, is_alike_in}
use Rattle.law_reports.proofs.lemmas.requests.HighLeft.{told_control}
use Rattle.law_reports.proofs.lemmas.requests.HighLines.{TellsOfFrames, frame_lines, frame_lines_same, frame_lines_tell}
use Rattle.law_reports.proofs.lemmas.requests.HighRelinked.{leaves_alike, relinked_asks}
use Rattle.law_reports.proofs.lemmas.requests.Leaving.{IsQuiet, idle_quiet, open_quiet, unlink_quiet, chain_quiet, iso_quiet, unchain_quiet}
use Rattle.law_reports.proofs.lemmas.requests.Leaving.{LinesLeave}

-- ---- while a transfer is published each event of the driver is one of it

publish_not : (b : ℕ) (words : List ℕ) → ◌≡◌ {A = Option Command} None (Some (unfinished.Publish b words)) → ⊥
publish_not b words is = cc

-- what an event of it leaves
pub data Published (made : ℕ) (f : DriverContent) : Type 0 where
  one_more : f.made ≡ suc made → Published made f
  all_made : f.command ≡ None → Published made f

advances : (d : DriverContent) (b : ℕ) (words : List ℕ) → Published d.made (advanced_by d (Some (unfinished.Publish b words)))
advances d b words = by (nat_lt (suc d.made) (length (events_of (unfinished.Publish b words)))) refl
  where
    by : (t : Bool) → nat_lt (suc d.made) (length (events_of (unfinished.Publish b words))) ≡ t
        → Published d.made (advanced_by d (Some (unfinished.Publish b words)))
    by true is =
        one_more (ap (λ (t : Bool). (if t then record d { made = suc d.made } else record d { command = None; made = 0 }).made) is)
    by false is =
        all_made (ap (λ (t : Bool). (if t then record d { made = suc d.made } else record d { command = None; made = 0 }).command) is)

-- its events are the lend and eight stores
abbrev IsOwnRow : DriverRow → Type 0
IsOwnRow rows.Lend = Unit {0}
IsOwnRow (rows.Store c at v) = Unit {0}
IsOwnRow _ = ⊥

own_row : (b : ℕ) (words : List ℕ) (made : ℕ) → made ≤ 8 → IsOwnRow (command_row (unfinished.Publish b words) made)
own_row b words zero few = tt
own_row b words (suc zero) few = tt
own_row b words (suc (suc zero)) few = tt
own_row b words (suc (suc (suc zero))) few = tt
own_row b words (suc (suc (suc (suc zero)))) few = tt
own_row b words (suc (suc (suc (suc (suc zero))))) few = tt
own_row b words (suc (suc (suc (suc (suc (suc zero)))))) few = tt
own_row b words (suc (suc (suc (suc (suc (suc (suc zero))))))) few = tt
own_row b words (suc (suc (suc (suc (suc (suc (suc (suc zero)))))))) few = tt
own_row b words (suc (suc (suc (suc (suc (suc (suc (suc (suc made))))))))) few = absurd (omega (arith, few))

module _ (p : Parts) (b : ℕ) (words : List ℕ) (command : p.driver.command ≡ Some (unfinished.Publish b words)) where
  moved_on : (d : DriverContent) → d.made ≡ p.driver.made → Published p.driver.made (advanced_by d p.driver.command)
  moved_on d same =
      subst (λ (c : Option Command). Published p.driver.made (advanced_by d c)) (sym command)
      (subst (λ (i : ℕ). Published i (advanced_by d (Some (unfinished.Publish b words)))) same (advances d b words))

  by_row : (row : DriverRow) → IsOwnRow row → Published p.driver.made (after_driver_row row p).driver
  by_row rows.Lend own = moved_on _ refl
  by_row (rows.Store c at v) own = moved_on p.driver refl
  by_row _ own = absurd own

  pub publishes_on : p.driver.made ≤ 8 → Published p.driver.made (after_driver_row (driver_row p) p).driver
  publishes_on few =
      by_row (driver_row p) (subst IsOwnRow (sym (ap (λ (c : Option Command). row_for p c) command)) (own_row b words p.driver.made few))

-- so it isn't an event that leaves all queues
published_alike : (d : DriverContent) (f : DriverContent) (b : ℕ) (words : List ℕ) → d.command ≡ Some (unfinished.Publish b words)
    → Published d.made f → f.command ≡ d.command → f.made ≡ d.made → ⊥
published_alike d f b words command (one_more more) same made = omega (arith, more, made)
published_alike d f b words command (all_made none) same made = publish_not b words (sym none ∙ same ∙ command)

-- ---- which commands the queues tell

told_publish : (xs : List Endpoint) (c : Option Command) (b : ℕ) (words : List ℕ) → queued_command xs c ≡ Some (unfinished.Publish b words)
    → c ≡ Some (unfinished.Publish b words)
told_publish xs None b words is = is
told_publish xs (Some (unfinished.Publish c ws)) b words is = is
told_publish xs (Some (unfinished.Open c)) b words is = absurd (cc)
told_publish xs (Some (unfinished.Unlink e c link)) b words is = absurd (cc)
told_publish xs (Some unfinished.Chain) b words is = absurd (cc)
told_publish xs (Some (unfinished.Iso e t count)) b words is = absurd (cc)
told_publish xs (Some (unfinished.Unchain e)) b words is = absurd (cc)

quiet_by : (d : DriverContent) (c : Option Command) → d.command ≡ c → ((b : ℕ) (words : List ℕ) → c ≡ Some (unfinished.Publish b words) → ⊥)
    → IsQuiet d
quiet_by d None is none = idle_quiet d is
quiet_by d (Some (unfinished.Open b)) is none = open_quiet d b is
quiet_by d (Some (unfinished.Unlink e b link)) is none = unlink_quiet d e b link is
quiet_by d (Some (unfinished.Publish b words)) is none = absurd (none b words refl)
quiet_by d (Some unfinished.Chain) is none = chain_quiet d is
quiet_by d (Some (unfinished.Iso e t count)) is none = iso_quiet d e t count is
quiet_by d (Some (unfinished.Unchain e)) is none = unchain_quiet d e is

module _ (s : Standing) (w : World) (k : IsMixedAt s w) where
  -- nothing is being published where the queues stay
  pub stays_quiet : (queued (driver_next w).driver).command ≡ (queued w.driver).command
      → (queued (driver_next w).driver).made ≡ (queued w.driver).made → IsQuiet (queued w.driver)
  stays_quiet same made =
      quiet_by (queued w.driver) (queued w.driver).command refl
      (λ b words is.
      let own : w.driver.command ≡ Some (unfinished.Publish b words) = told_publish w.driver.endpoints w.driver.command b words is in
      let few : (queued w.driver).made ≤ 8 = (k.queues.queues.fed.publishes b words is).few in
      let made_is : (queued w.driver).made ≡ w.driver.made = ap (λ (c : Option Command). queued_made c w.driver.made) own in
      let low : w.driver.made ≤ 8 = (omega (arith, few, made_is)) in
      not_alike (publishes_on (driver_parts w) b words own low) own is made_is)
    where
      not_alike : Published w.driver.made (driver_next w).driver → {b : ℕ} {words : List ℕ}
          → w.driver.command ≡ Some (unfinished.Publish b words)
          → (queued w.driver).command ≡ Some (unfinished.Publish b words) → (queued w.driver).made ≡ w.driver.made → ⊥
      not_alike (one_more more) {b} {words} own is made_is =
          let still : (driver_next w).driver.command ≡ Some (unfinished.Publish b words) =
          told_publish (driver_next w).driver.endpoints (driver_next w).driver.command b words (same ∙ is) in
          let now : (queued (driver_next w).driver).made ≡ (driver_next w).driver.made =
          ap (λ (c : Option Command). queued_made c (driver_next w).driver.made) still in
          omega (arith, more, made, made_is, now)
      not_alike (all_made none) {b} {words} own is made_is =
          publish_not b words (sym (idle_told (driver_next w).driver none) ∙ same ∙ is)

-- ---- names

not_control : (kind : EpKind) (way : Way) → is_iso kind ≡ true → IsOfWay way kind → way ≡ ways.Ctl → ⊥
not_control kind way iso fits ctl =
    let control : kind ≡ kinds.Control = subst (λ (u : Way). IsOfWay u kind) ctl fits in
    false≢true (ap is_iso (sym control) ∙ iso)

by_test : (a b : EpName) (t : Bool) → is_same_name a b ≡ t → (a ≡ b → ⊥) → is_same_name a b ≡ false
by_test a b false is differs = is
by_test a b true is differs = absurd (differs (same_name_is a b is))

-- ---- the requests

module _ (g : Sides) (fixed : Fixed) (s t : Standing) (m : Lines) (w : World) (k : IsMixedAt s w) (still : AreStill s t)
    (a : Asking) (v : Windows) (asks : ℕ → Request) (q : AsksAt g fixed s a v asks w) where
  abbrev After : DriverContent → Mem → Type 0
  After f memory = AsksIn g t.near t.parts t.hand a v asks f memory (wired fixed w)

  -- the driver's content is this, with the same queues
  alike_after : (f : DriverContent) (memory : Mem) (registers : RegisterFile) → QueuesAlike (queued w.driver) f → IsQuiet (queued w.driver)
      → ((e : ℕ) (x : Endpoint) → IsMetControl g f e x → LinesLeave (queued w.driver) f asks v e x.desc.name (g.whole x.desc.name))
      → ((name : EpName) → IsUnheard f name → lines_in name f.reports ≡ lines_in name (queued w.driver).reports) → After f memory
  alike_after f memory registers alike quiet tells lines =
      subst (λ (near : ℕ → Bool). AsksIn g near t.parts t.hand a v asks f memory (wired fixed w)) (sym still.near)
      (relinked_asks g fixed s.near (told_standing s m) a v asks (told_world w) q t.parts t.hand still.told.parts still.told.hand
      (record { driver = f; registers = registers; memory = memory }) (leaves_alike (queued w.driver) f alike quiet) alike.transfers
      alike.notes
      (subst (λ (c : DriverContent). (i : ℕ) → KeepsRequests None (queued w.driver) c i) (sym (is_alike_in (queued w.driver) f alike))
      (λ i. record {
        endpoint = λ x here. record { own = x; here = here; desc = refl; queue = refl; gone = refl };
        transfers = λ t y here of. record
            { own = y; here = here; endpoint = refl; sort = refl; first = refl; qtds = refl; held = λ other. refl };
        notes = λ t b y here of held piece. refl;
      }))
      (subst (λ (c : DriverContent). (e : ℕ) → has_left g c e ≡ true → has_left g (queued w.driver) e ≡ true)
      (sym (is_alike_in (queued w.driver) f alike))
      (λ e on. on)) tells lines)

  -- .. and the same report
  same_lines : (f : DriverContent) → QueuesAlike (queued w.driver) f → TellsAlike (queued w.driver) f → (e : ℕ) (name : EpName)
      → LinesLeave (queued w.driver) f asks v e name (g.whole name)
  same_lines f alike tells e name =
      subst (λ (c : DriverContent). LinesLeave (queued w.driver) c asks v e name (g.whole name))
      (sym (is_alike_in (queued w.driver) f alike))
      (record {
        lines = ap (lines_in name) tells.reports;
        telling = λ reported waits z. record {
          numbers = z.numbers;
          told = subst (λ (rs : _). AreToldTo rs f.store name (g.whole name)
              (map (window_at asks v) reported ++ map (window_at asks v) waits) (map (window_at asks v) waits))
              (sym tells.reports)
              (subst (λ (bs : List ℕ). AreToldTo w.driver.reports bs name (g.whole name)
              (map (window_at asks v) reported ++ map (window_at asks v) waits) (map (window_at asks v) waits))
              (sym tells.store) z.told);
          wait = z.wait;
        };
      })

  pub alike_stays : (f : DriverContent) (memory : Mem) → QueuesAlike (queued w.driver) f → TellsAlike (queued w.driver) f
      → IsQuiet (queued w.driver) → After f memory
  alike_stays f memory alike tells quiet =
      alike_after f memory w.registers alike quiet (λ e x is. same_lines f alike tells e x.desc.name)
      (λ name none. ap (lines_in name) tells.reports)

  -- an event of the frame list
  module _ (alike : QueuesAlike (queued w.driver) (queued (driver_next w).driver))
      (of : IsOfFrames (driver_parts w) (driver_row (driver_parts w))) where
    abbrev new : DriverContent
    new = queued (driver_next w).driver

    lines_now : TellsOfFrames w.driver (driver_next w).driver
    lines_now =
        frame_lines (driver_parts w) (driver_row (driver_parts w)) k.now.framed.place.sound.owners k.turns
        (each_event_is_due (driver_parts w)) of

    -- the name of a control endpoint
    control_apart : (e : ℕ) (x : Endpoint) → IsMetControl g (queued (driver_next w).driver) e x → (i : ℕ) (y : Endpoint)
        → slice_get w.driver.endpoints i ≡ Some y → is_iso y.desc.kind ≡ true → is_same_name y.desc.name x.desc.name ≡ false
    control_apart e x is i y there iso =
        by_test y.desc.name x.desc.name (is_same_name y.desc.name x.desc.name) refl
        (λ same.
        not_control y.desc.kind y.desc.name.way iso (k.turns.kinds_fit i y there)
        (ap (λ (n : EpName). n.way) same ∙ control_way e x is))
      where
        -- a control endpoint is told by its way
        way_of : (way : Way) → is_control (queued_kind way) ≡ true → way ≡ ways.Ctl
        way_of ways.Ctl on = refl
        way_of ways.In on = absurd (false≢true on)
        way_of ways.Out on = absurd (false≢true on)

        control_way : (e : ℕ) (x : Endpoint) → IsMetControl g (queued (driver_next w).driver) e x → x.desc.name.way ≡ ways.Ctl
        control_way e x is =
            let u : WasQueued (driver_next w).driver.endpoints e x = was_queued (driver_next w).driver.endpoints e x is.is.here in
            ap (λ (z : Endpoint). z.desc.name.way) u.is ∙ ap (λ (n : EpName). n.way) (name_same u.endpoint)
            ∙ way_of u.endpoint.desc.name.way
            (sym (told_control u.endpoint) ∙ ap (λ (z : Endpoint). is_control z.desc.kind) (sym u.is) ∙ g.controls x.desc is.is.control)

    unheard_apart : (name : EpName) → IsUnheard (queued (driver_next w).driver) name → (i : ℕ) (y : Endpoint)
        → slice_get w.driver.endpoints i ≡ Some y → is_iso y.desc.kind ≡ true → is_same_name y.desc.name name ≡ false
    unheard_apart name unheard i y there iso =
        by_test y.desc.name name (is_same_name y.desc.name name) refl
        (λ same.
        let told : slice_get (queued w.driver).endpoints i ≡ Some (without_queue y) =
        get_queued w.driver.endpoints i y there ∙ ap (λ (z : Endpoint). Some z) (of_none y iso) in
        false≢true (sym (refused_by (opens new.command (without_queue y).queue) true refl)
        ∙ unheard i (without_queue y) (ap (λ (xs : List Endpoint). slice_get xs i) alike.endpoints ∙ told) same))

    pub frames_stay : (memory : Mem) → After (queued (driver_next w).driver) memory
    frames_stay memory =
        alike_after new memory w.registers alike (stays_quiet s w k alike.command alike.made)
        (λ e x is.
        let name = x.desc.name in
        let same = frame_lines_same w.driver (driver_next w).driver name (control_apart e x is) lines_now in
        let c : LinesLeave (queued w.driver) (alike_in (queued w.driver) new) asks v e name (g.whole name) = record {
          lines = same;
          telling = λ reported waits z. record {
            numbers = z.numbers;
            told = frame_lines_tell w.driver (driver_next w).driver name (control_apart e x is) (g.whole name)
                (map (window_at asks v) reported ++ map (window_at asks v) waits) (map (window_at asks v) waits) lines_now z.told;
            wait = z.wait;
          };
        } in
        subst (λ (d : DriverContent). LinesLeave (queued w.driver) d asks v e name (g.whole name))
        (sym (is_alike_in (queued w.driver) new alike)) c)
        (λ name none. frame_lines_same w.driver (driver_next w).driver name (unheard_apart name none) lines_now)
