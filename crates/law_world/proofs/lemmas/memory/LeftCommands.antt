-- Commands and events of the controller leave the links of the queue heads for which Async Advance was cleared.
use Rattle.std.proofs.Common.{◌≡◌, ◌≢◌, ℕ, List, [], ◌∷◌, ◌++◌}
use Rattle.std.proofs.Common.{set, slice_get, Option, Some, None, Result, Ok, Err, ap, refl, sym, subst, ◌∙◌, ⊎_elim, inl}
use Rattle.std.proofs.lemmas.Bool.{cases_eq}
use Rattle.std.proofs.lemmas.Option.{same_Some}
use Rattle.law_common.proofs.Lists.{set_here, set_there, push_there}
use Rattle.law_world.proofs.Common.{without_last}
use Rattle.usb_base.specs.declared.commands.Cmd.{Cmd}
use Rattle.usb_base.specs.declared.reports.OfferError.{OfferError}
use Rattle.word_mem.specs.declared.blocks.BlockState.TheVariants.{Lent}
use Rattle.word_mem.specs.Memory.{Mem, state_at}
use Rattle.drv_table.specs.declared.content.Command.{Command}
use Rattle.drv_table.specs.declared.content.Command.TheVariants as unfinished
use Rattle.drv_table.specs.declared.content.Endpoint.{Endpoint}
use Rattle.drv_table.specs.DriverContent.{DriverContent}
use Rattle.drv_table.specs.Accepting.{Offered}
use Rattle.drv_table.specs.Offers.{offered, placed_endpoint}
use Rattle.bus_wire.specs.Bus.{Fixed}
use Rattle.bus_world.specs.World.{World, controller_next, commanded_by, name_in}
use Rattle.claims_driver.specs.Leaving.{HasOwners}
use Rattle.claims_driver.specs.Ring.{link_in, IsAmong, first, later}
use Rattle.claims_world.specs.Memory.{linked_to}
use Rattle.claims_world.specs.Links.{IsLive, the_head, a_queue, IsLiveOrLater, live, left_later}
use Rattle.law_driver.proofs.lemmas.queued_drivers.CommandLeaves.{unchained}
use Rattle.law_driver.proofs.lemmas.run_owners.Commands.{each_command_has_its_reason}
use Rattle.law_driver.specs.run_owners.Accepts.{Accepts, opens, chains, places, transfers, describes, cancels, unchains}
use Rattle.law_world.specs.memory.Links.{IsOut, AreOut, HasCleared, CommandKeepsCleared, ControllerKeepsCleared}
use Rattle.law_world.specs.memory.Mixed.{Standing, IsMixedAt}
use Rattle.law_world.specs.memory.Owners.{EndsActive}
use Rattle.law_world.proofs.lemmas.memory.LinkLent.{queue_told, command_leaves_aside, controller_leaves_aside}
use Rattle.law_world.proofs.lemmas.memory.RingGoes.{IsNow}
use Rattle.law_world.proofs.lemmas.memory.ReleaseCommands.{waiting_same, rung_same, cleared_same}
use Rattle.law_world.proofs.lemmas.memory.LeftLinks.{IsCleared, left_is, queued, cleared_run, LiveThen, still, all_then, linked_before}

-- ---- a command

-- its endpoints stay where they are, and those that are live
record Accepted (d new : DriverContent) : Type 0 where
  ends : (e : ℕ) (x : Endpoint) → slice_get d.endpoints e ≡ Some x → IsNow new e x
  live : (e : ℕ) (x z : Endpoint) → slice_get d.endpoints e ≡ Some x → slice_get new.endpoints e ≡ Some z
      → slice_get (linked_to new.command new.endpoints) e ≡ Some z
  stays : (e : ℕ) (x z : Endpoint) → slice_get d.endpoints e ≡ Some x → slice_get new.endpoints e ≡ Some z → z.linked ≡ x.linked

pushed_goes : (d new : DriverContent) (y : Endpoint) → new.endpoints ≡ d.endpoints ++ y ∷ []
    → ((e : ℕ) (z : Endpoint) → slice_get d.endpoints e ≡ Some z → slice_get (linked_to new.command new.endpoints) e ≡ Some z)
    → Accepted d new
pushed_goes d new y is shows = record {
  ends = λ e x here. record { endpoint = x; here = there e x here; queue = refl; desc = refl; ring = λ on. inl on };
  live = λ e x z here now. subst (λ (v : Endpoint). slice_get (linked_to new.command new.endpoints) e ≡ Some v) (one e x z here now)
      (shows e x here);
  stays = λ e x z here now. ap (λ (v : Endpoint). v.linked) (sym (one e x z here now));
}
  where
    there : (e : ℕ) (x : Endpoint) → slice_get d.endpoints e ≡ Some x → slice_get new.endpoints e ≡ Some x
    there e x here = ap (λ (xs : List Endpoint). slice_get xs e) is ∙ push_there d.endpoints y e x here

    one : (e : ℕ) (x z : Endpoint) → slice_get d.endpoints e ≡ Some x → slice_get new.endpoints e ≡ Some z → x ≡ z
    one e x z here now = same_Some x z (sym (there e x here) ∙ now)

record IsSet (new : DriverContent) (e : ℕ) (x : Endpoint) : Type 0 where
  endpoint : Endpoint
  here : slice_get new.endpoints e ≡ Some endpoint
  queue : endpoint.queue ≡ x.queue
  desc : endpoint.desc ≡ x.desc
  linked : endpoint.linked ≡ x.linked

set_goes : (d new : DriverContent) (f : ℕ) (v y : Endpoint) → slice_get d.endpoints f ≡ Some v → new.endpoints ≡ set d.endpoints f y
    → y.queue ≡ v.queue → y.desc ≡ v.desc → y.linked ≡ v.linked → linked_to new.command new.endpoints ≡ new.endpoints → Accepted d new
set_goes d new f v y at is queue desc linked whole = record {
  ends = λ e x here.
      let n : IsSet new e x = each e x here in
      record { endpoint = n.endpoint; here = n.here; queue = n.queue; desc = n.desc; ring = λ on. inl (n.linked ∙ on) };
  live = λ e x z here now. ap (λ (xs : List Endpoint). slice_get xs e) whole ∙ now;
  stays = λ e x z here now.
      let n : IsSet new e x = each e x here in
      ap (λ (u : Endpoint). u.linked) (sym (same_Some n.endpoint z (sym n.here ∙ now))) ∙ n.linked;
}
  where
    each : (e : ℕ) (x : Endpoint) → slice_get d.endpoints e ≡ Some x → IsSet new e x
    each e x here =
        ⊎_elim
        (λ (same : e ≡ f).
        let one : v ≡ x = same_Some v x (sym at ∙ ap (slice_get d.endpoints) (sym same) ∙ here) in
        record {
          endpoint = y;
          here = ap (λ (xs : List Endpoint). slice_get xs e) is ∙ ap (slice_get (set d.endpoints f y)) same ∙ set_here d.endpoints f v y at;
          queue = queue ∙ ap (λ (u : Endpoint). u.queue) one;
          desc = desc ∙ ap (λ (u : Endpoint). u.desc) one;
          linked = linked ∙ ap (λ (u : Endpoint). u.linked) one;
        })
        (λ (differs : e ≢ f). record {
          endpoint = x;
          here = ap (λ (xs : List Endpoint). slice_get xs e) is ∙ set_there d.endpoints f e y differs ∙ here;
          queue = refl;
          desc = refl;
          linked = refl;
        })
        (cases_eq e f)

-- the whole list is linked to, but for an open
whole_by : (new : DriverContent) (o : Option Command) → new.command ≡ o → linked_to o new.endpoints ≡ new.endpoints
    → linked_to new.command new.endpoints ≡ new.endpoints
whole_by new o is same = ap (λ (c : Option Command). linked_to c new.endpoints) is ∙ same

command_goes : (d : DriverContent) (m : Mem) (o : Offered) → Accepts d m o → Accepted d o.driver
command_goes d m o (opens why) =
    let is : o.driver.endpoints ≡ d.endpoints ++ _ = ap (λ (g : Offered). g.driver.endpoints) why.is in
    pushed_goes d o.driver _ is
    (λ e z here.
    ap (λ (g : Offered). slice_get (linked_to g.driver.command g.driver.endpoints) e) why.is
    ∙ ap (λ (xs : List Endpoint). slice_get xs e) (without_last d.endpoints _) ∙ here)
command_goes d m o (chains why) =
    pushed_goes d o.driver _ (ap (λ (g : Offered). g.driver.endpoints) why.is)
    (λ e z here. ap (λ (g : Offered). slice_get (linked_to g.driver.command g.driver.endpoints) e) why.is
    ∙ push_there d.endpoints _ e z here)
command_goes d m o (places why) =
    let y : Endpoint = placed_endpoint why.desc why.placement 0 0 in
    let ends : o.driver.endpoints ≡ d.endpoints ++ y ∷ [] = ap (λ (g : Offered). g.driver.endpoints) why.is in
    pushed_goes d o.driver y ends
    (λ e z here.
    ap (λ (xs : List Endpoint). slice_get xs e) (whole_by o.driver None (ap (λ (g : Offered). g.driver.command) why.is ∙ why.idle) refl ∙
    ends)
    ∙ push_there d.endpoints y e z here)
command_goes d m o (transfers why) =
    set_goes d o.driver why.number why.endpoint _ why.here (ap (λ (g : Offered). g.driver.endpoints) why.is) refl refl refl
    (whole_by o.driver _ (ap (λ (g : Offered). g.driver.command) why.is) refl)
command_goes d m o (describes why) =
    set_goes d o.driver why.number why.endpoint _ why.here (ap (λ (g : Offered). g.driver.endpoints) why.is) refl refl refl
    (whole_by o.driver _ (ap (λ (g : Offered). g.driver.command) why.is) refl)
command_goes d m o (cancels why) =
    set_goes d o.driver why.number why.endpoint _ why.here (ap (λ (g : Offered). g.driver.endpoints) why.is) refl refl refl
    (whole_by o.driver _ (ap (λ (g : Offered). g.driver.command) why.is) refl)
command_goes d m o (unchains why) =
    let u = unchained d m o why in
    let command : o.driver.command ≡ u.command = ap (λ (g : DriverContent). g.command) u.is in
    set_goes d o.driver why.number why.endpoint _ why.here (ap (λ (g : DriverContent). g.endpoints) u.is) refl refl refl
    (⊎_elim (λ (on : u.command ≡ Some (unfinished.Unchain why.number)). whole_by o.driver _ (command ∙ on) refl)
    (λ (off : u.command ≡ None). whole_by o.driver None (command ∙ off) refl) u.which)

module _ (s : Standing) (w : World) (k : IsMixedAt s w) (cleared : HasCleared w) where
  accepted : (line : ℕ) (cmd : Cmd) (o : Offered) → offered w.driver w.memory cmd ≡ Ok o
      → ((c : ℕ) → state_at w.memory c ≡ Some Lent → (link_in o.memory c ≡ link_in w.memory c) × (state_at o.memory c ≡ Some Lent))
      → AreOut o.memory o.driver (o.driver.rung ++ o.driver.waiting) o.driver.cleared
  accepted line cmd o is words =
      let d = w.driver in
      let m = w.memory in
      let a : Accepted d o.driver = command_goes d m o (each_command_has_its_reason d m cmd o is) in
      let has : HasOwners d = k.now.framed.place.sound.owners in
      let lists : o.driver.rung ++ o.driver.waiting ≡ d.rung ++ d.waiting
      = ap (λ es. es ++ o.driver.waiting) (rung_same d m cmd o is) ∙ ap (λ es. d.rung ++ es) (waiting_same d m cmd o is) in
      subst (λ (es : List ℕ). AreOut o.memory o.driver (o.driver.rung ++ o.driver.waiting) es) (sym (cleared_same d m cmd o is))
      (all_then m o.memory d o.driver (d.rung ++ d.waiting) (o.driver.rung ++ o.driver.waiting) a.ends
      (λ g among. subst (IsAmong g) (sym lists) among)
      (λ b. live_accepted d o.driver a (o.driver.rung ++ o.driver.waiting) b)
      d.cleared
      (λ e x among here lent. record {
        off = λ z now. a.stays e x z here now ∙ (left_is d has e x (inl among) here).off;
        word = (words x.queue lent).0;
        lent = (words x.queue lent).1;
      }) cleared)
    where
      live_accepted : (d new : DriverContent) → Accepted d new → (fs : List ℕ) (b : ℕ) → IsLive d b → LiveThen new fs b
      live_accepted d new a fs b (the_head at) = still (the_head at)
      live_accepted d new a fs b (a_queue e x there on at) =
          let here : slice_get d.endpoints e ≡ Some x = linked_before d d.command e x there in
          let n : IsNow new e x = a.ends e x here in
          still (a_queue e n.endpoint (a.live e x n.endpoint here n.here) (a.stays e x n.endpoint here n.here ∙ on) (at ∙ sym n.queue))

  answered : (line : ℕ) (cmd : Cmd) (r : Result Offered OfferError) → offered w.driver w.memory cmd ≡ r
      → HasCleared (commanded_by w line (name_in cmd) r)
  answered line cmd (Ok o) is =
      accepted line cmd o is
      (λ c lent.
      let all = command_leaves_aside s w k line cmd c lent in
      subst (λ (v : World). (link_in v.memory c ≡ link_in w.memory c) × (state_at v.memory c ≡ Some Lent))
      (ap (commanded_by w line (name_in cmd)) is) all)
  answered line cmd (Err why) is = refused w.driver.cleared cleared
    where
      new : DriverContent
      new = (commanded_by w line (name_in cmd) (Err why)).driver

      live_too : (b : ℕ) → IsLive w.driver b → IsLive (commanded_by w line (name_in cmd) (Err why)).driver b
      live_too b (the_head at) = the_head at
      live_too b (a_queue e x there on at) = a_queue e x there on at

      target_too : (es : List ℕ) (b : ℕ) → IsLiveOrLater w.driver es b
          → IsLiveOrLater (commanded_by w line (name_in cmd) (Err why)).driver es b
      target_too es b (live l) = live (live_too b l)
      target_too es b (left_later e a at) = left_later e a at

      out_too : (es : List ℕ) (e : ℕ) → IsOut w.memory w.driver es e
          → IsOut w.memory (commanded_by w line (name_in cmd) (Err why)).driver es e
      out_too es e o = record {
        left = record {
          endpoint = o.left.endpoint;
          here = o.left.here;
          out = o.left.out;
          leads = record { block = o.left.leads.block; link = o.left.leads.link; is = target_too es o.left.leads.block o.left.leads.is };
        };
        lent = o.lent;
      }

      refused : (es : List ℕ) → AreOut w.memory w.driver (w.driver.rung ++ w.driver.waiting) es
          → AreOut w.memory (commanded_by w line (name_in cmd) (Err why)).driver (w.driver.rung ++ w.driver.waiting) es
      refused [] all = tt
      refused (e ∷ es) all = (out_too (es ++ (w.driver.rung ++ w.driver.waiting)) e all.0, refused es all.1)

pub command_keeps_cleared : CommandKeepsCleared
command_keeps_cleared = λ w line cmd k cleared. answered k.standing w k.mixed cleared line cmd (offered w.driver w.memory cmd) refl

-- ---- an event of the controller

controlled : (fixed : Fixed) (s : Standing) (w : World) → IsMixedAt s w → EndsActive w.control → (es : List ℕ)
    → ((e : ℕ) → IsAmong e es → IsAmong e w.driver.cleared) → AreOut w.memory w.driver (w.driver.rung ++ w.driver.waiting) es
    → AreOut (controller_next fixed w).memory w.driver (w.driver.rung ++ w.driver.waiting) es
controlled fixed s w k ends [] within all = tt
controlled fixed s w k ends (e ∷ es) within all =
    let h = all.0.left in
    let x : Endpoint = h.endpoint in
    let has : HasOwners w.driver = k.now.framed.place.sound.owners in
    let c : IsCleared w.driver e x = left_is w.driver has e x (inl (within e (first es))) h.here in
    let told = queue_told s w k e x h.here (queued w.driver has e x c h.here) (cleared_run w.driver has e x c h.here) all.0.lent in
    let stay = controller_leaves_aside fixed s w k ends x.queue told in (
      record {
        left = record {
          endpoint = x;
          here = h.here;
          out = h.out;
          leads = record { block = h.leads.block; link = stay.0 ∙ h.leads.link; is = h.leads.is };
        };
        lent = ap (λ ss. slice_get ss x.queue) stay.1 ∙ all.0.lent;
      },
      controlled fixed s w k ends es (λ f a. within f (later e es a)) all.1,
    )

pub controller_keeps_cleared : ControllerKeepsCleared
controller_keeps_cleared = λ fixed w k ends cleared.
    controlled fixed k.standing w k.mixed ends w.driver.cleared (λ e a. a) cleared
