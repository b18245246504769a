-- The run of a script that clears no halt is that of a driver without jobs.
use Rattle.std.proofs.Common.{◌≡◌, ℕ, zero, suc, ◌*◌, ◌++◌, List, [], ◌∷◌, Option, Some, None, Result, Ok, Err}
use Rattle.std.proofs.Common.{refl, ap, sym, subst, ◌∙◌, inl, inr}
use Rattle.std.proofs.lemmas.Bool.{cases_Bool}
use Rattle.std.proofs.lemmas.List.{append-nil}
use Rattle.std.specs.Prelude.{find, ◌==◌, if◌then◌else◌}
use Rattle.std.specs.List.{AllByRecursion, flat_map}
use Rattle.usb_base.specs.declared.commands.Cmd.{Cmd}
use Rattle.usb_base.specs.declared.commands.Cmd.TheVariants as commands
use Rattle.usb_base.specs.declared.endpoints.EpName.{EpName}
use Rattle.usb_base.specs.declared.reports.OfferError.{OfferError}
use Rattle.script_types.specs.declared.scripts.Event.{Event}
use Rattle.script_types.specs.declared.scripts.Event.TheVariants as events
use Rattle.script_types.specs.declared.scripts.Line.{Line}
use Rattle.script_types.specs.declared.scripts.Line.TheVariants as lines
use Rattle.script_types.specs.declared.scripts.Script.{Script}
use Rattle.usb_base.specs.declared.packets.EpKind.{EpKind}
use Rattle.usb_base.specs.declared.packets.EpKind.TheVariants as kinds
use Rattle.usb_base.specs.declared.packets.Way.{Way}
use Rattle.usb_base.specs.declared.packets.Way.TheVariants as ways
use Rattle.report_text.specs.ReportText.{report_text, taken_line}
use Rattle.endpoint_script.specs.Device.{Device, taken_of}
use Rattle.hub_class.specs.HubContent.{HubContent}
use Rattle.bus_wire.specs.declared.seats.Seat.{Seat}
use Rattle.bus_wire.specs.Bus.{Fixed, fixed_of}
use Rattle.drv_table.specs.DriverContent.{busy, opened}
use Rattle.drv_table.specs.Accepting.{Offered}
use Rattle.drv_table.specs.Offers.{offered, offered_next}
use Rattle.drv_jobs.specs.JobOffers.{offered_any, offered_whole, without_job}
use Rattle.bus_world.specs.World.{World, next, name_in, commanded, commanded_by}
use Rattle.bus_world.specs.Opening.{opening_world}
use Rattle.bus_world.specs.Orders.{Left, Events, Microframes, Answer, Command, Plugs, OrderedWorld, at_place, left_of, orders_of}
use Rattle.bus_world.specs.Orders.{tick, tick_by, tick_at, ticks, IsOverlong, IsRun}
use Rattle.bus_world.specs.Budgets.{moment}
use Rattle.bus_world.specs.AtWork.{WorldAtWork, StandingAtWork, jobless, next_at_work, driver_of, answered_at_work, commanded_at_work}
use Rattle.bus_world.specs.Closing.{waiting, waiting_text, device_text, hub_of, told_by, closing_text, world_text}
use Rattle.bus_world.specs.ClosingAtWork.{epochs_of, taken_lines, device_text_at_work, told_by_at_work, closing_at_work, text_at_work}
use Rattle.bus_world.specs.Plain.{IsPlain, IsPlainCommand, IsPlainLine, ArePlain}
use Rattle.bus_world.specs.RunsAtWork.{PlaceAtWork, place_at_work, tick_by_at_work, tick_from_at_work, ticks_at_work}
use Rattle.bus_world.specs.RunsAtWork.{moment_at_work, jobless_place, IsOverlongAtWork, IsRunAtWork}
use Rattle.bus_world.specs.RunsAtWork.{IsRunOfAtWork}

-- ---- one event or command

event_plain : (fixed : Fixed) (w : World) (event : Event) → next_at_work fixed (jobless w) event ≡ jobless (next fixed w event)
event_plain fixed w events.D = refl
event_plain fixed w events.C = refl

answer_plain : (w : World) (n : ℕ) (name : EpName) (r : Result Offered OfferError)
    → answered_at_work (jobless w) n name (without_job r) ≡ jobless (commanded_by w n name r)
answer_plain w n name (Ok o) = refl
answer_plain w n name (Err why) = refl

whole_plain : (w : World) (cmd : Cmd) → IsPlainCommand cmd
    → offered_whole w.driver w.memory cmd ≡ without_job (offered_next w.driver w.memory cmd)
whole_plain w (commands.Clear name) h = absurd h
whole_plain w (commands.OpenEp desc) h = refl
whole_plain w (commands.Get name len by) h = refl
whole_plain w (commands.Put name bytes by) h = refl
whole_plain w (commands.Control name setup bytes) h = refl
whole_plain w (commands.Iso name count len seed) h = refl
whole_plain w (commands.Cancel name) h = refl
whole_plain w (commands.Reset port) h = refl
whole_plain w (commands.Give port) h = refl
whole_plain w (commands.DiskRead addr lba count) h = refl
whole_plain w (commands.DiskWrite addr lba bytes) h = refl
whole_plain w (commands.Revive addr) h = refl

pub offer_plain : (w : World) (cmd : Cmd) → IsPlainCommand cmd
    → offered_any (driver_of (jobless w)) w.memory cmd ≡ without_job (offered w.driver w.memory cmd)
offer_plain w cmd h = elim (cases_Bool (busy w.driver)) [
  | inl t ↦ rw t refl
  | inr f ↦ rw f (whole_plain w cmd h)
]

command_plain : (w : World) (n : ℕ) (cmd : Cmd) → IsPlainCommand cmd → commanded_at_work (jobless w) n cmd ≡ jobless (commanded w n cmd)
command_plain w n cmd h =
    ap (answered_at_work (jobless w) n (name_in cmd)) (offer_plain w cmd h)
    ∙ answer_plain w n (name_in cmd) (offered w.driver w.memory cmd)

-- ---- a run

abbrev IsPlainLeft : Left → Type 0
IsPlainLeft (Command n cmd) = IsPlainCommand cmd
IsPlainLeft _ = Unit {0}

abbrev ArePlainLeft : List Left → Type 0
ArePlainLeft orders = AllByRecursion IsPlainLeft orders

tick_plain : (fixed : Fixed) (w : World) (x : Left) (rest : List Left) → IsPlainLeft x
    → tick_by_at_work fixed (jobless w) x rest ≡ jobless_place (tick_by fixed w x rest)
tick_plain fixed w (Events event zero) rest h = refl
tick_plain fixed w (Events event (suc n)) rest h = ap (λ v. place_at_work v (Events event n ∷ rest)) (event_plain fixed w event)
tick_plain fixed w (Microframes zero) rest h = refl
tick_plain fixed w (Microframes (suc n)) rest h = refl
tick_plain fixed w (Answer ended n) rest h = refl
tick_plain fixed w (Command n cmd) rest h = ap (λ v. place_at_work v rest) (command_plain w n cmd h)
tick_plain fixed w (Plugs there port) rest h = refl

rest_plain : (fixed : Fixed) (w : World) (x : Left) (rest : List Left) → IsPlainLeft x → ArePlainLeft rest
    → ArePlainLeft (tick_by fixed w x rest).orders
rest_plain fixed w (Events event zero) rest h r = r
rest_plain fixed w (Events event (suc n)) rest h r = (tt, r)
rest_plain fixed w (Microframes zero) rest h r = r
rest_plain fixed w (Microframes (suc n)) rest h r = (tt, r)
rest_plain fixed w (Answer ended n) rest h r = (tt, r)
rest_plain fixed w (Command n cmd) rest h r = r
rest_plain fixed w (Plugs there port) rest h r = r

from_plain : (fixed : Fixed) (w : World) (orders : List Left) → ArePlainLeft orders
    → tick_from_at_work fixed (jobless w) orders ≡ jobless_place (tick_at fixed w orders)
from_plain fixed w [] h = refl
from_plain fixed w (x ∷ rest) h = tick_plain fixed w x rest h.0

after_plain : (fixed : Fixed) (w : World) (orders : List Left) → ArePlainLeft orders → ArePlainLeft (tick_at fixed w orders).orders
after_plain fixed w [] h = h
after_plain fixed w (x ∷ rest) h = rest_plain fixed w x rest h.0 h.1

pub ticks_plain : (fixed : Fixed) (p : OrderedWorld) (k : ℕ) → ArePlainLeft p.orders
    → ticks_at_work fixed (jobless_place p) k ≡ jobless_place (ticks fixed p k)
unfolding ticks ticks_at_work
ticks_plain fixed p zero h = refl
ticks_plain fixed p (suc k) h =
    ap (λ q. ticks_at_work fixed q k) (from_plain fixed p.world p.orders h)
    ∙ ticks_plain fixed (tick fixed p) k (after_plain fixed p.world p.orders h)

line_plain : (l : Line) (n : ℕ) → IsPlainLine l → IsPlainLeft (left_of l n)
line_plain (lines.Command cmd) n h = h
line_plain _ n h = tt

pub lines_plain : (xs : List (ℕ × Line)) → ArePlain xs → ArePlainLeft (orders_of xs)
lines_plain [] h = tt
lines_plain (x ∷ xs) h = (line_plain x.1 x.0 h.0, lines_plain xs h.1)

pub steady_scripts_run_plain : (s : Script) → IsPlain s → (k : ℕ) → moment_at_work s k ≡ jobless_place (moment s k)
steady_scripts_run_plain s h k = ticks_plain (fixed_of s) (at_place (opening_world s) (orders_of s.lines)) k (lines_plain s.lines h)

-- ---- what a run leads to

after_ticks : (fixed : Fixed) (p : OrderedWorld) (k : ℕ) → ArePlainLeft p.orders → ArePlainLeft (ticks fixed p k).orders
unfolding ticks
after_ticks fixed p zero h = h
after_ticks fixed p (suc k) h = after_ticks fixed (tick fixed p) k (after_plain fixed p.world p.orders h)

place_is : (p : OrderedWorld) (w : World) (orders : List Left) → p.world ≡ w → p.orders ≡ orders → p ≡ at_place w orders
place_is p w orders e f = subst (λ (v : World). p ≡ at_place v orders) e (subst (λ (os : List Left). p ≡ at_place p.world os) f refl)

-- so many ticks of a plain run lead to a world without a job
record IsPlainPlace (fixed : Fixed) (p : OrderedWorld) (k : ℕ) (w : WorldAtWork) (orders : List Left) : Type 0 where
  work : w ≡ jobless w.world
  there : ticks fixed p k ≡ at_place w.world orders
  plain : ArePlainLeft orders

plain_place : (fixed : Fixed) (p : OrderedWorld) (k : ℕ) (w : WorldAtWork) (orders : List Left) → ArePlainLeft p.orders
    → ticks_at_work fixed (jobless_place p) k ≡ place_at_work w orders → IsPlainPlace fixed p k w orders
plain_place fixed p k w orders h led =
    let e : jobless_place (ticks fixed p k) ≡ place_at_work w orders = sym (ticks_plain fixed p k h) ∙ led in
    let work : jobless (ticks fixed p k).world ≡ w = ap (λ (q : PlaceAtWork). q.work) e in
    let world : (ticks fixed p k).world ≡ w.world = ap (λ (v : WorldAtWork). v.world) work in
    let left : (ticks fixed p k).orders ≡ orders = ap (λ (q : PlaceAtWork). q.orders) e in
    record {
      work = sym work ∙ ap jobless world;
      there = place_is (ticks fixed p k) w.world orders world left;
      plain = subst ArePlainLeft left (after_ticks fixed p k h);
    }

-- a world without a job, after this run of a driver without jobs
pub record IsJoblessRun (fixed : Fixed) (w : World) (orders : List Left) (v : WorldAtWork) : Type 0 where
  pub work : v ≡ jobless v.world
  pub ran : IsRun fixed w orders v.world

overlong_plain : (fixed : Fixed) (p : OrderedWorld) (v : WorldAtWork) → ArePlainLeft p.orders → IsOverlongAtWork fixed (jobless_place p) v
    → (v ≡ jobless v.world) × IsOverlong fixed p v.world
overlong_plain fixed p v h o =
    let left : List Left = Microframes (suc o.n) ∷ o.rest in
    let begun : IsPlainPlace fixed p o.leads.count o.begun left = plain_place fixed p o.leads.count o.begun left h o.leads.there in
    let at : OrderedWorld = at_place o.begun.world left in
    let turns : ℕ = 2 * o.unended.turns in
    let still : ticks_at_work fixed (jobless_place at) turns ≡ place_at_work v left =
    subst (λ (z : WorldAtWork). ticks_at_work fixed (place_at_work z left) turns ≡ place_at_work v left) begun.work o.unended.still in
    let ended : IsPlainPlace fixed at turns v left = plain_place fixed at turns v left begun.plain still in (
      ended.work,
      record {
        begun = o.begun.world;
        n = o.n;
        rest = o.rest;
        leads = record { count = o.leads.count; there = begun.there };
        unended = record { turns = o.unended.turns; many = o.unended.many; still = ended.there };
      },
    )

run_plain : (fixed : Fixed) (w : World) (orders : List Left) (v : WorldAtWork) → ArePlainLeft orders
    → IsRunAtWork fixed (jobless w) orders v → IsJoblessRun fixed w orders v
run_plain fixed w orders v h (inl led) =
    let there : IsPlainPlace fixed (at_place w orders) led.count v [] = plain_place fixed (at_place w orders) led.count v [] h led.there in
    record { work = there.work; ran = inl (record { count = led.count; there = there.there }) }
run_plain fixed w orders v h (inr long) =
    let o = overlong_plain fixed (at_place w orders) v h long in
    record { work = o.0; ran = inr o.1 }

-- the run of a plain script
pub plain_scripts_run : (s : Script) (w : StandingAtWork) → IsPlain s → IsRunOfAtWork s w
    → IsJoblessRun (fixed_of s) (opening_world s) (orders_of s.lines) w.work
plain_scripts_run s w h ran = run_plain (fixed_of s) (opening_world s) (orders_of s.lines) w.work (lines_plain s.lines h) ran.ran

-- ---- the report

lines_plain_text : (name : EpName) (taken : List ℕ) → taken_lines [] name taken ≡ taken_line name taken
unfolding epochs_of
lines_plain_text name taken = append-nil (taken_line name taken)

device_plain : (way : Way) (kind : EpKind) (name : EpName) (d : Device)
    → device_text_at_work [] way kind name d ≡ device_text way kind name d
device_plain ways.Out kinds.Bulk name d = lines_plain_text name (taken_of d name)
device_plain ways.Out kinds.Interrupt name d = lines_plain_text name (taken_of d name)
device_plain ways.Out kinds.Control name d = refl
device_plain ways.Out kinds.Iso name d = refl
device_plain ways.In kind name d = refl
device_plain ways.Ctl kind name d = refl

told_plain : (s : Seat) (d : Option Device) (h : Option HubContent) → told_by_at_work [] s d h ≡ told_by s d h
told_plain s None h = refl
told_plain s (Some d) h = device_plain s.name.way s.kind s.name d

closing_plain : (w : World) (s : Seat) → closing_at_work (jobless w) s ≡ closing_text w s
closing_plain w s =
    ap (λ xs. if opened w.driver s.name then waiting_text s.name (waiting w.driver s.name) ++ xs else [])
    (told_plain s (find (λ d. d.address == s.name.addr) w.bus.devices) (hub_of w.bus s.name))

closings_plain : (w : World) (seats : List Seat) → flat_map (closing_at_work (jobless w)) seats ≡ flat_map (closing_text w) seats
closings_plain w [] = refl
closings_plain w (s ∷ seats) =
    ap (λ xs. xs ++ flat_map (closing_at_work (jobless w)) seats) (closing_plain w s)
    ∙ ap (λ xs. closing_text w s ++ xs) (closings_plain w seats)

pub jobless_worlds_are_told_as_before : (fixed : Fixed) (w : World) → text_at_work fixed (jobless w) ≡ world_text fixed w
jobless_worlds_are_told_as_before fixed w = ap (λ xs. report_text w.driver.reports w.driver.store ++ xs) (closings_plain w fixed.seats)
