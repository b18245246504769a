-- At each moment of a run the head of the reclamation list was read at most once since the last transaction while the asynchronous part goes on, and at most twice in all.
use Rattle.std.proofs.Common.{◌≡◌, ◌≢◌, ℕ, zero, suc, ◌≤◌, Bool, true, false, if◌then◌else◌, ap, sym, subst, ◌∙◌, refl, arith}
use Rattle.std.proofs.lemmas.Bool.{true≢false}
use Rattle.usb_base.specs.declared.commands.Cmd.{Cmd}
use Rattle.script_types.specs.declared.scripts.Script.{Script}
use Rattle.word_mem.specs.Memory.{reaches}
use Rattle.op_registers.specs.RegisterFile.{RegisterFile}
use Rattle.op_registers.specs.Events.{after_begin}
use Rattle.async_walk.specs.declared.rows.WalkRow.{WalkRow}
use Rattle.async_walk.specs.declared.rows.WalkRow.TheVariants as walks
use Rattle.async_walk.specs.declared.state.WalkStep.{WalkStep}
use Rattle.async_walk.specs.declared.state.WalkStep.TheVariants as walk_steps
use Rattle.async_walk.specs.Rows.{WalkPlace, fetched_registers, at_event, event_row, step_of}
use Rattle.hc_core.specs.declared.controller.ControllerRow.{ControllerRow}
use Rattle.hc_core.specs.declared.controller.ControllerRow.TheVariants as rows
use Rattle.hc_core.specs.declared.controller.MicroframePart.{MicroframePart}
use Rattle.hc_core.specs.declared.controller.MicroframePart.TheVariants.{Over, Periodic, Asynchronous}
use Rattle.hc_core.specs.Controller.{Control, Content, element_address, begun_at, entered, hc_step, part_after, frame_step, walk_place, kind_of}
use Rattle.bus_wire.specs.Bus.{Bus, Fixed, fixed_of, is_allowed}
use Rattle.bus_world.specs.World.{World, controller_parts, controller_row, controller_next, driver_next, commanded, turned_by, walk_by}
use Rattle.bus_world.specs.Budgets.{moment}
use Rattle.law_world.proofs.lemmas.memory.Carrying.{carrying}
use Rattle.law_microframes.proofs.lemmas.visits.ReasonParts.{InPart, row_in, command_control}
use Rattle.law_microframes.specs.time.HeadReads.{reclamation_at, heads_by, heads_after, heads_next, heads, EndsThere, HeadsAreFew, ScriptsReadFewHeads, TextsReadFewHeads}
use Rattle.law_microframes.proofs.lemmas.time.HeadReading.{Tells, row_tells, took_leaves, wrote_leaves, sends_first, skip_leaves, fetched_reclamation, quiet_by, goes_with, worlds_leave_reclamation}

-- ---- what holds of the count

record IsQuiet (first reclamation : Bool) (n : ℕ) : Type 0 where
  begun : first ≡ false
  few : n ≤ 1
  quiet : 1 ≤ n → reclamation ≡ false

record IsCounted (part : MicroframePart) (first reclamation : Bool) (n : ℕ) : Type 0 where
  most : n ≤ 2
  goes : part ≡ Asynchronous → IsQuiet first reclamation n

outside : (part : MicroframePart) (first reclamation : Bool) (n : ℕ) → part ≢ Asynchronous → n ≤ 2 → IsCounted part first reclamation n
outside part first reclamation n out most = record { most = most; goes = λ on. absurd (out on) }

going : (part : MicroframePart) (first reclamation : Bool) (n : ℕ) → first ≡ false → n ≤ 1 → (1 ≤ n → reclamation ≡ false) → IsCounted part first reclamation n
going part first reclamation n begun few quiet = record { most = omega (arith, few); goes = λ on. record { begun = begun; few = few; quiet = quiet } }

over_no : Over ≢ Asynchronous
over_no e = cc

periodic_no : Periodic ≢ Asynchronous
periodic_no e = cc

-- ---- an event of the walk of the ring

none_yet : (n : ℕ) (r : Bool) → (1 ≤ n → r ≡ false) → r ≡ true → n ≡ 0
none_yet zero r quiet on = refl
none_yet (suc n) r quiet on = absurd (true≢false (sym on ∙ quiet (omega arith)))

fetched_counted : (head : Bool) (first : Bool) (r : RegisterFile) (n : ℕ) → first ≡ false → (head ≡ true → r.reclamation ≡ true) → n ≤ 1 → (1 ≤ n → r.reclamation ≡ false)
    → IsCounted Asynchronous first (fetched_registers head r).reclamation (if head then suc n else n)
fetched_counted true first r n begun tells few quiet =
    going Asynchronous first (fetched_registers true r).reclamation (suc n) begun (omega (arith, none_yet n r.reclamation quiet (tells refl))) (λ some. fetched_reclamation r)
fetched_counted false first r n begun tells few quiet = going Asynchronous first r.reclamation n begun few quiet

row_counted : (fixed : Fixed) (row : WalkRow) (p : WalkPlace) (b : Bus) (n : ℕ) → p.walk.first ≡ false → Tells row p.registers.reclamation → n ≤ 1 → (1 ≤ n → p.registers.reclamation ≡ false)
    → IsCounted (part_after Asynchronous (step_of row p)) (walk_by fixed row p b).place.walk.first (walk_by fixed row p b).place.registers.reclamation (heads_by row n)
row_counted fixed walks.HeadEnds p b n begun tells few quiet = outside Over _ _ (suc n) over_no (omega (arith, few))
row_counted fixed (walks.Fetch a q) p b n begun tells few quiet = fetched_counted q.head p.walk.first p.registers n begun tells few quiet
row_counted fixed walks.Skip p b n begun tells few quiet =
    let l = skip_leaves p in
    going Asynchronous _ _ n (l.first ∙ begun) few (λ some. l.reclamation ∙ quiet some)
row_counted fixed (walks.Advance a t) p b n begun tells few quiet =
    let l = took_leaves a t p p.walk.held in
    going (part_after Asynchronous (step_of (walks.Advance a t) p)) _ _ n (l.first ∙ begun) few (λ some. l.reclamation ∙ quiet some)
row_counted fixed (walks.Transact t) p b n begun tells few quiet =
    going (part_after Asynchronous (step_of (walks.Transact t) p)) _ _ 0 (sends_first fixed t p p.walk.held b ∙ begun) (omega arith) (λ some. absurd (omega (arith, some)))
row_counted fixed walks.WriteBack p b n begun tells few quiet =
    let l = wrote_leaves p p.walk.held in
    going (part_after Asynchronous (step_of walks.WriteBack p)) _ _ n (l.first ∙ begun) few (λ some. l.reclamation ∙ quiet some)
row_counted fixed _ p b n begun tells few quiet = outside Over _ _ n over_no (omega (arith, few))

-- ---- an event of the controller

frame_no : (step : WalkStep) → part_after Periodic step ≢ Asynchronous
frame_no walk_steps.Fetch e = cc
frame_no _ e = cc

begun_no : (b allowed : Bool) (c : Content) → c.control.part ≡ Over → (begun_at b allowed c).control.part ≢ Asynchronous
begun_no true allowed c over e = cc
begun_no false allowed c over e = over_no (sym over ∙ e)

abbrev CountedIn : Content → ℕ → Type 0
CountedIn c n = IsCounted c.control.part c.control.walk.first c.registers.reclamation n

turn_counted : (fixed : Fixed) (row : ControllerRow) (c : Content) (b : Bus) (n : ℕ) → InPart row c.control.part → CountedIn c n → CountedIn (turned_by fixed row c b).content (heads_after row c n)
turn_counted fixed rows.Idle c b n at k = k
turn_counted fixed rows.Begin c b n at k =
    outside _ _ _ n (begun_no (reaches c.memory (element_address (after_begin c.registers))) (is_allowed fixed b) (record c { registers = after_begin c.registers }) at) k.most
turn_counted fixed rows.Frame c b n at k = outside _ _ _ n (frame_no (frame_step c)) k.most
turn_counted fixed rows.Enter c b n at k =
    row_counted fixed (event_row (walk_place (entered c))) (at_event (walk_place (entered c))) b 0 refl (row_tells (walk_place (entered c))) (omega arith) (λ some. absurd (omega (arith, some)))
turn_counted fixed rows.Go c b n at k =
    let q = k.goes at in
    row_counted fixed (event_row (walk_place c)) (at_event (walk_place c)) b n refl (row_tells (walk_place c)) q.few
    (λ some. goes_with c.control.walk.first c.registers q.begun ∙ q.quiet some)
turn_counted fixed rows.End c b n at k = outside _ _ _ n over_no k.most

abbrev Counted : World → ℕ → Type 0
Counted w n = IsCounted w.control.part w.control.walk.first w.registers.reclamation n

controller_counted : (fixed : Fixed) (w : World) (n : ℕ) → Counted w n → Counted (controller_next fixed w) (heads_after (controller_row w) (controller_parts w) n)
controller_counted fixed w n k = turn_counted fixed (controller_row w) (controller_parts w) w.bus n (row_in w) k

driver_counted : (w : World) (n : ℕ) → Counted w n → Counted (driver_next w) n
driver_counted w n k = subst (λ (r : Bool). IsCounted w.control.part w.control.walk.first r n) (sym (worlds_leave_reclamation w).driver) k

command_counted : (w : World) (line : ℕ) (cmd : Cmd) (n : ℕ) → Counted w n → Counted (commanded w line cmd) n
command_counted w line cmd n k =
    subst (λ (c : Control). IsCounted c.part c.walk.first (commanded w line cmd).registers.reclamation n) (sym (command_control w line cmd))
    (subst (λ (r : Bool). IsCounted w.control.part w.control.walk.first r n) (sym ((worlds_leave_reclamation w).command line cmd)) k)

moment_counted : (s : Script) (k : ℕ) → Counted (moment s k).world (heads s k)
moment_counted s k =
    carrying heads_next (λ w orders n. Unit {0}) Counted s 0
    (record {
      controller = λ w orders n known k. controller_counted (fixed_of s) w n k;
      driver = λ w orders n known k. driver_counted w n k;
      command = λ w line cmd rest n known k. command_counted w line cmd n k;
    })
    (λ j. tt) (outside Over _ _ 0 over_no (omega arith)) k

-- ---- what that says

module _ (fixed : Fixed) (w : World) (n : ℕ) (k : Counted w n) where
  abbrev here : WalkPlace
  here = walk_place (controller_parts w)

  part_is : controller_row w ≡ rows.Go → w.control.part ≡ Asynchronous
  part_is is = subst (λ (row : ControllerRow). InPart row w.control.part) is (row_in w)

  ends_there : controller_row w ≡ rows.Go → event_row here ≡ walks.HeadEnds → EndsThere fixed w n
  ends_there is row = record {
    is_end = ap (λ (x : ControllerRow). kind_of x (controller_parts w)) is ∙ ap (λ (x : WalkRow). hc_step (step_of x (at_event here))) row;
    over = ap (λ (x : ControllerRow). (turned_by fixed x (controller_parts w) w.bus).content.control.part) is
        ∙ ap (λ (x : WalkRow). part_after Asynchronous (step_of x (at_event here))) row;
    counted = ap (λ (x : ControllerRow). heads_after x (controller_parts w) n) is ∙ ap (λ (x : WalkRow). heads_by x n) row;
  }

  quiet_here : controller_row w ≡ rows.Go → 1 ≤ n → reclamation_at here ≡ false
  quiet_here is some =
      let q = k.goes (part_is is) in
      goes_with w.control.walk.first w.registers q.begun ∙ q.quiet some

  few_then : HeadsAreFew fixed w n
  few_then = record {
    most = k.most;
    few = λ on. (k.goes on).few;
    quiet = λ on some. (k.goes on).quiet some;
    ends = λ is some reads. ends_there is (quiet_by (event_row here) (reclamation_at here) (row_tells here) (quiet_here is some) reads);
  }

pub scripts_read_few_heads : ScriptsReadFewHeads
scripts_read_few_heads s k = few_then (fixed_of s) (moment s k).world (heads s k) (moment_counted s k)

pub texts_read_few_heads : TextsReadFewHeads
texts_read_few_heads text s spelled k = scripts_read_few_heads s k
