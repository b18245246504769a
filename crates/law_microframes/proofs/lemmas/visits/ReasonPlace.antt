-- After an end by time the next microframe goes on at the same place of the ring.
use Rattle.std.proofs.Common.{◌≡◌, ◌≢◌, ℕ, zero, suc, ◌+◌, Bool, true, false, ◌&&◌, if◌then◌else◌, Option, Some, None, ap, sym, subst, ◌∙◌, refl, arith}
use Rattle.std.proofs.lemmas.Bool.{true≢false}
use Rattle.std.proofs.lemmas.Option.{none-some}
use Rattle.script_types.specs.declared.scripts.Script.{Script}
use Rattle.word_mem.specs.Memory.{Mem, reaches}
use Rattle.link_words.specs.declared.kinds.Link.{Link}
use Rattle.link_words.specs.declared.kinds.Link.TheVariants as links
use Rattle.op_registers.specs.Events.{after_begin}
use Rattle.qh_qtd.specs.declared.queue_head.Qh.{Qh}
use Rattle.mem_queues.specs.Structures.{queue_head_at_address}
use Rattle.hc_copy.specs.declared.held.Held.{Held}
use Rattle.async_walk.specs.declared.rows.WalkRow.{WalkRow}
use Rattle.async_walk.specs.declared.rows.WalkRow.TheVariants as walks
use Rattle.async_walk.specs.declared.state.Cursor.{Cursor}
use Rattle.async_walk.specs.declared.state.Cursor.TheVariants as cursors
use Rattle.async_walk.specs.Walk.{Walk}
use Rattle.async_walk.specs.Rows.{WalkPlace, started_registers, cursor_link, fetch_row, ring_row, at_event, event_row, step_of}
use Rattle.hc_core.specs.declared.controller.MicroframePart.TheVariants.{Asynchronous}
use Rattle.hc_core.specs.declared.controller.ControllerRow.{ControllerRow}
use Rattle.hc_core.specs.declared.controller.ControllerRow.TheVariants as rows
use Rattle.hc_core.specs.Controller.{Control, Content, element_address, entered, hc_step, part_after, walk_place, kind_of}
use Rattle.bus_wire.specs.Bus.{Bus, Fixed, fixed_of, is_allowed}
use Rattle.bus_world.specs.World.{World, controller_parts, controller_row, controller_next, kind_next, turned_by, walk_by}
use Rattle.bus_world.specs.Budgets.{moment}
use Rattle.claims_world.specs.Visits.{EndsByTime, LeavesPlace, ReadsAnew, IsOutside, StaysOutside, KeepsPlaceOfRing}
use Rattle.law_microframes.specs.visits.PlaceOfRing.{RowsKeepPlace, WorldsKeepPlace}
use Rattle.law_microframes.proofs.lemmas.visits.ReasonMoments.{StepsBy, moment_steps, holds_along}
use Rattle.law_microframes.proofs.lemmas.visits.ReasonParts.{InPart, row_in, command_control, begun_walk}
use Rattle.law_microframes.proofs.lemmas.visits.ReasonRings.{IsAtCursor, ring_at_cursor, IsRead, broken, read, first_row}

-- ---- each event

began_walk : (fixed : Fixed) (c : Content) (b : Bus) → (turned_by fixed rows.Begin c b).content.control.walk ≡ c.control.walk
began_walk fixed c b = begun_walk (reaches c.memory (element_address (after_begin c.registers))) (is_allowed fixed b) (record c { registers = after_begin c.registers })

module _ (fixed : Fixed) (w : World) where
  -- the ring's walk after this row
  abbrev walk_after : ControllerRow → Walk
  walk_after row = (turned_by fixed row (controller_parts w) w.bus).content.control.walk

  abbrev gone : WalkRow → Walk
  gone row = (walk_by fixed row (at_event (walk_place (controller_parts w))) w.bus).place.walk

  rows_keep : RowsKeepPlace fixed w
  rows_keep = record {
    idle = λ is. ap walk_after is;
    begins = λ is. ap walk_after is ∙ began_walk fixed (controller_parts w) w.bus;
    of_frames = λ is. ap walk_after is;
    disabled = λ is. ap walk_after is;
    late = λ is late. ap (λ (row : ControllerRow). (walk_after row).cursor) is ∙ ap (λ (row : WalkRow). (gone row).cursor) late;
    quiet = λ is quiet. ap (λ (row : ControllerRow). (walk_after row).cursor) is ∙ ap (λ (row : WalkRow). (gone row).cursor) quiet;
  }

  leaves_place : (h : Held) → IsAtCursor w.control.walk → EndsByTime w h → LeavesPlace fixed w h
  leaves_place h at k = record {
    is_end =
        ap (λ (row : ControllerRow). kind_of row (controller_parts w)) k.going
        ∙ ap (λ (row : WalkRow). hc_step (step_of row (at_event (walk_place (controller_parts w))))) k.late;
    cursor = rows_keep.late k.going k.late ∙ at h k.in_hand;
    dropped = ap (λ (row : ControllerRow). (walk_after row).held) k.going ∙ ap (λ (row : WalkRow). (gone row).held) k.late;
  }

pub worlds_keep_place : WorldsKeepPlace
worlds_keep_place fixed w = rows_keep fixed w

-- ---- outside the asynchronous part the cursor stays

fetches_there : (fixed : Fixed) (m : Mem) (link : Link) (row : WalkRow) (p : WalkPlace) (b : Bus) → IsRead m link row → part_after Asynchronous (step_of row p) ≢ Asynchronous
    → (walk_by fixed row p b).place.walk.cursor ≡ p.walk.cursor
fetches_there fixed m link _ p b broken out = refl
fetches_there fixed m link _ p b (read a q is there) out = absurd (out refl)

entered_cursor : (fixed : Fixed) (c : Content) (b : Bus) → (turned_by fixed rows.Enter c b).content.control.part ≢ Asynchronous
    → (turned_by fixed rows.Enter c b).content.control.walk.cursor ≡ c.control.walk.cursor
entered_cursor fixed c b out =
    fetches_there fixed c.memory (cursor_link (started_registers true c.registers) c.control.walk.cursor) (event_row (walk_place (entered c))) (at_event (walk_place (entered c))) b
    (first_row c.memory (cursor_link (started_registers true c.registers) c.control.walk.cursor)) out

row_cursor : (fixed : Fixed) (row : ControllerRow) (c : Content) (b : Bus) → InPart row c.control.part → c.control.part ≢ Asynchronous
    → (turned_by fixed row c b).content.control.part ≢ Asynchronous → (turned_by fixed row c b).content.control.walk.cursor ≡ c.control.walk.cursor
row_cursor fixed rows.Begin c b at before after = ap (λ (x : Walk). x.cursor) (began_walk fixed c b)
row_cursor fixed rows.Enter c b at before after = entered_cursor fixed c b after
row_cursor fixed rows.Go c b at before after = absurd (before at)
row_cursor fixed _ c b at before after = refl

abbrev StaysAt : World → World → Type 0
StaysAt w v = IsOutside w → IsOutside v → v.control.walk.cursor ≡ w.control.walk.cursor

place_steps : (fixed : Fixed) → StepsBy fixed StaysAt
place_steps fixed = record {
  stands = λ w before after. refl;
  controller = λ w before after. row_cursor fixed (controller_row w) (controller_parts w) w.bus (row_in w) before after;
  driver = λ w before after. refl;
  command = λ w n cmd before after. ap (λ (c : Control). c.walk.cursor) (command_control w n cmd);
}

stays_at : (s : Script) (i n : ℕ) → StaysOutside s i n → (moment s (i + n)).world.control.walk.cursor ≡ (moment s i).world.control.walk.cursor
stays_at s i zero out = let e : i + 0 ≡ i = omega arith in ap (λ j. (moment s j).world.control.walk.cursor) e
stays_at s i (suc n) out =
    let e : i + suc n ≡ suc (i + n) = omega arith in
    ap (λ j. (moment s j).world.control.walk.cursor) e
    ∙ moment_steps s StaysAt (place_steps (fixed_of s)) (i + n) (out n (omega arith)) (subst (λ j. IsOutside (moment s j).world) e (out (suc n) (omega arith)))
    ∙ stays_at s i n (λ j h. out j (omega (arith, h)))

-- ---- a copy in hand is of the queue head at the cursor

abbrev IsAt : World → Type 0
IsAt w = IsAtCursor w.control.walk

row_at_cursor : (fixed : Fixed) (row : ControllerRow) (c : Content) (b : Bus) → IsAtCursor c.control.walk → IsAtCursor (turned_by fixed row c b).content.control.walk
row_at_cursor fixed rows.Begin c b at = subst IsAtCursor (sym (began_walk fixed c b)) at
row_at_cursor fixed rows.Enter c b at = ring_at_cursor fixed (walk_place (entered c)) b (λ h is. absurd (none-some h is))
row_at_cursor fixed rows.Go c b at = ring_at_cursor fixed (walk_place c) b at
row_at_cursor fixed rows.End c b at = λ h is. absurd (none-some h is)
row_at_cursor fixed _ c b at = at

at_steps : (fixed : Fixed) → StepsBy fixed (λ w v. IsAt w → IsAt v)
at_steps fixed = record {
  stands = λ w at. at;
  controller = λ w at. row_at_cursor fixed (controller_row w) (controller_parts w) w.bus at;
  driver = λ w at. at;
  command = λ w n cmd at. subst (λ (c : Control). IsAtCursor c.walk) (sym (command_control w n cmd)) at;
}

moment_at : (s : Script) (k : ℕ) → IsAt (moment s k).world
moment_at s k = holds_along s IsAt (λ h is. absurd (none-some h is)) (at_steps (fixed_of s)) k

-- ---- the next asynchronous part

never_quiet : (b : Bool) (x y : WalkRow) → (if b && false then x else y) ≡ y
never_quiet true x y = refl
never_quiet false x y = refl

module _ (fixed : Fixed) (w : World) (runs : (controller_next fixed w).registers.run ≡ true) (at : ℕ) (there : w.control.walk.cursor ≡ cursors.At (links.Qh at)) (is : controller_row w ≡ rows.Enter) where
  abbrev p : WalkPlace
  p = walk_place (entered (controller_parts w))

  row_is : event_row p ≡ fetch_row true at (queue_head_at_address w.memory at)
  row_is = ap (λ (x : Cursor). ring_row w.memory true (cursor_link (started_registers true w.registers) x)) there

  -- what the event leaves, by its row
  abbrev place_by : WalkRow → WalkPlace
  place_by row = (walk_by fixed row (at_event p) w.bus).place

  registers_are : (controller_next fixed w).registers ≡ (place_by (event_row p)).registers
  registers_are = ap (λ (row : ControllerRow). (turned_by fixed row (controller_parts w) w.bus).content.registers) is

  walk_is : (controller_next fixed w).control.walk ≡ (place_by (event_row p)).walk
  walk_is = ap (λ (row : ControllerRow). (turned_by fixed row (controller_parts w) w.bus).content.control.walk) is

  kind_is : kind_next w ≡ hc_step (step_of (event_row p) (at_event p))
  kind_is = ap (λ (row : ControllerRow). kind_of row (controller_parts w)) is

  never_broken : event_row p ≡ walks.Fault → ⊥
  never_broken fault = true≢false (sym runs ∙ ap (λ x. x.run) registers_are ∙ ap (λ (row : WalkRow). (place_by row).registers.run) fault)

  read_there : (q : Qh) → queue_head_at_address w.memory at ≡ Some q → event_row p ≡ walks.Fetch at q → ReadsAnew fixed w at
  read_there q stands fetch = record {
    queue_head = q;
    stands_there = stands;
    is_fetch = kind_is ∙ ap (λ (row : WalkRow). hc_step (step_of row (at_event p))) fetch;
    cursor = ap (λ (x : Walk). x.cursor) walk_is ∙ ap (λ (row : WalkRow). (place_by row).walk.cursor) fetch;
    in_hand = ap (λ (x : Walk). x.held) walk_is ∙ ap (λ (row : WalkRow). (place_by row).walk.held) fetch;
  }

  reads_by : (o : Option Qh) → queue_head_at_address w.memory at ≡ o → ReadsAnew fixed w at
  reads_by None none = absurd (never_broken (row_is ∙ ap (fetch_row true at) none))
  reads_by (Some q) stands = read_there q stands (row_is ∙ ap (fetch_row true at) stands ∙ never_quiet q.head walks.HeadEnds (walks.Fetch at q))

  pub reads_anew : ReadsAnew fixed w at
  reads_anew = reads_by (queue_head_at_address w.memory at) refl

pub keeps_place : (s : Script) → ((k : ℕ) → (controller_next (fixed_of s) (moment s k).world).registers.run ≡ true) → KeepsPlaceOfRing s
keeps_place s runs = record {
  stays = stays_at s;
  leaves = λ i h k. leaves_place (fixed_of s) (moment s i).world h (moment_at s i) k;
  goes_on = λ i n h k next out enter.
      let left = leaves_place (fixed_of s) (moment s i).world h (moment_at s i) k in
      reads_anew (fixed_of s) (moment s (suc i + n)).world (runs (suc i + n)) h.at
      (stays_at s (suc i) n out ∙ ap (λ (w : World). w.control.walk.cursor) next ∙ left.cursor) enter;
}
