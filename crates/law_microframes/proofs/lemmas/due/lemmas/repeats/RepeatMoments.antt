-- Nothing is made again in a microframe in which no packet of the walk of the frames was lost, at each moment of a script that a text
-- spells.
use Rattle.std.proofs.Common.{◌≡◌, ◌≢◌, ◌==◌, ℕ, Bool, true, false, List, Some, None, refl, sym, subst, ◌∙◌, arith}
use Rattle.law_microframes.proofs.Common.{ring_no, over_no}
use Rattle.script_types.specs.declared.scripts.Script.{Script}
use Rattle.script_text.specs.Faults.{Spells}
use Rattle.script_fits.proofs.Texts.{spelled_fits}
use Rattle.word_mem.specs.Memory.{reaches}
use Rattle.op_registers.specs.Events.{after_begin}
use Rattle.hc_interrupt.specs.declared.turns.Turn.TheVariants as turns
use Rattle.hc_interrupt.specs.Turns.{turn_of}
use Rattle.periodic_walk.specs.declared.state.Hand.TheVariants as hands
use Rattle.periodic_walk.specs.declared.state.HeldQueue.{HeldQueue}
use Rattle.periodic_walk.specs.Place.{Effect}
use Rattle.periodic_walk.specs.Place.Effect.{Leaves, Asks}
use Rattle.periodic_walk.specs.Rows.{effect_of}
use Rattle.hc_core.specs.declared.controller.ControllerRow.{ControllerRow}
use Rattle.hc_core.specs.declared.controller.ControllerRow.TheVariants as rows
use Rattle.hc_core.specs.declared.controller.MicroframePart.{MicroframePart}
use Rattle.hc_core.specs.declared.controller.MicroframePart.TheVariants.{Over, Periodic}
use Rattle.hc_core.specs.Controller.{Control, Content, element_address, begun_at, entered, frame_place, walk_step, kind_of}
use Rattle.bus_wire.specs.Bus.{Bus, Fixed, fixed_of, is_allowed}
use Rattle.bus_world.specs.World.{World, controller_parts, controller_row, controller_next, frame_by, turned_by}
use Rattle.bus_world.specs.Budgets.{moment}
use Rattle.claims_world.specs.WithinLoad.{repeats_after, repeats_next, repeats}
use Rattle.law_scripts.proofs.lemmas.script_bytes.Texts.{a_text_spells_bytes}
use Rattle.law_world.specs.memory.Mixed.{IsMixedWorld}
use Rattle.law_world.proofs.lemmas.memory.Carrying.{both, both_carried, carrying}
use Rattle.law_world.proofs.lemmas.memory.FittingTexts.{texts_open_fitting}
use Rattle.law_world.proofs.lemmas.memory.Texts.{texts_fit}
use Rattle.law_world.proofs.lemmas.memory.Together.{texts_stay_mixed}
use Rattle.law_microframes.specs.visits.Belonging.{HeadsHaveFields}
use Rattle.law_microframes.proofs.lemmas.visits.BelongMoments.{scripts_keep_fields}
use Rattle.law_microframes.proofs.lemmas.visits.ReasonParts.{InPart, row_in, command_control}
use Rattle.law_microframes.proofs.lemmas.visits.VisitTexts.{lines_fit}
use Rattle.law_microframes.specs.time.DataQueues.{ReadsData}
use Rattle.law_microframes.proofs.lemmas.time.DataHeads.{scripts_read_data}
use Rattle.law_microframes.specs.due.repeats.Hearing.{AsksFor}
use Rattle.claims_world.specs.Losses.{is_lost, one_more_if, lost_by, losses_after, losses_next, losses, RepeatAfterLosses}
use Rattle.law_microframes.specs.due.repeats.RepeatLaws.{TextsSayWords, TextsAreHeard}
use Rattle.law_microframes.specs.due.repeats.Words.{BusSaysWords}
use Rattle.law_microframes.proofs.lemmas.due.lemmas.repeats.AskedHeads.{hand_asks}
use Rattle.law_microframes.proofs.lemmas.due.lemmas.repeats.BusMoments.{each_bus_says, each_bus_hears}
use Rattle.law_microframes.proofs.lemmas.due.lemmas.repeats.Endpoints.{texts_stand}
use Rattle.law_microframes.proofs.lemmas.due.lemmas.repeats.Once.{StaysOnce, IsOnceAfter, event_once, none_again}
use Rattle.law_microframes.proofs.lemmas.due.lemmas.repeats.Opening.{spelled_says}

-- ---- what holds

record IsQuiet (part : MicroframePart) (c : Control) (r : ℕ) : Type 0 where
  none : r ≡ 0
  once : part ≡ Periodic → StaysOnce c.frame.hand

abbrev Quiet : Control → ℕ → ℕ → Type 0
Quiet c n r = n ≡ 0 → IsQuiet c.part c r

-- what is known of a moment: its bus tells words, and what is in hand asks for an endpoint that is heard
record IsKnown (fixed : Fixed) (w : World) : Type 0 where
  says : BusSaysWords fixed w.bus
  asks : w.control.part ≡ Periodic → (h : HeldQueue) → w.control.frame.hand ≡ Some (hands.Queue h)
      → (h.copy.queue_head.eps == 2) ≡ false → h.copy.settled ≡ None
      → turn_of w.control.frame.index h.copy.queue_head ≡ turns.Work → AsksFor fixed w.bus h.copy.queue_head

-- ---- each event

outside : (part : MicroframePart) (c : Control) (r : ℕ) → r ≡ 0 → part ≢ Periodic → IsQuiet part c r
outside part c r none out = record { none = none; once = λ on. absurd (out on) }

lost_none : (lost : Bool) (n : ℕ) → one_more_if lost n ≡ 0 → (lost ≡ false) × (n ≡ 0)
lost_none true n e = absurd (omega arith)
lost_none false n e = (refl, e)

effect_quiet : (fixed : Fixed) (b : Bus) (n : ℕ) (e : Effect) → lost_by fixed e b n ≡ 0 → (n ≡ 0 → IsOnceAfter fixed b e)
    → StaysOnce (frame_by fixed e b).place.walk.hand
effect_quiet fixed b n (Leaves p) none once = once none
effect_quiet fixed b n (Asks ask out by) none once =
    let z = lost_none (is_lost fixed b ask out) n none in
    once z.1 z.0

fewer : (fixed : Fixed) (b : Bus) (n : ℕ) (e : Effect) → lost_by fixed e b n ≡ 0 → n ≡ 0
fewer fixed b n (Leaves p) none = none
fewer fixed b n (Asks ask out by) none = (lost_none (is_lost fixed b ask out) n none).1

begun_quiet : (reached allowed : Bool) (c : Content) → c.control.part ≡ Over
    → IsQuiet (begun_at reached allowed c).control.part (begun_at reached allowed c).control 0
begun_quiet true allowed c over = record { none = refl; once = λ on. tt }
begun_quiet false allowed c over = outside c.control.part c.control 0 refl (λ on. over_no (sym over ∙ on))

turn_quiet : (fixed : Fixed) (row : ControllerRow) (c : Content) (b : Bus) (n r : ℕ) → InPart row c.control.part → BusSaysWords fixed b
    → (c.control.part ≡ Periodic → (h : HeldQueue) → c.control.frame.hand ≡ Some (hands.Queue h) → (h.copy.queue_head.eps == 2) ≡ false
    → h.copy.settled ≡ None
    → turn_of c.control.frame.index h.copy.queue_head ≡ turns.Work → AsksFor fixed b h.copy.queue_head)
    → Quiet c.control n r
    → Quiet (turned_by fixed row c b).content.control (losses_after fixed row c b n) (repeats_after row (kind_of row c) c r)
turn_quiet fixed rows.Idle c b n r at says asks quiet none = quiet none
turn_quiet fixed rows.Begin c b n r at says asks quiet none =
    begun_quiet (reaches c.memory (element_address (after_begin c.registers))) (is_allowed fixed b)
    (record c { registers = after_begin c.registers }) at
turn_quiet fixed rows.Frame c b n r at says asks quiet none =
    let old = quiet (fewer fixed b n (effect_of (frame_place c)) none) in
    record {
      none = none_again (frame_place c) c.control.frame.hand r (old.once at) old.none;
      once =
          λ on. effect_quiet fixed b n (effect_of (frame_place c)) none
          (λ zero. event_once fixed b says (frame_place c) c.control.frame.hand (old.once at)
          (λ h held low unset work. asks at h held low unset work));
    }
turn_quiet fixed rows.Enter c b n r at says asks quiet none = outside _ _ r (quiet none).none (ring_no (walk_step (entered c)))
turn_quiet fixed rows.Go c b n r at says asks quiet none = outside _ _ r (quiet none).none (ring_no (walk_step c))
turn_quiet fixed rows.End c b n r at says asks quiet none = outside _ _ r (quiet none).none over_no

abbrev QuietIn : World → ℕ × ℕ → Type 0
QuietIn w x = Quiet w.control x.0 x.1

controller_quiet : (fixed : Fixed) (w : World) (x : ℕ × ℕ) → IsKnown fixed w → QuietIn w x
    → QuietIn (controller_next fixed w) (both losses_next repeats_next fixed w x)
controller_quiet fixed w x known quiet =
    turn_quiet fixed (controller_row w) (controller_parts w) w.bus x.0 x.1 (row_in w) known.says known.asks quiet

-- ---- a script

known_at : (text : List ℕ) (s : Script) → Spells text s → (k : ℕ) → IsKnown (fixed_of s) (moment s k).world
known_at text s spelled k =
    let fit = spelled_fits text s spelled in
    let bytes = a_text_spells_bytes text s spelled in
    let opens = lines_fit s.lines (texts_fit text s spelled) (texts_open_fitting text s spelled) in
    let mixed : IsMixedWorld (moment s k).world = texts_stay_mixed text s spelled k in
    let fields : HeadsHaveFields (moment s k).world.driver (moment s k).world.memory = scripts_keep_fields s fit bytes opens k in
    let reads : ReadsData (moment s k).world = scripts_read_data s fit bytes opens k in
    record {
      says = each_bus_says s (spelled_says text s spelled) k;
      asks = λ periodic h held low unset work.
          hand_asks s mixed.standing (moment s k).world mixed.mixed fields reads (texts_stand text s spelled k)
          (λ x heard. each_bus_hears s x heard k) periodic h held low unset work;
    }

moment_quiet : (text : List ℕ) (s : Script) → Spells text s → (k : ℕ) → Quiet (moment s k).world.control (losses s k) (repeats s k)
moment_quiet text s spelled k =
    subst (λ (z : ℕ × ℕ). QuietIn (moment s k).world z) (both_carried losses_next repeats_next s 0 0 k)
    (carrying (both losses_next repeats_next) (λ w orders x. IsKnown (fixed_of s) w) QuietIn s (0, 0)
    (record {
      controller = λ w orders x known quiet. controller_quiet (fixed_of s) w x known quiet;
      driver = λ w orders x known quiet. quiet;
      command = λ w line cmd rest x known quiet. subst (λ (c : Control). Quiet c x.0 x.1) (sym (command_control w line cmd)) quiet;
    })
    (λ j. known_at text s spelled j) (λ none. record { none = refl; once = λ on. absurd (over_no on) }) k)

pub texts_repeat_after_losses : (text : List ℕ) (s : Script) → Spells text s → RepeatAfterLosses s
texts_repeat_after_losses text s spelled k none = (moment_quiet text s spelled k none).none

pub texts_say_words : TextsSayWords
texts_say_words text s spelled k = each_bus_says s (spelled_says text s spelled) k

pub texts_are_heard : TextsAreHeard
texts_are_heard text s spelled k e x here low carries =
    each_bus_hears s x.desc ((texts_stand text s spelled k e x here).heard low carries) k
