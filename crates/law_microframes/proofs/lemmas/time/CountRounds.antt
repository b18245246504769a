-- Between two visits to the head of the ring the walk of the ring visits no more queue heads than the largest memory has blocks.
use Rattle.std.proofs.Common.{◌≡◌, ℕ, ◌%◌, ◌==◌, Bool, true, false, List, [], ◌∷◌, Option, Some, None, if◌then◌else◌, refl, arith}
use Rattle.std.specs.List.{AllByRecursion}
use Rattle.law_common.proofs.Numbers.{block_aligned}
use Rattle.script_fits.proofs.Texts.{spelled_fits}
use Rattle.law_scripts.proofs.lemmas.script_bytes.Texts.{a_text_spells_bytes}
use Rattle.word_mem.specs.Memory.{Mem, IsShaped}
use Rattle.qh_qtd.specs.declared.queue_head.Qh.{Qh}
use Rattle.mem_queues.specs.Structures.{reaches_queue_head, queue_head_at_address}
use Rattle.async_walk.specs.declared.rows.WalkRow.{WalkRow}
use Rattle.async_walk.specs.Rows.{WalkPlace, started, event_row}
use Rattle.async_walk.specs.Causes.{Cause}
use Rattle.async_walk.specs.Causes.Cause.{ring_is_broken, head_is_quiet, leads_to, is_resting, queue_ends, qtd_is_done, queue_is_broken, takes_qtd, is_out_of_time, has_time, is_settled}
use Rattle.async_walk.proofs.Causes.{each_row_has_its_cause}
use Rattle.hc_core.specs.declared.controller.ControllerRow.{ControllerRow}
use Rattle.hc_core.specs.declared.controller.ControllerRow.TheVariants as rows
use Rattle.hc_core.specs.Controller.{Content, entered, walk_place}
use Rattle.drv_table.specs.DriverContent.{DriverContent}
use Rattle.law_queues.specs.reached_rings.Reaching.{ReachedAt, is_reached}
use Rattle.law_queues.proofs.lemmas.reached_rings.Computing.{reached_is_reached}
use Rattle.bus_world.specs.World.{World, controller_parts, controller_row}
use Rattle.bus_world.specs.Budgets.{moment}
use Rattle.law_world.proofs.lemmas.memory.Texts.{texts_fit}
use Rattle.law_world.proofs.lemmas.memory.FittingTexts.{texts_open_fitting}
use Rattle.law_microframes.proofs.lemmas.visits.VisitTexts.{lines_fit}
use Rattle.law_microframes.specs.time.Heights.{head_at}
use Rattle.law_microframes.specs.time.Rounds.{dropped, round_by, round_after, round_next, round, IsRounding}
use Rattle.law_microframes.specs.time.RoundLaws.{RoundsApart}
use Rattle.law_microframes.proofs.lemmas.time.RoundMoments.{rounds_apart}
use Rattle.law_microframes.proofs.lemmas.time.RoundsTogether.{scripts_round_once}
use Rattle.law_microframes.specs.time.Counts.{IsBlockBelow, TextsRoundFew}
use Rattle.claims_world.specs.Microframes.{most_blocks}
use Rattle.law_microframes.proofs.lemmas.time.CountBlocks.{are_fewer_than_blocks}
use Rattle.law_microframes.proofs.lemmas.time.CountVisits.{IsLow, all_low, first_reached, mixed_shaped}

-- ---- a queue head that is read was reached

head_reached : (reached : Bool) (o : Option Qh) (q : Qh) → (if reached then o else None) ≡ Some q → reached ≡ true
head_reached true o q is = refl
head_reached false o q is = absurd cc

read_low : (m : Mem) (a : ℕ) (q : Qh) → IsShaped m → queue_head_at_address m a ≡ Some q → IsLow a
read_low m a q shape is = first_reached m a a shape (head_reached (reaches_queue_head m a) _ q is) refl

head_low : IsLow head_at
head_low = omega arith

one_low : (b : Bool) (a : ℕ) (vs : List ℕ) → IsLow a → AllByRecursion IsLow vs → AllByRecursion IsLow (if b then head_at ∷ [] else a ∷ vs)
one_low true a vs low all = (head_low, tt)
one_low false a vs low all = (low, all)

drop_low : (vs : List ℕ) → AllByRecursion IsLow vs → AllByRecursion IsLow (dropped vs)
drop_low [] all = tt
drop_low (v ∷ vs) all = all.1

row_low : (p : WalkPlace) (row : WalkRow) (vs : List ℕ) → Cause p row → IsShaped p.memory → AllByRecursion IsLow vs → AllByRecursion IsLow (round_by row vs)
row_low p _ vs (ring_is_broken c) shape all = all
row_low p _ vs (head_is_quiet c) shape all = (head_low, tt)
row_low p _ vs (leads_to at q c) shape all = one_low (at == head_at) at vs (read_low p.memory at q shape c.stands_there) all
row_low p _ vs (is_resting c) shape all = all
row_low p _ vs (queue_ends c) shape all = all
row_low p _ vs (qtd_is_done c) shape all = all
row_low p _ vs (queue_is_broken c) shape all = all
row_low p _ vs (takes_qtd at qtd c) shape all = all
row_low p _ vs (is_out_of_time c) shape all = drop_low vs all
row_low p _ vs (has_time copy c) shape all = all
row_low p _ vs (is_settled copy outcome c) shape all = all

walk_low : (p : WalkPlace) (vs : List ℕ) → IsShaped p.memory → AllByRecursion IsLow vs → AllByRecursion IsLow (round_by (event_row p) vs)
walk_low p vs shape all = row_low (started p) (event_row p) vs (each_row_has_its_cause (started p)) shape all

-- ---- an event

after_low : (row : ControllerRow) (c : Content) (vs : List ℕ) → IsShaped c.memory → AllByRecursion IsLow vs → AllByRecursion IsLow (round_after row c vs)
after_low rows.Enter c vs shape all = walk_low (walk_place (entered c)) vs shape all
after_low rows.Go c vs shape all = walk_low (walk_place c) vs shape all
after_low _ c vs shape all = all

-- ---- each is a block

reached_aligned : (d : DriverContent) (rings : Bool) (v : ℕ) → is_reached d rings v ≡ true → v % 32 ≡ 0
reached_aligned d rings v on =
    let r : ReachedAt d rings v = reached_is_reached d rings v on in
    block_aligned v r.block r.at

all_blocks : (d : DriverContent) (rings : Bool) (vs : List ℕ) → AllByRecursion (λ v. is_reached d rings v ≡ true) vs → AllByRecursion IsLow vs → AllByRecursion (IsBlockBelow most_blocks) vs
all_blocks d rings [] reached low = tt
all_blocks d rings (v ∷ vs) reached low = (record { aligned = reached_aligned d rings v reached.0; below = low.0 }, all_blocks d rings vs reached.1 low.1)

pub texts_round_few : TextsRoundFew
texts_round_few text s spelled k =
    let rounding : (j : ℕ) → IsRounding (moment s j).world (round s j)
    = scripts_round_once s (spelled_fits text s spelled) (a_text_spells_bytes text s spelled) (lines_fit s.lines (texts_fit text s spelled) (texts_open_fitting text s spelled)) in
    let w : World = (moment s k).world in
    let apart : RoundsApart w (round s k) = rounds_apart w (round s k) (rounding k) in
    let low : AllByRecursion IsLow (round s k)
    = all_low round_next (λ fixed w vs shape all. after_low (controller_row w) (controller_parts w) vs shape all) s (λ j. mixed_shaped (moment s j).world (rounding j).mixed) k in
    are_fewer_than_blocks most_blocks (round s k) apart.once (all_blocks w.driver w.registers.doorbell (round s k) apart.reached low)
