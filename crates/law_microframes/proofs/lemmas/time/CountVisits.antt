-- In a microframe the walk of the frames visits no more structures than the largest memory has blocks.
use Rattle.std.proofs.Common.{◌≡◌, ℕ, ◌*◌, ◌/◌, ◌%◌, ◌<◌, Bool, true, false, List, [], ◌∷◌, Option, Some, None, if◌then◌else◌, inl, inr, refl, sym, subst}
use Rattle.std.specs.List.{AllByRecursion}
use Rattle.std.proofs.lemmas.Bool.{and_parts}
use Rattle.law_common.proofs.Numbers.{block_aligned}
use Rattle.script_types.specs.declared.scripts.Script.{Script}
use Rattle.script_fits.proofs.Texts.{spelled_fits}
use Rattle.law_scripts.proofs.lemmas.script_bytes.Texts.{a_text_spells_bytes}
use Rattle.word_mem.specs.Memory.{Mem, IsShaped, reaches}
use Rattle.link_words.specs.declared.kinds.Link.{Link}
use Rattle.link_words.specs.declared.kinds.Link.TheVariants as links
use Rattle.qh_qtd.specs.declared.queue_head.Qh.{Qh}
use Rattle.itd_sitd.specs.declared.itd.Itd.{Itd}
use Rattle.itd_sitd.specs.declared.sitd.Sitd.{Sitd}
use Rattle.mem_queues.specs.Structures.{reaches_queue_head}
use Rattle.mem_queues.proofs.OneBlock.{reached_low}
use Rattle.mem_descriptors.specs.Descriptors.{reaches_itd}
use Rattle.periodic_walk.specs.declared.state.Hand.{Hand}
use Rattle.periodic_walk.specs.Chain.{queue_fetch, itd_fetch, sitd_fetch, chain_row}
use Rattle.hc_core.specs.declared.controller.ControllerRow.{ControllerRow}
use Rattle.hc_core.specs.declared.controller.ControllerRow.TheVariants as rows
use Rattle.hc_core.specs.Controller.{Content}
use Rattle.drv_table.specs.DriverContent.{DriverContent}
use Rattle.bus_wire.specs.Bus.{Fixed, fixed_of}
use Rattle.bus_world.specs.World.{World, controller_parts, controller_row}
use Rattle.bus_world.specs.Budgets.{moment}
use Rattle.law_world.specs.memory.Mixed.{IsMixedWorld}
use Rattle.law_world.proofs.lemmas.memory.Texts.{texts_fit}
use Rattle.law_world.proofs.lemmas.memory.FittingTexts.{texts_open_fitting}
use Rattle.law_microframes.specs.visits.Began.{began}
use Rattle.claims_world.specs.Carried.{carried}
use Rattle.claims_world.specs.Visits.{fetched_by, visited_too, visits_at, visits_after, visits_next, visited, frame_in, WasOfFrame, of_descriptor, of_queue_head, of_waiting, IsInItsFrame, VisitsApart}
use Rattle.law_microframes.specs.visits.Visited.{IsVisiting}
use Rattle.drv_periodic_table.specs.declared.content.Removed.{Removed}
use Rattle.drv_chains.specs.Chains.{id_of}
use Rattle.law_world.proofs.lemmas.memory.Carrying.{carrying}
use Rattle.law_microframes.proofs.lemmas.visits.VisitMoments.{visits_apart}
use Rattle.law_microframes.proofs.lemmas.visits.VisitTexts.{lines_fit}
use Rattle.law_microframes.proofs.lemmas.visits.VisitsKept.{scripts_visit}
use Rattle.law_microframes.specs.time.Counts.{IsBlockBelow, TextsVisitFew}
use Rattle.claims_world.specs.Microframes.{most_blocks}
use Rattle.law_microframes.proofs.lemmas.time.CountBlocks.{are_fewer_than_blocks}

abbrev pub IsLow : ℕ → Type 0
IsLow v = v < 32 * most_blocks

-- an event of the controller keeps what is carried low, where memory has its shape; so each moment does
pub all_low : (by : Fixed → World → List ℕ → List ℕ) → ((fixed : Fixed) (w : World) (vs : List ℕ) → IsShaped w.memory → AllByRecursion IsLow vs → AllByRecursion IsLow (by fixed w vs)) → (s : Script)
    → ((j : ℕ) → IsShaped (moment s j).world.memory) → (k : ℕ) → AllByRecursion IsLow (carried by s [] k)
all_low by low s shaped k =
    carrying by (λ w orders vs. IsShaped w.memory) (λ w vs. AllByRecursion IsLow vs) s []
    (record {
      controller = λ w orders vs shape all. low (fixed_of s) w vs shape all;
      driver = λ w orders vs shape all. all;
      command = λ w n cmd rest vs shape all. all;
    })
    shaped tt k

-- ---- what is fetched was reached

queue_reached : (a b : ℕ) (reached : Bool) (o : Option Qh) → fetched_by (queue_fetch a (if reached then o else None)) ≡ Some b → (reached ≡ true) × (a ≡ b)
queue_reached a b true (Some q) is = (refl, cc)
queue_reached a b true None is = absurd cc
queue_reached a b false o is = absurd cc

itd_reached : (a b : ℕ) (reached : Bool) (o : Option Itd) → fetched_by (itd_fetch a (if reached then o else None)) ≡ Some b → (reached ≡ true) × (a ≡ b)
itd_reached a b true (Some q) is = (refl, cc)
itd_reached a b true None is = absurd cc
itd_reached a b false o is = absurd cc

sitd_reached : (a b : ℕ) (reached : Bool) (o : Option Sitd) → fetched_by (sitd_fetch a (if reached then o else None)) ≡ Some b → (reached ≡ true) × (a ≡ b)
sitd_reached a b true (Some q) is = (refl, cc)
sitd_reached a b true None is = absurd cc
sitd_reached a b false o is = absurd cc

pub first_reached : (m : Mem) (a b : ℕ) → IsShaped m → reaches_queue_head m a ≡ true → a ≡ b → IsLow b
first_reached m a b shape on same = subst IsLow same (reached_low m a shape (and_parts (reaches m a) _ on).0)

fetched_low : (m : Mem) (l : Link) (b : ℕ) → IsShaped m → fetched_by (chain_row m l) ≡ Some b → IsLow b
fetched_low m (links.Itd a) b shape is =
    let r = itd_reached a b (reaches_itd m a) _ is in
    subst IsLow r.1 (reached_low m a shape (and_parts (reaches m a) _ r.0).0)
fetched_low m (links.Qh a) b shape is =
    let r = queue_reached a b (reaches_queue_head m a) _ is in
    first_reached m a b shape r.0 r.1
fetched_low m (links.Sitd a) b shape is =
    let r = sitd_reached a b (reaches m a) _ is in
    subst IsLow r.1 (reached_low m a shape r.0)
fetched_low m _ b shape is = absurd cc

too_low : (o : Option ℕ) (vs : List ℕ) → ((b : ℕ) → o ≡ Some b → IsLow b) → AllByRecursion IsLow vs → AllByRecursion IsLow (visited_too o vs)
too_low None vs low all = all
too_low (Some b) vs low all = (low b refl, all)

at_low : (hand : Option Hand) (m : Mem) (l : Link) (vs : List ℕ) → IsShaped m → AllByRecursion IsLow vs → AllByRecursion IsLow (visits_at hand (chain_row m l) vs)
at_low None m l vs shape all = too_low (fetched_by (chain_row m l)) vs (λ b is. fetched_low m l b shape is) all
at_low (Some hand) m l vs shape all = all

-- ---- an event

after_low : (row : ControllerRow) (c : Content) (vs : List ℕ) → IsShaped c.memory → AllByRecursion IsLow vs → AllByRecursion IsLow (visits_after row c vs)
after_low rows.Begin c vs shape all = tt
after_low rows.Frame c vs shape all = at_low c.control.frame.hand c.memory c.control.frame.cursor vs shape all
after_low _ c vs shape all = all

-- ---- each is a block

was_aligned : (d : DriverContent) (frame v : ℕ) (what : Removed) → WasOfFrame d frame v what → v % 32 ≡ 0
was_aligned d frame v _ (of_descriptor t y here sort at framed) = block_aligned v y.first at
was_aligned d frame v _ (of_queue_head e x p here kind placed at active) = block_aligned v x.queue at
was_aligned d frame v _ (of_waiting e t y here sort waits at framed) = block_aligned v y.first at

aligned_in : (d : DriverContent) (index frame v : ℕ) → IsInItsFrame d index frame v → v % 32 ≡ 0
aligned_in d index frame v (inl m) = block_aligned v (id_of m.member / 32) (sym m.at)
aligned_in d index frame v (inr was) = was_aligned d frame v was.0 was.1.0

all_blocks : (d : DriverContent) (index frame : ℕ) (vs : List ℕ) → AllByRecursion (IsInItsFrame d index frame) vs → AllByRecursion IsLow vs → AllByRecursion (IsBlockBelow most_blocks) vs
all_blocks d index frame [] framed low = tt
all_blocks d index frame (v ∷ vs) framed low =
    (record { aligned = aligned_in d index frame v framed.0; below = low.0 }, all_blocks d index frame vs framed.1 low.1)

pub mixed_shaped : (w : World) → IsMixedWorld w → IsShaped w.memory
mixed_shaped w h = h.mixed.now.framed.place.sound.shape

pub texts_visit_few : TextsVisitFew
texts_visit_few text s spelled k =
    let visiting : (j : ℕ) → IsVisiting (began s j) (moment s j).world (visited s j)
    = scripts_visit s (spelled_fits text s spelled) (a_text_spells_bytes text s spelled) (lines_fit s.lines (texts_fit text s spelled) (texts_open_fitting text s spelled)) in
    let w : World = (moment s k).world in
    let apart : VisitsApart w (visited s k) = visits_apart (began s k) w (visited s k) (visiting k) in
    let low : AllByRecursion IsLow (visited s k)
    = all_low visits_next (λ fixed w vs shape all. after_low (controller_row w) (controller_parts w) vs shape all) s (λ j. mixed_shaped (moment s j).world (visiting j).mixed) k in
    are_fewer_than_blocks most_blocks (visited s k) apart.once (all_blocks w.driver w.registers.frame_index (frame_in w.control.frame.index) (visited s k) apart.in_frame low)
