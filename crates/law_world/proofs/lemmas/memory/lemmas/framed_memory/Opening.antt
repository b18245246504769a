-- A driver that was just built and a new controller are framed.
use Rattle.std.proofs.Common.{◌≡◌, ℕ, ◌≤◌, List, [], length, Option, Some, ap, refl, subst, arith}
use Rattle.std.proofs.lemmas.List.{length-replicate}
use Rattle.law_world.proofs.Common.{no_transfer}
use Rattle.law_descriptors.proofs.Common.{none_else}
use Rattle.hc_core.specs.Controller.{Content, content, new_control}
use Rattle.law_controller.proofs.lemmas.aligned_copies.Controlling.{a_new_controller_is_aligned}
use Rattle.drv_table.specs.declared.content.Reserve.{Reserve}
use Rattle.drv_table.specs.Opening.{opening}
use Rattle.claims_driver.specs.Owners.{views_of}
use Rattle.law_structures.specs.lent_structures.Structures.{Structure, Table}
use Rattle.law_ring.specs.Hand.{Empty}
use Rattle.law_driver_ring.specs.PartOpened.{empty_list, no_parts, opening_parts, is_head}
use Rattle.claims_base.specs.Controller.{opening_base}
use Rattle.law_driver_ring.specs.Extents.{AreInRuns}
use Rattle.law_queues.specs.shared_memory.Shared.{IsShared}
use Rattle.law_queues.proofs.lemmas.shared_memory.Sharing.{the_opening_is_shared}
use Rattle.law_frame_list.proofs.lemmas.list_driver.Rows.{a_new_driver_keeps_its_list}
use Rattle.law_controller.proofs.lemmas.frame_control.Frameless.{a_frameless_list_has_nothing_met}
use Rattle.law_descriptors.specs.Described.{AreDescribed}
use Rattle.law_world.specs.memory.framed_memory.Framed.{NewIsFramed}

-- ---- the frame list has 1,024 elements

abbrev words_in : Option Structure → List ℕ
words_in (Some (Table words)) = words
words_in _ = []

list_is : (words : List ℕ) → opening_parts 0 0 ≡ Some (Table words) → empty_list ≡ words
list_is words here = ap words_in here

list_fits : (words : List ℕ) → opening_parts 0 0 ≡ Some (Table words) → length words ≤ 1024
list_fits words here = subst (λ (ws : List ℕ). length ws ≤ 1024) (list_is words here) (omega (arith, length-replicate {A = ℕ} 1024 1))

opening_extents : (n : ℕ) (room : Reserve) → AreInRuns (views_of (opening n room).driver) opening_parts
opening_extents n room = record { list = list_fits; buffers = λ t b c cs y x pages k bs is piece first here j has. absurd (no_transfer t y is.here) }

opening_described : (n : ℕ) (room : Reserve) → AreDescribed (views_of (opening n room).driver) no_parts
opening_described n room = record {
  descriptors = λ t y is. absurd (no_transfer t y is.here);
  buffers = λ t y is. absurd (no_transfer t y is.here);
  only = λ a b s here. absurd (none_else s here);
}

pub new_is_framed : NewIsFramed
new_is_framed n room many few whole =
    let c : Content = content new_control (opening n room).registers (opening n room).memory in
    let k : IsShared opening_base is_head opening_parts Empty c (opening n room).driver = the_opening_is_shared n room many few whole in
    record {
      operating = k.operating;
      start = refl;
      aligned = a_new_controller_is_aligned (opening n room).registers (opening n room).memory refl;
      runs = a_frameless_list_has_nothing_met opening_base is_head opening_parts Empty c refl k.controlled;
      place = k.place;
      list = a_new_driver_keeps_its_list n room many few whole;
      driven = k.driven;
      described = opening_described n room;
      extents = opening_extents n room;
    }
