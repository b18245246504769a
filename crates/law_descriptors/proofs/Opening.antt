-- A driver that was just built has the frame list and the head of the ring.
use Rattle.std.proofs.Common.{◌≡◌, ℕ, ◌≤◌, List, [], length, Option, Some, None, ap, refl, subst, arith}
use Rattle.std.proofs.lemmas.List.{length-replicate}
use Rattle.drv_table.specs.declared.content.Reserve.{Reserve}
use Rattle.drv_table.specs.Opening.{opening}
use Rattle.claims_driver.specs.Owners.{TransferRuns, views_of}
use Rattle.law_structures.specs.lent_structures.Structures.{Structure, Table}
use Rattle.law_driver_ring.specs.PartOpened.{no_parts, opening_parts, empty_list}
use Rattle.law_driver_ring.proofs.PartOpening.{opening_drives}
use Rattle.law_descriptors.specs.Told.{IsToldBy}

abbrev words_in : Option Structure → List ℕ
words_in (Some (Table words)) = words
words_in _ = []

list_is : (words : List ℕ) → opening_parts 0 0 ≡ Some (Table words) → empty_list ≡ words
list_is words here = ap words_in here

no_transfer : (t : ℕ) (y : TransferRuns) → None ≡ Some y → ⊥
no_transfer t y there = cc

none_there : (n a : ℕ) (s : Structure) → no_parts n a ≡ Some s → ⊥
none_there n a s there = cc

pub new_told : (room : Reserve) → IsToldBy (views_of (opening 2048 room).driver) no_parts opening_parts
new_told room = record {
  driven = (opening_drives 2048 room (omega arith) (omega arith) refl).driven;
  extents = record {
    list = λ words here. subst (λ (ws : List ℕ). length ws ≤ 1024) (list_is words here) (omega (arith, length-replicate {A = ℕ} 1024 1));
    buffers = λ t b c cs y x pages k bs is piece first here j has. absurd (no_transfer t y is.here);
  };
  described = record {
    descriptors = λ t y is. absurd (no_transfer t y is.here);
    buffers = λ t y is. absurd (no_transfer t y is.here);
    only = λ n a s here. absurd (none_there n a s here);
  };
}
