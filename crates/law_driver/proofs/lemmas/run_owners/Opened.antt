-- The driver that was just built has the frame list and the head of the ring, and nothing to give back.
use Rattle.std.proofs.Common.{◌≡◌, ℕ, ◌/◌, ◌≤◌, length, set, replicate, sym, subst, ◌∙◌, refl, arith}
use Rattle.std.proofs.lemmas.List.{get_or-set_same, get_or-set_other, length-set, length-replicate}
use Rattle.mem_runs.specs.Book.{slot_of}
use Rattle.mem_runs.specs.declared.slots.Slot.TheVariants.{Empty, Lends}
use Rattle.drv_table.specs.declared.content.Reserve.{Reserve}
use Rattle.drv_periodic_table.specs.Periodic.{no_descriptor}
use Rattle.drv_table.specs.DriverContent.{no_note}
use Rattle.drv_table.specs.Opening.{list_run, head_run, opening}
use Rattle.claims_driver.specs.Owners.{HasBlocks}
use Rattle.claims_driver.specs.Leaving.{HasOwners}
use Rattle.law_driver.specs.run_owners.Kept.{opening_owner}

blocks : (k : ℕ) → 256 ≤ k → length (replicate k Empty) ≡ k
blocks k many = length-replicate k Empty

list_there : (k : ℕ) → 256 ≤ k → slot_of (set (set (replicate k Empty) 0 (Lends list_run)) 128 (Lends head_run)) 0 ≡ Lends list_run
list_there k many =
    get_or-set_other (set (replicate k Empty) 0 (Lends list_run)) 128 0 (Lends head_run) Empty (λ same. absurd (omega (arith, same)))
    ∙ get_or-set_same (replicate k Empty) 0 (Lends list_run) Empty (omega (arith, blocks k many))

head_there : (k : ℕ) → 256 ≤ k → slot_of (set (set (replicate k Empty) 0 (Lends list_run)) 128 (Lends head_run)) 128 ≡ Lends head_run
head_there k many =
    get_or-set_same (set (replicate k Empty) 0 (Lends list_run)) 128 (Lends head_run) Empty (omega (arith, blocks k many, length-set (replicate k Empty) 0 (Lends list_run)))

slots_there : (k : ℕ) → 256 ≤ k → k ≡ length (set (set (replicate k Empty) 0 (Lends list_run)) 128 (Lends head_run))
slots_there k many =
    sym (blocks k many) ∙ sym (length-set (replicate k Empty) 0 (Lends list_run)) ∙ sym (length-set (set (replicate k Empty) 0 (Lends list_run)) 128 (Lends head_run))

pub opening_has_owners : (n : ℕ) (room : Reserve) → 2048 ≤ n → HasOwners (opening n room).driver
opening_has_owners n room many =
    let k = n / 8 in
    let enough : 256 ≤ k = omega (arith, many) in
    record {
      owner = opening_owner;
      owned = record {
        each = record {
          list = record { owned = refl; run = subst (HasBlocks 128) (sym (list_there k enough)) refl };
          head = record { owned = refl; run = subst (HasBlocks 2) (sym (head_there k enough)) refl };
          queue = λ e x there on. absurd (cc);
          dummy = λ e x there on. absurd (cc);
          pieces = λ t y there on. absurd (cc);
          described = λ t y there iso on. absurd (cc);
        };
        sizes = length-replicate k no_note ∙ slots_there k enough;
        as_many = length-replicate k no_descriptor ∙ slots_there k enough;
      };
      orderly = record {
        harvests = λ t. omega arith;
        leaving = λ e. omega arith;
        removed = λ e. omega arith;
        steady = λ e x there. absurd (cc);
        within = λ t y there. absurd (cc);
        sorts = λ t y x there here. absurd (cc);
        unlinked = λ t y some there. absurd (cc);
        untold = λ t y there back told x here. absurd (cc);
        leaver = λ e x is here. absurd (cc);
      };
    }
