-- Which blocks are Lent; and what a driver owns that was just built.
use Rattle.std.proofs.Common.{◌≡◌, ◌≢◌, ℕ, zero, suc, ◌+◌, ◌/◌, ◌≤◌, Bool, true, false, cond, List, [], ◌∷◌, set, replicate, Option, Some, Ok, ap, refl, sym, subst, ◌∙◌, ⊎_elim, inl, inr, arith}
use Rattle.std.specs.Prelude.{◌⊎◌}
use Rattle.std.proofs.lemmas.Bool.{cases_eq, false≢true}
use Rattle.std.proofs.lemmas.List.{get_or-set_other}
use Rattle.law_common.proofs.Lists.{some_below}
use Rattle.law_driver.proofs.Common.{lent_by as lent_slot}
use Rattle.usb_base.specs.declared.commands.Cmd.{Cmd}
use Rattle.word_mem.specs.Memory.{Mem, state_at}
use Rattle.word_mem.specs.Runs.{Run}
use Rattle.word_mem.specs.Owners.{has_block, holders, state_by}
use Rattle.word_mem.specs.declared.blocks.BlockState.{BlockState}
use Rattle.word_mem.specs.declared.blocks.BlockState.TheVariants.{Lent}
use Rattle.word_mem.proofs.Holders.{has_block_is}
use Rattle.mem_runs.specs.Book.{holding, Stands, slot_of, lent_in, kept_in}
use Rattle.mem_runs.specs.declared.slots.Slot.{Slot}
use Rattle.mem_runs.specs.declared.slots.Slot.TheVariants.{Empty, Keeps, Lends}
use Rattle.mem_runs.proofs.Standing.{lends_all}
use Rattle.drv_table.specs.declared.content.Reserve.{Reserve}
use Rattle.drv_table.specs.DriverContent.{DriverContent}
use Rattle.drv_table.specs.Words.{head_block}
use Rattle.drv_table.specs.Accepting.{Offered}
use Rattle.drv_table.specs.Offers.{offered}
use Rattle.drv_table.specs.Opening.{list_run, head_run, opening}
use Rattle.law_driver.specs.run_owners.Accepts.{Accepts, opens, chains, places, transfers, describes, cancels, unchains}
use Rattle.claims_driver.specs.Owners.{FrameList, Head, QueueHead, Dummy, Element, Described, Buffer, HasRun, SlotHas, IsPlaced, views_of}
use Rattle.claims_driver.specs.Leaving.{HasOwners}
use Rattle.law_driver.proofs.lemmas.run_owners.Runs.{placed_run}
use Rattle.law_driver.proofs.lemmas.run_owners.Commands.{each_command_has_its_reason}
use Rattle.claims_driver.specs.LentRuns.{begins_in, AreLent, IsLent}
use Rattle.law_driver_ring.proofs.Blocks.{all_one, placed_buffer}
use Rattle.claims_world.specs.Owned.{the_list, the_head, a_queue, a_dummy, a_piece, a_buffer, a_descriptor, a_descriptor_buffer, IsOwnedRun, AreAllOwned, IsLentBlock, LentBlocksAre}
use Rattle.law_world.specs.memory.owned_blocks.Owned.{OwnsAll}
use Rattle.law_world.proofs.lemmas.memory.lemmas.owned_blocks.Commands.{open_owns, chain_owns, place_owns, transfer_owns, cancel_owns, unchain_owns}
use Rattle.law_world.proofs.lemmas.memory.lemmas.owned_blocks.Described.{describe_owns}

-- ---- a command

accepted_owns : (d : DriverContent) (m : Mem) (o : Offered) → Stands (holding d.book m) → Accepts d m o → HasOwners d → OwnsAll d → OwnsAll o.driver
accepted_owns d m o stands (opens why) owners old = open_owns d m o stands why old
accepted_owns d m o stands (chains why) owners old = chain_owns d m o stands why old
accepted_owns d m o stands (places why) owners old = place_owns d m o why old
accepted_owns d m o stands (transfers why) owners old = transfer_owns d m o stands why owners old
accepted_owns d m o stands (describes why) owners old = describe_owns d m o stands why owners old
accepted_owns d m o stands (cancels why) owners old = cancel_owns d m o why old
accepted_owns d m o stands (unchains why) owners old = unchain_owns d m o why old

pub command_owns_all : (d : DriverContent) (m : Mem) (cmd : Cmd) (o : Offered) → Stands (holding d.book m) → HasOwners d → offered d m cmd ≡ Ok o → OwnsAll d → OwnsAll o.driver
command_owns_all d m cmd o stands owners is old = accepted_owns d m o stands (each_command_has_its_reason d m cmd o is) owners old

-- ---- a driver that was just built

none_in : (k b : ℕ) → HasRun (slot_of (replicate k Empty) b) → ⊥
none_in zero b run = run
none_in (suc k) zero run = run
none_in (suc k) (suc b) run = none_in k b run

pub new_driver_owns_all : (n : ℕ) (room : Reserve) → 2048 ≤ n → OwnsAll (opening n room).driver
new_driver_owns_all n room many = record {
  all = λ b run.
      ⊎_elim (λ (head : b ≡ head_block). the_head head)
      (λ (other : b ≢ head_block).
      ⊎_elim (λ (list : b ≡ 0). the_list list)
      (λ (neither : b ≢ 0).
      absurd (none_in (n / 8) b
      (subst (λ (s : Slot). HasRun s) (get_or-set_other (set (replicate (n / 8) Empty) 0 (Lends list_run)) head_block b (Lends head_run) Empty other ∙ get_or-set_other (replicate (n / 8) Empty) 0 b (Lends list_run) Empty neither) run)))
      (cases_eq b 0))
      (cases_eq b head_block);
  queues = λ t y some there. absurd (omega (arith, some));
}

-- ---- which blocks are Lent

-- one of the lent runs has the block
record IsLentBy (slots : List Slot) (k : ℕ) : Type 0 where
  place : ℕ
  run : Run
  there : slot_of slots place ≡ Lends run
  has : has_block run k ≡ true

has_or_more : (r : Run) (rs : List Run) (k : ℕ) → 1 ≤ holders (r ∷ rs) k → (has_block r k ≡ true) ⊎ (1 ≤ holders rs k)
has_or_more r rs k some = by (has_block r k) refl
  where
    by : (b : Bool) → has_block r k ≡ b → (has_block r k ≡ true) ⊎ (1 ≤ holders rs k)
    by true is = inl is
    by false is = inr (let e = ap (λ (c : Bool). cond c 1 0 + holders rs k) is in omega (arith, e, some))

lent_by : (slots : List Slot) (k : ℕ) → 1 ≤ holders (lent_in slots) k → IsLentBy slots k
lent_by [] k some = absurd (omega (arith, some))
lent_by (Empty ∷ slots) k some = let r = lent_by slots k some in record { place = suc r.place; run = r.run; there = r.there; has = r.has }
lent_by (Keeps q ∷ slots) k some = let r = lent_by slots k some in record { place = suc r.place; run = r.run; there = r.there; has = r.has }
lent_by (Lends q ∷ slots) k some =
    ⊎_elim (λ (has : has_block q k ≡ true). record { place = 0; run = q; there = refl; has = has })
    (λ (more : 1 ≤ holders (lent_in slots) k). let r = lent_by slots k more in record { place = suc r.place; run = r.run; there = r.there; has = r.has })
    (has_or_more q (lent_in slots) k some)

state_lent : (l k : ℕ) → ◌≡◌ {A = Option BlockState} (Some (state_by l k)) (Some Lent) → 1 ≤ l
state_lent (suc l) k is = omega arith
state_lent zero (suc k) is = absurd (cc)
state_lent zero zero is = absurd (cc)

pub lent_blocks_are_needed : (d : DriverContent) (m : Mem) → Stands (holding d.book m) → AreAllOwned d → LentBlocksAre d m
lent_blocks_are_needed d m stands all k = (told, from)
  where
    told : state_at m k ≡ Some Lent → IsLentBlock d k
    told is =
        let below = some_below m.states k Lent is in
        let some = state_lent (holders (lent_in d.book.slots) k) (holders (kept_in d.book.slots) k) (sym (stands.held.each k below) ∙ is) in
        let r = lent_by d.book.slots k some in
        record {
          run = r.place;
          owned = all r.place (subst (λ (s : Slot). HasRun s) (sym r.there) tt);
          lent = subst (λ (s : Slot). IsLent s) (sym r.there) tt;
          has = subst (λ (s : Slot). SlotHas s k) (sym r.there) r.has;
        }

    by : (b : ℕ) (s : Slot) → slot_of d.book.slots b ≡ s → IsLent s → SlotHas s k → state_at m k ≡ Some Lent
    by b (Lends r) there lent has = let inside = has_block_is r k has in lends_all (holding d.book m) b r stands there k inside.from inside.below
    by b _ there lent has = absurd lent

    from : IsLentBlock d k → state_at m k ≡ Some Lent
    from is = by is.run (slot_of d.book.slots is.run) refl is.lent is.has

-- ---- each run that is needed is there

owned_run : (d : DriverContent) (b : ℕ) → HasOwners d → IsOwnedRun d b → HasRun (slot_of d.book.slots b)
owned_run d b owners (the_list is) = subst (λ (c : ℕ). HasRun (slot_of d.book.slots c)) (sym is) (placed_run 0 FrameList owners.owned.each.list)
owned_run d b owners (the_head is) = subst (λ (c : ℕ). HasRun (slot_of d.book.slots c)) (sym is) (placed_run head_block Head owners.owned.each.head)
owned_run d b owners (a_queue e x here is) =
    subst (λ (c : ℕ). HasRun (slot_of d.book.slots c)) (sym is) (placed_run x.queue (QueueHead e) (owners.owned.each.queue e x here.here here.queued))
owned_run d b owners (a_dummy e x here is) =
    subst (λ (c : ℕ). HasRun (slot_of d.book.slots c)) (sym is) (placed_run x.dummy (Dummy e) (owners.owned.each.dummy e x here.here here.queued))
owned_run d b owners (a_piece t y here is) =
    placed_run b (Element t) (placed_buffer (slot_of d.book.slots) owners.owner (views_of d).note t y.first y.qtds b (owners.owned.each.pieces t y here.here here.held) is).0
owned_run d b owners (a_buffer t c y here is among) =
    let p = placed_buffer (slot_of d.book.slots) owners.owner (views_of d).note t y.first y.qtds c (owners.owned.each.pieces t y here.here here.held) is in
    placed_run b (Buffer t) (all_one (λ (i : ℕ). IsPlaced (slot_of d.book.slots) owners.owner i (Buffer t)) ((views_of d).note c).buffer b p.1 among)
owned_run d b owners (a_descriptor t y here is) =
    let p = owners.owned.each.described t y here.here here.descriptor here.held in
    subst (λ (c : ℕ). HasRun (slot_of d.book.slots c)) (sym is) (placed_run y.first (Described ((views_of d).descriptor y.first).split t) p.descriptor)
owned_run d b owners (a_descriptor_buffer t y here among) =
    let p = owners.owned.each.described t y here.here here.descriptor here.held in
    placed_run b (Buffer t) (all_one (λ (i : ℕ). IsPlaced (slot_of d.book.slots) owners.owner i (Buffer t)) ((views_of d).descriptor y.first).buffer b p.buffers among)

pub needed_runs_are_lent : (d : DriverContent) (b : ℕ) → HasOwners d → AreLent d → IsOwnedRun d b → begins_in b d.book.taken ≡ false → IsLent (slot_of d.book.slots b)
needed_runs_are_lent d b owners lends is off =
    lent_slot (slot_of d.book.slots b) (owned_run d b owners is) (λ r keeps. false≢true (sym off ∙ lends.kept b r keeps))
