-- The opening's words stand for its list, and those of every quiet event.
use Rattle.std.proofs.Common.{◌≡◌, ℕ, zero, suc, ◌+◌, ◌-◌, ◌*◌, ◌%◌, ◌<◌, ◌≤◌, Bool, true, false, cond, List, [], length, get_or, slice_get, Option, Some, None, ap, refl, sym, subst, ◌∙◌, arith}
use Rattle.std.proofs.lemmas.Bool.{false≢true}
use Rattle.std.proofs.lemmas.List.{length-replicate, get_or-replicate}
use Rattle.usb_base.specs.declared.endpoints.EpName.{EpName}
use Rattle.usb_base.specs.declared.endpoints.EndCause.{EndCause}
use Rattle.word_mem.specs.Memory.{Mem, word_at}
use Rattle.word_mem.proofs.Words.{get_or-words_in}
use Rattle.drv_chains.specs.declared.members.Member.{Member}
use Rattle.drv_chains.specs.declared.members.Predecessor.TheVariants.{Element}
use Rattle.drv_chains.specs.Chains.{chain, of_lists}
use Rattle.drv_members.proofs.Classes.{chain_is}
use Rattle.drv_periodic.specs.Periodic.{Periodic}
use Rattle.claims_driver.specs.FrameWords.{Leads, IsInOrder, StandFor, ListStands}
use Rattle.law_frame_words.proofs.lemmas.frame_words.Order.{empty_in_order}
use Rattle.drv_table.specs.declared.content.Endpoint.{Endpoint}
use Rattle.drv_table.specs.declared.content.Transfer.{Transfer}
use Rattle.drv_table.specs.declared.content.Reserve.{Reserve}
use Rattle.drv_table.specs.declared.rows.DriverRow.{DriverRow}
use Rattle.drv_table.specs.declared.rows.DriverRow.TheVariants as rows
use Rattle.drv_table.specs.declared.rows.Found.{Found}
use Rattle.drv_table.specs.declared.rows.Found.TheVariants as founds
use Rattle.drv_table.specs.DriverContent.{DriverContent, waits_for}
use Rattle.drv_table.specs.Opening.{opening}
use Rattle.drv_table.specs.Harvests.{is_stall, end_of, noted}
use Rattle.drv_table.specs.Parts.{Parts}
use Rattle.drv_table.specs.Rows.{driver_row, after_driver_row}
use Rattle.drv_table.specs.Harvesting.{served, told_with, behind_one, behind, after_end, harvested_as, after_harvest}
use Rattle.law_structures.specs.lent_structures.Structures.{Table, HoldsTable}
use Rattle.law_driver_ring.specs.Driven.{is_quiet}
use Rattle.law_driver_ring.specs.PartOpened.{empty_list}
use Rattle.law_driver_ring.proofs.PartOpening.{opening_ring}
use Rattle.law_frame_words.specs.list_words.Spared.{LeavesList}
use Rattle.law_frame_words.proofs.lemmas.list_words.Sparing.{what_leaves_its_words_leaves_the_list}

-- ---- the opening

element_ends : (n : ℕ) (room : Reserve) (f : ℕ) → 2048 ≤ n → n ≤ 262144 → n % 1024 ≡ 0 → f < 1024 → word_at (opening n room).memory (32 * 0 + 4 * f) ≡ 1
element_ends n room f many few whole below =
    let k = opening_ring n many few whole in
    let h : HoldsTable (opening n room).memory 0 empty_list = k.tells.each 0 0 (Table empty_list) refl in
    let long : length empty_list ≡ 1024 = length-replicate {A = ℕ} 1024 1 in
    sym (get_or-words_in (opening n room).memory.words 0 (length empty_list) f (omega (arith, long, below))) ∙ ap (λ ws. get_or ws f 0) h.words ∙ get_or-replicate 1024 f 1 0 below

no_chain : (list q d f : ℕ) → chain (of_lists [] []) f ≡ []
no_chain list q d f = chain_is (of_lists [] []) f (empty_in_order list q d).kept

ends_lead : (word : ℕ → ℕ) (f : ℕ) (ms : List Member) → ms ≡ [] → word (32 * 0 + 4 * f) ≡ 1 → Leads 0 word (Element f) ms
unfolding Leads
ends_lead word f ms none ends = subst (λ (xs : List Member). Leads 0 word (Element f) xs) (sym none) ends

pub a_new_list_stands : (n : ℕ) (room : Reserve) → 2048 ≤ n → n ≤ 262144 → n % 1024 ≡ 0 → ListStands (opening n room).memory (opening n room).driver
a_new_list_stands n room many few whole = record {
  order = empty_in_order 0 room.endpoints room.transfers;
  words = λ f below. ends_lead (word_at (opening n room).memory) f (chain (of_lists [] []) f) (no_chain 0 room.endpoints room.transfers f) (element_ends n room f many few whole below);
}

-- ---- its words are left

pub it_stands_where_its_words_are_left : (d : DriverContent) (m new : Mem) → LeavesList d.periodic.list (word_at m) (word_at new) → ListStands m d → ListStands new d
it_stands_where_its_words_are_left d m new leaves old = record { order = old.order; words = what_leaves_its_words_leaves_the_list d.periodic.list (word_at m) (word_at new) old.order leaves old.words }

-- ---- a harvest leaves the list

abbrev list_of : DriverContent → Periodic
list_of d = d.periodic.list

cond_list : (b : Bool) (d e f : DriverContent) → list_of e ≡ list_of d → list_of f ≡ list_of d → list_of (cond b e f) ≡ list_of d
cond_list true d e f one two = one
cond_list false d e f one two = two

behind_one_list : (d : DriverContent) (e : ℕ) (name : EpName) (k : ℕ) (o : Option Transfer) → list_of (behind_one d e name k o) ≡ list_of d
behind_one_list d e name k None = refl
behind_one_list d e name k (Some x) = cond_list (waits_for e x) d _ d refl refl

behind_list : (d : DriverContent) (e : ℕ) (name : EpName) (k n : ℕ) → list_of (behind d e name k n) ≡ list_of d
unfolding behind
behind_list d e name k zero = refl
behind_list d e name k (suc n) = behind_list (behind_one d e name k (slice_get d.transfers k)) e name (suc k) n ∙ behind_one_list d e name k (slice_get d.transfers k)

after_end_list : (d : DriverContent) (e t : ℕ) (x : Endpoint) (stall : Bool) (o : Option EndCause) → list_of (after_end d e t x stall o) ≡ list_of d
after_end_list d e t x stall (Some cause) = refl
after_end_list d e t x true None = behind_list _ e x.desc.name (suc t) (length d.transfers - suc t)
after_end_list d e t x false None = refl

harvested_list : (d : DriverContent) (m : Mem) (e t : ℕ) (x : Endpoint) (y : Transfer) (found : Found) → list_of (harvested_as d m e t x y found) ≡ list_of d
harvested_list d m e t x y (founds.Ended n what) =
    after_end_list (told_with d m t y what x.desc.name (noted d.notes y.place n)) e t x (is_stall what) (end_of x.desc.kind what)
harvested_list d m e t x y _ = refl

harvest_list : (d : DriverContent) (m : Mem) (e t : ℕ) (found : Found) (o : Option Endpoint) (q : Option Transfer) → list_of (after_harvest d m e t found o q) ≡ list_of d
harvest_list d m e t found None q = refl
harvest_list d m e t found (Some x) None = refl
harvest_list d m e t found (Some x) (Some y) = cond_list (waits_for e y) d (served (harvested_as d m e t x y found) e) d (harvested_list d m e t x y found) refl

-- ---- a quiet event

same_list : (m : Mem) (d e : DriverContent) → list_of e ≡ list_of d → ListStands m d → ListStands m e
same_list m d e same old = record {
  order = subst IsInOrder (sym same) old.order;
  words = subst (λ (p : Periodic). StandFor p (word_at m)) (sym same) old.words;
}

quiet_stands : (row : DriverRow) (p : Parts) → is_quiet row ≡ true → ListStands p.memory p.driver → ListStands (after_driver_row row p).memory (after_driver_row row p).driver
quiet_stands (rows.ReadFrame n) p quiet old = same_list p.memory p.driver (after_driver_row (rows.ReadFrame n) p).driver refl old
quiet_stands rows.ClearAdvance p quiet old = same_list p.memory p.driver (after_driver_row rows.ClearAdvance p).driver refl old
quiet_stands rows.RingBell p quiet old = same_list p.memory p.driver (after_driver_row rows.RingBell p).driver refl old
quiet_stands (rows.ReadStatus true) p quiet old = same_list p.memory p.driver (after_driver_row (rows.ReadStatus true) p).driver refl old
quiet_stands (rows.ReadStatus false) p quiet old = same_list p.memory p.driver (after_driver_row (rows.ReadStatus false) p).driver refl old
quiet_stands (rows.Harvest e t found) p quiet old =
    same_list p.memory p.driver (after_driver_row (rows.Harvest e t found) p).driver (harvest_list p.driver p.memory e t found (slice_get p.driver.endpoints e) (slice_get p.driver.transfers t)) old
quiet_stands rows.Rest p quiet old = same_list p.memory p.driver (after_driver_row rows.Rest p).driver refl old
quiet_stands _ p quiet old = absurd (false≢true quiet)

pub quiet_events_keep_it_standing : (p : Parts) → is_quiet (driver_row p) ≡ true → ListStands p.memory p.driver → ListStands (after_driver_row (driver_row p) p).memory (after_driver_row (driver_row p) p).driver
quiet_events_keep_it_standing p quiet old = quiet_stands (driver_row p) p quiet old
