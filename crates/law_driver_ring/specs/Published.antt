-- A qTD is published where the inactive qTD at the end of a queue stands: its words are stored one after the other, the token last, which sets Active
-- (EHCI 1.0, 3.5 and 4.10.2).
--     partly t k               the inactive qTD once the first k stores of the qTD t were made
--     publish_row b t k        the row of store k, where it stands in block b
--     IsPublishable part a t   the links of t lead to qTDs of the part, it has its buffer where it asks for bytes, and no other qTD has that
--     PublishStoreDrives       the law
use Rattle.std.specs.Prelude.{◌≡◌, ℕ, zero, suc, ◌+◌, ◌*◌, ◌<◌, Bool, true, slice_index, Some}
use Rattle.qh_qtd.specs.declared.qtd.Qtd.{Qtd}
use Rattle.qh_qtd.specs.Qtd.{qtd_words, IsQtdInRange}
use Rattle.async_walk.specs.Walk.{Walk}
use Rattle.async_walk.specs.Rows.{place}
use Rattle.mem_runs.specs.Book.{slot_of, can_store}
use Rattle.drv_table.specs.declared.rows.DriverRow.{DriverRow}
use Rattle.drv_table.specs.declared.rows.DriverRow.TheVariants as rows
use Rattle.drv_table.specs.Words.{dummy_qtd}
use Rattle.drv_table.specs.Parts.{Parts as DriverParts}
use Rattle.drv_table.specs.Commands.{store_order}
use Rattle.drv_table.specs.Rows.{after_driver_row}
use Rattle.law_structures.specs.lent_structures.Structures.{Element, Structures, StructureSets, put}
use Rattle.law_structures.specs.lent_structures.Sound.{IsSoundElement}
use Rattle.law_ring.specs.Hand.{Hand}
use Rattle.claims_base.specs.Controller.{Base}
use Rattle.law_ring.specs.Stores.{IsUnnamed}
use Rattle.law_driver_ring.specs.Driven.{DrivesRing}

abbrev pub partly : Qtd → ℕ → Qtd
partly t zero = dummy_qtd
partly t (suc zero) = record dummy_qtd { next = t.next }
partly t (suc (suc zero)) = record dummy_qtd { next = t.next; alternate = t.alternate }
partly t (suc (suc (suc zero))) = record dummy_qtd { next = t.next; alternate = t.alternate; offset = t.offset; page0 = t.page0 }
partly t (suc (suc (suc (suc zero)))) = record dummy_qtd { next = t.next; alternate = t.alternate; offset = t.offset; page0 = t.page0; page1 = t.page1 }
partly t (suc (suc (suc (suc (suc zero))))) =
    record dummy_qtd { next = t.next; alternate = t.alternate; offset = t.offset; page0 = t.page0; page1 = t.page1; page2 = t.page2 }
partly t (suc (suc (suc (suc (suc (suc zero)))))) =
    record dummy_qtd { next = t.next; alternate = t.alternate; offset = t.offset; page0 = t.page0; page1 = t.page1; page2 = t.page2; page3 = t.page3 }
partly t (suc (suc (suc (suc (suc (suc (suc zero))))))) = record t { token = dummy_qtd.token }
partly t (suc (suc (suc (suc (suc (suc (suc (suc k)))))))) = t

abbrev pub place_in : ℕ → ℕ
place_in k = slice_index store_order k

abbrev pub publish_row : ℕ → Qtd → ℕ → DriverRow
publish_row b t k = rows.Store b (32 * b + 4 * place_in k) (slice_index (qtd_words t) (place_in k))

-- a buffer that begins at 0 is no other qTD's, as the fields of an inactive qTD are 0
pub record IsPublishable (part : Structures) (a : ℕ) (t : Qtd) : Type 0 where
  pub sound : IsSoundElement part t
  pub own : IsUnnamed part a t
  pub blank : IsUnnamed part a dummy_qtd

abbrev pub PublishStoreDrives : Type 0
PublishStoreDrives = (base : Base) (member : ℕ → Bool) (parts : StructureSets) (hand : Hand) (w : Walk) (p : DriverParts) (n b : ℕ) (t : Qtd) (k : ℕ) → k < 8
    → DrivesRing base member parts hand (place w p.registers p.memory) p.driver → can_store (slot_of p.driver.book.slots b) (32 * b + 4 * place_in k) ≡ true
    → parts n (32 * b) ≡ Some (Element (partly t k)) → IsQtdInRange t → (member n ≡ true → IsPublishable (parts n) (32 * b) t)
    → DrivesRing base member (put parts n (32 * b) (Element (partly t (suc k)))) hand
    (place w (after_driver_row (publish_row b t k) p).registers (after_driver_row (publish_row b t k) p).memory) (after_driver_row (publish_row b t k) p).driver
