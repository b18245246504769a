-- The stores of a qTD that is published.
use Rattle.std.proofs.Common.{◌≡◌, ◌≢◌, ℕ, suc, ◌*◌, ◌<◌, Bool, nat_lt, if◌then◌else◌, Some, None, ap, refl, sym, subst, ◌∙◌, ⊎_elim, arith}
use Rattle.std.proofs.lemmas.Bool.{cases_eq, lt-ltb}
use Rattle.law_ring.proofs.Common.{buffer_before}
use Rattle.law_queues.proofs.Common.{can_publish}
use Rattle.law_driver_ring.proofs.Common.{places_below}
use Rattle.qh_qtd.specs.declared.qtd.Qtd.{Qtd}
use Rattle.qh_qtd.specs.Qtd.{qtd_words}
use Rattle.async_walk.specs.Walk.{Walk}
use Rattle.async_walk.specs.Rows.{place}
use Rattle.drv_table.specs.declared.content.Command.TheVariants as unfinished
use Rattle.drv_table.specs.declared.rows.DriverRow.{DriverRow}
use Rattle.drv_table.specs.DriverContent.{DriverContent}
use Rattle.drv_table.specs.Parts.{Parts as DriverParts}
use Rattle.drv_table.specs.Rows.{row_for, driver_row, after_driver_row}
use Rattle.drv_table.specs.Commands.{command_row, advanced_by, advance}
use Rattle.law_driver.specs.in_place.InPlace.{IsSound}
use Rattle.law_structures.specs.lent_structures.Structures.{Element, Buffer, Structures, StructureSets, with_structure}
use Rattle.law_structures.proofs.lemmas.lent_structures.Names.{put_here, put_same, with_there, with_here}
use Rattle.law_structures.specs.lent_structures.Sound.{LeadsOn, HasBuffer, element_pages, buffer_name}
use Rattle.link_words.specs.declared.kinds.QtdLink.{QtdLink}
use Rattle.link_words.specs.declared.kinds.QtdLink.TheVariants as qtd_links
use Rattle.link_words.specs.Links.{qtd_link_of}
use Rattle.drv_table.specs.Words.{dummy_qtd}
use Rattle.law_structures.proofs.lemmas.lent_structures.Altering.{no_two}
use Rattle.law_ring.specs.Hand.{Hand}
use Rattle.claims_base.specs.Controller.{Base}
use Rattle.law_ring.specs.Stores.{IsUnnamed}
use Rattle.law_driver_ring.specs.Driven.{DrivesRing}
use Rattle.law_driver_ring.specs.Published.{partly, place_in, publish_row, IsPublishable}
use Rattle.law_driver_ring.proofs.Publishing.{publish_store_drives}
use Rattle.law_queues.specs.publish_laws.Publishing.{IsBeingPublished, published_parts, IsPublished}

-- ---- the row

row_at : (b : ℕ) (t : Qtd) (k : ℕ) → k < 8 → command_row (unfinished.Publish b (qtd_words t)) (suc k) ≡ publish_row b t k
row_at b t (suc (suc (suc (suc (suc (suc (suc (suc k)))))))) below = absurd (omega (arith, below))
row_at b t _ below = refl

pub row_is : (p : DriverParts) (member : ℕ → Bool) (parts : StructureSets) (n b : ℕ) (t : Qtd) (k : ℕ) → IsBeingPublished p.driver member parts n b t k → driver_row p ≡ publish_row b t k
row_is p member parts n b t k is =
    ap (row_for p) is.command ∙ ap (command_row (unfinished.Publish b (qtd_words t))) is.made ∙ row_at b t k is.below

-- ---- the driver's content after it

abbrev pub counted : DriverContent → ℕ → DriverContent
counted d i = if nat_lt (suc i) 9 then record d { made = suc i } else record d { command = None; made = 0 }

advanced_is : (d : DriverContent) (b : ℕ) (t : Qtd) (k : ℕ) → d.command ≡ Some (unfinished.Publish b (qtd_words t)) → d.made ≡ suc k → advance d ≡ counted d (suc k)
advanced_is d b t k command made = ap (advanced_by d) command ∙ ap (counted d) made

pub after_is : (p : DriverParts) (member : ℕ → Bool) (parts : StructureSets) (n b : ℕ) (t : Qtd) (k : ℕ) → IsBeingPublished p.driver member parts n b t k → (after_driver_row (driver_row p) p).driver ≡ counted p.driver (suc k)
after_is p member parts n b t k is =
    ap (λ (row : DriverRow). (after_driver_row row p).driver) (row_is p member parts n b t k is) ∙ advanced_is p.driver b t k is.command is.made

-- ---- the structures after it

leads_put : (part : Structures) (a : ℕ) (u : Qtd) (l : QtdLink) → LeadsOn part l → LeadsOn (with_structure part a (Element u)) l
leads_put part a u qtd_links.End leads = tt
leads_put part a u (qtd_links.To c) leads =
    ⊎_elim (λ (same : c ≡ a). record { qtd = u; here = ap (with_structure part a (Element u)) same ∙ with_here part a (Element u) })
    (λ (differs : c ≢ a). record { qtd = leads.qtd; here = with_there part a (Element u) c differs ∙ leads.here }) (cases_eq c a)

buffer_put : (part : Structures) (a : ℕ) (v u t : Qtd) (count : ℕ) → part a ≡ Some (Element v) → HasBuffer part t count → HasBuffer (with_structure part a (Element u)) t count
buffer_put part a v u t count at has = record {
  bytes = has.bytes;
  here = with_there part a (Element u) (buffer_name t) (no_two part (buffer_name t) a (Buffer (element_pages t) t.offset has.bytes) (Element v) has.here at (λ e. cc)) ∙ has.here;
  size = has.size;
}

unnamed_put : (part : Structures) (a : ℕ) (u t : Qtd) → IsUnnamed part a t → IsUnnamed (with_structure part a (Element u)) a t
unnamed_put part a u t free b v differs here name has =
    free b v differs (sym (with_there part a (Element u) b differs) ∙ here) name
    (record { pages = has.pages; start = has.start; bytes = has.bytes; here = buffer_before part a (buffer_name t) u has.pages has.start has.bytes has.here })

pub publishable_put : (part : Structures) (a : ℕ) (v u t : Qtd) → part a ≡ Some (Element v) → IsPublishable part a t → IsPublishable (with_structure part a (Element u)) a t
publishable_put part a v u t at k = record {
  sound = record {
    next = leads_put part a u (qtd_link_of t.next) k.sound.next;
    alternate = leads_put part a u (qtd_link_of t.alternate) k.sound.alternate;
    work = λ on.
        let ready = k.sound.work on in
        record { goes_on = ready.goes_on; start = ready.start; buffer = λ some. buffer_put part a v u t t.token.total at (ready.buffer some) };
  };
  own = unnamed_put part a u t k.own;
  blank = unnamed_put part a u dummy_qtd k.blank;
}

-- ---- one store

pub store_is_made : (base : Base) (member : ℕ → Bool) (parts : StructureSets) (hand : Hand) (w : Walk) (p : DriverParts) (n b : ℕ) (t : Qtd) (k : ℕ)
    → DrivesRing base member parts hand (place w p.registers p.memory) p.driver → IsSound p.memory p.driver → IsBeingPublished p.driver member parts n b t k
    → DrivesRing base member (published_parts parts n b t k) hand (place w (after_driver_row (driver_row p) p).registers (after_driver_row (driver_row p) p).memory) (after_driver_row (driver_row p) p).driver
store_is_made base member parts hand w p n b t k drives sound is =
    subst (λ (row : DriverRow). DrivesRing base member (published_parts parts n b t k) hand (place w (after_driver_row row p).registers (after_driver_row row p).memory) (after_driver_row row p).driver)
    (sym (row_is p member parts n b t k is))
    (publish_store_drives base member parts hand w p n b t k is.below drives (can_publish p.memory p.driver b (qtd_words t) (place_in k) sound is.command (places_below k is.below)) is.here is.range is.may)

pub next_is_ready : (member : ℕ → Bool) (parts : StructureSets) (p : DriverParts) (n b : ℕ) (t : Qtd) (k : ℕ) → IsBeingPublished p.driver member parts n b t k → suc k < 8
    → IsBeingPublished (after_driver_row (driver_row p) p).driver member (published_parts parts n b t k) n b t (suc k)
next_is_ready member parts p n b t k is below =
    let new : (after_driver_row (driver_row p) p).driver ≡ record p.driver { made = suc (suc k) } =
    after_is p member parts n b t k is ∙ ap (λ (x : Bool). if x then record p.driver { made = suc (suc k) } else record p.driver { command = None; made = 0 }) (lt-ltb (suc (suc k)) 9 (omega (arith, below))) in
    record {
      command = ap (λ (d : DriverContent). d.command) new ∙ is.command;
      made = ap (λ (d : DriverContent). d.made) new;
      below = below;
      here = put_same parts n (32 * b) (Element (partly t (suc k)));
      range = is.range;
      may = λ on.
          subst (λ (part : Structures). IsPublishable part (32 * b) t) (sym (put_here parts n (32 * b) (Element (partly t (suc k)))))
          (publishable_put (parts n) (32 * b) (partly t k) (partly t (suc k)) t is.here (is.may on));
    }

pub last_is_made : (member : ℕ → Bool) (parts : StructureSets) (p : DriverParts) (n b : ℕ) (t : Qtd) → IsBeingPublished p.driver member parts n b t 7 → IsPublished (after_driver_row (driver_row p) p).driver (published_parts parts n b t 7) n b t
last_is_made member parts p n b t is =
    let new : (after_driver_row (driver_row p) p).driver ≡ record p.driver { command = None; made = 0 } = after_is p member parts n b t 7 is in
    record {
      command = ap (λ (d : DriverContent). d.command) new;
      made = ap (λ (d : DriverContent). d.made) new;
      here = put_same parts n (32 * b) (Element t);
    }
