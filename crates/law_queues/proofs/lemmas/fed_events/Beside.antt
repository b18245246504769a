-- An event of the controller leaves the queues.
use Rattle.std.proofs.Common.{◌≡◌, ℕ, ◌+◌, ◌-◌, ◌*◌, List, length, ap, refl, sym, subst, ◌∙◌, arith}
use Rattle.law_driver_ring.proofs.Common.{partly_idle}
use Rattle.mem_bytes.specs.Bytes.{place}
use Rattle.qh_qtd.specs.declared.qtd.Qtd.{Qtd}
use Rattle.qh_qtd.specs.declared.token.Token.{Token}
use Rattle.drv_table.specs.declared.content.QtdNote.{QtdNote}
use Rattle.drv_table.specs.declared.content.Sort.{Sort}
use Rattle.drv_table.specs.DriverContent.{DriverContent}
use Rattle.drv_table.specs.Harvests.{note_at}
use Rattle.drv_table.specs.Words.{dummy_qtd}
use Rattle.law_structures.specs.lent_structures.Structures.{Structures, StructureSets}
use Rattle.law_structures.specs.lent_structures.Alters.{Alters}
use Rattle.law_structures.specs.lent_structures.Sound.{element_pages, buffer_name, HasBuffer}
use Rattle.law_structures.proofs.lemmas.lent_structures.Members.{buffer_still, still_active}
use Rattle.law_ring.specs.Effects.{buffer_of}
use Rattle.law_ring.proofs.Altered.{length_still}
use Rattle.law_controller.specs.controlled_streams.Kept.{KeepsEach}
use Rattle.law_driver_ring.specs.Published.{partly}
use Rattle.law_queues.proofs.lemmas.publish_laws.Keeping.{publishable_still}
use Rattle.claims_driver.specs.Owners.{note_in}
use Rattle.law_driver.specs.chained_transfers.Chains.{piece_at}
use Rattle.law_driver_ring.specs.fed_queues.Fed.{IsAlternate, IsNotedQtd, IsPieceFed, IsPublished, sized}
use Rattle.law_driver_ring.specs.fed_queues.Places.{IsLast}
use Rattle.law_queues.specs.fed_events.Beside.{FedStaysBeside, LastStaysBeside}

-- ---- one piece

noted_still : (sort : Sort) (t u : Qtd) (note : QtdNote) (end : ℕ) → u ≡ record t { token = u.token } → IsNotedQtd sort t note end → IsNotedQtd sort u note end
noted_still sort t u note end is k = record {
  next = ap (λ (x : Qtd). x.next) is ∙ k.next;
  alternate = subst (λ (x : Qtd). IsAlternate sort x.alternate note.next end) (sym is) k.alternate;
  offset = ap (λ (x : Qtd). x.offset) is ∙ k.offset;
  page0 = ap (λ (x : Qtd). x.page0) is ∙ k.page0;
  page1 = ap (λ (x : Qtd). x.page1) is ∙ k.page1;
  page2 = ap (λ (x : Qtd). x.page2) is ∙ k.page2;
  page3 = ap (λ (x : Qtd). x.page3) is ∙ k.page3;
  page4 = ap (λ (x : Qtd). x.page4) is ∙ k.page4;
}

other_token : (part : Structures) (t : Qtd) (z : Token) (n : ℕ) → HasBuffer part t n → HasBuffer part (record t { token = z }) n
other_token part t z n has = record { bytes = has.bytes; here = has.here; size = has.size }

pub piece_still : (sort : Sort) (part now : Structures) (note : QtdNote) (b end : ℕ) → Alters part now → IsPieceFed sort part note b end → IsPieceFed sort now note b end
piece_still sort part now note b end alters k =
    let had = alters.element (32 * b) k.qtd k.here in
    let u : Qtd = had.qtd in
    let token : u.token ≡ had.after.token = ap (λ (x : Qtd). x.token) had.after.is in
    let is : u ≡ record k.qtd { token = u.token } = had.after.is ∙ ap (λ z. record k.qtd { token = z }) (sym token) in
    record {
      qtd = u;
      here = had.here;
      noted = noted_still sort k.qtd u note end is k.noted;
      buffer = λ some. subst (λ (x : Qtd). HasBuffer now x note.told) (sym is) (other_token now k.qtd u.token note.told (buffer_still part now k.qtd note.told alters (k.buffer some)));
      long = ap (λ (x : Qtd). length (buffer_of now x)) is ∙ length_still part now (buffer_name k.qtd) alters ∙ k.long;
      places = λ j below. k.places j below ∙ ap (λ (x : Qtd). place (element_pages x) (x.offset + j)) (sym is);
      fresh = λ on.
          let same : u ≡ k.qtd = still_active k.qtd u had.after on in
          ap (λ (x : Qtd). x.token.total) same ∙ k.fresh (ap (λ (x : Qtd). x.token.active) (sym same) ∙ on);
      blank = k.blank;
    }

-- ---- all of them

published_still : (d : DriverContent) (parts now : StructureSets) (b : ℕ) (words : List ℕ) → KeepsEach parts now → IsPublished d parts b words → IsPublished d now b words
published_still d parts now b words keeps k = record {
  number = k.number;
  transfer = k.transfer;
  endpoint = k.endpoint;
  newest = k.newest;
  there = k.there;
  fresh = k.fresh;
  place = k.place;
  here = k.here;
  going = k.going;
  qtd = k.qtd;
  are = k.are;
  range = k.range;
  noted = k.noted;
  active = k.active;
  pid = k.pid;
  total = k.total;
  stored = (keeps (32 * k.endpoint.queue)).idle (32 * b) (partly k.qtd (d.made - 1)) k.stored (partly_idle k.qtd (d.made - 1) (let few = k.few in omega (arith, few)));
  places = k.places;
  blank = k.blank;
  few = k.few;
  long = λ some. length_still (parts (32 * k.endpoint.queue)) (now (32 * k.endpoint.queue)) (buffer_name k.qtd) (keeps (32 * k.endpoint.queue)).alters ∙ k.long some;
  may = λ some. publishable_still (parts (32 * k.endpoint.queue)) (now (32 * k.endpoint.queue)) (32 * b) k.qtd (keeps (32 * k.endpoint.queue)).alters (k.may some);
}

pub fed_stays_beside : FedStaysBeside
fed_stays_beside d parts now keeps k = record {
  dummies = λ e x here kept lent. (keeps (32 * x.queue)).idle (32 * x.dummy) dummy_qtd (k.dummies e x here kept lent) refl;
  pieces = λ t i y x there held here from below.
      let b : ℕ = piece_at (note_in d.notes) y.first i in
      piece_still y.sort (parts (32 * x.queue)) (now (32 * x.queue)) (sized y.sort i (note_at d.notes b)) b (piece_at (note_in d.notes) y.first y.qtds) (keeps (32 * x.queue)).alters (k.pieces t i y x there held here from below);
  publishes = λ b words command. published_still d parts now b words keeps (k.publishes b words command);
}

is_last_still : (order : ℕ → ℕ) (part now : Structures) (a : ℕ) → Alters part now → IsLast order part a → IsLast order now a
is_last_still order part now a alters k b t here differs = let had = alters.element_before b t here in k b had.qtd had.here differs

pub last_stays_beside : LastStaysBeside
last_stays_beside d parts now order keeps k = record {
  dummies = λ e x here kept lent. is_last_still (order (32 * x.queue)) (parts (32 * x.queue)) (now (32 * x.queue)) (32 * x.dummy) (keeps (32 * x.queue)).alters (k.dummies e x here kept lent);
  taken = λ b words t y x command made newest there first here.
      is_last_still (order (32 * x.queue)) (parts (32 * x.queue)) (now (32 * x.queue)) (32 * b) (keeps (32 * x.queue)).alters (k.taken b words t y x command made newest there first here);
  sorted = k.sorted;
}
