-- The row of a harvest, by what it found.
use Rattle.std.proofs.Common.{◌≡◌, ◌≢◌, ℕ, suc, ◌+◌, ◌-◌, ◌*◌, ◌==◌, ◌&&◌, not, ◌<◌, ◌≤◌, ◌⊎◌, Bool, true, false, cond, if◌then◌else◌, List, set, slice_get, length, Option, Some, None, ap, refl, sym, subst, ◌∙◌, ⊎_elim, inl, inr, arith}
use Rattle.std.specs.Prelude.{nat_eq, nat_le}
use Rattle.std.proofs.lemmas.Bool.{cases_eq, cases_lt, true≢false}
use Rattle.std.proofs.lemmas.Bool.Decides.{nat_tests}
use Rattle.std.proofs.lemmas.Option.{same_Some}
use Rattle.law_common.proofs.Lists.{set_same, set_here, set_there, pushed}
use Rattle.law_driver.proofs.Common.{piece_next, waits_is, times_of}
use Rattle.usb_base.specs.declared.endpoints.EndCause.{EndCause}
use Rattle.usb_base.specs.declared.endpoints.EndCause.TheVariants as causes
use Rattle.usb_base.specs.declared.packets.EpKind.{EpKind}
use Rattle.usb_base.specs.declared.reports.What.{What}
use Rattle.usb_base.specs.declared.reports.What.TheVariants as lines
use Rattle.link_words.specs.declared.fields.ShortLink.{ShortLink}
use Rattle.link_words.specs.declared.kinds.QtdLink.TheVariants as qtd_links
use Rattle.link_words.specs.Links.{qtd_link_of, no_qtd}
use Rattle.qh_qtd.specs.declared.token.Token.{Token}
use Rattle.drv_table.specs.declared.content.Endpoint.{Endpoint}
use Rattle.drv_table.specs.declared.content.Transfer.{Transfer}
use Rattle.drv_table.specs.declared.content.QtdNote.{QtdNote}
use Rattle.drv_table.specs.declared.content.Sort.{Sort}
use Rattle.drv_table.specs.declared.content.Sort.TheVariants as sorts
use Rattle.drv_table.specs.declared.rows.DriverRow.TheVariants as rows
use Rattle.drv_table.specs.declared.rows.Found.{Found}
use Rattle.drv_table.specs.declared.rows.Found.TheVariants as founds
use Rattle.drv_table.specs.declared.content.Command.TheVariants as unfinished
use Rattle.drv_table.specs.DriverContent.{DriverContent}
use Rattle.drv_table.specs.Words.{to_qtd}
use Rattle.drv_table.specs.Harvests.{note_at, token_in, is_get, halt_of, moved_of, done_of, ends_by, found_in, end_of, is_stall, noted}
use Rattle.drv_table.specs.Parts.{Parts}
use Rattle.drv_table.specs.Harvesting.{served, moved_on, told_with, goes_on, after_end, harvested_as, after_harvest}
use Rattle.drv_table.specs.Rows.{after_driver_row}
use Rattle.law_driver.specs.run_owners.Due.{IsHarvestDue}
use Rattle.claims_driver.specs.Leaving.{HasOwners, owes}
use Rattle.claims_driver.specs.Owners.{note_in}
use Rattle.law_driver.specs.chained_transfers.Chains.{piece_at}
use Rattle.law_driver.specs.chained_transfers.AsynchronousTurns.{AsynchronousTakesTurns}
use Rattle.law_driver.specs.chained_transfers.Turns.{IsAtPlace}
use Rattle.law_driver.specs.chained_transfers.Out.{passed}
use Rattle.law_driver.proofs.lemmas.chained_transfers.Harvested.{note_same, not_served}
use Rattle.law_driver.proofs.lemmas.chained_transfers.Ways.{found_by, moves_queued}
use Rattle.law_driver_ring.proofs.lemmas.harvested_streams.Harvesting.{token_is_read}
use Rattle.law_structures.specs.lent_structures.Structures.{Element, StructureSets, Tells}
use Rattle.law_driver_ring.specs.fed_queues.Fed.{IsAlternate, IsPieceFed, unpublished_of, AreFed, sized}
use Rattle.law_driver_ring.specs.fed_queues.Places.{AreStillOut, IsMet}
use Rattle.law_queues.specs.released_queues.Fronts.{FrontsStand}
use Rattle.law_queues.proofs.lemmas.released_queues.Queues.{none_yet}
use Rattle.law_queues.proofs.lemmas.released_queues.Outs.{IsDropped}
use Rattle.law_queues.specs.mended_heads.Stalling.{IsStall}
use Rattle.law_queues.specs.standing_fronts.Along.{HarvestKeepsFronts}
use Rattle.law_queues.proofs.lemmas.standing_fronts.Harvested.{EndsThere, HarvestChanges, fronts_follow}
use Rattle.law_driver_ring.proofs.lemmas.fed_queues.Places.{stands_met}
use Rattle.law_driver.proofs.lemmas.chained_transfers.Holding.{stands_unreleased}
use Rattle.law_driver.proofs.lemmas.endpoint_lives.Lives.{none_told}

-- ---- what a token tells

pub record Ended (sort : Sort) (last : Bool) (t : Token) (what : What) : Type 0 where
  pub done : t.active ≡ false
  pub why : ((t.halted ≡ true) × (what ≡ halt_of t)) ⊎ ((t.halted ≡ false) × (ends_by sort last t.total ≡ true))

same_what : (n m : ℕ) (what other : What) → founds.Ended n what ≡ founds.Ended m other → what ≡ other
same_what n m what other is = cc

ended_by : (a h e : Bool) (k n : ℕ) (halt what : What) → cond a founds.Active (cond h (founds.Ended k halt) (done_of e k)) ≡ founds.Ended n what → (a ≡ false) × (((h ≡ true) × (what ≡ halt)) ⊎ ((h ≡ false) × (e ≡ true)))
ended_by true h e k n halt what is = absurd (cc)
ended_by false true e k n halt what is = (refl, inl (refl, sym (same_what k n halt what is)))
ended_by false false true k n halt what is = (refl, inr (refl, refl))
ended_by false false false k n halt what is = absurd (cc)

found_ended : (sort : Sort) (last : Bool) (note : QtdNote) (t : Token) (n : ℕ) (what : What) → found_in sort last note t ≡ founds.Ended n what → Ended sort last t what
found_ended sort last note t n what is =
    let both = ended_by t.active t.halted (ends_by sort last t.total) (moved_of note.told t.total) n (halt_of t) what is in
    record { done = both.0; why = both.1 }

-- a halt that is no stall ends each endpoint
abbrev halted_by : Bool → Bool → Bool → What
halted_by missed babble none = if missed then lines.Miss else if babble then lines.Halt causes.Babble else if none then lines.Halt causes.Error else lines.Halt causes.Stall

halt_by : (kind : EpKind) (missed babble none : Bool) → end_of kind (halted_by missed babble none) ≡ None → is_stall (halted_by missed babble none) ≡ false → ⊥
halt_by kind true babble none is stall = cc
halt_by kind false true none is stall = cc
halt_by kind false false true is stall = cc
halt_by kind false false false is stall = true≢false stall

halt_ends : (kind : EpKind) (t : Token) → end_of kind (halt_of t) ≡ None → is_stall (halt_of t) ≡ false → ⊥
halt_ends kind t is stall = halt_by kind t.missed t.babble (nat_eq t.cerr 0) is stall

is_unstalled : (kind : EpKind) (found : Found) (n : ℕ) (what : What) → (IsStall kind found → ⊥) → found ≡ founds.Ended n what → end_of kind what ≡ None → is_stall what ≡ false
is_unstalled kind found n what unstalled is none = by (is_stall what) refl
  where
    by : (b : Bool) → is_stall what ≡ b → is_stall what ≡ false
    by false off = off
    by true on = absurd (unstalled (subst (IsStall kind) (sym is) (on, none)))

-- ---- where the last one leads

no_alternate : (short : Bool) (alternate next : ShortLink) (to : ℕ) → alternate ≡ no_qtd → next ≡ to_qtd to → qtd_link_of (if short && not alternate.t then alternate else next) ≡ qtd_links.To (32 * to)
no_alternate true alternate next to is last = ap (λ (l : ShortLink). qtd_link_of (if true && not l.t then l else next)) is ∙ ap qtd_link_of last
no_alternate false alternate next to is last = ap qtd_link_of last

-- both lead there
either_way : (short : Bool) (alternate next : ShortLink) (on to : ℕ) → next ≡ to_qtd on → alternate ≡ to_qtd on → next ≡ to_qtd to → qtd_link_of (if short && not alternate.t then alternate else next) ≡ qtd_links.To (32 * to)
either_way true alternate next on to at also last = ap (λ (l : ShortLink). qtd_link_of (if true && not l.t then l else next)) also ∙ ap qtd_link_of (sym at ∙ last)
either_way false alternate next on to at also last = ap qtd_link_of last

pointer_by : (sort : Sort) (short : Bool) (alternate next : ShortLink) (on to : ℕ) → next ≡ to_qtd on → IsAlternate sort alternate on to → ((is_get sort && short) ≡ false → next ≡ to_qtd to)
    → qtd_link_of (if short && not alternate.t then alternate else next) ≡ qtd_links.To (32 * to)
pointer_by sorts.Get true alternate next on to at is last =
    ap (λ (l : ShortLink). qtd_link_of (if true && not l.t then l else next)) is
pointer_by sorts.Get false alternate next on to at is last = ap qtd_link_of (last refl)
pointer_by sorts.Request short alternate next on to at is last =
    ⊎_elim (λ (none : alternate ≡ no_qtd). no_alternate short alternate next to none (last refl)) (λ (also : alternate ≡ to_qtd on). either_way short alternate next on to at also (last refl)) is
pointer_by _ short alternate next on to at is last = no_alternate short alternate next to is (last refl)

short_or_last : (sort : Sort) (last : Bool) (n : ℕ) → ends_by sort last n ≡ true → (is_get sort && not (n == 0)) ≡ false → last ≡ true
short_or_last sort true n ends off = refl
short_or_last sort false n ends off = sym off ∙ ends

-- ---- contents

ends_set : (es : List Endpoint) (e i : ℕ) (x z c : Endpoint) → slice_get es e ≡ Some x → z.queue ≡ x.queue → z.linked ≡ x.linked → z.gone ≡ x.gone → slice_get (set es e z) i ≡ Some c
    → (b : Endpoint) × (slice_get es i ≡ Some b) × (c.queue ≡ b.queue) × (c.linked ≡ b.linked) × (c.gone ≡ b.gone)
ends_set es e i x z c here queue linked gone there =
    ⊎_elim (λ (same : i ≡ e).
    let is : c ≡ z = same_Some c z (sym there ∙ ap (slice_get (set es e z)) same ∙ set_here es e x z here) in
    (x, ap (slice_get es) same ∙ here, ap (λ (b : Endpoint). b.queue) is ∙ queue, ap (λ (b : Endpoint). b.linked) is ∙ linked, ap (λ (b : Endpoint). b.gone) is ∙ gone))
    (λ (differs : i ≢ e). (c, sym (set_there es e i z differs) ∙ there, refl, refl, refl)) (cases_eq i e)

module _ (p : Parts) (e t : ℕ) (found : Found) (parts : StructureSets) (order : ℕ → ℕ → ℕ) (out : ℕ → List ℕ) (due : IsHarvestDue p e t found) (owners : HasOwners p.driver) (turns : AsynchronousTakesTurns p.driver) (unstalled : IsStall due.endpoint.desc.kind found → ⊥) (tells : Tells p.memory parts) (fed : AreFed p.driver parts) where
  abbrev d : DriverContent
  d = p.driver

  abbrev x : Endpoint
  x = due.endpoint

  abbrev y : Transfer
  y = due.transfer

  y_is : (y.endpoint ≡ e) × (y.reported ≡ false)
  y_is = waits_is e y due.waits

  its_end : slice_get d.endpoints y.endpoint ≡ Some x
  its_end = ap (slice_get d.endpoints) y_is.0 ∙ due.here

  held : y.released ≡ false
  held = stands_unreleased d t y x (turns.asynchronous.endpoints e x due.here) turns.turns due.there its_end (none_told x due.goes_on) y_is.1

  -- its endpoint goes on, so the walk meets it
  met : (c : Endpoint) → slice_get d.endpoints y.endpoint ≡ Some c → IsMet d y.endpoint c
  met c at =
      subst (λ (z : Endpoint). IsMet d y.endpoint z) (same_Some x c (sym its_end ∙ at))
      (stands_met d y.endpoint x (turns.asynchronous.endpoints e x due.here) due.goes_on (λ is. no_open (sym due.idle ∙ is)))
    where
      no_open : None ≡ Some (unfinished.Open due.endpoint.queue) → ⊥
      no_open bad = cc

  -- it isn't to be given back yet
  not_owed : (i u : ℕ) → slice_get d.harvested i ≡ Some u → u ≢ t
  not_owed i u at same =
      let some = times_of d.harvested i t (at ∙ ap Some same) in
      let most = owners.orderly.harvests t in
      let none : owes (slice_get d.transfers t) ≡ 0 = ap owes due.there ∙ ap (λ (b : Bool). if b && not y.released then 1 else 0) y_is.1 in
      omega (arith, some, most, none)

  kept : (i u : ℕ) → slice_get d.harvested i ≡ Some u → (u ≢ t) × (slice_get d.harvested i ≡ Some u)
  kept i u at = (not_owed i u at, at)

  same_ends : (i : ℕ) (c : Endpoint) → slice_get d.endpoints i ≡ Some c → (b : Endpoint) × (slice_get d.endpoints i ≡ Some b) × (c.queue ≡ b.queue) × (c.linked ≡ b.linked) × (c.gone ≡ b.gone)
  same_ends i c there = (c, there, refl, refl, refl)

  -- ---- by what was found

  active_changes : HarvestChanges d (served d e) parts t y y
  active_changes = record {
    idle = due.idle;
    idle_now = due.idle;
    notes = λ b. refl;
    ends = same_ends;
    waiting = refl;
    rung = refl;
    met = met;
    here = due.there;
    held = held;
    waits = y_is.1;
    transfers = sym (set_same d.transfers t y due.there);
    endpoint = refl;
    first = refl;
    qtds = refl;
    released = refl;
    fewer = λ a dropped. dropped;
    harvested = λ i u at. inl (kept i u at);
  }

  abbrev moved_transfer : Transfer
  moved_transfer = record y { place = (note_at d.notes y.place).next; left = y.left - 1 }

  moved_changes : (n : ℕ) → HarvestChanges d (served (moved_on d t y n) e) parts t y moved_transfer
  moved_changes n = record {
    idle = due.idle;
    idle_now = due.idle;
    notes = λ b. note_same d.notes y.place n b;
    ends = same_ends;
    waiting = refl;
    rung = refl;
    met = met;
    here = due.there;
    held = held;
    waits = y_is.1;
    transfers = refl;
    endpoint = refl;
    first = refl;
    qtds = refl;
    released = refl;
    fewer = λ a dropped.
        let from = dropped.from in
        let below = dropped.below in
        record { number = suc dropped.number; from = omega (arith, from); below = omega (arith, below); at = dropped.at };
    harvested = λ i u at. inl (kept i u at);
  }

  abbrev told_transfer : Transfer
  told_transfer = record y { reported = true }

  told_fewer : (a : ℕ) → IsDropped (note_in d.notes) y.place (0 + passed true) y.left a → IsDropped (note_in d.notes) y.place (0 + passed y.reported) y.left a
  told_fewer a dropped =
      let none : passed y.reported ≡ 0 = ap passed y_is.1 in
      record { number = dropped.number; from = omega (arith, none); below = dropped.below; at = dropped.at }

  ended_changes : (n : ℕ) (what : What) (cause : EndCause) → HarvestChanges d (served (after_end (told_with d p.memory t y what x.desc.name (noted d.notes y.place n)) e t x (is_stall what) (Some cause)) e) parts t y told_transfer
  ended_changes n what cause = record {
    idle = due.idle;
    idle_now = due.idle;
    notes = λ b. note_same d.notes y.place n b;
    ends = λ i c there. ends_set d.endpoints e i x (record x { ended = Some cause }) c due.here refl refl refl there;
    waiting = refl;
    rung = refl;
    met = met;
    here = due.there;
    held = held;
    waits = y_is.1;
    transfers = refl;
    endpoint = refl;
    first = refl;
    qtds = refl;
    released = refl;
    fewer = told_fewer;
    harvested = λ i u at. inl (kept i u at);
  }

  -- the qTD that was read leads to the end: a short one of a get by its alternate
  abbrev token : Token
  token = token_in p.memory y.place

  at_place : IsAtPlace (note_in d.notes) y
  at_place = turns.turns.places t y due.there held

  ends_there : (what : What) → end_of x.desc.kind what ≡ None → is_stall what ≡ false → Ended y.sort (nat_le y.left 1) token what → (c : Endpoint) → slice_get d.endpoints y.endpoint ≡ Some c → EndsThere d (parts (32 * c.queue)) y
  ends_there what none stall ended c at =
      let i : ℕ = y.qtds - y.left in
      let some = at_place.some in
      let most = at_place.most in
      let yet : unpublished_of d t y ≡ 0 = none_yet d.command d.made y.qtds (nat_eq (suc t) (length d.transfers)) due.idle in
      let f : IsPieceFed y.sort (parts (32 * c.queue)) (sized y.sort i (note_at d.notes (piece_at (note_in d.notes) y.first i))) (piece_at (note_in d.notes) y.first i) (piece_at (note_in d.notes) y.first y.qtds) = fed.pieces t i y c due.there held at (omega (arith, yet)) (omega (arith, some, most)) in
      let place_is : y.place ≡ piece_at (note_in d.notes) y.first i = at_place.place in
      let here : parts (32 * c.queue) (32 * y.place) ≡ Some (Element f.qtd) = ap (λ (b : ℕ). parts (32 * c.queue) (32 * b)) place_is ∙ f.here in
      let read : token ≡ f.qtd.token = token_is_read p.memory parts (32 * c.queue) y.place f.qtd tells here in
      let right : (token.halted ≡ false) × (ends_by y.sort (nat_le y.left 1) token.total ≡ true) =
      ⊎_elim (λ (halt : (token.halted ≡ true) × (what ≡ halt_of token)).
      absurd (halt_ends x.desc.kind token (ap (end_of x.desc.kind) (sym halt.1) ∙ none) (ap is_stall (sym halt.1) ∙ stall)))
      (λ (goes : (token.halted ≡ false) × (ends_by y.sort (nat_le y.left 1) token.total ≡ true)). goes) ended.why in
      record {
        qtd = f.qtd;
        here = here;
        done = ap (λ (k : Token). k.active) (sym read) ∙ ended.done;
        goes_on = ap (λ (k : Token). k.halted) (sym read) ∙ right.0;
        leads = pointer_by y.sort (not (f.qtd.token.total == 0)) f.qtd.alternate f.qtd.next (note_at d.notes (piece_at (note_in d.notes) y.first i)).next (piece_at (note_in d.notes) y.first y.qtds) f.noted.next f.noted.alternate
            (λ off.
            let last : nat_le y.left 1 ≡ true = short_or_last y.sort (nat_le y.left 1) token.total right.1 (ap (λ (k : Token). is_get y.sort && not (k.total == 0)) read ∙ off) in
            let one : y.left ≤ 1 = few_by last in
            f.noted.next ∙ ap to_qtd (sym (piece_next (note_in d.notes) y.first i)) ∙ ap (λ (j : ℕ). to_qtd (piece_at (note_in d.notes) y.first j)) (let same : suc i ≡ y.qtds = omega (arith, one, some, most) in same));
      }
    where
      few_by : nat_le y.left 1 ≡ true → y.left ≤ 1
      few_by is = ⊎_elim (λ (more : 1 < y.left). absurd (true≢false (sym is ∙ grind (arith, nat_tests)))) (λ (few : y.left ≤ 1). few) (cases_lt 1 y.left)

  done_changes : (n : ℕ) (what : What) → end_of x.desc.kind what ≡ None → is_stall what ≡ false → Ended y.sort (nat_le y.left 1) token what → HarvestChanges d (served (goes_on (told_with d p.memory t y what x.desc.name (noted d.notes y.place n)) e t x) e) parts t y told_transfer
  done_changes n what none stall ended = record {
    idle = due.idle;
    idle_now = due.idle;
    notes = λ b. note_same d.notes y.place n b;
    ends = λ i c there. ends_set d.endpoints e i x (record x { next = _ }) c due.here refl refl refl there;
    waiting = refl;
    rung = refl;
    met = met;
    here = due.there;
    held = held;
    waits = y_is.1;
    transfers = refl;
    endpoint = refl;
    first = refl;
    qtds = refl;
    released = refl;
    fewer = told_fewer;
    harvested = λ i u at.
        ⊎_elim (λ (old : slice_get d.harvested i ≡ Some u). inl (kept i u old)) (λ (new : u ≡ t). inr (new, refl, ends_there what none stall ended)) (pushed d.harvested t i u at);
  }

  -- ---- the row

  row_is : after_driver_row (rows.Harvest e t found) p ≡ record p { driver = served (harvested_as d p.memory e t x y found) e }
  row_is =
      ap (λ (o : Option Endpoint). record p { driver = after_harvest d p.memory e t found o (slice_get d.transfers t) }) due.here
      ∙ ap (λ (o : Option Transfer). record p { driver = after_harvest d p.memory e t found (Some x) o }) due.there
      ∙ ap (λ (b : Bool). record p { driver = if b then served (harvested_as d p.memory e t x y found) e else d }) due.waits

  found_is : found ≡ found_in y.sort (nat_le y.left 1) (note_at d.notes y.place) token
  found_is = due.tells ∙ found_by d p.memory y y.sort (moves_queued d y (turns.asynchronous.moves t y due.there))

  -- what it leaves of any fact that a harvest leaves
  by_found : (P : DriverContent → Type 0) → ((f : DriverContent) (z : Transfer) → HarvestChanges d f parts t y z → P f) → (g : Found) → found ≡ g → P (served (harvested_as d p.memory e t x y g) e)
  by_found P each founds.Active is = each (served d e) y active_changes
  by_found P each (founds.Moved n) is = each (served (moved_on d t y n) e) moved_transfer (moved_changes n)
  by_found P each (founds.Served errors) is = absurd (not_served y.sort (nat_le y.left 1) (note_at d.notes y.place) token found found_is errors is)
  by_found P each (founds.Ended n what) is = by_end (end_of x.desc.kind what) refl
    where
      by_end : (o : Option EndCause) → end_of x.desc.kind what ≡ o → P (served (after_end (told_with d p.memory t y what x.desc.name (noted d.notes y.place n)) e t x (is_stall what) o) e)
      by_end (Some cause) end_is = each (served (after_end (told_with d p.memory t y what x.desc.name (noted d.notes y.place n)) e t x (is_stall what) (Some cause)) e) told_transfer (ended_changes n what cause)
      by_end None end_is =
          let stall : is_stall what ≡ false = is_unstalled x.desc.kind found n what unstalled is end_is in
          let f0 : DriverContent = told_with d p.memory t y what x.desc.name (noted d.notes y.place n) in
          subst (λ (b : Bool). P (served (after_end f0 e t x b None) e)) (sym stall)
          (each (served (goes_on f0 e t x) e) told_transfer (done_changes n what end_is stall (found_ended y.sort (nat_le y.left 1) (note_at d.notes y.place) token n what (sym found_is ∙ is))))

pub harvest_keeps_fronts : HarvestKeepsFronts
harvest_keeps_fronts p e t found parts order out later due owners turns unstalled tells fed rise still still_now stand =
    subst (λ (q : Parts). AreStillOut q.driver later → FrontsStand q.driver parts order later) (sym (row_is p e t found parts order out due owners turns unstalled tells fed))
    (by_found p e t found parts order out due owners turns unstalled tells fed (λ (f : DriverContent). AreStillOut f later → FrontsStand f parts order later)
    (λ f z changes now. fronts_follow p.driver f parts order out later t due.transfer z changes turns fed rise still now stand) found refl)
    still_now
