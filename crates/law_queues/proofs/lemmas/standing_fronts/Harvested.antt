-- A harvest leaves fronts: what was read stands behind its own, and what its short packet passed over was passed.
use Rattle.std.proofs.Common.{◌≡◌, ◌≢◌, ℕ, suc, ◌+◌, ◌-◌, ◌*◌, ◌<◌, ◌≤◌, ◌⊎◌, false, List, set, slice_get, length, Some, None, ap, refl, sym, subst, ◌∙◌, ⊎_elim, inl, inr, arith}
use Rattle.std.specs.Prelude.{nat_eq}
use Rattle.std.proofs.lemmas.Bool.{cases_eq}
use Rattle.std.proofs.lemmas.Option.{same_Some}
use Rattle.law_common.proofs.Lists.{set_here, set_there}
use Rattle.law_driver.proofs.Common.{piece_next}
use Rattle.law_queues.proofs.Common.{piece_more}
use Rattle.link_words.specs.declared.kinds.QtdLink.TheVariants as qtd_links
use Rattle.link_words.specs.Links.{qtd_link_of}
use Rattle.qh_qtd.specs.declared.qtd.Qtd.{Qtd}
use Rattle.drv_table.specs.declared.content.Command.TheVariants as unfinished
use Rattle.drv_table.specs.declared.content.Endpoint.{Endpoint}
use Rattle.drv_table.specs.declared.content.Transfer.{Transfer}
use Rattle.drv_table.specs.DriverContent.{DriverContent}
use Rattle.drv_table.specs.Harvests.{note_at}
use Rattle.claims_driver.specs.Owners.{NoteRuns, note_in}
use Rattle.law_driver.specs.chained_transfers.Chains.{piece_at}
use Rattle.law_driver.specs.chained_transfers.AsynchronousTurns.{AsynchronousTakesTurns}
use Rattle.law_driver.specs.chained_transfers.Turns.{IsAtPlace}
use Rattle.law_driver.specs.chained_transfers.Out.{passed, out_now}
use Rattle.law_driver.proofs.lemmas.chained_transfers.Chained.{piece_same}
use Rattle.law_structures.specs.lent_structures.Structures.{Element, Structures, StructureSets}
use Rattle.law_structures.proofs.lemmas.lent_structures.Altering.{found_element}
use Rattle.law_ring.specs.Order.{IsAmong}
use Rattle.law_ring.specs.Front.{own_pointer, IsPassed, HasFront}
use Rattle.law_driver_ring.specs.fed_queues.Fed.{IsPieceFed, unpublished_of, AreFed, sized}
use Rattle.law_driver_ring.specs.fed_queues.Places.{IsMet, AreStillOut, IsThere}
use Rattle.law_queues.specs.released_queues.Fronts.{piece_address, end_at, StandsAt, FrontsStand}
use Rattle.law_queues.proofs.lemmas.released_queues.Pieces.{rises_below}
use Rattle.law_queues.proofs.lemmas.released_queues.Queues.{none_yet}
use Rattle.law_queues.proofs.lemmas.released_queues.Outs.{out_plain, out_is, IsDropped, IsOutOf, out_in}
use Rattle.law_queues.specs.standing_fronts.Along.{LinksOfQueuesRise}
use Rattle.law_queues.proofs.lemmas.standing_fronts.Lists.{in_out, dropped_same}
use Rattle.law_driver.proofs.lemmas.endpoint_lives.Lives.{met_alike}

-- the qTD that was read last is done, and leads to the end of its transfer
pub record EndsThere (d : DriverContent) (part : Structures) (y : Transfer) : Type 0 where
  pub qtd : Qtd
  pub here : part (32 * y.place) ≡ Some (Element qtd)
  pub done : qtd.token.active ≡ false
  pub goes_on : qtd.token.halted ≡ false
  pub leads : qtd_link_of (own_pointer qtd) ≡ qtd_links.To (end_at d y)

-- what a harvest of transfer y changes of the content
pub record HarvestChanges (d f : DriverContent) (parts : StructureSets) (t : ℕ) (y z : Transfer) : Type 0 where
  pub idle : d.command ≡ None
  pub idle_now : f.command ≡ None
  pub notes : (b : ℕ) → note_in f.notes b ≡ note_in d.notes b
  pub ends : (i : ℕ) (c : Endpoint) → slice_get f.endpoints i ≡ Some c → (b : Endpoint) × (slice_get d.endpoints i ≡ Some b) × (c.queue ≡ b.queue) × (c.linked ≡ b.linked) × (c.gone ≡ b.gone)
  pub waiting : f.waiting ≡ d.waiting
  pub rung : f.rung ≡ d.rung
  pub met : (x : Endpoint) → slice_get d.endpoints y.endpoint ≡ Some x → IsMet d y.endpoint x
  pub here : slice_get d.transfers t ≡ Some y
  pub held : y.released ≡ false
  pub waits : y.reported ≡ false
  pub transfers : f.transfers ≡ set d.transfers t z
  pub endpoint : z.endpoint ≡ y.endpoint
  pub first : z.first ≡ y.first
  pub qtds : z.qtds ≡ y.qtds
  pub released : z.released ≡ y.released
  pub fewer : (a : ℕ) → IsDropped (note_in d.notes) z.place (0 + passed z.reported) z.left a → IsDropped (note_in d.notes) y.place (0 + passed y.reported) y.left a
  pub harvested : (i u : ℕ) → slice_get f.harvested i ≡ Some u
      → ((u ≢ t) × (slice_get d.harvested i ≡ Some u)) ⊎ ((u ≡ t) × (z.left ≡ y.left) × ((x : Endpoint) → slice_get d.endpoints y.endpoint ≡ Some x → EndsThere d (parts (32 * x.queue)) y))

module _ (d f : DriverContent) (parts : StructureSets) (order : ℕ → ℕ → ℕ) (out later : ℕ → List ℕ) (t : ℕ) (y z : Transfer) (k : HarvestChanges d f parts t y z) (turns : AsynchronousTakesTurns d) (fed : AreFed d parts) (rise : LinksOfQueuesRise d parts order) (still : AreStillOut d out) (still_now : AreStillOut f later) (stand : FrontsStand d parts order out) where
  abbrev note : ℕ → NoteRuns
  note = note_in d.notes

  none_some : (q : ℕ) → None ≡ Some (unfinished.Open q) → ⊥
  none_some q bad = cc

  there_was : (x : Endpoint) → x.gone ≡ false → IsThere d x
  there_was x kept = record { linked = λ is. none_some x.queue (sym k.idle ∙ is); kept = kept }

  there_now : (x : Endpoint) → x.gone ≡ false → IsThere f x
  there_now x kept = record { linked = λ is. none_some x.queue (sym k.idle_now ∙ is); kept = kept }

  which : (u : ℕ) (c : Transfer) → slice_get f.transfers u ≡ Some c → ((u ≡ t) × (c ≡ z)) ⊎ ((u ≢ t) × (slice_get d.transfers u ≡ Some c))
  which u c there =
      ⊎_elim (λ (same : u ≡ t). inl (same, same_Some c z (sym there ∙ ap (λ (ts : List Transfer). slice_get ts u) k.transfers ∙ ap (slice_get (set d.transfers t z)) same ∙ set_here d.transfers t y z k.here)))
      (λ (differs : u ≢ t). inr (differs, sym (ap (λ (ts : List Transfer). slice_get ts u) k.transfers ∙ set_there d.transfers t u z differs) ∙ there)) (cases_eq u t)

  -- ---- what is out was out

  was_out_of : (i a u : ℕ) (c : Transfer) → ((u ≡ t) × (c ≡ z)) ⊎ ((u ≢ t) × (slice_get d.transfers u ≡ Some c)) → IsOutOf (note_in f.notes) i c a → IsAmong a (out_plain note i d.transfers)
  was_out_of i a u c (inl both) is =
      let dropped = subst (λ (r : Transfer). IsDropped note r.place (0 + passed r.reported) r.left a) both.1 (dropped_same note (note_in f.notes) c.place (0 + passed c.reported) c.left a k.notes is.dropped) in
      in_out note i d.transfers t a y k.here (record { endpoint = sym k.endpoint ∙ ap (λ (r : Transfer). r.endpoint) (sym both.1) ∙ is.endpoint; held = k.held; dropped = k.fewer a dropped })
  was_out_of i a u c (inr other) is =
      in_out note i d.transfers u a c other.1 (record { endpoint = is.endpoint; held = is.held; dropped = dropped_same note (note_in f.notes) c.place (0 + passed c.reported) c.left a k.notes is.dropped })

  was_out : (i a : ℕ) → IsAmong a (out_now f i) → IsAmong a (out_now d i)
  was_out i a among =
      let o = out_in (note_in f.notes) i f.transfers a (subst (IsAmong a) (out_is f i k.idle_now) among) in
      subst (IsAmong a) (sym (out_is d i k.idle)) (was_out_of i a o.number o.transfer (which o.number o.transfer o.here) o.is)

  fewer_out : (i : ℕ) (c b : Endpoint) (a : ℕ) → slice_get f.endpoints i ≡ Some c → slice_get d.endpoints i ≡ Some b → c.queue ≡ b.queue → c.gone ≡ b.gone → c.gone ≡ false → IsAmong a (later (32 * c.queue)) → IsAmong a (out (32 * c.queue))
  fewer_out i c b a there before same gone kept among =
      subst (IsAmong a) (sym (still i b before (there_was b (sym gone ∙ kept))) ∙ ap (λ (q : ℕ). out (32 * q)) (sym same)) (was_out i a (subst (IsAmong a) (still_now i c there (there_now c kept)) among))

  -- ---- the transfer that ended

  at_place : IsAtPlace note y
  at_place = turns.turns.places t y k.here k.held

  address_is : (j : ℕ) → 32 * piece_at note y.place j ≡ piece_address d y (y.qtds - y.left + j)
  address_is j = ap (λ (c : ℕ). 32 * piece_at note c j) at_place.place
      ∙ ap (λ (c : ℕ). 32 * c) (piece_more note y.first (y.qtds - y.left) j)

  place_is : 32 * y.place ≡ piece_address d y (y.qtds - y.left)
  place_is = ap (λ (c : ℕ). 32 * c) at_place.place

  -- each of its qTDs from its place on is out
  is_out : (i : ℕ) → y.qtds - y.left ≤ i → i < y.qtds → IsAmong (piece_address d y i) (out_now d y.endpoint)
  is_out i from below =
      let most = at_place.most in
      let j : ℕ = i - (y.qtds - y.left) in
      let same : y.qtds - y.left + j ≡ i = omega (arith, from) in
      let none : passed y.reported ≡ 0 = ap passed k.waits in
      subst (IsAmong (piece_address d y i)) (sym (out_is d y.endpoint k.idle))
      (in_out note y.endpoint d.transfers t (piece_address d y i) y k.here
      (record {
        endpoint = refl;
        held = k.held;
        dropped = record { number = j; from = omega (arith, none); below = omega (arith, below, from, most); at = sym (address_is j ∙ ap (piece_address d y) same) };
      }))

  module _ (x : Endpoint) (at : slice_get d.endpoints y.endpoint ≡ Some x) where
    abbrev n : ℕ
    n = 32 * x.queue

    here_fed : (i : ℕ) → i < y.qtds → IsPieceFed y.sort (parts n) (sized y.sort i (note_at d.notes (piece_at note y.first i))) (piece_at note y.first i) (piece_at note y.first y.qtds)
    here_fed i below =
        let none : unpublished_of d t y ≡ 0 = none_yet d.command d.made y.qtds (nat_eq (suc t) (length d.transfers)) k.idle in
        fed.pieces t i y x k.here k.held at (omega (arith, none)) below

    step : (i : ℕ) → i < y.qtds → order n (piece_address d y i) < order n (piece_address d y (suc i))
    step i below =
        let g = here_fed i below in
        (rise y.endpoint x at (k.met x at)).next (piece_address d y i) g.qtd (piece_address d y (suc i)) g.here (ap qtd_link_of g.noted.next ∙ ap (λ (c : ℕ). qtd_links.To (32 * c)) (sym (piece_next note y.first i)))

    rises : (i j : ℕ) → i < j → j ≤ y.qtds → order n (piece_address d y i) < order n (piece_address d y j)
    rises i j less most = rises_below (λ (c : ℕ). order n (piece_address d y c)) i j less (λ c from below. step c (omega (arith, below, most)))

    among_out : (a : ℕ) → IsAmong a (out_now d y.endpoint) → IsAmong a (out n)
    among_out a among = subst (IsAmong a) (sym (still y.endpoint x at (k.met x at).there)) among

    abbrev place : ℕ
    place = y.qtds - y.left

    place_below : place < y.qtds
    place_below = let some = at_place.some in let most = at_place.most in omega (arith, some, most)

    ended_here : EndsThere d (parts n) y → (g : StandsAt d (parts n) (order n) (out n) y.endpoint x) → order n (end_at d y) ≤ g.front
    ended_here is g =
        let among : IsAmong (32 * y.place) (out n) = subst (λ (a : ℕ). IsAmong a (out n)) (sym place_is) (among_out (piece_address d y place) (is_out place (omega arith) place_below)) in
        let b = g.has.behind (32 * y.place) is.qtd among is.here is.done in
        let same : b.qtd ≡ is.qtd = found_element (parts n (32 * y.place)) b.qtd is.qtd b.here is.here in
        b.leads (end_at d y) (ap (λ (q : Qtd). q.token.halted) same ∙ is.goes_on) (ap (λ (q : Qtd). qtd_link_of (own_pointer q)) same ∙ is.leads)

    passed_here : EndsThere d (parts n) y → (g : StandsAt d (parts n) (order n) (out n) y.endpoint x) → (j : ℕ) → place < j → j < y.qtds → IsPassed (order n) g.front (parts n) (piece_address d y j)
    passed_here is g j from below =
        let first : IsAmong (32 * y.place) (out n) = subst (λ (a : ℕ). IsAmong a (out n)) (sym place_is) (among_out (piece_address d y place) (is_out place (omega arith) place_below)) in
        let second : IsAmong (piece_address d y j) (out n) = among_out (piece_address d y j) (is_out j (omega (arith, from)) below) in
        let q = here_fed j below in
        let last = rises j y.qtds below (omega arith) in
        let most = ended_here is g in
        let up = rises place j from (omega (arith, below)) in
        let start = ap (order n) place_is in
        record {
          qtd = q.qtd;
          here = q.here;
          published = g.has.passes (32 * y.place) (end_at d y) (piece_address d y j) is.qtd q.qtd first second is.here q.here
              (record { done = is.done; goes_on = is.goes_on; leads = is.leads; after = omega (arith, up, start); before = last });
          before = omega (arith, last, most);
        }

  -- ---- all endpoints

  same_address : (c : Transfer) (i : ℕ) → piece_address f c i ≡ piece_address d c i
  same_address c i = ap (λ (b : ℕ). 32 * b) (piece_same note (note_in f.notes) c.first i k.notes)

  z_address : (i : ℕ) → piece_address d z i ≡ piece_address d y i
  z_address i = ap (λ (b : ℕ). 32 * piece_at note b i) k.first

  front_less : (o : ℕ → ℕ) (front m : ℕ) (part : Structures) (xs ys : List ℕ) → ((a : ℕ) → IsAmong a ys → IsAmong a xs) → HasFront o front xs m part → HasFront o front ys m part
  front_less o front m part xs ys less has = record {
    queue = has.queue;
    behind = λ a q among there off. has.behind a q (less a among) there off;
    fresh = λ a q among there on. has.fresh a q (less a among) there on;
    passes = λ a b e q r among also there other over. has.passes a b e q r (less a among) (less e also) there other over;
  }

  -- what is known of a transfer that is to be given back
  ended_by : (i : ℕ) (b : Endpoint) → slice_get d.endpoints i ≡ Some b → (g : StandsAt d (parts (32 * b.queue)) (order (32 * b.queue)) (out (32 * b.queue)) i b) → (h u : ℕ) (c : Transfer) → c.endpoint ≡ i → c.released ≡ false
      → ((u ≢ t) × (slice_get d.harvested h ≡ Some u)) ⊎ ((u ≡ t) × (z.left ≡ y.left) × ((x : Endpoint) → slice_get d.endpoints y.endpoint ≡ Some x → EndsThere d (parts (32 * x.queue)) y))
      → ((u ≡ t) × (c ≡ z)) ⊎ ((u ≢ t) × (slice_get d.transfers u ≡ Some c))
      → (order (32 * b.queue) (end_at f c) ≤ g.front) × ((j : ℕ) → c.qtds - c.left < j → j < c.qtds → IsPassed (order (32 * b.queue)) g.front (parts (32 * b.queue)) (piece_address f c j))
  ended_by i b at g h u c same held (inl old) (inl this) = absurd (old.0 this.0)
  ended_by i b at g h u c same held (inl old) (inr other) =
      let most = g.ended h u c old.1 other.1 held same in (
        subst (λ (a : ℕ). order (32 * b.queue) a ≤ g.front) (sym (same_address c c.qtds)) most,
        λ j from below. subst (IsPassed (order (32 * b.queue)) g.front (parts (32 * b.queue))) (sym (same_address c j)) (g.passed h u j c old.1 other.1 held same from below),
      )
  ended_by i b at g h u c same held (inr new) (inr other) = absurd (other.0 new.0)
  ended_by i b at g h u c same held (inr new) (inl this) =
      let number : y.endpoint ≡ i = sym k.endpoint ∙ ap (λ (r : Transfer). r.endpoint) (sym this.1) ∙ same in
      let there : slice_get d.endpoints y.endpoint ≡ Some b = ap (slice_get d.endpoints) number ∙ at in
      let g_here : StandsAt d (parts (32 * b.queue)) (order (32 * b.queue)) (out (32 * b.queue)) y.endpoint b = subst (λ (j : ℕ). StandsAt d (parts (32 * b.queue)) (order (32 * b.queue)) (out (32 * b.queue)) j b) (sym number) g in
      let is = new.2 b there in
      let front_is : (j : ℕ) (e : j ≡ i) → (subst (λ (m : ℕ). StandsAt d (parts (32 * b.queue)) (order (32 * b.queue)) (out (32 * b.queue)) m b) (sym e) g).front ≡ g.front = λ j e. same_front i j e b g in
      let address : (j : ℕ) → piece_address f c j ≡ piece_address d y j = λ j. same_address c j ∙ ap (λ (r : Transfer). piece_address d r j) this.1 ∙ z_address j in
      let qtds_are : c.qtds ≡ y.qtds = ap (λ (r : Transfer). r.qtds) this.1 ∙ k.qtds in
      let left_is : c.left ≡ y.left = ap (λ (r : Transfer). r.left) this.1 ∙ new.1 in (
        subst (λ (a : ℕ). order (32 * b.queue) a ≤ g.front) (sym (ap (piece_address f c) qtds_are ∙ address y.qtds)) (subst (λ (m : ℕ). order (32 * b.queue) (end_at d y) ≤ m) (front_is y.endpoint number) (ended_here b there is g_here)),
        λ j from below.
            subst (IsPassed (order (32 * b.queue)) g.front (parts (32 * b.queue))) (sym (address j))
            (subst (λ (m : ℕ). IsPassed (order (32 * b.queue)) m (parts (32 * b.queue)) (piece_address d y j)) (front_is y.endpoint number) (passed_here b there is g_here j (omega (arith, from, qtds_are, left_is)) (omega (arith, below, qtds_are)))),
      )
    where
      same_front : (i j : ℕ) (e : j ≡ i) (b : Endpoint) (g : StandsAt d (parts (32 * b.queue)) (order (32 * b.queue)) (out (32 * b.queue)) i b) → (subst (λ (m : ℕ). StandsAt d (parts (32 * b.queue)) (order (32 * b.queue)) (out (32 * b.queue)) m b) (sym e) g).front ≡ g.front
      same_front i j e b g = refl

  pub fronts_follow : FrontsStand f parts order later
  fronts_follow i c there is =
      let was = k.ends i c there in
      let b : Endpoint = was.0 in
      let queue : c.queue ≡ b.queue = was.2 in
      let met : IsMet d i b = record { there = there_was b (sym was.4 ∙ is.there.kept); near = sym (met_alike d f i b c was.3 k.waiting k.rung) ∙ is.near } in
      let g = stand i b was.1 met in
      subst (λ (q : ℕ). StandsAt f (parts (32 * q)) (order (32 * q)) (later (32 * q)) i (record c { queue = q })) (sym queue)
      (record {
        front = g.front;
        has = front_less (order (32 * b.queue)) g.front (32 * b.queue) (parts (32 * b.queue)) (out (32 * b.queue)) (later (32 * b.queue))
            (λ a among. subst (λ (q : ℕ). IsAmong a (out (32 * q))) queue (fewer_out i c b a there was.1 queue was.4 is.there.kept (subst (λ (q : ℕ). IsAmong a (later (32 * q))) (sym queue) among))) g.has;
        ended = λ h u r at held_there held same. (ended_by i b was.1 g h u r same held (k.harvested h u at) (which u r held_there)).0;
        passed = λ h u j r at held_there held same from below. (ended_by i b was.1 g h u r same held (k.harvested h u at) (which u r held_there)).1 j from below;
      })
