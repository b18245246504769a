-- One queue head goes onward with each event of its queue.
use Rattle.std.proofs.Common.{◌≡◌, ◌≢◌, ℕ, ◌<◌, ◌≤◌, ◌⊎◌, ◌==◌, ◌&&◌, not, Bool, true, false, if◌then◌else◌, Some, ap, refl, sym, subst, ◌∙◌, ⊎_elim, inl, inr, arith}
use Rattle.std.proofs.lemmas.Bool.{cases_eq, cases_lt, true≢false}
use Rattle.law_ring.proofs.Common.{pointer_rises, same_pointer}
use Rattle.link_words.specs.declared.fields.ShortLink.{ShortLink}
use Rattle.link_words.specs.declared.kinds.QtdLink.TheVariants as qtd_links
use Rattle.link_words.specs.Links.{qtd_link_of}
use Rattle.qh_qtd.specs.declared.qtd.Qtd.{Qtd}
use Rattle.qh_qtd.specs.declared.queue_head.Qh.{Qh}
use Rattle.hc_copy.specs.Visits.{next_pointer}
use Rattle.drv_table.specs.DriverContent.{DriverContent}
use Rattle.law_structures.specs.lent_structures.Structures.{QueueHead, Element, Structures}
use Rattle.law_structures.proofs.lemmas.lent_structures.Altering.{found_queue, found_element}
use Rattle.law_ring.specs.Front.{own_pointer, LinksRise}
use Rattle.law_driver_ring.specs.fed_queues.Places.{IsLast}
use Rattle.law_frames.proofs.lemmas.framed_fronts.Queues.{left_by, Advances, Settles, QueueEvent, stays, advances, settles}
use Rattle.law_reports.specs.queues.Onward.{LeadsOnward, place_at, place_of, IsSkipped, IsUnpublished, StandsOnward}

-- ---- places

pub place_works : (order : ℕ → ℕ) (q : Qh) → q.token.active ≡ true → place_of order q ≡ order q.current
place_works order q on = ap (λ (b : Bool). if b then order q.current else place_at order (qtd_link_of (next_pointer q))) on

pub place_rests : (order : ℕ → ℕ) (q : Qh) → q.token.active ≡ false → place_of order q ≡ place_at order (qtd_link_of (next_pointer q))
place_rests order q off = ap (λ (b : Bool). if b then order q.current else place_at order (qtd_link_of (next_pointer q))) off

pub place_leads : (order : ℕ → ℕ) (q : Qh) (b : ℕ) → q.token.active ≡ false → qtd_link_of (next_pointer q) ≡ qtd_links.To b
    → place_of order q ≡ order b
place_leads order q b off leads = place_rests order q off ∙ ap (place_at order) leads

-- a link that doesn't end leads to its address
pub leads_to : (l : ShortLink) → l.t ≡ false → qtd_link_of l ≡ qtd_links.To l.address
leads_to l on = ap (λ (b : Bool). if b then qtd_links.End else qtd_links.To l.address) on

pub leads_on : (l : ShortLink) (b : ℕ) → qtd_link_of l ≡ qtd_links.To b → l.t ≡ false
leads_on l b leads = by l.t refl
  where
    by : (c : Bool) → l.t ≡ c → c ≡ false
    by false is = refl
    by true is =
        let bad : qtd_links.End ≡ qtd_links.To b =
        sym (ap (λ (c : Bool). if c then qtd_links.End else qtd_links.To l.address) is) ∙ leads in absurd (cc)

-- an alternate is followed only where there is one
followed : (short none : Bool) (next alternate : ShortLink) → alternate.t ≡ none → next.t ≡ false
    → (if short && not none then alternate else next).t ≡ false
followed true false next alternate is on = is
followed true true next alternate is on = on
followed false none next alternate is on = on

-- ---- the links

module _ (n : ℕ) (part now : Structures) (k : LeadsOnward n part) where
  advanced_links : Advances n part now → LeadsOnward n now
  advanced_links v = record {
    next = λ a u here on. k.next a u (v.before a u here) on;
    rest = λ q here off idle. absurd (true≢false (sym v.works
        ∙ ap (λ (r : Qh). r.token.active) (found_queue (now n) v.new q v.head_now here) ∙ idle));
  }

  settled_links : Settles n part now → LeadsOnward n now
  settled_links v =
      let t_next : v.element.next.t ≡ false = k.next v.queue.current v.element v.there v.published in
      record {
        next = λ a u here on.
            ⊎_elim
            (λ (same : a ≡ v.queue.current).
            let is : left_by v.new v.element ≡ u = found_element (now a) (left_by v.new v.element) u (ap now same ∙ v.written) here in
            ap (λ (r : Qtd). r.next.t) (sym is) ∙ left_next v.new.token.active refl ∙ t_next)
            (λ (differs : a ≢ v.queue.current). k.next a u (v.before a u here differs) on) (cases_eq a v.queue.current);
        rest = λ q here off idle.
            let same : v.new ≡ q = found_queue (now n) v.new q v.head_now here in
            ap (λ (r : Qh). (next_pointer r).t) (sym same)
            ∙ followed (not (v.new.token.total == 0)) v.new.alternate.t v.new.next v.new.alternate refl
            (ap (λ (l : ShortLink). l.t) v.next ∙ t_next);
      }
    where
      left_next : (b : Bool) → v.new.token.active ≡ b → (left_by v.new v.element).next.t ≡ v.element.next.t
      left_next true is = ap (λ (c : Bool). (if c then v.element else record v.element { token = v.new.token }).next.t) is
      left_next false is = ap (λ (c : Bool). (if c then v.element else record v.element { token = v.new.token }).next.t) is

  pub event_links : QueueEvent n part now → LeadsOnward n now
  event_links (stays same) = subst (LeadsOnward n) (sym same) k
  event_links (advances v) = advanced_links v
  event_links (settles v) = settled_links v

-- ---- the last qTD

pub last_fewer : (order : ℕ → ℕ) (part now : Structures) (a : ℕ)
    → ((b : ℕ) (u : Qtd) → now b ≡ Some (Element u) → (t : Qtd) × (part b ≡ Some (Element t))) → IsLast order part a → IsLast order now a
last_fewer order part now a were last b u here differs = let w = were b u here in last b w.0 w.1 differs

-- ---- what was skipped

pub skipped_still : (order : ℕ → ℕ) (part now : Structures) (a : ℕ)
    → ((b : ℕ) (t : Qtd) → part b ≡ Some (Element t) → t.token.active ≡ false → now b ≡ Some (Element t)) → IsSkipped order part a
    → IsSkipped order now a
skipped_still order part now a still k = record {
  by = k.by;
  qtd = k.qtd;
  here = still k.by k.qtd k.here k.done;
  done = k.done;
  to = k.to;
  leads = k.leads;
  from = k.from;
  past = k.past;
}

module _ (order : ℕ → ℕ) (d : DriverContent) (n : ℕ) (part now : Structures) (rise : LinksRise order part) (links : LeadsOnward n part)
    (k : (q : Qh) → part n ≡ Some (QueueHead q) → q.token.halted ≡ false → StandsOnward order d n part q) where
  abbrev Stands : Type 0
  Stands = (q : Qh) → now n ≡ Some (QueueHead q) → q.token.halted ≡ false → StandsOnward order d n now q

  -- ---- a qTD is taken

  advanced_stands : Advances n part now → Stands
  advanced_stands v q here off =
      let same : v.new ≡ q = found_queue (now n) v.new q v.head_now here in
      let place : place_of order v.new ≡ place_of order v.queue =
      place_works order v.new v.works ∙ ap order v.current ∙ sym (place_leads order v.queue v.element v.idle v.leads) in
      let old : StandsOnward order d n part v.queue = k v.queue v.here v.goes_on in
      subst (StandsOnward order d n now) same (record {
        active = λ a u there on before.
            skipped_still order part now a (λ b t there off. v.still b t there)
            (old.active a u (v.before a u there) on (omega (arith, before, place)));
        done = λ a u there idle.
            ⊎_elim (λ (before : order a < place_of order v.queue). inl (omega (arith, before, place)))
            (λ (rest : IsLast order part a ⊎ IsUnpublished d n a).
            ⊎_elim (λ (last : IsLast order part a). inr (inl (last_fewer order part now a (λ b u found. (u, v.before b u found)) last)))
            (λ (un : IsUnpublished d n a). inr (inr un)) rest) (old.done a u (v.before a u there) idle);
      })

  -- ---- a transaction is written back

  module _ (v : Settles n part now) where
    abbrev c : ℕ
    c = v.queue.current

    old : StandsOnward order d n part v.queue
    old = k v.queue v.here v.goes_on

    place_old : place_of order v.queue ≡ order v.queue.current
    place_old = place_works order v.queue v.works

    -- whatever stands there stood there, in one state or another
    were : (b : ℕ) (u : Qtd) → now b ≡ Some (Element u) → (t : Qtd) × (part b ≡ Some (Element t))
    were b u found =
        ⊎_elim (λ (same : b ≡ v.queue.current). (v.element, ap part same ∙ v.there))
        (λ (differs : b ≢ v.queue.current). (u, v.before b u found differs)) (cases_eq b v.queue.current)

    done_still : (b : ℕ) (t : Qtd) → part b ≡ Some (Element t) → t.token.active ≡ false → now b ≡ Some (Element t)
    done_still b t there off =
        v.still b t there (λ same. true≢false (sym v.published
        ∙ ap (λ (r : Qtd). r.token.active) (found_element (part b) v.element t (ap part same ∙ v.there) there) ∙ off))

    rest_still : (a : ℕ) → IsLast order part a ⊎ IsUnpublished d n a → IsLast order now a ⊎ IsUnpublished d n a
    rest_still a = ⊎_elim (λ (last : IsLast order part a). inl (last_fewer order part now a were last))
        (λ (un : IsUnpublished d n a). inr un)

    -- it works on
    works_on : v.new.token.active ≡ true → StandsOnward order d n now v.new
    works_on on =
        let place : place_of order v.new ≡ order v.queue.current = place_works order v.new on ∙ ap order v.current in
        let same_one : now v.queue.current ≡ Some (Element v.element)
        = v.written ∙ ap (λ (b : Bool). Some (Element (if b then v.element else record v.element { token = v.new.token }))) on in
        record {
          active = λ a u there active before.
              let differs : a ≢ v.queue.current = λ same. let e = ap order same in omega (arith, before, place, e) in
              skipped_still order part now a done_still
              (old.active a u (v.before a u there differs) active (omega (arith, before, place, place_old)));
          done = λ a u there idle.
              let differs : a ≢ v.queue.current = λ same. true≢false (sym v.published
              ∙ ap (λ (r : Qtd). r.token.active) (found_element (now a) v.element u (ap now same ∙ same_one) there) ∙ idle) in
              ⊎_elim (λ (before : order a < place_of order v.queue). inl (omega (arith, before, place, place_old)))
              (λ (rest : IsLast order part a ⊎ IsUnpublished d n a). inr (rest_still a rest))
              (old.done a u (v.before a u there differs) idle);
        }

    -- the qTD is done
    ends : v.new.token.active ≡ false → StandsOnward order d n now v.new
    ends off =
        let ended : Qtd = record v.element { token = v.new.token } in
        let pointer : next_pointer v.new ≡ own_pointer ended = same_pointer v.new ended v.next v.alternate refl in
        let on : (next_pointer v.new).t ≡ false =
        followed (not (v.new.token.total == 0)) v.new.alternate.t v.new.next v.new.alternate refl
        (ap (λ (l : ShortLink). l.t) v.next ∙ links.next v.queue.current v.element v.there v.published) in
        let to : ℕ = (next_pointer v.new).address in
        let leads : qtd_link_of (next_pointer v.new) ≡ qtd_links.To to = leads_to (next_pointer v.new) on in
        let place : place_of order v.new ≡ order to = place_leads order v.new to off leads in
        let own : qtd_link_of (own_pointer ended) ≡ qtd_links.To to = ap qtd_link_of (sym pointer) ∙ leads in
        let past : order v.queue.current < order to =
        pointer_rises order part v.queue.current v.element
        (not (v.new.token.total == 0) && not v.element.alternate.t) to rise v.there own in
        let there_now : now v.queue.current ≡ Some (Element ended)
        = v.written ∙ ap (λ (b : Bool). Some (Element (if b then v.element else record v.element { token = v.new.token }))) off in
        record {
          active = λ a u there active before.
              let differs : a ≢ v.queue.current = λ same. true≢false (sym active
              ∙ ap (λ (r : Qtd). r.token.active) (found_element (now a) u ended there (ap now same ∙ there_now)) ∙ off) in
              ⊎_elim
              (λ (less : order a < order v.queue.current).
              skipped_still order part now a done_still
              (old.active a u (v.before a u there differs) active (omega (arith, less, place_old))))
              (λ (from : order v.queue.current ≤ order a). record {
                by = v.queue.current;
                qtd = ended;
                here = there_now;
                done = off;
                to = to;
                leads = own;
                from = from;
                past = omega (arith, before, place);
              })
              (cases_lt (order a) (order v.queue.current));
          done = λ a u there idle.
              ⊎_elim (λ (same : a ≡ v.queue.current). let e = ap order same in inl (omega (arith, e, past, place)))
              (λ (differs : a ≢ v.queue.current).
              ⊎_elim (λ (before : order a < place_of order v.queue). inl (omega (arith, before, place, place_old, past)))
              (λ (rest : IsLast order part a ⊎ IsUnpublished d n a). inr (rest_still a rest))
              (old.done a u (v.before a u there differs) idle))
              (cases_eq a v.queue.current);
        }

    settled_by : (b : Bool) → v.new.token.active ≡ b → StandsOnward order d n now v.new
    settled_by true on = works_on on
    settled_by false off = ends off

    settled_stands : Stands
    settled_stands q here off =
        subst (StandsOnward order d n now) (found_queue (now n) v.new q v.head_now here) (settled_by v.new.token.active refl)

  pub event_stands : QueueEvent n part now → Stands
  event_stands (stays same) =
      λ q here off. subst (λ (p : Structures). StandsOnward order d n p q) (sym same)
      (k q (ap (λ (p : Structures). p n) (sym same) ∙ here) off)
  event_stands (advances v) = advanced_stands v
  event_stands (settles v) = settled_stands v
