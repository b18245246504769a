-- What leaves a queue as it is, but for links of queue heads, leaves how far it has come.
use Rattle.std.proofs.Common.{◌≡◌, ℕ, ◌<◌, ◌⊎◌, Bool, true, false, if◌then◌else◌, Option, Some, ap, refl, sym, subst, ◌∙◌, ⊎_elim, inl, inr, arith}
use Rattle.std.proofs.lemmas.Bool.{false≢true}
use Rattle.law_devices.proofs.Common.{pointer_still}
use Rattle.link_words.specs.declared.fields.ShortLink.{ShortLink}
use Rattle.link_words.specs.Links.{qtd_link_of}
use Rattle.qh_qtd.specs.declared.qtd.Qtd.{Qtd}
use Rattle.qh_qtd.specs.declared.queue_head.Qh.{Qh}
use Rattle.qh_qtd.specs.declared.token.Token.{Token}
use Rattle.hc_copy.specs.Visits.{next_pointer}
use Rattle.drv_table.specs.declared.content.Command.{Command}
use Rattle.drv_table.specs.declared.content.Command.TheVariants as unfinished
use Rattle.drv_table.specs.DriverContent.{DriverContent}
use Rattle.law_structures.specs.lent_structures.Structures.{QueueHead, Element, Structures}
use Rattle.law_ring.specs.Front.{SameRest, HadRest}
use Rattle.law_driver_ring.specs.fed_queues.Places.{IsLast}
use Rattle.law_world.specs.memory.SameQueues.{IsRelinked, IsSameQueue}
use Rattle.law_reports.specs.queues.Onward.{LeadsOnward, place_at, place_of, IsUnpublished, StandsOnward}
use Rattle.law_reports.proofs.lemmas.queues.Passing.{last_fewer, skipped_still}

abbrev pub stores : Option Command → Bool
stores (Some (unfinished.Publish b words)) = true
stores _ = false

-- the overlay is as it was, no qTD is new, and one that is done stands still
pub record IsSpared (n : ℕ) (part now : Structures) : Type 0 where
  pub head : (r : Qh) → now n ≡ Some (QueueHead r) → HadRest part n r
  pub were : (a : ℕ) (u : Qtd) → now a ≡ Some (Element u) → part a ≡ Some (Element u)
  pub done : (a : ℕ) (u : Qtd) → part a ≡ Some (Element u) → u.token.active ≡ false → now a ≡ Some (Element u)

pub spared_itself : (n : ℕ) (part : Structures) → IsSpared n part part
spared_itself n part = record {
  head = λ r here. record { queue = r; here = here; rest = record { token = refl; current = refl; next = refl; alternate = refl } };
  were = λ a u here. here;
  done = λ a u here off. here;
}

pub spared_same : (n : ℕ) (part now : Structures) → now ≡ part → IsSpared n part now
spared_same n part now same = subst (IsSpared n part) (sym same) (spared_itself n part)

pub spared_relinked : (n : ℕ) (part now : Structures) → IsSameQueue n part now → IsSpared n part now
spared_relinked n part now k = record {
  head = λ r here.
      let was : IsRelinked part n r = k.head_was r here in
      record {
        queue = record r { link = was.link };
        here = was.here;
        rest =
            record { token = refl; current = refl; next = refl; alternate = refl };
      };
  were = λ a u here. k.elements_were a u here;
  done = λ a u here off. k.elements a u here;
}

-- ---- where it stands

place_same : (order : ℕ → ℕ) (q r : Qh) → SameRest q r → place_of order r ≡ place_of order q
place_same order q r same =
    ap (λ (t : Token). if t.active then order r.current else place_at order (qtd_link_of (next_pointer r))) same.token
    ∙ ap (λ (c : ℕ). if q.token.active then order c else place_at order (qtd_link_of (next_pointer r))) same.current
    ∙ ap (λ (l : ShortLink). if q.token.active then order q.current else place_at order (qtd_link_of l)) (pointer_still q r same)

-- ---- one queue

pub spared_links : (n : ℕ) (part now : Structures) → IsSpared n part now → LeadsOnward n part → LeadsOnward n now
spared_links n part now s k = record {
  next = λ a u here on. k.next a u (s.were a u here) on;
  rest = λ r here off idle.
      let had : HadRest part n r = s.head r here in
      ap (λ (l : ShortLink). l.t) (pointer_still had.queue r had.rest)
      ∙ k.rest had.queue had.here (ap (λ (t : Token). t.halted) (sym had.rest.token) ∙ off)
      (ap (λ (t : Token). t.active) (sym had.rest.token) ∙ idle);
}

-- where a qTD that was being stored is being stored yet, or is the last of its queue
pub spared_stands : (order : ℕ → ℕ) (d f : DriverContent) (n : ℕ) (part now : Structures) → IsSpared n part now
    → ((a : ℕ) → IsUnpublished d n a → IsUnpublished f n a)
    → ((q : Qh) → part n ≡ Some (QueueHead q) → q.token.halted ≡ false → StandsOnward order d n part q)
    → (r : Qh) → now n ≡ Some (QueueHead r) → r.token.halted ≡ false → StandsOnward order f n now r
spared_stands order d f n part now s un k r here off =
    let had : HadRest part n r = s.head r here in
    let place : place_of order r ≡ place_of order had.queue = place_same order had.queue r had.rest in
    let old : StandsOnward order d n part had.queue = k had.queue had.here (ap (λ (t : Token). t.halted) (sym had.rest.token) ∙ off) in
    record {
      active = λ a u there on before.
          skipped_still order part now a s.done (old.active a u (s.were a u there) on (omega (arith, before, place)));
      done = λ a u there idle.
          ⊎_elim (λ (before : order a < place_of order had.queue). inl (omega (arith, before, place)))
          (λ (rest : IsLast order part a ⊎ IsUnpublished d n a).
          ⊎_elim (λ (last : IsLast order part a). inr (inl (last_fewer order part now a (λ b v found. (v, s.were b v found)) last)))
          (λ (is : IsUnpublished d n a). inr (inr (un a is))) rest) (old.done a u (s.were a u there) idle);
    }

-- ---- nothing is being stored

pub none_stored : (d : DriverContent) (o : Option Command) (n a : ℕ) → d.command ≡ o → stores o ≡ false → IsUnpublished d n a → ⊥
none_stored d o n a is none un = false≢true (sym none ∙ ap stores (sym is ∙ un.command))
